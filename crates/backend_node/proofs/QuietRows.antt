-- Rows of a backend node that answer that nothing was done.
use Rattle.std.proofs.Common.{◌≡◌, ℕ, Bool, true, false, cond, List, [], ◌∷◌, length, refl, sym, ap, ◌∙◌, subst, arith, Option, Some, None, Result, Ok, Err}
use Rattle.std.specs.Prelude.{nat_lt, IfSome}
use Rattle.std.proofs.lemmas.Option.{slice_get_past}
use Rattle.aeg_base.specs.declared.names.End.{End}
use Rattle.aeg_base.specs.declared.names.Tier.{Tier}
use Rattle.aeg_base.specs.declared.names.Tier.TheVariants.{Mid}
use Rattle.log_model.specs.declared.turn.LogIdle.{LogIdle}
use Rattle.log_model.specs.declared.turn.Offering.{Offering}
use Rattle.log_model.specs.declared.turn.Offering.TheVariants.{NotLeader, NoPromises, InFlight, LogFull, Taken, Free}
use Rattle.log_model.specs.Log.{LogState, Turn, idles as idle_turn}
use Rattle.log_model.specs.Rows.{lead, offer, on_msg, wants}
use Rattle.log_values.specs.declared.any_value.AnyValue.{AnyValue}
use Rattle.frames.specs.declared.header.Header.{Header}
use Rattle.frames.specs.declared.header.Refused.{Refused}
use Rattle.frames.specs.declared.message.Msg.{Msg}
use Rattle.frames.specs.declared.message.Msg.TheVariants as msgs
use Rattle.tier_model.specs.declared.turn.Idle.{Idle}
use Rattle.tier_model.specs.declared.turn.Idle.TheVariants as why
use Rattle.frames.specs.Frames.{frame_of}
use Rattle.frames.specs.Headers.{end_index}
use Rattle.round_model.specs.Lists.{is_some}
use Rattle.round_model.specs.Numbered.{find}
use Rattle.round_model.specs.Service.{Backend}
use Rattle.round_model.specs.Shims.{copies_at, copy_of, rises_to, told_floor}
use Rattle.tier_model.specs.Moves.{Packet, Move, becomes, drops, idles, is_node_of, log_answer, says}
use Rattle.tier_model.specs.Back.{Back, answer_to, in_log, new_value, value_state, value_tells}
use Rattle.tier_model.specs.BackRows.{call_as, copied, leads, offers, offers_as, on_call, on_frame, on_settle, own_value}
use Rattle.node_log.specs.Quiet.{IsIdleTurn, IsQuietFrom, is_quiet}
use Rattle.node_log.specs.Received.{on_bytes, on_read, refuses}
use Rattle.node_log.proofs.Quiet.{message_idle, lead_idle, offer_none}
use Rattle.backend_node.proofs.Values.{new_value_is}

module _ {B : Type 0} (σ : Back B) where
  either : (c : Bool) (p q : Move (Back B)) → IsQuietFrom σ p → IsQuietFrom σ q → IsQuietFrom σ (cond c p q)
  either true p q k l = k
  either false p q k l = l

  idle : (cause : Idle) → IsQuietFrom σ (idles σ cause)
  idle cause = record { state = λ e. refl; facts = λ e. refl; sends = λ e. refl }

  dropped : (rule : ℕ) → IsQuietFrom σ (drops σ rule)
  dropped rule = record { state = λ e. refl; facts = λ e. refl; sends = λ e. refl }

  refused : (r : Refused) → IsQuietFrom σ (refuses σ r)
  refused r = record { state = λ e. refl; facts = λ e. refl; sends = λ e. refl }

  becoming : (new : Back B) → IsQuietFrom σ (becomes new)
  becoming new = record { state = λ e. absurd cc; facts = λ e. refl; sends = λ e. refl }

  saying : (sends : List Packet) → IsQuietFrom σ (says σ sends)
  saying sends = record { state = λ e. refl; facts = λ e. refl; sends = λ e. absurd cc }

-- TURNS OF THE LOG

quiet_turn : (log : LogState AnyValue) (turn : Turn AnyValue) → IsIdleTurn log turn → is_quiet (log_answer turn.idle) ≡ true
    → (reason : LogIdle) × (turn ≡ idle_turn log reason)
quiet_turn log turn k e = go turn.idle e k.nothing
  where
    go : (o : Option LogIdle) → is_quiet (log_answer o) ≡ true → IfSome o (λ reason. turn ≡ idle_turn log reason)
        → (reason : LogIdle) × (turn ≡ idle_turn log reason)
    go None e n = absurd cc
    go (Some reason) e n = (reason, n)

learns_none : (log : LogState AnyValue) → new_value log log ≡ None
learns_none log = new_value_is log log ∙ slice_get_past log.learned (length log.learned) (omega arith)

module _ {B : Type 0} (u : ℕ) (b : Backend B) (t : Tier) (x : ℕ) (σ : Back B) where
  turn_quiet : (turn : Turn AnyValue) → IsIdleTurn σ.log turn → IsQuietFrom σ (in_log u b t x σ turn)
  turn_quiet turn k = record {
    state = λ e. let q = quiet_turn σ.log turn k e in ap (λ z. (in_log u b t x σ z).state) q.1 ∙ ap (λ o. value_state b σ o) (learns_none σ.log);
    facts = λ e. let q = quiet_turn σ.log turn k e in ap (λ z. (in_log u b t x σ z).facts) q.1;
    sends = λ e. let q = quiet_turn σ.log turn k e in
        ap (λ z. (in_log u b t x σ z).sends) q.1 ∙ ap (λ o. value_tells u b t x σ o) (learns_none σ.log);
  }

  offer_quiet : IsQuietFrom σ (in_log u b t x σ (offer u x σ.log (own_value σ)))
  offer_quiet = turn_quiet (offer u x σ.log (own_value σ)) (record {
    nothing = subst (λ o. IfSome o (λ reason. offer u x σ.log (own_value σ) ≡ idle_turn σ.log reason)) (sym (offer_none u x σ.log (own_value σ))) tt;
  })

  pub leads_quiet : IsQuietFrom σ (leads u b t x σ)
  leads_quiet = turn_quiet (lead u x σ.log) (lead_idle u x σ.log)

  pub offers_quiet : IsQuietFrom σ (offers u b t x σ)
  offers_quiet = go (wants u σ.log)
    where
      go : (w : Offering) → IsQuietFrom σ (offers_as u b t x σ w)
      go NotLeader = idle σ why.NotLeader
      go (NoPromises have) = idle σ (why.NoPromises have)
      go (InFlight p) = idle σ (why.InFlight p)
      go LogFull = idle σ why.LogFull
      go Taken = offer_quiet
      go (Free p) = either σ (is_some (own_value σ)) _ _ offer_quiet (idle σ why.Nothing)

  -- FRAMES

  call_quiet : (s n : ℕ) (text : List ℕ) → IsQuietFrom σ (on_call t x σ s n text)
  call_quiet s n text = either σ (nat_lt n σ.shim.floor) _ _ (idle σ why.Nothing) (go (find σ.shim.kept n))
    where
      go : (o : Option ℕ) → IsQuietFrom σ (call_as t x σ s n text o)
      go None = either σ (is_some (copy_of (copies_at σ.shim n) s)) _ _ (idle σ why.Nothing) (becoming σ (copied σ s n text))
      go (Some code) = saying σ (answer_to t x n code s ∷ [])

  settle_quiet : (s g : ℕ) → IsQuietFrom σ (on_settle σ s g)
  settle_quiet s g = either σ (rises_to σ.shim s g) _ _ (becoming σ (record σ { shim = told_floor σ.shim s g })) (idle σ why.Nothing)

  frame_quiet : (from : End) (message : Msg) → IsQuietFrom σ (on_frame u b t x σ from message)
  frame_quiet from (msgs.Log p) = either σ (is_node_of u t from) _ _
      (turn_quiet (on_msg u σ.log (end_index from) p) (message_idle u (end_index from) σ.log p)) (dropped σ 7)
  frame_quiet from (msgs.Call n text) = either σ (is_node_of u Mid from) _ _ (call_quiet (end_index from) n text) (dropped σ 7)
  frame_quiet from (msgs.Settle g) = either σ (is_node_of u Mid from) _ _ (settle_quiet (end_index from) g) (dropped σ 7)
  frame_quiet from (msgs.Request seq body) = dropped σ 7
  frame_quiet from (msgs.Reply who body) = dropped σ 7
  frame_quiet from (msgs.Token r token order) = dropped σ 7
  frame_quiet from (msgs.Answer n code) = dropped σ 7
  frame_quiet from (msgs.Have v n code) = dropped σ 7

  pub bytes_quiet : (bytes : List ℕ) → IsQuietFrom σ (on_bytes (λ from message s. on_frame u b t x s from message) bytes σ)
  bytes_quiet bytes = go (frame_of bytes)
    where
      go : (r : Result (Header × Msg) Refused) → IsQuietFrom σ (on_read (λ from message s. on_frame u b t x s from message) r σ)
      go (Ok found) = frame_quiet found.0.from found.1
      go (Err r) = refused σ r
