-- Rows of a middle node that answer that nothing was done.
use Rattle.std.proofs.Common.{◌≡◌, ℕ, suc, ◌*◌, ◌+◌, Bool, true, false, ◌&&◌, cond, List, length, refl, sym, ap, ◌∙◌, subst, arith}
use Rattle.std.proofs.Common.{Option, Some, None, Result, Ok, Err}
use Rattle.std.specs.Prelude.{nat_lt, not, ◌==◌, ◌||◌, IfSome}
use Rattle.std.proofs.lemmas.Bool.Decides.{nat_tests}
use Rattle.aeg_base.specs.declared.names.End.{End}
use Rattle.aeg_base.specs.declared.names.Tier.{Tier}
use Rattle.aeg_base.specs.declared.names.Tier.TheVariants.{Mid as InMid}
use Rattle.log_model.specs.declared.turn.LogIdle.{LogIdle}
use Rattle.log_model.specs.declared.turn.Offering.{Offering}
use Rattle.log_model.specs.declared.turn.Offering.TheVariants.{NotLeader, NoPromises, InFlight, LogFull, Taken, Free}
use Rattle.log_model.specs.Log.{LogState, Turn, idles as idle_turn, open_at}
use Rattle.log_model.specs.Rows.{lead, offer, on_msg, wants}
use Rattle.log_values.specs.declared.any_value.AnyValue.{AnyValue}
use Rattle.frames.specs.declared.header.Header.{Header}
use Rattle.frames.specs.declared.header.Refused.{Refused}
use Rattle.frames.specs.declared.message.Msg.{Msg}
use Rattle.frames.specs.declared.message.Msg.TheVariants as msgs
use Rattle.frames.specs.Frames.{frame_of}
use Rattle.frames.specs.Headers.{end_index}
use Rattle.tier_model.specs.declared.turn.Idle.{Idle}
use Rattle.tier_model.specs.declared.turn.Idle.TheVariants as why
use Rattle.round_model.specs.After.{batch_at, verdict_at}
use Rattle.round_model.specs.Held.{HeldState, held_code, hears, is_noted, takes}
use Rattle.round_model.specs.Lists.{is_some}
use Rattle.round_model.specs.Service.{Programs, is_request}
use Rattle.round_model.specs.Tables.{kept_of, last_of, pending_of}
use Rattle.round_model.specs.Verdicts.{Vote}
use Rattle.tier_model.specs.Moves.{Packet, Move, becomes, drops, idles, is_client, is_node_of, log_answer, says, tier_of}
use Rattle.tier_model.specs.Mid.{Mid, Ready, applies, apply, apply_sends, apply_state, due_round, in_log, ready, unready, with_log}
use Rattle.tier_model.specs.MidRows.{Running, has_seq, holds, is_backend_node, is_in, leads, not_run, offers, offers_as, on_answer, on_frame}
use Rattle.tier_model.specs.MidRows.{on_have, on_request, on_token, own_cause, own_value, pends, runs, runs_or_not, takes_answer, tallied, tells_again}
use Rattle.tier_model.specs.MidRows.{to_run, work}
use Rattle.node_log.specs.Quiet.{IsIdleTurn, IsQuietFrom, is_quiet}
use Rattle.node_log.specs.Received.{on_bytes, on_read, refuses}
use Rattle.node_log.proofs.Quiet.{message_idle, lead_idle, offer_none}

module _ (σ : Mid) where
  either : (c : Bool) (p q : Move Mid) → IsQuietFrom σ p → IsQuietFrom σ q → IsQuietFrom σ (cond c p q)
  either true p q k l = k
  either false p q k l = l

  idle : (cause : Idle) → IsQuietFrom σ (idles σ cause)
  idle cause = record { state = λ e. refl; facts = λ e. refl; sends = λ e. refl }

  dropped : (rule : ℕ) → IsQuietFrom σ (drops σ rule)
  dropped rule = record { state = λ e. refl; facts = λ e. refl; sends = λ e. refl }

  refused : (r : Refused) → IsQuietFrom σ (refuses σ r)
  refused r = record { state = λ e. refl; facts = λ e. refl; sends = λ e. refl }

  becoming : (new : Mid) → IsQuietFrom σ (becomes new)
  becoming new = record { state = λ e. absurd cc; facts = λ e. refl; sends = λ e. refl }

  saying : (new : Mid) (sends : List Packet) → IsQuietFrom σ (says new sends)
  saying new sends = record { state = λ e. absurd cc; facts = λ e. refl; sends = λ e. absurd cc }

  taking : (u x : ℕ) (held : HeldState) (t : Tier) (n code : ℕ) → IsQuietFrom σ (takes_answer u x σ held t n code)
  taking u x held t n code = record { state = λ e. absurd cc; facts = λ e. absurd cc; sends = λ e. absurd cc }

  run_by : (u x : ℕ) (r : Running) → IsQuietFrom σ (runs u x σ r)
  run_by u x r = record { state = λ e. absurd cc; facts = λ e. refl; sends = λ e. absurd cc }

-- TURNS OF THE LOG

quiet_turn : (log : LogState AnyValue) (turn : Turn AnyValue) → IsIdleTurn log turn → is_quiet (log_answer turn.idle) ≡ true
    → (reason : LogIdle) × (turn ≡ idle_turn log reason)
quiet_turn log turn k e = go turn.idle e k.nothing
  where
    go : (o : Option LogIdle) → is_quiet (log_answer o) ≡ true → IfSome o (λ reason. turn ≡ idle_turn log reason)
        → (reason : LogIdle) × (turn ≡ idle_turn log reason)
    go None e n = absurd cc
    go (Some reason) e n = (reason, n)

no_longer : (n : ℕ) → nat_lt n n ≡ false
no_longer n = grind (arith, nat_tests)

-- a log that learned nothing brings no verdict
none_due : (m : Programs) (σ : Mid) → due_round m σ σ.log ≡ None
none_due m σ = ap (λ (b : Bool). cond {A = Option Ready} (b && (length σ.log.learned == 2 * σ.applied + 2)) (ready m (with_log σ σ.log)) None)
    (no_longer (length σ.log.learned))

module _ (u : ℕ) (m : Programs) (x : ℕ) (σ : Mid) where
  turn_quiet : (turn : Turn AnyValue) → IsIdleTurn σ.log turn → IsQuietFrom σ (in_log u m x σ turn)
  turn_quiet turn k = record {
    state = λ e. let q = quiet_turn σ.log turn k e in ap (λ z. (in_log u m x σ z).state) q.1 ∙ ap (λ o. apply_state (with_log σ σ.log) o) (none_due m σ);
    facts = λ e. let q = quiet_turn σ.log turn k e in ap (λ z. (in_log u m x σ z).facts) q.1;
    sends = λ e. let q = quiet_turn σ.log turn k e in
        ap (λ z. (in_log u m x σ z).sends) q.1 ∙ ap (λ o. apply_sends u x (with_log σ σ.log) o) (none_due m σ);
  }

  offer_quiet : IsQuietFrom σ (in_log u m x σ (offer u x σ.log (own_value u m σ)))
  offer_quiet = turn_quiet (offer u x σ.log (own_value u m σ)) (record {
    nothing = subst (λ o. IfSome o (λ reason. offer u x σ.log (own_value u m σ) ≡ idle_turn σ.log reason))
        (sym (offer_none u x σ.log (own_value u m σ))) tt;
  })

  pub leads_quiet : IsQuietFrom σ (leads u m x σ)
  leads_quiet = turn_quiet (lead u x σ.log) (lead_idle u x σ.log)

  pub offers_quiet : IsQuietFrom σ (offers u m x σ)
  offers_quiet = go (wants u σ.log)
    where
      go : (w : Offering) → IsQuietFrom σ (offers_as u m x σ w)
      go NotLeader = idle σ why.NotLeader
      go (NoPromises have) = idle σ (why.NoPromises have)
      go (InFlight p) = idle σ (why.InFlight p)
      go LogFull = idle σ why.LogFull
      go Taken = offer_quiet
      go (Free p) = either σ (is_some (own_value u m σ)) _ _ offer_quiet (idle σ (own_cause u σ))

  -- FRAMES

  request_quiet : (c s : ℕ) (body : List ℕ) → IsQuietFrom σ (on_request x σ c s body)
  request_quiet c s body =
      either σ ((s == last_of σ.tables.last c) && is_some (kept_of σ.tables.kept c)) _ _
      (saying σ σ (tells_again x c s (kept_of σ.tables.kept c)))
      (either σ (not (s == suc (last_of σ.tables.last c)) || has_seq (pending_of σ.pending c) s) _ _ (idle σ why.Nothing)
      (becoming σ (pends σ (record { client = c; seq = s; body = body }))))

  token_quiet : (v : Vote) → IsQuietFrom σ (on_token σ v)
  token_quiet v = either σ (nat_lt (2 * v.round + 1) (open_at σ.log) || is_in σ.tally v) _ _ (idle σ why.Nothing) (becoming σ (tallied σ v))

  answer_quiet : (t : Tier) (n code : ℕ) → IsQuietFrom σ (on_answer u x σ t n code)
  answer_quiet t n code = either σ (is_some (held_code σ.held t n)) _ _ (idle σ why.Nothing) (taking σ u x (takes σ.held t n code) t n code)

  have_quiet : (s : ℕ) (t : Tier) (n code : ℕ) → IsQuietFrom σ (on_have u x σ s t n code)
  have_quiet s t n code =
      either σ (is_noted σ.held s t n) _ _ (idle σ why.Nothing)
      (either σ (is_some (held_code σ.held t n)) _ _ (becoming σ (holds σ (hears σ.held s t n code)))
      (taking σ u x (hears σ.held s t n code) t n code))

  frame_quiet : (from : End) (message : Msg) → IsQuietFrom σ (on_frame u m x σ from message)
  frame_quiet from (msgs.Log p) = either σ (is_node_of u InMid from) _ _
      (turn_quiet (on_msg u σ.log (end_index from) p) (message_idle u (end_index from) σ.log p)) (dropped σ 7)
  frame_quiet from (msgs.Request seq body) =
      either σ (not (is_client from)) _ _ (dropped σ 7)
      (either σ (not (is_request m (record { client = end_index from; seq = seq }) body)) _ _ (dropped σ 8) (request_quiet (end_index from) seq body))
  frame_quiet from (msgs.Token r token order) = either σ (is_node_of u InMid from) _ _
      (token_quiet (record { round = r; from = end_index from; token = token; order = order })) (dropped σ 7)
  frame_quiet from (msgs.Answer n code) = either σ (is_backend_node u from) _ _ (answer_quiet (tier_of from) n code) (dropped σ 7)
  frame_quiet from (msgs.Have t n code) = either σ (is_node_of u InMid from) _ _ (have_quiet (end_index from) t n code) (dropped σ 7)
  frame_quiet from (msgs.Reply who body) = dropped σ 7
  frame_quiet from (msgs.Call n body) = dropped σ 7
  frame_quiet from (msgs.Settle g) = dropped σ 7

  pub bytes_quiet : (bytes : List ℕ) → IsQuietFrom σ (on_bytes (λ from message s. on_frame u m x s from message) bytes σ)
  bytes_quiet bytes = go (frame_of bytes)
    where
      go : (r : Result (Header × Msg) Refused) → IsQuietFrom σ (on_read (λ from message s. on_frame u m x s from message) r σ)
      go (Ok found) = frame_quiet found.0.from found.1
      go (Err r) = refused σ r

  -- WORK

  applies_quiet : (o : Option Ready) → IsQuietFrom σ (applies u m x σ o)
  applies_quiet None = idle σ (unready m σ (batch_at σ.log.learned σ.applied) (verdict_at σ.log.learned σ.applied))
  applies_quiet (Some R) = saying σ (apply σ R) (apply_sends u x σ (Some R))

  runs_quiet : (o : Option Running) → IsQuietFrom σ (runs_or_not u m x σ o)
  runs_quiet None = idle σ (not_run u m x σ (batch_at σ.log.learned σ.applied))
  runs_quiet (Some r) = run_by σ u x r

  pub work_quiet : (schedule : List ℕ) → IsQuietFrom σ (work u m x σ schedule)
  work_quiet schedule = either σ (is_some (verdict_at σ.log.learned σ.applied)) _ _ (applies_quiet (ready m σ)) (runs_quiet (to_run u m x σ schedule))
