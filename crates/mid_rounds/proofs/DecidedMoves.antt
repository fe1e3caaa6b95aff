-- Moves that a middle node decides, and what a round tells.
use Rattle.std.proofs.Common.{◌≡◌, ℕ, suc, ◌<◌, ◌≤◌, List, [], ◌∷◌, ◌++◌, length, refl, sym, ap, ◌∙◌, subst, arith, Option, Some, None, Result, Ok, Err}
use Rattle.std.proofs.Common.{append_assoc, append-nil}
use Rattle.std.specs.Prelude.{IsErr}
use Rattle.std.specs.List.{AllByRecursion, flat_map}
use Rattle.std.proofs.lemmas.List.{map-append}
use Rattle.std.proofs.lemmas.Option.{same_Some}
use Rattle.aeg_base.specs.declared.memory.Memory.{Memory}
use Rattle.aeg_base.specs.declared.names.End.{End}
use Rattle.svc_api.specs.declared.action.Ending.{Ending}
use Rattle.svc_api.specs.declared.action.Ending.TheVariants.{Reply, Call}
use Rattle.applied_rounds.specs.declared.told.Told.{Told}
use Rattle.applied_rounds.specs.Told.{tolds}
use Rattle.log_model.specs.Log.{open_at}
use Rattle.log_model.proofs.Basics.{Every}
use Rattle.round_model.specs.Lists.{OfTiers, of_tier}
use Rattle.round_model.specs.Service.{Programs}
use Rattle.round_model.specs.Tables.{Want, bump, wants}
use Rattle.tier_model.specs.declared.turn.Idle.{Idle}
use Rattle.tier_model.specs.declared.turn.Turn.TheVariants as answers
use Rattle.tier_model.specs.Moves.{Move}
use Rattle.tier_model.specs.Mid.{Mid, Ready, applies, apply_state, calls_to, ready, reply_to, tells}
use Rattle.node_log.specs.declared.decided.Decided.{Decided}
use Rattle.node_log.specs.declared.member.Member.{Member}
use Rattle.node_log.specs.declared.working.Working.{Working}
use Rattle.node_log.specs.Deciding.{idle_in}
use Rattle.node_log.specs.Packets.{sealed, all_sealed, StillHas}
use Rattle.node_log.specs.Settling.{CanRecord}
use Rattle.row_laws.specs.Mids.{IsMidIn}
use Rattle.row_laws.specs.Services.{IsServiceIn}
use Rattle.row_laws.proofs.Applied.{AreNumbersFor, call_number, numbers_bump, numbers_in, numbers_less}
use Rattle.row_laws.proofs.Finishes.{AreEndsIn}
use Rattle.row_laws.proofs.MidRounds.{IsReadyIn, ready_in}
use Rattle.row_laws.proofs.Wanted.{IsWantIn}
use Rattle.mid_rounds.specs.declared.keeping.Keeping.{Keeping}
use Rattle.mid_rounds.specs.Deciding.{DecidesMove, IsInRange, mid_in}
use Rattle.mid_rounds.specs.Settlings.{tells_of}
use Rattle.mid_rounds.specs.Telling.{IsToldIn, told_to}
use Rattle.mid_rounds.proofs.Services.{service_by}

module _ (p : Programs) (m : Member) (move : Move Mid) (old new : Working Keeping) (before after : List (End × List ℕ)) where
  -- memory ran out
  pub had_none : (decided : Result Decided Memory) → IsErr decided → StillHas before after → DecidesMove p m move old new before after decided
  had_none (Ok d) e k = absurd cc
  had_none (Err x) e k = record { state = tt; facts = tt; answer = tt; packets = tt; kept = k; can = tt; journal = tt; range = tt }

  -- nothing is to be written down
  pub without_facts : (d : Decided) → d.facts.items ≡ [] → move.facts ≡ [] → d.answer ≡ move.answer → mid_in m new ≡ move.state
      → after ≡ before ++ all_sealed move.sends → new.journal ≡ old.journal → IsInRange p m new → DecidesMove p m move old new before after (Ok d)
  without_facts d none no_facts same state sent journal range = record {
    state = state;
    facts = none ∙ sym no_facts;
    answer = same;
    packets = sent;
    kept = (all_sealed move.sends, sent);
    can = subst CanRecord (sym none) (record { fit = tt; short = omega arith });
    journal = journal;
    range = range;
  }

-- nothing was sent
pub as_before : {A : Type 0} (before : List A) → StillHas before before
as_before before = ([], sym (append-nil before))

-- one more part of the packets
pub kept_both : {A : Type 0} (a b c : List A) → StillHas a b → StillHas b c → StillHas a c
kept_both a b c k l = (k.0 ++ l.0, l.1 ∙ ap (λ z. z ++ l.0) k.1 ∙ append_assoc a k.0 l.0)

-- WHAT A ROUND TELLS

tolds_fit : (p : Programs) (next : OfTiers ℕ) (ws : List Want) (es : List Ending) → Every (IsWantIn p) ws → AreEndsIn p ws es
    → AreNumbersFor (length ws) next → AllByRecursion IsToldIn (tolds next ws es)
tolds_fit p next [] es k f n = tt
tolds_fit p next (w ∷ ws) [] k f n = absurd f
tolds_fit p next (w ∷ ws) (Reply text ∷ es) k f n = (
  ((k.0.asks.client_low, k.0.asks.client_high), ((k.0.asks.seq_low, k.0.asks.seq_high), f.0.0)),
  tolds_fit p next ws es k.1 f.1 (numbers_less (length ws) next n),
)
tolds_fit p next (w ∷ ws) (Call t stage text ∷ es) k f n = (
  (f.0.0.0, (call_number (suc (length ws)) next t n, f.0.0.1.1.1)),
  tolds_fit p (bump next t) ws es k.1 f.1 (numbers_bump (length ws) next t stage text n),
)

-- what is told of a round has frames
pub told_fit : (p : Programs) (u depth x : ℕ) (σ : Mid) (told : List Told) → IsServiceIn p → IsMidIn p u depth x σ → Some told ≡ tells_of σ (ready p σ)
    → AllByRecursion IsToldIn told
told_fit p u depth x σ told service k e = go (ready p σ) refl e
  where
    go : (o : Option Ready) → ready p σ ≡ o → Some told ≡ tells_of σ o → AllByRecursion IsToldIn told
    go None f g = absurd cc
    go (Some R) f g =
        let r : IsReadyIn (service_by p) σ R = ready_in (service_by p) u depth x σ R service k f in
        let within : open_at σ.log ≤ 4096 = k.log.within in
        let early : σ.applied < 2048 = omega (arith, r.room, within) in
        let ws : List Want = wants p σ.tables r.batch in
        subst (AllByRecursion IsToldIn) (sym (same_Some told (tolds σ.tables.next R.wants R.finish.ends) g))
        (subst (λ (z : List Want). AllByRecursion IsToldIn (tolds σ.tables.next z R.finish.ends)) (sym r.is)
        (tolds_fit p σ.tables.next ws R.finish.ends r.ask r.fits.ends (numbers_in p depth σ.applied (length ws) σ.tables k.tables early r.few)))

abbrev pub sealed_of : ℕ → ℕ → Told → List (End × List ℕ)
sealed_of u x told = all_sealed (told_to u x told)

pub tolds_sealed : (u x : ℕ) (next : OfTiers ℕ) (ws : List Want) (es : List Ending)
    → flat_map (sealed_of u x) (tolds next ws es) ≡ all_sealed (tells u x next ws es)
tolds_sealed u x next [] es = refl
tolds_sealed u x next (w ∷ ws) [] = refl
tolds_sealed u x next (w ∷ ws) (Reply text ∷ es) =
    ap (λ (z : List (End × List ℕ)). all_sealed (reply_to x w.client w.seq text ∷ []) ++ z) (tolds_sealed u x next ws es)
tolds_sealed u x next (w ∷ ws) (Call t stage text ∷ es) =
    ap (λ (z : List (End × List ℕ)). all_sealed (calls_to u x t (of_tier next t) text) ++ z) (tolds_sealed u x (bump next t) ws es)
    ∙ sym (map-append sealed (calls_to u x t (of_tier next t) text) (tells u x (bump next t) ws es))

module _ (p : Programs) (m : Member) (old new : Working Keeping) (before after : List (End × List ℕ)) (d : Decided) where
  abbrev u : ℕ
  u = m.faults

  abbrev x : ℕ
  x = m.me.index

  abbrev σ : Mid
  σ = mid_in m old

  -- what was decided, but for the packets and the answer
  pub record Settled : Type 0 where
    pub state : mid_in m new ≡ apply_state σ (ready p σ)
    pub facts : d.facts.items ≡ []
    pub journal : new.journal ≡ old.journal
    pub range : IsInRange p m new

  -- the round was applied, and what it tells was sent
  pub applied : (told : List Told) → Settled → Some told ≡ tells_of σ (ready p σ) → after ≡ before ++ flat_map (sealed_of u x) told
      → d.answer ≡ answers.Did → DecidesMove p m (applies u p x σ (ready p σ)) old new before after (Ok d)
  applied told s e sent did = go (ready p σ) s.state e
    where
      go : (o : Option Ready) → mid_in m new ≡ apply_state σ o → Some told ≡ tells_of σ o
          → DecidesMove p m (applies u p x σ o) old new before after (Ok d)
      go None f g = absurd cc
      go (Some R) f g =
          without_facts p m (applies u p x σ (Some R)) old new before after d s.facts refl did f
          (sent ∙ ap (λ (z : List Told). before ++ flat_map (sealed_of u x) z) (same_Some told (tolds σ.tables.next R.wants R.finish.ends) g)
          ∙ ap (λ (z : List (End × List ℕ)). before ++ z) (tolds_sealed u x σ.tables.next R.wants R.finish.ends)) s.journal s.range

  -- it wasn't, for this reason
  pub unapplied : (cause : Idle) → Settled → None ≡ tells_of σ (ready p σ) → Some cause ≡ idle_in (applies u p x σ (ready p σ)).answer
      → after ≡ before → d.answer ≡ answers.Idle cause → DecidesMove p m (applies u p x σ (ready p σ)) old new before after (Ok d)
  unapplied cause s e why sent idle = go (ready p σ) s.state e why
    where
      go : (o : Option Ready) → mid_in m new ≡ apply_state σ o → None ≡ tells_of σ o → Some cause ≡ idle_in (applies u p x σ o).answer
          → DecidesMove p m (applies u p x σ o) old new before after (Ok d)
      go None f g h =
          without_facts p m (applies u p x σ None) old new before after d s.facts refl
          (idle ∙ ap answers.Idle (same_Some cause _ h)) f (sent ∙ sym (append-nil before)) s.journal s.range
      go (Some R) f g h = absurd cc
