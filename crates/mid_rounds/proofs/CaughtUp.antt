-- What a restart comes to.
use Rattle.std.proofs.Common.{◌≡◌, ℕ, suc, ◌+◌, ◌-◌, ◌<◌, ◌≤◌, List, [], ◌∷◌, length, replicate, refl, sym, ap, ◌∙◌, subst, arith, Option, Some, None}
use Rattle.std.specs.List.{AllByRecursion}
use Rattle.aeg_base.specs.declared.names.Tier.TheVariants.{Mid as InMid}
use Rattle.applied_rounds.specs.States.{AppliedState, none_applied}
use Rattle.fact_journal.specs.Fitting.{FactsFit}
use Rattle.frames.specs.LogMessages.{IsCarried}
use Rattle.log_model.specs.Log.{LogState}
use Rattle.log_model.specs.Ranges.{IsLogIn}
use Rattle.log_model.specs.Recover.{onto, recover}
use Rattle.log_values.specs.declared.any_value.AnyValue.{AnyValue}
use Rattle.log_values.specs.declared.entry.Entry.{Entry}
use Rattle.log_values.specs.declared.fact.Fact.{Fact}
use Rattle.log_values.specs.Fields.{FitsBallot}
use Rattle.round_model.specs.Held.{HeldState}
use Rattle.round_model.specs.Service.{Programs}
use Rattle.round_model.specs.Tables.{tables0}
use Rattle.state_verify.specs.Tallies.{TallyState}
use Rattle.tier_model.specs.Moves.{held_in, log_facts}
use Rattle.tier_model.specs.Mid.{Mid, Ready, apply, apply_state, ready}
use Rattle.tier_model.specs.MidRows.{bare, catch_up, recovered}
use Rattle.row_laws.specs.Mids.{IsHeldIn, IsMidIn}
use Rattle.row_laws.proofs.MidAgain.{first_tables, no_pending}
use Rattle.row_laws.proofs.MidParts.{held_restored, none_in}
use Rattle.mid_rounds.specs.declared.keeping.Keeping.{Keeping}
use Rattle.mid_rounds.specs.Deciding.{IsKeptWell}
use Rattle.mid_rounds.specs.Mids.{claims_by, mid_with}
use Rattle.mid_rounds.specs.Settlings.{tells_of}

-- where no round can be applied, no more are
pub caught : (p : Programs) (n i : ℕ) (σ new whole : Mid) → i < n → None ≡ tells_of σ (ready p σ) → new ≡ apply_state σ (ready p σ)
    → catch_up p (n - i) σ ≡ whole → new ≡ whole
caught p n i σ new whole l none e rest = go (ready p σ) refl none e
  where
    left : n - i ≡ suc (n - (i + 1))
    left = omega (arith, l)

    go : (o : Option Ready) → ready p σ ≡ o → None ≡ tells_of σ o → new ≡ apply_state σ o → new ≡ whole
    go None f g h =
        h ∙ sym (ap (λ (o : Option Ready). elim o [ None ↦ σ | Some R ↦ catch_up p (n - (i + 1)) (apply σ R) ]) f)
        ∙ sym (ap (λ (k : ℕ). catch_up p k σ) left) ∙ rest
    go (Some R) f g h = absurd cc

-- the answers of facts that fit
pub held_whole : (u x : ℕ) (facts : List Fact) → FactsFit InMid 0 facts → IsHeldIn u x (held_in u x (onto facts []))
held_whole u x [] fit = none_in u x
held_whole u x (f ∷ fs) fit = held_restored u x ((f ∷ fs) ∷ []) (omega arith, (fit, tt))

module _ (p : Programs) (u depth x : ℕ) (log : LogState AnyValue) (k : Keeping) where
  -- nothing beside the log and the answers
  pub record IsBare : Type 0 where
    pub rounds : k.rounds ≡ none_applied depth
    pub pending : k.pending ≡ replicate 17 None
    pub tallies : k.tallies ≡ []

  abbrev start : Mid
  start = record { log = log; applied = 0; tables = tables0 depth; pending = replicate 17 None; tally = []; spec = None; held = k.held }

  start_is : IsBare → mid_with x log k ≡ start
  start_is b =
      ap (λ (z : AppliedState). mid_with x log (record k { rounds = z })) b.rounds
      ∙ ap (λ (z : List (Option Entry)). record start { pending = z; tally = claims_by k.tallies }) b.pending
      ∙ ap (λ (z : List (ℕ × TallyState)). record start { tally = claims_by z }) b.tallies

  pub bare_kept : IsBare → 1 ≤ depth → IsLogIn (IsCarried InMid) FitsBallot log → IsHeldIn u x k.held → IsKeptWell p u x (mid_with x log k) k
  bare_kept b deep l h = record {
    depth = depth;
    state = subst (IsMidIn p u depth x) (sym (start_is b)) (record {
      log = l;
      applied = omega arith;
      tables = first_tables p depth deep;
      pending = no_pending;
      tally = tt;
      spec = tt;
      held = h;
    });
    tallies = subst (AllByRecursion (λ (e : ℕ × TallyState). e.1.faults ≡ u)) (sym b.tallies) tt;
  }

  pub recovered_is : (facts : List Fact) (new : Mid) → IsBare → k.held ≡ held_in u x facts → log ≡ recover u (log_facts facts)
      → new ≡ catch_up p (length log.learned) (mid_with x log k) → new ≡ recovered u p depth x facts
  recovered_is facts new b h l e =
      e ∙ ap (λ (z : Mid). catch_up p (length log.learned) z) (start_is b)
      ∙ ap (λ (z : HeldState). catch_up p (length log.learned) (record start { held = z })) h
      ∙ ap (λ (z : LogState AnyValue). catch_up p (length z.learned) (record (bare u depth x facts) { log = z })) l
