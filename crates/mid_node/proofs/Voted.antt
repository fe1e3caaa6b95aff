-- What a token of another middle node does to the claims that are kept.
use Rattle.std.proofs.Common.{◌≡◌, ℕ, ◌+◌, ◌*◌, ◌<◌, ◌≤◌, Bool, true, false, cond, List, [], refl, sym, ap, ◌∙◌, subst, arith, Ok, append-nil}
use Rattle.std.specs.Prelude.{◌||◌, not, nat_lt}
use Rattle.std.specs.List.{AllByRecursion}
use Rattle.std.proofs.lemmas.Bool.{le-ltb}
use Rattle.aeg_base.specs.declared.limits.TheConstants.{ROUNDS}
use Rattle.aeg_base.specs.declared.names.End.{End}
use Rattle.log_model.specs.Log.{open_at}
use Rattle.log_model.proofs.Basics.{Every}
use Rattle.log_values.specs.Outcomes.{IsCommit}
use Rattle.round_model.specs.Service.{Programs}
use Rattle.round_model.specs.Verdicts.{Claims, Vote}
use Rattle.state_verify.specs.Tallies.{TallyState}
use Rattle.tier_model.specs.declared.turn.Idle.TheVariants as why
use Rattle.tier_model.specs.declared.turn.Turn.TheVariants as answers
use Rattle.tier_model.specs.Moves.{Move, becomes, idles}
use Rattle.tier_model.specs.Mid.{Mid}
use Rattle.tier_model.specs.MidRows.{is_in, on_token, tallied, with_own, with_vote}
use Rattle.node_log.specs.declared.decided.Decided.{Decided}
use Rattle.node_log.specs.declared.member.Member.{Member}
use Rattle.node_log.specs.declared.working.Working.{Working}
use Rattle.row_laws.specs.Mids.{IsTallyIn}
use Rattle.row_laws.proofs.MidParts.{votes_in}
use Rattle.mid_rounds.specs.declared.keeping.Keeping.{Keeping}
use Rattle.mid_rounds.specs.Mids.{claims_by}
use Rattle.mid_rounds.specs.Deciding.{DecidesMove, IsInRange, mid_in}
use Rattle.mid_rounds.proofs.DecidedMoves.{without_facts}

-- a vote that isn't in counts, where its round's verdict isn't learned
row_is : (σ : Mid) (v : Vote) → nat_lt (2 * v.round + 1) (open_at σ.log) ≡ false → is_in σ.tally v ≡ false → on_token σ v ≡ becomes (tallied σ v)
row_is σ v e f =
    ap (λ (b : Bool). cond (b || is_in σ.tally v) (idles σ why.Nothing) (becomes (tallied σ v))) e
    ∙ ap (λ (b : Bool). cond b (idles σ why.Nothing) (becomes (tallied σ v))) f

not_in : (b : Bool) → true ≡ not b → b ≡ false
not_in true e = absurd cc
not_in false e = refl

-- with other claims
abbrev pub with_tallies : Working Keeping → List (ℕ × TallyState) → Working Keeping
with_tallies w tallies = record {
  log = w.log;
  journal = w.journal;
  rest = record { rounds = w.rest.rounds; pending = w.rest.pending; tallies = tallies; held = w.rest.held };
}

module _ (p : Programs) (m : Member) (old : Working Keeping) where
  abbrev σ : Mid
  σ = mid_in m old

  tallies_range : (tallies : List (ℕ × TallyState)) → IsInRange p m old → Every IsTallyIn (claims_by tallies)
      → AllByRecursion (λ (e : ℕ × TallyState). e.1.faults ≡ m.faults) tallies → IsInRange p m (with_tallies old tallies)
  tallies_range tallies range k faults = record {
    log = range.log;
    kept = record {
      depth = range.kept.depth;
      state = record {
        log = range.kept.state.log;
        applied = range.kept.state.applied;
        tables = range.kept.state.tables;
        pending = range.kept.state.pending;
        tally = k;
        spec = range.kept.state.spec;
        held = range.kept.state.held;
      };
      tallies = faults;
    };
  }

  -- the vote joins those of its round
  pub counts : (v : Vote) (tallies : List (ℕ × TallyState)) (at : ℕ) (before : List (End × List ℕ)) (d : Decided) → IsInRange p m old → v.round < ROUNDS
      → IsCommit v.token v.order → at ≡ open_at old.log.state → at ≤ 2 * v.round + 1 → true ≡ not (is_in (claims_by old.rest.tallies) v)
      → claims_by tallies ≡ with_own (claims_by old.rest.tallies) v → AllByRecursion (λ (e : ℕ × TallyState). e.1.faults ≡ m.faults) tallies
      → d.facts.items ≡ [] → d.answer ≡ answers.Did → DecidesMove p m (on_token (mid_in m old) v) old (with_tallies old tallies) before before (Ok d)
  counts v tallies at before d range round fits position early new votes faults none did =
      let unlearned : nat_lt (2 * v.round + 1) (open_at old.log.state) ≡ false =
      le-ltb (2 * v.round + 1) (open_at old.log.state) (omega (arith, position, early)) in
      let absent : is_in (claims_by old.rest.tallies) v ≡ false = not_in (is_in (claims_by old.rest.tallies) v) new in
      let joined : claims_by tallies ≡ with_vote (claims_by old.rest.tallies) v =
      votes ∙ ap (λ (b : Bool). cond b (claims_by old.rest.tallies) (with_vote (claims_by old.rest.tallies) v)) absent in
      subst (λ (move : Move Mid). DecidesMove p m move old (with_tallies old tallies) before before (Ok d)) (sym (row_is σ v unlearned absent))
      (without_facts p m (becomes (tallied σ v)) old (with_tallies old tallies) before before d none refl did
      (ap (λ (z : List (ℕ × Claims)). record σ { tally = z }) joined) (sym (append-nil before)) refl
      (tallies_range tallies range (subst (Every IsTallyIn) (sym joined) (votes_in (claims_by old.rest.tallies) v range.kept.state.tally round fits)) faults))
