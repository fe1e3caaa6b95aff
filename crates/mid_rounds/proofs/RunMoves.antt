-- The run of a middle node's next round.
use Rattle.std.proofs.Common.{◌≡◌, ℕ, ◌*◌, ◌+◌, List, [], ◌++◌, refl, sym, ap, ◌∙◌, subst, cond, Option, Some, None, Ok}
use Rattle.std.specs.Prelude.{IfSome, option_map}
use Rattle.std.specs.List.{AllByRecursion}
use Rattle.std.proofs.lemmas.Bool.{cond_both}
use Rattle.aeg_base.specs.declared.names.End.{End}
use Rattle.aeg_base.specs.declared.names.Tier.TheVariants.{Mid as InMid}
use Rattle.applied_rounds.specs.States.{AppliedState, claim_by}
use Rattle.exec_model.specs.declared.job.Job.{Job}
use Rattle.exec_model.specs.Jobs.{Run, run_job}
use Rattle.log_model.specs.Log.{is}
use Rattle.log_model.proofs.Basics.{Every}
use Rattle.log_values.specs.Outcomes.{IsCommit}
use Rattle.round_model.specs.declared.claim.Claim.{Claim}
use Rattle.round_model.specs.After.{batch_at}
use Rattle.round_model.specs.Held.{usable}
use Rattle.round_model.specs.Lists.{and_then, each, is_some}
use Rattle.round_model.specs.Service.{Programs}
use Rattle.round_model.specs.Tables.{job_of, wants}
use Rattle.round_model.specs.Verdicts.{Vote}
use Rattle.state_verify.specs.Tallies.{TallyState}
use Rattle.tier_model.specs.declared.turn.RunNote.{RunNote}
use Rattle.tier_model.specs.declared.turn.Turn.TheVariants as answers
use Rattle.tier_model.specs.Mid.{Mid}
use Rattle.tier_model.specs.MidRows.{Running, is_in, running, runs, to_run, token_to, with_own}
use Rattle.node_log.specs.declared.decided.Decided.{Decided}
use Rattle.node_log.specs.declared.member.Member.{Member}
use Rattle.node_log.specs.declared.working.Working.{Working}
use Rattle.node_log.specs.LogNodes.{IsOwnLog}
use Rattle.node_log.specs.Packets.{all_sealed}
use Rattle.row_laws.specs.Mids.{IsMidIn, IsSpecIn, IsTallyIn}
use Rattle.row_laws.specs.Services.{IsServiceIn}
use Rattle.row_laws.proofs.MidParts.{votes_in}
use Rattle.row_laws.proofs.MidRounds.{run_in}
use Rattle.mid_rounds.specs.declared.keeping.Keeping.{Keeping}
use Rattle.mid_rounds.specs.Mids.{claims_by, vote_by}
use Rattle.mid_rounds.specs.Deciding.{DecidesMove, IsInRange, mid_in}
use Rattle.mid_rounds.specs.Running.{IsNextRun, runs_by}
use Rattle.mid_rounds.proofs.DecidedMoves.{without_facts}
use Rattle.mid_rounds.proofs.Services.{service_by}

then_then : {A B C : Type 0} (o : Option A) (f : A → Option B) (g : B → Option C) → and_then o (λ a. and_then (f a) g) ≡ and_then (and_then o f) g
then_then None f g = refl
then_then (Some a) f g = refl

module _ (p : Programs) (m : Member) (old : Working Keeping) (job : Job) where
  abbrev u : ℕ
  u = m.faults

  abbrev x : ℕ
  x = m.me.index

  abbrev σ : Mid
  σ = mid_in m old

  abbrev run_by : List ℕ → Run
  run_by steps = run_job p.begins job.segs σ.tables.store steps

  -- the run of the row is that of the job
  pub to_run_is : (steps : List ℕ) → IsNextRun p m old job → to_run u p x σ steps ≡ Some (running p x σ (run_by steps))
  to_run_is steps n =
      ap (λ (o : Option Claim). cond (is_some (option_map (vote_by x old.rest.rounds.applied) o)) None (and_then (batch_at σ.log.learned σ.applied)
      (λ es. and_then (job_of (usable σ.held) (wants p σ.tables es)) (λ J. Some (running p x σ (run_job p.begins J σ.tables.store steps)))))) n.first
      ∙ then_then (batch_at σ.log.learned σ.applied) (λ es. job_of (usable σ.held) (wants p σ.tables es))
      (λ J. Some (running p x σ (run_job p.begins J σ.tables.store steps)))
      ∙ ap (λ o. and_then o (λ J. Some (running p x σ (run_job p.begins J σ.tables.store steps)))) n.segs

  pub vote_in : (steps : List ℕ) → IsServiceIn p → IsInRange p m old → IsNextRun p m old job
      → IsSpecIn x σ.applied (running p x σ (run_by steps)).vote
  vote_in steps service k n =
      run_in (service_by p) u k.kept.depth x σ steps (running p x σ (run_by steps)) service k.kept.state (to_run_is steps n)

  module _ (rounds : AppliedState) (note : RunNote) (token order : List ℕ) where
    -- the job was run, and this is kept of it
    pub record WasRun : Type 0 where
      pub next : IsNextRun p m old job
      pub service : IsServiceIn p
      pub range : IsInRange p m old
      pub note_is : note ≡ record {
        round = old.rest.rounds.applied;
        steps = (run_by note.steps).steps;
        order = (run_by note.steps).order;
        redo = (run_by note.steps).redo;
      }
      pub rounds_are : rounds ≡ record old.rest.rounds { run = Some (claim_by p σ.tables.store (run_by note.steps)) }
      pub token_is : IfSome rounds.run (λ claim. token ≡ claim.token)
      pub order_is : order ≡ note.order

    abbrev row : Running
    row = running p x σ (run_by note.steps)

    same_token : WasRun → token ≡ row.vote.token
    same_token w = subst (λ (z : AppliedState). IfSome z.run (λ claim. token ≡ claim.token)) w.rounds_are w.token_is

    same_order : WasRun → order ≡ row.vote.order
    same_order w = w.order_is ∙ ap (λ (z : RunNote). z.order) w.note_is

    pub commits : WasRun → IsCommit token order
    commits w =
        subst (λ (z : List ℕ). IsCommit z order) (sym (same_token w))
        (subst (λ (z : List ℕ). IsCommit row.vote.token z) (sym (same_order w)) (vote_in note.steps w.service w.range w.next).fits)

    -- the vote that is told
    abbrev told : List ℕ → Vote
    told order = record { round = note.round; from = x; token = token; order = order }

    same_vote : WasRun → told order ≡ row.vote
    same_vote w =
        ap (λ (z : RunNote). record { round = z.round; from = x; token = token; order = order }) w.note_is
        ∙ ap (λ (z : List ℕ). record { round = σ.applied; from = x; token = z; order = order }) (same_token w)
        ∙ ap (λ (z : List ℕ). record { round = σ.applied; from = x; token = row.vote.token; order = z }) (same_order w)

    module _ (new : Working Keeping) (before after : List (End × List ℕ)) (d : Decided) (steps : List ℕ) where
      pub record WasTold : Type 0 where
        pub log : new.log ≡ old.log
        pub journal : new.journal ≡ old.journal
        pub rounds_new : new.rest.rounds ≡ rounds
        pub pending : new.rest.pending ≡ old.rest.pending
        pub held : new.rest.held ≡ old.rest.held
        pub votes : claims_by new.rest.tallies ≡ with_own (claims_by old.rest.tallies) (told order)
        pub sizes : AllByRecursion (λ (e : ℕ × TallyState). e.1.faults ≡ u) new.rest.tallies
        pub sent : after ≡ before ++ all_sealed (each (2 * u + 1) (is x) (token_to x (told order)))
        pub facts : d.facts.items ≡ []
        pub answer : d.answer ≡ answers.Ran note
        pub steps_are : steps ≡ note.steps

      state_is : WasRun → WasTold → mid_in m new ≡ record σ { tally = with_own σ.tally row.vote; spec = Some row.vote }
      state_is w t =
          ap (λ z. record σ {
            log = z.state;
            applied = new.rest.rounds.applied;
            tables = new.rest.rounds.tables;
            pending = new.rest.pending;
            tally = claims_by new.rest.tallies;
            spec = option_map (vote_by x new.rest.rounds.applied) new.rest.rounds.run;
            held = new.rest.held;
          }) t.log
          ∙ ap (λ (z : AppliedState). record σ {
            applied = z.applied;
            tables = z.tables;
            pending = new.rest.pending;
            tally = claims_by new.rest.tallies;
            spec = option_map (vote_by x z.applied) z.run;
            held = new.rest.held;
          }) (t.rounds_new ∙ w.rounds_are)
          ∙ ap (λ z. record σ { pending = z; tally = claims_by new.rest.tallies; spec = Some row.vote; held = new.rest.held }) t.pending
          ∙ ap (λ z. record σ { tally = z; spec = Some row.vote; held = new.rest.held })
          (t.votes ∙ ap (λ (z : Vote). with_own (claims_by old.rest.tallies) z) (same_vote w))
          ∙ ap (λ z. record σ { tally = with_own σ.tally row.vote; spec = Some row.vote; held = z }) t.held

      range_is : WasRun → WasTold → IsInRange p m new
      range_is w t =
          let k = w.range.kept.state in
          let v = vote_in note.steps w.service w.range w.next in
          record {
            log = subst (λ z. IsOwnLog u InMid x z) (sym t.log) w.range.log;
            kept = record {
              depth = w.range.kept.depth;
              state = subst (IsMidIn p u w.range.kept.depth x) (sym (state_is w t)) (record {
                log = k.log;
                applied = k.applied;
                tables = k.tables;
                pending = k.pending;
                tally = cond_both (is_in σ.tally row.vote) _ _ (Every IsTallyIn) (λ e. k.tally) (λ e. votes_in σ.tally row.vote k.tally v.round v.fits);
                spec = v;
                held = k.held;
              });
              tallies = t.sizes;
            };
          }

      pub ran : WasRun → WasTold → DecidesMove p m (runs_by p m σ job steps) old new before after (Ok d)
      ran w t =
          subst (λ (z : List ℕ). DecidesMove p m (runs_by p m σ job z) old new before after (Ok d)) (sym t.steps_are)
          (without_facts p m (runs u x σ row) old new before after d t.facts refl (t.answer ∙ ap answers.Ran w.note_is) (state_is w t)
          (t.sent ∙ ap (λ (z : Vote). before ++ all_sealed (each (2 * u + 1) (is x) (token_to x z))) (same_vote w)) t.journal (range_is w t))
