use Rattle.std.proofs.Common.{◌≡◌, [], refl, sym, ap, ◌∙◌, subst}
use Rattle.std.specs.Prelude.{replicate}
use Rattle.round_model.specs.Lists.{concat, is_some}
use Rattle.round_model.specs.Tables.{parked_of}
use Rattle.pipeline.specs.States.{RoundsState, at_first}
use Rattle.pipeline.specs.Kept.{IsInRange}
use Rattle.spec_barrier.specs.Barriers.{BarrierState, held_of}
use Rattle.pipeline.proofs.Moves.{first_in_range}
use Rattle.applied_rounds.specs.declared.told.Told.{Told}
use Rattle.applied_rounds.proofs.applied.Applied.new.Goals as goal

pub invariant_of-result : goal.invariant_of-result
invariant_of-result c =
    let first : c.in_ok-new.field-0 ≡ at_first c.args.depth = c.in_ok-new.ensures.first in
    record {
      clients_agree = record {
        last = refl;
        kept = refl;
        busy = λ client low high. ap (λ (z : RoundsState). is_some (parked_of client (concat z.queue))) first
            ∙ (c.new-2.ensures.agrees c.args.depth).busy client low high;
      };
      range = subst IsInRange (sym first) (first_in_range (replicate c.args.depth []) (at_first c.args.depth).numbers c.args.depth refl refl c.requires);
      out = ap (λ (z : BarrierState Told). z.applied) c.new-4.ensures ∙ sym (ap (λ (z : RoundsState). z.next) first);
      nothing = λ r. ap (λ (z : BarrierState Told). held_of z r) c.new-4.ensures;
      run_stands = tt;
    }
