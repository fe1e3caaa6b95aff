use Rattle.std.proofs.Common.{◌∙◌, ◌∷◌, ◌++◌, [], ap, sym}
use Rattle.tier_model.specs.Moves.{log_facts}
use Rattle.world.proofs.Turns.JournalsGrow.{log_facts_then}
use Rattle.world.proofs.nodes.restoring.log_facts.Goals as goal

pub loop-fact-preserved : goal.loop-fact-preserved
loop-fact-preserved c = c.in_ok-add.ensures
    ∙ (ap (λ z. z ++ log_facts (c.in-Some.fact ∷ [])) c.loop-fact.invariant
    ∙ sym (log_facts_then c.loop-fact.yielded (c.in-Some.fact ∷ [])))
