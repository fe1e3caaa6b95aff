use Rattle.std.proofs.Common.{◌∙◌, sym, ap}
use Rattle.world.specs.declared.nodes.working.Working.{Working}
use Rattle.world.proofs.Turns.TurnsOfNodes.{was_at_work, is_without}
use Rattle.world.proofs.nodes.log_node.LogNode.take_up.Goals as goal

pub returns-clause-taken : goal.returns-clause-taken
returns-clause-taken c = was_at_work c.self.inside.faults c.self.inside.me c.self.inside.known c.self.inside.doubt
    c.self.inside.gone c.self.inside.up c.in-Some.up c.args.self.now c.self.view_is c.self.invariant
    (sym c.take.ensures.value ∙ c.in-Some.is)

pub returns-clause-left : goal.returns-clause-left
returns-clause-left c =
    is_without c.self.inside.faults c.self.inside.me c.self.inside.known c.place-self-inside.result c.self.inside.doubt
    c.self.inside.gone c.self.inside.up c.take.new.self c.in-Some.up c.args.self.now c.self.view_is c.self.invariant
    (sym c.take.ensures.value ∙ c.in-Some.is) c.take.ensures.after (c.place-self-inside.ensures
    ∙ ap (λ (w : Working). w.journal) c.deref.ensures)
