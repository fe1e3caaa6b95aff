use Rattle.std.proofs.lemmas.List.Elements.{All-push}
use Rattle.run_model.specs.Script.{Numbered}
use Rattle.net_script.specs.Events.{IsProper}
use Rattle.net_script.proofs.parsing.add_line.Goals as goal

pub returns-clause-proper : goal.returns-clause-proper
returns-clause-proper c = λ proper. rw c.in_ok-push.ensures.ok
    (All-push (λ (event : Numbered). IsProper c.args.u event.1) c.args.events.now (c.args.number, c.in-Ok.event) proper
    c.in-Ok.ensures.proper)
