use Rattle.std.proofs.Common.{rules, ◌<◌, ◌∙◌, ap, sym, length}
use Rattle.exec_core.specs.Underway.{RunView, first_of}
use Rattle.exec_core.proofs.Groups.{groups_at}
use Rattle.exec_core.proofs.job_run.JobRun.group.Goals as goal

pub returns-then-self-len : goal.returns-then-self-len
returns-then-self-len g c =
    let w = c.self.inside.work in
    let lt : w.at < length w.groups.items = search rules in
    c.in_ok-members.ensures.items ∙ c.deref.ensures.value
    ∙ sym (ap first_of (groups_at w.groups.items w.at c.index.result.now lt c.index.ensures))
    ∙ ap (λ (r : RunView). first_of r.left) c.self.view_is
