use Rattle.std.proofs.Common.{◌≡◌, ◌∙◌, sym, ap, cond, false}
use Rattle.exec_model.specs.Machine.{State, act}
use Rattle.svc_api.specs.Orders.{mem}
use Rattle.exec_model.specs.Jobs.{plan_at}
use Rattle.exec_core.specs.States.{whole_of}
use Rattle.exec_core.proofs.Loops.{all_mem}
use Rattle.exec_core.proofs.rounds.entry.Goals as goal

pub turn-requires-clause-small : goal.turn-requires-clause-small
turn-requires-clause-small g c = all_mem 255 c.args.group.now c.args.i c.requires.numbers (sym c.contains.ensures ∙ c.if-contains.true)

pub returns-else-contains-clause-turn : goal.returns-else-contains-clause-turn
returns-else-contains-clause-turn g c t e =
    let plans = plan_at (g.S.Service.beginning c.args.svc.now) c.args.segs.now in
    let w : State = whole_of g.S.Prog.Program.plan c.args.m.now (g.C.Cells.store c.args.cells.now) (g.C.Logged.base c.args.cells.now) t in
    let out : mem c.args.i t.group ≡ false = ap (mem c.args.i) e ∙ sym c.contains.ensures ∙ c.if-contains.false in
    sym (ap (λ b. cond b (act plans w c.args.i (w.progress c.args.i)) w) out)
