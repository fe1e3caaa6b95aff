use Rattle.std.proofs.Common.{rules, ◌≡◌, ◌≤◌, ◌∙◌, refl, length, get_or, true, false, arith}
use Rattle.std.proofs.lemmas.Grind.{common_steps}
use Rattle.exec_model.specs.Machine.{is_running}
use Rattle.exec_core.specs.States.{progress_of}
use Rattle.exec_core.proofs.Loops.{can_still, keeps_on}
use Rattle.exec_core.proofs.Finishing.{mem_at, none_of, finishes_more, finishes_next, finishes_all}
use Rattle.exec_core.proofs.rounds.finish_group.Goals as goal
use Rattle.exec_core.proofs.rounds.finish_group.Goals.{then-one-test+else-is_running, else-one-test}

pub turn-requires-clause-group : goal.turn-requires-clause-group
turn-requires-clause-group g c =
    let kept = c.one.invariant.kept in
    can_still c.one.m c.requires.group kept.slots (let over0 : c.one.over
    ≡ false = search rules in let e = kept.redo over0 in let h = c.requires.group.redo in omega arith)

pub turn-requires-clause-member : goal.turn-requires-clause-member
turn-requires-clause-member g c = mem_at c.args.group.now c.members.i-index c.one.invariant.at

pub one-preserved : goal.one-preserved
one-preserved g c =
    let one = c.one.invariant in
    let e = c.in_ok-over.ensures in
    let over0 : c.one.over ≡ false = search rules in
    let run : is_running
    (progress_of g.S.Prog.Program.plan c.one.m.slots.items (get_or c.args.group.now c.members.i-index 0))
    ≡ true = grind (arith, common_steps) in
    record {
      is = refl;
      at = one.at;
      so_far = finishes_more c.turn.new.m (g.C.Cells.store c.turn.new.cells) (g.C.Logged.base c.turn.new.cells)
          c.in_ok-over.over one.so_far over0 one.at run e.turn;
      kept = keeps_on c.turn.new.m c.in_ok-over.over one.kept over0 e.slots e.locks e.outside e.redo_most e.over e.redo;
      ended = e.ended;
      start = e.start ∙ one.start;
    }

pub members-preserved : goal.members-preserved
members-preserved g c =
    let q = progress_of g.S.Prog.Program.plan c.one.m.slots.items in
    let one = c.one.invariant in
    let stopped : is_running (q (get_or c.args.group.now c.members.i-index 0)) ≡ false =
    elim c.one-test.branch [
      | then-one-test+else-is_running w ↦ grind (arith, common_steps)
      | else-one-test w ↦ none_of q c.args.group.now c.members.i-index one.at (one.ended (search rules))
    ] in
    record { so_far = finishes_next one.so_far one.at stopped; kept = one.kept; ended = one.ended; start = one.start }

pub returns-clause-finished : goal.returns-clause-finished
returns-clause-finished g c =
    let far : length c.args.group.now ≤ c.members.i-index = search rules in
    finishes_all c.members.invariant.so_far c.members.invariant.kept.runs far
