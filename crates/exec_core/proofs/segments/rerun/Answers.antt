use Rattle.std.proofs.Common.{rules, ◌+◌, ◌<◌, ◌∙◌, ap, length, get_or, set, drop, arith}
use Rattle.std.proofs.lemmas.Grind.{common_steps}
use Rattle.exec_model.specs.Serial.{serial_end}
use Rattle.exec_model.specs.Jobs.{plan_at}
use Rattle.exec_model.specs.Machine.{or_ended}
use Rattle.exec_core.specs.declared.machine.Slot.TheVariants as Slot
use Rattle.exec_core.specs.States.{progress_of}
use Rattle.exec_core.proofs.Loops.{rerun-more, serial-drop}
use Rattle.exec_core.proofs.segments.rerun.Goals as goal

pub loop-i-preserved : goal.loop-i-preserved
loop-i-preserved g c =
    let plans = plan_at (g.S.Service.beginning c.args.svc.now) c.args.segs.now in
    let plan = g.S.Prog.Program.plan in
    let xs = c.args.group.now in
    let k = c.loop-i.i-index in
    let lt : k < length xs = search rules in
    let inside : get_or xs k 0 < length c.loop-i.slots = grind (arith, common_steps) in
    record {
      store = serial-drop plans (g.C.Cells.store c.loop-i.cells) (g.C.Cells.store c.run_one.new.cells) xs k lt
          (c.in_ok-ending.ensures.store) ∙ c.loop-i.invariant.store;
      ends = λ j.
          ap (λ x. or_ended (serial_end plans (g.C.Cells.store c.run_one.new.cells) (drop (k + 1) xs) j)
          (progress_of plan (set c.loop-i.slots x (Slot.Ended c.in_ok-ending.ending)) j)) c.from.ensures
          ∙ rerun-more plan plans c.loop-i.slots xs k (g.C.Cells.store c.loop-i.cells)
          (g.C.Cells.store c.run_one.new.cells) c.in_ok-ending.ending j lt c.requires.once inside
          (c.in_ok-ending.ensures.store) (c.in_ok-ending.ensures.ending)
          ∙ c.loop-i.invariant.ends j;
      start = c.in_ok-ending.ensures.start ∙ c.loop-i.invariant.start;
    }
