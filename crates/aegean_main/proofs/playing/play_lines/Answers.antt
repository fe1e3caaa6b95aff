use Rattle.std.proofs.Common.{rules, ◌≡◌, ◌+◌, ◌<◌, ◌≤◌, [], drop, length, map, Some, sym, ◌∙◌, arith}
use Rattle.std.specs.Prelude.{slice_get}
use Rattle.std.proofs.lemmas.Option.{slice_get_within}
use Rattle.aeg_base.specs.declared.limits.TheConstants.{INPUT_BYTES}
use Rattle.aegean_main.proofs.FaultLaws.{after, other}
use Rattle.aegean_main.proofs.PlayLaws.{stands_at, drop_get, drop_none}
use Rattle.aegean_main.proofs.playing.play_lines.Goals as goal

pub overflow_add-number : goal.overflow_add-number
overflow_add-number g c =
    let at : slice_get c.args.script.now.events c.lines.number ≡ Some (c.in-Some.field-0-0, c.in-Some.line.now) = sym c.in-Some.ensures.is in
    let within : c.lines.number < length c.args.script.now.events = slice_get_within c.args.script.now.events
    c.lines.number (c.in-Some.field-0-0, c.in-Some.line.now) at in
    let few : length c.args.script.now.events ≤ INPUT_BYTES = c.in-Some.ensures.few in
    search rules

pub lines-smaller : goal.lines-smaller
lines-smaller g c =
    let at : slice_get c.args.script.now.events c.lines.number ≡ Some (c.in-Some.field-0-0, c.in-Some.line.now) = sym c.in-Some.ensures.is in
    let within : c.lines.number < length c.args.script.now.events = slice_get_within c.args.script.now.events
    c.lines.number (c.in-Some.field-0-0, c.in-Some.line.now) at in
    omega (arith, within)

pub lines-preserved : goal.lines-preserved
lines-preserved g c =
    let at : slice_get c.args.script.now.events c.lines.number ≡ Some (c.in-Some.field-0-0, c.in-Some.line.now) = sym c.in-Some.ensures.is in (
      c.in_default-play_line.ensures.plays c.args.script.now c.in-Some.field-0-0
          (drop (c.lines.number + 1) c.args.script.now.events) (map g.D.Disk.state c.args.disks.now) (g.K.Sink.taken c.args.out.now)
          (stands_at c.args.script.now c.lines.world _ _ (map g.D.Disk.state c.args.disks.now)
          (map g.D.Disk.state c.lines.disks) (g.K.Sink.taken c.args.out.now) (g.K.Sink.taken c.lines.out)
          (drop_get c.args.script.now.events c.lines.number (c.in-Some.field-0-0, c.in-Some.line.now) at) c.lines.invariant.0),
      c.in_default-play_line.ensures.write.kept (λ e. cc) ∙ c.lines.invariant.1,
    )

pub returns-in-Err-play_line-clause-plays : goal.returns-in-Err-play_line-clause-plays
returns-in-Err-play_line-clause-plays g c =
    let at : slice_get c.args.script.now.events c.lines.number ≡ Some (c.in-Some.field-0-0, c.in-Some.line.now) = sym c.in-Some.ensures.is in
    c.in-Err-play_line.ensures.plays c.args.script.now c.in-Some.field-0-0
    (drop (c.lines.number + 1) c.args.script.now.events) (map g.D.Disk.state c.args.disks.now) (g.K.Sink.taken c.args.out.now)
    (stands_at c.args.script.now c.lines.world _ _ (map g.D.Disk.state c.args.disks.now)
    (map g.D.Disk.state c.lines.disks) (g.K.Sink.taken c.args.out.now) (g.K.Sink.taken c.lines.out)
    (drop_get c.args.script.now.events c.lines.number (c.in-Some.field-0-0, c.in-Some.line.now) at) c.lines.invariant.0)

pub returns-clause-plays : goal.returns-clause-plays
returns-clause-plays g c =
    stands_at c.args.script.now c.lines.world _ [] (map g.D.Disk.state c.args.disks.now)
    (map g.D.Disk.state c.lines.disks) (g.K.Sink.taken c.args.out.now) (g.K.Sink.taken c.lines.out)
    (drop_none c.args.script.now.events c.lines.number (sym c.in_default-event.ensures.is)) c.lines.invariant.0

pub lines-init : goal.lines-init
lines-init g c = (c.in_default.ensures.stands, c.in_default.ensures.write.kept (λ e. cc))

pub returns-in-Err-play_line-clause-write : goal.returns-in-Err-play_line-clause-write
returns-in-Err-play_line-clause-write g c = after _ _ _ _ c.lines.invariant.1 c.in-Err-play_line.ensures.write

pub returns-clause-write : goal.returns-clause-write
returns-clause-write g c = other _ _ _ (λ e. cc) c.lines.invariant.1
