use Rattle.std.proofs.Common.{◌∷◌, ◌∙◌, ap, cond, map, Bool}
use Rattle.aegean_main.proofs.FaultLaws.{after, carried, other}
use Rattle.aegean_main.proofs.PlayLaws.{stands_on, stands_at, halts_next, plays_on}
use Rattle.aegean_main.proofs.playing.play_line.Goals as goal

pub returns-in-Ok-false-clause-plays : goal.returns-in-Ok-false-clause-plays
returns-in-Ok-false-clause-plays g c = λ script number rest first start s.
    stands_at script c.play.new.world (cond c.in-Ok-false.field-0 ((number, c.args.line.now) ∷ rest) rest) rest first
    (map g.D.Disk.state c.play.new.disks) start (g.K.Sink.taken c.play.new.out)
    (ap (λ (b : Bool). cond b ((number, c.args.line.now) ∷ rest) rest) c.in-Ok-false.field-0-test)
    (stands_on script number c.args.line.now rest first (map g.D.Disk.state c.calls.disks)
    (map g.D.Disk.state c.play.new.disks) start (g.K.Sink.taken c.calls.out) (g.K.Sink.taken c.play.new.out)
    c.calls.world c.play.new.world c.in-Ok-false.field-0 c.in-Ok-false.ensures.plays
    (c.calls.invariant.2 script number rest first start s))

pub returns-in-Err-clause-plays : goal.returns-in-Err-clause-plays
returns-in-Err-clause-plays g c = λ script number rest first start s.
    halts_next script number c.args.line.now rest first (map g.D.Disk.state c.calls.disks)
    (map g.D.Disk.state c.play.new.disks) start (g.K.Sink.taken c.calls.out) (g.K.Sink.taken c.play.new.out)
    c.calls.world c.play.new.world c.in-Err.halt c.in-Err.ensures.plays
    (c.calls.invariant.2 script number rest first start s)

pub calls-preserved : goal.calls-preserved
calls-preserved g c =
    let on = plays_on c.calls.world c.play.new.world c.args.line.now (map g.D.Disk.state c.calls.disks)
    (map g.D.Disk.state c.play.new.disks) (g.K.Sink.taken c.calls.out) (g.K.Sink.taken c.play.new.out)
    c.in-Ok-true.field-0 c.calls.invariant.1 c.in-Ok-true.ensures.plays in (
      on.0 ∙ c.calls.invariant.0,
      on.1,
      λ script number rest first start s.
          stands_at script c.play.new.world (cond c.in-Ok-true.field-0 ((number, c.args.line.now) ∷ rest) rest)
          ((number, c.args.line.now) ∷ rest) first (map g.D.Disk.state c.play.new.disks) start (g.K.Sink.taken c.play.new.out)
          (ap (λ (b : Bool). cond b ((number, c.args.line.now) ∷ rest) rest) c.in-Ok-true.field-0-test)
          (stands_on script number c.args.line.now rest first (map g.D.Disk.state c.calls.disks)
          (map g.D.Disk.state c.play.new.disks) start (g.K.Sink.taken c.calls.out) (g.K.Sink.taken c.play.new.out)
          c.calls.world c.play.new.world c.in-Ok-true.field-0 c.in-Ok-true.ensures.plays
          (c.calls.invariant.2 script number rest first start s)),
      c.in-Ok-true.ensures.write.kept (λ e. cc) ∙ c.calls.invariant.3,
    )

pub returns-in-Ok-false-clause-write : goal.returns-in-Ok-false-clause-write
returns-in-Ok-false-clause-write g c = other _ _ _ (λ e. cc) (c.in-Ok-false.ensures.write.kept (λ e. cc) ∙ c.calls.invariant.3)

pub returns-in-Err-clause-write : goal.returns-in-Err-clause-write
returns-in-Err-clause-write g c = after _ _ _ _ c.calls.invariant.3 (carried Bool (Unit {0}) c.in-Err.halt _ _ c.in-Err.ensures.write)
