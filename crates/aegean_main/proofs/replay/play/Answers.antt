use Rattle.std.proofs.Common.{map}
use Rattle.aegean_main.proofs.ReplayLaws.{answers_end, answers_limit, answers_write, answers_memory}
use Rattle.aegean_main.proofs.replay.play.Goals as goal

pub returns-in-Ok-clause-follows : goal.returns-in-Ok-clause-follows
returns-in-Ok-clause-follows g c = λ input reads.
    answers_end c.args.script.now input (map g.D.Disk.state c.args.disks.now)
    (map g.D.Disk.state c.play_script.new.disks) (g.K.Sink.taken c.args.out.now)
    (g.K.Sink.taken c.play_script.new.out) c.its_runs_keep.ensures c.in-Ok.ensures.plays reads

pub returns-in-Err-Limit-clause-follows : goal.returns-in-Err-Limit-clause-follows
returns-in-Err-Limit-clause-follows g c = λ input reads.
    answers_limit c.args.script.now input (map g.D.Disk.state c.args.disks.now)
    (map g.D.Disk.state c.play_script.new.disks) (g.K.Sink.taken c.args.out.now)
    (g.K.Sink.taken c.play_script.new.out) c.its_runs_keep.ensures
    (rw c.in-Err-Limit.field-0-is at c.in-Err-Limit.ensures.plays) reads

pub returns-in-Err-Write-clause-follows : goal.returns-in-Err-Write-clause-follows
returns-in-Err-Write-clause-follows g c = λ input reads.
    answers_write c.args.script.now input (map g.D.Disk.state c.args.disks.now)
    (map g.D.Disk.state c.play_script.new.disks) (g.K.Sink.taken c.args.out.now)
    (g.K.Sink.taken c.play_script.new.out) c.its_runs_keep.ensures
    (rw c.in-Err-Write.field-0-is at c.in-Err-Write.ensures.plays) reads

pub returns-in-Err-Memory-clause-follows : goal.returns-in-Err-Memory-clause-follows
returns-in-Err-Memory-clause-follows g c = λ input reads.
    answers_memory c.args.script.now input (map g.D.Disk.state c.args.disks.now)
    (map g.D.Disk.state c.play_script.new.disks) (g.K.Sink.taken c.args.out.now)
    (g.K.Sink.taken c.play_script.new.out) c.its_runs_keep.ensures
    (rw c.in-Err-Memory.field-0-is at c.in-Err-Memory.ensures.plays) reads
