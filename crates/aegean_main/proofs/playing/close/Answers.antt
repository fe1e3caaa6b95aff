use Rattle.std.proofs.Common.{[], ◌∙◌}
use Rattle.aegean_main.proofs.PlayLaws.{breaks_here, closing_alone, closes, closes_off}
use Rattle.aegean_main.proofs.playing.close.Goals as goal

pub returns-in-Err-clause-closes : goal.returns-in-Err-clause-closes
returns-in-Err-clause-closes g c = λ script first disks start s. breaks_here script c.args.world.now [] first disks start (g.K.Sink.taken c.args.out.now) s

pub returns-in-Ok-clause-closes : goal.returns-in-Ok-clause-closes
returns-in-Ok-clause-closes g c = λ script first disks start s.
    closes script c.args.world.now c.items.result.now first disks start (g.K.Sink.taken c.args.out.now) (g.K.Sink.taken c.put_all.new.out)
    (closing_alone c.args.world.now c.items.result.now c.of-closing.result _ (c.items.ensures
    ∙ c.in_default.ensures.closes) c.of-closing.ensures c.clear.ensures.items) c.in-Ok.ensures.ok s

pub returns-clause-closes : goal.returns-clause-closes
returns-clause-closes g c = λ script first disks start s.
    closes_off script c.args.world.now c.items.result.now first disks start (g.K.Sink.taken c.args.out.now) (g.K.Sink.taken c.put_all.new.out)
    (closing_alone c.args.world.now c.items.result.now c.of-closing.result _ (c.items.ensures
    ∙ c.in_default.ensures.closes) c.of-closing.ensures c.clear.ensures.items) c.in-Err-put_all.ensures.prefix s
