use Rattle.aegean_main.proofs.PlayLaws.{breaks_first}
use Rattle.aegean_main.proofs.playing.play_script.Goals as goal

pub returns-in_default-clause-plays : goal.returns-in_default-clause-plays
returns-in_default-clause-plays g c = breaks_first c.args.script.now (g.K.Sink.taken c.args.out.now)
