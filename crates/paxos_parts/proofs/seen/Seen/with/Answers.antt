use Rattle.std.proofs.Common.{Some}
use Rattle.paxos_parts.proofs.Taken.{take_set}
use Rattle.paxos_parts.proofs.seen.Seen.with.Goals as goal

pub returns : goal.returns
returns c = take_set c.self.inside.nodes c.args.node c.self.inside.ballots c.args.self.now (Some c.args.ballot) c.self.view_is c.requires
