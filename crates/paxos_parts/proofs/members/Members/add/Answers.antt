use Rattle.std.proofs.Common.{true}
use Rattle.paxos_parts.proofs.Taken.{take_set}
use Rattle.paxos_parts.proofs.members.Members.add.Goals as goal

pub returns : goal.returns
returns c = take_set c.self.inside.nodes c.args.node c.self.inside.flags c.args.self.now true c.self.view_is c.requires
