use Rattle.std.proofs.Common.{false}
use Rattle.std.proofs.lemmas.List.{take-replicate}
use Rattle.paxos_parts.proofs.members.Members.new.Goals as goal

pub returns : goal.returns
returns c = take-replicate c.args.nodes 5 false c.requires
