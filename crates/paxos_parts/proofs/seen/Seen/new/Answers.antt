use Rattle.std.proofs.Common.{None}
use Rattle.std.proofs.lemmas.List.{take-replicate}
use Rattle.paxos_parts.proofs.seen.Seen.new.Goals as goal

pub returns : goal.returns
returns c = take-replicate c.args.nodes 5 None c.requires
