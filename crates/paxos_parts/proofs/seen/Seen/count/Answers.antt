use Rattle.std.proofs.Common.{◌≡◌, None, ◌∙◌, arith}
use Rattle.log_model.specs.Log.{count_below, is_ballot, seen_at}
use Rattle.paxos_parts.proofs.Taken.{count_front}
use Rattle.paxos_parts.proofs.seen.Seen.count.Goals as goal

pub returns : goal.returns
returns c =
    let at_end : c.loop-node.node ≡ c.self.inside.nodes = omega arith in
    let counted : c.loop-node.count
    ≡ count_below c.self.inside.nodes (λ node. is_ballot c.args.ballot (seen_at c.self.inside.ballots node)) = rw
    at_end at c.loop-node.invariant.0 in
    counted ∙ count_front (is_ballot c.args.ballot) c.self.inside.nodes c.self.inside.ballots c.args.self.now None (omega arith) c.self.view_is
