use Rattle.world.proofs.Turns.TurnsOfNodes.{asks_at}
use Rattle.world.proofs.nodes.log_node.LogNode.ask.Goals as goal

pub send_all-requires-clause-fit : goal.send_all-requires-clause-fit
send_all-requires-clause-fit c = asks_at c.self.inside.me.tier c.args.self.now c.first_open.result c.in_ok-asks.asks
    c.in_ok-asks.ensures c.first_open.ensures.within
