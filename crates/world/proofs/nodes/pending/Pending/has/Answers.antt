use Rattle.std.proofs.Common.{Some, None}
use Rattle.world.proofs.Rows.PendingPlaces.{has_is}
use Rattle.world.proofs.nodes.pending.Pending.has.Goals as goal

pub returns-in-None : goal.returns-in-None
returns-in-None c = has_is c.self.inside.entries c.args.self.now c.from.result c.args.client c.index-self-from.result
    None c.args.seq c.self.view_is c.self.told c.from.ensures c.requires c.in-None.is

pub returns-in-Some : goal.returns-in-Some
returns-in-Some c = has_is c.self.inside.entries c.args.self.now c.from.result c.args.client c.index-self-from.result
    (Some c.in-Some.entry) c.args.seq c.self.view_is c.self.told c.from.ensures c.requires c.in-Some.is
