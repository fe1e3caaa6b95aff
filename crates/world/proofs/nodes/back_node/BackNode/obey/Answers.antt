use Rattle.world.proofs.nodes.back_node.BackNode.obey.Goals as goal

pub returns-in-Offer : goal.returns-in-Offer
returns-in-Offer g c = rw c.in-Offer.is (c.offer.ensures (g.D.Disk.state c.args.disk.now) c.args.out.now)
