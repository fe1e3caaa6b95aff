use Rattle.world.proofs.nodes.mid_node.MidNode.obey.Goals as goal

pub returns-in-Lead : goal.returns-in-Lead
returns-in-Lead g c = rw c.in-Lead.is c.lead.ensures

pub returns-in-Offer : goal.returns-in-Offer
returns-in-Offer g c = rw c.in-Offer.is c.offer.ensures
