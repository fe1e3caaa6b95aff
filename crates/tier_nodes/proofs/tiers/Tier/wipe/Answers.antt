use Rattle.tier_nodes.proofs.Places.{changes_at}
use Rattle.tier_nodes.proofs.tiers.Tier.wipe.Goals as goal

pub returns : goal.returns
returns g c = changes_at c.args.self.now.posts.items c.args.at c.from.result c.index_mut.result.now c.wipe.new.self _ c.requires.there c.from.ensures
    c.index_mut.ensures.value (c.wipe.ensures.wipes, c.wipe.ensures.rows)
