use Rattle.tier_nodes.proofs.Places.{changes_at}
use Rattle.tier_nodes.proofs.working.Tier+NodeOf+S.work.Goals as goal

pub returns-clause-tells : goal.returns-clause-tells
returns-clause-tells g c = changes_at c.args.self.now.posts.items c.args.at c.from.result c.index_mut.result.now c.work.new.self _ c.requires.there
    c.from.ensures c.index_mut.ensures.value (c.work.ensures.tells, c.work.ensures.stays)

pub returns-clause-given : goal.returns-clause-given
returns-clause-given g c schedule e = changes_at c.args.self.now.posts.items c.args.at c.from.result c.index_mut.result.now c.work.new.self _
    c.requires.there c.from.ensures c.index_mut.ensures.value (c.work.ensures.given schedule e, c.work.ensures.stays)
