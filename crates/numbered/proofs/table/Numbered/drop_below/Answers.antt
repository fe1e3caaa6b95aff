use Rattle.numbered.proofs.Search.{dropped_rises}
use Rattle.numbered.proofs.table.Numbered.drop_below.Goals as goal

pub invariant_of-self : goal.invariant_of-self
invariant_of-self g c =
    dropped_rises c.self.inside.rows.items c.deref.result.now c.drop_front.new.rows.items c.args.no c.count_below-count.result c.self.invariant
    c.deref.ensures.value c.count_below-count.ensures.rest c.drop_front.ensures.rest
