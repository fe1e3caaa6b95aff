use Rattle.std.proofs.Common.{◌∙◌, ap, List, Option, Some, None}
use Rattle.log_values.specs.declared.entry.Entry.{Entry}
use Rattle.round_model.specs.Lists.{put_at}
use Rattle.world.proofs.Rows.PendingPlaces.{set_pending, set_is}
use Rattle.world.proofs.nodes.pending.Pending.set.Goals as goal

pub invariant_of-self : goal.invariant_of-self
invariant_of-self c = set_pending c.self.inside.entries c.from-place.result c.args.entry c.self.invariant c.requires c.from-place.ensures

pub returns : goal.returns
returns c =
    set_is c.self.inside.entries c.from-place.result c.args.entry c.self.invariant c.requires c.from-place.ensures
    ∙ ap (λ (z : List (Option Entry)). put_at None z c.args.entry.client (Some c.args.entry)) c.self.view_is
