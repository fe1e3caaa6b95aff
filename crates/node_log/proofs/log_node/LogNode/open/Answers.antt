use Rattle.std.proofs.Common.{subst, Ok, Err}
use Rattle.node_log.specs.Restarting.{Opens}
use Rattle.node_log.specs.Views.{View}
use Rattle.node_log.specs.LogNodes.{Standing}
use Rattle.node_log.proofs.Restarted.{opens_ok, opens_err}
use Rattle.node_log.proofs.log_node.LogNode.open.Goals as goal

pub returns-in-Ok : goal.returns-in-Ok
returns-in-Ok g c =
    let old = g.D.Disk.state c.args.disk.now in
    let new = g.D.Disk.state c.open_on.new.disk in
    subst (λ (z : View (Standing g.row.R.Denot)). Opens z.tier old new (Ok c.in-Ok.opened)) c.self.view_is
    (opens_ok c.self.inside.me.tier old new c.open_on.result c.in-Ok.opened c.in-Ok.is
    (record {
      facts = c.open_on.ensures.facts;
      fit = c.open_on.ensures.fit;
      refused = c.open_on.ensures.refused;
      whole = c.open_on.ensures.whole;
      one_list = c.open_on.ensures.one_list;
      none_refused = c.open_on.ensures.none_refused;
      any_moment = c.open_on.ensures.any_moment;
      cause = c.open_on.ensures.cause;
      later = c.open_on.ensures.later;
    }))

pub returns-in-Err : goal.returns-in-Err
returns-in-Err g c =
    let old = g.D.Disk.state c.args.disk.now in
    let new = g.D.Disk.state c.open_on.new.disk in
    subst (λ (z : View (Standing g.row.R.Denot)). Opens z.tier old new (Err c.opening_fault.result)) c.self.view_is
    (opens_err c.self.inside.me.tier old new c.open_on.result c.in-Err.error c.opening_fault.result c.in-Err.is c.opening_fault.ensures
    (record {
      facts = c.open_on.ensures.facts;
      fit = c.open_on.ensures.fit;
      refused = c.open_on.ensures.refused;
      whole = c.open_on.ensures.whole;
      one_list = c.open_on.ensures.one_list;
      none_refused = c.open_on.ensures.none_refused;
      any_moment = c.open_on.ensures.any_moment;
      cause = c.open_on.ensures.cause;
      later = c.open_on.ensures.later;
    }))
