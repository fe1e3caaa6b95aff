use Rattle.std.proofs.Common.{refl}
use Rattle.std.specs.Vec.{with_item}
use Rattle.aeg_base.specs.declared.names.Tier.TheVariants.{Mid, Inv, Pay}
use Rattle.world.specs.Commands.{row_of}
use Rattle.world.proofs.Calls.AtLists.{in_tier}
use Rattle.world.proofs.nodes.all_nodes.Nodes.obey.Goals as goal

pub returns-in-Mid : goal.returns-in-Mid
returns-in-Mid g c =
    in_tier Mid c.args.self.now (record {
      mids = with_item c.args.self.now.mids c.from-x.result c.obey.new.self;
      invs = c.args.self.now.invs;
      pays = c.args.self.now.pays;
    }) c.args.node c.from-x.result c.index_mut.result.now
    c.obey.new.self _ _ _ _ (λ S k. row_of c.args.command k) _ c.in-Mid.is c.from-x.ensures
    c.index_mut.ensures.value refl (refl, refl) c.obey.ensures

pub returns-in-Inv : goal.returns-in-Inv
returns-in-Inv g c =
    in_tier Inv c.args.self.now
    (record {
      mids = c.args.self.now.mids;
      invs = with_item c.args.self.now.invs c.from-x.result c.obey-in-Inv.new.self;
      pays = c.args.self.now.pays;
    })
    c.args.node c.from-x.result c.index_mut-in-Inv.result.now c.obey-in-Inv.new.self _ _ _ _
    (λ S k. row_of c.args.command k) _ c.in-Inv.is c.from-x.ensures
    c.index_mut-in-Inv.ensures.value refl (refl, refl) c.obey-in-Inv.ensures

pub returns-in-Pay : goal.returns-in-Pay
returns-in-Pay g c =
    in_tier Pay c.args.self.now
    (record {
      mids = c.args.self.now.mids;
      invs = c.args.self.now.invs;
      pays = with_item c.args.self.now.pays c.from-x.result c.obey-in-Pay.new.self;
    }) c.args.node c.from-x.result
    c.index_mut-in-Pay.result.now c.obey-in-Pay.new.self _ _ _ _ (λ S k. row_of c.args.command k) _ c.in-Pay.is c.from-x.ensures
    c.index_mut-in-Pay.ensures.value refl (refl, refl) c.obey-in-Pay.ensures
