use Rattle.std.proofs.Common.{◌≡◌, ◌++◌, subst}
use Rattle.std.specs.Prelude.{OnOk}
use Rattle.node_log.specs.Packets.{all_sealed}
use Rattle.node_log.proofs.ToTiers.{asks_are}
use Rattle.node_log.proofs.sending.send_asks.Goals as goal

pub returns-clause-sent : goal.returns-clause-sent
returns-clause-sent c = subst (λ z. OnOk c.send_to_tier-sent.result (c.send_to_tier-sent.new.out ≡ c.args.out.now ++ all_sealed z))
    (asks_are c.args.u c.args.from.tier c.args.from.index c.args.at) c.send_to_tier-sent.ensures.sent
