use Rattle.std.proofs.Common.{◌≡◌, ◌++◌, subst}
use Rattle.std.specs.Prelude.{OnOk}
use Rattle.node_log.proofs.ToTiers.{tier_sealed}
use Rattle.node_log.proofs.sending.send_to_tier.Goals as goal

pub returns-clause-sent : goal.returns-clause-sent
returns-clause-sent c =
    subst (λ z. OnOk c.send_bytes-sent.result (c.send_bytes-sent.new.out ≡ c.args.out.now ++ z))
    (tier_sealed c.args.u c.args.from c.args.to c.args.but c.args.message.now c.in_ok-bytes.bytes c.in_ok-bytes.ensures) c.send_bytes-sent.ensures.sent
