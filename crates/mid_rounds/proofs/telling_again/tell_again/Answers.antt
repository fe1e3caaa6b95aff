use Rattle.aeg_base.specs.declared.names.Tier.TheVariants.{Inv, Pay}
use Rattle.row_laws.proofs.MidAgain.{codes_in}
use Rattle.mid_rounds.proofs.telling_again.tell_again.Goals as goal

pub tell_held-requires-clause-inventory : goal.tell_held-requires-clause-inventory
tell_held-requires-clause-inventory c =
    codes_in c.args.member.faults c.args.member.me.index c.args.up.now.rest.held Inv (c.requires.range.1.kept.state.held.answers Inv)

pub tell_held-requires-clause-payment : goal.tell_held-requires-clause-payment
tell_held-requires-clause-payment c =
    codes_in c.args.member.faults c.args.member.me.index c.args.up.now.rest.held Pay (c.requires.range.1.kept.state.held.answers Pay)
