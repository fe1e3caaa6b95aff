use Rattle.std.proofs.Common.{◌∷◌, ◌++◌, [], rules}
use Rattle.std.specs.Int.{w16, to_be_bytes}
use Rattle.aeg_wire.proofs.Begun.{begun_past, begun_front}
use Rattle.log_values.specs.declared.format.TheConstants.{ACCEPTED}
use Rattle.log_values.specs.Fields.{ballot}
use Rattle.log_values.specs.Values.{any_value}
use Rattle.log_values.proofs.fact.Fact.encode.Goals as goal

pub returns-in_err-put_ballot-in-Accepted-clause-err : goal.returns-in_err-put_ballot-in-Accepted-clause-err
returns-in_err-put_ballot-in-Accepted-clause-err c =
    let a = begun_front c.put_u16.new.out c.put_ballot-in-Accepted.new.out (ballot c.in-Accepted.ballot)
    (any_value c.in-Accepted.value) c.in_err-put_ballot-in-Accepted.ensures.err in
    let b = begun_past c.put_u8-in-Accepted.new.out c.put_u16.new.out c.put_ballot-in-Accepted.new.out
    (to_be_bytes w16 c.in-Accepted.position) (ballot c.in-Accepted.ballot ++ any_value c.in-Accepted.value)
    c.in_ok-put_u16-in-Accepted.ensures.ok a in
    let w = begun_past c.args.out.now c.put_u8-in-Accepted.new.out c.put_ballot-in-Accepted.new.out (ACCEPTED ∷ [])
    (to_be_bytes w16 c.in-Accepted.position ++ (ballot c.in-Accepted.ballot ++ any_value c.in-Accepted.value))
    c.in_ok-put_u8-in-Accepted.ensures.ok b in
    search rules
