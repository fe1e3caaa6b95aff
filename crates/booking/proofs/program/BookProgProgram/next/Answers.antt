use Rattle.booking.proofs.program.BookProgProgram.next.Goals as goal

pub returns-clause-follows : goal.returns-clause-follows
returns-clause-follows c = (rw c.unwrap_or.ensures at c.in_ok-action.ensures).0
