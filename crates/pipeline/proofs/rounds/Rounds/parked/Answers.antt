use Rattle.pipeline.proofs.Rising.{waiting_rise}
use Rattle.pipeline.proofs.rounds.Rounds.parked.Goals as goal

pub returns-in_err-put_calls_to-clause-rise : goal.returns-in_err-put_calls_to-clause-rise
returns-in_err-put_calls_to-clause-rise c = waiting_rise _ c.args.self.now c.self.view_is c.self.invariant

pub returns-in_err-put_calls_to-2-clause-rise : goal.returns-in_err-put_calls_to-2-clause-rise
returns-in_err-put_calls_to-2-clause-rise c = waiting_rise _ c.args.self.now c.self.view_is c.self.invariant

pub returns-in_err-put_calls_to-3-clause-rise : goal.returns-in_err-put_calls_to-3-clause-rise
returns-in_err-put_calls_to-3-clause-rise c = waiting_rise _ c.args.self.now c.self.view_is c.self.invariant

pub returns-clause-rise : goal.returns-clause-rise
returns-clause-rise c = waiting_rise _ c.args.self.now c.self.view_is c.self.invariant
