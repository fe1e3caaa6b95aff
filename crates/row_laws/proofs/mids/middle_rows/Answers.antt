use Rattle.row_laws.proofs.MidMoves.{frame_in, leads_in, offers_in, work_in}
use Rattle.row_laws.proofs.MidAgain.{retry_in, recovered_in, recovered_opens}
use Rattle.row_laws.proofs.mids.middle_rows.Goals as goal

pub returns-clause-frames : goal.returns-clause-frames
returns-clause-frames g c s u depth x σ from message small l service k f = frame_in s u depth x σ from message small l service k f

pub returns-clause-leading : goal.returns-clause-leading
returns-clause-leading g c s u depth x σ small l service k = leads_in s u depth x σ small l service k

pub returns-clause-offering : goal.returns-clause-offering
returns-clause-offering g c s u depth x σ small l service k = offers_in s u depth x σ small l service k

pub returns-clause-retries : goal.returns-clause-retries
returns-clause-retries g c s u depth x σ small l k = retry_in s u depth x σ small l k

pub returns-clause-works : goal.returns-clause-works
returns-clause-works g c s u depth x σ schedule small l service k = work_in s u depth x σ schedule small l service k

pub returns-clause-restored : goal.returns-clause-restored
returns-clause-restored g c s u depth x rs deep service fit = recovered_in s u depth x rs deep service fit

pub returns-clause-opened : goal.returns-clause-opened
returns-clause-opened g c s u depth x rs = recovered_opens s.programs u depth x rs
