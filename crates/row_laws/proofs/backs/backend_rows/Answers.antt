use Rattle.aeg_base.specs.declared.names.Tier.TheVariants.{Mid, Inv, Pay}
use Rattle.row_laws.proofs.BackMoves.{frame_in, leads_in, offers_in, retry_in, recovered_in, recovered_opens}
use Rattle.row_laws.proofs.backs.backend_rows.Goals as goal

pub returns-clause-frames : goal.returns-clause-frames
returns-clause-frames g c s u depth x Mid σ from message small l b codes k f = absurd b
returns-clause-frames g c s u depth x Inv σ from message small l b codes k f = frame_in s u depth Inv x σ from message small l b codes k f
returns-clause-frames g c s u depth x Pay σ from message small l b codes k f = frame_in s u depth Pay x σ from message small l b codes k f

pub returns-clause-leading : goal.returns-clause-leading
returns-clause-leading g c s u depth x Mid σ small l b codes k = absurd b
returns-clause-leading g c s u depth x Inv σ small l b codes k = leads_in s u depth Inv x σ small l b codes k
returns-clause-leading g c s u depth x Pay σ small l b codes k = leads_in s u depth Pay x σ small l b codes k

pub returns-clause-offering : goal.returns-clause-offering
returns-clause-offering g c s u depth x Mid σ small l b codes k = absurd b
returns-clause-offering g c s u depth x Inv σ small l b codes k = offers_in s u depth Inv x σ small l b codes k
returns-clause-offering g c s u depth x Pay σ small l b codes k = offers_in s u depth Pay x σ small l b codes k

pub returns-clause-retries : goal.returns-clause-retries
returns-clause-retries g c s u depth x Mid σ small l b k = absurd b
returns-clause-retries g c s u depth x Inv σ small l b k = retry_in s u depth Inv x σ small l b k
returns-clause-retries g c s u depth x Pay σ small l b k = retry_in s u depth Pay x σ small l b k

pub returns-clause-restored : goal.returns-clause-restored
returns-clause-restored g c s u depth x Mid rs b codes fit = absurd b
returns-clause-restored g c s u depth x Inv rs b codes fit = recovered_in s u Inv rs codes fit
returns-clause-restored g c s u depth x Pay rs b codes fit = recovered_in s u Pay rs codes fit

pub returns-clause-opened : goal.returns-clause-opened
returns-clause-opened g c s u depth x Mid rs b = absurd b
returns-clause-opened g c s u depth x Inv rs b = recovered_opens s u Inv rs
returns-clause-opened g c s u depth x Pay rs b = recovered_opens s u Pay rs
