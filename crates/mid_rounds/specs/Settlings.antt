-- What a middle node makes of the next round.
use Rattle.std.specs.Prelude.{List, Option, Some, None, option_map}
use Rattle.applied_rounds.specs.declared.told.Told.{Told}
use Rattle.applied_rounds.specs.Told.{tolds}
use Rattle.exec_model.specs.declared.job.Job.{Job}
use Rattle.exec_model.specs.declared.job.Seg.{Seg}
use Rattle.round_model.specs.After.{batch_at}
use Rattle.round_model.specs.Held.{usable}
use Rattle.round_model.specs.Lists.{and_then}
use Rattle.round_model.specs.Service.{Programs}
use Rattle.round_model.specs.Tables.{job_of, wants}
use Rattle.tier_model.specs.declared.turn.Idle.{Idle}
use Rattle.tier_model.specs.declared.turn.Idle.TheVariants as why
use Rattle.tier_model.specs.Mid.{Mid, Ready}
use Rattle.mid_rounds.specs.declared.applying.Settling.{Settling}
use Rattle.mid_rounds.specs.declared.applying.Settling.TheVariants.{Applied, NoAnswer, Waits}
use Rattle.mid_rounds.specs.declared.running.Next.{Next}
use Rattle.mid_rounds.specs.declared.running.Next.TheVariants as nexts

-- what the round tells that was applied
abbrev pub told_by : Settling → Option (List Told)
told_by (Applied told) = Some told.items
told_by (NoAnswer tier num) = None
told_by Waits = None

-- what a round tells that can be applied
abbrev pub tells_of : Mid → Option Ready → Option (List Told)
tells_of σ round = option_map (λ r. tolds σ.tables.next r.wants r.finish.ends) round

-- why no round was applied
abbrev pub settling_cause : Settling → Option Idle
settling_cause (Applied told) = None
settling_cause (NoAnswer tier num) = Some (why.NoAnswer tier num)
settling_cause Waits = Some why.Nothing

-- the job that is to be run
abbrev pub job_next : Next → Option Job
job_next (nexts.Run job) = Some job
job_next (nexts.Idle cause) = None

-- why none is
abbrev pub cause_next : Next → Option Idle
cause_next (nexts.Run job) = None
cause_next (nexts.Idle cause) = Some cause

-- the next round's job, where its batch is learned and each answer is usable
abbrev pub segs_of : Programs → Mid → Option (List Seg)
segs_of m σ = and_then (batch_at σ.log.learned σ.applied) (λ es. job_of (usable σ.held) (wants m σ.tables es))
