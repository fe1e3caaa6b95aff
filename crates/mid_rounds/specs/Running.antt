-- The run that a work makes.
use Rattle.std.specs.Prelude.{◌≡◌, ℕ, ◌≤◌, List, [], Option, Some, None, length}
use Rattle.std.specs.List.{All}
use Rattle.std.specs.declared.result.Result.{Result}
use Rattle.std.specs.declared.result.Result.TheVariants.{Ok, Err}
use Rattle.aeg_base.specs.declared.memory.Memory.{Memory}
use Rattle.exec_core.specs.Jobs.{BeginsWell}
use Rattle.exec_model.specs.declared.job.Job.{Job}
use Rattle.exec_model.specs.Jobs.{run_job}
use Rattle.round_model.specs.Service.{Programs}
use Rattle.tier_model.specs.declared.turn.RunNote.{RunNote}
use Rattle.tier_model.specs.declared.turn.Turn.{Turn}
use Rattle.tier_model.specs.declared.turn.Turn.TheVariants.{Did, Ran, Dropped, Idle}
use Rattle.tier_model.specs.Moves.{Move}
use Rattle.tier_model.specs.Mid.{Mid}
use Rattle.tier_model.specs.MidRows.{running, runs}
use Rattle.node_log.specs.declared.decided.Decided.{Decided}
use Rattle.node_log.specs.declared.member.Member.{Member}
use Rattle.node_log.specs.declared.working.Working.{Working}
use Rattle.mid_rounds.specs.declared.keeping.Keeping.{Keeping}
use Rattle.mid_rounds.specs.Deciding.{mid_in}
use Rattle.mid_rounds.specs.Mids.{steps_in}
use Rattle.mid_rounds.specs.Settlings.{segs_of}

-- the job that a work runs: that of the next round, which wasn't run yet
pub record IsNextRun (p : Programs) (m : Member) (w : Working Keeping) (job : Job) : Type 0 where
  pub round : job.round ≡ w.rest.rounds.applied
  pub first : w.rest.rounds.run ≡ None
  pub segs : segs_of p (mid_in m w) ≡ Some job.segs
  pub begins : All (BeginsWell p.begins) job.segs
  pub few : length job.segs ≤ 16

-- what is told of a run
abbrev pub note_in : Turn → Option RunNote
note_in Did = None
note_in (Ran note) = Some note
note_in (Dropped refused) = None
note_in (Idle cause) = None

-- the steps of the run that was decided on
abbrev pub steps_of : Result Decided Memory → List ℕ
steps_of (Ok d) = steps_in (Ok d.answer)
steps_of (Err e) = []

-- the move of a run of the job by these steps
abbrev pub runs_by : Programs → Member → Mid → Job → List ℕ → Move Mid
runs_by p m σ job steps = runs m.faults m.me.index σ (running p m.me.index σ (run_job p.begins job.segs σ.tables.store steps))
