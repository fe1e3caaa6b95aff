use Rattle.std.proofs.Common.{◌≡◌, ◌<◌, ℕ, length}
use Rattle.exec_model.specs.Machine.{Running}
use Rattle.exec_model.specs.Jobs.{plan_at, locks_at}
use Rattle.key_mixer.specs.Lists.{set_at}
use Rattle.exec_core.specs.States.{progress_of}
use Rattle.exec_core.proofs.run.begin_all.Given as goal

abbrev pub invariant-segments : goal.invariant-segments
invariant-segments g l = record {
  slots : length l.slots.items ≡ l.i;
  programs : (j : ℕ) → j < l.i → progress_of g.S.Prog.Program.plan l.slots.items j ≡ Running (plan_at (g.S.Service.beginning l.svc) l.segs j);
  sets : length l.sets.items ≡ l.i;
  locks : (j : ℕ) → j < l.i → set_at l.sets.items j ≡ locks_at (g.S.Service.beginning l.svc) l.segs j;
}
