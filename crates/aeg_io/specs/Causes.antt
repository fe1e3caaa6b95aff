-- When a call may answer that it failed.
pub use Rattle.aeg_base.specs.Faults.{Rose}
use Rattle.std.specs.Prelude.{ℕ, ◌≤◌, OnErr}
use Rattle.std.specs.declared.result.Result.{Result}

-- the count never falls, and a call fails only where it rose
pub record HasCause {T E : Type 0} (before now : ℕ) (result : Result T E) : Type 0 where
  pub later : before ≤ now
  pub failed : OnErr result (Rose before now)
