-- What a middle log and answers come to, round by round. It never looks at a token.
use Rattle.std.specs.Prelude.{ℕ, zero, suc, ◌+◌, ◌*◌, List, length, slice_get, Option, Some, None, if◌then◌else◌}
use Rattle.exec_model.specs.declared.job.Seg.{Seg}
use Rattle.log_values.specs.declared.any_value.AnyValue.{AnyValue}
use Rattle.log_values.specs.declared.any_value.AnyValue.TheVariants.{Mid, Back}
use Rattle.log_values.specs.declared.mid_value.MidValue.TheVariants.{Batch, Verdict as Decided}
use Rattle.log_values.specs.declared.mid_value.Verdict.{Verdict}
use Rattle.log_values.specs.declared.mid_value.Verdict.TheVariants.{Commit, Serial}
use Rattle.log_values.specs.declared.entry.Entry.{Entry}
use Rattle.round_model.specs.Lists.{and_then, below}
use Rattle.round_model.specs.Service.{Programs, finish, is_order}
use Rattle.round_model.specs.Tables.{Tables, tables0, Want, wants, Codes, job_of, settled}

abbrev pub batch_in : Option AnyValue → Option (List Entry)
batch_in None = None
batch_in (Some (Back v)) = None
batch_in (Some (Mid (Batch es))) = Some es
batch_in (Some (Mid (Decided v))) = None

abbrev pub verdict_in : Option AnyValue → Option Verdict
verdict_in None = None
verdict_in (Some (Back v)) = None
verdict_in (Some (Mid (Batch es))) = None
verdict_in (Some (Mid (Decided v))) = Some v

-- the batch of round r, and its verdict
abbrev pub batch_at : List AnyValue → ℕ → Option (List Entry)
batch_at L r = batch_in (slice_get L (2 * r))

abbrev pub verdict_at : List AnyValue → ℕ → Option Verdict
verdict_at L r = verdict_in (slice_get L (2 * r + 1))

-- the order in a Commit, or job order
abbrev pub order_in : ℕ → Verdict → List ℕ
order_in n (Commit token order) = order
order_in n Serial = below n

-- a round: the tables before it, what its segments want, and its job
pub record Round : Type 0 where
  pub tables : Tables
  pub wants : List Want
  pub job : List Seg

-- the round that stands at these tables, where its batch is there and its answers are
abbrev pub round_at : Programs → List AnyValue → Codes → ℕ → Tables → Option Round
round_at m L A r T = and_then (batch_at L r) (λ es. and_then (job_of A (wants m T es)) (λ J. Some (record { tables = T; wants = wants m T es; job = J })))

abbrev pub done_by : Programs → Round → List ℕ → Option Tables
done_by m R order = if is_order (length R.job) order then Some (settled R.tables R.wants (finish m R.job order R.tables.store)) else None

-- the tables after the round, by its verdict
abbrev pub done : Programs → Round → Verdict → Option Tables
done m R v = done_by m R (order_in (length R.job) v)

-- Store and tables once rounds 0 to a-1 are done. There are none where the log is too short, an answer of a job is
-- missing, or an order is none of its job.
abbrev pub after : Programs → ℕ → List AnyValue → Codes → ℕ → Option Tables
after m D L A zero = Some (tables0 D)
after m D L A (suc r) = and_then (after m D L A r) (λ T. and_then (round_at m L A r T) (λ R. and_then (verdict_at L r) (done m R)))

-- round r
abbrev pub round : Programs → ℕ → List AnyValue → Codes → ℕ → Option Round
round m D L A r = and_then (after m D L A r) (round_at m L A r)
