use Rattle.std.proofs.Common.{◌≡◌, ◌≤◌, ◌<◌, ℕ, length, slice_index_or}
use Rattle.std.specs.Prelude.{vec_capacity}
use Rattle.kv_store.specs.Columns.{lists_of}
use Rattle.std.specs.declared.vec.Vec.{Vec}
use Rattle.std.specs.declared.alloc.Global.{Global}
use Rattle.kv_store.proofs.room.grow.Given as goal

abbrev pub invariant-each : goal.invariant-each
invariant-each l = record {
  lists : lists_of l.columns ≡ lists_of l.fn.columns;
  eight : length l.columns ≡ length l.fn.columns;
  roomy : (class : ℕ) → class < l.class → class < 8 → (v : Vec (ℕ × ℕ) Global) → l.fn.room ≤ vec_capacity (slice_index_or l.columns class v);
  kept : (class : ℕ) (v : Vec (ℕ × ℕ) Global) → vec_capacity (slice_index_or l.fn.columns class v) ≤ vec_capacity (slice_index_or l.columns class v);
}
