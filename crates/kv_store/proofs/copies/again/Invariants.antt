use Rattle.std.proofs.Common.{◌≡◌, ◌<◌, ℕ, length, get_or}
use Rattle.std.specs.declared.vec.Vec.{Vec}
use Rattle.std.specs.declared.alloc.Global.{Global}
use Rattle.kv_store.proofs.copies.again.Given as goal

abbrev pub invariant-each : goal.invariant-each
invariant-each l = record {
  eight : length l.copies ≡ 8;
  same : (k : ℕ) (v : Vec (ℕ × ℕ) Global) → k < l.class → (get_or l.copies k v).items ≡ (get_or l.columns k v).items;
}
