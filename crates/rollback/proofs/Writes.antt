-- Pairs written one after another.
use Rattle.std.proofs.Common.{◌≡◌, ℕ, zero, suc, ◌+◌, ◌<◌, ◌≤◌, List, [], ◌∷◌, length, drop, get_or, sym, ap, ◌∙◌, arith}
use Rattle.std.proofs.lemmas.List.{drop_more}
use Rattle.std.specs.List.{AllByRecursion}
use Rattle.aeg_base.specs.declared.names.Key.{Key}
use Rattle.aeg_base.specs.Store.{Store, written, written_all}
use Rattle.kv_store.specs.Stores.{size}
use Rattle.kv_store.proofs.Sizes.{size-written}
use Rattle.log_values.specs.Outcomes.{FitsPair}

-- one more pair is written
pub written_more : (ps : List (Key × ℕ)) (k : ℕ) (d : Key × ℕ) (s s' all : Store) → k < length ps → s' ≡ written s (get_or ps k d).0 (get_or ps k d).1
    → written_all s (drop k ps) ≡ all → written_all s' (drop (k + 1) ps) ≡ all
written_more ps k d s s' all lt w h =
    ap (λ t. written_all t (drop (k + 1) ps)) w ∙ ap (written_all s) (sym (drop_more ps k d lt)) ∙ h

pub size_more : (s s' : Store) (k : Key) (v left left' room : ℕ) → s' ≡ written s k v → left' + 1 ≡ left → size s + left ≤ room → size s' + left' ≤ room
size_more s s' k v left left' room w l h = let a = size-written s k v in let b = ap (λ t. size t) w in omega arith

pub class_at : (ps : List (Key × ℕ)) (k : ℕ) (d : Key × ℕ) → AllByRecursion FitsPair ps → k < length ps → (get_or ps k d).0.class < 8
class_at [] k d h lt = absurd (omega arith)
class_at (x ∷ xs) zero d h lt = h.0.0.0
class_at (x ∷ xs) (suc k) d h lt = class_at xs k d h.1 (omega arith)
