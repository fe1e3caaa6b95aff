-- The place of the gate that ends a journal is told by the lengths of its records.
use Rattle.std.proofs.Common.{◌≡◌, ℕ, ◌+◌, ◌≤◌, zero, suc, List, [], ◌∷◌, length, drop, Bool, true, false, cond, refl, ap, arith, length-drop}
use Rattle.std.proofs.lemmas.List.{length-take-le}
use Rattle.node_journal.specs.Journal.{told_length, body_of, is_entry, records_at, end_at, size_of, Ends}
use Rattle.node_journal.proofs.Walk.{whole_facts, entry_parts}

joined : (m t n b s : ℕ) → m + 1 ≡ 4 + t + n → b ≡ t → s ≡ 5 + b + n → suc m + 1 ≡ 0 + s
joined m t n b s p q r = omega arith

end_at-size : (k : ℕ) (bytes : List ℕ) → k ≤ length bytes → end_at k bytes + 1 ≡ k + size_of (records_at k bytes)
unfolding end_at records_at
end_at-size zero [] h = omega arith
end_at-size (suc k) [] h = absurd (omega arith)
end_at-size (suc k) (b ∷ bytes) h = let r = end_at-size k bytes (omega arith) in omega arith
end_at-size zero (g ∷ rest) h = at (λ l. end_at-size (4 + told_length rest) rest l) (is_entry g rest) refl
  where
    at : (4 + told_length rest ≤ length rest → end_at (4 + told_length rest) rest + 1 ≡ 4 + told_length rest + size_of (records_at (4 + told_length rest) rest))
        → (c : Bool) → is_entry g rest ≡ c
        → cond c (suc (end_at (4 + told_length rest) rest)) 0 + 1 ≡ 0 + size_of (cond c (body_of rest ∷ records_at (4 + told_length rest) rest) [])
    at ih true e =
        let w = whole_facts rest (entry_parts g rest e).1 in
        let r = ih (omega (arith, w.2)) in
        let long : length (body_of rest) ≡ told_length rest = length-take-le (told_length rest) (drop 4 rest) (omega (arith, w.2, length-drop 4 rest)) in
        joined (end_at (4 + told_length rest) rest) (told_length rest) (size_of (records_at (4 + told_length rest) rest)) (length (body_of rest)) _ r long refl
    at ih false e = omega arith

pub ends_size : (rs : List (List ℕ)) (at : ℕ) (bytes : List ℕ) → Ends rs at bytes → at + 1 ≡ size_of rs
ends_size rs at bytes h =
    let e = end_at-size 0 bytes (omega arith) in
    let s = ap size_of h.list in
    omega (arith, h.place, e, s)
