-- The grammar of pairs whose keys rise, and the loops that read them.
use Rattle.std.proofs.Common.{◌≡◌, ℕ, zero, suc, ◌+◌, ◌-◌, ◌<◌, ◌≤◌, ◌^◌, true, List, [], ◌∷◌, ◌++◌, length, Option}
use Rattle.std.proofs.Common.{Some, None, refl, sym, ap, subst, ◌∙◌, append_assoc, arith}
use Rattle.std.specs.Prelude.{nat_lt}
use Rattle.std.specs.List.{flat_map, AllByRecursion}
use Rattle.std.specs.Int.{w32, w64, to_be_bytes}
use Rattle.std.proofs.lemmas.List.{append-nil}
use Rattle.std.proofs.lemmas.List.Concat.{flat_map-cons}
use Rattle.std.proofs.lemmas.Bool.{ltb-true, lt-ltb, and_parts, and_from}
use Rattle.std.proofs.lemmas.Option.{same_Some}
use Rattle.aeg_base.specs.declared.limits.TheConstants.{KEY_CLASSES}
use Rattle.aeg_base.specs.declared.names.Key.{Key}
use Rattle.aeg_wire.specs.Fields.{Read, ◌>>=◌, byte_at, number_at}
use Rattle.aeg_wire.specs.Formats.{made, kept, both}
use Rattle.aeg_wire.proofs.Grammar.{IsBytes, Takes, Takes-then, IsGrammar, bind_some, made_some, refit, kept_grammar, made_grammar, both_grammar}
use Rattle.aeg_wire.proofs.Numbers.{one_byte, four_bytes, eight_bytes}
use Rattle.aeg_wire.proofs.Lists.{with_front}
use Rattle.log_values.specs.Outcomes.{pair, pair_at, pairs_at, is_after, rises, FitsPair}
use Rattle.log_values.specs.Reading.{left_after}
use Rattle.log_values.proofs.Passing.{left_made, none_left}

pub pair_grammar : (last : Option Key) → IsGrammar (λ p. FitsPair p × (is_after last p.0 ≡ true)) pair (pair_at last)
unfolding pair_at
pair_grammar last =
    let class = kept_grammar (λ n. n < 256) (λ n. n ∷ []) byte_at (λ n. nat_lt n KEY_CLASSES) one_byte in
    let numbers = both_grammar (λ n. n < 2 ^ 32) (λ n. to_be_bytes w32 n) (number_at w32) (λ _ n. n < 2 ^ 64)
    (λ _ n. to_be_bytes w64 n) (λ _. number_at w64) four_bytes (λ _ _. eight_bytes) in
    let all = both_grammar (λ n. (n < 256) × (nat_lt n KEY_CLASSES ≡ true)) (λ n. n ∷ []) (λ b. kept (λ n. nat_lt n KEY_CLASSES) (byte_at b))
    (λ _ p. (p.0 < 2 ^ 32) × (p.1 < 2 ^ 64)) (λ _ p. to_be_bytes w32 p.0 ++ to_be_bytes w64 p.1)
    (λ _. both (number_at w32) (λ _. number_at w64)) class (λ _ _. numbers) in
    let told = made_grammar (λ p. ((p.0 < 256) × (nat_lt p.0 KEY_CLASSES ≡ true))
    × ((p.1.0 < 2 ^ 32) × (p.1.1 < 2 ^ 64))) (λ p. (p.0 ∷ []) ++ (to_be_bytes w32 p.1.0 ++ to_be_bytes w64 p.1.1))
    (both (λ b. kept (λ n. nat_lt n KEY_CLASSES) (byte_at b)) (λ _. both (number_at w32) (λ _. number_at w64)))
    there back (λ p. refl) (λ q. refl) all in
    refit (λ q. (((q.0.class < 256) × (nat_lt q.0.class KEY_CLASSES ≡ true)) × ((q.0.id < 2 ^ 32) × (q.1 < 2 ^ 64)))
    × (is_after last q.0 ≡ true)) (λ p. FitsPair p × (is_after last p.0 ≡ true)) pair (pair_at last)
    (kept_grammar (λ q. ((q.0.class < 256) × (nat_lt q.0.class KEY_CLASSES ≡ true)) × ((q.0.id < 2 ^ 32) × (q.1 < 2 ^ 64))) pair
    (λ bytes. made there
    (both (λ b. kept (λ n. nat_lt n KEY_CLASSES) (byte_at b)) (λ _. both (number_at w32) (λ _. number_at w64))
    bytes)) (λ p. is_after last p.0) told)
    (λ q h. (((ltb-true q.0.class KEY_CLASSES h.0.0.1, h.0.1.0), h.0.1.1), h.1))
    (λ q h. (((omega (arith, h.0.0.0), lt-ltb q.0.class KEY_CLASSES h.0.0.0), (h.0.0.1, h.0.1)), h.1))
  where
    there : ℕ × (ℕ × ℕ) → Key × ℕ
    there p = (record { class = p.0; id = p.1.0 }, p.1.1)

    back : Key × ℕ → ℕ × (ℕ × ℕ)
    back q = (q.0.class, (q.0.id, q.1))

pub pairs_take : (n : ℕ) (last : Option Key) (bytes : List ℕ) (ps : List (Key × ℕ)) (rest : List ℕ) → IsBytes bytes → pairs_at last n bytes ≡ Some (ps, rest)
    → Takes bytes (flat_map pair ps) rest × ((length ps ≡ n) × (AllByRecursion FitsPair ps × (rises last ps ≡ true)))
unfolding pairs_at
pairs_take zero last bytes ps rest are e =
    subst (λ (p : List (Key × ℕ) × List ℕ). Takes bytes (flat_map pair p.0) p.1
    × ((length p.0 ≡ 0) × (AllByRecursion FitsPair p.0 × (rises last p.0 ≡ true)))) (same_Some ([], bytes) (ps, rest) e)
    (record { parts = refl; rest_fits = are }, (refl, (tt, refl)))
pairs_take (suc n) last bytes ps rest are e =
    let b = bind_some (pair_at last bytes) (λ p. made (λ others. p.0 ∷ others) (pairs_at (Some p.0.0) n p.1)) (ps, rest) e in
    let m = made_some (λ others. b.0.0 ∷ others) (pairs_at (Some b.0.0.0) n b.0.1) (ps, rest) b.2 in
    let first = (pair_grammar last).takes bytes b.0.0 b.0.1 are b.1 in
    let others = pairs_take n (Some b.0.0.0) b.0.1 m.0.0 m.0.1 first.0.rest_fits m.1 in
    let all = Takes-then bytes (pair b.0.0) b.0.1 (flat_map pair m.0.0) m.0.1 first.0 others.0 in
    subst (λ (p : List (Key × ℕ) × List ℕ). Takes bytes (flat_map pair p.0) p.1
    × ((length p.0 ≡ suc n) × (AllByRecursion FitsPair p.0 × (rises last p.0 ≡ true)))) m.2 (
      rw flat_map-cons all,
      (
        ap suc others.1.0,
        ((first.1.0, others.1.1.0), and_from (is_after last b.0.0.0) (rises (Some b.0.0.0) m.0.0) first.1.1 others.1.1.1),
      ),
    )

pub pairs_again : (ps : List (Key × ℕ)) (last : Option Key) (rest : List ℕ) → AllByRecursion FitsPair ps → rises last ps ≡ true
    → pairs_at last (length ps) (flat_map pair ps ++ rest) ≡ Some (ps, rest)
unfolding pairs_at
pairs_again [] last rest all up = refl
pairs_again (p ∷ ps) last rest all up =
    let ups = and_parts (is_after last p.0) (rises (Some p.0) ps) up in
    let regrouped : flat_map pair (p ∷ ps) ++ rest ≡ pair p ++ (flat_map pair ps ++ rest) = ap (λ (z : List ℕ). z
    ++ rest) (flat_map-cons pair p ps) ∙ append_assoc (pair p) (flat_map pair ps) rest in
    let first = (pair_grammar last).again p (flat_map pair ps ++ rest) (all.0, ups.0) in
    let others = pairs_again ps (Some p.0) rest all.1 ups.1 in
    ap (pairs_at last (suc (length ps))) regrouped
    ∙ ap (λ (r : Read (Key × ℕ)). r >>= λ q. made (λ qs. q.0 ∷ qs) (pairs_at (Some q.0.0) (length ps) q.1)) first
    ∙ ap (λ (r : Read (List (Key × ℕ))). made (λ qs. p ∷ qs) r) others

-- ---- a loop over so many pairs

regroup : (front : List (Key × ℕ)) (p : Key × ℕ) (read : Read (List (Key × ℕ)))
    → with_front front (made (λ others. p ∷ others) read) ≡ with_front (front ++ p ∷ []) read
regroup front p (Some field) = ap (λ (ps : List (Key × ℕ)). Some (ps, field.1)) (simp append_assoc)
regroup front p None = refl

pub pairs_go_on : (front : List (Key × ℕ)) (last : Option Key) (count i : ℕ) (bytes : List ℕ) (p : Key
    × ℕ) (after : List ℕ) (total : Read (List (Key × ℕ))) → i < count → pair_at last bytes ≡ Some (p, after)
    → with_front front (pairs_at last (count - i) bytes) ≡ total → with_front (front ++ p ∷ []) (pairs_at (Some p.0) (count - (i + 1)) after) ≡ total
unfolding pairs_at
pairs_go_on front last count i bytes p after total lt h so_far =
    let k : count - i ≡ suc (count - (i + 1)) = omega arith in
    let step : with_front front (pairs_at last (count - i) bytes)
    ≡ with_front (front ++ p ∷ []) (pairs_at (Some p.0) (count - (i + 1)) after) = rw (
      k,
      h,
    ) (regroup front p (pairs_at (Some p.0) (count - (i + 1)) after)) in
    sym step ∙ so_far

pub pairs_end : (front : List (Key × ℕ)) (last : Option Key) (count i : ℕ) (bytes : List ℕ)
    (total : Read (List (Key × ℕ))) → i < count → pair_at last bytes ≡ None
    → with_front front (pairs_at last (count - i) bytes) ≡ total → total ≡ None
unfolding pairs_at
pairs_end front last count i bytes total lt h so_far =
    let k : count - i ≡ suc (count - (i + 1)) = omega arith in
    let step : with_front front (pairs_at last (count - i) bytes) ≡ None = rw (k, h) refl in
    sym so_far ∙ step

pub pairs_done : (front : List (Key × ℕ)) (last : Option Key) (count i : ℕ) (bytes : List ℕ)
    (total : Read (List (Key × ℕ))) → count ≤ i → with_front front (pairs_at last (count - i) bytes) ≡ total
    → total ≡ Some (front, bytes)
unfolding pairs_at
pairs_done front last count i bytes total le so_far =
    let k : count - i ≡ 0 = omega arith in
    let step : with_front front (pairs_at last (count - i) bytes) ≡ Some (front, bytes) = rw k
    (ap (λ (ps : List (Key × ℕ)). Some (ps, bytes)) (append-nil front)) in
    sym so_far ∙ step

-- ---- a loop that passes over so many pairs

pub pairs_pass_on : (last : Option Key) (count i : ℕ) (bytes : List ℕ) (p : Key × ℕ) (after : List ℕ)
    (total : Option (List ℕ)) → i < count → pair_at last bytes ≡ Some (p, after)
    → left_after (pairs_at last (count - i) bytes) ≡ total → left_after (pairs_at (Some p.0) (count - (i + 1)) after) ≡ total
unfolding pairs_at
pairs_pass_on last count i bytes p after total lt h so_far =
    let k : count - i ≡ suc (count - (i + 1)) = omega arith in
    let step : left_after (pairs_at last (count - i) bytes)
    ≡ left_after (pairs_at (Some p.0) (count - (i + 1)) after) = rw (
      k,
      h,
    ) (left_made (λ others. p ∷ others) (pairs_at (Some p.0) (count - (i + 1)) after)) in
    sym step ∙ so_far

pub pairs_pass_end : (last : Option Key) (count i : ℕ) (bytes : List ℕ) (total : Read (List (Key × ℕ))) → i < count → pair_at last bytes ≡ None
    → left_after (pairs_at last (count - i) bytes) ≡ left_after total → total ≡ None
unfolding pairs_at
pairs_pass_end last count i bytes total lt h so_far =
    let k : count - i ≡ suc (count - (i + 1)) = omega arith in
    let step : left_after (pairs_at last (count - i) bytes) ≡ None = rw (k, h) refl in
    none_left total (sym so_far ∙ step)

pub pairs_pass_done : (last : Option Key) (count i : ℕ) (bytes : List ℕ) (total : Option (List ℕ)) → count ≤ i
    → left_after (pairs_at last (count - i) bytes) ≡ total → total ≡ Some bytes
unfolding pairs_at
pairs_pass_done last count i bytes total le so_far =
    let k : count - i ≡ 0 = omega arith in
    let step : left_after (pairs_at last (count - i) bytes) ≡ Some bytes = rw k refl in
    sym so_far ∙ step
