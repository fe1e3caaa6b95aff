-- The groups of packets, one for each round of which some are held.
use Rattle.std.proofs.Common.{◌≡◌, ℕ, ◌+◌, ◌<◌, ◌≤◌, Bool, true, false, List, [], ◌∷◌, ◌++◌, length, refl, sym, ap, ◌∙◌}
use Rattle.std.proofs.Common.{subst, arith, Option, Some, None, zero, suc, get_or, Result, Ok, Err}
use Rattle.std.specs.Prelude.{◌==◌, not, nat_lt, cond, slice_set, position, OnOk, if◌then◌else◌}
use Rattle.std.specs.List.{remove, prefix_len}
use Rattle.std.proofs.lemmas.Bool.{eqb-true, eqb-false, eq-eqb, ne_eqb, ltb-false}
use Rattle.std.proofs.lemmas.List.Quantifiers.{position-Some}
use Rattle.spec_barrier.specs.declared.group.Group.{Group}
use Rattle.spec_barrier.specs.Barriers.{BarrierState, packets_in, held_of, no_group, RoundsDiffer}

-- WHERE A ROUND'S GROUP IS

-- the first group of the round is here
abbrev pub IsAt : {T : Type 0} → List (Group T) → ℕ → ℕ → Type 0
IsAt [] r i = ⊥
IsAt (g ∷ gs) r zero = g.round ≡ r
IsAt (g ∷ gs) r (suc i) = ((g.round == r) ≡ false) × IsAt gs r i

is_at : {T : Type 0} (gs : List (Group T)) (r i : ℕ) (d : Group T) → i < length gs → ((get_or gs i d).round == r) ≡ true
    → ((k : ℕ) → k < i → ((get_or gs k d).round == r) ≡ false) → IsAt gs r i
is_at [] r i d l t b = absurd (omega arith)
is_at (g ∷ gs) r zero d l t b = eqb-true g.round r t
is_at (g ∷ gs) r (suc i) d l t b = (b 0 (omega arith), is_at gs r i d (omega arith) t (λ k h. b (suc k) (omega arith)))

pub placed : {T : Type 0} (gs : List (Group T)) (r i : ℕ) (o : Option ℕ) → o ≡ position (λ g. g.round == r) gs → o ≡ Some i → IsAt gs r i
placed [] r i o e f = let none : o ≡ None = e in absurd (cc)
placed {T} (g ∷ gs) r i o e f =
    let p : Group T → Bool = λ h. h.round == r in
    let found = position-Some p (g ∷ gs) i g (sym e ∙ f) in
    is_at (g ∷ gs) r i g found.0 found.1 found.2

none_before : {T : Type 0} (gs : List (Group T)) (r : ℕ) → length gs ≤ prefix_len (λ g. not (g.round == r)) gs → no_group gs r ≡ true
none_before [] r l = refl
none_before {T} (g ∷ gs) r l = go (g.round == r) refl (none_before gs r)
  where
    counted : (b : Bool) → (g.round == r) ≡ b
        → prefix_len (λ (h : Group T). not (h.round == r)) (g ∷ gs) ≡ cond (not b) (1 + prefix_len (λ (h : Group T). not (h.round == r)) gs) 0
    counted b e = ap (λ b. cond (not b) (1 + prefix_len (λ (h : Group T). not (h.round == r)) gs) 0) e

    go : (b : Bool) → (g.round == r) ≡ b → (length gs ≤ prefix_len (λ (h : Group T). not (h.round == r)) gs → no_group gs r ≡ true)
        → (if b then false else no_group gs r) ≡ true
    go true e rest =
        let first : prefix_len (λ (h : Group T). not (h.round == r)) (g ∷ gs) ≡ 0 = counted true e in
        absurd (omega (arith, l, first))
    go false e rest =
        let more : prefix_len (λ (h : Group T). not (h.round == r)) (g ∷ gs) ≡ 1 + prefix_len (λ (h : Group T). not (h.round == r)) gs = counted false e in
        rest (omega (arith, l, more))

pub not_placed : {T : Type 0} (gs : List (Group T)) (r : ℕ) (o : Option ℕ) → o ≡ position (λ g. g.round == r) gs → o ≡ None → no_group gs r ≡ true
not_placed {T} gs r o e f = none_before gs r (go (nat_lt (prefix_len p gs) (length gs)) refl (sym e ∙ f))
  where
    p : Group T → Bool
    p g = not (g.round == r)

    go : (b : Bool) → nat_lt (prefix_len p gs) (length gs) ≡ b → cond b (Some (prefix_len p gs)) None ≡ None → length gs ≤ prefix_len p gs
    go true g h = absurd (cc)
    go false g h = ltb-false (prefix_len p gs) (length gs) g

-- WHAT IS HELD

pub none_held : {T : Type 0} (gs : List (Group T)) (r : ℕ) → no_group gs r ≡ true → packets_in gs r ≡ []
none_held [] r e = refl
none_held (g ∷ gs) r e = go (g.round == r) (none_held gs r) e
  where
    go : (b : Bool) → (no_group gs r ≡ true → packets_in gs r ≡ []) → (if b then false else no_group gs r) ≡ true
        → (if b then g.packets else packets_in gs r) ≡ []
    go true rest h = absurd (cc)
    go false rest h = rest h

pub held_at : {T : Type 0} (gs : List (Group T)) (r i : ℕ) (d : Group T) → IsAt gs r i → packets_in gs r ≡ (get_or gs i d).packets
held_at [] r i d k = absurd k
held_at (g ∷ gs) r zero d k = ap (λ b. if b then g.packets else packets_in gs r) (eq-eqb g.round r k)
held_at (g ∷ gs) r (suc i) d k = ap (λ b. if b then g.packets else packets_in gs r) k.0 ∙ held_at gs r i d k.1

other : (a b s : ℕ) → (a == b) ≡ false → (a == s) ≡ true → (b == s) ≡ false
other a b s e f = ne_eqb b s (λ g. eqb-false a b e (eqb-true a s f ∙ sym g))

turned : (a b : ℕ) → (a == b) ≡ false → (b == a) ≡ false
turned a b e = ne_eqb b a (λ f. eqb-false a b e (sym f))

record IsFirst {T : Type 0} (g : Group T) (gs : List (Group T)) (r : ℕ) : Type 0 where
  here : (g.round == r) ≡ false
  behind : no_group gs r ≡ true

not_first : {T : Type 0} (g : Group T) (gs : List (Group T)) (r : ℕ) → no_group (g ∷ gs) r ≡ true → IsFirst g gs r
not_first {T} g gs r e = go (g.round == r) refl e
  where
    go : (b : Bool) → (g.round == r) ≡ b → (if b then false else no_group gs r) ≡ true → IsFirst g gs r
    go true f h = absurd (cc)
    go false f h = record { here = f; behind = h }

no_group_made : {T : Type 0} (g : Group T) (gs : List (Group T)) (r : ℕ) → (g.round == r) ≡ false → no_group gs r ≡ true → no_group (g ∷ gs) r ≡ true
no_group_made g gs r e f = ap (λ b. if b then false else no_group gs r) e ∙ f

-- ONE MORE GROUP

pub pushed : {T : Type 0} (gs : List (Group T)) (g : Group T) (s : ℕ) → no_group gs g.round ≡ true
    → packets_in (gs ++ g ∷ []) s ≡ (if g.round == s then packets_in gs s ++ g.packets else packets_in gs s)
pushed [] g s e = refl
pushed {T} (h ∷ gs) g s e = let k : IsFirst h gs g.round = not_first h gs g.round e in go (h.round == s) refl k.here (pushed gs g s k.behind)
  where
    go : (b : Bool) → (h.round == s) ≡ b → (h.round == g.round) ≡ false
        → packets_in (gs ++ g ∷ []) s ≡ (if g.round == s then packets_in gs s ++ g.packets else packets_in gs s)
        → (if b then h.packets else packets_in (gs ++ g ∷ []) s)
        ≡ (if g.round == s then (if b then h.packets else packets_in gs s) ++ g.packets else (if b then h.packets else packets_in gs s))
    go true f n rest = sym (ap (λ b. if b then h.packets ++ g.packets else h.packets) (other h.round g.round s n f))
    go false f n rest = rest

no_group_pushed : {T : Type 0} (gs : List (Group T)) (g : Group T) (r : ℕ) → no_group gs r ≡ true → (g.round == r) ≡ false → no_group (gs ++ g ∷ []) r ≡ true
no_group_pushed [] g r e f = ap (λ b. if b then false else true) f
no_group_pushed (h ∷ gs) g r e f = let k : IsFirst h gs r = not_first h gs r e in no_group_made h (gs ++ g ∷ []) r k.here (no_group_pushed gs g r k.behind f)

pub pushed_differ : {T : Type 0} (gs : List (Group T)) (g : Group T) → RoundsDiffer gs → no_group gs g.round ≡ true → RoundsDiffer (gs ++ g ∷ [])
pushed_differ [] g d e = (refl, tt)
pushed_differ (h ∷ gs) g d e = let k : IsFirst h gs g.round = not_first h gs g.round e in
    (no_group_pushed gs g h.round d.0 (turned h.round g.round k.here), pushed_differ gs g d.1 k.behind)

-- A GROUP WRITTEN ANEW

pub written : {T : Type 0} (gs : List (Group T)) (g : Group T) (i s : ℕ) → IsAt gs g.round i
    → packets_in (slice_set gs i g) s ≡ (if g.round == s then g.packets else packets_in gs s)
written [] g i s k = absurd k
written {T} (h ∷ gs) g zero s k = go (g.round == s) (ap (λ z. z == s) k)
  where
    go : (b : Bool) → (h.round == s) ≡ b → (if b then g.packets else packets_in gs s) ≡ (if b then g.packets else packets_in (h ∷ gs) s)
    go true f = refl
    go false f = sym (ap (λ b. if b then h.packets else packets_in gs s) f)
written {T} (h ∷ gs) g (suc i) s k = go (h.round == s) refl (written gs g i s k.1)
  where
    go : (b : Bool) → (h.round == s) ≡ b → packets_in (slice_set gs i g) s ≡ (if g.round == s then g.packets else packets_in gs s)
        → (if b then h.packets else packets_in (slice_set gs i g) s) ≡ (if g.round == s then g.packets else (if b then h.packets else packets_in gs s))
    go true f rest = sym (ap (λ b. if b then g.packets else h.packets) (other h.round g.round s k.0 f))
    go false f rest = rest

no_group_written : {T : Type 0} (gs : List (Group T)) (g : Group T) (i r : ℕ) → IsAt gs g.round i → no_group (slice_set gs i g) r ≡ no_group gs r
no_group_written [] g i r k = absurd k
no_group_written (h ∷ gs) g zero r k = ap (λ z. if z == r then false else no_group gs r) (sym k)
no_group_written (h ∷ gs) g (suc i) r k = ap (λ z. if h.round == r then false else z) (no_group_written gs g i r k.1)

pub written_differ : {T : Type 0} (gs : List (Group T)) (g : Group T) (i : ℕ) → RoundsDiffer gs → IsAt gs g.round i → RoundsDiffer (slice_set gs i g)
written_differ [] g i d k = absurd k
written_differ (h ∷ gs) g zero d k = (subst (λ z. no_group gs z ≡ true) k d.0, d.1)
written_differ (h ∷ gs) g (suc i) d k = (no_group_written gs g i h.round k.1 ∙ d.0, written_differ gs g i d.1 k.1)

-- A GROUP GONE

pub removed : {T : Type 0} (gs : List (Group T)) (r i s : ℕ) → RoundsDiffer gs → IsAt gs r i
    → packets_in (remove gs i) s ≡ (if r == s then [] else packets_in gs s)
removed [] r i s d k = absurd k
removed {T} (g ∷ gs) r zero s d k = go (r == s) refl
  where
    go : (b : Bool) → (r == s) ≡ b → packets_in gs s ≡ (if b then [] else packets_in (g ∷ gs) s)
    go true f = none_held gs s (subst (λ z. no_group gs z ≡ true) (k ∙ eqb-true r s f) d.0)
    go false f = sym (ap (λ b. if b then g.packets else packets_in gs s) (ap (λ z. z == s) k ∙ f))
removed {T} (g ∷ gs) r (suc i) s d k = go (g.round == s) refl (removed gs r i s d.1 k.1)
  where
    go : (b : Bool) → (g.round == s) ≡ b → packets_in (remove gs i) s ≡ (if r == s then [] else packets_in gs s)
        → (if b then g.packets else packets_in (remove gs i) s) ≡ (if r == s then [] else (if b then g.packets else packets_in gs s))
    go true f rest = sym (ap (λ b. if b then [] else g.packets) (other g.round r s k.0 f))
    go false f rest = rest

no_group_removed : {T : Type 0} (gs : List (Group T)) (r i s : ℕ) → IsAt gs r i → no_group gs s ≡ true → no_group (remove gs i) s ≡ true
no_group_removed [] r i s k e = absurd k
no_group_removed (g ∷ gs) r zero s k e = let h : IsFirst g gs s = not_first g gs s e in h.behind
no_group_removed (g ∷ gs) r (suc i) s k e = let h : IsFirst g gs s = not_first g gs s e in
    no_group_made g (remove gs i) s h.here (no_group_removed gs r i s k.1 h.behind)

pub removed_differ : {T : Type 0} (gs : List (Group T)) (r i : ℕ) → RoundsDiffer gs → IsAt gs r i → RoundsDiffer (remove gs i)
removed_differ [] r i d k = absurd k
removed_differ (g ∷ gs) r zero d k = d.1
removed_differ (g ∷ gs) r (suc i) d k = (no_group_removed gs r i g.round k.1 d.0, removed_differ gs r i d.1 k.1)

-- AT THE CALLS

round_at : {T : Type 0} (gs : List (Group T)) (r i : ℕ) (d : Group T) → IsAt gs r i → (get_or gs i d).round ≡ r
round_at [] r i d k = absurd k
round_at (g ∷ gs) r zero d k = k
round_at (g ∷ gs) r (suc i) d k = round_at gs r i d k.1

-- the round's group is found
pub found : {T : Type 0} (gs now : List (Group T)) (r i : ℕ) (o : Option ℕ) → now ≡ gs → o ≡ position (λ g. g.round == r) now → o ≡ Some i → IsAt gs r i
found gs now r i o v e f = subst (λ z. IsAt z r i) v (placed now r i o e f)

pub not_found : {T : Type 0} (gs now : List (Group T)) (r : ℕ) (o : Option ℕ) → now ≡ gs → o ≡ position (λ g. g.round == r) now → o ≡ None
    → no_group gs r ≡ true
not_found gs now r o v e f = subst (λ z. no_group z r ≡ true) v (not_placed now r o e f)

pub same_at : {T : Type 0} (gs : List (Group T)) (r i : ℕ) (old new : Group T) → IsAt gs r i → old ≡ get_or gs i old → new.round ≡ old.round
    → IsAt gs new.round i
same_at gs r i old new k e f = subst (λ z. IsAt gs z i) (sym (f ∙ (ap (λ g. g.round) e ∙ round_at gs r i old k))) k

pub extended : {T : Type 0} (b : BarrierState T) (n : ℕ) (gs : List (Group T)) (r i : ℕ) (old new : Group T) (ps : List T)
    → ◌≡◌ {A = BarrierState T} (record { applied = n; groups = gs }) b → IsAt gs r i → old ≡ get_or gs i old
    → new ≡ record { round = old.round; packets = old.packets ++ ps }
    → (s : ℕ) → packets_in (slice_set gs i new) s ≡ (if r == s then held_of b s ++ ps else held_of b s)
extended {T} b n gs r i old new ps v k e f s =
    written gs new i s (same_at gs r i old new k e (ap (λ g. g.round) f))
    ∙ (ap (λ z. if z == s then new.packets else packets_in gs s) (ap (λ g. g.round) f ∙ (ap (λ g. g.round) e ∙ round_at gs r i old k))
    ∙ (go (r == s) refl ∙ ap (λ (z : BarrierState T). if r == s then held_of z s ++ ps else held_of z s) v))
  where
    go : (b : Bool) → (r == s) ≡ b → (if b then new.packets else packets_in gs s) ≡ (if b then packets_in gs s ++ ps else packets_in gs s)
    go true h = ap (λ g. g.packets) f ∙ ap (λ z. z ++ ps) (ap (λ g. g.packets) e ∙ (sym (held_at gs r i old k) ∙ ap (λ z. packets_in gs z) (eqb-true r s h)))
    go false h = refl

abbrev pub group_of : {T : Type 0} → ℕ → List T → Group T
group_of r ps = record { round = r; packets = ps }

pub added : {T : Type 0} (b : BarrierState T) (n : ℕ) (gs new : List (Group T)) (r : ℕ) (all ps : List T)
    → ◌≡◌ {A = BarrierState T} (record { applied = n; groups = gs }) b → no_group gs r ≡ true → new ≡ gs ++ group_of r all ∷ [] → all ≡ ps
    → (s : ℕ) → packets_in new s ≡ (if r == s then held_of b s ++ ps else held_of b s)
added {T} b n gs new r all ps v e f h s =
    ap (λ z. packets_in z s) f
    ∙ (pushed gs (group_of r all) s e
    ∙ (ap (λ z. if r == s then packets_in gs s ++ z else packets_in gs s) h
    ∙ ap (λ (z : BarrierState T). if r == s then held_of z s ++ ps else held_of z s) v))

pub added_differ : {T : Type 0} (gs new : List (Group T)) (r : ℕ) (all : List T) → RoundsDiffer gs → no_group gs r ≡ true
    → new ≡ gs ++ group_of r all ∷ [] → RoundsDiffer new
added_differ gs new r all d e f = subst RoundsDiffer (sym f) (pushed_differ gs (group_of r all) d e)

pub given : {T : Type 0} (b : BarrierState T) (n : ℕ) (gs : List (Group T)) (r i : ℕ) (g : Group T)
    → ◌≡◌ {A = BarrierState T} (record { applied = n; groups = gs }) b → IsAt gs r i → g ≡ get_or gs i g → g.packets ≡ held_of b r
given {T} b n gs r i g v k e = ap (λ z. z.packets) e ∙ (sym (held_at gs r i g k) ∙ ap (λ (z : BarrierState T). held_of z r) v)

pub gone : {T : Type 0} (b : BarrierState T) (n : ℕ) (gs new : List (Group T)) (r i : ℕ)
    → ◌≡◌ {A = BarrierState T} (record { applied = n; groups = gs }) b → RoundsDiffer gs → IsAt gs r i → new ≡ remove gs i
    → (s : ℕ) → packets_in new s ≡ (if r == s then [] else held_of b s)
gone {T} b n gs new r i v d k e s = ap (λ z. packets_in z s) e ∙ (removed gs r i s d k ∙ ap (λ (z : BarrierState T). if r == s then [] else held_of z s) v)

pub nothing_there : {T : Type 0} (b : BarrierState T) (n : ℕ) (gs : List (Group T)) (r : ℕ)
    → ◌≡◌ {A = BarrierState T} (record { applied = n; groups = gs }) b → no_group gs r ≡ true → held_of b r ≡ []
nothing_there {T} b n gs r v e = sym (ap (λ (z : BarrierState T). held_of z r) v) ∙ none_held gs r e

pub nothing_goes : {T : Type 0} (b : BarrierState T) (r : ℕ) → held_of b r ≡ [] → (s : ℕ) → held_of b s ≡ (if r == s then [] else held_of b s)
nothing_goes b r e s = go (r == s) refl
  where
    go : (c : Bool) → (r == s) ≡ c → held_of b s ≡ (if c then [] else held_of b s)
    go true f = ap (λ z. held_of b z) (sym (eqb-true r s f)) ∙ e
    go false f = refl

pub on_ok : {A E : Type 0} (r : Result A E) (P Q : Type 0) → OnOk r P → (P → Q) → OnOk r Q
on_ok (Ok a) P Q p f = f p
on_ok (Err e) P Q p f = tt
