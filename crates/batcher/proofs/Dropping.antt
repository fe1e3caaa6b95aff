-- Requests that are done are dropped place by place.
use Rattle.std.proofs.Common.{◌≡◌, ℕ, ◌+◌, ◌<◌, ◌≤◌, Bool, true, false, List, [], ◌∷◌, length, refl, sym, ap, ◌∙◌, arith, Option, Some, None, zero, suc, get_or}
use Rattle.std.specs.Prelude.{slice_set, nat_le, if◌then◌else◌}
use Rattle.log_values.specs.declared.entry.Entry.{Entry}
use Rattle.round_model.specs.Lists.{at, put_at}
use Rattle.round_model.specs.Tables.{pending_of, last_of, not_done, drop_done}
use Rattle.batcher.specs.Waiting.{IsAt, ArePending}
use Rattle.batcher.proofs.Places.{read, write}

-- those of the places below n are dropped
abbrev pub done_below : ℕ → List ℕ → List (Option Entry) → List (Option Entry)
done_below zero last pending = pending
done_below (suc n) last [] = []
done_below (suc n) [] (o ∷ pending) = not_done 0 o ∷ done_below n [] pending
done_below (suc n) (l ∷ last) (o ∷ pending) = not_done l o ∷ done_below n last pending

-- the next place, dropped where it is done
one_more : (n : ℕ) (last : List ℕ) (pending : List (Option Entry)) → n < length pending
    → put_at None (done_below n last pending) n (not_done (last_of last n) (pending_of (done_below n last pending) n)) ≡ done_below (suc n) last pending
one_more n last [] l = absurd (omega arith)
one_more zero [] (o ∷ pending) l = refl
one_more zero (m ∷ last) (o ∷ pending) l = refl
one_more (suc n) [] (o ∷ pending) l = ap (λ z. not_done 0 o ∷ z) (one_more n [] pending (omega arith))
one_more (suc n) (m ∷ last) (o ∷ pending) l = ap (λ z. not_done m o ∷ z) (one_more n last pending (omega arith))

all_below : (n : ℕ) (last : List ℕ) (pending : List (Option Entry)) → length pending ≤ n → done_below n last pending ≡ drop_done last pending
all_below n last [] l = none n
  where
    none : (n : ℕ) → done_below n last [] ≡ drop_done last []
    none zero = refl
    none (suc n) = refl
all_below zero last (o ∷ pending) l = absurd (omega arith)
all_below (suc n) [] (o ∷ pending) l = ap (λ z. not_done 0 o ∷ z) (all_below n [] pending (omega arith))
all_below (suc n) (m ∷ last) (o ∷ pending) l = ap (λ z. not_done m o ∷ z) (all_below n last pending (omega arith))

-- nobody stands at place 0
pub nothing_yet : (last : List ℕ) (pending : List (Option Entry)) → pending_of pending 0 ≡ None → pending ≡ done_below 1 last pending
nothing_yet last [] e = refl
nothing_yet [] (o ∷ pending) e = ap (λ z. z ∷ pending) (e ∙ sym (ap (λ z. not_done 0 z) e))
nothing_yet (m ∷ last) (o ∷ pending) e = ap (λ z. z ∷ pending) (e ∙ sym (ap (λ z. not_done m z) e))

pub next_done : (last : List ℕ) (pending old new : List (Option Entry)) (n k : ℕ) → length pending ≡ 17 → n < 16
    → old ≡ done_below (suc n) last pending → k ≡ last_of last (n + 1)
    → new ≡ put_at None old (n + 1) (not_done k (pending_of old (n + 1))) → new ≡ done_below (suc (n + 1)) last pending
next_done last pending old new n k l less e f g =
    let one : n + 1 ≡ suc n = omega arith in
    g ∙ (ap (λ z. put_at None old (n + 1) (not_done z (pending_of old (n + 1)))) f
    ∙ (ap (λ m. put_at None old m (not_done (last_of last m) (pending_of old m))) one
    ∙ (ap (λ z. put_at None z (suc n) (not_done (last_of last (suc n)) (pending_of z (suc n)))) e
    ∙ (one_more (suc n) last pending (omega arith)
    ∙ sym (ap (λ m. done_below (suc m) last pending) one)))))

pub all_done : (last : List ℕ) (pending now : List (Option Entry)) (n : ℕ) → length pending ≡ 17 → n ≡ 16 → now ≡ done_below (suc n) last pending
    → now ≡ drop_done last pending
all_done last pending now n l e f = f ∙ all_below (suc n) last pending (omega (arith, l, e))

at_done : (last : List ℕ) (pending : List (Option Entry)) (p : ℕ) → pending_of (drop_done last pending) p ≡ not_done (last_of last p) (pending_of pending p)
at_done last [] p = refl
at_done [] (o ∷ pending) zero = refl
at_done [] (o ∷ pending) (suc p) = at_done [] pending p
at_done (m ∷ last) (o ∷ pending) zero = refl
at_done (m ∷ last) (o ∷ pending) (suc p) = at_done last pending p

length-drop_done : (last : List ℕ) (pending : List (Option Entry)) → length (drop_done last pending) ≡ length pending
length-drop_done last [] = refl
length-drop_done [] (o ∷ pending) = ap suc (length-drop_done [] pending)
length-drop_done (m ∷ last) (o ∷ pending) = ap suc (length-drop_done last pending)

kept_is : (n : ℕ) (o : Option Entry) (e : Entry) → not_done n o ≡ Some e → o ≡ Some e
kept_is n None e f = f
kept_is n (Some g) e f = go (nat_le g.seq n) f
  where
    go : (b : Bool) → (if b then None else Some g) ≡ Some e → Some g ≡ Some e
    go true h = absurd (cc)
    go false h = h

-- what is left stands at its clients' places
pub left_stands : (last : List ℕ) (pending : List (Option Entry)) → ArePending pending → ArePending (drop_done last pending)
left_stands last pending k = record { places = length-drop_done last pending ∙ k.places; stand = stand }
  where
    stand : (p : ℕ) (e : Entry) → pending_of (drop_done last pending) p ≡ Some e → IsAt p e
    stand p e h = k.stand p e (kept_is (last_of last p) (pending_of pending p) e (sym (at_done last pending p) ∙ h))

pub nobody_first : (pending : List (Option Entry)) → ArePending pending → pending_of pending 0 ≡ None
nobody_first pending k = go (pending_of pending 0) refl
  where
    go : (o : Option Entry) → pending_of pending 0 ≡ o → o ≡ None
    go None e = refl
    go (Some g) e = let own = k.stand 0 g e in absurd (omega (arith, own.own, own.client.0))

-- one place, where the entry is done and where it stays
put_same : {A : Type 0} (d : A) (xs : List A) (i : ℕ) → i < length xs → xs ≡ put_at d xs i (at d xs i)
put_same d [] i l = absurd (omega arith)
put_same d (x ∷ xs) zero l = refl
put_same d (x ∷ xs) (suc i) l = ap (λ ys. x ∷ ys) (put_same d xs i (omega arith))

here : (xs : List (Option Entry)) (i c : ℕ) (d : Option Entry) → length xs ≡ 17 → i ≡ c → c ≤ 16 → get_or xs i d ≡ pending_of xs c
here xs i c d n s l = read None d xs xs i c refl n s l

pub place_dropped : (xs : List (Option Entry)) (i c n : ℕ) (d : Option Entry) (stays : Bool) → length xs ≡ 17 → i ≡ c → c ≤ 16
    → not_done n (get_or xs i d) ≡ (if stays then get_or xs i d else None) → stays ≡ false
    → slice_set xs i None ≡ put_at None xs c (not_done n (pending_of xs c))
place_dropped xs i c n d stays k s l e f =
    let gone : None ≡ not_done n (pending_of xs c) =
    sym (sym (ap (λ z. not_done n z) (here xs i c d k s l)) ∙ (e ∙ ap (λ b. if b then get_or xs i d else None) f)) in
    write None xs xs i c None refl k s l ∙ ap (λ z. put_at None xs c z) gone

pub place_stays : (xs : List (Option Entry)) (i c n : ℕ) (d : Option Entry) (stays : Bool) → length xs ≡ 17 → i ≡ c → c ≤ 16
    → not_done n (get_or xs i d) ≡ (if stays then get_or xs i d else None) → stays ≡ true
    → xs ≡ put_at None xs c (not_done n (pending_of xs c))
place_stays xs i c n d stays k s l e f =
    let there : get_or xs i d ≡ pending_of xs c = here xs i c d k s l in
    let same : pending_of xs c ≡ not_done n (pending_of xs c) =
    sym (sym (ap (λ z. not_done n z) there) ∙ (e ∙ (ap (λ b. if b then get_or xs i d else None) f ∙ there))) in
    put_same None xs c (omega (arith, k)) ∙ ap (λ z. put_at None xs c z) same
