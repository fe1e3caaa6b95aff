-- What is kept of the tallies is enough.
use Rattle.std.proofs.Common.{◌≡◌, ℕ, ◌+◌, ◌<◌, ◌≤◌, Bool, true, false, cond, List, [], ◌∷◌, ◌++◌, refl, sym, ap, ◌∙◌, length, arith}
use Rattle.std.specs.Prelude.{nat_lt, nat_le, ◌==◌, ◌&&◌, ◌||◌}
use Rattle.std.proofs.lemmas.Bool.{cond_both, eqb-true, ltb-true, ltb-false, leb-false, le-leb, lt-leb, ne_eqb, and_parts, cond-true, cond-false}
use Rattle.aeg_base.specs.Ballots.{same_ballot}
use Rattle.aeg_base.specs.declared.names.Ballot.{Ballot}
use Rattle.log_model.specs.declared.message.PaxMsg.{PaxMsg}
use Rattle.log_model.specs.declared.message.PaxMsg.TheVariants.{Prepare, Promise, Accept, Accepted, Ask, Learn, Behind}
use Rattle.log_model.specs.World.{Packet}
use Rattle.world.specs.Tallies.{Tally, is_of, adds, counted, heard, tallied_from, tallied, tallies_from, is_chosen, Seen, seen_of, hears, grown}

tallied-last : {V : Type 0} (ts : List Tally) (xs : List (Packet V)) (k : Packet V) → tallied_from ts (xs ++ k ∷ []) ≡ heard (tallied_from ts xs) k.from k.msg
tallied-last ts [] k = refl
tallied-last ts (j ∷ xs) k = tallied-last (heard ts j.from j.msg) xs k

of_pos : (t : Tally) (p : ℕ) (b : Ballot) → is_of t p b ≡ true → t.pos ≡ p
of_pos t p b e = eqb-true t.pos p (and_parts (t.pos == p) (same_ballot t.ballot b) e).0

-- a position that is passed is not kept
passed : (n p : ℕ) (b : Ballot) (x : ℕ) (ts : List Tally) → p < n → tallies_from n (counted ts p b x) ≡ tallies_from n ts
passed n p b x [] l = cond-false (nat_le n p) _ _ (lt-leb n p l)
passed n p b x (t ∷ ts) l = cond_both (is_of t p b) (adds t x ∷ ts) (t ∷ counted ts p b x) (λ us. tallies_from n us
    ≡ cond (nat_le n t.pos) (t ∷ tallies_from n ts) (tallies_from n ts))
    (λ e. let f : nat_le n t.pos ≡ false = lt-leb n t.pos (let g : t.pos ≡ p = of_pos t p b e in omega arith) in rw f refl)
    (λ e. ap (λ z. cond (nat_le n t.pos) (t ∷ z) z) (passed n p b x ts l))

-- one that isn't passed is counted among what is kept
kept_counts : (n p : ℕ) (b : Ballot) (x : ℕ) (ts : List Tally) → n ≤ p → tallies_from n (counted ts p b x) ≡ counted (tallies_from n ts) p b x
kept_counts n p b x [] l = cond-true (nat_le n p) _ _ (le-leb n p l)
kept_counts n p b x (t ∷ ts) l = cond_both (is_of t p b) (adds t x ∷ ts) (t ∷ counted ts p b x) (λ us. tallies_from n us
    ≡ counted (cond (nat_le n t.pos) (t ∷ tallies_from n ts) (tallies_from n ts)) p b x)
    (λ e. let f : nat_le n t.pos ≡ true = le-leb n t.pos (let g : t.pos ≡ p = of_pos t p b e in omega arith) in rw (f, e) refl)
    (λ e. go (nat_le n t.pos) e (kept_counts n p b x ts l))
  where
    go : (a : Bool) → is_of t p b ≡ false → tallies_from n (counted ts p b x) ≡ counted (tallies_from n ts) p b x
        → cond a (t ∷ tallies_from n (counted ts p b x)) (tallies_from n (counted ts p b x))
        ≡ counted (cond a (t ∷ tallies_from n ts) (tallies_from n ts)) p b x
    go true e f = rw (e, f) refl
    go false e f = f

-- what is kept twice is kept from the later position on
kept_again : (n m : ℕ) (ts : List Tally) → n ≤ m → tallies_from m (tallies_from n ts) ≡ tallies_from m ts
kept_again n m [] l = refl
kept_again n m (t ∷ ts) l = go (nat_le n t.pos) refl (kept_again n m ts l)
  where
    go : (a : Bool) → nat_le n t.pos ≡ a → tallies_from m (tallies_from n ts) ≡ tallies_from m ts
        → tallies_from m (cond a (t ∷ tallies_from n ts) (tallies_from n ts))
        ≡ cond (nat_le m t.pos) (t ∷ tallies_from m ts) (tallies_from m ts)
    go true e f = ap (λ z. cond (nat_le m t.pos) (t ∷ z) z) f
    go false e f = let g : nat_le m t.pos ≡ false = lt-leb m t.pos (let h : t.pos < n = leb-false n t.pos e in omega arith) in rw g f

-- what is kept tells whether a position is chosen
kept_chosen : (u n p : ℕ) (ts : List Tally) → n ≤ p → is_chosen u (tallies_from n ts) p ≡ is_chosen u ts p
kept_chosen u n p [] l = refl
kept_chosen u n p (t ∷ ts) l = go (nat_le n t.pos) refl (kept_chosen u n p ts l)
  where
    go : (a : Bool) → nat_le n t.pos ≡ a → is_chosen u (tallies_from n ts) p ≡ is_chosen u ts p
        → is_chosen u (cond a (t ∷ tallies_from n ts) (tallies_from n ts)) p
        ≡ (((t.pos == p) && nat_lt u (length t.senders)) || is_chosen u ts p)
    go true e f = ap (λ z. ((t.pos == p) && nat_lt u (length t.senders)) || z) f
    go false e f =
        let g : (t.pos == p) ≡ false = ne_eqb t.pos p (λ h. let k : t.pos < n = leb-false n t.pos e in omega arith) in
        rw g f

hears_vote : {V : Type 0} (u : ℕ) (soup : List (Packet V)) (n x to : ℕ) (b : Ballot) (p : ℕ) (v : V)
    → hears (seen_of u soup n) x (Accepted b p v) ≡ seen_of u (soup ++ record { from = x; to = to; msg = Accepted b p v } ∷ []) n
hears_vote {V} u soup n x to b p v = cond_both (nat_lt p n) _ _ (λ s. s ≡ seen_of u (soup ++ record { from = x; to = to; msg = Accepted b p v } ∷ []) n)
    (λ e. ap seen (sym (ap (tallies_from n) last ∙ passed n p b x (tallied soup) (ltb-true p n e))))
    (λ e. ap seen (sym (ap (tallies_from n) last ∙ kept_counts n p b x (tallied soup) (ltb-false p n e))))
  where
    seen : List Tally → Seen
    seen ts = record { faults = u; chosen = n; tallies = ts }

    last : tallied (soup ++ record { from = x; to = to; msg = Accepted b p v } ∷ []) ≡ counted (tallied soup) p b x
    last = tallied-last [] soup (record { from = x; to = to; msg = Accepted b p v })

same_seen : {V : Type 0} (u : ℕ) (soup : List (Packet V)) (n : ℕ) (k : Packet V) → heard (tallied soup) k.from k.msg
    ≡ tallied soup → seen_of u soup n ≡ seen_of u (soup ++ k ∷ []) n
same_seen u soup n k e = ap (λ ts. record { faults = u; chosen = n; tallies = tallies_from n ts }) (sym (tallied-last [] soup k ∙ e))

-- one packet more
pub hears_more : {V : Type 0} (u : ℕ) (soup : List (Packet V)) (n x to : ℕ) (m : PaxMsg V)
    → hears (seen_of u soup n) x m ≡ seen_of u (soup ++ record { from = x; to = to; msg = m } ∷ []) n
hears_more u soup n x to (Accepted b p v) = hears_vote u soup n x to b p v
hears_more u soup n x to (Prepare b p) = same_seen u soup n _ refl
hears_more u soup n x to (Promise b p a) = same_seen u soup n _ refl
hears_more u soup n x to (Accept b p v) = same_seen u soup n _ refl
hears_more u soup n x to (Ask p) = same_seen u soup n _ refl
hears_more u soup n x to (Learn p v) = same_seen u soup n _ refl
hears_more u soup n x to (Behind p) = same_seen u soup n _ refl

-- the first open position is chosen, or it isn't
pub grows_by_one : {V : Type 0} (u : ℕ) (soup : List (Packet V)) (n : ℕ) → is_chosen u (tallied soup) n ≡ true
    → grown (seen_of u soup n) ≡ seen_of u soup (n + 1)
grows_by_one u soup n e =
    let f : is_chosen u (tallies_from n (tallied soup)) n ≡ true = kept_chosen u n n (tallied soup) (omega arith) ∙ e in
    cond-true (is_chosen u (tallies_from n (tallied soup)) n) _ _ f
    ∙ ap (λ ts. record { faults = u; chosen = n + 1; tallies = ts }) (kept_again n (n + 1) (tallied soup) (omega arith))

pub grows_by_none : {V : Type 0} (u : ℕ) (soup : List (Packet V)) (n : ℕ) → is_chosen u (tallied soup) n ≡ false → grown (seen_of u soup n) ≡ seen_of u soup n
grows_by_none u soup n e =
    let f : is_chosen u (tallies_from n (tallied soup)) n ≡ false = kept_chosen u n n (tallied soup) (omega arith) ∙ e in
    cond-false (is_chosen u (tallies_from n (tallied soup)) n) _ _ f

-- whether it is chosen, as it is counted
pub counts_chosen : {V : Type 0} (u : ℕ) (soup : List (Packet V)) (n : ℕ) → is_chosen u (seen_of u soup n).tallies n ≡ is_chosen u (tallied soup) n
counts_chosen u soup n = kept_chosen u n n (tallied soup) (omega arith)
