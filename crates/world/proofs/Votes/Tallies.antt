-- A position is chosen among the packets of a tier's log exactly where a tally of it has more than u senders.
use Rattle.std.proofs.Common.{◌≡◌, ℕ, ◌+◌, ◌*◌, ◌<◌, ◌≤◌, Bool, true, false, cond, List, [], ◌∷◌, ◌++◌, refl, sym, ◌∙◌}
use Rattle.std.proofs.Common.{subst, inl, inr, length, arith, append_assoc, append-nil, Option, Some, None, zero, suc}
use Rattle.std.specs.Prelude.{nat_lt, ◌==◌, ◌&&◌, ◌||◌, ◌⊎◌, slice_get}
use Rattle.std.proofs.lemmas.Bool.{cond_both, eq-eqb, eqb-true, ltb-true, lt-ltb, and_parts, and_from, or_cases, or_left, or_right}
use Rattle.aeg_base.specs.Ballots.{same_ballot}
use Rattle.aeg_base.specs.declared.names.Ballot.{Ballot}
use Rattle.log_model.specs.declared.message.PaxMsg.{PaxMsg}
use Rattle.log_model.specs.declared.message.PaxMsg.TheVariants.{Prepare, Promise, Accept, Accepted, Ask, Learn, Behind}
use Rattle.log_model.specs.Log.{count_below}
use Rattle.log_model.specs.World.{Packet}
use Rattle.log_model.specs.Chosen.{is_vote, has_sent, chosen_among, Meets}
use Rattle.log_model.proofs.Basics.{Every, every-weaker, count-more}
use Rattle.log_model.proofs.Ballots.{same_true, same_refl}
use Rattle.log_model.proofs.Soup.{has_sent-append}
use Rattle.log_model.proofs.Chosen.{IsSomething, now_meets, meets_now}
use Rattle.svc_api.specs.Orders.{mem}
use Rattle.world.specs.Tallies.{Tally, with_sender, is_of, adds, counted, heard, tallied_from, tallied, is_chosen}
use Rattle.world.proofs.Votes.DistinctSenders.{count-none, with_mem, with_size}

-- ONE TALLY

-- the senders of the first tally of the ballot at the position
abbrev senders_of : List Tally → ℕ → Ballot → List ℕ
senders_of [] p b = []
senders_of (t ∷ ts) p b = cond (is_of t p b) t.senders (senders_of ts p b)

of_parts : (t : Tally) (p : ℕ) (b : Ballot) → is_of t p b ≡ true → (t.pos ≡ p) × (t.ballot ≡ b)
of_parts t p b e = let r = and_parts (t.pos == p) (same_ballot t.ballot b) e in (eqb-true t.pos p r.0, same_true t.ballot b r.1)

-- each of its senders has sent it, and it stands in it once
record TallyTells {V : Type 0} (n : ℕ) (soup : List (Packet V)) (t : Tally) : Type 0 where
  sent : (y : ℕ) → mem y t.senders ≡ true → has_sent soup t.pos t.ballot y ≡ true
  size : length t.senders ≡ count_below n (λ y. mem y t.senders)

tells_later : {V : Type 0} (n : ℕ) (xs ys : List (Packet V)) (t : Tally) → TallyTells n xs t → TallyTells n (xs ++ ys) t
tells_later n xs ys t k = record { sent = λ y e. has_sent-append xs ys t.pos t.ballot y (k.sent y e); size = k.size }

begun_tells : {V : Type 0} (n : ℕ) (soup : List (Packet V)) (p : ℕ) (b : Ballot) (x : ℕ) → x < n
    → has_sent soup p b x ≡ true → TallyTells n soup (record { pos = p; ballot = b; senders = x ∷ [] })
begun_tells n soup p b x l e = record { sent = λ y f. sent y (or_cases (x == y) false f); size = with_size n [] x l (sym (count-none n)) }
  where
    sent : (y : ℕ) → ((x == y) ≡ true) ⊎ (false ≡ true) → has_sent soup p b y ≡ true
    sent y (inl f) = subst (λ z. has_sent soup p b z ≡ true) (eqb-true x y f) e
    sent y (inr f) = absurd (cc)

adds_tells : {V : Type 0} (n : ℕ) (soup : List (Packet V)) (t : Tally) (x : ℕ) → x < n
    → has_sent soup t.pos t.ballot x ≡ true → TallyTells n soup t → TallyTells n soup (adds t x)
adds_tells n soup t x l e k = record {
  sent = λ y f. sent y
      (or_cases (x == y) (mem y t.senders) (sym (with_mem t.senders x y) ∙ f));
  size = with_size n t.senders x l k.size;
}
  where
    sent : (y : ℕ) → ((x == y) ≡ true) ⊎ (mem y t.senders ≡ true) → has_sent soup t.pos t.ballot y ≡ true
    sent y (inl f) = subst (λ z. has_sent soup t.pos t.ballot z ≡ true) (eqb-true x y f) e
    sent y (inr f) = k.sent y f

-- ALL TALLIES

-- each tally tells what was sent, and whoever sent something stands in its tally
record Tells {V : Type 0} (n : ℕ) (soup : List (Packet V)) (ts : List Tally) : Type 0 where
  each : Every (TallyTells n soup) ts
  all : (p : ℕ) (b : Ballot) (y : ℕ) → has_sent soup p b y ≡ true → mem y (senders_of ts p b) ≡ true

counted_each : {V : Type 0} (n : ℕ) (soup : List (Packet V)) (ts : List Tally) (p : ℕ) (b : Ballot) (x : ℕ) → x < n
    → has_sent soup p b x ≡ true → Every (TallyTells n soup) ts → Every (TallyTells n soup) (counted ts p b x)
counted_each n soup [] p b x l e k = (begun_tells n soup p b x l e, tt)
counted_each n soup (t ∷ ts) p b x l e k = cond_both (is_of t p b) (adds t x ∷ ts) (t ∷ counted ts p b x) (Every (TallyTells n soup))
    (λ f. (adds_tells n soup t x l (let r = of_parts t p b f in rw (r.0, r.1) e) k.0, k.1))
    (λ f. (k.0, counted_each n soup ts p b x l e k.1))

keeps_first : (a : Bool) (y : ℕ) (s z r : List ℕ) → (mem y s ≡ true → mem y z ≡ true) → mem y (cond a s r) ≡ true → mem y (cond a z r) ≡ true
keeps_first true y s z r h e = h e
keeps_first false y s z r h e = e

keeps_rest : (a : Bool) (y : ℕ) (s r z : List ℕ) → (mem y r ≡ true → mem y z ≡ true) → mem y (cond a s r) ≡ true → mem y (cond a s z) ≡ true
keeps_rest true y s r z h e = e
keeps_rest false y s r z h e = h e

counted_keeps : (ts : List Tally) (q : ℕ) (c : Ballot) (x p : ℕ) (b : Ballot) (y : ℕ) → mem y (senders_of ts p b) ≡ true
    → mem y (senders_of (counted ts q c x) p b) ≡ true
counted_keeps [] q c x p b y e = absurd (cc)
counted_keeps (t ∷ ts) q c x p b y e = cond_both (is_of t q c) (adds t x ∷ ts) (t ∷ counted ts q c x) (λ us. mem y (senders_of us p b) ≡ true)
    (λ f. keeps_first (is_of t p b) y t.senders (with_sender t.senders x) (senders_of ts p b)
    (λ g. with_mem t.senders x y ∙ or_right (x == y) (mem y t.senders) g) e)
    (λ f. keeps_rest (is_of t p b) y t.senders (senders_of ts p b) (senders_of (counted ts q c x) p b) (counted_keeps ts q c x p b y) e)

counted_has : (ts : List Tally) (p : ℕ) (b : Ballot) (x : ℕ) → mem x (senders_of (counted ts p b x) p b) ≡ true
counted_has [] p b x =
    let here : ((p == p) && same_ballot b b) ≡ true = and_from (p == p) (same_ballot b b) (eq-eqb p p refl) (same_refl b) in
    rw here (or_left (x == x) false (eq-eqb x x refl))
counted_has (t ∷ ts) p b x = cond_both (is_of t p b) (adds t x ∷ ts) (t ∷ counted ts p b x) (λ us. mem x (senders_of us p b) ≡ true)
    (λ f. rw f (with_mem t.senders x x ∙ or_left (x == x) (mem x t.senders) (eq-eqb x x refl)))
    (λ f. rw f (counted_has ts p b x))

-- ONE PACKET MORE

sent_last : {V : Type 0} (xs : List (Packet V)) (k : Packet V) (p : ℕ) (b : Ballot) (y : ℕ)
    → has_sent (xs ++ k ∷ []) p b y ≡ true → (has_sent xs p b y ≡ true) ⊎ (is_vote p b y k.msg k.from ≡ true)
sent_last [] k p b y e = go (is_vote p b y k.msg k.from) e
  where
    go : (a : Bool) → cond a true false ≡ true → (false ≡ true) ⊎ (a ≡ true)
    go true e = inr refl
    go false e = absurd (cc)
sent_last {V} (j ∷ xs) k p b y e = go (is_vote p b y j.msg j.from) e (sent_last xs k p b y)
  where
    go : (a : Bool) → cond a true (has_sent (xs ++ k ∷ []) p b y) ≡ true
        → (has_sent (xs ++ k ∷ []) p b y ≡ true → (has_sent xs p b y ≡ true) ⊎ (is_vote p b y k.msg k.from ≡ true))
        → (cond a true (has_sent xs p b y) ≡ true) ⊎ (is_vote p b y k.msg k.from ≡ true)
    go true e rec = inl refl
    go false e rec = rec e

last_sent : {V : Type 0} (xs : List (Packet V)) (k : Packet V) (p : ℕ) (b : Ballot) (y : ℕ)
    → is_vote p b y k.msg k.from ≡ true → has_sent (xs ++ k ∷ []) p b y ≡ true
last_sent [] k p b y e = rw e refl
last_sent {V} (j ∷ xs) k p b y e = go (is_vote p b y j.msg j.from) (last_sent xs k p b y e)
  where
    go : (a : Bool) → has_sent (xs ++ k ∷ []) p b y ≡ true → cond a true (has_sent (xs ++ k ∷ []) p b y) ≡ true
    go true f = refl
    go false f = f

vote_parts : (from p q y : ℕ) (b c : Ballot) → (from == y && (q == p && same_ballot c b)) ≡ true → (from ≡ y) × (q ≡ p) × (c ≡ b)
vote_parts from p q y b c e =
    let r = and_parts (from == y) (q == p && same_ballot c b) e in
    let s = and_parts (q == p) (same_ballot c b) r.1 in
    (eqb-true from y r.0, eqb-true q p s.0, same_true c b s.1)

own_vote : (x p : ℕ) (b : Ballot) → (x == x && (p == p && same_ballot b b)) ≡ true
own_vote x p b = and_from (x == x) (p == p && same_ballot b b) (eq-eqb x x refl) (and_from (p == p) (same_ballot b b) (eq-eqb p p refl) (same_refl b))

-- a packet that is no Accepted
other_tells : {V : Type 0} (n : ℕ) (soup : List (Packet V)) (ts : List Tally) (k : Packet V)
    → ((p : ℕ) (b : Ballot) (y : ℕ) → is_vote p b y k.msg k.from ≡ false) → Tells n soup ts → Tells n (soup ++ k ∷ []) ts
other_tells {V} n soup ts k none i = record {
  each = every-weaker (TallyTells n soup) (TallyTells n (soup ++ k ∷ [])) (λ t. tells_later n soup (k ∷ []) t) ts i.each;
  all = λ p b y e. go p b y (sent_last soup k p b y e);
}
  where
    go : (p : ℕ) (b : Ballot) (y : ℕ) → (has_sent soup p b y ≡ true) ⊎ (is_vote p b y k.msg k.from ≡ true) → mem y (senders_of ts p b) ≡ true
    go p b y (inl e) = i.all p b y e
    go p b y (inr e) = absurd (let f : is_vote p b y k.msg k.from ≡ false = none p b y in cc)

vote_tells : {V : Type 0} (n : ℕ) (soup : List (Packet V)) (ts : List Tally) (x to : ℕ) (b : Ballot) (p : ℕ) (v : V)
    → x < n → Tells n soup ts → Tells n (soup ++ record { from = x; to = to; msg = Accepted b p v } ∷ []) (counted ts p b x)
vote_tells {V} n soup ts x to b p v l i = record {
  each = counted_each n (soup ++ last ∷ []) ts p b x l (last_sent soup last p b x (own_vote x p b))
      (every-weaker (TallyTells n soup) (TallyTells n (soup ++ last ∷ [])) (λ t. tells_later n soup (last ∷ []) t) ts i.each);
  all = λ q c y e. go q c y (sent_last soup last q c y e);
}
  where
    last : Packet V
    last = record { from = x; to = to; msg = Accepted b p v }

    go : (q : ℕ) (c : Ballot) (y : ℕ) → (has_sent soup q c y ≡ true) ⊎ ((x == y && (p == q && same_ballot b c)) ≡ true)
        → mem y (senders_of (counted ts p b x) q c) ≡ true
    go q c y (inl e) = counted_keeps ts p b x q c y (i.all q c y e)
    go q c y (inr e) = let r = vote_parts x q p y c b e in rw (← r.0, ← r.1, ← r.2) (counted_has ts p b x)

heard_tells : {V : Type 0} (n : ℕ) (soup : List (Packet V)) (ts : List Tally) (x to : ℕ) (m : PaxMsg V) → x < n
    → Tells n soup ts → Tells n (soup ++ record { from = x; to = to; msg = m } ∷ []) (heard ts x m)
heard_tells n soup ts x to (Accepted b p v) l i = vote_tells n soup ts x to b p v l i
heard_tells n soup ts x to (Prepare b p) l i = other_tells n soup ts _ (λ p b y. refl) i
heard_tells n soup ts x to (Promise b p a) l i = other_tells n soup ts _ (λ p b y. refl) i
heard_tells n soup ts x to (Accept b p v) l i = other_tells n soup ts _ (λ p b y. refl) i
heard_tells n soup ts x to (Ask p) l i = other_tells n soup ts _ (λ p b y. refl) i
heard_tells n soup ts x to (Learn p v) l i = other_tells n soup ts _ (λ p b y. refl) i
heard_tells n soup ts x to (Behind p) l i = other_tells n soup ts _ (λ p b y. refl) i

-- each of the packets is of a node of the tier
abbrev pub AreFrom : {V : Type 0} → ℕ → List (Packet V) → Type 0
AreFrom n soup = Every (λ k. k.from < n) soup

tallied_tells : {V : Type 0} (n : ℕ) (done ks : List (Packet V)) (ts : List Tally) → AreFrom n ks → Tells n done ts → Tells n (done ++ ks) (tallied_from ts ks)
tallied_tells n done [] ts l i = rw append-nil i
tallied_tells n done (k ∷ ks) ts l i = rw (← append_assoc done (k ∷ []) ks)
    (tallied_tells n (done ++ k ∷ []) ks (heard ts k.from k.msg) l.1 (heard_tells n done ts k.from k.to k.msg l.0 i))

start_tells : {V : Type 0} (n : ℕ) → Tells {V = V} n [] []
start_tells n = record { each = tt; all = λ p b y e. absurd (cc) }

tells : {V : Type 0} (n : ℕ) (soup : List (Packet V)) → AreFrom n soup → Tells n soup (tallied soup)
tells n soup l = tallied_tells n [] soup [] l (start_tells n)

-- WHAT IS CHOSEN

-- a packet by which the node has sent it
sent_is : {V : Type 0} (ks : List (Packet V)) (p : ℕ) (b : Ballot) (y : ℕ) → has_sent ks p b y ≡ true → (i : ℕ)
    × (k : Packet V) × (v : V) × (slice_get ks i ≡ Some k) × (k.msg ≡ Accepted b p v)
sent_is [] p b y e = absurd (cc)
sent_is {V} (j ∷ ks) p b y e = go (is_vote p b y j.msg j.from) refl e (sent_is ks p b y)
  where
    is : (m : PaxMsg V) → is_vote p b y m j.from ≡ true → (v : V) × (m ≡ Accepted b p v)
    is (Accepted c q v) f = let r = vote_parts j.from p q y b c f in (v, rw (r.1, r.2) refl)
    is (Prepare c q) f = absurd (cc)
    is (Promise c q a) f = absurd (cc)
    is (Accept c q v) f = absurd (cc)
    is (Ask q) f = absurd (cc)
    is (Learn q v) f = absurd (cc)
    is (Behind q) f = absurd (cc)

    go : (a : Bool) → is_vote p b y j.msg j.from ≡ a → cond a true (has_sent ks p b y) ≡ true
        → (has_sent ks p b y ≡ true → (i : ℕ) × (k : Packet V) × (v : V) × (slice_get ks i ≡ Some k) × (k.msg ≡ Accepted b p v))
        → (i : ℕ) × (k : Packet V) × (v : V) × (slice_get (j ∷ ks) i ≡ Some k) × (k.msg ≡ Accepted b p v)
    go true f e rec = let r = is j.msg f in (zero, j, r.0, refl, r.1)
    go false f e rec = let r = rec e in (suc r.0, r.1, r.2, r.3, r.4)

-- who has sent a ballot that more than u nodes have sent
record Reached {V : Type 0} (u n : ℕ) (soup : List (Packet V)) (p : ℕ) : Type 0 where
  ballot : Ballot
  node : ℕ
  sent : has_sent soup p ballot node ≡ true
  many : u < count_below n (has_sent soup p ballot)

reached_here : {V : Type 0} (u n : ℕ) (soup : List (Packet V)) (p : ℕ) (t : Tally) → TallyTells n soup t
    → ((t.pos == p) && nat_lt u (length t.senders)) ≡ true → Reached u n soup p
reached_here u n soup p t k e =
    let r = and_parts (t.pos == p) (nat_lt u (length t.senders)) e in
    let at : t.pos ≡ p = eqb-true t.pos p r.0 in
    let more : count_below n (λ y. mem y t.senders) ≤ count_below n (has_sent soup t.pos t.ballot) = count-more n
    (λ y. mem y t.senders) (has_sent soup t.pos t.ballot) k.sent in
    let over : u < length t.senders = ltb-true u (length t.senders) r.1 in
    let many : u < count_below n (has_sent soup t.pos t.ballot) = omega (arith, over, k.size, more) in
    go t.senders (omega (arith, over)) k.sent at many
  where
    go : (s : List ℕ) → 0 < length s → ((y : ℕ) → mem y s ≡ true → has_sent soup t.pos t.ballot y ≡ true) → t.pos ≡ p
        → u < count_below n (has_sent soup t.pos t.ballot) → Reached u n soup p
    go [] l h at many = absurd (omega arith)
    go (y ∷ s) l h at many = record {
      ballot = t.ballot;
      node = y;
      sent = rw (← at) (h y (or_left (y == y) (mem y s) (eq-eqb y y refl)));
      many = rw (← at) many;
    }

reached_by_one : {V : Type 0} (u n : ℕ) (soup : List (Packet V)) (p : ℕ) (ts : List Tally)
    → Every (TallyTells n soup) ts → is_chosen u ts p ≡ true → Reached u n soup p
reached_by_one u n soup p [] k e = absurd (cc)
reached_by_one {V} u n soup p (t ∷ ts) k e = go (or_cases ((t.pos == p) && nat_lt u (length t.senders)) (is_chosen u ts p) e) (reached_by_one u n soup p ts k.1)
  where
    go : (((t.pos == p) && nat_lt u (length t.senders)) ≡ true) ⊎ (is_chosen u ts p ≡ true)
        → (is_chosen u ts p ≡ true → Reached u n soup p) → Reached u n soup p
    go (inl f) rec = reached_here u n soup p t k.0 f
    go (inr f) rec = rec f

size_of : {V : Type 0} (n : ℕ) (soup : List (Packet V)) (ts : List Tally) (p : ℕ) (b : Ballot)
    → Every (TallyTells n soup) ts → length (senders_of ts p b) ≡ count_below n (λ y. mem y (senders_of ts p b))
size_of n soup [] p b k = sym (count-none n)
size_of n soup (t ∷ ts) p b k = cond_both (is_of t p b) t.senders (senders_of ts p b)
    (λ s. length s ≡ count_below n (λ y. mem y s)) (λ e. k.0.size) (λ e. size_of n soup ts p b k.1)

chosen_by : (u : ℕ) (ts : List Tally) (p : ℕ) (b : Ballot) → u < length (senders_of ts p b) → is_chosen u ts p ≡ true
chosen_by u [] p b l = absurd (omega arith)
chosen_by u (t ∷ ts) p b l = go (is_of t p b) refl l (chosen_by u ts p b)
  where
    go : (a : Bool) → is_of t p b ≡ a → u < length (cond a t.senders (senders_of ts p b))
        → (u < length (senders_of ts p b) → is_chosen u ts p ≡ true)
        → (((t.pos == p) && nat_lt u (length t.senders)) || is_chosen u ts p) ≡ true
    go true e l rec = or_left _ _ (and_from (t.pos == p) (nat_lt u (length t.senders)) (eq-eqb t.pos p (of_parts t p b e).0) (lt-ltb u (length t.senders) l))
    go false e l rec = or_right _ _ (rec l)

-- where it is counted as chosen, there is a chosen value
pub counted_is_chosen : {V : Type 0} (u : ℕ) (soup : List (Packet V)) (p : ℕ) → AreFrom (2 * u + 1) soup
    → is_chosen u (tallied soup) p ≡ true → IsSomething (chosen_among u soup p soup)
counted_is_chosen u soup p l e =
    let r = reached_by_one u (2 * u + 1) soup p (tallied soup) (tells (2 * u + 1) soup l).each e in
    let s = sent_is soup p r.ballot r.node r.sent in
    meets_now u soup p soup s.0 s.1 r.ballot s.2 s.3 s.4 (lt-ltb _ _ r.many)

-- and where there is one, it is counted
pub chosen_is_counted : {V : Type 0} (u : ℕ) (soup : List (Packet V)) (p : ℕ) (v : V) → AreFrom (2 * u + 1) soup
    → chosen_among u soup p soup ≡ Some v → is_chosen u (tallied soup) p ≡ true
chosen_is_counted {V} u soup p v l e =
    let m : Meets u soup p v = now_meets u soup p soup v (λ j k f. (j, f)) e in
    let i = tells (2 * u + 1) soup l in
    let many : u < count_below (2 * u + 1) (has_sent soup p m.ballot) = ltb-true _ _ m.is_reached_by in
    let more : count_below (2 * u + 1) (has_sent soup p m.ballot) ≤ count_below (2 * u + 1)
    (λ y. mem y (senders_of (tallied soup) p m.ballot)) = count-more (2 * u + 1) (has_sent soup p m.ballot)
    (λ y. mem y (senders_of (tallied soup) p m.ballot)) (i.all p m.ballot) in
    let size : length (senders_of (tallied soup) p m.ballot)
    ≡ count_below (2 * u + 1) (λ y. mem y (senders_of (tallied soup) p m.ballot)) = size_of (2 * u + 1) soup
    (tallied soup) p m.ballot i.each in
    chosen_by u (tallied soup) p m.ballot (omega (arith, many, more, size))

-- nothing is chosen there exactly where nothing is counted as chosen
pub uncounted : {V : Type 0} (u : ℕ) (soup : List (Packet V)) (p : ℕ) → AreFrom (2 * u + 1) soup
    → is_chosen u (tallied soup) p ≡ false → chosen_among u soup p soup ≡ None
uncounted {V} u soup p l e = go (chosen_among u soup p soup) refl
  where
    go : (o : Option V) → chosen_among u soup p soup ≡ o → chosen_among u soup p soup ≡ None
    go None f = f
    go (Some v) f = absurd (let g : is_chosen u (tallied soup) p ≡ true = chosen_is_counted u soup p v l f in cc)
