-- The facts of a log: a snapshot of them leaves the same log, and what newer facts add.
use Rattle.std.proofs.Common.{◌≡◌, ℕ, suc, ◌+◌, ◌<◌, ◌≤◌, Bool, true, false, List, [], ◌∷◌, ◌++◌, length, length-append, append_assoc, append-nil}
use Rattle.std.proofs.Common.{refl, sym, ap, ◌∙◌, subst, arith, Option, Some, None, IfSome, if◌then◌else◌, ◌==◌, replicate, ◌*◌}
use Rattle.std.proofs.lemmas.Bool.{cond_both, ne_eqb, eq-eqb}
use Rattle.aeg_base.specs.Ballots.{no_ballot, same_ballot, is_below}
use Rattle.aeg_base.specs.declared.names.Ballot.{Ballot}
use Rattle.log_model.proofs.Ballots.{same_true}
use Rattle.log_model.proofs.Basics.{length_push}
use Rattle.log_model.specs.Log.{LogState, open_at}
use Rattle.log_model.specs.Recover.{onto, newest_onto, newest, higher, promised_in, learned_in, accepted_in, recover}
use Rattle.log_model.specs.declared.fact.Fact.{Fact}
use Rattle.log_model.specs.declared.fact.Fact.TheVariants.{Promised, Accepted, Learned}
use Rattle.recovery_laws.specs.Snapshots.{learnings, acceptance, promise, log_record, LearnedInOrder, NoneAhead}
use Rattle.recovery_laws.proofs.Ballots.{same_height, none_lowest, higher_is, higher_left, higher_right}

-- LISTS

pub onto_append : {F : Type 0} (xs ys older : List F) → onto (xs ++ ys) older ≡ onto ys (onto xs older)
onto_append [] ys older = refl
onto_append (x ∷ xs) ys older = onto_append xs ys (x ∷ older)

pub onto_newer : {F : Type 0} (xs newer older : List F) → onto xs (newer ++ older) ≡ onto xs newer ++ older
onto_newer [] newer older = refl
onto_newer (x ∷ xs) newer older = onto_newer xs (x ∷ newer) older

-- records before older facts are their facts before these
newest_newer : {F : Type 0} (records : List (List F)) (newer older : List F) → newest_onto records (newer ++ older) ≡ newest_onto records newer ++ older
newest_newer [] newer older = refl
newest_newer (r ∷ rs) newer older = ap (newest_onto rs) (onto_newer r newer older) ∙ newest_newer rs (onto r newer) older

pub newest_before : {F : Type 0} (records : List (List F)) (older : List F) → newest_onto records older ≡ newest records ++ older
newest_before records older = newest_newer records [] older

-- THE HIGHEST BALLOT

-- no acceptance has a higher one
still_below : {V : Type 0} (b c : Ballot) (o : Option (Ballot × V)) → IfSome o (λ a. is_below b a.0 ≡ false) → IfSome o (λ a. is_below (higher b c) a.0 ≡ false)
still_below b c None h = tt
still_below b c (Some a) h = higher_left b c a.0 h

pub accepted_below : {V : Type 0} (F : List (Fact V)) (p : ℕ) → IfSome (accepted_in p F) (λ a. is_below (promised_in F) a.0 ≡ false)
accepted_below [] p = tt
accepted_below (Promised c ∷ F) p = still_below (promised_in F) c (accepted_in p F) (accepted_below F p)
accepted_below (Accepted q c w ∷ F) p =
    cond_both (q == p) (Some (c, w)) (accepted_in p F) (λ o. IfSome o (λ a. is_below (higher (promised_in F) c) a.0 ≡ false))
    (λ e. higher_right (promised_in F) c) (λ e. still_below (promised_in F) c (accepted_in p F) (accepted_below F p))
accepted_below (Learned q w ∷ F) p = accepted_below F p

-- WHAT A RECORD'S PARTS ADD

learned_by : {V : Type 0} (p : ℕ) (vs : List V) (F : List (Fact V)) → learned_in (onto (learnings p vs) F) ≡ learned_in F ++ vs
learned_by p [] F = sym (append-nil (learned_in F))
learned_by p (v ∷ vs) F = learned_by (suc p) vs (Learned p v ∷ F) ∙ append_assoc (learned_in F) (v ∷ []) vs

promised_past : {V : Type 0} (p : ℕ) (vs : List V) (F : List (Fact V)) → promised_in (onto (learnings p vs) F) ≡ promised_in F
promised_past p [] F = refl
promised_past p (v ∷ vs) F = promised_past (suc p) vs (Learned p v ∷ F)

accepted_past : {V : Type 0} (q p : ℕ) (vs : List V) (F : List (Fact V)) → accepted_in q (onto (learnings p vs) F) ≡ accepted_in q F
accepted_past q p [] F = refl
accepted_past q p (v ∷ vs) F = accepted_past q (suc p) vs (Learned p v ∷ F)

none_ahead_past : {V : Type 0} (p : ℕ) (vs : List V) (F : List (Fact V)) → NoneAhead F → NoneAhead (onto (learnings p vs) F)
none_ahead_past p [] F h = h
none_ahead_past p (v ∷ vs) F h = none_ahead_past (suc p) vs (Learned p v ∷ F) h

in_order_past : {V : Type 0} (p : ℕ) (vs : List V) (F : List (Fact V)) → p ≡ length (learned_in F) → LearnedInOrder F
    → LearnedInOrder (onto (learnings p vs) F)
in_order_past p [] F e h = h
in_order_past p (v ∷ vs) F e h = in_order_past (suc p) vs (Learned p v ∷ F) (omega (arith, e, length_push (learned_in F) v)) (e, h)

-- What some facts leave: this promise, these values, this acceptance at the first open position, and none at later ones.
pub record Leaves {V : Type 0} (b : Ballot) (vs : List V) (o : Option (Ballot × V)) (F : List (Fact V)) : Type 0 where
  pub promised : promised_in F ≡ b
  pub learned : learned_in F ≡ vs
  pub accepted : accepted_in (length vs) F ≡ o
  pub past : (p : ℕ) → length vs < p → accepted_in p F ≡ None
  pub none_ahead : NoneAhead F
  pub in_order : LearnedInOrder F

after_values : {V : Type 0} (vs : List V) → Leaves no_ballot vs None (onto (learnings 0 vs) [])
after_values vs = record {
  promised = promised_past 0 vs [];
  learned = learned_by 0 vs [];
  accepted = accepted_past (length vs) 0 vs [];
  past = λ p l. accepted_past p 0 vs [];
  none_ahead = none_ahead_past 0 vs [] tt;
  in_order = in_order_past 0 vs [] refl tt;
}

-- the ballot of an acceptance, or none
abbrev ballot_of : {V : Type 0} → Option (Ballot × V) → Ballot
ballot_of None = no_ballot
ballot_of (Some a) = a.0

after_acceptance : {V : Type 0} (vs : List V) (o : Option (Ballot × V)) (F : List (Fact V)) → Leaves no_ballot vs None F
    → Leaves (ballot_of o) vs o (onto (acceptance (length vs) o) F)
after_acceptance vs None F s = s
after_acceptance vs (Some a) F s = record {
  promised = ap (λ b. higher b a.0) s.promised ∙ higher_is no_ballot a.0 (none_lowest a.0);
  learned = s.learned;
  accepted = rw (eq-eqb (length vs) (length vs) refl) refl;
  past = λ p l. rw (ne_eqb (length vs) p (λ e. omega (arith, e, l))) (s.past p l);
  none_ahead = (omega (arith, ap length s.learned), s.none_ahead);
  in_order = s.in_order;
}

after_promise : {V : Type 0} (b c : Ballot) (vs : List V) (o : Option (Ballot × V)) (F : List (Fact V)) → is_below b c ≡ false → Leaves c vs o F
    → Leaves b vs o (onto (promise b) F)
after_promise {V} b c vs o F high s = go (same_ballot b no_ballot) refl
  where
    go : (t : Bool) → same_ballot b no_ballot ≡ t → Leaves b vs o (onto (if t then [] else Promised b ∷ []) F)
    go true e =
        let none : b ≡ no_ballot = same_true b no_ballot e in
        let same : c ≡ b = same_height c b (subst (λ d. is_below c d ≡ false) (sym none) (none_lowest c)) high in
        subst (λ d. Leaves d vs o F) same s
    go false e = record {
      promised = ap (λ d. higher d b) s.promised ∙ higher_is c b high;
      learned = s.learned;
      accepted = s.accepted;
      past = s.past;
      none_ahead = s.none_ahead;
      in_order = s.in_order;
    }

-- SNAPSHOTS OF A LOG

abbrev pub log_snapshot : {V : Type 0} → List (Fact V) → List (Fact V)
log_snapshot F = onto (log_record (recover 0 F)) []

-- as its parts are written, one before the other
in_parts : {V : Type 0} (vs : List V) (o : Option (Ballot × V)) (b : Ballot) → onto (learnings 0 vs ++ (acceptance (length vs) o ++ promise b)) []
    ≡ onto (promise b) (onto (acceptance (length vs) o) (onto (learnings 0 vs) []))
in_parts vs o b =
    onto_append (learnings 0 vs) (acceptance (length vs) o ++ promise b) [] ∙ onto_append (acceptance (length vs) o) (promise b) (onto (learnings 0 vs) [])

pub snapshot_leaves : {V : Type 0} (F : List (Fact V)) → Leaves (promised_in F) (learned_in F) (accepted_in (length (learned_in F)) F) (log_snapshot F)
snapshot_leaves {V} F =
    let vs : List V = learned_in F in
    let o : Option (Ballot × V) = accepted_in (length vs) F in
    let top : is_below (promised_in F) (ballot_of o) ≡ false = at_most o (accepted_below F (length vs)) in
    let voted : List (Fact V) = onto (acceptance (length vs) o) (onto (learnings 0 vs) []) in
    subst (Leaves (promised_in F) vs o) (sym (in_parts vs o (promised_in F)))
    (after_promise (promised_in F) (ballot_of o) vs o voted top (after_acceptance vs o (onto (learnings 0 vs) []) (after_values vs)))
  where
    at_most : (o : Option (Ballot × V)) → IfSome o (λ a. is_below (promised_in F) a.0 ≡ false) → is_below (promised_in F) (ballot_of o) ≡ false
    at_most None h = none_lowest (promised_in F)
    at_most (Some a) h = h

-- the same promise, values and acceptance make the same log
pub same_log : {V : Type 0} (u : ℕ) (F G : List (Fact V)) → promised_in F ≡ promised_in G → learned_in F ≡ learned_in G
    → accepted_in (length (learned_in F)) F ≡ accepted_in (length (learned_in G)) G → recover u F ≡ recover u G
same_log u F G p l a = λ i. record { promised = p i; accepted = a i; learned = l i; seen = replicate (2 * u + 1) None; leader = None }

pub snapshot_log : {V : Type 0} (u : ℕ) (F : List (Fact V)) → recover u (log_snapshot F) ≡ recover u F
snapshot_log u F =
    let s = snapshot_leaves F in
    same_log u (log_snapshot F) F s.promised s.learned (ap (λ vs. accepted_in (length vs) (log_snapshot F)) s.learned ∙ s.accepted)

-- NOTHING AHEAD

pub none_past : {V : Type 0} (F : List (Fact V)) (p : ℕ) → NoneAhead F → length (learned_in F) < p → accepted_in p F ≡ None
none_past [] p h l = refl
none_past (Promised b ∷ F) p h l = none_past F p h l
none_past (Accepted q b v ∷ F) p h l = rw (ne_eqb q p (λ e. omega (arith, e, l, h.0))) (none_past F p h.1 l)
none_past (Learned q v ∷ F) p h l = none_past F p h (omega (arith, l, length_push (learned_in F) v))

-- LENGTH

length_learnings : {V : Type 0} (p : ℕ) (vs : List V) → length (learnings p vs) ≡ length vs
length_learnings p [] = refl
length_learnings p (v ∷ vs) = ap suc (length_learnings (suc p) vs)

length_acceptance : {V : Type 0} (p : ℕ) (o : Option (Ballot × V)) → length (acceptance p o) ≤ 1
length_acceptance p None = omega arith
length_acceptance p (Some a) = omega arith

length_promise : (V : Type 0) (b : Ballot) → length (promise {V = V} b) ≤ 1
length_promise V b = go (same_ballot b no_ballot)
  where
    go : (t : Bool) → length {A = Fact V} (if t then [] else Promised b ∷ []) ≤ 1
    go true = omega arith
    go false = omega arith

pub length_log_record : {V : Type 0} (log : LogState V) → length (log_record log) ≤ length log.learned + 2
length_log_record {V} log =
    omega (
      arith,
      length-append (learnings 0 log.learned) (acceptance (open_at log) log.accepted ++ promise log.promised),
      length-append (acceptance (open_at log) log.accepted) (promise log.promised),
      length_learnings 0 log.learned,
      length_acceptance (open_at log) log.accepted,
      length_promise V log.promised,
    )
