-- What the facts of one node, newest first, say of its votes.
use Rattle.std.proofs.Common.{◌≡◌, ℕ, ◌<◌, ◌≤◌, List, [], ◌∷◌, length, refl, sym, ap, ◌∙◌, inl, inr, arith, Option, Some, None, suc}
use Rattle.std.specs.Prelude.{◌==◌, ◌⊎◌, IfSome}
use Rattle.std.proofs.lemmas.Bool.{cond_both, eqb-true, eqb-false}
use Rattle.aeg_base.specs.Ballots.{is_below}
use Rattle.aeg_base.specs.declared.names.Ballot.{Ballot}
use Rattle.log_model.specs.declared.fact.Fact.{Fact}
use Rattle.log_model.specs.declared.fact.Fact.TheVariants.{Promised, Accepted as Voted, Learned}
use Rattle.log_model.specs.Recover.{onto, newest_onto, higher, promised_in, learned_in, accepted_in}
use Rattle.log_model.specs.World.{recorded}
use Rattle.log_model.proofs.Basics.{length_push}
use Rattle.log_model.proofs.Ballots.{key, limit, key_same, below_key, not_below_key}

abbrev pub opening : {V : Type 0} → List (Fact V) → ℕ
opening F = length (learned_in F)

abbrev pub DidVote : {V : Type 0} → List (Fact V) → ℕ → Ballot → V → Type 0
DidVote [] p b v = ⊥
DidVote (Promised c ∷ F) p b v = DidVote F p b v
DidVote (Voted q c w ∷ F) p b v = ((p ≡ q) × (b ≡ c) × (v ≡ w)) ⊎ DidVote F p b v
DidVote (Learned q w ∷ F) p b v = DidVote F p b v

-- b was promised when p was open
abbrev pub DidPromise : {V : Type 0} → List (Fact V) → Ballot → ℕ → Type 0
DidPromise [] b p = ⊥
DidPromise (Promised c ∷ F) b p = ((b ≡ c) × (p ≡ opening F)) ⊎ DidPromise F b p
DidPromise (Voted q c w ∷ F) b p = DidPromise F b p
DidPromise (Learned q w ∷ F) b p = DidPromise F b p

-- each fact was written where its row allows it
abbrev pub Orderly : {V : Type 0} → List (Fact V) → Type 0
Orderly [] = Unit {0}
Orderly (Promised b ∷ F) = (key (promised_in F) < key b) × Orderly F × (b.node < 256)
Orderly (Voted p b v ∷ F) = (p ≡ opening F) × (key (promised_in F) ≤ key b) × (limit (accepted_in p F) ≤ key b) × Orderly F × (b.node < 256)
Orderly (Learned p v ∷ F) = (p ≡ opening F) × Orderly F

pub orderly-tail : {V : Type 0} (f : Fact V) (F : List (Fact V)) → Orderly (f ∷ F) → Orderly F
orderly-tail (Promised b) F o = o.1
orderly-tail (Voted p b v) F o = o.3
orderly-tail (Learned p v) F o = o.1

pub small_node : {V : Type 0} (F : List (Fact V)) → Orderly F → (promised_in F).node < 256
small_node [] o = omega arith
small_node (Promised c ∷ F) o = cond_both (is_below (promised_in F) c) c (promised_in F) (λ d. d.node < 256) (λ t. o.2) (λ t. small_node F o.1)
small_node (Voted q c w ∷ F) o = cond_both (is_below (promised_in F) c) c (promised_in F) (λ d. d.node < 256) (λ t. o.4) (λ t. small_node F o.3)
small_node (Learned q w ∷ F) o = small_node F o.1

key-higher : (b c : Ballot) → b.node < 256 → c.node < 256 → key b ≤ key c → higher b c ≡ c
key-higher b c l m h = cond_both (is_below b c) c b (λ d. d ≡ c) (λ e. refl) (λ e. key_same b c l m (omega (arith, not_below_key b c m e)))

higher-left : (b c : Ballot) → b.node < 256 → key b ≤ key (higher b c)
higher-left b c l = cond_both (is_below b c) c b (λ d. key b ≤ key d) (λ e. omega (arith, below_key b c l e)) (λ e. omega arith)

higher-right : (b c : Ballot) → c.node < 256 → key c ≤ key (higher b c)
higher-right b c m = cond_both (is_below b c) c b (λ d. key c ≤ key d) (λ e. omega arith) (λ e. not_below_key b c m e)

-- one more ballot on top of those of the facts
pub top_is : {V : Type 0} (F : List (Fact V)) (c : Ballot) → Orderly F → c.node < 256 → key (promised_in F) ≤ key c → higher (promised_in F) c ≡ c
top_is F c o l h = key-higher (promised_in F) c (small_node F o) l h

pub top_left : {V : Type 0} (F : List (Fact V)) (c : Ballot) → Orderly F → key (promised_in F) ≤ key (higher (promised_in F) c)
top_left F c o = higher-left (promised_in F) c (small_node F o)

pub top_right : {V : Type 0} (F : List (Fact V)) (c : Ballot) → c.node < 256 → key c ≤ key (higher (promised_in F) c)
top_right F c l = higher-right (promised_in F) c l

pub votes_below : {V : Type 0} (F : List (Fact V)) (p : ℕ) (b : Ballot) (v : V) → Orderly F → DidVote F p b v → (p ≤ opening F) × (key b ≤ key (promised_in F))
votes_below [] p b v o d = absurd d
votes_below (Promised c ∷ F) p b v o d = let r = votes_below F p b v o.1 d in (r.0, omega (arith, r.1, top_left F c o.1))
votes_below (Voted q c w ∷ F) p b v o (inl e) = (omega (arith, e.0, o.0), rw e.1 (top_right F c o.4))
votes_below (Voted q c w ∷ F) p b v o (inr d) = let r = votes_below F p b v o.3 d in (r.0, omega (arith, r.1, top_left F c o.3))
votes_below (Learned q w ∷ F) p b v o d = let r = votes_below F p b v o.1 d in (omega (arith, r.0, length_push (learned_in F) w), r.1)

-- the last vote at p is the highest one there
pub vote_is_low : {V : Type 0} (F : List (Fact V)) (p : ℕ) (b : Ballot) (v : V) → Orderly F → DidVote F p b v → suc (key b) ≤ limit (accepted_in p F)
vote_is_low [] p b v o d = absurd d
vote_is_low (Promised c ∷ F) p b v o d = vote_is_low F p b v o.1 d
vote_is_low (Voted q c w ∷ F) p b v o (inl e) =
    cond_both (q == p) (Some (c, w)) (accepted_in p F) (λ a. suc (key b) ≤ limit a) (λ t. omega (arith, ap key e.1)) (λ t. absurd (eqb-false q p t (sym e.0)))
vote_is_low (Voted q c w ∷ F) p b v o (inr d) =
    cond_both (q == p) (Some (c, w)) (accepted_in p F) (λ a. suc (key b) ≤ limit a)
    (λ t. let k : limit (accepted_in p F) ≤ key c = rw (eqb-true q p t) at o.2 in omega (arith, k, vote_is_low F p b v o.3 d))
    (λ t. vote_is_low F p b v o.3 d)
vote_is_low (Learned q w ∷ F) p b v o d = vote_is_low F p b v o.1 d

-- the node of a vote fits a byte
pub vote_is_small : {V : Type 0} (F : List (Fact V)) (p : ℕ) (b : Ballot) (v : V) → Orderly F → DidVote F p b v → b.node < 256
vote_is_small [] p b v o d = absurd d
vote_is_small (Promised c ∷ F) p b v o d = vote_is_small F p b v o.1 d
vote_is_small (Voted q c w ∷ F) p b v o (inl e) = rw e.1 o.4
vote_is_small (Voted q c w ∷ F) p b v o (inr d) = vote_is_small F p b v o.3 d
vote_is_small (Learned q w ∷ F) p b v o d = vote_is_small F p b v o.1 d

-- what is accepted was voted for
pub accepted_voted : {V : Type 0} (F : List (Fact V)) (p : ℕ) → IfSome (accepted_in p F) (λ a. DidVote F p a.0 a.1)
accepted_voted [] p = tt
accepted_voted (Promised c ∷ F) p = accepted_voted F p
accepted_voted {V} (Voted q c w ∷ F) p =
    cond_both (q == p) (Some (c, w)) (accepted_in p F) (λ a. IfSome a (λ b. DidVote (Voted q c w ∷ F) p b.0 b.1))
    (λ t. inl (sym (eqb-true q p t), refl, refl)) (λ t. later (accepted_in p F) (accepted_voted F p))
  where
    later : (a : Option (Ballot × V)) → IfSome a (λ b. DidVote F p b.0 b.1) → IfSome a (λ b. DidVote (Voted q c w ∷ F) p b.0 b.1)
    later None h = tt
    later (Some a) h = inr h
accepted_voted (Learned q w ∷ F) p = accepted_voted F p

-- nothing is accepted past the first open position
pub none_past : {V : Type 0} (F : List (Fact V)) (p : ℕ) → Orderly F → opening F < p → accepted_in p F ≡ None
none_past {V} F p o h = at (accepted_in p F) refl (accepted_voted F p)
  where
    at : (a : Option (Ballot × V)) → accepted_in p F ≡ a → IfSome a (λ b. DidVote F p b.0 b.1) → accepted_in p F ≡ None
    at None e d = e
    at (Some a) e d = absurd (omega (arith, (votes_below F p a.0 a.1 o d).0))

pub one_vote : {V : Type 0} (F : List (Fact V)) (p : ℕ) (b : Ballot) (v w : V) → Orderly F → DidVote F p b v → DidVote F p b w → v ≡ w
one_vote [] p b v w o d e = absurd d
one_vote (Promised c ∷ F) p b v w o d e = one_vote F p b v w o.1 d e
one_vote (Voted q c x ∷ F) p b v w o (inl d) (inl e) = d.2 ∙ sym e.2
one_vote (Voted q c x ∷ F) p b v w o (inl d) (inr e) =
    absurd (let k : limit (accepted_in p F) ≤ key c = rw (← d.0) at o.2 in omega (arith, k, ap key d.1, vote_is_low F p b w o.3 e))
one_vote (Voted q c x ∷ F) p b v w o (inr d) (inl e) =
    absurd (let k : limit (accepted_in p F) ≤ key c = rw (← e.0) at o.2 in omega (arith, k, ap key e.1, vote_is_low F p b v o.3 d))
one_vote (Voted q c x ∷ F) p b v w o (inr d) (inr e) = one_vote F p b v w o.3 d e
one_vote (Learned q x ∷ F) p b v w o d e = one_vote F p b v w o.1 d e

pub promises_below : {V : Type 0} (F : List (Fact V)) (b : Ballot) (p : ℕ) → Orderly F → DidPromise F b p → (p ≤ opening F) × (key b ≤ key (promised_in F))
promises_below [] b p o d = absurd d
promises_below (Promised c ∷ F) b p o (inl e) = (omega (arith, e.1), rw e.0 (top_right F c o.2))
promises_below (Promised c ∷ F) b p o (inr d) = let r = promises_below F b p o.1 d in (r.0, omega (arith, r.1, top_left F c o.1))
promises_below (Voted q c w ∷ F) b p o d = let r = promises_below F b p o.3 d in (r.0, omega (arith, r.1, top_left F c o.3))
promises_below (Learned q w ∷ F) b p o d = let r = promises_below F b p o.1 d in (omega (arith, r.0, length_push (learned_in F) w), r.1)

pub one_promise : {V : Type 0} (F : List (Fact V)) (b : Ballot) (p q : ℕ) → Orderly F → DidPromise F b p → DidPromise F b q → p ≡ q
one_promise [] b p q o d e = absurd d
one_promise (Promised c ∷ F) b p q o (inl d) (inl e) = d.1 ∙ sym e.1
one_promise (Promised c ∷ F) b p q o (inl d) (inr e) = absurd (omega (arith, ap key d.0, o.0, (promises_below F b q o.1 e).1))
one_promise (Promised c ∷ F) b p q o (inr d) (inl e) = absurd (omega (arith, ap key e.0, o.0, (promises_below F b p o.1 d).1))
one_promise (Promised c ∷ F) b p q o (inr d) (inr e) = one_promise F b p q o.1 d e
one_promise (Voted r c w ∷ F) b p q o d e = one_promise F b p q o.3 d e
one_promise (Learned r w ∷ F) b p q o d e = one_promise F b p q o.1 d e

-- what later facts keep of earlier ones
pub record Grew {V : Type 0} (F G : List (Fact V)) : Type 0 where
  pub votes : (p : ℕ) (b : Ballot) (v : V) → DidVote F p b v → DidVote G p b v
  pub promises : (b : Ballot) (p : ℕ) → DidPromise F b p → DidPromise G b p
  pub top : key (promised_in F) ≤ key (promised_in G)
  pub fresh : (p : ℕ) (b : Ballot) (v : V) → DidVote G p b v → DidVote F p b v ⊎ (key (promised_in F) ≤ key b)

pub grew-refl : {V : Type 0} (F : List (Fact V)) → Grew F F
grew-refl F = record { votes = λ p b v d. d; promises = λ b p d. d; top = omega arith; fresh = λ p b v d. inl d }

pub grew-one : {V : Type 0} (f : Fact V) (F : List (Fact V)) → Orderly (f ∷ F) → Grew F (f ∷ F)
grew-one (Promised c) F o = record { votes = λ p b v d. d; promises = λ b p d. inr d; top = top_left F c o.1; fresh = λ p b v d. inl d }
grew-one {V} (Voted q c w) F o = record { votes = λ p b v d. inr d; promises = λ b p d. d; top = top_left F c o.3; fresh = new }
  where
    new : (p : ℕ) (b : Ballot) (v : V) → DidVote (Voted q c w ∷ F) p b v → DidVote F p b v ⊎ (key (promised_in F) ≤ key b)
    new p b v (inl e) = inr (rw e.1 o.1)
    new p b v (inr d) = inl d
grew-one (Learned q w) F o = record { votes = λ p b v d. d; promises = λ b p d. d; top = omega arith; fresh = λ p b v d. inl d }

pub grew-trans : {V : Type 0} (F G H : List (Fact V)) → Grew F G → Grew G H → Grew F H
grew-trans {V} F G H a b = record {
  votes = λ p c v d. b.votes p c v (a.votes p c v d);
  promises = λ c p d. b.promises c p (a.promises c p d);
  top = omega (arith, a.top, b.top);
  fresh = λ p c v d. new p c v (b.fresh p c v d);
}
  where
    new : (p : ℕ) (c : Ballot) (v : V) → DidVote G p c v ⊎ (key (promised_in G) ≤ key c) → DidVote F p c v ⊎ (key (promised_in F) ≤ key c)
    new p c v (inl d) = a.fresh p c v d
    new p c v (inr h) = inr (omega (arith, h, a.top))

pub orderly-under : {V : Type 0} (fs F : List (Fact V)) → Orderly (onto fs F) → Orderly F
orderly-under [] F o = o
orderly-under (f ∷ fs) F o = orderly-tail f F (orderly-under fs (f ∷ F) o)

-- one more record
pub newest-push : {A : Type 0} (R : List (List A)) (fs F : List A) → newest_onto (recorded R fs) F ≡ onto fs (newest_onto R F)
newest-push R [] F = refl
newest-push [] (f ∷ fs) F = refl
newest-push (r ∷ R) (f ∷ fs) F = newest-push R (f ∷ fs) (onto r F)

pub grew-onto : {V : Type 0} (fs F : List (Fact V)) → Orderly (onto fs F) → Grew F (onto fs F)
grew-onto [] F o = grew-refl F
grew-onto (f ∷ fs) F o = grew-trans F (f ∷ F) (onto fs (f ∷ F)) (grew-one f F (orderly-under fs (f ∷ F) o)) (grew-onto fs (f ∷ F) o)
