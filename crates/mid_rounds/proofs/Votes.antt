-- A claim joins the claims of its round.
use Rattle.std.proofs.Common.{◌≡◌, ℕ, suc, ◌==◌, Bool, true, false, cond, List, [], ◌∷◌, refl, sym, ap, ◌∙◌, subst, arith, Option, Some, None}
use Rattle.std.specs.Prelude.{IsTrue, IfSome, nat_lt, not, is_some as some, if◌then◌else◌, option_map}
use Rattle.std.specs.List.{AllByRecursion}
use Rattle.std.proofs.lemmas.Bool.Decides.{nat_tests}
use Rattle.round_model.specs.declared.claim.Claim.{Claim}
use Rattle.round_model.specs.Lists.{is_some}
use Rattle.round_model.specs.Numbered.{find, put, rises, without}
use Rattle.round_model.specs.Verdicts.{Claims, Vote, claim, claim_of, claims_in, claims_or_none, no_claims, with_claim}
use Rattle.round_model.proofs.NumberedLaws.{risen, find_below, put_first, without_none}
use Rattle.server_shim.proofs.Lists.{find_in, index_in, put_in, replicate_in, without_in}
use Rattle.state_verify.specs.Tallies.{TallyState}
use Rattle.tier_model.specs.MidRows.{is_in, with_own}
use Rattle.mid_rounds.specs.Mids.{claims_by}

-- TABLES

-- what is put where it was taken out
put_again : {A : Type 0} (m : ℕ) (es : List (ℕ × A)) (n : ℕ) (a : A) → rises m es ≡ true → put (without es n) n a ≡ put es n a
put_again m [] n a h = refl
put_again m (e ∷ es) n a h = let r = risen m e es h in
    grind (arith, nat_tests, put_again (suc e.0) es n a r.rest, put_first es n a, without_none es n, find_below (suc e.0) es n r.rest)

-- what is there already
put_same : {A : Type 0} (m : ℕ) (es : List (ℕ × A)) (n : ℕ) (a : A) → rises m es ≡ true → find es n ≡ Some a → put es n a ≡ es
put_same m [] n a h f = absurd cc
put_same m ((k, b) ∷ es) n a h f = let r = risen m (k, b) es h in
    grind (arith, nat_tests, put_same (suc k) es n a r.rest, find_below (suc k) es n r.rest)

-- THE CLAIMS OF TALLIES

-- claims without those of a round
pub claims_without : (tallies : List (ℕ × TallyState)) (r : ℕ) → claims_by (without tallies r) ≡ without (claims_by tallies) r
claims_without [] r = refl
claims_without (e ∷ es) r = go (e.0 == r) (claims_without es r)
  where
    go : (b : Bool) → claims_by (without es r) ≡ without (claims_by es) r
        → claims_by (cond b es (e ∷ without es r)) ≡ cond b (claims_by es) ((e.0, e.1.claims) ∷ without (claims_by es) r)
    go true rest = refl
    go false rest = ap (λ (z : List (ℕ × Claims)). (e.0, e.1.claims) ∷ z) rest

claims_put : (tallies : List (ℕ × TallyState)) (r : ℕ) (t : TallyState) → claims_by (put tallies r t) ≡ put (claims_by tallies) r t.claims
claims_put [] r t = refl
claims_put (e ∷ es) r t = go (nat_lt e.0 r) (e.0 == r) (claims_put es r t)
  where
    rest : List (ℕ × Claims)
    rest = claims_by es

    go : (b c : Bool) → claims_by (put es r t) ≡ put (claims_by es) r t.claims
        → claims_by (cond b (e ∷ put es r t) (cond c ((r, t) ∷ es) ((r, t) ∷ e ∷ es)))
        ≡ cond b ((e.0, e.1.claims) ∷ put rest r t.claims) (cond c ((r, t.claims) ∷ rest) ((r, t.claims) ∷ (e.0, e.1.claims) ∷ rest))
    go true c same = ap (λ (z : List (ℕ × Claims)). (e.0, e.1.claims) ∷ z) same
    go false true same = refl
    go false false same = refl

claims_find : (tallies : List (ℕ × TallyState)) (r : ℕ) → find (claims_by tallies) r ≡ option_map (λ t. t.claims) (find tallies r)
claims_find [] r = refl
claims_find (e ∷ es) r = go (e.0 == r) (claims_find es r)
  where
    go : (b : Bool) → find (claims_by es) r ≡ option_map (λ t. t.claims) (find es r)
        → cond b (Some e.1.claims) (find (claims_by es) r) ≡ option_map (λ t. t.claims) (cond b (Some e.1) (find es r))
    go true rest = refl
    go false rest = rest

claims_rise : (m : ℕ) (tallies : List (ℕ × TallyState)) → rises m tallies ≡ true → rises m (claims_by tallies) ≡ true
claims_rise m [] h = refl
claims_rise m (e ∷ es) h = let r = risen m e es h in grind (arith, nat_tests, claims_rise (suc e.0) es r.rest)

pub taken_some : (tallies : List (ℕ × TallyState)) (r : ℕ) (t : TallyState) → Some t ≡ find tallies r → t.claims ≡ claims_in (claims_by tallies) r
taken_some tallies r t e = ap (λ (o : Option TallyState). claims_or_none (option_map (λ z. z.claims) o)) e ∙ sym (ap claims_or_none (claims_find tallies r))

pub taken_none : (tallies : List (ℕ × TallyState)) (r : ℕ) → None ≡ find tallies r → no_claims ≡ claims_in (claims_by tallies) r
taken_none tallies r e = ap (λ (o : Option TallyState). claims_or_none (option_map (λ z. z.claims) o)) e ∙ sym (ap claims_or_none (claims_find tallies r))

pub taken_faults : (u : ℕ) (tallies : List (ℕ × TallyState)) (r : ℕ) (t : TallyState) → AllByRecursion (λ (e : ℕ × TallyState). e.1.faults ≡ u) tallies
    → Some t ≡ find tallies r → t.faults ≡ u
taken_faults u tallies r t k e =
    let found : IfSome (find tallies r) (λ (z : TallyState). z.faults ≡ u) =
    find_in (λ (e : ℕ × TallyState). e.1.faults ≡ u) (λ (z : TallyState). z.faults ≡ u) tallies r (λ m a f. f) k in
    subst (λ (o : Option TallyState). IfSome o (λ (z : TallyState). z.faults ≡ u)) (sym e) found

-- the tallies with another one of the round
pub put_faults : (u : ℕ) (tallies new : List (ℕ × TallyState)) (r : ℕ) (t : TallyState) → AllByRecursion (λ (e : ℕ × TallyState). e.1.faults ≡ u) tallies
    → t.faults ≡ u → new ≡ put (without tallies r) r t → AllByRecursion (λ (e : ℕ × TallyState). e.1.faults ≡ u) new
put_faults u tallies new r t k f e =
    subst (AllByRecursion (λ (e : ℕ × TallyState). e.1.faults ≡ u)) (sym e)
    (put_in (λ (e : ℕ × TallyState). e.1.faults ≡ u) (without tallies r) r t (without_in (λ (e : ℕ × TallyState). e.1.faults ≡ u) tallies r k) f)

-- THE OWN CLAIM

-- the claims of the tallies with another one of the round
retold : (tallies new : List (ℕ × TallyState)) (r : ℕ) (t : TallyState) → rises 0 tallies ≡ true → new ≡ put (without tallies r) r t
    → claims_by new ≡ put (claims_by tallies) r t.claims
retold tallies new r t h e = ap claims_by e ∙ ap claims_by (put_again 0 tallies r t h) ∙ claims_put tallies r t

same_test : (o : Option Claim) → some o ≡ is_some o
same_test None = refl
same_test (Some c) = refl

-- where one is in, the round has claims
nobody : (x : ℕ) → is_some (claim_of no_claims x) ≡ false
nobody x = index_in (λ (o : Option Claim). is_some o ≡ false) no_claims x (replicate_in (λ (o : Option Claim). is_some o ≡ false) 5 None refl) refl

has_claims : (o : Option Claims) (x : ℕ) → is_some (claim_of (claims_or_none o) x) ≡ true → o ≡ Some (claims_or_none o)
has_claims None x h = let e = nobody x in absurd cc
has_claims (Some c) x h = refl

-- it is counted just where none is in
pub joins_unless_in : (tallies : List (ℕ × TallyState)) (v : Vote) (was : TallyState) (added : Bool) → was.claims ≡ claims_in (claims_by tallies) v.round
    → added ≡ not (some (claim_of was.claims v.from)) → added ≡ not (is_in (claims_by tallies) v)
joins_unless_in tallies v was added e f =
    f ∙ ap (λ (z : Claims). not (some (claim_of z v.from))) e ∙ ap not (same_test (claim_of (claims_in (claims_by tallies) v.round) v.from))

module _ (tallies new : List (ℕ × TallyState)) (v : Vote) (was now : TallyState) (added : Bool) where
  abbrev all : List (ℕ × Claims)
  all = claims_by tallies

  abbrev before : Claims
  before = claims_in all v.round

  pub own_joins : IsTrue (rises 0 tallies) → was.claims ≡ claims_in (claims_by tallies) v.round → added ≡ not (some (claim_of was.claims v.from))
      → now.claims ≡ (if added then with_claim was.claims v.from (claim v) else was.claims) → new ≡ put (without tallies v.round) v.round now
      → claims_by new ≡ with_own (claims_by tallies) v
  own_joins h e f g n = go (is_some (claim_of before v.from)) refl
    where
      told : claims_by new ≡ put all v.round now.claims
      told = retold tallies new v.round now h n

      joined : added ≡ not (is_some (claim_of before v.from))
      joined = f ∙ ap (λ (z : Claims). not (some (claim_of z v.from))) e ∙ ap not (same_test (claim_of before v.from))

      after : now.claims ≡ (if added then with_claim before v.from (claim v) else before)
      after = g ∙ ap (λ (z : Claims). if added then with_claim z v.from (claim v) else z) e

      go : (i : Bool) → is_some (claim_of before v.from) ≡ i → claims_by new ≡ cond i all (put all v.round (with_claim before v.from (claim v)))
      go true q =
          let no : added ≡ false = joined ∙ ap not q in
          let same : now.claims ≡ before = after ∙ ap (λ (b : Bool). if b then with_claim before v.from (claim v) else before) no in
          told ∙ ap (λ (z : Claims). put all v.round z) same ∙ put_same 0 all v.round before (claims_rise 0 tallies h) (has_claims (find all v.round) v.from q)
      go false q =
          let yes : added ≡ true = joined ∙ ap not q in
          told ∙ ap (λ (z : Claims). put all v.round z) (after ∙ ap (λ (b : Bool). if b then with_claim before v.from (claim v) else before) yes)
