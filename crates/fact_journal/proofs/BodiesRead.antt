-- Facts and the bodies of a journal, looked at one after another.
use Rattle.std.proofs.Common.{◌≡◌, ℕ, ◌+◌, ◌-◌, ◌<◌, ◌≤◌, ◌^◌, suc, min, List, [], ◌∷◌, ◌++◌, length, get_or, drop}
use Rattle.std.proofs.Common.{true, false, refl, sym, ap, ◌∙◌, subst, arith, add-one, drop-cons, append_assoc}
use Rattle.std.proofs.lemmas.List.{map-append, drop_all, append-nil}
use Rattle.aeg_base.specs.declared.names.Tier.{Tier}
use Rattle.node_journal.specs.Journal.{size_of}
use Rattle.log_values.specs.declared.fact.Fact.{Fact}
use Rattle.log_values.specs.Records.{FitsFact, record_text}
use Rattle.fact_journal.specs.Fitting.{is_placed, open_after, open_after_all, FactsFit, Fit, all_facts}
use Rattle.fact_journal.specs.Standing.{texts}
use Rattle.fact_journal.specs.Calls.{IsRead, TakesRecord, NoneFits, IsMisfitAt}
use Rattle.fact_journal.proofs.Fits.{open_after_then, all_more, fit_more, fit_last}

rest_at : {A : Type 0} (xs : List A) (i : ℕ) (x : A) → i < length xs → x ≡ get_or xs i x → drop i xs ≡ x ∷ drop (i + 1) xs
rest_at xs i x inside is = drop-cons xs i x inside ∙ ap (λ (y : _). y ∷ drop (suc i) xs) (sym is) ∙ ap (λ (k : ℕ). x ∷ drop k xs) (sym (add-one i))

-- ---- the facts of a record

-- all of the facts fit exactly where those that are left do
pub record StandSo (tier : Tier) (start : ℕ) (facts : List Fact) (i next : ℕ) : Type 0 where
  pub back : FactsFit tier next (drop i facts) → FactsFit tier start facts
  pub forth : FactsFit tier start facts → FactsFit tier next (drop i facts)
  pub place : open_after_all start facts ≡ open_after_all next (drop i facts)

pub stand_first : (tier : Tier) (start : ℕ) (facts : List Fact) → StandSo tier start facts 0 start
stand_first tier start facts = record { back = λ k. k; forth = λ k. k; place = refl }

pub stand_next : (tier : Tier) (start : ℕ) (facts : List Fact) (i next after : ℕ) (f : Fact) → i < length facts
    → f ≡ get_or facts i f → FitsFact f → is_placed tier next f ≡ true → after ≡ open_after next f → StandSo tier start facts i next
    → StandSo tier start facts (i + 1) after
stand_next tier start facts i next after f inside is fits placed e so =
    let rest : drop i facts ≡ f ∷ drop (i + 1) facts = rest_at facts i f inside is in
    subst (λ (n : ℕ). StandSo tier start facts (i + 1) n) (sym e) (record {
      back = λ k. so.back (subst (λ (l : List Fact). FactsFit tier next l) (sym rest) ((fits, placed), k));
      forth = λ k. let all = subst (λ (l : List Fact). FactsFit tier next l) rest (so.forth k) in all.1;
      place = so.place ∙ ap (open_after_all next) rest;
    })

pub stand_none : (tier : Tier) (start : ℕ) (facts : List Fact) (i next : ℕ) (f : Fact) → i < length facts
    → f ≡ get_or facts i f → is_placed tier next f ≡ false → StandSo tier start facts i next → FactsFit tier start facts → ⊥
stand_none tier start facts i next f inside is not so k =
    let all = subst (λ (l : List Fact). FactsFit tier next l) (rest_at facts i f inside is) (so.forth k) in
    let yes : is_placed tier next f ≡ true = all.0.1 in
    cc

pub stand_all : (tier : Tier) (start : ℕ) (facts : List Fact) (i next : ℕ) → length facts ≤ i
    → StandSo tier start facts i next → FactsFit tier start facts × (next ≡ open_after_all start facts)
stand_all tier start facts i next past so =
    let none : drop i facts ≡ [] = drop_all i facts past in
    (so.back (subst (λ (l : List Fact). FactsFit tier next l) (sym none) tt), sym (so.place ∙ ap (open_after_all next) none))

-- ---- the bodies of a journal

size_more : (bodies : List (List ℕ)) (b : List ℕ) → size_of (bodies ++ b ∷ []) ≡ size_of bodies + (5 + length b)
size_more [] b = omega arith
size_more (x ∷ bodies) b = omega (arith, size_more bodies b)

size_front : (xs ys : List (List ℕ)) → size_of xs ≤ size_of (xs ++ ys)
size_front [] [] = omega arith
size_front [] (y ∷ ys) = omega (arith, size_front [] ys)
size_front (x ∷ xs) ys = omega (arith, size_front xs ys)

pub texts_more : (rs : List (List Fact)) (r : List Fact) → texts (rs ++ r ∷ []) ≡ texts rs ++ record_text r ∷ []
texts_more rs r = map-append record_text rs (r ∷ [])

pub size_texts : (rs : List (List Fact)) (r : List Fact) → size_of (texts (rs ++ r ∷ [])) ≡ size_of (texts rs) + (5 + length (record_text r))
size_texts rs r = ap size_of (texts_more rs r) ∙ size_more (texts rs) (record_text r)

-- the records of the first bodies fit; these are their facts, the first open position and the next gate
pub record ReadSo (tier : Tier) (bodies : List (List ℕ)) (i : ℕ) (facts : List Fact) (first at : ℕ) : Type 0 where
  pub rs : List (List Fact)
  pub parts : bodies ≡ texts rs ++ drop i bodies
  pub fit : Fit tier rs
  pub are : facts ≡ all_facts rs
  pub place : first ≡ open_after_all 0 (all_facts rs)
  pub gate : at ≡ min (size_of (texts rs) - 1) (2 ^ 64 - 1)

pub read_first : (tier : Tier) (bodies : List (List ℕ)) → ReadSo tier bodies 0 [] 0 0
read_first tier bodies = record { rs = []; parts = refl; fit = tt; are = refl; place = refl; gate = omega arith }

gate_more : (s n b at after : ℕ) → 1 ≤ s → at ≡ min (s - 1) (2 ^ 64 - 1) → after ≡ min (at + (5 + b)) (2 ^ 64 - 1)
    → n ≡ s + (5 + b) → after ≡ min (n - 1) (2 ^ 64 - 1)
gate_more s n b at after some p q r = omega arith

pub read_next : (tier : Tier) (bodies : List (List ℕ)) (i : ℕ) (facts more : List Fact) (first next at after : ℕ)
    (body : List ℕ) → i < length bodies → body ≡ get_or bodies i body → TakesRecord tier first body facts more next
    → after ≡ min (at + (5 + length body)) (2 ^ 64 - 1) → ReadSo tier bodies i facts first at → ReadSo tier bodies (i + 1) more next after
read_next tier bodies i facts more first next at after body inside is t step so =
    let rest : drop i bodies ≡ body ∷ drop (i + 1) bodies = rest_at bodies i body inside is in
    let all : all_facts (so.rs ++ t.taken ∷ []) ≡ all_facts so.rs ++ t.taken = all_more so.rs t.taken in
    record {
      rs = so.rs ++ t.taken ∷ [];
      parts = so.parts ∙ ap (λ (l : List (List ℕ)). texts so.rs ++ l) (rest ∙ ap (λ (b : List ℕ). b ∷ drop (i + 1) bodies) t.spelled)
          ∙ sym (append_assoc (texts so.rs) (record_text t.taken ∷ []) (drop (i + 1) bodies))
          ∙ ap (λ (l : List (List ℕ)). l ++ drop (i + 1) bodies) (sym (texts_more so.rs t.taken));
      fit = fit_more tier 0 so.rs t.taken so.fit t.some (subst (λ (n : ℕ). FactsFit tier n t.taken) so.place t.fit);
      are = t.added ∙ ap (λ (l : List Fact). l ++ t.taken) so.are ∙ sym all;
      place = t.place ∙ ap (λ (n : ℕ). open_after_all n t.taken) so.place ∙ sym (open_after_then 0 (all_facts so.rs) t.taken) ∙ ap (open_after_all 0) (sym all);
      gate = gate_more (size_of (texts so.rs)) (size_of (texts (so.rs ++ t.taken ∷ []))) (length body) at after (size_front [] (texts so.rs)) so.gate step
          (size_texts so.rs t.taken ∙ ap (λ (b : List ℕ). size_of (texts so.rs) + (5 + length b)) (sym t.spelled));
    }

pub read_none : (tier : Tier) (bodies : List (List ℕ)) (i : ℕ) (facts : List Fact) (first at : ℕ) (body : List ℕ)
    → i < length bodies → body ≡ get_or bodies i body → NoneFits tier first body → size_of bodies ≤ 2 ^ 64
    → ReadSo tier bodies i facts first at → IsMisfitAt tier at bodies
read_none tier bodies i facts first at body inside is none short so =
    let rest : drop i bodies ≡ body ∷ drop (i + 1) bodies = rest_at bodies i body inside is in
    record {
      before = so.rs;
      body = body;
      behind = drop (i + 1) bodies;
      parts = so.parts ∙ ap (λ (l : List (List ℕ)). texts so.rs ++ l) rest;
      fit = so.fit;
      place = omega (arith, so.gate, short, size_front [] (texts so.rs), size_front (texts so.rs) (drop i bodies), ap size_of so.parts);
      misfit = λ r e fit. let q = fit_last tier 0 so.rs r fit in none r e q.0 (subst (λ (n : ℕ). FactsFit tier n r) (sym so.place) q.1);
    }

pub read_all : (tier : Tier) (bodies : List (List ℕ)) (i : ℕ) (facts : List Fact) (first at : ℕ) → length bodies ≤ i
    → ReadSo tier bodies i facts first at → IsRead tier bodies facts
read_all tier bodies i facts first at past so = (
  so.rs,
  so.parts
      ∙ ap (λ (l : List (List ℕ)). texts so.rs ++ l) (drop_all i bodies past) ∙ append-nil (texts so.rs),
  so.fit,
  so.are,
)
