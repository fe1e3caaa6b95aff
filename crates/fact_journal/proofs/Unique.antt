-- A body has one record, so bodies have one list of records.
use Rattle.std.proofs.Common.{◌≡◌, ℕ, List, [], ◌∷◌, ◌++◌, refl, sym, ap, ◌∙◌, subst}
use Rattle.std.proofs.lemmas.Option.{same_Some}
use Rattle.aeg_base.specs.declared.names.Tier.{Tier}
use Rattle.log_values.specs.declared.fact.Fact.{Fact}
use Rattle.log_values.specs.Records.{FitsRecord, record_text, record_at}
use Rattle.log_values.proofs.RecordGrammar.{record_grammar}
use Rattle.fact_journal.specs.Fitting.{open_after_all, RecordsFit}
use Rattle.fact_journal.specs.Standing.{texts}
use Rattle.fact_journal.proofs.Fits.{written}

cons_head : {A : Type 0} (x y : A) (xs ys : List A) → x ∷ xs ≡ y ∷ ys → x ≡ y
cons_head x y xs ys e = cc

cons_tail : {A : Type 0} (x y : A) (xs ys : List A) → x ∷ xs ≡ y ∷ ys → xs ≡ ys
cons_tail x y xs ys e = cc

no_cons : {A : Type 0} (x : A) (xs : List A) → [] ≡ x ∷ xs → ⊥
no_cons x xs e = cc

pub same_record : (r s : List Fact) → FitsRecord r → FitsRecord s → record_text r ≡ record_text s → r ≡ s
same_record r s p q e =
    ap (λ (z : List Fact × List ℕ). z.0)
    (same_Some (r, []) (s, []) (sym (record_grammar.ends r p) ∙ ap record_at e ∙ record_grammar.ends s q))

pub same_records : (tier : Tier) (m n : ℕ) (rs qs : List (List Fact)) → RecordsFit tier m rs → RecordsFit tier n qs → texts rs ≡ texts qs → rs ≡ qs
same_records tier m n [] [] p q e = refl
same_records tier m n [] (y ∷ qs) p q e = absurd (no_cons (record_text y) (texts qs) e)
same_records tier m n (x ∷ rs) [] p q e = absurd (no_cons (record_text x) (texts rs) (sym e))
same_records tier m n (x ∷ rs) (y ∷ qs) p q e =
    let one : x ≡ y = same_record x y (p.0, written tier m x p.1.0) (q.0, written tier n y q.1.0)
    (cons_head (record_text x) (record_text y) (texts rs) (texts qs) e) in
    let others : rs ≡ qs = same_records tier (open_after_all m x) (open_after_all n y) rs qs p.1.1 q.1.1
    (cons_tail (record_text x) (record_text y) (texts rs) (texts qs) e) in
    λ i. one i ∷ others i

-- where records that fit have the bodies, none of these has no record that fits
pub no_misfit : (tier : Tier) (first : ℕ) (before rs : List (List Fact)) (body : List ℕ) (behind : List (List ℕ))
    → RecordsFit tier first before → RecordsFit tier first rs → texts rs ≡ texts before ++ body ∷ behind
    → ((r : List Fact) → body ≡ record_text r → RecordsFit tier first (before ++ r ∷ []) → ⊥) → ⊥
no_misfit tier first [] [] body behind p q e h = no_cons body behind e
no_misfit tier first [] (y ∷ rs) body behind p q e h = h y (sym (cons_head (record_text y) body (texts rs) behind e)) (q.0, (q.1.0, tt))
no_misfit tier first (x ∷ before) [] body behind p q e h = no_cons (record_text x) (texts before ++ body ∷ behind) e
no_misfit tier first (x ∷ before) (y ∷ rs) body behind p q e h =
    let one : y ≡ x = same_record y x (q.0, written tier first y q.1.0) (p.0, written tier first x p.1.0)
    (cons_head (record_text y) (record_text x) (texts rs) (texts before ++ body ∷ behind) e) in
    no_misfit tier (open_after_all first x) before rs body behind p.1.1 (subst (λ (z : List Fact). RecordsFit tier (open_after_all first z) rs) one q.1.1)
    (cons_tail (record_text y) (record_text x) (texts rs) (texts before ++ body ∷ behind) e) (λ r is fit. h r is (p.0, (p.1.0, fit)))

-- bodies have one first body with no record that fits
pub one_misfit : (tier : Tier) (first : ℕ) (before rs : List (List Fact)) (body other : List ℕ)
    (behind later : List (List ℕ)) → RecordsFit tier first before → RecordsFit tier first rs
    → texts before ++ body ∷ behind ≡ texts rs ++ other ∷ later
    → ((r : List Fact) → body ≡ record_text r → RecordsFit tier first (before ++ r ∷ []) → ⊥)
    → ((r : List Fact) → other ≡ record_text r → RecordsFit tier first (rs ++ r ∷ []) → ⊥) → before ≡ rs
one_misfit tier first [] [] body other behind later p q e h k = refl
one_misfit tier first [] (y ∷ rs) body other behind later p q e h k = absurd
    (h y (cons_head body (record_text y) behind (texts rs ++ other ∷ later) e) (q.0, (q.1.0, tt)))
one_misfit tier first (x ∷ before) [] body other behind later p q e h k = absurd
    (k x (sym (cons_head (record_text x) other (texts before ++ body ∷ behind) later e)) (p.0, (p.1.0, tt)))
one_misfit tier first (x ∷ before) (y ∷ rs) body other behind later p q e h k =
    let one : x ≡ y = same_record x y (p.0, written tier first x p.1.0) (q.0, written tier first y q.1.0)
    (cons_head (record_text x) (record_text y) (texts before ++ body ∷ behind) (texts rs ++ other ∷ later) e) in
    let fits : RecordsFit tier (open_after_all first x) rs = subst (λ (z : List Fact). RecordsFit tier (open_after_all first z) rs) (sym one) q.1.1 in
    let others : before ≡ rs = one_misfit tier (open_after_all first x) before rs body other behind later p.1.1 fits
    (cons_tail (record_text x) (record_text y) (texts before ++ body ∷ behind) (texts rs ++ other ∷ later) e)
    (λ r is fit. h r is (p.0, (p.1.0, fit)))
    (λ r is fit. k r is (q.0, (q.1.0, subst (λ (z : List Fact). RecordsFit tier (open_after_all first z) (rs ++ r ∷ [])) one fit))) in
    λ i. one i ∷ others i
