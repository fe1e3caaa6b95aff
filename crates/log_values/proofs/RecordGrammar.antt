-- The grammars of facts and records.
use Rattle.std.proofs.Common.{◌≡◌, ℕ, zero, suc, ◌+◌, ◌-◌, ◌<◌, ◌≤◌, cond, eqb, inl, inr, List, [], ◌∷◌, ◌++◌, length}
use Rattle.std.proofs.Common.{Some, None, refl, sym, ap, subst, ◌∙◌, append_assoc, arith}
use Rattle.std.specs.Prelude.{nat_lt}
use Rattle.std.specs.List.{AllByRecursion}
use Rattle.std.specs.Int.{w16, w32, to_be_bytes}
use Rattle.std.proofs.lemmas.List.{append-nil, length-append}
use Rattle.std.proofs.lemmas.List.Concat.{flat_map-cons}
use Rattle.std.proofs.lemmas.Bool.{ltb-true, lt-ltb}
use Rattle.std.proofs.lemmas.Option.{none-some, same_Some}
use Rattle.aeg_base.specs.declared.limits.TheConstants.{POSITIONS}
use Rattle.aeg_base.specs.declared.names.Ballot.{Ballot}
use Rattle.aeg_base.specs.declared.names.Tier.{Tier}
use Rattle.svc_api.specs.Plan.{IsBackend}
use Rattle.aeg_wire.specs.Fields.{Read, ◌>>=◌, byte_at}
use Rattle.aeg_wire.specs.Formats.{made, both}
use Rattle.aeg_wire.proofs.Grammar.{IsBytes, Takes, Takes-then, IsGrammar, bind_some, made_some, kept_some, both_grammar}
use Rattle.aeg_wire.proofs.Numbers.{one_byte}
use Rattle.log_values.specs.declared.any_value.AnyValue.{AnyValue}
use Rattle.log_values.specs.declared.fact.Fact.{Fact}
use Rattle.log_values.specs.declared.fact.Fact.TheVariants as facts
use Rattle.log_values.specs.declared.format.TheConstants.{PROMISED, ACCEPTED, LEARNED, HELD}
use Rattle.log_values.specs.Fields.{tier_number, backend_at, call_number_at, position_at, ballot, ballot_at, FitsBallot, IsCallNumber}
use Rattle.log_values.specs.Values.{any_value, any_value_at, FitsAny}
use Rattle.log_values.specs.Records.{fact, fact_at, FitsFact, record_text, facts_at, record_at, FitsRecord}
use Rattle.log_values.proofs.FieldGrammar.{backend_grammar, call_number_grammar, position_grammar, ballot_grammar}
use Rattle.log_values.proofs.Leads.{chosen, case_of}
use Rattle.log_values.proofs.ValueGrammar.{any_grammar}
use Rattle.log_values.proofs.Wholes.{IsEndGrammar}
use Rattle.aeg_wire.proofs.Lists.{with_front}
use Rattle.log_values.specs.declared.misread.Misread.{Misread}
use Rattle.log_values.specs.declared.misread.Misread.TheVariants as misread
use Rattle.log_values.specs.Reading.{Misses}

-- ---- the fields of facts

abbrev AcceptedFields : Type 0
AcceptedFields = ℕ × (Ballot × AnyValue)

abbrev accepted_at : List ℕ → Read AcceptedFields
accepted_at = both position_at (λ _. both ballot_at (λ _. any_value_at))

abbrev accepted_of : AcceptedFields → Fact
accepted_of p = facts.Accepted p.0 p.1.0 p.1.1

abbrev accepted_fits : AcceptedFields → Type 0
accepted_fits p = (p.0 < POSITIONS) × (FitsBallot p.1.0 × FitsAny p.1.1)

abbrev accepted_text : AcceptedFields → List ℕ
accepted_text p = to_be_bytes w16 p.0 ++ (ballot p.1.0 ++ any_value p.1.1)

accepted_grammar : IsGrammar accepted_fits accepted_text accepted_at
accepted_grammar = both_grammar (λ n. n < POSITIONS) (λ n. to_be_bytes w16 n) position_at (λ _ p. FitsBallot p.0
    × FitsAny p.1) (λ _ p. ballot p.0 ++ any_value p.1) (λ _. both ballot_at (λ _. any_value_at)) position_grammar
    (λ _ _. both_grammar FitsBallot ballot ballot_at (λ _ v. FitsAny v) (λ _ v. any_value v) (λ _. any_value_at) ballot_grammar (λ _ _. any_grammar))

abbrev LearnedFields : Type 0
LearnedFields = ℕ × AnyValue

abbrev learned_at : List ℕ → Read LearnedFields
learned_at = both position_at (λ _. any_value_at)

abbrev learned_of : LearnedFields → Fact
learned_of p = facts.Learned p.0 p.1

abbrev learned_fits : LearnedFields → Type 0
learned_fits p = (p.0 < POSITIONS) × FitsAny p.1

abbrev learned_text : LearnedFields → List ℕ
learned_text p = to_be_bytes w16 p.0 ++ any_value p.1

learned_grammar : IsGrammar learned_fits learned_text learned_at
learned_grammar = both_grammar (λ n. n < POSITIONS) (λ n. to_be_bytes w16 n) position_at (λ _ v. FitsAny v)
    (λ _ v. any_value v) (λ _. any_value_at) position_grammar (λ _ _. any_grammar)

abbrev HeldFields : Type 0
HeldFields = Tier × (ℕ × ℕ)

abbrev held_at : List ℕ → Read HeldFields
held_at = both backend_at (λ _. both call_number_at (λ _. byte_at))

abbrev held_of : HeldFields → Fact
held_of p = facts.Held p.0 p.1.0 p.1.1

abbrev held_fits : HeldFields → Type 0
held_fits p = IsBackend p.0 × (IsCallNumber p.1.0 × (p.1.1 < 256))

abbrev held_text : HeldFields → List ℕ
held_text p = (tier_number p.0 ∷ []) ++ (to_be_bytes w32 p.1.0 ++ (p.1.1 ∷ []))

held_grammar : IsGrammar held_fits held_text held_at
held_grammar = both_grammar IsBackend (λ t. tier_number t ∷ []) backend_at (λ _ p. IsCallNumber p.0
    × (p.1 < 256)) (λ _ p. to_be_bytes w32 p.0 ++ (p.1 ∷ [])) (λ _. both call_number_at (λ _. byte_at)) backend_grammar
    (λ _ _. both_grammar IsCallNumber (λ n. to_be_bytes w32 n) call_number_at (λ _ n. n < 256) (λ _ n. n ∷ [])
    (λ _. byte_at) call_number_grammar (λ _ _. one_byte))

-- ---- facts

abbrev held_or_none : ℕ → List ℕ → Read Fact
held_or_none lead after = cond {A = Read Fact} (eqb lead HELD) (made held_of (held_at after)) None

abbrev learned_or : ℕ → List ℕ → Read Fact
learned_or lead after = cond {A = Read Fact} (eqb lead LEARNED) (made learned_of (learned_at after)) (held_or_none lead after)

abbrev accepted_or : ℕ → List ℕ → Read Fact
accepted_or lead after = cond {A = Read Fact} (eqb lead ACCEPTED) (made accepted_of (accepted_at after)) (learned_or lead after)

fact_case : (lead : ℕ) (bytes after : List ℕ) (v : Fact) (rest : List ℕ) → Takes bytes (lead ∷ []) after
    → cond {A = Read Fact} (eqb lead PROMISED) (made facts.Promised (ballot_at after)) (accepted_or lead after)
    ≡ Some (v, rest) → Takes bytes (fact v) rest × FitsFact v
fact_case lead bytes after v rest first e =
    elim (chosen {A = Read Fact} (eqb lead PROMISED) (made facts.Promised (ballot_at after)) (accepted_or lead after) (Some (v, rest)) e) [
      | inl h ↦ case_of PROMISED facts.Promised FitsBallot ballot ballot_at ballot_grammar FitsFact fact
          (λ b fits. fits) (λ b. refl) bytes lead after v rest first h.0 h.1
      | inr h ↦ elim (chosen {A = Read Fact} (eqb lead ACCEPTED) (made accepted_of (accepted_at after)) (learned_or lead after) (Some (v, rest)) h.1) [
        | inl k ↦ case_of ACCEPTED accepted_of accepted_fits accepted_text accepted_at accepted_grammar FitsFact fact
            (λ p fits. fits) (λ p. refl) bytes lead after v rest first k.0 k.1
        | inr k ↦ elim (chosen {A = Read Fact} (eqb lead LEARNED) (made learned_of (learned_at after)) (held_or_none lead after) (Some (v, rest)) k.1) [
          | inl l ↦ case_of LEARNED learned_of learned_fits learned_text learned_at learned_grammar FitsFact fact
              (λ p fits. fits) (λ p. refl) bytes lead after v rest first l.0 l.1
          | inr l ↦ elim (chosen {A = Read Fact} (eqb lead HELD) (made held_of (held_at after)) None (Some (v, rest)) l.1) [
            | inl m ↦ case_of HELD held_of held_fits held_text held_at held_grammar FitsFact fact (λ p fits. fits)
                (λ p. refl) bytes lead after v rest first m.0 m.1
            | inr m ↦ absurd (none-some (v, rest) m.1)
          ]
        ]
      ]
    ]

fact_takes : (bytes : List ℕ) (v : Fact) (rest : List ℕ) → IsBytes bytes → fact_at bytes ≡ Some (v, rest) → Takes bytes (fact v) rest × FitsFact v
unfolding fact_at
fact_takes bytes v rest are e =
    let b = bind_some (byte_at bytes)
    (λ lead. cond {A = Read Fact} (eqb lead.0 PROMISED) (made facts.Promised (ballot_at lead.1))
    (accepted_or lead.0 lead.1)) (v, rest) e in
    let first = one_byte.takes bytes b.0.0 b.0.1 are b.1 in
    fact_case b.0.0 bytes b.0.1 v rest first.0 b.2

fact_again : (v : Fact) (rest : List ℕ) → FitsFact v → fact_at (fact v ++ rest) ≡ Some (v, rest)
unfolding fact_at
fact_again (facts.Promised b) rest fits = ap (λ (r : Read Ballot). made facts.Promised r) (ballot_grammar.again b rest fits)
fact_again (facts.Accepted p b v) rest fits = ap (λ (r : Read AcceptedFields). made accepted_of r) (accepted_grammar.again (p, (b, v)) rest fits)
fact_again (facts.Learned p v) rest fits = ap (λ (r : Read LearnedFields). made learned_of r) (learned_grammar.again (p, v) rest fits)
fact_again (facts.Held tier number code) rest fits = ap (λ (r : Read HeldFields). made held_of r) (held_grammar.again (tier, (number, code)) rest fits)

pub fact_grammar : IsGrammar FitsFact fact fact_at
fact_grammar = record { takes = fact_takes; again = fact_again }

-- ---- records

facts_take : (n : ℕ) (bytes : List ℕ) (fs : List Fact) (rest : List ℕ) → IsBytes bytes
    → facts_at n bytes ≡ Some (fs, rest) → Takes bytes (record_text fs) rest × AllByRecursion FitsFact fs
unfolding facts_at
facts_take n [] fs rest are e =
    subst (λ (p : List Fact × List ℕ). Takes [] (record_text p.0) p.1 × AllByRecursion FitsFact p.0)
    (same_Some ([], []) (fs, rest) e) (record { parts = refl; rest_fits = are }, tt)
facts_take zero (byte ∷ bytes) fs rest are e = absurd cc
facts_take (suc n) (byte ∷ bytes) fs rest are e =
    let b = bind_some (fact_at (byte ∷ bytes)) (λ first. made (λ others. first.0 ∷ others) (facts_at n first.1)) (fs, rest) e in
    let m = made_some (λ others. b.0.0 ∷ others) (facts_at n b.0.1) (fs, rest) b.2 in
    let first = fact_grammar.takes (byte ∷ bytes) b.0.0 b.0.1 are b.1 in
    let others = facts_take n b.0.1 m.0.0 m.0.1 first.0.rest_fits m.1 in
    let all = Takes-then (byte ∷ bytes) (fact b.0.0) b.0.1 (record_text m.0.0) m.0.1 first.0 others.0 in
    subst (λ (p : List Fact × List ℕ). Takes (byte ∷ bytes) (record_text p.0) p.1 × AllByRecursion FitsFact p.0) m.2 (rw flat_map-cons all, (first.1, others.1))

-- each fact has a lead byte
has_lead : (v : Fact) (rest : List ℕ) → (lead : ℕ) × (tail : List ℕ) × (fact v ++ rest ≡ lead ∷ tail)
has_lead (facts.Promised b) rest = (PROMISED, ballot b ++ rest, refl)
has_lead (facts.Accepted p b v) rest = (ACCEPTED, accepted_text (p, (b, v)) ++ rest, refl)
has_lead (facts.Learned p v) rest = (LEARNED, learned_text (p, v) ++ rest, refl)
has_lead (facts.Held tier number code) rest = (HELD, held_text (tier, (number, code)) ++ rest, refl)

facts_step : (n : ℕ) (v : Fact) (more : List ℕ) → FitsFact v → facts_at (suc n) (fact v ++ more) ≡ made (λ others. v ∷ others) (facts_at n more)
unfolding facts_at
facts_step n v more fits =
    let l = has_lead v more in
    let led : facts_at (suc n) (l.0 ∷ l.1) ≡ (fact_at (l.0 ∷ l.1) >>= λ first. made (λ others. first.0 ∷ others) (facts_at n first.1)) = refl in
    ap (λ (w : List ℕ). facts_at (suc n) w) l.2 ∙ led
    ∙ ap (λ (w : List ℕ). fact_at w >>= λ first. made (λ others. first.0 ∷ others) (facts_at n first.1)) (sym l.2)
    ∙ ap (λ (r : Read Fact). r >>= λ first. made (λ others. first.0 ∷ others) (facts_at n first.1)) (fact_grammar.again v more fits)

facts_end : (n : ℕ) (fs : List Fact) → length fs ≤ n → AllByRecursion FitsFact fs → facts_at n (record_text fs) ≡ Some (fs, [])
unfolding facts_at
facts_end n [] le all = refl
facts_end zero (f ∷ fs) le all = absurd (omega (arith, le))
facts_end (suc n) (f ∷ fs) le all =
    let others = facts_end n fs (omega (arith, le)) all.1 in
    ap (λ (w : List ℕ). facts_at (suc n) w) (flat_map-cons fact f fs) ∙ facts_step n f (record_text fs) all.0
    ∙ ap (λ (r : Read (List Fact)). made (λ others. f ∷ others) r) others

lead_length : (v : Fact) (rest : List ℕ) → 1 ≤ length (fact v)
lead_length (facts.Promised b) rest = omega arith
lead_length (facts.Accepted p b v) rest = omega arith
lead_length (facts.Learned p v) rest = omega arith
lead_length (facts.Held tier number code) rest = omega arith

pub no_more : (fs : List Fact) → length fs ≤ length (record_text fs)
no_more [] = omega arith
no_more (f ∷ fs) = omega (arith, ap length (flat_map-cons fact f fs), length-append (fact f) (record_text fs), lead_length f [], no_more fs)

pub record_grammar : IsEndGrammar FitsRecord record_text record_at
unfolding record_at
record_grammar = record {
  takes = λ bytes fs rest are e.
      let k = kept_some (λ record_facts. nat_lt 0 (length record_facts)) (facts_at (length bytes) bytes) (fs, rest) e in
      let t = facts_take (length bytes) bytes fs rest are k.0 in
      (t.0, (ltb-true 0 (length fs) k.1, t.1));
  ends = λ fs fits. rw (facts_end (length (record_text fs)) fs (no_more fs) fits.1, lt-ltb 0 (length fs) fits.0) refl;
}

-- ---- a loop over facts

regroup : (front : List Fact) (x : Fact) (read : Read (List Fact)) → with_front front (made (λ others. x ∷ others) read) ≡ with_front (front ++ x ∷ []) read
regroup front x (Some field) = ap (λ (xs : List Fact). Some (xs, field.1)) (simp append_assoc)
regroup front x None = refl

facts_open : (n : ℕ) (bytes : List ℕ) → (bytes ≡ [] → ⊥)
    → facts_at (suc n) bytes ≡ (fact_at bytes >>= λ first. made (λ others. first.0 ∷ others) (facts_at n first.1))
unfolding facts_at
facts_open n [] some = absurd (some refl)
facts_open n (byte ∷ rest) some = refl

pub facts_go_on : (front : List Fact) (count i : ℕ) (bytes : List ℕ) (x : Fact) (after : List ℕ)
    (total : Read (List Fact)) → i < count → (bytes ≡ [] → ⊥) → fact_at bytes ≡ Some (x, after)
    → with_front front (facts_at (count - i) bytes) ≡ total → with_front (front ++ x ∷ []) (facts_at (count - (i + 1)) after) ≡ total
facts_go_on front count i bytes x after total lt some h so_far =
    let k : count - i ≡ suc (count - (i + 1)) = omega arith in
    let step : with_front front (facts_at (count - i) bytes)
    ≡ with_front (front ++ x ∷ []) (facts_at (count - (i + 1)) after) = rw (
      k,
      facts_open (count - (i + 1)) bytes some,
      h,
    ) (regroup front x (facts_at (count - (i + 1)) after)) in
    sym step ∙ so_far

pub facts_miss : (front : List Fact) (count i : ℕ) (bytes : List ℕ) (e : Misread) (total : Read (List Fact)) → i < count
    → (bytes ≡ [] → ⊥) → Misses e (fact_at bytes)
    → with_front front (facts_at (count - i) bytes) ≡ total → Misses e total
facts_miss front count i bytes misread.Memory total lt some h so_far = tt
facts_miss front count i bytes misread.Outside total lt some h so_far =
    let k : count - i ≡ suc (count - (i + 1)) = omega arith in
    let step : with_front front (facts_at (count - i) bytes) ≡ None = rw (k, facts_open (count - (i + 1)) bytes some, h) refl in
    sym so_far ∙ step

pub facts_done : (front : List Fact) (n : ℕ) (bytes : List ℕ) (total : Read (List Fact)) → bytes ≡ []
    → with_front front (facts_at n bytes) ≡ total → total ≡ Some (front, bytes)
unfolding facts_at
facts_done front n [] total e so_far = sym so_far ∙ ap (λ (fs : List Fact). Some (fs, [])) (append-nil front)
facts_done front n (byte ∷ rest) total e so_far = absurd cc

pub facts_over : (front : List Fact) (count i : ℕ) (bytes : List ℕ) (total : Read (List Fact)) → count ≤ i
    → (bytes ≡ [] → ⊥) → with_front front (facts_at (count - i) bytes) ≡ total → total ≡ None
unfolding facts_at
facts_over front count i [] total le some so_far = absurd (some refl)
facts_over front count i (byte ∷ rest) total le some so_far =
    let k : count - i ≡ 0 = omega arith in
    let step : with_front front (facts_at (count - i) (byte ∷ rest)) ≡ None = rw k refl in
    sym so_far ∙ step
