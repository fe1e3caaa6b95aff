-- The lowest number that passes a test, found from 0 on.
use Rattle.std.proofs.Common.{◌≡◌, ℕ, ◌+◌, ◌*◌, ◌<◌, ◌≤◌, Bool, true, length, refl, sym, ap, ◌∙◌, subst, inl, inr, arith, Option, Some, None, zero, suc, get_or}
use Rattle.std.specs.Prelude.{◌⊎◌, if◌then◌else◌}
use Rattle.std.proofs.lemmas.Bool.{lt-ltb, cases_lt}
use Rattle.std.proofs.lemmas.List.{get_or_default}
use Rattle.log_model.specs.Log.{count_below}
use Rattle.round_model.specs.declared.claim.Claim.{Claim}
use Rattle.round_model.specs.Lists.{lowest, and_then}
use Rattle.round_model.specs.Verdicts.{Claims, claim_of, has_token, is_backed, lowest_backed}
use Rattle.state_verify.specs.Tallies.{TallyState}

-- what a number makes of the lowest one below it
abbrev step : ℕ → Bool → Option ℕ → Option ℕ
step n b None = if b then Some n else None
step n b (Some i) = Some i

low_is : (n : ℕ) (test : ℕ → Bool) → lowest (suc n) test ≡ step n (test n) (lowest n test)
low_is n test = go (lowest n test)
  where
    go : (o : Option ℕ) → (elim o [ None ↦ (if test n then Some n else None) | Some i ↦ Some i ]) ≡ step n (test n) o
    go None = refl
    go (Some i) = refl

lowest_at : (n m : ℕ) (test : ℕ → Bool) → lowest n test ≡ None → test n ≡ true → n < m → lowest m test ≡ Some n
lowest_at n zero test none here l = absurd (omega arith)
lowest_at n (suc m) test none here l = go (cases_lt n m) (lowest_at n m test none here)
  where
    go : (n < m) ⊎ (m ≤ n) → (n < m → lowest m test ≡ Some n) → lowest (suc m) test ≡ Some n
    go (inl s) rest = low_is m test ∙ ap (λ o. step m (test m) o) (rest s)
    go (inr s) rest =
        let same : m ≡ n = omega arith in
        ap (λ z. lowest (suc z) test) same ∙ (low_is n test ∙ (ap (λ o. step n (test n) o) none ∙ ap (λ b. step n b None) here))

-- Node n's claim is backed, and no lower node's is. The list is read at i, which is n, by some default d.
first_backed : (u : ℕ) (claims : Claims) (i n count : ℕ) (d : Option Claim) (c : Claim) → u ≤ 2 → length claims ≡ 5 → i ≡ n → n < 2 * u + 1
    → lowest n (λ y. is_backed u claims (claim_of claims y)) ≡ None → get_or claims i d ≡ Some c
    → count ≡ count_below (2 * u + 1) (λ y. has_token c.token (claim_of claims y)) → u < count → Some c ≡ lowest_backed u claims
first_backed u claims i n count d c few five s inside none there counts above =
    let within : i < length claims = omega (arith, few, five, s, inside) in
    let place : claim_of claims n ≡ Some c = sym (ap (λ z. claim_of claims z) s) ∙ (get_or_default claims i None d within ∙ there) in
    let many : u < count_below (2 * u + 1) (λ y. has_token c.token (claim_of claims y)) = omega (arith, above, counts) in
    let backed : is_backed u claims (claim_of claims n) ≡ true = ap (λ o. is_backed u claims o) place ∙ lt-ltb u _ many in
    let low : lowest (2 * u + 1) (λ y. is_backed u claims (claim_of claims y)) ≡ Some n = lowest_at n (2 * u + 1) _ none backed inside in
    sym place ∙ sym (ap (λ o. and_then o (claim_of claims)) low)

-- the same of a tally, whose fields are these
pub backed_here : (t : TallyState) (u : ℕ) (claims : Claims) (i n count : ℕ) (d : Option Claim) (c : Claim)
    → ◌≡◌ {A = TallyState} (record { faults = u; claims = claims }) t → u ≤ 2 → length claims ≡ 5 → i ≡ n → n < 2 * u + 1
    → lowest n (λ y. is_backed t.faults t.claims (claim_of t.claims y)) ≡ None → get_or claims i d ≡ Some c
    → count ≡ count_below (2 * t.faults + 1) (λ y. has_token c.token (claim_of t.claims y)) → u < count → Some c ≡ lowest_backed t.faults t.claims
backed_here t u claims i n count d c v few five s inside = subst Goal v (first_backed u claims i n count d c few five s inside)
  where
    Goal : TallyState → Type 0
    Goal t = lowest n (λ y. is_backed t.faults t.claims (claim_of t.claims y)) ≡ None → get_or claims i d ≡ Some c
        → count ≡ count_below (2 * t.faults + 1) (λ y. has_token c.token (claim_of t.claims y)) → u < count → Some c ≡ lowest_backed t.faults t.claims
