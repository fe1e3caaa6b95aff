-- What a leading middle node offers of its own.
use Rattle.std.proofs.Common.{◌≡◌, ℕ, zero, suc, ◌+◌, ◌*◌, ◌<◌, ◌≤◌, ◌%◌, ◌/◌, ◌==◌, Bool, true, false, cond, List, [], ◌∷◌, length, take, refl, sym, ap, ◌∙◌}
use Rattle.std.proofs.Common.{subst, arith, Option, Some, None}
use Rattle.std.specs.Prelude.{◌&&◌, not, nat_lt, replicate, slice_index_or}
use Rattle.std.specs.List.{AllByRecursion}
use Rattle.std.proofs.lemmas.Bool.{le-ltb, lt-ltb, ne_eqb}
use Rattle.log_model.specs.Log.{count_below, open_at}
use Rattle.log_values.specs.declared.any_value.AnyValue.{AnyValue}
use Rattle.log_values.specs.declared.any_value.AnyValue.TheVariants.{Mid as InMid}
use Rattle.log_values.specs.declared.entry.Entry.{Entry}
use Rattle.log_values.specs.declared.mid_value.MidValue.TheVariants.{Batch, Verdict as Decided}
use Rattle.log_values.specs.declared.mid_value.Verdict.{Verdict}
use Rattle.round_model.specs.declared.claim.Claim.{Claim}
use Rattle.round_model.specs.Lists.{and_then, concat, half, is_nil, is_some, odd}
use Rattle.round_model.specs.Numbered.{find}
use Rattle.round_model.specs.Service.{Programs}
use Rattle.round_model.specs.Tables.{batch_of, fresh_pending}
use Rattle.round_model.specs.Verdicts.{Claims, claim_of, claims_in, how_many, is_backed, no_claims, serial_if, verdict, verdict_by}
use Rattle.round_model.proofs.ShimLaws.{lowest_none}
use Rattle.state_verify.specs.Tallies.{TallyState}
use Rattle.tier_laws.proofs.Server.GrowingHistory.{half-is}
use Rattle.tier_model.specs.declared.turn.Idle.{Idle}
use Rattle.tier_model.specs.declared.turn.Idle.TheVariants as why
use Rattle.tier_model.specs.Mid.{Mid}
use Rattle.tier_model.specs.MidRows.{own_batch, own_cause, own_value, own_verdict}
use Rattle.mid_rounds.specs.Mids.{claims_by}
use Rattle.mid_rounds.proofs.Votes.{taken_faults, taken_none, taken_some}

-- NO TOKENS

none_there : {A : Type 0} (n y : ℕ) → ◌≡◌ {A = Option A} (slice_index_or (replicate n None) y None) None
none_there zero y = refl
none_there (suc n) zero = refl
none_there {A} (suc n) (suc y) = none_there {A = A} n y

nobody_passes : (n : ℕ) (test : ℕ → Bool) → ((y : ℕ) → test y ≡ false) → ◌≡◌ {A = ℕ} (count_below n test) 0
nobody_passes zero test h = refl
nobody_passes (suc n) test h = subst (λ b. cond b 1 0 + count_below n test ≡ 0) (sym (h n)) (omega (arith, nobody_passes n test h))

nobody_in : (u : ℕ) → ◌≡◌ {A = ℕ} (how_many u no_claims) 0
nobody_in u = nobody_passes (2 * u + 1) (λ y. is_some (claim_of no_claims y)) (λ y. ap (λ (o : Option Claim). is_some o) (none_there {A = Claim} 5 y))

no_verdict : (u : ℕ) → verdict u no_claims ≡ None
no_verdict u =
    ap (λ o. verdict_by (nat_lt u (how_many u no_claims)) (and_then o (claim_of no_claims)))
    (lowest_none (2 * u + 1) (λ y. is_backed u no_claims (claim_of no_claims y)) (λ y l. ap (is_backed u no_claims) (none_there {A = Claim} 5 y)))
    ∙ ap serial_if (le-ltb u (how_many u no_claims) (omega (arith, nobody_in u)))

-- THE TOKENS OF A ROUND

module _ (u : ℕ) (tallies : List (ℕ × TallyState)) (r k : ℕ) where
  abbrev told : Claims
  told = claims_in (claims_by tallies) r

  none_is : k ≡ r → None ≡ find tallies k → no_claims ≡ told
  none_is same none = taken_none tallies r (none ∙ ap (λ (z : ℕ). find tallies z) same)

  pub none_in : k ≡ r → None ≡ find tallies k → 0 ≡ how_many u (claims_in (claims_by tallies) r)
  none_in same none = sym (nobody_in u) ∙ ap (λ (z : Claims). how_many u z) (none_is same none)

  -- they are those of the tally that is found
  pub as_found : {A : Type 0} (f : ℕ → Claims → A) (t : TallyState) → AllByRecursion (λ (e : ℕ × TallyState). e.1.faults ≡ u) tallies → k ≡ r
      → Some t ≡ find tallies k → f t.faults t.claims ≡ f u (claims_in (claims_by tallies) r)
  as_found f t faults same found =
      let there : Some t ≡ find tallies r = found ∙ ap (λ (z : ℕ). find tallies z) same in
      ap (λ (z : ℕ). f z t.claims) (taken_faults u tallies r t faults there) ∙ ap (λ (z : Claims). f u z) (taken_some tallies r t there)

  -- THE OWN VERDICT

  abbrev pub as_own : Option Verdict → Option AnyValue
  as_own found = and_then found (λ v. Some (InMid (Decided v)))

  pub none_own : k ≡ r → None ≡ find tallies k → None ≡ as_own (verdict u (claims_in (claims_by tallies) r))
  none_own same none = ap as_own (sym (no_verdict u) ∙ ap (λ (z : Claims). verdict u z) (none_is same none))

  pub found_own : (t : TallyState) (found is : Option Verdict) → AllByRecursion (λ (e : ℕ × TallyState). e.1.faults ≡ u) tallies → k ≡ r
      → Some t ≡ find tallies k → found ≡ verdict t.faults t.claims → found ≡ is → as_own is ≡ as_own (verdict u (claims_in (claims_by tallies) r))
  found_own t found is faults same there e f = ap as_own (sym f ∙ e ∙ as_found verdict t faults same there)

-- THE OWN BATCH

few_nil : {A : Type 0} (xs ys : List A) → xs ≡ take 8 ys → is_nil xs ≡ is_nil ys
few_nil [] [] e = refl
few_nil [] (y ∷ ys) e = absurd cc
few_nil (x ∷ xs) [] e = absurd cc
few_nil (x ∷ xs) (y ∷ ys) e = refl

-- a list with no item, or with one, by what was told of its length
pub empties : {A : Type 0} (xs : List A) (n : ℕ) (empty : Bool) → n ≡ length xs → empty ≡ (n == 0) → empty ≡ is_nil xs
empties [] n empty e f = f ∙ ap (λ (z : ℕ). z == 0) e
empties (x ∷ xs) n empty e f = f ∙ ne_eqb n 0 (λ z. omega (arith, e, z))

no_wait : (waits nil : Bool) → waits ≡ not nil → waits ≡ false → nil ≡ true
no_wait waits true e f = refl
no_wait waits false e f = absurd cc

a_wait : (waits nil : Bool) → waits ≡ not nil → waits ≡ true → nil ≡ false
a_wait waits true e f = absurd cc
a_wait waits false e f = refl

module _ (p : Programs) (σ : Mid) (r : ℕ) where
  abbrev fresh : List Entry
  fresh = fresh_pending p σ.tables σ.pending 16

  abbrev batch_or : Bool → Bool → List Entry → Option AnyValue
  batch_or a b es = cond (a && b) None (Some (InMid (Batch es)))

  -- by the batch and by whether one waits, once the rounds before are applied
  batch_is : (es : List Entry) (at : ℕ) (empty nil : Bool) → at ≡ σ.applied → r ≤ at → es ≡ batch_of p σ.tables σ.pending → empty ≡ is_nil es
      → nil ≡ is_nil (concat σ.tables.queue) → batch_or empty nil es ≡ own_batch p σ r
  batch_is es at empty nil applied early is e f =
      ap (λ (z : Bool). batch_or z nil es) (e ∙ few_nil es fresh is)
      ∙ ap (λ (z : Bool). batch_or (is_nil fresh) z es) f
      ∙ ap (λ (z : List Entry). batch_or (is_nil fresh) (is_nil (concat σ.tables.queue)) z) is
      ∙ ap (λ (b : Bool). cond b None (batch_or (is_nil fresh) (is_nil (concat σ.tables.queue)) (batch_of p σ.tables σ.pending)))
      (sym (le-ltb σ.applied r (omega (arith, applied, early))))

  -- no request is fresh, and none waits for its call
  pub no_batch : (es : List Entry) (at : ℕ) (empty waits : Bool) → at ≡ σ.applied → r ≤ at → es ≡ batch_of p σ.tables σ.pending → empty ≡ is_nil es
      → empty ≡ true → waits ≡ not (is_nil (concat σ.tables.queue)) → waits ≡ false → None ≡ own_batch p σ r
  no_batch es at empty waits applied early is e all f none =
      batch_is es at true true applied early is (sym all ∙ e) (sym (no_wait waits (is_nil (concat σ.tables.queue)) f none))

  -- one is fresh
  pub fresh_batch : (es : List Entry) (at : ℕ) (empty : Bool) → at ≡ σ.applied → r ≤ at → es ≡ batch_of p σ.tables σ.pending → empty ≡ is_nil es
      → empty ≡ false → Some (InMid (Batch es)) ≡ own_batch p σ r
  fresh_batch es at empty applied early is e some =
      batch_is es at false (is_nil (concat σ.tables.queue)) applied early is (sym some ∙ e) refl

  -- one waits for its call
  pub waiting_batch : (es : List Entry) (at : ℕ) (empty waits : Bool) → at ≡ σ.applied → r ≤ at → es ≡ batch_of p σ.tables σ.pending
      → empty ≡ is_nil es → empty ≡ true → waits ≡ not (is_nil (concat σ.tables.queue)) → waits ≡ true → Some (InMid (Batch es)) ≡ own_batch p σ r
  waiting_batch es at empty waits applied early is e all f wait =
      batch_is es at true false applied early is (sym all ∙ e) (sym (a_wait waits (is_nil (concat σ.tables.queue)) f wait))

-- THE OPEN POSITION

odd_at : (f : ℕ) → f % 2 ≡ 1 → odd f ≡ true
odd_at f e = go (odd f) refl (half-is f)
  where
    go : (b : Bool) → odd f ≡ b → f ≡ cond b (2 * half f + 1) (2 * half f) → odd f ≡ true
    go true g h = g
    go false g h = absurd (omega (arith, e, h))

even_at : (f : ℕ) → (f % 2 ≡ 1 → ⊥) → odd f ≡ false
even_at f n = go (odd f) refl (half-is f)
  where
    go : (b : Bool) → odd f ≡ b → f ≡ cond b (2 * half f + 1) (2 * half f) → odd f ≡ false
    go true g h = absurd (n (omega (arith, h)))
    go false g h = g

half_at : (f : ℕ) → half f ≡ f / 2
half_at f = go (odd f) (half-is f)
  where
    go : (b : Bool) → f ≡ cond b (2 * half f + 1) (2 * half f) → half f ≡ f / 2
    go true h = omega (arith, h)
    go false h = omega (arith, h)

module _ (u : ℕ) (σ : Mid) (at : ℕ) where
  abbrev round : ℕ
  round = half (open_at σ.log)

  round_is : at ≡ open_at σ.log → at / 2 ≡ round
  round_is e = sym (half_at at) ∙ ap half e

  odd_is : at ≡ open_at σ.log → at % 2 ≡ 1 → odd (open_at σ.log) ≡ true
  odd_is e f = ap odd (sym e) ∙ odd_at at f

  even_is : at ≡ open_at σ.log → (at % 2 ≡ 1 → ⊥) → odd (open_at σ.log) ≡ false
  even_is e f = ap odd (sym e) ∙ even_at at f

  -- THE OWN VALUE

  abbrev value_by : Programs → Bool → Option AnyValue
  value_by p b = cond b (own_verdict u σ round) (own_batch p σ round)

  -- at an odd position it is a verdict
  pub verdict_there : (p : Programs) → at ≡ open_at σ.log → at % 2 ≡ 1 → own_verdict u σ (at / 2) ≡ own_value u p σ
  verdict_there p e f = ap (λ (r : ℕ). own_verdict u σ r) (round_is e) ∙ ap (λ (b : Bool). value_by p b) (sym (odd_is e f))

  -- at an even one it is a batch
  pub batch_there : (p : Programs) → at ≡ open_at σ.log → (at % 2 ≡ 1 → ⊥) → own_batch p σ (at / 2) ≡ own_value u p σ
  batch_there p e f = ap (λ (r : ℕ). own_batch p σ r) (round_is e) ∙ ap (λ (b : Bool). value_by p b) (sym (even_is e f))

  -- WHY THERE IS NONE

  abbrev cause_by : Bool → Bool → Idle
  cause_by b c = cond b (why.NoTokens (how_many u (claims_in σ.tally round))) (cond c (why.Unapplied σ.applied) why.Nothing)

  even_cause : (c : Bool) → at ≡ open_at σ.log → (at % 2 ≡ 1 → ⊥) → nat_lt σ.applied round ≡ c → cause_by false c ≡ own_cause u σ
  even_cause c e f g = ap (λ (z : Bool). cause_by false z) (sym g) ∙ ap (λ (b : Bool). cause_by b (nat_lt σ.applied round)) (sym (even_is e f))

  -- too few tokens are in
  pub few_tokens : (have : ℕ) → at ≡ open_at σ.log → at % 2 ≡ 1 → have ≡ how_many u (claims_in σ.tally (at / 2)) → why.NoTokens have ≡ own_cause u σ
  few_tokens have e f told =
      ap why.NoTokens (told ∙ ap (λ (r : ℕ). how_many u (claims_in σ.tally r)) (round_is e))
      ∙ ap (λ (b : Bool). cause_by b (nat_lt σ.applied round)) (sym (odd_is e f))

  -- a round before isn't applied
  pub unapplied : (applied : ℕ) → at ≡ open_at σ.log → (at % 2 ≡ 1 → ⊥) → applied ≡ σ.applied → applied < at / 2 → why.Unapplied applied ≡ own_cause u σ
  unapplied applied e f is low = ap why.Unapplied is ∙ even_cause true e f (lt-ltb σ.applied round (omega (arith, is, low, round_is e)))

  -- all are
  pub all_applied : (applied : ℕ) → at ≡ open_at σ.log → (at % 2 ≡ 1 → ⊥) → applied ≡ σ.applied → at / 2 ≤ applied → why.Nothing ≡ own_cause u σ
  all_applied applied e f is high = even_cause false e f (le-ltb σ.applied round (omega (arith, is, high, round_is e)))
