-- Whether a request waits is told by the clients' table.
use Rattle.std.proofs.Common.{◌≡◌, ℕ, suc, ◌<◌, true, false, zero, List, [], ◌∷◌, refl, sym, ◌∙◌, arith, subst}
use Rattle.std.specs.Prelude.{not}
use Rattle.std.specs.List.{All}
use Rattle.std.proofs.lemmas.List.Elements.{All-head}
use Rattle.std.proofs.lemmas.Bool.Decides.{nat_tests}
use Rattle.round_model.specs.Lists.{concat, is_nil, is_some}
use Rattle.round_model.specs.Tables.{Parked, Tables, parked_of}
use Rattle.batcher.specs.Clients.{ClientTable, Agrees, busy_of}
use Rattle.pipeline.specs.States.{RoundsState}
use Rattle.pipeline.specs.Kept.{IsInRange, IsWaiting}

none_busy : (c : ℕ) → is_some (parked_of c []) ≡ false
none_busy c = refl

-- a client that is busy has a request that waits
some_wait : (c : ℕ) (ps : List Parked) → is_some (parked_of c ps) ≡ true → not (is_nil ps) ≡ true
some_wait c [] e = absurd (cc)
some_wait c (p ∷ ps) e = refl

pub busy_waits : (t : ClientTable) (T : Tables) (c : ℕ) → Agrees t T → c < 16 → busy_of t.busy (suc c) ≡ true → not (is_nil (concat T.queue)) ≡ true
busy_waits t T c k low b = some_wait (suc c) (concat T.queue) (k.busy (suc c) (omega arith) (omega arith) ∙ b)

-- the first request that waits is its client's
first_busy : (p : Parked) (ps : List Parked) → is_some (parked_of p.client (p ∷ ps)) ≡ true
first_busy p ps = grind (arith, nat_tests)

none_wait : (T : Tables) (t : ClientTable) (ps : List Parked) → All IsWaiting ps
    → ((k : ℕ) → k < 16 → is_some (parked_of (suc k) ps) ≡ false) → not (is_nil ps) ≡ false
none_wait T t [] a h = refl
none_wait T t (p ∷ ps) a h = here p.client refl
  where
    asks : IsWaiting p
    asks = All-head IsWaiting p ps a

    here : (c : ℕ) → p.client ≡ c → true ≡ false
    here zero e = absurd (omega (arith, asks.client_low, e))
    here (suc c) e = sym (subst (λ z. is_some (parked_of z (p ∷ ps)) ≡ true) e (first_busy p ps)) ∙ h c (omega (arith, asks.client_high, e))

pub idle_waits_not : (t : ClientTable) (T : Tables) (s : RoundsState) → Agrees t T → IsInRange s → T.queue ≡ s.queue
    → ((k : ℕ) → k < 16 → busy_of t.busy (suc k) ≡ false) → not (is_nil (concat T.queue)) ≡ false
idle_waits_not t T s k range q h = none_wait T t (concat T.queue) (subst (λ z. All IsWaiting (concat z)) (sym q) range.requests)
    (λ c low. k.busy (suc c) (omega arith) (omega arith) ∙ h c low)
