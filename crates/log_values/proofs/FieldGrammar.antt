-- The grammars of fields within their ranges.
use Rattle.std.proofs.Common.{◌≡◌, ℕ, ◌<◌, ◌≤◌, ◌^◌, true, cond, eqb, inl, inr, List, [], ◌∷◌, ◌++◌, Some, None, refl, subst, arith}
use Rattle.std.specs.Prelude.{nat_le, nat_lt, ◌&&◌}
use Rattle.std.specs.Int.{w16, w32, to_be_bytes}
use Rattle.std.proofs.lemmas.Bool.{eqb-true, leb-true, le-leb, ltb-true, lt-ltb}
use Rattle.std.proofs.lemmas.Option.{none-some, same_Some}
use Rattle.aeg_base.specs.declared.limits.TheConstants.{CLIENTS, LAST_SEQ, POSITIONS}
use Rattle.aeg_base.specs.declared.names.Tier.{Tier}
use Rattle.aeg_base.specs.declared.names.Tier.TheVariants.{Mid, Inv, Pay}
use Rattle.svc_api.specs.Plan.{IsBackend}
use Rattle.aeg_wire.specs.Fields.{Read, byte_at, number_at}
use Rattle.aeg_wire.specs.Formats.{kept, both}
use Rattle.aeg_wire.proofs.Grammar.{IsBytes, Takes, IsGrammar, bind_some, refit, kept_grammar, made_grammar, both_grammar}
use Rattle.aeg_wire.proofs.Numbers.{one_byte, two_bytes, four_bytes}
use Rattle.log_values.specs.declared.format.TheConstants.{LAST_INDEX, LAST_STAGE}
use Rattle.log_values.specs.Fields.{tier_number, backend_at, client_at, seq_at, call_number_at, floor_at, position_at}
use Rattle.log_values.specs.Fields.{stage_at, ballot, ballot_at, FitsBallot, IsClient, IsSeq, IsCallNumber, IsFloor}
use Rattle.log_values.proofs.Leads.{chosen}
use Rattle.log_values.proofs.Within.{within, is_within}

pub client_grammar : IsGrammar IsClient (λ n. n ∷ []) client_at
unfolding client_at
client_grammar = refit (λ n. (n < 256) × ((nat_le 1 n && nat_le n CLIENTS) ≡ true)) IsClient (λ n. n ∷ []) client_at
    (kept_grammar (λ n. n < 256) (λ n. n ∷ []) byte_at (λ n. nat_le 1 n && nat_le n CLIENTS) one_byte)
    (λ n h. within 1 CLIENTS n h.1) (λ n h. (omega (arith, h.1), is_within 1 CLIENTS n h.0 h.1))

pub seq_grammar : IsGrammar IsSeq (λ n. to_be_bytes w32 n) seq_at
unfolding seq_at
seq_grammar = refit (λ n. (n < 2 ^ 32) × ((nat_le 1 n && nat_le n LAST_SEQ) ≡ true)) IsSeq (λ n. to_be_bytes w32 n) seq_at
    (kept_grammar (λ n. n < 2 ^ 32) (λ n. to_be_bytes w32 n) (number_at w32) (λ n. nat_le 1 n && nat_le n LAST_SEQ) four_bytes)
    (λ n h. within 1 LAST_SEQ n h.1) (λ n h. (omega (arith, h.1), is_within 1 LAST_SEQ n h.0 h.1))

pub call_number_grammar : IsGrammar IsCallNumber (λ n. to_be_bytes w32 n) call_number_at
unfolding call_number_at
call_number_grammar = refit (λ n. (n < 2 ^ 32) × (nat_le 1 n ≡ true)) IsCallNumber (λ n. to_be_bytes w32 n) call_number_at
    (kept_grammar (λ n. n < 2 ^ 32) (λ n. to_be_bytes w32 n) (number_at w32) (λ n. nat_le 1 n) four_bytes)
    (λ n h. (leb-true 1 n h.1, h.0)) (λ n h. (h.1, le-leb 1 n h.0))

pub floor_grammar : IsGrammar IsFloor (λ n. to_be_bytes w32 n) floor_at
unfolding floor_at
floor_grammar = refit (λ n. (n < 2 ^ 32) × (nat_le 2 n ≡ true)) IsFloor (λ n. to_be_bytes w32 n) floor_at
    (kept_grammar (λ n. n < 2 ^ 32) (λ n. to_be_bytes w32 n) (number_at w32) (λ n. nat_le 2 n) four_bytes)
    (λ n h. (leb-true 2 n h.1, h.0)) (λ n h. (h.1, le-leb 2 n h.0))

pub position_grammar : IsGrammar (λ n. n < POSITIONS) (λ n. to_be_bytes w16 n) position_at
unfolding position_at
position_grammar = refit (λ n. (n < 2 ^ 16) × (nat_lt n POSITIONS ≡ true)) (λ n. n < POSITIONS) (λ n. to_be_bytes w16 n) position_at
    (kept_grammar (λ n. n < 2 ^ 16) (λ n. to_be_bytes w16 n) (number_at w16) (λ n. nat_lt n POSITIONS) two_bytes)
    (λ n h. ltb-true n POSITIONS h.1) (λ n h. (omega (arith, h), lt-ltb n POSITIONS h))

pub stage_grammar : IsGrammar (λ n. (1 ≤ n) × (n ≤ LAST_STAGE)) (λ n. n ∷ []) stage_at
unfolding stage_at
stage_grammar = refit (λ n. (n < 256) × ((nat_le 1 n && nat_le n LAST_STAGE) ≡ true)) (λ n. (1 ≤ n) × (n ≤ LAST_STAGE)) (λ n. n ∷ []) stage_at
    (kept_grammar (λ n. n < 256) (λ n. n ∷ []) byte_at (λ n. nat_le 1 n && nat_le n LAST_STAGE) one_byte)
    (λ n h. within 1 LAST_STAGE n h.1) (λ n h. (omega (arith, h.1), is_within 1 LAST_STAGE n h.0 h.1))

pub ballot_grammar : IsGrammar FitsBallot ballot ballot_at
unfolding ballot_at
ballot_grammar =
    let counter = kept_grammar (λ n. n < 2 ^ 32) (λ n. to_be_bytes w32 n) (number_at w32) (λ n. nat_le 1 n) four_bytes in
    let node = kept_grammar (λ n. n < 256) (λ n. n ∷ []) byte_at (λ n. nat_le n LAST_INDEX) one_byte in
    let parts = both_grammar (λ n. (n < 2 ^ 32) × (nat_le 1 n ≡ true)) (λ n. to_be_bytes w32 n) (λ b. kept (λ n. nat_le 1 n) (number_at w32 b))
    (λ _ n. (n < 256) × (nat_le n LAST_INDEX ≡ true)) (λ _ n. n ∷ []) (λ _ b. kept (λ n. nat_le n LAST_INDEX) (byte_at b)) counter (λ _ _. node) in
    refit (λ b. ((b.counter < 2 ^ 32) × (nat_le 1 b.counter ≡ true)) × ((b.node < 256) × (nat_le b.node LAST_INDEX ≡ true))) FitsBallot ballot ballot_at
    (made_grammar (λ p. ((p.0 < 2 ^ 32) × (nat_le 1 p.0 ≡ true)) × ((p.1 < 256) × (nat_le p.1 LAST_INDEX ≡ true))) (λ p. to_be_bytes w32 p.0 ++ (p.1 ∷ []))
    (both (λ b. kept (λ n. nat_le 1 n) (number_at w32 b)) (λ _ b. kept (λ n. nat_le n LAST_INDEX) (byte_at b)))
    (λ p. record { counter = p.0; node = p.1 }) (λ b. (b.counter, b.node)) (λ p. refl) (λ b. refl) parts)
    (λ b h. record { low = leb-true 1 b.counter h.0.1; high = h.0.0; node = leb-true b.node LAST_INDEX h.1.1 })
    (λ b h. ((h.high, le-leb 1 b.counter h.low), (omega (arith, h.node), le-leb b.node LAST_INDEX h.node)))

backend_case : (n : ℕ) (bytes after : List ℕ) (t : Tier) (rest : List ℕ) → Takes bytes (n ∷ []) after
    → cond {A = Read Tier} (eqb n 1) (Some (Inv, after)) (cond (eqb n 2) (Some (Pay, after)) None) ≡ Some (t, rest)
    → Takes bytes (tier_number t ∷ []) rest × IsBackend t
backend_case n bytes after t rest taken e =
    elim (chosen {A = Read Tier} (eqb n 1) (Some (Inv, after)) (cond (eqb n 2) (Some (Pay, after)) None) (Some (t, rest)) e) [
      | inl h ↦ subst (λ (p : Tier × List ℕ). Takes bytes (tier_number p.0 ∷ []) p.1
          × IsBackend p.0) (same_Some (Inv, after) (t, rest) h.1)
          (subst (λ (k : ℕ). Takes bytes (k ∷ []) after) (eqb-true n 1 h.0) taken, tt)
      | inr h ↦ elim (chosen {A = Read Tier} (eqb n 2) (Some (Pay, after)) None (Some (t, rest)) h.1) [
        | inl k ↦ subst (λ (p : Tier × List ℕ). Takes bytes (tier_number p.0 ∷ []) p.1
            × IsBackend p.0) (same_Some (Pay, after) (t, rest) k.1)
            (subst (λ (m : ℕ). Takes bytes (m ∷ []) after) (eqb-true n 2 k.0) taken, tt)
        | inr k ↦ absurd (none-some (t, rest) k.1)
      ]
    ]

backend_takes : (bytes : List ℕ) (t : Tier) (rest : List ℕ) → IsBytes bytes → backend_at bytes ≡ Some (t, rest)
    → Takes bytes (tier_number t ∷ []) rest × IsBackend t
unfolding backend_at
backend_takes bytes t rest are e =
    let b = bind_some (byte_at bytes) (λ n. cond {A = Read Tier} (eqb n.0 1) (Some (Inv, n.1)) (cond (eqb n.0 2) (Some (Pay, n.1)) None)) (t, rest) e in
    let first = one_byte.takes bytes b.0.0 b.0.1 are b.1 in
    backend_case b.0.0 bytes b.0.1 t rest first.0 b.2

backend_again : (t : Tier) (rest : List ℕ) → IsBackend t → backend_at (tier_number t ∷ rest) ≡ Some (t, rest)
unfolding backend_at
backend_again Mid rest fits = absurd fits
backend_again Inv rest fits = refl
backend_again Pay rest fits = refl

pub backend_grammar : IsGrammar IsBackend (λ t. tier_number t ∷ []) backend_at
backend_grammar = record { takes = backend_takes; again = λ t rest fits. backend_again t rest fits }
