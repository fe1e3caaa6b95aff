-- The fields of values and messages, each within its range.
use Rattle.std.specs.Prelude.{ℕ, ◌<◌, ◌≤◌, ◌^◌, List, [], ◌∷◌, ◌++◌, Some, None, nat_lt, nat_le, ◌&&◌, ◌==◌, if◌then◌else◌, length}
use Rattle.std.specs.Int.{w16, w32, to_be_bytes}
use Rattle.aeg_base.specs.declared.limits.TheConstants.{CLIENTS, LAST_SEQ, POSITIONS, TEXT_BYTES}
use Rattle.aeg_base.specs.declared.names.Ballot.{Ballot}
use Rattle.aeg_base.specs.declared.names.Tier.{Tier}
use Rattle.aeg_base.specs.declared.names.Tier.TheVariants.{Mid, Inv, Pay}
use Rattle.aeg_wire.specs.Fields.{Read, ◌>>=◌, byte_at, number_at}
use Rattle.aeg_wire.specs.Formats.{made, kept, both}
use Rattle.log_values.specs.declared.format.TheConstants.{LAST_INDEX, LAST_STAGE, MID_TIER, INV_TIER, PAY_TIER}

-- the number of a tier
abbrev pub tier_number : Tier → ℕ
tier_number Mid = MID_TIER
tier_number Inv = INV_TIER
tier_number Pay = PAY_TIER

-- a backend tier
unfoldable pub backend_at : List ℕ → Read Tier
backend_at bytes = byte_at bytes >>= λ n. if n.0 == INV_TIER then Some (Inv, n.1) else if n.0 == PAY_TIER then Some (Pay, n.1) else None

-- a client, 1 to 16
unfoldable pub client_at : List ℕ → Read ℕ
client_at bytes = kept (λ n. nat_le 1 n && nat_le n CLIENTS) (byte_at bytes)

-- a client's request, 1 to 65,536
unfoldable pub seq_at : List ℕ → Read ℕ
seq_at bytes = kept (λ n. nat_le 1 n && nat_le n LAST_SEQ) (number_at w32 bytes)

-- a call's number, at least 1
unfoldable pub call_number_at : List ℕ → Read ℕ
call_number_at bytes = kept (λ n. nat_le 1 n) (number_at w32 bytes)

-- a floor that was raised, at least 2
unfoldable pub floor_at : List ℕ → Read ℕ
floor_at bytes = kept (λ n. nat_le 2 n) (number_at w32 bytes)

-- a position that has a value
unfoldable pub position_at : List ℕ → Read ℕ
position_at bytes = kept (λ n. nat_lt n POSITIONS) (number_at w16 bytes)

-- the stage after a call, 1 to the last
unfoldable pub stage_at : List ℕ → Read ℕ
stage_at bytes = kept (λ n. nat_le 1 n && nat_le n LAST_STAGE) (byte_at bytes)

abbrev pub ballot : Ballot → List ℕ
ballot b = to_be_bytes w32 b.counter ++ (b.node ∷ [])

-- a counter of at least 1, and a replica's index
unfoldable pub ballot_at : List ℕ → Read Ballot
ballot_at bytes = made (λ p. record { counter = p.0; node = p.1 })
    (both (λ b. kept (λ n. nat_le 1 n) (number_at w32 b)) (λ _ b. kept (λ n. nat_le n LAST_INDEX) (byte_at b)) bytes)

pub record FitsBallot (b : Ballot) : Type 0 where
  pub low : 1 ≤ b.counter
  pub high : b.counter < 2 ^ 32
  pub node : b.node ≤ LAST_INDEX

abbrev pub IsClient : ℕ → Type 0
IsClient n = (1 ≤ n) × (n ≤ CLIENTS)

abbrev pub IsSeq : ℕ → Type 0
IsSeq n = (1 ≤ n) × (n ≤ LAST_SEQ)

abbrev pub IsCallNumber : ℕ → Type 0
IsCallNumber n = (1 ≤ n) × (n < 2 ^ 32)

abbrev pub IsFloor : ℕ → Type 0
IsFloor n = (2 ≤ n) × (n < 2 ^ 32)

abbrev pub IsText : List ℕ → Type 0
IsText bytes = length bytes ≤ TEXT_BYTES
