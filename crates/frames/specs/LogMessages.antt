-- The messages of a tier's log: their bodies, what has one, and what stands at the front of bytes.
use Rattle.std.specs.Prelude.{◌≡◌, ℕ, ◌<◌, ◌≤◌, ◌%◌, List, [], ◌∷◌, ◌++◌, Option, Some, None, Bool, true, false, nat_lt, nat_le, ◌==◌, if◌then◌else◌}
use Rattle.std.specs.Int.{w16, to_be_bytes}
use Rattle.aeg_base.specs.declared.limits.TheConstants.{POSITIONS}
use Rattle.aeg_base.specs.declared.names.Ballot.{Ballot}
use Rattle.aeg_base.specs.declared.names.Tier.{Tier}
use Rattle.aeg_base.specs.declared.names.Tier.TheVariants as tiers
use Rattle.aeg_wire.specs.Fields.{Read, ◌>>=◌, byte_at, number_at}
use Rattle.aeg_wire.specs.Formats.{made, kept, both}
use Rattle.log_model.specs.declared.message.PaxMsg.{PaxMsg}
use Rattle.log_model.specs.declared.message.PaxMsg.TheVariants.{Prepare, Promise, Accept, Accepted, Ask, Learn, Behind}
use Rattle.log_values.specs.declared.any_value.AnyValue.{AnyValue}
use Rattle.log_values.specs.declared.any_value.AnyValue.TheVariants as values
use Rattle.log_values.specs.declared.mid_value.MidValue.{MidValue}
use Rattle.log_values.specs.declared.mid_value.MidValue.TheVariants as mids
use Rattle.log_values.specs.declared.format.TheConstants.{PREPARE_KIND, PROMISE_KIND, ACCEPT_KIND, ACCEPTED_KIND}
use Rattle.log_values.specs.declared.format.TheConstants.{ASK_KIND, LEARN_KIND, BEHIND_KIND, NO_REPORT, REPORT}
use Rattle.log_values.specs.Fields.{ballot, ballot_at, position_at, FitsBallot}
use Rattle.log_values.specs.Values.{any_value, any_value_at, FitsAny}

-- a middle log has a Batch at an even position, and a Verdict at an odd one
abbrev pub is_at_parity : ℕ → MidValue → Bool
is_at_parity pos (mids.Batch entries) = (pos % 2) == 0
is_at_parity pos (mids.Verdict verdict) = (pos % 2) == 1

abbrev pub is_mid : ℕ → AnyValue → Bool
is_mid pos (values.Mid v) = is_at_parity pos v
is_mid pos (values.Back v) = false

abbrev pub is_back : AnyValue → Bool
is_back (values.Mid v) = false
is_back (values.Back v) = true

-- the log of this tier can have this value at this position
abbrev pub is_carried : Tier → ℕ → AnyValue → Bool
is_carried tiers.Mid pos v = is_mid pos v
is_carried tiers.Inv pos v = is_back v
is_carried tiers.Pay pos v = is_back v

unfoldable pub carried_at : Tier → ℕ → List ℕ → Read AnyValue
carried_at tier pos bytes = kept (λ v. is_carried tier pos v) (any_value_at bytes)

abbrev pub IsCarried : Tier → ℕ → AnyValue → Type 0
IsCarried tier pos v = FitsAny v × (is_carried tier pos v ≡ true)

-- a position up to the first one past the log
unfoldable pub open_at : List ℕ → Read ℕ
open_at bytes = kept (λ n. nat_le n POSITIONS) (number_at w16 bytes)

-- ---- what a Promise reports

-- 0, or 1 and the ballot and value accepted
abbrev pub report : Option (Ballot × AnyValue) → List ℕ
report None = NO_REPORT ∷ []
report (Some r) = REPORT ∷ (ballot r.0 ++ any_value r.1)

-- what is reported was accepted at a position that has a value
abbrev pub FitsReport : Tier → ℕ → Option (Ballot × AnyValue) → Type 0
FitsReport tier pos None = Unit {0}
FitsReport tier pos (Some r) = (pos < POSITIONS) × (FitsBallot r.0 × IsCarried tier pos r.1)

unfoldable pub report_at : Tier → ℕ → List ℕ → Read (Option (Ballot × AnyValue))
report_at tier pos bytes = byte_at bytes >>= λ flag.
    if flag.0 == NO_REPORT then Some (None, flag.1)
    else if flag.0 == REPORT then (if nat_lt pos POSITIONS then made (λ r. Some r) (both ballot_at (λ _. carried_at tier pos) flag.1) else None)
    else None

-- ---- bodies

-- the kind of a message of a log
abbrev pub log_kind : PaxMsg AnyValue → ℕ
log_kind (Prepare b pos) = PREPARE_KIND
log_kind (Promise b pos reported) = PROMISE_KIND
log_kind (Accept b pos v) = ACCEPT_KIND
log_kind (Accepted b pos v) = ACCEPTED_KIND
log_kind (Ask pos) = ASK_KIND
log_kind (Learn pos v) = LEARN_KIND
log_kind (Behind pos) = BEHIND_KIND

abbrev pub log_body : PaxMsg AnyValue → List ℕ
log_body (Prepare b pos) = ballot b ++ to_be_bytes w16 pos
log_body (Promise b pos reported) = ballot b ++ (to_be_bytes w16 pos ++ report reported)
log_body (Accept b pos v) = ballot b ++ (to_be_bytes w16 pos ++ any_value v)
log_body (Accepted b pos v) = ballot b ++ (to_be_bytes w16 pos ++ any_value v)
log_body (Ask pos) = to_be_bytes w16 pos
log_body (Learn pos v) = to_be_bytes w16 pos ++ any_value v
log_body (Behind pos) = to_be_bytes w16 pos

abbrev pub FitsLog : Tier → PaxMsg AnyValue → Type 0
FitsLog tier (Prepare b pos) = FitsBallot b × (pos ≤ POSITIONS)
FitsLog tier (Promise b pos reported) = FitsBallot b × ((pos ≤ POSITIONS) × FitsReport tier pos reported)
FitsLog tier (Accept b pos v) = FitsBallot b × ((pos < POSITIONS) × IsCarried tier pos v)
FitsLog tier (Accepted b pos v) = FitsBallot b × ((pos < POSITIONS) × IsCarried tier pos v)
FitsLog tier (Ask pos) = pos ≤ POSITIONS
FitsLog tier (Learn pos v) = (pos < POSITIONS) × IsCarried tier pos v
FitsLog tier (Behind pos) = pos ≤ POSITIONS

-- a ballot, a position and its value
abbrev pub vote_at : Tier → List ℕ → Read (Ballot × (ℕ × AnyValue))
vote_at tier = both ballot_at (λ _. both position_at (λ pos. carried_at tier pos))

unfoldable pub log_body_at : Tier → ℕ → List ℕ → Read (PaxMsg AnyValue)
log_body_at tier kind bytes =
    if kind == PREPARE_KIND then made (λ p. Prepare p.0 p.1) (both ballot_at (λ _. open_at) bytes)
    else if kind == PROMISE_KIND then made (λ p. Promise p.0 p.1.0 p.1.1) (both ballot_at (λ _. both open_at (λ pos. report_at tier pos)) bytes)
    else if kind == ACCEPT_KIND then made (λ p. Accept p.0 p.1.0 p.1.1) (vote_at tier bytes)
    else if kind == ACCEPTED_KIND then made (λ p. Accepted p.0 p.1.0 p.1.1) (vote_at tier bytes)
    else if kind == ASK_KIND then made (λ p. Ask p) (open_at bytes)
    else if kind == LEARN_KIND then made (λ p. Learn p.0 p.1) (both position_at (λ pos. carried_at tier pos) bytes)
    else if kind == BEHIND_KIND then made (λ p. Behind p) (open_at bytes)
    else None
