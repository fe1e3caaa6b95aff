-- The values of the logs: their spellings, what has one, and what stands at the front of bytes.
use Rattle.std.specs.Prelude.{ℕ, ◌≤◌, List, [], ◌∷◌, ◌++◌, length, Some, None, nat_lt, ◌==◌, if◌then◌else◌}
use Rattle.std.specs.List.{flat_map, AllByRecursion}
use Rattle.std.specs.Int.{w32, to_be_bytes}
use Rattle.aeg_wire.specs.Fields.{Read, ◌>>=◌, byte_at, text, text_at}
use Rattle.aeg_wire.specs.Formats.{made, both, counted_at}
use Rattle.log_values.specs.declared.entry.Entry.{Entry}
use Rattle.log_values.specs.declared.mid_value.Verdict.TheVariants as verdicts
use Rattle.log_values.specs.declared.mid_value.MidValue.{MidValue}
use Rattle.log_values.specs.declared.mid_value.MidValue.TheVariants as mids
use Rattle.log_values.specs.declared.back_value.BackValue.{BackValue}
use Rattle.log_values.specs.declared.back_value.BackValue.TheVariants as backs
use Rattle.log_values.specs.declared.any_value.AnyValue.{AnyValue}
use Rattle.log_values.specs.declared.any_value.AnyValue.TheVariants as values
use Rattle.log_values.specs.declared.format.TheConstants.{ENTRIES, BATCH, COMMIT, SERIAL, CALL, SETTLE}
use Rattle.log_values.specs.Fields.{client_at, seq_at, call_number_at, floor_at, IsClient, IsSeq, IsCallNumber, IsFloor, IsText}
use Rattle.log_values.specs.Outcomes.{commit, commit_at, IsCommit}

-- ---- entries of a batch

-- client, sequence number and text
abbrev pub entry : Entry → List ℕ
entry e = e.client ∷ (to_be_bytes w32 e.seq ++ text e.body)

pub record FitsEntry (e : Entry) : Type 0 where
  pub client : IsClient e.client
  pub seq : IsSeq e.seq
  pub body : IsText e.body

unfoldable pub entry_at : List ℕ → Read Entry
entry_at bytes = made (λ p. record { client = p.0; seq = p.1.0; body = p.1.1 }) (both client_at (λ _. both seq_at (λ _. text_at)) bytes)

-- ---- values of the middle log

abbrev pub mid_value : MidValue → List ℕ
mid_value (mids.Batch entries) = BATCH ∷ (length entries ∷ flat_map entry entries)
mid_value (mids.Verdict (verdicts.Commit token order)) = COMMIT ∷ commit (token, order)
mid_value (mids.Verdict verdicts.Serial) = SERIAL ∷ []

-- at most 8 entries; a Commit's order has a number for each end of its token
abbrev pub FitsMid : MidValue → Type 0
FitsMid (mids.Batch entries) = (length entries ≤ ENTRIES) × AllByRecursion FitsEntry entries
FitsMid (mids.Verdict (verdicts.Commit token order)) = IsCommit token order
FitsMid (mids.Verdict verdicts.Serial) = Unit {0}

-- what stands behind the lead byte
unfoldable pub mid_body_at : ℕ → List ℕ → Read MidValue
mid_body_at lead bytes =
    if lead == BATCH then made mids.Batch (counted_at ENTRIES entry_at bytes)
    else if lead == COMMIT then made (λ c. mids.Verdict (verdicts.Commit c.0 c.1)) (commit_at bytes)
    else if lead == SERIAL then Some (mids.Verdict verdicts.Serial, bytes)
    else None

unfoldable pub mid_value_at : List ℕ → Read MidValue
mid_value_at bytes = byte_at bytes >>= λ lead. mid_body_at lead.0 lead.1

-- ---- values of a backend log

abbrev pub back_value : BackValue → List ℕ
back_value (backs.Call number body) = CALL ∷ (to_be_bytes w32 number ++ text body)
back_value (backs.Settle floor) = SETTLE ∷ to_be_bytes w32 floor

abbrev pub FitsBack : BackValue → Type 0
FitsBack (backs.Call number body) = IsCallNumber number × IsText body
FitsBack (backs.Settle floor) = IsFloor floor

unfoldable pub back_body_at : ℕ → List ℕ → Read BackValue
back_body_at lead bytes =
    if lead == CALL then made (λ p. backs.Call p.0 p.1) (both call_number_at (λ _. text_at) bytes)
    else if lead == SETTLE then made backs.Settle (floor_at bytes)
    else None

unfoldable pub back_value_at : List ℕ → Read BackValue
back_value_at bytes = byte_at bytes >>= λ lead. back_body_at lead.0 lead.1

-- ---- values of either

abbrev pub any_value : AnyValue → List ℕ
any_value (values.Mid v) = mid_value v
any_value (values.Back v) = back_value v

abbrev pub FitsAny : AnyValue → Type 0
FitsAny (values.Mid v) = FitsMid v
FitsAny (values.Back v) = FitsBack v

-- the lead byte tells which it is
unfoldable pub any_value_at : List ℕ → Read AnyValue
any_value_at bytes = byte_at bytes >>= λ lead.
    if nat_lt lead.0 CALL then made values.Mid (mid_body_at lead.0 lead.1) else made values.Back (back_body_at lead.0 lead.1)
