-- Facts and records of a journal: their spellings, what has one, and what bytes spell.
use Rattle.std.specs.Prelude.{ℕ, zero, suc, ◌<◌, List, [], ◌∷◌, ◌++◌, length, Some, None, nat_lt, ◌==◌, if◌then◌else◌}
use Rattle.std.specs.List.{flat_map, AllByRecursion}
use Rattle.std.specs.Int.{w16, w32, to_be_bytes}
use Rattle.aeg_base.specs.declared.limits.TheConstants.{POSITIONS}
use Rattle.aeg_wire.specs.Fields.{Read, ◌>>=◌, byte_at}
use Rattle.aeg_wire.specs.Formats.{made, kept, both}
use Rattle.svc_api.specs.Plan.{IsBackend}
use Rattle.log_values.specs.declared.fact.Fact.{Fact}
use Rattle.log_values.specs.declared.fact.Fact.TheVariants as facts
use Rattle.log_values.specs.declared.format.TheConstants.{PROMISED, ACCEPTED, LEARNED, HELD}
use Rattle.log_values.specs.Fields.{tier_number, backend_at, call_number_at, position_at, ballot, ballot_at, FitsBallot, IsCallNumber}
use Rattle.log_values.specs.Values.{any_value, any_value_at, FitsAny}

abbrev pub fact : Fact → List ℕ
fact (facts.Promised b) = PROMISED ∷ ballot b
fact (facts.Accepted p b v) = ACCEPTED ∷ (to_be_bytes w16 p ++ (ballot b ++ any_value v))
fact (facts.Learned p v) = LEARNED ∷ (to_be_bytes w16 p ++ any_value v)
fact (facts.Held tier number code) = HELD ∷ (tier_number tier ∷ (to_be_bytes w32 number ++ (code ∷ [])))

abbrev pub FitsFact : Fact → Type 0
FitsFact (facts.Promised b) = FitsBallot b
FitsFact (facts.Accepted p b v) = (p < POSITIONS) × (FitsBallot b × FitsAny v)
FitsFact (facts.Learned p v) = (p < POSITIONS) × FitsAny v
FitsFact (facts.Held tier number code) = IsBackend tier × (IsCallNumber number × (code < 256))

unfoldable pub fact_at : List ℕ → Read Fact
fact_at bytes = byte_at bytes >>= λ lead.
    if lead.0 == PROMISED then made facts.Promised (ballot_at lead.1)
    else if lead.0 == ACCEPTED then made (λ p. facts.Accepted p.0 p.1.0 p.1.1) (both position_at (λ _. both ballot_at (λ _. any_value_at)) lead.1)
    else if lead.0 == LEARNED then made (λ p. facts.Learned p.0 p.1) (both position_at (λ _. any_value_at) lead.1)
    else if lead.0 == HELD then made (λ p. facts.Held p.0 p.1.0 p.1.1) (both backend_at (λ _. both call_number_at (λ _. byte_at)) lead.1)
    else None

-- ---- records

-- a record's facts, one after the other
abbrev pub record_text : List Fact → List ℕ
record_text record_facts = flat_map fact record_facts

-- one or more facts
abbrev pub FitsRecord : List Fact → Type 0
FitsRecord record_facts = (0 < length record_facts) × AllByRecursion FitsFact record_facts

-- up to so many facts, to the end of the bytes
unfoldable pub facts_at : ℕ → List ℕ → Read (List Fact)
facts_at n [] = Some ([], [])
facts_at zero (byte ∷ rest) = None
facts_at (suc n) (byte ∷ rest) = fact_at (byte ∷ rest) >>= λ first. made (λ others. first.0 ∷ others) (facts_at n first.1)

-- A record's facts, one or more. There are no more facts than bytes, since each has a lead byte.
unfoldable pub record_at : List ℕ → Read (List Fact)
record_at bytes = kept (λ record_facts. nat_lt 0 (length record_facts)) (facts_at (length bytes) bytes)
