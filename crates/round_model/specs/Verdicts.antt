-- The tally of a round's tokens, and the verdict that it gives.
use Rattle.std.specs.Prelude.{ℕ, ◌+◌, ◌*◌, Bool, false, nat_lt, List, replicate, slice_index_or, slice_set, Option, Some, None, if◌then◌else◌}
use Rattle.std.specs.Str.{bytes_eq}
use Rattle.log_values.specs.declared.mid_value.Verdict.{Verdict}
use Rattle.log_values.specs.declared.mid_value.Verdict.TheVariants.{Commit, Serial}
use Rattle.log_model.specs.Log.{count_below}
use Rattle.round_model.specs.declared.claim.Claim.{Claim}
use Rattle.round_model.specs.Lists.{is_some, and_then, lowest}
use Rattle.round_model.specs.Numbered.{find}

-- a claim with its round and the node that made it
pub record Vote : Type 0 where
  pub round : ℕ
  pub from : ℕ
  pub token : List ℕ
  pub order : List ℕ

abbrev pub claim : Vote → Claim
claim v = record { token = v.token; order = v.order }

-- what each node of a tier claims in a round; a tier has at most five
abbrev pub Claims : Type 0
Claims = List (Option Claim)

abbrev pub no_claims : Claims
no_claims = replicate 5 None

abbrev pub claim_of : Claims → ℕ → Option Claim
claim_of claims y = slice_index_or claims y None

abbrev pub with_claim : Claims → ℕ → Claim → Claims
with_claim claims y c = slice_set claims y (Some c)

abbrev pub claims_or_none : Option Claims → Claims
claims_or_none None = no_claims
claims_or_none (Some claims) = claims

-- the claims of a round, of those by round
abbrev pub claims_in : List (ℕ × Claims) → ℕ → Claims
claims_in tally r = claims_or_none (find tally r)

abbrev pub same_token : List ℕ → List ℕ → Bool
same_token a b = bytes_eq a b

abbrev pub has_token : List ℕ → Option Claim → Bool
has_token token None = false
has_token token (Some c) = same_token c.token token

-- how many nodes are in
abbrev pub how_many : ℕ → Claims → ℕ
how_many u claims = count_below (2 * u + 1) (λ y. is_some (claim_of claims y))

-- the claim's token is that of u+1 nodes
abbrev pub is_backed : ℕ → Claims → Option Claim → Bool
is_backed u claims None = false
is_backed u claims (Some c) = nat_lt u (count_below (2 * u + 1) (λ y. has_token c.token (claim_of claims y)))

-- the claim of the lowest-numbered of the nodes whose token is that of u+1
abbrev pub lowest_backed : ℕ → Claims → Option Claim
lowest_backed u claims = and_then (lowest (2 * u + 1) (λ y. is_backed u claims (claim_of claims y))) (claim_of claims)

abbrev pub serial_if : Bool → Option Verdict
serial_if enough = if enough then Some Serial else None

abbrev pub verdict_by : Bool → Option Claim → Option Verdict
verdict_by enough None = serial_if enough
verdict_by enough (Some c) = Some (Commit c.token c.order)

-- Where u+1 tokens are equal it commits to that token, with the order of the lowest-numbered of them. Where at least u+1
-- are in and no u+1 are equal, it is serial. There is none where fewer are in.
abbrev pub verdict : ℕ → Claims → Option Verdict
verdict u claims = verdict_by (nat_lt u (how_many u claims)) (lowest_backed u claims)
