-- A middle node's parts, as its rows see them.
use Rattle.std.specs.Prelude.{ℕ, List, [], map, option_map}
use Rattle.std.specs.declared.result.Result.{Result}
use Rattle.std.specs.declared.result.Result.TheVariants.{Ok, Err}
use Rattle.log_model.specs.Log.{LogState}
use Rattle.log_values.specs.declared.any_value.AnyValue.{AnyValue}
use Rattle.round_model.specs.declared.claim.Claim.{Claim}
use Rattle.round_model.specs.Verdicts.{Claims, Vote}
use Rattle.state_verify.specs.Tallies.{TallyState}
use Rattle.tier_model.specs.declared.turn.Fault.{Fault}
use Rattle.tier_model.specs.declared.turn.Turn.{Turn}
use Rattle.tier_model.specs.declared.turn.Turn.TheVariants.{Did, Ran, Dropped, Idle}
use Rattle.tier_model.specs.Mid.{Mid}
use Rattle.node_log.specs.LogNodes.{Standing}
use Rattle.mid_rounds.specs.declared.keeping.Keeping.{Keeping}

-- the claims of the rounds to come, by round
abbrev pub claims_by : List (ℕ × TallyState) → List (ℕ × Claims)
claims_by tallies = map (λ e. (e.0, e.1.claims)) tallies

-- what node x claims of a round, as its vote
abbrev pub vote_by : ℕ → ℕ → Claim → Vote
vote_by x r claim = record { round = r; from = x; token = claim.token; order = claim.order }

-- a log, and what node x keeps beside it
abbrev pub mid_with : ℕ → LogState AnyValue → Keeping → Mid
mid_with x log keeping = record {
  log = log;
  applied = keeping.rounds.applied;
  tables = keeping.rounds.tables;
  pending = keeping.pending;
  tally = claims_by keeping.tallies;
  spec = option_map (vote_by x keeping.rounds.applied) keeping.rounds.run;
  held = keeping.held;
}

-- what a node has while it is up
abbrev pub mid_of : ℕ → Standing Keeping → Mid
mid_of x standing = mid_with x standing.log standing.rest

-- the steps of a run that was told of
abbrev pub steps_in : Result Turn Fault → List ℕ
steps_in (Ok (Ran note)) = note.steps
steps_in (Ok Did) = []
steps_in (Ok (Dropped refused)) = []
steps_in (Ok (Idle cause)) = []
steps_in (Err fault) = []
