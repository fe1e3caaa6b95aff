-- What a learner keeps.
use Rattle.std.specs.Prelude.{ℕ, ◌+◌, ◌*◌, Bool, List, [], ◌∷◌, ◌++◌, length, nat_lt, if◌then◌else◌, Option, None, replicate}
use Rattle.aeg_base.specs.declared.names.Ballot.{Ballot}
use Rattle.log_model.specs.Log.{count_below, seen_at, is_from, noted, with_ballot}

-- the number u of a tier of 2u+1 nodes, the learned values from position 0 on, and the ballot with which each node is
-- heard to have accepted at the first open position
pub record LearnerState (V : Type 0) : Type 0 where
  pub faults : ℕ
  pub learned : List V
  pub seen : List (Option Ballot)

-- nothing is learned or heard
abbrev pub no_news : {V : Type 0} → ℕ → LearnerState V
no_news u = record { faults = u; learned = []; seen = replicate (2 * u + 1) None }

-- u+1 nodes have accepted with b, once the node s has
abbrev pub completes : {V : Type 0} → LearnerState V → ℕ → Ballot → Bool
completes l s b = nat_lt l.faults (count_below (2 * l.faults + 1) (with_ballot l.seen s b))

-- s has accepted with b
abbrev pub notes : {V : Type 0} → LearnerState V → ℕ → Ballot → LearnerState V
notes l s b = record { faults = l.faults; learned = l.learned; seen = noted l.seen s b }

-- the first open position is learned, and what was heard there is forgotten
abbrev pub learns : {V : Type 0} → LearnerState V → V → LearnerState V
learns l v = record { faults = l.faults; learned = l.learned ++ v ∷ []; seen = replicate (length l.seen) None }

-- the learner after Accepted(b, p, v) from s
abbrev pub hears : {V : Type 0} → LearnerState V → ℕ → Ballot → ℕ → V → LearnerState V
hears l s b p v =
    if nat_lt p (length l.learned) then l
    else if nat_lt (length l.learned) p then l
    else if is_from b (seen_at l.seen s) then l
    else if completes l s b then learns l v
    else notes l s b
