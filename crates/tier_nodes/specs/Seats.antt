-- Nodes at their places, as contracts see them.
use Rattle.std.specs.Prelude.{◌≡◌, ℕ, false, List, Some, slice_get, slice_set}
use Rattle.log_model.specs.Nodes.{Mode}
use Rattle.log_model.specs.Nodes.Mode.{Up, Down, Gone}
use Rattle.node_log.specs.Views.{View}
use Rattle.tier_nodes.specs.declared.posts.Post.{Post}
use Rattle.tier_nodes.specs.declared.condition.Condition.{Condition}
use Rattle.tier_nodes.specs.declared.condition.Condition.TheVariants as conditions
use Rattle.tier_nodes.specs.Standing.{Seat, mode_of}

abbrev pub seat_of : {N S : Type 0} → (N → View S) → Post N → Seat S
seat_of seen post = record { view = seen post.node; gone = post.gone; doubt = post.doubt }

-- a node that was never started
abbrev pub fresh : {N : Type 0} → N → Post N
fresh node = record { node = node; gone = false; doubt = false }

abbrev pub condition_in : {S : Type 0} → Mode S → Condition
condition_in (Up s) = conditions.Up
condition_in Down = conditions.Down
condition_in Gone = conditions.Gone

abbrev pub condition_of : {S : Type 0} → Seat S → Condition
condition_of seat = condition_in (mode_of seat)

-- what stands at this place, if anything does
abbrev pub IsAt : {A : Type 0} → List A → ℕ → (A → Type 0) → Type 0
IsAt {A} posts x P = (a : A) → slice_get posts x ≡ Some a → P a

-- only what stands at this place is another now, and this holds of it before and after
abbrev pub ChangesAt : {A : Type 0} → List A → List A → ℕ → (A → A → Type 0) → Type 0
ChangesAt {A} old new x P = (a b : A) × (slice_get old x ≡ Some a) × (new ≡ slice_set old x b) × P a b
