-- Runs in which something is chosen: the definitions aren't empty.
use Rattle.std.proofs.Common.{◌≡◌, ℕ, List, [], ◌∷◌, refl, Some, None}
use Rattle.log_model.specs.World.{Event}
use Rattle.log_model.specs.Nodes.Device.{Fine, CutKeep}
use Rattle.log_model.specs.World.Event.{Deliver, Lead, Offer, Crash, Restart, Wipe}
use Rattle.log_model.specs.Chosen.{chosen}

-- one node is a quorum
alone : chosen {V = ℕ} 0 (Restart 0 (Some 0) ∷ Lead 0 Fine ∷ Offer 0 (Some 7) Fine ∷ []) 0 ≡ Some 7
alone = refl

-- three nodes; node 1 accepts and node 0 crashes; node 1 leads, offers 9, and the reported 7 is what it sends
three : List (Event ℕ)
three = Restart 0 (Some 0) ∷ Restart 1 (Some 0) ∷ Restart 2 (Some 0) ∷ Lead 0 Fine ∷ Deliver 0 Fine ∷ Deliver 2 Fine ∷ Offer 0 (Some 7) Fine ∷ Crash 0 ∷ Wipe 0
    ∷ Deliver 3 CutKeep ∷ Restart 1 (Some 0) ∷ Lead 1 Fine ∷ []

early : chosen 1 three 0 ≡ None
unfolding three
early = refl

taken : chosen {V = ℕ} 1 (Restart 0 (Some 0) ∷ Restart 1 (Some 0) ∷ Restart 2 (Some 0) ∷ Lead 0 Fine ∷ Deliver 0 Fine
    ∷ Deliver 2 Fine ∷ Offer 0 (Some 7) Fine ∷ Deliver 3 Fine ∷ []) 0 ≡ Some 7
taken = refl
