-- Rows of a backend node of three, computed, with the booking service's inventory.
use Rattle.std.proofs.Common.{◌≡◌, ℕ, List, [], ◌∷◌, refl, Some, None}
use Rattle.std.specs.Prelude.{codes}
use Rattle.std.specs.Fmt.{digits}
use Rattle.aeg_base.specs.Numbers.{checked, number_at, with_number}
use Rattle.aeg_base.specs.declared.names.Tier.TheVariants.{Mid as InMid, Inv}
use Rattle.server_model.specs.Backends.{Amounts}
use Rattle.server_model.specs.Single.{booking_meaning}
use Rattle.log_model.specs.declared.message.PaxMsg.TheVariants.{Learn, Ask}
use Rattle.log_values.specs.declared.any_value.AnyValue.TheVariants.{Back as OfBack}
use Rattle.log_values.specs.declared.back_value.BackValue.TheVariants.{Call, Settle}
use Rattle.log_values.specs.declared.fact.Fact.{Fact}
use Rattle.log_values.specs.declared.fact.Fact.TheVariants.{Learned}
use Rattle.frames.specs.declared.message.Msg.{Msg}
use Rattle.frames.specs.declared.message.Msg.TheVariants as msgs
use Rattle.tier_model.specs.declared.turn.Turn.TheVariants.{Idle as Idles, Dropped}
use Rattle.tier_model.specs.declared.turn.Idle.TheVariants as why
use Rattle.frames.specs.declared.header.Refused.TheVariants.{Row}
use Rattle.round_model.specs.Service.{Service}
use Rattle.round_model.specs.Spelled.{spelled}
use Rattle.tier_model.specs.Moves.{node, Packet, Move}
use Rattle.tier_model.specs.Back.{Back}
use Rattle.tier_model.specs.BackRows.{on_frame, own_value, retry, recovered}

abbrev service : Service Amounts
service = spelled booking_meaning (λ who body stage. None)

abbrev Node : Type 0
Node = Back Amounts

-- facts with the newest in front
abbrev at_node : List Fact → Node
at_node facts = recovered 1 (service.backend Inv) facts

abbrev gets : Node → ℕ → Msg → Move Node
gets σ from message = on_frame 1 (service.backend Inv) Inv 0 σ (node InMid from) message

abbrev reserve : List ℕ
reserve = codes "reserve 1 2"

-- COPIES

abbrev one_copy : Node
one_copy = (gets (at_node []) 1 (msgs.Call 1 reserve)).state

one_is_not_offered : own_value one_copy ≡ None
one_is_not_offered = refl

-- a sender's second copy counts for nothing
the_same_sender : (gets one_copy 1 (msgs.Call 1 reserve)).answer ≡ Idles why.Nothing
the_same_sender = refl

two_are_offered : own_value (gets one_copy 2 (msgs.Call 1 reserve)).state ≡ Some (OfBack (Call 1 reserve))
two_are_offered = refl

-- SERVING

abbrev served : Node
served = at_node (Learned 0 (OfBack (Call 1 reserve)) ∷ [])

kept_code : served.shim.kept ≡ (1, 0) ∷ []
unfolding digits checked number_at with_number
kept_code = refl

abbrev answer_at : ℕ → Packet
answer_at y = record { from = node Inv 0; to = node InMid y; message = msgs.Answer 1 0 }

abbrev asks_at : ℕ → Packet
asks_at y = record { from = node Inv 0; to = node Inv y; message = msgs.Log (Ask 1) }

-- a call that is learned is served: after the log's own packet all middle nodes are told
all_are_told : (on_frame 1 (service.backend Inv) Inv 0 (at_node []) (node Inv 1)
    (msgs.Log (Learn 0 (OfBack (Call 1 reserve))))).sends ≡ asks_at 1 ∷ answer_at 0 ∷ answer_at 1 ∷ answer_at 2 ∷ []
unfolding digits checked number_at with_number
all_are_told = refl

-- a second chosen copy is passed over
served_once : (at_node (Learned 1 (OfBack (Call 1 reserve)) ∷ Learned 0 (OfBack (Call 1 reserve)) ∷ [])).state ≡ served.state
unfolding digits checked number_at with_number
served_once = refl

-- a call whose code is kept is answered to the one that asks
asked_again : (gets served 2 (msgs.Call 1 reserve)).sends ≡ answer_at 2 ∷ []
unfolding digits checked number_at with_number
asked_again = refl

-- FLOORS

abbrev settled : Node
settled = at_node (Learned 2 (OfBack (Settle 2)) ∷ Learned 1 (OfBack (Call 2 reserve)) ∷ Learned 0 (OfBack (Call 1 reserve)) ∷ [])

-- what is below the floor is dropped
kept_from_the_floor : settled.shim.kept ≡ (2, 0) ∷ []
unfolding digits checked number_at with_number
kept_from_the_floor = refl

below_the_floor : (gets settled 1 (msgs.Call 1 reserve)).answer ≡ Idles why.Nothing
unfolding digits checked number_at with_number
below_the_floor = refl

-- and isn't served again
not_below_the_floor : (at_node (Learned 3 (OfBack (Call 1 reserve)) ∷ Learned 2 (OfBack (Settle 2))
    ∷ Learned 1 (OfBack (Call 2 reserve)) ∷ Learned 0 (OfBack (Call 1 reserve)) ∷ [])).shim.kept ≡ (2, 0) ∷ []
unfolding digits checked number_at with_number
not_below_the_floor = refl

abbrev floors : Node
floors = (gets (gets served 0 (msgs.Settle 2)).state 2 (msgs.Settle 3)).state

-- of the floors 2, 1 and 3 the second largest
the_floor_that_two_reached : own_value floors ≡ Some (OfBack (Settle 2))
unfolding digits checked number_at with_number
the_floor_that_two_reached = refl

-- a sender's floor only rises
a_lower_floor : (gets floors 2 (msgs.Settle 2)).answer ≡ Idles why.Nothing
unfolding digits checked number_at with_number
a_lower_floor = refl

-- and so does the one that is chosen
settled_lower : (at_node (Learned 3 (OfBack (Settle 1)) ∷ Learned 2 (OfBack (Settle 2))
    ∷ Learned 1 (OfBack (Call 2 reserve)) ∷ Learned 0 (OfBack (Call 1 reserve)) ∷ [])).shim.floor ≡ 2
unfolding digits checked number_at with_number
settled_lower = refl

not_from_its_own_tier : (on_frame 1 (service.backend Inv) Inv 0 served (node Inv 1) (msgs.Settle 2)).answer ≡ Dropped (Row 7)
unfolding digits checked number_at with_number
not_from_its_own_tier = refl

-- a retry asks for the first open position, and tells again what is kept
again : (retry 1 Inv 0 served).sends ≡ asks_at 1 ∷ asks_at 2 ∷ answer_at 0 ∷ answer_at 1 ∷ answer_at 2 ∷ []
unfolding digits checked number_at with_number
again = refl
