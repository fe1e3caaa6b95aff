-- Rows of a middle node of three, computed, with the booking service's table. Its programs are not of this crate, so
-- where a job is run a booking's first segment is a program that only makes its call.
use Rattle.std.proofs.Common.{◌≡◌, ℕ, List, [], ◌∷◌, refl, Option, Some, None}
use Rattle.std.specs.Prelude.{codes}
use Rattle.std.specs.Fmt.{digits}
use Rattle.aeg_base.specs.Numbers.{checked, number_at, with_number}
use Rattle.aeg_base.specs.Locks.{no_locks}
use Rattle.aeg_base.specs.declared.names.ReqId.{ReqId}
use Rattle.aeg_base.specs.declared.names.Tier.TheVariants.{Mid as InMid, Inv}
use Rattle.aeg_base.specs.declared.names.End.TheVariants.{Client}
use Rattle.svc_api.specs.Plan.{Ends}
use Rattle.svc_api.specs.Segment.{Beginning}
use Rattle.svc_api.specs.declared.action.Ending.TheVariants.{Call}
use Rattle.server_model.specs.Backends.{Amounts}
use Rattle.server_model.specs.Single.{booking_meaning}
use Rattle.exec_model.specs.Jobs.{run_job}
use Rattle.log_model.specs.declared.message.PaxMsg.TheVariants.{Learn, Ask}
use Rattle.log_values.specs.Outcomes.{outcome}
use Rattle.log_values.specs.declared.any_value.AnyValue.TheVariants.{Mid as OfMid}
use Rattle.log_values.specs.declared.entry.Entry.{Entry}
use Rattle.log_values.specs.declared.fact.Fact.{Fact}
use Rattle.log_values.specs.declared.fact.Fact.TheVariants.{Learned, Held}
use Rattle.log_values.specs.declared.mid_value.MidValue.TheVariants.{Batch, Verdict as Decided}
use Rattle.log_values.specs.declared.mid_value.Verdict.TheVariants.{Commit, Serial}
use Rattle.frames.specs.declared.message.Msg.{Msg}
use Rattle.frames.specs.declared.message.Msg.TheVariants as msgs
use Rattle.tier_model.specs.declared.turn.Turn.TheVariants.{Ran, Idle as Idles, Dropped}
use Rattle.tier_model.specs.declared.turn.Idle.TheVariants as why
use Rattle.frames.specs.declared.header.Refused.TheVariants.{Row}
use Rattle.round_model.specs.Service.{Programs, Service}
use Rattle.round_model.specs.Spelled.{spelled}
use Rattle.tier_model.specs.Moves.{node, Packet, Move}
use Rattle.tier_model.specs.Mid.{Mid}
use Rattle.tier_model.specs.MidRows.{on_frame, own_value, work, retry, recovered}

-- THE SERVICE

abbrev calls_inventory : ReqId → List ℕ → ℕ → Option Beginning
calls_inventory who body stage = Some (record { plan = λ answer. Ends (Call Inv 1 (codes "reserve 1 2")); locks = no_locks })

abbrev service : Service Amounts
service = spelled booking_meaning calls_inventory

abbrev m : Programs
m = service.programs

-- NODES

abbrev entry : ℕ → List ℕ → Entry
entry seq body = record { client = 1; seq = seq; body = body }

-- the trip is opened in the first round, and the booking's batch is learned
abbrev two_rounds : List Fact
two_rounds = Learned 2 (OfMid (Batch (entry 2 (codes "book 1 2") ∷ []))) ∷ Learned 1 (OfMid (Decided Serial))
    ∷ Learned 0 (OfMid (Batch (entry 1 (codes "open 1 5 10 0") ∷ []))) ∷ []

-- the booking waits for its call, and the batch of the next round is learned
abbrev three_rounds : List Fact
three_rounds = Learned 4 (OfMid (Batch [])) ∷ Learned 3 (OfMid (Decided Serial)) ∷ two_rounds

abbrev at_node : List Fact → Mid
at_node facts = recovered 1 m 1 0 facts

abbrev gets : Mid → ℕ → Msg → Move Mid
gets σ from message = on_frame 1 m 0 σ (node InMid from) message

-- the node 0 sends to a node of its own tier
abbrev tells : ℕ → Msg → Packet
tells y message = record { from = node InMid 0; to = node InMid y; message = message }

abbrev to_client : Msg → Packet
to_client message = record { from = node InMid 0; to = Client 1; message = message }

-- REQUESTS

abbrev asks : Mid → ℕ → List ℕ → Move Mid
asks σ seq body = on_frame 1 m 0 σ (Client 1) (msgs.Request seq body)

-- the last request has its reply told again
told_again : (asks (at_node two_rounds) 1 (codes "open 1 5 10 0")).sends ≡ to_client (msgs.Reply (record { client = 1; seq = 1 }) (codes "opened 1")) ∷ []
unfolding digits checked number_at with_number
told_again = refl

skips_a_number : (asks (at_node two_rounds) 3 (codes "look 5")).answer ≡ Idles why.Nothing
unfolding digits checked number_at with_number
skips_a_number = refl

abbrev asked : Mid
asked = (asks (at_node []) 1 (codes "look 5")).state

-- it is offered once, though it comes twice
waits_for_its_round : own_value 1 m asked ≡ Some (OfMid (Batch (entry 1 (codes "look 5") ∷ [])))
unfolding digits checked number_at with_number
waits_for_its_round = refl

waits_already : (asks asked 1 (codes "look 5")).answer ≡ Idles why.Nothing
waits_already = refl

no_request : (asks (at_node []) 1 (codes "look")).answer ≡ Dropped (Row 8)
no_request = refl

not_from_a_node : (gets (at_node []) 1 (msgs.Request 1 (codes "look 5"))).answer ≡ Dropped (Row 7)
not_from_a_node = refl

-- TOKENS AND ROUNDS

abbrev runs : Move Mid
runs = work 1 m 0 (at_node two_rounds) []

abbrev token : List ℕ
token = outcome (record { pairs = []; ends = Call Inv 1 (codes "reserve 1 2") ∷ [] })

-- a run sends its token alone: no call leaves before the verdict
only_tokens_leave : runs.sends ≡ tells 1 (msgs.Token 1 token (0 ∷ [])) ∷ tells 2 (msgs.Token 1 token (0 ∷ [])) ∷ []
unfolding digits checked number_at with_number run_job no_locks
only_tokens_leave = refl

what_ran : runs.answer ≡ Ran (record { round = 1; steps = 0 ∷ []; order = 0 ∷ []; redo = 0 })
unfolding digits checked number_at with_number run_job no_locks
what_ran = refl

runs_once : (work 1 m 0 runs.state []).answer ≡ Idles why.Nothing
unfolding digits checked number_at with_number run_job no_locks
runs_once = refl

abbrev votes : Mid → ℕ → Move Mid
votes σ from = gets σ from (msgs.Token 1 token (0 ∷ []))

-- one more token equal to its own, and it has a verdict to offer
two_tokens_commit : own_value 1 m (votes runs.state 1).state ≡ Some (OfMid (Decided (Commit token (0 ∷ []))))
unfolding digits checked number_at with_number run_job no_locks
two_tokens_commit = refl

own_token_alone : own_value 1 m runs.state ≡ None
unfolding digits checked number_at with_number run_job no_locks
own_token_alone = refl

-- a token counts once, and not after its round's verdict
voted_already : (votes (votes (at_node two_rounds) 1).state 1).answer ≡ Idles why.Nothing
unfolding digits checked number_at with_number
voted_already = refl

voted_too_late : (gets (at_node two_rounds) 1 (msgs.Token 0 token (0 ∷ []))).answer ≡ Idles why.Nothing
unfolding digits checked number_at with_number
voted_too_late = refl

abbrev learns_the_verdict : Move Mid
learns_the_verdict = gets (at_node two_rounds) 1 (msgs.Log (Learn 3 (OfMid (Decided Serial))))

abbrev reserve_at : ℕ → Packet
reserve_at y = record { from = node InMid 0; to = node Inv y; message = msgs.Call 1 (codes "reserve 1 2") }

-- With the verdict the round is applied: after the log's own packet its call goes to each node of inventory.
calls_leave : learns_the_verdict.sends ≡ tells 1 (msgs.Log (Ask 4)) ∷ reserve_at 0 ∷ reserve_at 1 ∷ reserve_at 2 ∷ []
unfolding digits checked number_at with_number
calls_leave = refl

the_fact : learns_the_verdict.facts ≡ Learned 3 (OfMid (Decided Serial)) ∷ []
unfolding digits checked number_at with_number
the_fact = refl

-- ANSWERS

abbrev waits : Mid
waits = at_node three_rounds

no_answer_yet : (work 1 m 0 waits []).answer ≡ Idles (why.NoAnswer Inv 1)
unfolding digits checked number_at with_number run_job no_locks
no_answer_yet = refl

abbrev is_answered : Move Mid
is_answered = on_frame 1 m 0 waits (node Inv 2) (msgs.Answer 1 0)

written_down_first : is_answered.facts ≡ Held Inv 1 0 ∷ []
unfolding digits checked number_at with_number
written_down_first = refl

the_others_are_told : is_answered.sends ≡ tells 1 (msgs.Have Inv 1 0) ∷ tells 2 (msgs.Have Inv 1 0) ∷ []
unfolding digits checked number_at with_number
the_others_are_told = refl

-- it isn't used before another node is known to hold it
held_alone : (work 1 m 0 is_answered.state []).answer ≡ Idles (why.NoAnswer Inv 1)
unfolding digits checked number_at with_number run_job no_locks
held_alone = refl

held_by_two : (work 1 m 0 (gets is_answered.state 1 (msgs.Have Inv 1 0)).state []).answer ≡ Ran (record { round = 2; steps = 0 ∷ []; order = 0 ∷ []; redo = 0 })
unfolding digits checked number_at with_number run_job no_locks
held_by_two = refl

answered_twice : (on_frame 1 m 0 is_answered.state (node Inv 1) (msgs.Answer 1 0)).answer ≡ Idles why.Nothing
unfolding digits checked number_at with_number
answered_twice = refl

-- another's word is an answer too, which is written down
told_by_another : (gets waits 2 (msgs.Have Inv 1 0)).facts ≡ Held Inv 1 0 ∷ []
unfolding digits checked number_at with_number
told_by_another = refl

-- no batch is offered while a round before it isn't applied
not_before_the_round : own_value 1 m (at_node (Learned 5 (OfMid (Decided Serial)) ∷ three_rounds)) ≡ None
unfolding digits checked number_at with_number run_job no_locks
not_before_the_round = refl

-- RETRIES

-- it asks for the first open position, and calls again where it holds no answer
calls_again : (retry 1 0 waits).sends ≡ tells 1 (msgs.Log (Ask 5)) ∷ tells 2 (msgs.Log (Ask 5)) ∷ reserve_at 0 ∷ reserve_at 1 ∷ reserve_at 2 ∷ []
unfolding digits checked number_at with_number
calls_again = refl

-- an answer that it alone is known to hold raises no floor
holds_it_alone : (retry 1 0 is_answered.state).sends ≡ tells 1 (msgs.Log (Ask 5)) ∷ tells 2 (msgs.Log (Ask 5))
    ∷ tells 1 (msgs.Have Inv 1 0) ∷ tells 2 (msgs.Have Inv 1 0) ∷ []
unfolding digits checked number_at with_number
holds_it_alone = refl

abbrev floor_at : ℕ → Packet
floor_at y = record { from = node InMid 0; to = node Inv y; message = msgs.Settle 2 }

-- held by two, it needn't be kept by inventory
tells_the_floor : (retry 1 0 (gets is_answered.state 1 (msgs.Have Inv 1 0)).state).sends
    ≡ tells 1 (msgs.Log (Ask 5)) ∷ tells 2 (msgs.Log (Ask 5)) ∷ tells 1 (msgs.Have Inv 1 0)
    ∷ tells 2 (msgs.Have Inv 1 0) ∷ floor_at 0 ∷ floor_at 1 ∷ floor_at 2 ∷ []
unfolding digits checked number_at with_number
tells_the_floor = refl
