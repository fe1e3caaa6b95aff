-- What each packet that was sent tells is so.
use Rattle.std.proofs.Common.{◌≡◌, true, Some}
use Rattle.aeg_base.specs.declared.names.End.{End}
use Rattle.aeg_base.specs.declared.names.End.TheVariants.{Client}
use Rattle.frames.specs.declared.message.Msg.{Msg}
use Rattle.run_model.specs.World.{Config}
use Rattle.tier_model.specs.Moves.{Packet, tier_of}
use Rattle.frames.specs.Headers.{end_index}
use Rattle.frames.specs.declared.message.Msg.TheVariants as msgs
use Rattle.tier_laws.proofs.Invariant.Past.{Past, holds}
use Rattle.tier_laws.proofs.Invariant.FloorsAreHeld.{FloorOk}
use Rattle.tier_laws.proofs.Invariant.VerdictsHaveCauses.{DidRun}
use Rattle.tier_laws.proofs.Invariant.ValuesAreGood.{Submitted}

-- what is known of a message that was sent
abbrev pub SentBy : {B : Type 0} → Config B → Past B → End → End → Msg → Type 0
SentBy c P from to (msgs.Log p) = Unit {0}
SentBy c P from to (msgs.Request seq text) = Submitted P (record { client = end_index from; seq = seq; body = text })
SentBy c P from to (msgs.Reply who text) = (to ≡ Client who.client) × (P.server.replies who.client who.seq ≡ Some text)
SentBy c P from to (msgs.Token r token order) = DidRun P (record { round = r; from = end_index from; token = token; order = order })
SentBy c P from to (msgs.Call n text) = P.server.calls (tier_of to) n ≡ Some text
SentBy c P from to (msgs.Answer n code) = P.server.served (tier_of from) n ≡ Some code
SentBy c P from to (msgs.Have t n code) = (P.server.served t n ≡ Some code) × (holds P t n (end_index from) ≡ true)
SentBy c P from to (msgs.Settle g) = FloorOk c P (tier_of to) g

abbrev pub SentOk : {B : Type 0} → Config B → Past B → Packet → Type 0
SentOk c P k = SentBy c P k.from k.to k.message
