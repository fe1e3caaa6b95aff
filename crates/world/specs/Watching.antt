-- What is seen of the three tiers, from the frames that are sent.
use Rattle.std.specs.Prelude.{ℕ, List, [], ◌∷◌, length, Bool, false, ◌==◌}
use Rattle.std.specs.declared.result.Result.{Result}
use Rattle.std.specs.declared.result.Result.TheVariants.{Ok, Err}
use Rattle.aeg_base.specs.declared.names.End.{End}
use Rattle.aeg_base.specs.declared.names.Tier.TheVariants.{Mid, Inv, Pay}
use Rattle.aeg_base.specs.declared.names.End.TheVariants.{Node, Client}
use Rattle.log_values.specs.declared.any_value.AnyValue.{AnyValue}
use Rattle.log_values.specs.declared.format.TheConstants.{ACCEPTED_KIND}
use Rattle.log_model.specs.declared.message.PaxMsg.{PaxMsg}
use Rattle.frames.specs.declared.header.Header.{Header}
use Rattle.frames.specs.declared.header.Refused.{Refused}
use Rattle.frames.specs.declared.message.Msg.{Msg}
use Rattle.frames.specs.declared.message.Msg.TheVariants as msgs
use Rattle.frames.specs.Frames.{frame_of}
use Rattle.round_model.specs.Lists.{OfTiers, of_tier, with_tier}
use Rattle.run_model.specs.World.{Config, World}
use Rattle.run_model.specs.Runs.{log_soup}
use Rattle.world.specs.Tallies.{Seen, new_seen, seen_of, hears, grown}

abbrev pub new_watch : ℕ → OfTiers Seen
new_watch u = record { mid = new_seen u; inv = new_seen u; pay = new_seen u }

-- a message of the log of its sender's tier
abbrev pub hears_log : OfTiers Seen → End → PaxMsg AnyValue → OfTiers Seen
hears_log s (Node n) m = with_tier s n.tier (hears (of_tier s n.tier) n.index m)
hears_log s (Client y) m = s

abbrev pub hears_message : OfTiers Seen → End → Msg → OfTiers Seen
hears_message s from (msgs.Log m) = hears_log s from m
hears_message s from (msgs.Request seq text) = s
hears_message s from (msgs.Reply who text) = s
hears_message s from (msgs.Token r token order) = s
hears_message s from (msgs.Call n text) = s
hears_message s from (msgs.Answer n code) = s
hears_message s from (msgs.Have t n code) = s
hears_message s from (msgs.Settle g) = s

abbrev pub hears_found : OfTiers Seen → Result (Header × Msg) Refused → OfTiers Seen
hears_found s (Ok found) = hears_message s found.0.from found.1
hears_found s (Err refusal) = s

-- one frame more
abbrev pub hears_frame : OfTiers Seen → List ℕ → OfTiers Seen
hears_frame s bytes = hears_found s (frame_of bytes)

-- bytes of the kind of an Accepted, the one message that is counted
abbrev pub is_of_vote : List ℕ → Bool
is_of_vote [] = false
is_of_vote (version ∷ []) = false
is_of_vote (version ∷ (kind ∷ bytes)) = kind == ACCEPTED_KIND

-- more packets, each with whom it goes to
abbrev pub hears_packets : OfTiers Seen → List (End × List ℕ) → OfTiers Seen
hears_packets s [] = s
hears_packets s (packet ∷ packets) = hears_packets (hears_frame s packet.1) packets

-- each tier goes on by its first open position, where it is chosen
abbrev pub all_grown : OfTiers Seen → OfTiers Seen
all_grown s = record { mid = grown s.mid; inv = grown s.inv; pay = grown s.pay }

-- what is seen of a world
abbrev pub seen_in : {B : Type 0} → Config B → World B → OfTiers Seen
seen_in c w = record {
  mid = seen_of c.u (log_soup Mid w.soup) (length (w.logs Mid));
  inv = seen_of c.u (log_soup Inv w.soup) (length (w.logs Inv));
  pay = seen_of c.u (log_soup Pay w.soup) (length (w.logs Pay));
}
