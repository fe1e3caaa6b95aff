-- A frame that isn't of the kind of an Accepted leaves what is seen.
use Rattle.std.proofs.Common.{◌≡◌, ℕ, false, List, refl, sym, ap, ◌∙◌}
use Rattle.std.specs.declared.result.Result.{Result}
use Rattle.std.specs.declared.result.Result.TheVariants.{Ok, Err}
use Rattle.aeg_base.specs.declared.names.Tier.{Tier}
use Rattle.aeg_base.specs.declared.names.Tier.TheVariants.{Mid, Inv, Pay}
use Rattle.aeg_base.specs.declared.names.End.{End}
use Rattle.aeg_base.specs.declared.names.End.TheVariants.{Node, Client}
use Rattle.aeg_wire.proofs.Grammar.{IsBytes}
use Rattle.log_model.specs.declared.message.PaxMsg.{PaxMsg}
use Rattle.log_model.specs.declared.message.PaxMsg.TheVariants.{Prepare, Promise, Accept, Accepted, Ask, Learn, Behind}
use Rattle.log_values.specs.declared.any_value.AnyValue.{AnyValue}
use Rattle.frames.specs.declared.header.Header.{Header}
use Rattle.frames.specs.declared.header.Refused.{Refused}
use Rattle.frames.specs.declared.message.Msg.{Msg}
use Rattle.frames.specs.declared.message.Msg.TheVariants as msgs
use Rattle.frames.specs.Frames.{frame, frame_of}
use Rattle.frames.proofs.FrameGrammar.{frame_takes}
use Rattle.round_model.specs.Lists.{OfTiers, of_tier, with_tier}
use Rattle.world.specs.Tallies.{Seen}
use Rattle.world.specs.Watching.{hears_log, hears_message, hears_found, hears_frame, is_of_vote}

kept : (s : OfTiers Seen) (t : Tier) → with_tier s t (of_tier s t) ≡ s
kept s Mid = refl
kept s Inv = refl
kept s Pay = refl

log_unheard : (s : OfTiers Seen) (from : End) (m : PaxMsg AnyValue) → is_of_vote (frame from (msgs.Log m)) ≡ false → hears_log s from m ≡ s
log_unheard s (Client y) m e = refl
log_unheard s (Node n) (Accepted b p v) e = absurd cc
log_unheard s (Node n) (Prepare b p) e = kept s n.tier
log_unheard s (Node n) (Promise b p a) e = kept s n.tier
log_unheard s (Node n) (Accept b p v) e = kept s n.tier
log_unheard s (Node n) (Ask p) e = kept s n.tier
log_unheard s (Node n) (Learn p v) e = kept s n.tier
log_unheard s (Node n) (Behind p) e = kept s n.tier

message_unheard : (s : OfTiers Seen) (from : End) (message : Msg) → is_of_vote (frame from message) ≡ false → hears_message s from message ≡ s
message_unheard s from (msgs.Log m) e = log_unheard s from m e
message_unheard s from (msgs.Request seq text) e = refl
message_unheard s from (msgs.Reply who text) e = refl
message_unheard s from (msgs.Token r token order) e = refl
message_unheard s from (msgs.Call n text) e = refl
message_unheard s from (msgs.Answer n code) e = refl
message_unheard s from (msgs.Have t n code) e = refl
message_unheard s from (msgs.Settle g) e = refl

found_unheard : (s : OfTiers Seen) (bytes : List ℕ) (r : Result (Header × Msg) Refused) → IsBytes bytes
    → frame_of bytes ≡ r → is_of_vote bytes ≡ false → hears_found s r ≡ s
found_unheard s bytes (Err refusal) are is e = refl
found_unheard s bytes (Ok found) are is e = message_unheard s found.0.from found.1 (ap is_of_vote (sym (frame_takes bytes found are is).0.parts) ∙ e)

pub unheard : (s : OfTiers Seen) (bytes : List ℕ) → IsBytes bytes → is_of_vote bytes ≡ false → hears_frame s bytes ≡ s
unheard s bytes are e = found_unheard s bytes (frame_of bytes) are refl e
