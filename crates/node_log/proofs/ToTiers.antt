-- One message to each node of a tier, as packets.
use Rattle.std.proofs.Common.{◌≡◌, ℕ, ◌+◌, ◌*◌, Bool, true, false, cond, List, [], ◌∷◌, ◌++◌, map, refl, sym, ap, ◌∙◌, Option, Some, zero, suc}
use Rattle.std.proofs.lemmas.List.{map-append}
use Rattle.aeg_base.specs.declared.names.End.{End}
use Rattle.aeg_base.specs.declared.names.Tier.{Tier}
use Rattle.log_model.specs.declared.message.PaxMsg.TheVariants.{Ask}
use Rattle.log_model.specs.Log.{is}
use Rattle.frames.specs.declared.message.Msg.{Msg}
use Rattle.frames.specs.declared.message.Msg.TheVariants.{Log}
use Rattle.frames.specs.Frames.{frame}
use Rattle.paxos_log.specs.TierLog.{skips}
use Rattle.round_model.specs.Lists.{each}
use Rattle.tier_model.specs.Moves.{node, log_packet, log_packets, asks}
use Rattle.node_log.specs.Packets.{sealed, all_sealed, to_tier}

map_one : {A B : Type 0} (g : A → B) (b : Bool) (a : A) → map g (cond b [] (a ∷ [])) ≡ cond b [] (g a ∷ [])
map_one g true a = refl
map_one g false a = refl

map_each : {A B : Type 0} (g : A → B) (n : ℕ) (skip : ℕ → Bool) (f : ℕ → A) → map g (each n skip f) ≡ each n skip (λ y. g (f y))
map_each g zero skip f = refl
map_each g (suc n) skip f =
    map-append g (each n skip f) (cond (skip n) [] (f n ∷ []))
    ∙ ap (λ z. z ++ map g (cond (skip n) [] (f n ∷ []))) (map_each g n skip f)
    ∙ ap (λ z. each n skip (λ y. g (f y)) ++ z) (map_one g (skip n) (f n))

pub tier_sealed : (u : ℕ) (from : End) (t : Tier) (but : Option ℕ) (message : Msg) (bytes : List ℕ) → bytes ≡ frame from message
    → each (2 * u + 1) (skips but) (λ y. (node t y, bytes)) ≡ all_sealed (to_tier u from t but message)
tier_sealed u from t but message bytes e =
    ap (λ z. each (2 * u + 1) (skips but) (λ y. (node t y, z))) e
    ∙ sym (map_each sealed (2 * u + 1) (skips but) (λ y. record { from = from; to = node t y; message = message }))

-- asks are one message to all others
pub asks_are : (u : ℕ) (t : Tier) (x p : ℕ) → to_tier u (node t x) t (Some x) (Log (Ask p)) ≡ log_packets t x (asks u x p)
asks_are u t x p = sym (map_each (log_packet t x) (2 * u + 1) (is x) (λ y. (y, Ask p)))
