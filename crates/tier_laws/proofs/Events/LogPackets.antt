-- The packets of the logs among all packets.
use Rattle.std.proofs.Common.{◌≡◌, ℕ, Bool, true, false, List, [], ◌∷◌, ◌++◌, refl, ap, ◌∙◌, zero, suc}
use Rattle.std.proofs.lemmas.Bool.{cond_both}
use Rattle.aeg_base.specs.declared.names.Tier.{Tier}
use Rattle.server_model.specs.Server.{same_tier}
use Rattle.log_model.specs.declared.message.PaxMsg.{PaxMsg}
use Rattle.log_model.specs.World.{Packet as LogPacket, packets_of}
use Rattle.log_model.proofs.Basics.{Every}
use Rattle.log_values.specs.declared.any_value.AnyValue.{AnyValue}
use Rattle.round_model.specs.Lists.{each}
use Rattle.tier_model.specs.Moves.{node, Packet, log_packets}
use Rattle.frames.specs.Headers.{end_index}
use Rattle.frames.specs.declared.message.Msg.TheVariants as msgs
use Rattle.aeg_base.specs.declared.names.End.{End}
use Rattle.server_model.proofs.Tiers.{tier_same}
use Rattle.run_model.specs.Runs.{is_in, log_part, log_soup}
use Rattle.run_model.proofs.Soups.{log_soup-append}
use Rattle.run_model.specs.World.{Config}
use Rattle.tier_laws.proofs.Events.GrowingPast.{Past, SentOk}

-- PACKETS BESIDE THE LOGS

pub record NoLog (ks : List Packet) : Type 0 where
  pub all : (t : Tier) → log_soup t ks ≡ []

pub no_log : (ks : List Packet) → NoLog ks → (t : Tier) → log_soup t ks ≡ []
no_log ks n t = n.all t

pub none_nil : NoLog []
none_nil = record { all = λ t. refl }

pub none_append : (xs ys : List Packet) → NoLog xs → NoLog ys → NoLog (xs ++ ys)
none_append xs ys a b = record { all = λ t. log_soup-append t xs ys ∙ ap (λ z. z ++ log_soup t ys) (a.all t) ∙ b.all t }

pub none_each : (n : ℕ) (skip : ℕ → Bool) (f : ℕ → Packet) → ((y : ℕ) → NoLog (f y ∷ [])) → NoLog (each n skip f)
none_each zero skip f k = none_nil
none_each (suc n) skip f k = none_append (each n skip f) _ (none_each n skip f k) (cond_both (skip n) [] (f n ∷ []) NoLog (λ e. none_nil) (λ e. k n))

-- THE PACKETS OF A LOG

own_cons : (t : Tier) (from to : End) (p : PaxMsg AnyValue) (ys : List (LogPacket AnyValue)) → is_in t from ≡ true
    → log_part t from to (msgs.Log p) ++ ys ≡ record { from = end_index from; to = end_index to; msg = p } ∷ ys
own_cons t from to p ys e = rw e refl

pub log_soup-own : (t : Tier) (x : ℕ) (sends : List (ℕ × PaxMsg AnyValue)) → log_soup t (log_packets t x sends) ≡ packets_of x sends
log_soup-own t x [] = refl
log_soup-own t x (s ∷ sends) = own_cons t (node t x) (node t s.0) s.1 (log_soup t (log_packets t x sends)) (tier_same t)
    ∙ ap (λ z. record { from = x; to = s.0; msg = s.1 } ∷ z) (log_soup-own t x sends)

-- another tier's
pub log_soup-other : (v t : Tier) (x : ℕ) (sends : List (ℕ × PaxMsg AnyValue)) → same_tier t v ≡ false → log_soup v (log_packets t x sends) ≡ []
log_soup-other v t x [] e = refl
log_soup-other v t x (s ∷ sends) e = rw e (log_soup-other v t x sends e)

pub every-log : {B : Type 0} (c : Config B) (Q : Past B) (t : Tier) (x : ℕ) (sends : List (ℕ × PaxMsg AnyValue)) → Every (SentOk c Q) (log_packets t x sends)
every-log c Q t x [] = tt
every-log c Q t x (s ∷ sends) = (tt, every-log c Q t x sends)
