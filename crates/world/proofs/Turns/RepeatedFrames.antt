-- The frames of a list of messages, where one that is the message before again is a copy of the packet before.
use Rattle.std.proofs.Common.{◌≡◌, ℕ, ◌+◌, ◌-◌, ◌<◌, List, [], ◌∷◌, ◌++◌, map, take, length, refl, sym, ap, ◌∙◌, arith, append_assoc, Some, zero, suc}
use Rattle.std.specs.Prelude.{slice_get, IfOk}
use Rattle.std.specs.declared.result.Result.{Result}
use Rattle.std.specs.declared.result.Result.TheVariants.{Ok, Err}
use Rattle.std.proofs.lemmas.List.{length-append}
use Rattle.std.proofs.lemmas.Option.{same_Some}
use Rattle.aeg_base.specs.declared.names.Tier.{Tier}
use Rattle.aeg_base.specs.declared.names.End.{End}
use Rattle.log_model.specs.declared.message.PaxMsg.{PaxMsg}
use Rattle.log_values.specs.declared.any_value.AnyValue.{AnyValue}
use Rattle.frames.specs.declared.message.Msg.TheVariants.{Log}
use Rattle.frames.specs.Frames.{frame}
use Rattle.tier_model.specs.Moves.{node, log_packet, log_packets}
use Rattle.world.specs.Parts.{sealed}
use Rattle.world.specs.LogNodes.{HasSent, IsFrameAt}
use Rattle.log_model.proofs.Basics.{get_end}

abbrev Send : Type 0
Send = ℕ × PaxMsg AnyValue

take_last : (xs : List Send) (j : ℕ) (x : Send) → slice_get xs j ≡ Some x → take (suc j) xs ≡ take j xs ++ x ∷ []
take_last [] j x e = absurd cc
take_last (y ∷ ys) zero x e = ap (λ (z : Send). z ∷ []) (same_Some y x e)
take_last (y ∷ ys) (suc j) x e = ap (λ z. y ∷ z) (take_last ys j x e)

sealed_last : (t : Tier) (x : ℕ) (sends : List Send) (s : Send) → map sealed (log_packets t x (sends ++ s ∷ []))
    ≡ map sealed (log_packets t x sends) ++ sealed (log_packet t x s) ∷ []
sealed_last t x [] s = refl
sealed_last t x (r ∷ rs) s = ap (λ z. sealed (log_packet t x r) ∷ z) (sealed_last t x rs s)

last_is : {A : Type 0} (xs : List A) (y : A) → slice_get (xs ++ y ∷ []) (length (xs ++ y ∷ []) - 1) ≡ Some y
last_is xs y =
    let size : length (xs ++ y ∷ []) - 1 ≡ length xs = omega (arith, length-append xs (y ∷ [])) in
    ap (λ k. slice_get (xs ++ y ∷ []) k) size ∙ get_end xs y

-- a frame of the message with this number
pub written : {E : Type 0} (t : Tier) (x : ℕ) (sends : List Send) (i : ℕ) (s : Send) (r : Result (List ℕ) E)
    → slice_get sends i ≡ Some s → IfOk r (λ bytes. bytes ≡ frame (node t x) (Log s.1))
    → IfOk r (λ bytes. IsFrameAt t x sends i bytes)
written t x sends i s (Ok bytes) e f = λ send g. f ∙ ap (λ (z : Send). frame (node t x) (Log z.1)) (same_Some s send (sym e ∙ g))
written t x sends i s (Err error) e f = tt

-- the last packet, where the message is the one before again
copied_after : {E : Type 0}
    → (t : Tier) (x : ℕ) (sends : List Send) (j : ℕ) (before s : Send) (sent : List (End × List ℕ)) (packet : End
    × List ℕ) (r : Result (List ℕ) E) → slice_get sends j ≡ Some before → slice_get sends (suc j) ≡ Some s → before.1 ≡ s.1
    → HasSent t x (take (suc j) sends) sent → slice_get sent (length sent - 1) ≡ Some packet
    → IfOk r (λ bytes. bytes ≡ packet.1) → IfOk r (λ bytes. IsFrameAt t x sends (suc j) bytes)
copied_after {E = E} t x sends j before s sent packet (Err error) b e same h l f = tt
copied_after {E = E} t x sends j before s sent packet (Ok bytes) b e same h l f =
    let front = h.0 ++ map sealed (log_packets t x (take j sends)) in
    let parts : sent ≡ front ++ sealed (log_packet t x before) ∷ [] =
    h.1 ∙ ap (λ z. h.0 ++ map sealed (log_packets t x z)) (take_last sends j before b) ∙ ap (λ z. h.0 ++ z) (sealed_last t x (take j sends) before)
    ∙ sym (append_assoc h.0 (map sealed (log_packets t x (take j sends))) (sealed (log_packet t x before) ∷ [])) in
    let last : Some packet ≡ Some (sealed (log_packet t x before)) = sym l ∙ ap (λ z. slice_get z (length z - 1)) parts
    ∙ last_is front (sealed (log_packet t x before)) in
    let is : packet ≡ sealed (log_packet t x before) = same_Some packet (sealed (log_packet t x before)) last in
    written {E = E} t x sends (suc j) s (Ok bytes) e (f ∙ ap (λ (k : End × List ℕ). k.1) is ∙ ap (λ m. frame (node t x) (Log m)) same)

pub copied : {E : Type 0} (t : Tier) (x : ℕ) (sends : List Send) (i : ℕ) (before s : Send) (sent : List (End × List ℕ))
    (packet : End × List ℕ) (r : Result (List ℕ) E) → 0 < i → slice_get sends (i - 1) ≡ Some before
    → slice_get sends i ≡ Some s → before.1 ≡ s.1
    → HasSent t x (take i sends) sent → slice_get sent (length sent - 1) ≡ Some packet
    → IfOk r (λ bytes. bytes ≡ packet.1) → IfOk r (λ bytes. IsFrameAt t x sends i bytes)
copied {E = E} t x sends zero before s sent packet r l b e same h p f = absurd (omega (arith, l))
copied {E = E} t x sends (suc j) before s sent packet r l b e same h p f =
    let one_less : suc j - 1 ≡ j = omega arith in
    copied_after {E = E} t x sends j before s sent packet r (ap (λ k. slice_get sends k) (sym one_less) ∙ b) e same h p f

-- one packet more
pub sends_more : (t : Tier) (x : ℕ) (sends : List Send) (i : ℕ) (s : Send) (bytes : List ℕ)
    (first old new : List (End × List ℕ)) → slice_get sends i ≡ Some s → IsFrameAt t x sends i bytes
    → new ≡ old ++ (node t s.0, bytes) ∷ [] → old ≡ first ++ map sealed (log_packets t x (take i sends))
    → new ≡ first ++ map sealed (log_packets t x (take (i + 1) sends))
sends_more t x sends i s bytes first old new e f n o =
    let next : i + 1 ≡ suc i = omega arith in
    n ∙ ap (λ z. old ++ (node t s.0, z) ∷ []) (f s e) ∙ ap (λ z. z ++ sealed (log_packet t x s) ∷ []) o
    ∙ append_assoc first (map sealed (log_packets t x (take i sends))) (sealed (log_packet t x s) ∷ [])
    ∙ ap (λ z. first ++ z) (sym (sealed_last t x (take i sends) s))
    ∙ ap (λ z. first ++ map sealed (log_packets t x z)) (sym (take_last sends i s e) ∙ ap (λ k. take k sends) (sym next))
