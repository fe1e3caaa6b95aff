-- What stands in a run stays where more is added behind it.
use Rattle.std.proofs.Common.{◌≡◌, ℕ, ◌+◌, ◌-◌, ◌<◌, ◌≤◌, List, [], ◌∷◌, ◌++◌, take, drop, length, refl, sym, ap, ◌∙◌, arith, subst, Some, zero, suc}
use Rattle.std.specs.Prelude.{slice_get, option_map, OnErr}
use Rattle.std.specs.declared.result.Result.{Result}
use Rattle.std.specs.declared.result.Result.TheVariants.{Ok, Err}
use Rattle.std.specs.List.{AllByRecursion, slice_range}
use Rattle.std.proofs.lemmas.List.{take-append-le, drop-append-le, drop_at, take_all, length-drop, length-append, length-map}
use Rattle.aeg_base.specs.declared.limits.TheConstants.{PACKETS}
use Rattle.aeg_base.specs.declared.names.End.{End}
use Rattle.net_script.specs.declared.soup.Sent.{Sent}
use Rattle.net_script.specs.Soups.{packet_of, packets_of, IsIn, HasGrown}

range_kept : (run more : List ℕ) (i j : ℕ) → i ≤ j → j ≤ length run → slice_range (run ++ more) i j ≡ slice_range run i j
range_kept run more i j a b =
    ap (λ z. take (j - i) z) (drop-append-le i run more (omega (arith, a, b)))
    ∙ take-append-le (j - i) (drop i run) more (omega (arith, a, b, length-drop i run))

pub packet_kept : (run more : List ℕ) (s : Sent) → IsIn run s → packet_of (run ++ more) s ≡ packet_of run s
packet_kept run more s k = ap (λ z. (s.to, z)) (range_kept run more s.from s.until k.0 k.1)

kept_behind : (run more : List ℕ) (sents : List Sent) → AllByRecursion (IsIn run) sents → packets_of (run ++ more) sents ≡ packets_of run sents
kept_behind run more [] k = refl
kept_behind run more (s ∷ ss) k =
    ap (λ z. z ∷ packets_of (run ++ more) ss) (packet_kept run more s k.0) ∙ ap (λ z. packet_of run s ∷ z) (kept_behind run more ss k.1)

in_behind : (run more : List ℕ) (sents : List Sent) → AllByRecursion (IsIn run) sents → AllByRecursion (IsIn (run ++ more)) sents
in_behind run more [] k = tt
in_behind run more (s ∷ ss) k = ((k.0.0, omega (arith, k.0.1, length-append run more)), in_behind run more ss k.1)

-- the packets stay
pub packets_kept : (old new : List ℕ) (sents : List Sent) → HasGrown old new → AllByRecursion (IsIn old) sents → packets_of new sents ≡ packets_of old sents
packets_kept old new sents g k = ap (λ z. packets_of z sents) g.1 ∙ kept_behind old g.0 sents k

pub in_kept : (old new : List ℕ) (sents : List Sent) → HasGrown old new → AllByRecursion (IsIn old) sents → AllByRecursion (IsIn new) sents
in_kept old new sents g k = subst (λ z. AllByRecursion (IsIn z) sents) (sym g.1) (in_behind old g.0 sents k)

-- and one more is there
pub packets_more : (run : List ℕ) (sents : List Sent) (s : Sent) → packets_of run (sents ++ s ∷ []) ≡ packets_of run sents ++ packet_of run s ∷ []
packets_more run [] s = refl
packets_more run (x ∷ xs) s = ap (λ z. packet_of run x ∷ z) (packets_more run xs s)

pub in_more : (run : List ℕ) (sents : List Sent) (s : Sent) → AllByRecursion (IsIn run) sents → IsIn run s → AllByRecursion (IsIn run) (sents ++ s ∷ [])
in_more run [] s k h = (h, tt)
in_more run (x ∷ xs) s k h = (k.0, in_more run xs s k.1 h)

-- one of them
pub in_at : (run : List ℕ) (sents : List Sent) (i : ℕ) (s : Sent) → AllByRecursion (IsIn run) sents → slice_get sents i ≡ Some s → IsIn run s
in_at run [] i s k e = absurd cc
in_at run (x ∷ xs) zero s k e = let same : x ≡ s = cc in subst (λ z. IsIn run z) same k.0
in_at run (x ∷ xs) (suc i) s k e = in_at run xs i s k.1 e

pub packet_at : (run : List ℕ) (sents : List Sent) (i : ℕ) → slice_get (packets_of run sents) i ≡ option_map (packet_of run) (slice_get sents i)
packet_at run [] i = refl
packet_at run (x ∷ xs) zero = refl
packet_at run (x ∷ xs) (suc i) = packet_at run xs i

-- what was put behind the run
pub put_range : (run bytes : List ℕ) → slice_range (run ++ bytes) (length run) (length (run ++ bytes)) ≡ bytes
put_range run bytes =
    ap (λ z. take (length (run ++ bytes) - length run) z) (drop_at run bytes (length run) refl)
    ∙ take_all (length (run ++ bytes) - length run) bytes (omega (arith, length-append run bytes))

-- ---- a packet more, or none

pub err_view : {T E : Type 0} → (r : Result T E) (old new : List ℕ) (xs ys : List Sent) (now : List (End × List ℕ))
    → packets_of old xs ≡ now → HasGrown old new → AllByRecursion (IsIn old) xs → ys ≡ xs → OnErr r (packets_of new ys ≡ now)
err_view (Ok x) old new xs ys now v g k e = tt
err_view (Err x) old new xs ys now v g k e = ap (λ z. packets_of new z) e ∙ packets_kept old new xs g k ∙ v

pub inside_kept : (old new : List ℕ) (xs ys : List Sent) → (length xs ≤ PACKETS) × AllByRecursion (IsIn old) xs
    → HasGrown old new → ys ≡ xs → (length ys ≤ PACKETS) × AllByRecursion (IsIn new) ys
inside_kept old new xs ys k g e = subst (λ z. (length z ≤ PACKETS) × AllByRecursion (IsIn new) z) (sym e) (k.0, in_kept old new xs g k.1)

pub inside_more : (old new : List ℕ) (xs ys : List Sent) (s : Sent) (now : List (End × List ℕ))
    → packets_of old xs ≡ now → length now < PACKETS → AllByRecursion (IsIn old) xs → HasGrown old new → IsIn new s
    → ys ≡ xs ++ s ∷ [] → (length ys ≤ PACKETS) × AllByRecursion (IsIn new) ys
inside_more old new xs ys s now v l k g h e =
    let count : length now ≡ length xs = ap length (sym v) ∙ length-map xs (packet_of old) in
    let size : length (xs ++ s ∷ []) ≡ length xs + 1 = length-append xs (s ∷ []) in
    let few : length (xs ++ s ∷ []) ≤ PACKETS = omega (arith, count, size, l) in
    subst (λ z. (length z ≤ PACKETS) × AllByRecursion (IsIn new) z) (sym e) (few, in_more new xs s (in_kept old new xs g k) h)

pub ok_view : (old new : List ℕ) (xs ys : List Sent) (s : Sent) (p : End × List ℕ) (now : List (End × List ℕ))
    → packets_of old xs ≡ now → AllByRecursion (IsIn old) xs → HasGrown old new → packet_of new s ≡ p
    → ys ≡ xs ++ s ∷ [] → packets_of new ys ≡ now ++ p ∷ []
ok_view old new xs ys s p now v k g h e =
    ap (λ z. packets_of new z) e ∙ packets_more new xs s ∙ ap (λ z. z ++ packet_of new s ∷ []) (packets_kept old new xs g k ∙ v) ∙ ap (λ z. now ++ z ∷ []) h
