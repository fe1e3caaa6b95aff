-- What a learned value does.
use Rattle.std.proofs.Common.{◌≡◌, ℕ, ◌+◌, ◌*◌, Bool, true, false, cond, List, [], ◌∷◌, ◌++◌, length, take, slice_get, refl, sym, ap, ◌∙◌, subst, arith}
use Rattle.std.proofs.Common.{append_assoc, append-nil, Option, Some, None, zero, suc}
use Rattle.std.specs.Prelude.{nat_lt}
use Rattle.std.proofs.lemmas.Bool.{ltb-false}
use Rattle.std.proofs.lemmas.List.{map-append}
use Rattle.std.proofs.lemmas.Option.{same_Some, slice_get_past}
use Rattle.aeg_base.specs.declared.names.End.{End}
use Rattle.aeg_base.specs.declared.names.Tier.{Tier}
use Rattle.log_model.specs.Log.{LogState, nobody}
use Rattle.log_values.specs.Fields.{IsFloor}
use Rattle.log_values.specs.declared.any_value.AnyValue.{AnyValue}
use Rattle.log_values.specs.declared.any_value.AnyValue.TheVariants.{Mid as OfMid, Back as OfBack}
use Rattle.log_values.specs.declared.back_value.BackValue.TheVariants.{Call, Settle}
use Rattle.round_model.specs.Lists.{each}
use Rattle.round_model.specs.Service.{Backend}
use Rattle.round_model.specs.Shims.{ShimState, settles}
use Rattle.server_shim.specs.Ranges.{IsShimIn}
use Rattle.server_shim.proofs.Ranged.{settles_in}
use Rattle.tier_model.specs.Moves.{Packet}
use Rattle.tier_model.specs.Back.{Back, answer_to, after_value, passes, new_value, value_state, value_sends, value_tells}
use Rattle.tier_model.specs.BackRows.{after_values, answers_again}
use Rattle.node_log.specs.Packets.{sealed, all_sealed}
use Rattle.backend_node.specs.Backends.{answer_by, answer_of, told_to_all}

-- the shim after a floor of a learned value
pub settled : (u : ℕ) (s new : ShimState) (g : ℕ) → IsFloor g → new ≡ settles s g → IsShimIn u s → IsShimIn u new
settled u s new g floor is range = subst (IsShimIn u) (sym is) (settles_in u s g range (omega (arith, floor.0), floor.1))

-- what a turn learned is at the position that was open before
pub new_value_is : (old new : LogState AnyValue) → new_value old new ≡ slice_get new.learned (length old.learned)
new_value_is old new = go (nat_lt (length old.learned) (length new.learned)) refl
  where
    go : (b : Bool) → nat_lt (length old.learned) (length new.learned) ≡ b
        → cond {A = Option AnyValue} b (slice_get new.learned (length old.learned)) None ≡ slice_get new.learned (length old.learned)
    go true e = refl
    go false e = sym (slice_get_past new.learned (length old.learned) (ltb-false (length old.learned) (length new.learned) e))

-- the packets that a value brings are its answer
sends_are : {B : Type 0} (u : ℕ) (b : Backend B) (t : Tier) (x : ℕ) (σ : Back B) (v : AnyValue)
    → value_sends u b t x σ v ≡ told_to_all u t x (answer_by b σ v)
sends_are u b t x σ (OfMid v) = refl
sends_are u b t x σ (OfBack (Call n text)) = go (passes σ n)
  where
    go : (p : Bool) → cond {A = List Packet} p [] (each (2 * u + 1) nobody (answer_to t x n (b.serve σ.state text).code))
        ≡ told_to_all u t x (cond {A = Option (ℕ × ℕ)} p None (Some (n, (b.serve σ.state text).code)))
    go true = refl
    go false = refl
sends_are u b t x σ (OfBack (Settle g)) = refl

pub tells_are : {B : Type 0} (u : ℕ) (b : Backend B) (t : Tier) (x : ℕ) (σ : Back B) (o : Option AnyValue)
    → value_tells u b t x σ o ≡ told_to_all u t x (answer_of b σ o)
tells_are u b t x σ None = refl
tells_are u b t x σ (Some v) = sends_are u b t x σ v

-- the values up to the next position
pub values_next : {B : Type 0} (b : Backend B) (σ : Back B) (vs : List AnyValue) (i : ℕ)
    → after_values b σ (take (suc i) vs) ≡ value_state b (after_values b σ (take i vs)) (slice_get vs i)
values_next b σ [] zero = refl
values_next b σ [] (suc i) = refl
values_next b σ (v ∷ vs) zero = refl
values_next b σ (v ∷ vs) (suc i) = values_next b (after_value b σ v) vs i

pub values_more : {B : Type 0} (b : Backend B) (σ now new : Back B) (vs : List AnyValue) (i : ℕ) → now ≡ after_values b σ (take i vs)
    → new ≡ value_state b now (slice_get vs i) → new ≡ after_values b σ (take (i + 1) vs)
values_more b σ now new vs i e f =
    let next : suc i ≡ i + 1 = omega arith in
    f ∙ ap (λ z. value_state b z (slice_get vs i)) e ∙ sym (values_next b σ vs i) ∙ ap (λ (k : ℕ). after_values b σ (take k vs)) next

-- the answers up to the next one
again_next : (u : ℕ) (t : Tier) (x : ℕ) (es : List (ℕ × ℕ)) (i : ℕ) (e : ℕ × ℕ) → slice_get es i ≡ Some e
    → answers_again u t x (take (suc i) es) ≡ answers_again u t x (take i es) ++ each (2 * u + 1) nobody (answer_to t x e.0 e.1)
again_next u t x [] i e f = absurd cc
again_next u t x (d ∷ es) zero e f =
    append-nil (each (2 * u + 1) nobody (answer_to t x d.0 d.1)) ∙ ap (λ (z : ℕ × ℕ). each (2 * u + 1) nobody (answer_to t x z.0 z.1)) (same_Some d e f)
again_next u t x (d ∷ es) (suc i) e f =
    ap (λ z. each (2 * u + 1) nobody (answer_to t x d.0 d.1) ++ z) (again_next u t x es i e f)
    ∙ sym (append_assoc (each (2 * u + 1) nobody (answer_to t x d.0 d.1)) (answers_again u t x (take i es))
    (each (2 * u + 1) nobody (answer_to t x e.0 e.1)))

pub again_more : (u : ℕ) (t : Tier) (x : ℕ) (es : List (ℕ × ℕ)) (i : ℕ) (e : ℕ × ℕ) (first old new : List (End × List ℕ)) → slice_get es i ≡ Some e
    → old ≡ first ++ all_sealed (answers_again u t x (take i es))
    → new ≡ old ++ all_sealed (each (2 * u + 1) nobody (answer_to t x e.0 e.1)) → new ≡ first ++ all_sealed (answers_again u t x (take (i + 1) es))
again_more u t x es i e first old new f o n =
    let next : suc i ≡ i + 1 = omega arith in
    let told = answers_again u t x (take i es) in
    let more = each (2 * u + 1) nobody (answer_to t x e.0 e.1) in
    n ∙ ap (λ z. z ++ all_sealed more) o ∙ append_assoc first (all_sealed told) (all_sealed more)
    ∙ ap (λ z. first ++ z) (sym (map-append sealed told more)) ∙ ap (λ z. first ++ all_sealed z) (sym (again_next u t x es i e f))
    ∙ ap (λ (k : ℕ). first ++ all_sealed (answers_again u t x (take k es))) next
