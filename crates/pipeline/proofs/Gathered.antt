-- Calls are gathered list by list.
use Rattle.std.proofs.Common.{◌≡◌, List, [], ◌∷◌, ◌++◌, map, sym, ap, ◌∙◌, append_assoc}
use Rattle.std.proofs.lemmas.List.{map-append}
use Rattle.std.proofs.lemmas.List.Elements.{filter-append}
use Rattle.std.specs.Prelude.{ℕ}
use Rattle.aeg_base.specs.declared.names.Tier.{Tier}
use Rattle.round_model.specs.Lists.{concat}
use Rattle.round_model.specs.Tables.{Parked}
use Rattle.pipeline.specs.States.{call_of, calling, to_tier}
use Rattle.pipeline.proofs.Wants.{concat-push}

pub more_calls : {X : Type 0} (t : Tier) (f : X → List Parked) (ys : List X) (y : X) (ps : List Parked) (first before after : List (Tier × ℕ × List ℕ))
    → before ≡ first ++ map call_of (calling t (concat (map f ys))) → ps ≡ f y → after ≡ before ++ map call_of (calling t ps)
    → after ≡ first ++ map call_of (calling t (concat (map f (ys ++ y ∷ []))))
more_calls t f ys y ps first before after b e a =
    let old : List Parked = concat (map f ys) in
    let lists : concat (map f (ys ++ y ∷ [])) ≡ old ++ f y = ap concat (map-append f ys (y ∷ [])) ∙ concat-push (map f ys) (f y) in
    let parts : map call_of (calling t (concat (map f (ys ++ y ∷ [])))) ≡ map call_of (calling t old) ++ map call_of (calling t (f y)) =
    ap (λ z. map call_of (calling t z)) lists
    ∙ ap (map call_of) (filter-append (to_tier t) old (f y))
    ∙ map-append call_of (calling t old) (calling t (f y)) in
    a
    ∙ ap (λ z. z ++ map call_of (calling t ps)) b
    ∙ append_assoc first (map call_of (calling t old)) (map call_of (calling t ps))
    ∙ ap (λ z. first ++ (map call_of (calling t old) ++ map call_of (calling t z))) e
    ∙ ap (λ z. first ++ z) (sym parts)
