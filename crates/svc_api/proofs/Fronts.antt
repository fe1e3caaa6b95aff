-- The stores that a segment comes by.
use Rattle.std.specs.Prelude.{ℕ, Option, Some, None, OnErr, refl}
use Rattle.std.specs.declared.result.Result.{Result}
use Rattle.std.specs.declared.result.Result.TheVariants.{Ok, Err}
use Rattle.std.proofs.Common.{inl, inr, subst}
use Rattle.aeg_base.specs.Store.{Store, value_at, written}
use Rattle.aeg_base.specs.declared.names.Key.{Key}
use Rattle.svc_api.specs.Plan.{Plan, Reads, Writes, Ends, Follows, ComesBy}
use Rattle.svc_api.specs.declared.action.Action.TheVariants as acts

-- a plan comes by the store that it begins with
pub ComesBy-here : (p : Plan) (s : Store) → ComesBy p s s
ComesBy-here (Reads key rest) s = ComesBy-here (rest (value_at s key)) s
ComesBy-here (Writes key value rest) s = inl refl
ComesBy-here (Ends ending) s = refl

-- before a read it comes by what it comes by afterwards
pub ComesBy-read : (p : Plan) (key : Key) (left : Option ℕ → Plan) (stage : ℕ) (s t : Store)
    → Follows p (acts.Get key) left stage → ComesBy (left (Some (value_at s key))) s t → ComesBy p s t
ComesBy-read (Reads k rest) key left stage s t (same, goes_on) comes =
    let P : Key → Type 0 = λ k. ComesBy (rest (value_at s k)) s t
    in subst P same (subst (λ q. ComesBy q s t) (goes_on (value_at s key)) comes)
ComesBy-read (Writes k value rest) key left stage s t follows comes = absurd follows
ComesBy-read (Ends ending) key left stage s t follows comes = absurd follows

-- and so before a write
pub ComesBy-write : (p : Plan) (key : Key) (value : ℕ) (left : Option ℕ → Plan) (stage : ℕ) (s t : Store)
    → Follows p (acts.Put key value) left stage → ComesBy (left None) (written s key value) t → ComesBy p s t
ComesBy-write (Writes k v rest) key value left stage s t (same_key, same_value, goes_on) comes =
    let P : Key → Type 0 = λ k. ComesBy rest (written s k v) t in
    let Q : ℕ → Type 0 = λ v. ComesBy rest (written s key v) t
    in inr (subst P same_key (subst Q same_value (subst (λ q. ComesBy q (written s key value) t) goes_on comes)))
ComesBy-write (Reads k rest) key value left stage s t follows comes = absurd follows
ComesBy-write (Ends ending) key value left stage s t follows comes = absurd follows

-- what holds in any case holds after an error
pub OnErr-any : {T E : Type 0} (P : Type 0) (r : Result T E) → P → OnErr r P
OnErr-any P (Ok v) holds = tt
OnErr-any P (Err e) holds = holds
