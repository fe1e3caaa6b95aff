use Rattle.std.proofs.Common.{rules, ◌≡◌, ℕ, cond, List, [], ◌∷◌, refl, ap, ◌∙◌}
use Rattle.std.specs.Prelude.{nat_le}
use Rattle.std.specs.List.{filter}
use Rattle.std.proofs.lemmas.Fn.{filter_same}
use Rattle.world.specs.Tallies.{Tally, tallies_from}
use Rattle.world.proofs.observer.keep_from.Goals as goal

filtered : (p : ℕ) (ts : List Tally) → filter (λ t. nat_le p t.pos) ts ≡ tallies_from p ts
filtered p [] = refl
filtered p (t ∷ ts) = ap (λ z. cond (nat_le p t.pos) (t ∷ z) z) (filtered p ts)

pub returns : goal.returns
returns c = filter_same _ (λ t. nat_le c.args.pos t.pos) _ (λ t b f k. search rules) _ _ c.retain.ensures.filtered
    ∙ filtered c.args.pos c.args.tallies.now.items
