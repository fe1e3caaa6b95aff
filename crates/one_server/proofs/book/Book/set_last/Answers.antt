use Rattle.std.proofs.Common.{◌≡◌, ℕ, List, ◌++◌, ◌∷◌, [], sym, ap, ◌∙◌, refl, rules}
use Rattle.aeg_base.specs.declared.names.Tier.{Tier}
use Rattle.one_server.specs.Places.{place_from}
use Rattle.one_server.proofs.Placed.{place-last}
use Rattle.one_server.proofs.book.Book.set_last.Goals as goal

pub invariant_of-self : goal.invariant_of-self
invariant_of-self g c t n =
    let before : c.self.inside.items.items ≡ c.pop.new.self.items ++ (c.in-Some.tier, c.in-Some.number, c.in-Some.field-0-2) ∷ [] = search rules in
    let after : c.push.new.self.items ≡ c.pop.new.self.items ++ (c.in-Some.tier, c.in-Some.number, c.args.item) ∷ [] = search rules in
    c.self.invariant t n
    ∙ ap (λ (xs : List (Tier × ℕ × g.row.T.Denot)). place_from 0 xs t n) before
    ∙ place-last 0 c.pop.new.self.items (c.in-Some.tier, c.in-Some.number, c.in-Some.field-0-2) (c.in-Some.tier, c.in-Some.number, c.args.item) t n refl refl
    ∙ ap (λ (xs : List (Tier × ℕ × g.row.T.Denot)). place_from 0 xs t n) (sym after)
