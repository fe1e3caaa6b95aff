use Rattle.std.proofs.Common.{◌≡◌, ℕ, List, sym, ap, ◌∙◌, rules}
use Rattle.aeg_base.specs.declared.names.Tier.{Tier}
use Rattle.one_server.specs.Places.{place_from}
use Rattle.one_server.proofs.Placed.{indexed_less, without_last}
use Rattle.one_server.proofs.book.Book.drop_last.Goals as goal

pub invariant_of-self : goal.invariant_of-self
invariant_of-self g c t n =
    let front = c.requires.0 in
    let whole = c.self.view_is ∙ c.requires.1.1.0 in
    let last = without_last front c.self.inside.items.items (c.args.tier, c.args.number, c.requires.1.0) whole in
    let left : c.pop.new.self.items ≡ front = search (rules, last) in
    indexed_less front c.self.inside.items.items c.self.inside.places c.take_out.new.self c.args.tier c.args.number
    c.requires.1.0 c.self.invariant c.take_out.ensures c.requires.1.1.1 whole t n
    ∙ ap (λ (xs : List (Tier × ℕ × g.row.T.Denot)). place_from 0 xs t n) (sym left)
