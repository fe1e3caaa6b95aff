use Rattle.std.proofs.Common.{◌≡◌, ℕ, ◌∙◌, ap, ◌∷◌, ◌++◌, [], length, None, List, rules}
use Rattle.aeg_base.specs.declared.names.Tier.{Tier}
use Rattle.server_model.specs.Server.{found_in}
use Rattle.one_server.proofs.Placed.{indexed_more}
use Rattle.one_server.proofs.book.Book.add.Goals as goal

pub invariant_of-self-2 : goal.invariant_of-self-2
invariant_of-self-2 g c =
    let last : c.len-place.result ≡ length c.self.inside.items.items = search rules in
    let none : found_in c.self.inside.items.items c.args.tier c.args.number ≡ None = ap
    (λ (items : List (Tier × ℕ × g.row.T.Denot)). found_in items c.args.tier c.args.number) c.self.view_is ∙ c.requires in
    let more : c.push.new.self.items ≡ c.self.inside.items.items ++ (c.args.tier, c.args.number, c.args.item) ∷ [] = search rules in
    indexed_more c.self.inside.items.items c.push.new.self.items c.self.inside.places c.set.new.self c.args.tier c.args.number c.args.item c.len-place.result
    c.self.invariant c.in_ok-set.ensures.ok last none more
