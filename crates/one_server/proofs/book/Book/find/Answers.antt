use Rattle.std.proofs.Common.{ℕ, sym, ◌∙◌, ap, Some, List, arith}
use Rattle.aeg_base.specs.declared.names.Tier.{Tier}
use Rattle.server_model.specs.Server.{found_in}
use Rattle.one_server.proofs.Placed.{absent, within, placed_at}
use Rattle.one_server.proofs.book.Book.find.Goals as goal

pub index-requires : goal.index-requires
index-requires g c =
    let inside = within 0 c.self.inside.items.items c.args.tier c.args.number c.in-Some.place
    (sym (c.self.invariant c.args.tier c.args.number) ∙ (sym c.get.ensures ∙ c.in-Some.is)) in
    omega (arith, inside.1)

pub returns-in-None : goal.returns-in-None
returns-in-None g c =
    sym (ap (λ (items : List (Tier × ℕ × g.row.T.Denot)). found_in items c.args.tier c.args.number) (sym c.self.view_is)
    ∙ absent 0 c.self.inside.items.items c.args.tier c.args.number (sym (c.self.invariant c.args.tier c.args.number) ∙ (sym c.get.ensures ∙ c.in-None.is)))

pub returns-in-Some : goal.returns-in-Some
returns-in-Some g c =
    sym (ap (λ (items : List (Tier × ℕ × g.row.T.Denot)). found_in items c.args.tier c.args.number) (sym c.self.view_is)
    ∙ placed_at c.self.inside.items.items c.args.tier c.args.number c.in-Some.place c.index.result.now
    (sym (c.self.invariant c.args.tier c.args.number) ∙ (sym c.get.ensures ∙ c.in-Some.is))
    ∙ ap (λ (item : Tier × ℕ × g.row.T.Denot). Some item.2) (sym c.index.ensures))
