use Rattle.std.proofs.Common.{◌≡◌, false, refl, sym, subst, arith}
use Rattle.std.specs.Prelude.{not}
use Rattle.round_model.specs.Lists.{concat, is_nil}
use Rattle.applied_rounds.specs.States.{AppliedState}
use Rattle.applied_rounds.proofs.Waiting.{idle_waits_not}
use Rattle.applied_rounds.proofs.applied.Applied.waits.Goals as goal

pub returns : goal.returns
returns c = subst (λ (z : AppliedState). false ≡ not (is_nil (concat z.tables.queue))) c.self.view_is
    (sym (idle_waits_not c.self.inside.clients _ c.self.inside.rounds c.self.invariant.clients_agree c.self.invariant.range refl
    (λ k low. c.clients.invariant k (omega (arith, low, c.clients-test.false)))))
