use Rattle.std.proofs.Common.{◌≡◌, ℕ, List, [], ◌∷◌, ◌++◌, refl, sym, ap, ◌∙◌, append_assoc}
use Rattle.aeg_base.specs.declared.names.End.{End}
use Rattle.round_model.specs.Lists.{OfTiers}
use Rattle.world.specs.Tallies.{Seen}
use Rattle.world.specs.Watching.{hears_frame, hears_packets}
use Rattle.world.proofs.parts.join.Goals as goal

hears-last : (s : OfTiers Seen) (ps : List (End × List ℕ)) (p : End × List ℕ) → hears_packets s (ps ++ p ∷ []) ≡ hears_frame (hears_packets s ps) p.1
hears-last s [] p = refl
hears-last s (q ∷ ps) p = hears-last (hears_frame s q.1) ps p

pub loop-to-preserved : goal.loop-to-preserved
loop-to-preserved c = record {
  soup = c.in_ok-push.ensures.ok ∙ ap (λ z. z ++ (c.in-Some.to, c.in-Some.bytes) ∷ []) c.loop-to.invariant.soup
      ∙ append_assoc c.args.soup.now c.loop-to.yielded ((c.in-Some.to, c.in-Some.bytes) ∷ []);
  watch = c.in_ok-hear.ensures ∙ ap (λ z. hears_frame c.loop-to.watch z) c.items.ensures
      ∙ ap (λ z. hears_frame z c.in-Some.bytes) c.loop-to.invariant.watch
      ∙ sym (hears-last c.args.watch.now c.loop-to.yielded (c.in-Some.to, c.in-Some.bytes));
}
