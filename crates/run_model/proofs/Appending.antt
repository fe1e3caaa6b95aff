-- Runs and their texts, one part after another.
use Rattle.std.proofs.Common.{◌≡◌, List, [], ◌∷◌, ◌++◌, refl, sym, ap, ◌∙◌, append_assoc, append-nil}
use Rattle.run_model.specs.declared.trace.TraceEvent.{TraceEvent}
use Rattle.run_model.specs.World.{Config, World, start, happens}
use Rattle.run_model.specs.Runs.{grows, run, world}
use Rattle.run_model.specs.Text.{after, event_text, text_from, text}

pub run-append : {B : Type 0} (c : Config B) (es fs : List TraceEvent) (w : World B) → run c (es ++ fs) w ≡ run c fs (run c es w)
run-append c [] fs w = refl
run-append c (e ∷ es) fs w = run-append c es fs (grows c (happens c w e))

pub text-append : {B : Type 0} (c : Config B) (es fs : List TraceEvent) (w : World B)
    → text_from c w (es ++ fs) ≡ text_from c w es ++ text_from c (run c es w) fs
text-append c [] fs w = refl
text-append c (e ∷ es) fs w =
    ap (λ z. event_text c w e ++ z) (text-append c es fs (after c w e))
    ∙ sym (append_assoc (event_text c w e) (text_from c (after c w e) es) (text_from c (run c es (after c w e)) fs))

-- one event more
pub text-last : {B : Type 0} (c : Config B) (es : List TraceEvent) (e : TraceEvent) → text c (es ++ e ∷ []) ≡ text c es ++ event_text c (world c es) e
text-last c es e = text-append c es (e ∷ []) start ∙ ap (λ z. text c es ++ z) (append-nil (event_text c (world c es) e))
