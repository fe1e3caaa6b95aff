-- The fresh entries of a batch, as code finds them.
use Rattle.std.proofs.Common.{◌≡◌, List, sym, ap, ◌∙◌, subst}
use Rattle.log_values.specs.declared.entry.Entry.{Entry}
use Rattle.round_model.specs.Service.{Programs}
use Rattle.round_model.specs.Tables.{Tables, fresh_entries, wants}
use Rattle.pipeline.specs.States.{RoundsState, next_wants}
use Rattle.pipeline.specs.Jobs.{AreFresh}
use Rattle.pipeline.proofs.Entered.{fresh_ones}

pub seen_fresh : (m : Programs) (T : Tables) (s : RoundsState) (batch fresh seen : List Entry) → fresh ≡ fresh_entries m T batch → seen ≡ fresh
    → s.queue ≡ T.queue → AreFresh s seen
seen_fresh m T s batch fresh seen e v q = subst (AreFresh s) (sym (v ∙ e)) (fresh_ones m T s batch q)

-- what the next round wants with them is what its batch wants
pub seen_wants : (m : Programs) (T : Tables) (s : RoundsState) (batch fresh seen : List Entry) → fresh ≡ fresh_entries m T batch → seen ≡ fresh
    → s.queue ≡ T.queue → next_wants s seen ≡ wants m T batch
seen_wants m T s batch fresh seen e v q = ap (next_wants s) (v ∙ e) ∙ ap (λ z. next_wants (record s { queue = z }) (fresh_entries m T batch)) q
