use Rattle.std.proofs.Common.{refl}
use Rattle.pipeline.proofs.Entered.{keeps_on, wants_are}
use Rattle.pipeline.proofs.law.rounds_keep_to_tables.Goals as goal

pub returns : goal.returns
returns c = record {
  first = λ depth. record { next = refl; queue = refl; numbers = refl };
  wants = λ m T s r batch k. wants_are m T s r batch k;
  moved = λ T s r ws o k. keeps_on T s r ws o k;
}
