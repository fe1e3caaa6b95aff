-- The lengths of facts.
use Rattle.std.proofs.Common.{◌*◌, ◌≤◌, List, [], ◌∷◌, length, ap, arith}
use Rattle.std.specs.List.{AllByRecursion}
use Rattle.std.proofs.lemmas.List.{length-append}
use Rattle.std.proofs.lemmas.List.Concat.{flat_map-cons}
use Rattle.aeg_base.specs.declared.limits.TheConstants.{RECORD_BYTES}
use Rattle.log_values.specs.declared.fact.Fact.{Fact}
use Rattle.log_values.specs.declared.fact.Fact.TheVariants.{Promised, Accepted, Learned, Held}
use Rattle.log_values.specs.Records.{fact, FitsFact, record_text}
use Rattle.frames.proofs.BodyLengths.{any_length}

fact_length : (f : Fact) → FitsFact f → length (fact f) ≤ 5037
fact_length (Promised b) fits = omega arith
fact_length (Accepted p b v) fits = omega (arith, any_length v fits.1.1)
fact_length (Learned p v) fits = omega (arith, any_length v fits.1)
fact_length (Held tier number code) fits = omega arith

pub record_length : (facts : List Fact) → AllByRecursion FitsFact facts → length (record_text facts) ≤ 5037 * length facts
record_length [] all = omega arith
record_length (f ∷ fs) all = omega (
  arith,
  ap length (flat_map-cons fact f fs),
  length-append (fact f) (record_text fs),
  fact_length f all.0,
  record_length fs all.1,
)

pub few_short : (facts : List Fact) → AllByRecursion FitsFact facts → length facts ≤ 3 → length (record_text facts) ≤ RECORD_BYTES
few_short facts all few = omega (arith, record_length facts all)
