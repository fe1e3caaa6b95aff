use Rattle.std.proofs.Common.{ℕ}
use Rattle.run_model.specs.BookingRuns.{config}
use Rattle.tier_laws.specs.Services.{Setup}
use Rattle.aegean_main.proofs.replay.every_run_keeps.Goals as goal

-- a run with the lengths of its own frames and records
abbrev setup : ℕ → ℕ → Setup
setup u depth = record { u = u; depth = depth; frame_length = (config u depth).frame_length; record_length = (config u depth).record_length }

pub returns : goal.returns
returns c u depth es few = record {
  chosen = λ t p v m. c.booking_agreement.ensures.chosen (setup u depth) es t p v few m;
  learned = λ t x p v l h. c.booking_agreement.ensures.learned (setup u depth) es t x p v few l h;
  legal = c.booking_headline.ensures.legal (setup u depth) es few;
  replies = λ i k who text e f. c.booking_headline.ensures.replies (setup u depth) es i k who text few e f;
  calls = λ i n k text e f. c.booking_headline.ensures.calls (setup u depth) es i n k text few e f;
  answers = λ i n code k e f. c.booking_headline.ensures.answers (setup u depth) es i n code k few e f;
  haves = λ i n code t k e f. c.booking_headline.ensures.haves (setup u depth) es i n code t k few e f;
  starts = λ i n who body e. c.booking_headline.ensures.starts (setup u depth) es i n who body few e;
  told = λ i e f. c.booking_headline.ensures.told (setup u depth) es i e few f;
}
