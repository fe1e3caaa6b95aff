use Rattle.std.proofs.Common.{◌<◌, ◌≤◌, ◌^◌, length, w16, w32, w64}
use Rattle.std.specs.Int.{to_be_bytes}
use Rattle.aeg_base.specs.declared.limits.TheConstants.{TEXT_BYTES}
use Rattle.aeg_wire.specs.Fields.{number_at, text, text_at}
use Rattle.aeg_wire.proofs.Grammar.{distinct}
use Rattle.aeg_wire.proofs.Numbers.{two_bytes, four_bytes, eight_bytes, text_grammar}
use Rattle.aeg_wire.proofs.laws.no_field_begins_another.Goals as goal

pub returns : goal.returns
returns c = record {
  two = λ m n x y fm fn e. distinct (λ n. n < 2 ^ 16) (λ n. to_be_bytes w16 n) (number_at w16) two_bytes m n x y fm fn e;
  four = λ m n x y fm fn e. distinct (λ n. n < 2 ^ 32) (λ n. to_be_bytes w32 n) (number_at w32) four_bytes m n x y fm fn e;
  eight = λ m n x y fm fn e. distinct (λ n. n < 2 ^ 64) (λ n. to_be_bytes w64 n) (number_at w64) eight_bytes m n x y fm fn e;
  text = λ a b x y fa fb e. distinct (λ t. length t ≤ TEXT_BYTES) text text_at text_grammar a b x y fa fb e;
}
