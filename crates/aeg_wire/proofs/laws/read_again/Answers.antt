use Rattle.std.proofs.Common.{refl}
use Rattle.aeg_wire.proofs.Numbers.{two_bytes, four_bytes, eight_bytes, bytes_again, text_grammar}
use Rattle.aeg_wire.proofs.laws.read_again.Goals as goal

pub returns : goal.returns
returns c = record {
  byte = λ n rest. refl;
  two = λ n rest lt. two_bytes.again n rest lt;
  four = λ n rest lt. four_bytes.again n rest lt;
  eight = λ n rest lt. eight_bytes.again n rest lt;
  bytes = bytes_again;
  text = λ some rest le. text_grammar.again some rest le;
}
