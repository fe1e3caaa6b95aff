use Rattle.std.proofs.Common.{string_bytes}
use Rattle.aegean_main.proofs.TopLaws.{is_one_word}
use Rattle.aegean_main.proofs.top.is_word.Goals as goal

pub returns-in-len1 : goal.returns-in-len1
returns-in-len1 c =
    is_one_word string_bytes _ c.word-item.result c.args.name.now c.as_str.result.now c.eq.result c.in-len1.len_at_least
    c.in-len1.len_below c.word-item.is c.as_str.ensures.value c.eq.ensures
