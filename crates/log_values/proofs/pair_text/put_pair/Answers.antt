use Rattle.std.proofs.Common.{append_assoc}
use Rattle.log_values.proofs.pair_text.put_pair.Goals as goal

pub returns : goal.returns
returns c = rw (c.in_ok-put_u64.ensures.ok, c.in_ok-put_u32.ensures.ok, c.in_ok-put_u8.ensures.ok) (simp append_assoc)
