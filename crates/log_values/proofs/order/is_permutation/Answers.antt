use Rattle.std.proofs.Common.{refl}
use Rattle.log_values.proofs.Orders.{loop_is}
use Rattle.log_values.proofs.order.is_permutation.Goals as goal

pub loop-i-init : goal.loop-i-init
loop-i-init c = record { count = refl; so_far = loop_is c.args.order.now }
