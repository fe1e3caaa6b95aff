use Rattle.std.proofs.Common.{◌≡◌, length, take, drop}
use Rattle.svc_api.specs.Orders.{is_order}
use Rattle.log_values.proofs.Orders.{is_order_from}
use Rattle.log_values.proofs.order.is_permutation.Given as goal

abbrev pub invariant-loop-i : goal.invariant-loop-i
invariant-loop-i l = record {
  count : l.count ≡ length l.order;
  so_far : is_order_from l.count (take l.i l.order) (drop l.i l.order) ≡ is_order (length l.order) l.order;
}
