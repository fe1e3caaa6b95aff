use Rattle.std.proofs.Common.{◌≡◌, ℕ, zero, suc, ◌+◌, ◌==◌, cond, ◌∷◌, [], arith}
use Rattle.std.specs.Prelude.{nat_lt}
use Rattle.svc_api.proofs.Orders.{below_order}
use Rattle.exec_model.specs.Groups.{IsOrder}
use Rattle.base_calls.proofs.runs_by_schedule.second_wins_in_order.Goals as goal

-- the second of two, then the first: each as often as in order
turned : IsOrder 2 (1 ∷ 0 ∷ [])
turned i =
    let first : ℕ = cond (0 == i) 1 0 in
    let second : ℕ = cond (1 == i) 1 0 in
    let in_order : first + (second + 0) ≡ cond (nat_lt i 2) 1 0 = below_order 2 i in
    let back : second + (first + 0) ≡ cond (nat_lt i 2) 1 0 = omega (arith, in_order) in
    back

pub books_in_order-requires : goal.books_in_order-requires
books_in_order-requires c = turned
