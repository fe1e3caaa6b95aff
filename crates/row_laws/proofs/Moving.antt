-- Moves that write nothing down.
use Rattle.std.proofs.Common.{◌≡◌, ℕ, ◌≤◌, Bool, true, false, cond, List, [], refl, ap, arith, length}
use Rattle.std.specs.List.{AllByRecursion}
use Rattle.aeg_base.specs.declared.names.Tier.{Tier}
use Rattle.log_model.specs.Log.{LogState, open_at}
use Rattle.log_values.specs.declared.any_value.AnyValue.{AnyValue}
use Rattle.tier_model.specs.declared.turn.Turn.{Turn}
use Rattle.tier_model.specs.Moves.{node, Packet, Move}
use Rattle.row_laws.specs.Moves.{IsSealable, most_sent, IsMoveTo}

module _ {S : Type 0} (IsIn : S → Type 0) (log_in : S → LogState AnyValue) (GoesWell : Packet → Type 0) (t : Tier) (x : ℕ) (σ : S) where
  -- a move that only sends, and may change all but the log
  pub telling : (new : S) (ks : List Packet) (answer : Turn) → IsIn new → log_in new ≡ log_in σ
      → AllByRecursion GoesWell ks × AllByRecursion (IsSealable (node t x)) ks → length ks ≤ most_sent
      → IsMoveTo IsIn log_in GoesWell t x σ (record { state = new; facts = []; sends = ks; answer = answer })
  telling new ks answer k same good few = record {
    state = k;
    taken = good.0;
    sealable = good.1;
    few = few;
    short = omega arith;
    facts = tt;
    opens = ap open_at same;
  }

  -- a move that sends nothing
  pub quiet : (new : S) (answer : Turn) → IsIn new → log_in new ≡ log_in σ
      → IsMoveTo IsIn log_in GoesWell t x σ (record { state = new; facts = []; sends = []; answer = answer })
  quiet new answer k same = telling new [] answer k same (tt, tt) (omega arith)

  pub either : (b : Bool) (p q : Move S) → (b ≡ true → IsMoveTo IsIn log_in GoesWell t x σ p) → (b ≡ false → IsMoveTo IsIn log_in GoesWell t x σ q)
      → IsMoveTo IsIn log_in GoesWell t x σ (cond b p q)
  either true p q k l = k refl
  either false p q k l = l refl
