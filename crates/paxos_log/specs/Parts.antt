-- Rows as they change the leader's part alone.
use Rattle.std.specs.Prelude.{ℕ, ◌+◌, ◌*◌, Bool, false, ◌&&◌, not, [], ◌∷◌, ◌++◌, if◌then◌else◌, Option, Some, None, option_map}
use Rattle.aeg_base.specs.Ballots.{same_ballot}
use Rattle.aeg_base.specs.declared.names.Ballot.{Ballot}
use Rattle.log_model.specs.declared.fact.Fact.TheVariants.{Promised, Accepted as Voted}
use Rattle.log_model.specs.declared.message.PaxMsg.TheVariants.{Prepare, Accept, Accepted}
use Rattle.log_model.specs.declared.turn.LogTurn.{LogTurn}
use Rattle.log_model.specs.Log.{Leader, has, is, is_none, nobody, to_each}
use Rattle.log_model.specs.Rows.{join, to_offer}

-- the leader takes the promise of b from s
abbrev pub takes_promise : {V : Type 0} → Option (Leader V) → ℕ → Ballot → Bool
takes_promise None s b = false
takes_promise (Some leader) s b = same_ballot leader.ballot b && (is_none leader.last && not (has leader.promisers s))

-- the leader after Promise(b, p, a) from s
abbrev pub after_promise : {V : Type 0} → Option (Leader V) → ℕ → Ballot → ℕ → Option (Ballot × V) → Option (Leader V)
after_promise None s b p a = None
after_promise (Some leader) s b p a = if takes_promise (Some leader) s b then Some (join leader s p a) else Some leader

-- the ballot and the value that a leader offers at the open position f
abbrev pub offered_by : {V : Type 0} → Option (Leader V) → ℕ → Option V → Option (Ballot × V)
offered_by None f own = None
offered_by (Some leader) f own = option_map (λ v. (leader.ballot, v)) (to_offer f leader own)

-- what an offer of v at p with b writes down and sends
abbrev pub offer_out : {V : Type 0} → ℕ → ℕ → Ballot → ℕ → V → LogTurn V
offer_out u x b p v = record {
  facts = Voted p b v ∷ [];
  sends = to_each (2 * u + 1) (is x) (Accept b p v) ++ to_each (2 * u + 1) nobody (Accepted b p v);
  learned = None;
  idle = None;
}

-- what a leader that begins with b at p writes down and sends
abbrev pub lead_out : {V : Type 0} → ℕ → ℕ → Ballot → ℕ → LogTurn V
lead_out u x b p = record { facts = Promised b ∷ []; sends = to_each (2 * u + 1) (is x) (Prepare b p); learned = None; idle = None }
