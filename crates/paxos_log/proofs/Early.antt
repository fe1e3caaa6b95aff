-- The rows of an Accepted at another position than the open one.
use Rattle.std.proofs.Common.{◌≡◌, ℕ, ◌<◌, false, [], refl, sym, ap, subst, ◌∙◌, length, arith, Some, None}
use Rattle.std.specs.Prelude.{nat_lt}
use Rattle.std.proofs.lemmas.Bool.{lt-ltb, ltb-true, false_from_ne_true}
use Rattle.aeg_base.specs.declared.names.Ballot.{Ballot}
use Rattle.log_model.specs.declared.turn.LogIdle.{LogIdle}
use Rattle.log_model.specs.declared.turn.LogIdle.TheVariants.{Behind as IsBehind, Nothing}
use Rattle.log_model.specs.declared.turn.LogTurn.{LogTurn}
use Rattle.log_model.specs.Log.{LogState, Turn, told, idles}
use Rattle.log_model.specs.Rows.{on_accepted}
use Rattle.paxos_log.specs.TierLog.{NodeLog, with_state}

before_row : {V : Type 0} (u : ℕ) (log : LogState V) (s : ℕ) (b : Ballot) (p : ℕ) (v : V) → p < length log.learned
    → on_accepted u log s b p v ≡ idles log Nothing
before_row u log s b p v h = rw (lt-ltb p (length log.learned) h) refl

past_row : {V : Type 0} (u : ℕ) (log : LogState V) (s : ℕ) (b : Ballot) (p : ℕ) (v : V) → length log.learned < p
    → on_accepted u log s b p v ≡ idles log (IsBehind (length log.learned))
past_row u log s b p v h =
    let low : nat_lt p (length log.learned) ≡ false = false_from_ne_true (nat_lt p (length log.learned))
    (λ e. let l : p < length log.learned = ltb-true p (length log.learned) e in omega arith) in
    rw (low, lt-ltb (length log.learned) p h) refl

-- an idle row, as contracts see the log
idle_told : {V : Type 0} (now : NodeLog V) (t : Turn V) (why : LogIdle) (out : LogTurn V) → t ≡ idles now.state why
    → out ≡ record { facts = []; sends = []; learned = None; idle = Some why } → out ≡ told t
idle_told now t why out e f = f ∙ ap told (sym e)

idle_after : {V : Type 0} (now : NodeLog V) (t : Turn V) (why : LogIdle) → t ≡ idles now.state why → now ≡ with_state now t.state
idle_after {V} now t why e = rw e refl

here : {V : Type 0} (view now : NodeLog V) (p : ℕ) → view ≡ now → p < length view.state.learned → p < length now.state.learned
here {V} view now p e h = subst (λ (log : NodeLog V). p < length log.state.learned) e h

there : {V : Type 0} (view now : NodeLog V) (p : ℕ) → view ≡ now → length view.state.learned < p → length now.state.learned < p
there {V} view now p e h = subst (λ (log : NodeLog V). length log.state.learned < p) e h

pub before_told : {V : Type 0} (view now : NodeLog V) (s : ℕ) (b : Ballot) (p : ℕ) (v : V) (out : LogTurn V)
    → view ≡ now → p < length view.state.learned
    → out ≡ record { facts = []; sends = []; learned = None; idle = Some Nothing }
    → out ≡ told (on_accepted now.faults now.state s b p v)
before_told view now s b p v out e h f = idle_told now (on_accepted now.faults now.state s b p v) Nothing out
    (before_row now.faults now.state s b p v (here view now p e h)) f

pub before_after : {V : Type 0} (view now : NodeLog V) (s : ℕ) (b : Ballot) (p : ℕ) (v : V) → view ≡ now
    → p < length view.state.learned → now ≡ with_state now (on_accepted now.faults now.state s b p v).state
before_after view now s b p v e h = idle_after now (on_accepted now.faults now.state s b p v) Nothing
    (before_row now.faults now.state s b p v (here view now p e h))

pub past_told : {V : Type 0} (view now : NodeLog V) (s : ℕ) (b : Ballot) (p : ℕ) (v : V) (out : LogTurn V) (f : ℕ)
    → view ≡ now → f ≡ length view.state.learned → f < p
    → out ≡ record { facts = []; sends = []; learned = None; idle = Some (IsBehind f) }
    → out ≡ told (on_accepted now.faults now.state s b p v)
past_told {V} view now s b p v out f e g h k =
    let same : f ≡ length now.state.learned = g ∙ ap (λ (log : NodeLog V). length log.state.learned) e in
    idle_told now (on_accepted now.faults now.state s b p v) (IsBehind (length now.state.learned)) out
    (past_row now.faults now.state s b p v (omega (arith, same))) (rw (← same) k)

pub past_after : {V : Type 0} (view now : NodeLog V) (s : ℕ) (b : Ballot) (p : ℕ) (v : V) → view ≡ now
    → length view.state.learned < p → now ≡ with_state now (on_accepted now.faults now.state s b p v).state
past_after view now s b p v e h = idle_after now (on_accepted now.faults now.state s b p v)
    (IsBehind (length now.state.learned)) (past_row now.faults now.state s b p v (there view now p e h))
