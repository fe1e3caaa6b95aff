-- What is decided on what a backend node has in hand.
use Rattle.std.proofs.Common.{◌≡◌, ℕ, List, [], ◌++◌, map, slice_get, sym, ap, ◌∙◌, subst, arith}
use Rattle.std.proofs.Common.{append_assoc, Option, Result, Ok, Err}
use Rattle.std.specs.Prelude.{IsErr}
use Rattle.std.proofs.lemmas.List.{map-append}
use Rattle.aeg_base.specs.declared.memory.Memory.{Memory}
use Rattle.aeg_base.specs.declared.names.End.{End}
use Rattle.log_model.specs.declared.turn.LogTurn.{LogTurn}
use Rattle.log_model.specs.Log.{LogState, Turn, open_at, told}
use Rattle.log_values.specs.declared.any_value.AnyValue.{AnyValue}
use Rattle.paxos_log.specs.TierLog.{NodeLog, with_state}
use Rattle.round_model.specs.Service.{Backend}
use Rattle.server_shim.specs.Ranges.{IsShimIn}
use Rattle.tier_model.specs.Moves.{Move, as_fact, log_answer, log_packets}
use Rattle.tier_model.specs.Back.{Back, in_log, new_value, value_state, value_tells}
use Rattle.node_log.specs.declared.decided.Decided.{Decided}
use Rattle.node_log.specs.declared.working.Working.{Working}
use Rattle.node_log.specs.LogNodes.{IsLogTurn, IsOwnLog, whole_turn}
use Rattle.node_log.specs.Packets.{sealed, all_sealed, StillHas}
use Rattle.node_log.specs.Settling.{CanRecord}
use Rattle.node_log.proofs.Turns.{turn_recorded, own_after}
use Rattle.node_log.specs.declared.member.Member.{Member}
use Rattle.backend_node.specs.declared.serving.Serving.{Serving}
use Rattle.backend_node.specs.Backends.{AllFit, answer_of, back_with, told_to_all}
use Rattle.backend_node.specs.Deciding.{DecidesMove, IsInRange, back_in}
use Rattle.backend_node.proofs.Values.{new_value_is, tells_are}

module _ {B : Type 0} (m : Member) (move : Move (Back B)) (old new : Working (Serving B)) (before after : List (End × List ℕ)) where
  -- memory ran out
  pub had_none : (decided : Result Decided Memory) → IsErr decided → StillHas before after → DecidesMove m move old new before after decided
  had_none (Ok d) e k = absurd cc
  had_none (Err x) e k = record { state = tt; facts = tt; answer = tt; packets = tt; kept = k; can = tt; journal = tt; range = tt }

  -- nothing is to be written down
  pub without_facts : (d : Decided) → d.facts.items ≡ [] → move.facts ≡ [] → d.answer ≡ move.answer → back_in new ≡ move.state
      → after ≡ before ++ all_sealed move.sends → new.journal ≡ old.journal → IsInRange m new → DecidesMove m move old new before after (Ok d)
  without_facts d none no_facts same state sent journal range = record {
    state = state;
    facts = none ∙ sym no_facts;
    answer = same;
    packets = sent;
    kept = (all_sealed move.sends, sent);
    can = subst CanRecord (sym none) (record { fit = tt; short = omega arith });
    journal = journal;
    range = range;
  }

-- one more part of the packets
pub kept_both : {A : Type 0} (a b c : List A) → StillHas a b → StillHas b c → StillHas a c
kept_both a b c k l = (k.0 ++ l.0, l.1 ∙ ap (λ z. z ++ l.0) k.1 ∙ append_assoc a k.0 l.0)

pub all_fit : (m : Member) (log : NodeLog AnyValue) → IsOwnLog m.faults m.me.tier m.me.index log → AllFit log.state
all_fit m log own = λ p v e. (own.range.learned p v e).0

module _ {B : Type 0} (b : Backend B) (m : Member) (old new : Working (Serving B)) (before : LogState AnyValue) (at : ℕ) (turn : LogTurn AnyValue)
    (answer : Option (ℕ × ℕ)) (out between after : List (End × List ℕ)) (d : Decided) where
  abbrev whole : Turn AnyValue
  whole = whole_turn old.log.state turn

  abbrev now : Back B
  now = back_with old.log.state old.rest

  abbrev value : Option AnyValue
  value = slice_get old.log.state.learned at

  -- what was told of the turn
  pub record Told : Type 0 where
    pub at_is : open_at before ≡ at
    pub facts : d.facts.items ≡ map as_fact turn.facts
    pub answer_is : d.answer ≡ log_answer turn.idle
    pub sent : between ≡ out ++ all_sealed (log_packets m.me.tier m.me.index turn.sends)
    pub log : new.log ≡ old.log
    pub journal : new.journal ≡ old.journal
    pub state : back_with old.log.state new.rest ≡ value_state b now value
    pub code : answer ≡ answer_of b now value
    pub answered : after ≡ between ++ all_sealed (told_to_all m.faults m.me.tier m.me.index answer)

  value_is : Told → new_value before old.log.state ≡ value
  value_is k = new_value_is before old.log.state ∙ ap (λ z. slice_get old.log.state.learned z) k.at_is

  tells : Told → told_to_all m.faults m.me.tier m.me.index answer ≡ value_tells m.faults b m.me.tier m.me.index now (new_value before old.log.state)
  tells k = ap (told_to_all m.faults m.me.tier m.me.index) k.code ∙ sym (tells_are m.faults b m.me.tier m.me.index now value)
      ∙ ap (λ o. value_tells m.faults b m.me.tier m.me.index now o) (sym (value_is k))

  packets : Told → after ≡ out ++ all_sealed (log_packets m.me.tier m.me.index turn.sends
      ++ value_tells m.faults b m.me.tier m.me.index now (new_value before old.log.state))
  packets k =
      let first = log_packets m.me.tier m.me.index turn.sends in
      k.answered ∙ ap (λ z. z ++ all_sealed (told_to_all m.faults m.me.tier m.me.index answer)) k.sent
      ∙ append_assoc out (all_sealed first) (all_sealed (told_to_all m.faults m.me.tier m.me.index answer))
      ∙ ap (λ z. out ++ (all_sealed first ++ all_sealed z)) (tells k)
      ∙ ap (λ z. out ++ z) (sym (map-append sealed first (value_tells m.faults b m.me.tier m.me.index now (new_value before old.log.state))))

  state_is : Told → back_in new ≡ value_state b now (new_value before old.log.state)
  state_is k = ap (λ (z : NodeLog AnyValue). back_with z.state new.rest) k.log ∙ k.state ∙ ap (λ o. value_state b now o) (sym (value_is k))

  -- a turn of the log, and what it learned
  pub taken : Told → IsLogTurn m.faults m.me.tier whole → IsInRange m old → IsShimIn m.faults new.rest.shim
      → DecidesMove m (in_log m.faults b m.me.tier m.me.index (back_with before old.rest) whole) old new out after (Ok d)
  taken k turned range shim = record {
    state = state_is k;
    facts = k.facts;
    answer = k.answer_is;
    packets = packets k;
    kept = (_, packets k);
    can = subst CanRecord (sym k.facts) (turn_recorded m.faults m.me.tier whole turned);
    journal = k.journal;
    range = record { log = subst (IsOwnLog m.faults m.me.tier m.me.index) (sym k.log) range.log; shim = shim };
  }

-- TURNS IN RANGE

-- the turn that the log told is the row's
whole_is : (log' log : NodeLog AnyValue) (row : Turn AnyValue) (turn : LogTurn AnyValue) → log' ≡ with_state log row.state → turn ≡ told row
    → whole_turn log'.state turn ≡ row
whole_is log' log row turn e f = ap (λ (z : NodeLog AnyValue). whole_turn z.state turn) e ∙ ap (λ z. whole_turn row.state z) f

pub turned : (m : Member) (log' log : NodeLog AnyValue) (row : Turn AnyValue) (turn : LogTurn AnyValue) → log' ≡ with_state log row.state → turn ≡ told row
    → IsLogTurn m.faults m.me.tier row → IsLogTurn m.faults m.me.tier (whole_turn log'.state turn)
turned m log' log row turn e f k = subst (IsLogTurn m.faults m.me.tier) (sym (whole_is log' log row turn e f)) k

pub turned_range : {B : Type 0} (m : Member) (old : Working (Serving B)) (log' : NodeLog AnyValue) (row : Turn AnyValue) → IsInRange m old
    → log' ≡ with_state old.log row.state → IsLogTurn m.faults m.me.tier row
    → IsInRange m (record { log = log'; journal = old.journal; rest = old.rest })
turned_range m old log' row range e k = record {
  log = subst (IsOwnLog m.faults m.me.tier m.me.index) (sym e) (own_after m.faults m.me.tier m.me.index old.log row range.log k);
  shim = range.shim;
}
