-- The turns of a middle node's log.
use Rattle.std.proofs.Common.{◌≡◌, ℕ, ◌+◌, ◌*◌, ◌<◌, ◌≤◌, Bool, true, false, cond, List, [], ◌∷◌, ◌++◌, length, map, sym, ap, ◌∙◌, subst, arith}
use Rattle.std.proofs.Common.{append_assoc, Option, Some, None, Result, Ok, Err}
use Rattle.std.specs.Prelude.{◌==◌, ◌&&◌, nat_lt, OnOk}
use Rattle.std.specs.List.{flat_map}
use Rattle.std.specs.declared.alloc.Global.{Global}
use Rattle.std.specs.declared.vec.Vec.{Vec}
use Rattle.std.proofs.lemmas.Bool.{and_parts}
use Rattle.std.proofs.lemmas.List.{map-append}
use Rattle.std.proofs.lemmas.Option.{same_Some}
use Rattle.aeg_base.specs.declared.memory.Memory.{Memory}
use Rattle.aeg_base.specs.declared.names.End.{End}
use Rattle.aeg_base.specs.declared.names.End.TheVariants.{Node, Client}
use Rattle.aeg_base.specs.declared.names.Tier.{Tier}
use Rattle.aeg_base.specs.declared.names.Tier.TheVariants as tiers
use Rattle.server_model.specs.Server.{same_tier}
use Rattle.server_model.proofs.Tiers.{tier_eq}
use Rattle.applied_rounds.specs.declared.told.Told.{Told}
use Rattle.applied_rounds.specs.Told.{tolds}
use Rattle.log_model.specs.declared.fact.Fact.{Fact as LogFact}
use Rattle.log_model.specs.declared.fact.Fact.TheVariants as logs
use Rattle.log_model.specs.declared.message.PaxMsg.{PaxMsg}
use Rattle.log_model.specs.declared.turn.LogTurn.{LogTurn}
use Rattle.log_model.specs.Log.{LogState, Turn, open_at, told}
use Rattle.log_model.specs.Ranges.{IsOwnIn}
use Rattle.log_model.specs.Rows.{on_msg, lead, offer}
use Rattle.log_values.specs.declared.any_value.AnyValue.{AnyValue}
use Rattle.frames.specs.declared.message.Msg.TheVariants.{Log}
use Rattle.frames.specs.Frames.{FitsFrame}
use Rattle.frames.specs.LogMessages.{IsCarried, FitsLog}
use Rattle.paxos_log.specs.TierLog.{NodeLog, with_state}
use Rattle.round_model.specs.Service.{Programs}
use Rattle.row_laws.specs.Mids.{IsMidIn}
use Rattle.row_laws.proofs.FewMessages.{IsFew, IsWritten, lead_few, msg_few, offer_few}
use Rattle.row_laws.proofs.MidMoves.{own_in}
use Rattle.tier_model.specs.Moves.{Move, as_fact, is_node_of, log_answer, log_packets}
use Rattle.tier_model.specs.Mid.{Mid, Ready, apply_sends, apply_state, due_round, in_log, ready}
use Rattle.tier_model.specs.MidRows.{own_value}
use Rattle.node_log.specs.declared.decided.Decided.{Decided}
use Rattle.node_log.specs.declared.member.Member.{Member}
use Rattle.node_log.specs.declared.working.Working.{Working}
use Rattle.node_log.specs.LogNodes.{IsLogTurn, IsOwnLog, whole_turn}
use Rattle.node_log.specs.Packets.{sealed, all_sealed}
use Rattle.node_log.specs.Settling.{CanRecord}
use Rattle.node_log.proofs.Turns.{lead_turn, message_turn, offer_turn, own_after, turn_recorded}
use Rattle.mid_rounds.specs.declared.keeping.Keeping.{Keeping}
use Rattle.mid_rounds.specs.Deciding.{DecidesMove, IsInRange, IsMember, mid_in}
use Rattle.mid_rounds.specs.Mids.{mid_with}
use Rattle.mid_rounds.specs.declared.applying.Settling.{Settling}
use Rattle.mid_rounds.specs.declared.applying.Settling.TheVariants.{Applied}
use Rattle.mid_rounds.specs.Settlings.{tells_of, told_by}
use Rattle.mid_rounds.proofs.DecidedMoves.{sealed_of, tolds_sealed}
use Rattle.mid_rounds.proofs.Services.{service_by}

-- the round that was applied
pub told_is : (settling : Settling) (told : Vec Told Global) (σ : Mid) (o : Option Ready) → settling ≡ Applied told → told_by settling ≡ tells_of σ o
    → Some told.items ≡ tells_of σ o
told_is settling told σ o e f = sym (ap told_by e) ∙ f

-- what is told of a round is sent
pub told_sent : (u x : ℕ) (σ : Mid) (o : Option Ready) (told sent : List Told) (before after : List (End × List ℕ)) (result : Result (Unit {0}) Memory)
    → sent ≡ told → Some told ≡ tells_of σ o → OnOk result (after ≡ before ++ flat_map (sealed_of u x) sent)
    → OnOk result (after ≡ before ++ all_sealed (apply_sends u x σ o))
told_sent u x σ None told sent before after result is e s = absurd cc
told_sent u x σ (Some R) told sent before after (Ok y) is e s =
    s ∙ ap (λ (z : List Told). before ++ flat_map (sealed_of u x) z) (is ∙ same_Some told (tolds σ.tables.next R.wants R.finish.ends) e)
    ∙ ap (λ (z : List (End × List ℕ)). before ++ z) (tolds_sealed u x σ.tables.next R.wants R.finish.ends)
told_sent u x σ (Some R) told sent before after (Err y) is e s = tt

module _ (p : Programs) (m : Member) (old new : Working Keeping) (before : LogState AnyValue) (at : ℕ) (turn : LogTurn AnyValue)
    (out between after : List (End × List ℕ)) (d : Decided) where
  abbrev u : ℕ
  u = m.faults

  abbrev x : ℕ
  x = m.me.index

  -- before the turn, and after it
  abbrev was : Mid
  was = mid_with x before old.rest

  abbrev now : Mid
  now = mid_in m old

  abbrev row : Turn AnyValue
  row = whole_turn old.log.state turn

  abbrev test : Bool
  test = nat_lt at (length old.log.state.learned) && (length old.log.state.learned == 2 * old.rest.rounds.applied + 2)

  -- what was told of the turn
  pub record IsTold : Type 0 where
    pub at_is : open_at before ≡ at
    pub tier : m.me.tier ≡ tiers.Mid
    pub facts : d.facts.items ≡ map as_fact turn.facts
    pub answer_is : d.answer ≡ log_answer turn.idle
    pub sent : between ≡ out ++ all_sealed (log_packets m.me.tier x turn.sends)
    pub turned : IsLogTurn u m.me.tier row

  -- and of the round that was applied then, if one was
  pub record IsMade (round : Option Ready) : Type 0 where
    pub state : mid_in m new ≡ apply_state now round
    pub sent : after ≡ between ++ all_sealed (apply_sends u x now round)
    pub journal : new.journal ≡ old.journal
    pub range : IsInRange p m new

  due_is : open_at before ≡ at → (due : Bool) → due ≡ test → due_round p was old.log.state ≡ cond {A = Option Ready} due (ready p now) None
  due_is e due is = ap (λ (n : ℕ). cond {A = Option Ready} (nat_lt n (length old.log.state.learned)
      && (length old.log.state.learned == 2 * old.rest.rounds.applied + 2)) (ready p now) None) e
      ∙ ap (λ (b : Bool). cond {A = Option Ready} b (ready p now) None) (sym is)

  packets : (round : Option Ready) → IsTold → IsMade round → after ≡ out ++ all_sealed (log_packets tiers.Mid x turn.sends ++ apply_sends u x now round)
  packets round k made =
      let first = log_packets tiers.Mid x turn.sends in
      let more = apply_sends u x now round in
      made.sent
      ∙ ap (λ (z : List (End × List ℕ)). z ++ all_sealed more) (k.sent ∙ ap (λ (t : Tier). out ++ all_sealed (log_packets t x turn.sends)) k.tier)
      ∙ append_assoc out (all_sealed first) (all_sealed more)
      ∙ ap (λ (z : List (End × List ℕ)). out ++ z) (sym (map-append sealed first more))

  decides : (round : Option Ready) → due_round p was old.log.state ≡ round → IsTold → IsMade round
      → DecidesMove p m (in_log u p x was row) old new out after (Ok d)
  decides round e k made =
      let sent = packets round k made ∙ ap (λ (z : Option Ready). out ++ all_sealed (log_packets tiers.Mid x turn.sends ++ apply_sends u x now z)) (sym e) in
      record {
        state = made.state ∙ ap (λ (z : Option Ready). apply_state now z) (sym e);
        facts = k.facts;
        answer = k.answer_is;
        packets = sent;
        kept = (_, sent);
        can = subst CanRecord (sym k.facts) (turn_recorded u m.me.tier row k.turned);
        journal = made.journal;
        range = made.range;
      }

  -- a round was due, and was applied if it could be
  pub applied : (due : Bool) → due ≡ true → due ≡ test → IsTold → IsMade (ready p now) → DecidesMove p m (in_log u p x was row) old new out after (Ok d)
  applied due so is k made =
      decides (ready p now) (due_is k.at_is due is ∙ ap (λ (b : Bool). cond {A = Option Ready} b (ready p now) None) so) k made

  -- none was, and nothing changed
  pub undue : (due : Bool) → due ≡ false → due ≡ test → IsTold → IsMade None → DecidesMove p m (in_log u p x was row) old new out after (Ok d)
  undue due so is k made = decides None (due_is k.at_is due is ∙ ap (λ (b : Bool). cond {A = Option Ready} b (ready p now) None) so) k made

-- the move that led to what stands now
pub moved_to : (p : Programs) (m : Member) (move : Move Mid) (old made new : Working Keeping) (before sent after : List (End × List ℕ))
    (decided : Result Decided Memory) → new ≡ made → after ≡ sent → DecidesMove p m move old made before sent decided
    → DecidesMove p m move old new before after decided
moved_to p m move old made new before sent after decided e f k =
    subst (λ (z : Working Keeping). DecidesMove p m move old z before after decided) (sym e)
    (subst (λ (z : List (End × List ℕ)). DecidesMove p m move old made before z decided) (sym f) k)

-- TURNS IN RANGE

-- a turn of the node's own log, which writes at most one fact
pub record IsTurnOf (m : Member) (log : NodeLog AnyValue) (row : Turn AnyValue) : Type 0 where
  pub turn : IsLogTurn m.faults m.me.tier row
  pub few : IsFew m.faults log.state row

-- a turn never forgets what was learned
written_more : (first next : ℕ) (fs : List (LogFact AnyValue)) → IsWritten first next fs → first ≤ next
written_more first next [] w = omega (arith, w)
written_more first next (logs.Promised b ∷ []) w = omega (arith, w)
written_more first next (logs.Accepted p b v ∷ []) w = omega (arith, w)
written_more first next (logs.Learned p v ∷ []) w = omega (arith, w.1)
written_more first next (logs.Promised b ∷ g ∷ fs) w = absurd w
written_more first next (logs.Accepted p b v ∷ g ∷ fs) w = absurd w
written_more first next (logs.Learned p v ∷ g ∷ fs) w = absurd w

-- the turn that the log told is the row's
whole_is : (log' log : NodeLog AnyValue) (row : Turn AnyValue) (turn : LogTurn AnyValue) → log' ≡ with_state log row.state → turn ≡ told row
    → whole_turn log'.state turn ≡ row
whole_is log' log row turn e f = ap (λ (z : NodeLog AnyValue). whole_turn z.state turn) e ∙ ap (λ z. whole_turn row.state z) f

pub turned : (m : Member) (log' log : NodeLog AnyValue) (row : Turn AnyValue) (turn : LogTurn AnyValue) → log' ≡ with_state log row.state → turn ≡ told row
    → IsTurnOf m log row → IsLogTurn m.faults m.me.tier (whole_turn log'.state turn)
turned m log' log row turn e f k = subst (IsLogTurn m.faults m.me.tier) (sym (whole_is log' log row turn e f)) k.turn

pub turned_range : (p : Programs) (m : Member) (old : Working Keeping) (log' : NodeLog AnyValue) (row : Turn AnyValue) → IsMember m → IsInRange p m old
    → log' ≡ with_state old.log row.state → IsTurnOf m old.log row → IsInRange p m (record { log = log'; journal = old.journal; rest = old.rest })
turned_range p m old log' row member range e k =
    let turn : IsLogTurn m.faults tiers.Mid row = subst (λ (t : Tier). IsLogTurn m.faults t row) member.tier k.turn in
    let σ : IsMidIn p m.faults range.kept.depth m.me.index (mid_in m old) = range.kept.state in
    subst (λ (z : NodeLog AnyValue). IsInRange p m (record { log = z; journal = old.journal; rest = old.rest })) (sym e) (record {
      log = own_after m.faults tiers.Mid m.me.index old.log row range.log turn;
      kept = record {
        depth = range.kept.depth;
        state = record {
          log = turn.range.state;
          applied = omega (arith, σ.applied, written_more (open_at old.log.state) (open_at row.state) row.facts k.few.written);
          tables = σ.tables;
          pending = σ.pending;
          tally = σ.tally;
          spec = σ.spec;
          held = σ.held;
        };
        tallies = range.kept.tallies;
      };
    })

-- a message of the log from a node of the tier
pub log_fits : (u : ℕ) (t : Tier) (from : End) (p : PaxMsg AnyValue) → is_node_of u t from ≡ true → FitsFrame from (Log p) → FitsLog t p
log_fits u t (Client c) p e f = absurd cc
log_fits u t (Node n) p e f = subst (λ z. FitsLog z p) (tier_eq n.tier t (and_parts (same_tier n.tier t) (nat_lt n.index (2 * u + 1)) e).0) f.message

of_tier_mid : (m : Member) (row : Turn AnyValue) → IsMember m → IsLogTurn m.faults tiers.Mid row → IsLogTurn m.faults m.me.tier row
of_tier_mid m row member k = subst (λ (t : Tier). IsLogTurn m.faults t row) (sym member.tier) k

pub received : (m : Member) (log : NodeLog AnyValue) (s : ℕ) (p : PaxMsg AnyValue) → IsMember m → IsOwnLog m.faults tiers.Mid m.me.index log
    → s < 2 * m.faults + 1 → FitsLog tiers.Mid p → IsTurnOf m log (on_msg log.faults log.state s p)
received m log s p member own below fits = subst (λ (z : ℕ). IsTurnOf m log (on_msg z log.state s p)) (sym own.faults) (record {
  turn = of_tier_mid m (on_msg m.faults log.state s p) member (message_turn m.faults tiers.Mid s log.state p below own.range fits);
  few = msg_few m.faults log.state s p;
})

pub leading : (m : Member) (log : NodeLog AnyValue) → IsMember m → IsOwnLog m.faults tiers.Mid m.me.index log
    → IsTurnOf m log (lead log.faults log.me log.state)
leading m log member own =
    subst (λ (z : ℕ). IsTurnOf m log (lead z log.me log.state)) (sym own.faults)
    (subst (λ (z : ℕ). IsTurnOf m log (lead m.faults z log.state)) (sym own.me) (record {
      turn = of_tier_mid m (lead m.faults m.me.index log.state) member
          (lead_turn m.faults tiers.Mid m.me.index log.state (omega (arith, member.few, member.node)) own.range);
      few = lead_few m.faults m.me.index log.state;
    }))

-- OFFERS

pub offering : (p : Programs) (m : Member) (w : Working Keeping) (own : Option AnyValue) → IsMember m → IsInRange p m w
    → own ≡ own_value m.faults p (mid_in m w) → IsTurnOf m w.log (offer w.log.faults w.log.me w.log.state own)
offering p m w own member range e =
    let stands = own_in (service_by p) m.faults range.kept.depth m.me.index (mid_in m w) range.kept.state in
    subst (λ (z : ℕ). IsTurnOf m w.log (offer z w.log.me w.log.state own)) (sym range.log.faults)
    (subst (λ (z : ℕ). IsTurnOf m w.log (offer m.faults z w.log.state own)) (sym range.log.me) (record {
      turn = of_tier_mid m (offer m.faults m.me.index w.log.state own) member
          (offer_turn m.faults tiers.Mid m.me.index w.log.state own range.log.range
          (subst (IsOwnIn (IsCarried tiers.Mid) (open_at w.log.state)) (sym e) stands));
      few = offer_few m.faults m.me.index w.log.state own;
    }))
