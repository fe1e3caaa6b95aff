-- What a middle node does in an event is right by itself.
use Rattle.std.proofs.Common.{◌≡◌, ℕ, ◌+◌, ◌*◌, ◌<◌, Bool, true, false, cond, List, [], ◌∷◌, ◌++◌, length, map, refl}
use Rattle.std.proofs.Common.{sym, ap, ◌∙◌, subst, inl, inr, Option, Some, None}
use Rattle.std.specs.Prelude.{slice_get, ◌⊎◌}
use Rattle.std.proofs.lemmas.List.{append-nil, append_assoc}
use Rattle.aeg_base.specs.declared.names.Ballot.{Ballot}
use Rattle.aeg_base.specs.declared.names.Tier.{Tier}
use Rattle.log_model.proofs.Basics.{Every, every-append}
use Rattle.log_model.proofs.History.{DidVote}
use Rattle.log_model.proofs.Invariant.{History, StateOk, TurnOk}
use Rattle.log_model.proofs.Origin.{Origins, Stood}
use Rattle.log_model.proofs.Rows.{Known as Knows, idle_ok}
use Rattle.log_model.specs.Log.{LogState, Turn, idles, nobody}
use Rattle.log_model.specs.Recover.{onto}
use Rattle.log_model.specs.World.{packets_of}
use Rattle.log_model.specs.declared.fact.Fact.{Fact as LogFact}
use Rattle.log_values.specs.declared.fact.Fact.{Fact}
use Rattle.log_values.specs.declared.fact.Fact.TheVariants.{Held}
use Rattle.log_values.specs.declared.any_value.AnyValue.{AnyValue}
use Rattle.tier_laws.proofs.MidNodes.CodesOfFacts.{Code, helds}
use Rattle.server_model.specs.Server.{same_tier}
use Rattle.tier_laws.proofs.Lists.ItemsByIndex.{tier_sym}
use Rattle.round_model.specs.Lists.{OfTiers, of_tier}
use Rattle.round_model.specs.Service.{Service}
use Rattle.round_model.specs.Tables.{Want, bump}
use Rattle.round_model.specs.Verdicts.{Vote}
use Rattle.run_model.specs.World.{Config}
use Rattle.svc_api.specs.declared.action.Ending.{Ending}
use Rattle.svc_api.specs.declared.action.Ending.TheVariants.{Call, Reply}
use Rattle.tier_laws.proofs.Rounds.DecidedRounds.{apply_ok}
use Rattle.tier_laws.proofs.Events.OneTiersLog.{Complete, state_more}
use Rattle.tier_laws.proofs.Events.GrowingPast.{DidRun, Grows, Known, MidOk, MidOther, SentOk, Past, RunOk, other-more}
use Rattle.tier_laws.proofs.Rounds.StableRounds.{MoreLog}
use Rattle.tier_model.specs.Mid.{reply_to, call_to, Mid, Ready, apply_sends, apply_state, calls_to, due_round, in_log, is_due, ready, tells, with_log}
use Rattle.aeg_base.specs.declared.names.Tier.TheVariants.{Mid as MidTier}
use Rattle.log_model.specs.declared.fact.Fact.TheVariants as logs
use Rattle.log_model.specs.declared.turn.LogIdle.TheVariants.{Nothing}
use Rattle.log_values.specs.declared.fact.Fact.TheVariants.{Promised, Accepted, Learned}
use Rattle.tier_model.specs.declared.turn.Turn.{Turn as Answer}
use Rattle.tier_laws.specs.Said.{Laws}
use Rattle.tier_laws.proofs.Events.LogPackets.{NoLog, no_log, none_nil, none_append, none_each, log_soup-own, log_soup-other, every-log}
use Rattle.run_model.specs.Runs.{log_soup}
use Rattle.run_model.proofs.Soups.{log_soup-append}
use Rattle.tier_model.specs.Moves.{as_fact, log_packets, Move, Packet, held_in, log_facts}

-- THE FACTS OF A LOG

pub log_facts-map : (fs : List (LogFact AnyValue)) → log_facts (map as_fact fs) ≡ fs
log_facts-map [] = refl
log_facts-map (logs.Promised b ∷ fs) = ap (λ z. logs.Promised b ∷ z) (log_facts-map fs)
log_facts-map (logs.Accepted p b v ∷ fs) = ap (λ z. logs.Accepted p b v ∷ z) (log_facts-map fs)
log_facts-map (logs.Learned p v ∷ fs) = ap (λ z. logs.Learned p v ∷ z) (log_facts-map fs)

pub helds-map : (fs : List (LogFact AnyValue)) → helds (map as_fact fs) ≡ []
helds-map [] = refl
helds-map (logs.Promised b ∷ fs) = helds-map fs
helds-map (logs.Accepted p b v ∷ fs) = helds-map fs
helds-map (logs.Learned p v ∷ fs) = helds-map fs

-- PACKETS BESIDE THE LOGS

pub none_tells : (u x : ℕ) (next : OfTiers ℕ) (ws : List Want) (es : List Ending) → NoLog (tells u x next ws es)
none_tells u x next [] es = none_nil
none_tells u x next (w ∷ ws) [] = none_nil
none_tells u x next (w ∷ ws) (Reply text ∷ es) = none_append (reply_to x w.client w.seq text ∷ [])
    (tells u x next ws es) (record { all = λ t. refl }) (none_tells u x next ws es)
none_tells u x next (w ∷ ws) (Call t stage text ∷ es) = none_append (calls_to u x t (of_tier next t) text) (tells u x (bump next t) ws es)
    (none_each (2 * u + 1) nobody (call_to x t (of_tier next t) text) (λ y. record { all = λ v. refl })) (none_tells u x (bump next t) ws es)

pub none_apply : (u x : ℕ) (σ : Mid) (o : Option Ready) → NoLog (apply_sends u x σ o)
none_apply u x σ None = none_nil
none_apply u x σ (Some R) = none_tells u x σ.tables.next R.wants R.finish.ends

-- A MOVE

pub record Later {B : Type 0} (c : Config B) (Q : Past B) (x : ℕ) (v : Move Mid) : Type 0 where
  pub other : MidOther c Q x v.state
  pub sends : Every (SentOk c Q) v.sends

pub record MoveOk {B : Type 0} (c : Config B) (P : Past B) (h : ℕ → List (LogFact AnyValue)) (soup : List Packet)
    (x : ℕ) (rs : List Vote) (v : Move Mid) : Type 0 where
  pub turn : Turn AnyValue
  pub turn_ok : TurnOk c.u h (log_soup MidTier soup) x turn
  pub good : (p : ℕ) (b : Ballot) (w : AnyValue) → DidVote (onto turn.facts (h x)) p b w → MidOk c P p w
  pub is_facts : log_facts v.facts ≡ turn.facts
  pub is_sends : log_soup MidTier v.sends ≡ packets_of x turn.sends
  pub is_log : v.state.log ≡ turn.state
  pub others : (t : Tier) → same_tier t MidTier ≡ false → log_soup t v.sends ≡ []
  pub codes : (i : ℕ) (k : Code) → slice_get (helds v.facts) i ≡ Some k → P.server.served k.tier k.num ≡ Some k.code
  pub runs : (i : ℕ) (r : Vote) → slice_get rs i ≡ Some r → RunOk c P r
  pub later : (Q : Past B) → Grows P Q → Known c Q → Q.codes MidTier x ≡ P.codes MidTier x ++ helds v.facts
      → ((i : ℕ) (r : Vote) → slice_get rs i ≡ Some r → DidRun Q r) → Later c Q x v

-- what is known where x is up with the state σ
pub record Here {B : Type 0} (c : Config B) (P : Past B) (h : ℕ → List (LogFact AnyValue)) (soup : List Packet) (x : ℕ) (σ : Mid) : Type 0 where
  pub few : c.u < 128
  pub inside : x < 2 * c.u + 1
  pub laws : Laws c.service.programs
  pub history : History c.u h (log_soup MidTier soup)
  pub log : StateOk c.u h (h x) (log_soup MidTier soup) x σ.log
  pub good : (y : ℕ) → y < 2 * c.u + 1 → (p : ℕ) (b : Ballot) (v : AnyValue) → DidVote (h y) p b v → MidOk c P p v
  pub complete : Complete c.u (log_soup MidTier soup) P.log
  pub other : MidOther c P x σ
  pub known : Known c P

pub knows : {B : Type 0} (c : Config B) (P : Past B) (h : ℕ → List (LogFact AnyValue)) (soup : List Packet) (x : ℕ)
    (σ : Mid) → Here c P h soup x σ → Knows c.u h (log_soup MidTier soup) x σ.log
knows c P h soup x σ k = record { few = k.few; inside = k.inside; history = k.history; state = k.log }

pub prefix : {B : Type 0} (c : Config B) (P : Past B) (h : ℕ → List (LogFact AnyValue)) (soup : List Packet) (x : ℕ)
    (σ : Mid) → Here c P h soup x σ → MoreLog σ.log.learned P.log
prefix c P h soup x σ k = record { at = λ p v e. k.complete.at p v (k.history.learned x k.inside p v (rw (← k.log.learned) e)) }

-- a move beside the log
pub plain : {B : Type 0} (c : Config B) (P : Past B) (h : ℕ → List (LogFact AnyValue)) (soup : List Packet) (x : ℕ)
    (σ : Mid) (rs : List Vote) (v : Move Mid) → Here c P h soup x σ → v.state.log ≡ σ.log → log_facts v.facts ≡ [] → NoLog v.sends
    → ((i : ℕ) (k : Code) → slice_get (helds v.facts) i ≡ Some k → P.server.served k.tier k.num ≡ Some k.code)
    → ((i : ℕ) (r : Vote) → slice_get rs i ≡ Some r → RunOk c P r)
    → ((Q : Past B) → Grows P Q → Known c Q → Q.codes MidTier x ≡ P.codes MidTier x ++ helds v.facts
    → ((i : ℕ) (r : Vote) → slice_get rs i ≡ Some r → DidRun Q r) → Later c Q x v) → MoveOk c P h soup x rs v
plain c P h soup x σ rs v k l f n codes runs later = record {
  turn = idles σ.log Nothing;
  turn_ok = idle_ok c.u h (log_soup MidTier soup) x σ.log Nothing (knows c P h soup x σ k);
  good = λ p b w d. k.good x k.inside p b w d;
  is_facts = f;
  is_sends = no_log v.sends n MidTier;
  is_log = l;
  others = λ t e. no_log v.sends n t;
  codes = codes;
  runs = runs;
  later = later;
}

-- nothing is written or run
pub quiet : {B : Type 0} {a : Answer} (c : Config B) (P : Past B) (h : ℕ → List (LogFact AnyValue)) (soup : List Packet)
    (x : ℕ) (σ τ : Mid) (ks : List Packet) → Here c P h soup x σ → τ.log ≡ σ.log → NoLog ks
    → ((Q : Past B) → Grows P Q → MidOther c Q x σ → MidOther c Q x τ × Every (SentOk c Q) ks)
    → MoveOk c P h soup x [] (record { state = τ; facts = []; sends = ks; answer = a })
quiet {B} {a} c P h soup x σ τ ks k l n later = plain c P h soup x σ []
    (record { state = τ; facts = []; sends = ks; answer = a }) k l refl n (λ i k e. absurd (cc)) (λ i r e. absurd (cc))
    (λ Q g kn e rs. let r = later Q g (other-more c P Q x σ g (e ∙ append-nil (P.codes MidTier x)) k.other) in record { other = r.0; sends = r.1 })

pub stays_ok : {B : Type 0} {a : Answer} (c : Config B) (P : Past B) (h : ℕ → List (LogFact AnyValue))
    (soup : List Packet) (x : ℕ) (σ : Mid) → Here c P h soup x σ
    → MoveOk c P h soup x [] (record { state = σ; facts = []; sends = []; answer = a })
stays_ok c P h soup x σ k = quiet c P h soup x σ σ [] k refl none_nil (λ Q g o. (o, tt))

-- A TURN OF THE LOG

pub state_log : (σ : Mid) (o : Option Ready) → (apply_state σ o).log ≡ σ.log
state_log σ None = refl
state_log σ (Some R) = refl

-- the round that is ready is applied
pub ready_later : {B : Type 0} (c : Config B) (Q : Past B) (x : ℕ) (σ : Mid) (o : Option Ready) → Known c Q
    → MidOther c Q x σ → MoreLog σ.log.learned Q.log → ((R : Ready) → o ≡ Some R → ready c.service.programs σ ≡ Some R)
    → MidOther c Q x (apply_state σ o) × Every (SentOk c Q) (apply_sends c.u x σ o)
ready_later c Q x σ None k o pre f = (o, tt)
ready_later c Q x σ (Some R) k o pre f = apply_ok c Q x σ R k o pre (f R refl)

due_ready : {B : Type 0} (m : Service B) (σ : Mid) (s : LogState AnyValue) (R : Ready)
    → due_round m.programs σ s ≡ Some R → ready m.programs (with_log σ s) ≡ Some R
due_ready m σ s R e = go (is_due σ s) e
  where
    go : (b : Bool) → cond b (ready m.programs (with_log σ s)) None ≡ Some R → ready m.programs (with_log σ s) ≡ Some R
    go true f = f
    go false f = absurd (cc)

log_other : {B : Type 0} (c : Config B) (Q : Past B) (x : ℕ) (σ : Mid) (s : LogState AnyValue) → MidOther c Q x σ → MidOther c Q x (with_log σ s)
log_other c Q x σ s o = record {
  is_after = o.is_after;
  tables = o.tables;
  pending = o.pending;
  tally = o.tally;
  in_order = o.in_order;
  spec = o.spec;
  held = o.held;
}

pub log_move : {B : Type 0} (c : Config B) (P : Past B) (h : ℕ → List (LogFact AnyValue)) (soup : List Packet) (x : ℕ)
    (σ : Mid) (t : Turn AnyValue) (own : Option AnyValue) → Here c P h soup x σ
    → TurnOk c.u h (log_soup MidTier soup) x t → Origins c.u h x own t
    → ((v : AnyValue) → own ≡ Some v → MidOk c P (length t.state.learned) v) → MoveOk c P h soup x [] (in_log c.u c.service.programs x σ t)
log_move {B} c P h soup x σ t own k ok from fine = record {
  turn = t;
  turn_ok = ok;
  good = λ p b w d. good p w (from.from p b w d);
  is_facts = log_facts-map t.facts;
  is_sends = log_soup-append MidTier (log_packets MidTier x t.sends)
      (apply_sends c.u x (with_log σ t.state) (due_round c.service.programs σ t.state))
      ∙ ap (λ z. log_soup MidTier (log_packets MidTier x t.sends) ++ z)
      (no_log _ (none_apply c.u x (with_log σ t.state) (due_round c.service.programs σ t.state)) MidTier)
      ∙ append-nil (log_soup MidTier (log_packets MidTier x t.sends)) ∙ log_soup-own MidTier x t.sends;
  is_log = state_log (with_log σ t.state) (due_round c.service.programs σ t.state);
  others = λ v e. log_soup-append v (log_packets MidTier x t.sends)
      (apply_sends c.u x (with_log σ t.state) (due_round c.service.programs σ t.state))
      ∙ ap (λ z. z ++ log_soup v (apply_sends c.u x (with_log σ t.state) (due_round c.service.programs σ t.state)))
      (log_soup-other v MidTier x t.sends (tier_sym v MidTier e))
      ∙ no_log _ (none_apply c.u x (with_log σ t.state) (due_round c.service.programs σ t.state)) v;
  codes = λ i q e. absurd (let f : slice_get [] i ≡ Some q = subst (λ z. slice_get z i ≡ Some q) (helds-map t.facts) e in cc);
  runs = λ i r e. absurd (cc);
  later = λ Q g kn e rs.
      let o : MidOther c Q x σ = other-more c P Q x σ g (e ∙ ap (λ z. P.codes MidTier x ++ z) (helds-map t.facts) ∙ append-nil (P.codes MidTier x)) k.other in
      let r = ready_later c Q x (with_log σ t.state) (due_round c.service.programs σ t.state) kn
      (log_other c Q x σ t.state o)
      (record {
        at = λ p v f. g.log.at p v
            ((state_more c.u h (log_soup MidTier soup) P.log x t ok k.complete).at p v f);
      })
      (λ R f. due_ready c.service σ t.state R f) in
      record { other = r.0; sends = every-append (SentOk c Q) (log_packets MidTier x t.sends) _ (every-log c Q MidTier x t.sends) r.1 };
}
  where
    good : (p : ℕ) (w : AnyValue) → Stood c.u h p w ⊎ ((own ≡ Some w) × (p ≡ length t.state.learned)) → MidOk c P p w
    good p w (inl s) = k.good s.0 s.2 p s.1 w s.3
    good p w (inr s) = subst (λ z. MidOk c P z w) (sym s.1) (fine w s.0)
