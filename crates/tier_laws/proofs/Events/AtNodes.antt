-- Each event at a node, of whatever tier, keeps the invariant, but for the growth of the logs.
use Rattle.std.proofs.Common.{◌≡◌, ℕ, ◌+◌, ◌*◌, ◌<◌, true, false, List, [], ◌++◌, refl, sym, ap, ◌∙◌, subst, inl, inr, Option, Some}
use Rattle.std.specs.Prelude.{slice_get, nat_lt, ◌⊎◌, ◌==◌}
use Rattle.std.proofs.lemmas.Bool.{both_ways, cond_both, ltb-true}
use Rattle.std.proofs.lemmas.List.{append-nil}
use Rattle.aeg_base.specs.declared.names.Ballot.{Ballot}
use Rattle.aeg_base.specs.declared.names.Tier.{Tier}
use Rattle.aeg_base.specs.declared.names.Tier.TheVariants.{Mid as MidTier, Inv as InvTier, Pay as PayTier}
use Rattle.server_model.specs.Server.{same_tier}
use Rattle.log_model.proofs.Basics.{Every, every-append}
use Rattle.log_model.proofs.History.{DidVote}
use Rattle.log_model.proofs.Invariant.{StateOk, TurnOk, all_same}
use Rattle.log_model.proofs.Step.{put_each, put_other, put_same, restored, wrote}
use Rattle.log_model.specs.Log.{LogState, Turn}
use Rattle.log_model.specs.Nodes.{Device, Mode, Node, put, recorded, stands, moved, sent, crashed, restarted, up_from, or_written}
use Rattle.log_model.specs.Nodes.Mode.{Down, Gone, Up}
use Rattle.log_model.specs.Recover.{learned_in, newest, onto, recover}
use Rattle.log_model.specs.World.{packets_of}
use Rattle.log_model.specs.declared.fact.Fact.{Fact as LogFact}
use Rattle.log_values.specs.declared.any_value.AnyValue.{AnyValue}
use Rattle.log_values.specs.declared.fact.Fact.{Fact}
use Rattle.round_model.specs.Lists.{is_some}
use Rattle.round_model.specs.Verdicts.{Vote}
use Rattle.run_model.proofs.Soups.{log_soup-append}
use Rattle.run_model.specs.Runs.{log_soup}
use Rattle.run_model.specs.World.{Config, World, Nodes, Fate, put_tier, put_nodes, with_node, node_up, at_node, placed}
use Rattle.tier_laws.proofs.MidNodes.CodesOfFacts.{Code, code_of, code_of-more, codes_in, helds}
use Rattle.tier_laws.proofs.Events.OneNodeChanges.{AllCodes, AllFacts, Beside, Core, Inv, Mid_event, NodeOk, Pending, UpOk, known_now}
use Rattle.tier_laws.proofs.Events.OneNodeChanges.{node-more, past, same_log, soup_log, unchanged}
use Rattle.tier_laws.proofs.Lists.ItemsByIndex.{by_tier, tier_cases, get_left, get_right, joined, tier_here, tier_there}
use Rattle.tier_laws.proofs.Events.OneTiersLog.{LogPart, LogStep, Nearly, log_weaker, learned_more, meets_good, nearly, quiet_step}
use Rattle.tier_laws.proofs.Events.OneTiersLog.{turn_more, turn_state_at, turn_step, write_step}
use Rattle.tier_laws.proofs.Server.LookUps.{server}
use Rattle.tier_laws.proofs.Events.StepsOfNodes.{crash_ok, moved_ok, newest_held, newest_log, or_written_ok, restart_ok}
use Rattle.tier_laws.proofs.Events.GrowingPast.{DidRun, Grows, Known, MidOk, Past, RunOk, SentOk, ValueOk, grows-refl, more-refl}
use Rattle.tier_laws.proofs.Events.GrowingPast.{parcels-more, run_ok-more, submitted-more, value_ok-more}
use Rattle.tier_laws.proofs.Rounds.AnyOrder.{kept-refl}
use Rattle.tier_laws.proofs.Rounds.StableRounds.{MoreLog}
use Rattle.tier_laws.specs.Said.{is_gone}
use Rattle.tier_model.specs.Kinds.{State}
use Rattle.run_model.specs.World.{log_at}
use Rattle.tier_model.specs.Moves.{Move, Packet, log_facts}

-- WHAT A NODE DOES IN AN EVENT

pub record Later {B : Type 0} (c : Config B) (Q : Past B) (t : Tier) (x : ℕ) (v : Move (State B t)) : Type 0 where
  pub beside : Beside c Q t x v.state
  pub sends : Every (SentOk c Q) v.sends

-- It is a turn of the log that is right, votes for good values, and holds answers that were served. In each past that has
-- grown by it the state and the packets are right.
pub record StepOk {B : Type 0} (c : Config B) (P : Past B) (t : Tier) (h : ℕ → List (LogFact AnyValue))
    (soup : List Packet) (x : ℕ) (rs : List Vote) (v : Move (State B t)) : Type 0 where
  pub turn : Turn AnyValue
  pub turn_ok : TurnOk c.u h (log_soup t soup) x turn
  pub good : (p : ℕ) (b : Ballot) (w : AnyValue) → DidVote (onto turn.facts (h x)) p b w → ValueOk c P t p w
  pub is_facts : log_facts v.facts ≡ turn.facts
  pub is_sends : log_soup t v.sends ≡ packets_of x turn.sends
  pub is_log : log_at c t v.state ≡ turn.state
  pub others : (s : Tier) → same_tier s t ≡ false → log_soup s v.sends ≡ []
  pub codes : (i : ℕ) (k : Code) → slice_get (helds v.facts) i ≡ Some k → P.server.served k.tier k.num ≡ Some k.code
  pub runs : (i : ℕ) (r : Vote) → slice_get rs i ≡ Some r → RunOk c P r
  pub later : (Q : Past B) → Grows P Q → Known c Q → Q.codes t x ≡ P.codes t x ++ helds v.facts
      → ((i : ℕ) (r : Vote) → slice_get rs i ≡ Some r → DidRun Q r) → Later c Q t x v

-- THE NODES OF ONE TIER AMONG ALL

nodes_each : {B : Type 0} (P : (t : Tier) → (ℕ → Node (State B t) Fact) → Type 0) (f : Nodes B) (t : Tier) (g : ℕ → Node (State B t) Fact)
    → P t g → ((v : Tier) → same_tier v t ≡ false → P v (f v)) → (v : Tier) → P v (put_nodes f t g v)
nodes_each P f MidTier g here there MidTier = here
nodes_each P f MidTier g here there InvTier = there InvTier refl
nodes_each P f MidTier g here there PayTier = there PayTier refl
nodes_each P f InvTier g here there MidTier = there MidTier refl
nodes_each P f InvTier g here there InvTier = here
nodes_each P f InvTier g here there PayTier = there PayTier refl
nodes_each P f PayTier g here there MidTier = there MidTier refl
nodes_each P f PayTier g here there InvTier = there InvTier refl
nodes_each P f PayTier g here there PayTier = here

-- WHAT A RECORD ADDS

abbrev with_codes : AllCodes → Tier → ℕ → List Code → AllCodes
with_codes codes t x cs = put_tier codes t (put (codes t) x (codes t x ++ cs))

codes_here : (codes : AllCodes) (t : Tier) (x : ℕ) (cs : List Code) → with_codes codes t x cs t x ≡ codes t x ++ cs
codes_here codes t x cs = ap (λ f. f x) (tier_here codes t (put (codes t) x (codes t x ++ cs))) ∙ put_same (codes t) x (codes t x ++ cs)

codes_beside : (codes : AllCodes) (t : Tier) (x : ℕ) (cs : List Code) (y : ℕ) → (y == x) ≡ false → with_codes codes t x cs t y ≡ codes t y
codes_beside codes t x cs y e = ap (λ f. f y) (tier_here codes t (put (codes t) x (codes t x ++ cs))) ∙ put_other (codes t) x (codes t x ++ cs) y e

codes_there : (codes : AllCodes) (t : Tier) (x : ℕ) (cs : List Code) (v : Tier) (y : ℕ) → same_tier v t ≡ false → with_codes codes t x cs v y ≡ codes v y
codes_there codes t x cs v y e = ap (λ f. f y) (tier_there codes t (put (codes t) x (codes t x ++ cs)) v e)

codes_each : (P : Tier → ℕ → List Code → Type 0) (codes : AllCodes) (t : Tier) (x : ℕ) (cs : List Code)
    → P t x (codes t x ++ cs) → ((v : Tier) (y : ℕ) → P v y (codes v y)) → (v : Tier) (y : ℕ) → P v y (with_codes codes t x cs v y)
codes_each P codes t x cs here there = by_tier (λ v f. (y : ℕ) → P v y (f y)) codes t
    (put (codes t) x (codes t x ++ cs)) (put_each (P t) (codes t) x (codes t x ++ cs) here (λ y e. there t y)) (λ v e y. there v y)

grows_by : {B : Type 0} (c : Config B) (w : World B) (codes : AllCodes) (t : Tier) (x : ℕ)
    (node : Node (State B t) Fact) (ks : List Packet) (rs : List Vote) (cs : List Code)
    → Grows (past c w codes) (past c (with_node w t x node ks rs) (with_codes codes t x cs))
grows_by c w codes t x node ks rs cs = record {
  held = λ y s n. codes_each (λ v z C. is_some (code_of (codes v z) s n) ≡ true → is_some (code_of C s n) ≡ true) codes
      t x cs (λ e. code_of-more (codes t x) cs s n e) (λ v z e. e) MidTier y;
  log = more-refl (w.logs MidTier);
  kept = kept-refl (server c.service w.hist);
  runs = record { at = λ i v e. get_left w.runs rs i v e };
  submitted = more-refl w.submitted;
}

abbrev RightCodes : {B : Type 0} → Config B → World B → List Code → Type 0
RightCodes c w cs = (i : ℕ) (q : Code) → slice_get cs i ≡ Some q → (server c.service w.hist).served q.tier q.num ≡ Some q.code

right_by : {B : Type 0} (c : Config B) (w : World B) (codes : AllCodes) (t : Tier) (x : ℕ) (cs : List Code)
    → ((v : Tier) (y : ℕ) → RightCodes c w (codes v y)) → RightCodes c w cs
    → (v : Tier) (y : ℕ) → RightCodes c w (with_codes codes t x cs v y)
right_by c w codes t x cs old new = codes_each (λ v y C. RightCodes c w C) codes t x cs
    (joined (λ (q : Code). (server c.service w.hist).served q.tier q.num ≡ Some q.code) (codes t x) cs (old t x) new) old

runs_by : {B : Type 0} (c : Config B) (P Q : Past B) (xs rs : List Vote) → Grows P Q → ((i : ℕ) (v : Vote) → slice_get xs i ≡ Some v → RunOk c P v)
    → ((i : ℕ) (v : Vote) → slice_get rs i ≡ Some v → RunOk c P v) → (i : ℕ) (v : Vote) → slice_get (xs ++ rs) i ≡ Some v → RunOk c Q v
runs_by c P Q xs rs g old new = joined (RunOk c Q) xs rs (λ i v e. run_ok-more c P Q v g (old i v e)) (λ i v e. run_ok-more c P Q v g (new i v e))

-- ONE NODE CHANGES

-- What x wrote for the log grows from h to g, it holds the codes cs from now on, it sends ks, and the rounds rs were run.
record NodeStep {B : Type 0} (c : Config B) (w : World B) (i : Inv c w) (t : Tier) (x : ℕ)
    (node : Node (State B t) Fact) (ks : List Packet) (rs : List Vote) (g : ℕ → List (LogFact AnyValue))
    (cs : List Code) : Type 0 where
  log : LogStep c.u (i.h t) g (log_soup t (w.soup ++ ks)) (w.logs t) (ValueOk c (past c w i.codes) t) x
  others : (v : Tier) → same_tier v t ≡ false → log_soup v ks ≡ []
  right : RightCodes c w cs
  runs : (j : ℕ) (q : Vote) → slice_get rs j ≡ Some q → RunOk c (past c w i.codes) q
  held : is_gone node.mode ≡ true → i.codes t x ++ cs ≡ i.codes t x
  rest : (Q : Past B) → Grows (past c w i.codes) Q → Known c Q → Q.codes t x ≡ i.codes t x ++ cs → ((j : ℕ) (q : Vote) → slice_get rs j ≡ Some q → DidRun Q q)
      → Every (SentOk c Q) ks × NodeOk c Q t g (log_soup t (w.soup ++ ks)) x node node.mode

step_logs : {B : Type 0} (c : Config B) (w : World B) (i : Inv c w) (t : Tier) (x : ℕ) (node : Node (State B t) Fact)
    (ks : List Packet) (rs : List Vote) (g : ℕ → List (LogFact AnyValue)) (cs : List Code)
    → NodeStep c w i t x node ks rs g cs → (v : Tier) → LogPart c.u (put_tier i.h t g v) (log_soup v (w.soup ++ ks)) (w.logs v) (ValueOk c (past c w i.codes) v)
step_logs c w i t x node ks rs g cs s = by_tier (λ v H. LogPart c.u H (log_soup v (w.soup ++ ks)) (w.logs v) (ValueOk c (past c w i.codes) v)) i.h t g s.log.log
    (λ v e. subst (λ z. LogPart c.u (i.h v) z (w.logs v) (ValueOk c (past c w i.codes) v)) (sym (same_log v w.soup ks (s.others v e))) (i.core.logs v))

step_core : {B : Type 0} (c : Config B) (w : World B) (i : Inv c w) (t : Tier) (x : ℕ) (node : Node (State B t) Fact)
    (ks : List Packet) (rs : List Vote) (g : ℕ → List (LogFact AnyValue)) (cs : List Code)
    → NodeStep c w i t x node ks rs g cs → Core c (with_node w t x node ks rs) (with_codes i.codes t x cs) (put_tier i.h t g)
step_core {B} c w i t x node ks rs g cs s = record {
  laws = i.core.laws;
  logs = logs;
  ledger = i.core.ledger;
  runs = kn.runs;
  right = kn.codes;
  packets = every-append (SentOk c Q) w.soup ks (parcels-more c P Q w.soup gr i.core.packets) rest.0;
  nodes = nodes_each (λ v N. (y : ℕ) → y < 2 * c.u + 1
      → NodeOk c Q v (put_tier i.h t g v) (log_soup v ys) y (N y) (N y).mode) w.nodes t (put (w.nodes t) x node)
      (subst (λ z. (y : ℕ) → y < 2 * c.u + 1
      → NodeOk c Q t z (log_soup t ys) y (put (w.nodes t) x node y) (put (w.nodes t) x node y).mode) (sym (tier_here i.h t g))
      (put_each (λ y n. y < 2 * c.u + 1 → NodeOk c Q t g (log_soup t ys) y n n.mode) (w.nodes t) x node (λ l. rest.1)
      (λ y e l. node-more c P Q t (i.h t) g (log_soup t w.soup) (log_soup t ys) y (w.nodes t y) (w.nodes t y).mode gr
      s.log.grew (soup_log c.u t w.soup ks) (s.log.same y e) (codes_beside i.codes t x cs y e) (i.core.nodes t y l))))
      (λ v e. subst (λ z. (y : ℕ) → y < 2 * c.u + 1 → NodeOk c Q v z (log_soup v ys) y (w.nodes v y) (w.nodes v y).mode) (sym (tier_there i.h t g v e))
      (λ y l. node-more c P Q v (i.h v) (i.h v) (log_soup v w.soup) (log_soup v ys) y (w.nodes v y) (w.nodes v y).mode
      gr (all_same (i.h v)) (soup_log c.u v w.soup ks) refl (codes_there i.codes t x cs v y e) (i.core.nodes v y l)));
  clients = λ y text e. submitted-more P Q _ gr (i.core.clients y text e);
  starts = λ j n who body e. submitted-more P Q _ gr (i.core.starts j n who body e);
  told = i.core.told;
}
  where
    ys : List Packet
    ys = w.soup ++ ks

    P : Past B
    P = past c w i.codes

    Q : Past B
    Q = past c (with_node w t x node ks rs) (with_codes i.codes t x cs)

    gr : Grows P Q
    gr = grows_by c w i.codes t x node ks rs cs

    logs : (v : Tier) → LogPart c.u (put_tier i.h t g v) (log_soup v ys) (w.logs v) (ValueOk c Q v)
    logs v = log_weaker c.u (put_tier i.h t g v) (log_soup v ys) (w.logs v) (ValueOk c P v) (ValueOk c Q v)
        (λ p a o. value_ok-more c P Q v p a gr o) (step_logs c w i t x node ks rs g cs s v)

    kn : Known c Q
    kn = record {
      laws = i.core.laws;
      values = λ p v e. meets_good c.u (put_tier i.h t g MidTier) (log_soup MidTier ys) (w.logs MidTier) (MidOk c Q) p v
          (logs MidTier) ((logs MidTier).sound p v e);
      decided = i.core.ledger.decided;
      runs = runs_by c P Q w.runs rs gr i.core.runs s.runs;
      codes = right_by c w i.codes t x cs i.core.right s.right;
    }

    rest : Every (SentOk c Q) ks × NodeOk c Q t g (log_soup t ys) x node node.mode
    rest = s.rest Q gr kn (codes_here i.codes t x cs) (λ j q e. get_right w.runs rs j q e)

stepped : {B : Type 0} (c : Config B) (w : World B) (i : Inv c w) (t : Tier) (x : ℕ) (node : Node (State B t) Fact)
    (ks : List Packet) (rs : List Vote) (g : ℕ → List (LogFact AnyValue)) (cs : List Code)
    → NodeStep c w i t x node ks rs g cs → Mid_event c (past c w i.codes) (with_node w t x node ks rs)
stepped c w i t x node ks rs g cs s = record {
  codes = with_codes i.codes t x cs;
  h = put_tier i.h t g;
  core = step_core c w i t x node ks rs g cs s;
  before = step_logs c w i t x node ks rs g cs s MidTier;
  gone_codes = nodes_each (λ v N. (y : ℕ) → is_gone (N y).mode ≡ true → with_codes i.codes t x cs v y ≡ i.codes v y) w.nodes t (put (w.nodes t) x node)
      (put_each (λ y n. is_gone n.mode ≡ true → with_codes i.codes t x cs t y ≡ i.codes t y) (w.nodes t) x node
      (λ e. codes_here i.codes t x cs ∙ s.held e) (λ y e o. codes_beside i.codes t x cs y e))
      (λ v e y o. codes_there i.codes t x cs v y e);
  near = record { all = λ v. near v (tier_cases v t) };
}
  where
    near : (v : Tier) → (v ≡ t) ⊎ (same_tier v t ≡ false) → Nearly c.u (log_soup v (w.soup ++ ks)) (w.logs v)
    near v (inl e) = subst (λ z. Nearly c.u (log_soup z (w.soup ++ ks)) (w.logs z)) (sym e) s.log.near
    near v (inr e) = subst (λ z. Nearly c.u z (w.logs v)) (sym (same_log v w.soup ks (s.others v e))) (nearly c.u (log_soup v w.soup) (w.logs v) (i.done.all v))

-- a move that is kept and sent
turned : {B : Type 0} (c : Config B) (w : World B) (t : Tier) (x : ℕ) (σ : State B t) (rs : List Vote) (v : Move (State B t)) → c.u < 128 → (i : Inv c w)
    → UpOk c (past c w i.codes) t (i.h t) (log_soup t w.soup) x (w.nodes t x).records σ → StepOk c (past c w i.codes) t (i.h t) w.soup x rs v
    → Mid_event c (past c w i.codes) (with_node w t x (stands (Up v.state) (recorded (w.nodes t x).records v.facts)) v.sends rs)
turned c w t x σ rs v few i up ok = stepped c w i t x (stands (Up v.state) (recorded (w.nodes t x).records v.facts))
    v.sends rs (wrote (i.h t) x ok.turn) (helds v.facts) (record {
      log = turn_step c.u (i.h t) (log_soup t w.soup) (log_soup t (w.soup ++ v.sends)) (w.logs t)
          (ValueOk c (past c w i.codes) t) x ok.turn few (i.core.logs t) (i.done.all t) ok.turn_ok ok.good soup_is;
      others = ok.others;
      right = ok.codes;
      runs = ok.runs;
      held = λ e. absurd (cc);
      rest = λ Q gr kn e did. let l = ok.later Q gr kn e did in (
        l.sends,
        record {
          is_log = newest_log (w.nodes t x).records v.facts ok.turn.facts (i.h t x) ok.is_facts up.is_log
              ∙ sym (put_same (i.h t) x (onto ok.turn.facts (i.h t x)));
          is_held = newest_held (w.nodes t x).records v.facts (i.codes t x) up.is_held ∙ sym e;
          log = turn_state_at c.u (i.h t) (log_soup t w.soup) (log_soup t (w.soup ++ v.sends)) x ok.turn (log_at c t v.state) ok.turn_ok soup_is ok.is_log;
          beside = l.beside;
        },
      );
    })
  where
    soup_is : log_soup t (w.soup ++ v.sends) ≡ log_soup t w.soup ++ packets_of x ok.turn.sends
    soup_is = log_soup-append t w.soup v.sends ∙ ap (λ z. log_soup t w.soup ++ z) ok.is_sends

-- the node alone changes
quiet : {B : Type 0} (c : Config B) (w : World B) (t : Tier) (x : ℕ) (node : Node (State B t) Fact) (rs : List Vote)
    (i : Inv c w) → ((j : ℕ) (q : Vote) → slice_get rs j ≡ Some q → RunOk c (past c w i.codes) q)
    → NodeOk c (past c w i.codes) t (i.h t) (log_soup t w.soup) x node node.mode → Mid_event c (past c w i.codes) (with_node w t x node [] rs)
quiet c w t x node rs i ran k = stepped c w i t x node [] rs (i.h t) [] (record {
  log = quiet_step c.u (i.h t) (log_soup t w.soup) (log_soup t (w.soup ++ [])) (w.logs t)
      (ValueOk c (past c w i.codes) t) x (i.core.logs t) (i.done.all t) (same_log t w.soup [] refl);
  others = λ v e. refl;
  right = λ j q e. absurd (cc);
  runs = ran;
  held = λ e. append-nil (i.codes t x);
  rest = λ Q gr kn e did. (
    tt,
    node-more c (past c w i.codes) Q t (i.h t) (i.h t) (log_soup t w.soup) (log_soup t (w.soup ++ [])) x node node.mode
        gr (all_same (i.h t)) (soup_log c.u t w.soup []) refl (e ∙ append-nil (i.codes t x)) k,
  );
})

-- the record is kept, and nothing is sent
written : {B : Type 0} (c : Config B) (w : World B) (t : Tier) (x : ℕ) (node : Node (State B t) Fact) (rs : List Vote)
    (i : Inv c w) (R : List (List Fact)) → is_gone node.mode ≡ false
    → (d : Pending c (past c w i.codes) t (i.h t) (log_soup t w.soup) x R) → ((j : ℕ) (q : Vote) → slice_get rs j ≡ Some q → RunOk c (past c w i.codes) q)
    → ((Q : Past B) → Grows (past c w i.codes) Q → Known c Q → log_facts (newest R) ≡ wrote (i.h t) x d.turn x
    → codes_in (newest R) ≡ Q.codes t x → NodeOk c Q t (wrote (i.h t) x d.turn) (log_soup t w.soup) x node node.mode)
    → Mid_event c (past c w i.codes) (with_node w t x node [] rs)
written c w t x node rs i R stays d ran mode = stepped c w i t x node [] rs (wrote (i.h t) x d.turn) d.codes (record {
  log = write_step c.u (i.h t) (log_soup t w.soup) (log_soup t (w.soup ++ [])) (w.logs t)
      (ValueOk c (past c w i.codes) t) x d.turn (i.core.logs t) (i.done.all t) d.ok d.good (same_log t w.soup [] refl);
  others = λ v e. refl;
  right = d.right;
  runs = ran;
  held = λ e. absurd (both_ways (is_gone node.mode) stays e);
  rest = λ Q gr kn e did. (
    tt,
    subst (λ z. NodeOk c Q t (wrote (i.h t) x d.turn) z x node node.mode) (sym (same_log t w.soup [] refl))
        (mode Q gr kn (d.is_log ∙ sym (put_same (i.h t) x (onto d.turn.facts (i.h t x)))) (d.is_held ∙ sym e)),
  );
})

-- A MOVE

moves_ok : {B : Type 0} (c : Config B) (w : World B) (t : Tier) (x : ℕ) (σ : State B t) (rs : List Vote)
    (v : Move (State B t)) (d : Device) → c.u < 128 → (i : Inv c w)
    → UpOk c (past c w i.codes) t (i.h t) (log_soup t w.soup) x (w.nodes t x).records σ → StepOk c (past c w i.codes) t (i.h t) w.soup x rs v
    → Mid_event c (past c w i.codes) (with_node w t x (moved (w.nodes t x) d v.state v.facts) (sent d v.facts v.sends) rs)
moves_ok {B} c w t x σ rs v d few i up ok =
    moved_ok (λ n m. NodeOk c (past c w i.codes) t (i.h t) (log_soup t w.soup) x n m)
    (λ n ks. Mid_event c (past c w i.codes) (with_node w t x n ks rs)) (w.nodes t x) v d (record {
      well = turned c w t x σ rs v few i up ok;
      quiet = λ n k. quiet c w t x n rs i ok.runs k;
      kept = written c w t x (stands Down new) rs i new refl pending ok.runs
          (λ Q gr kn e f. record { is_log = e; is_held = f; pending = λ n R q. absurd (cc) });
      dropped = record { is_log = up.is_log; is_held = up.is_held; pending = λ n R q. absurd (cc) };
      left_open = record {
        is_log = up.is_log;
        is_held = up.is_held;
        pending = or_written_ok (Pending c (past c w i.codes) t (i.h t) (log_soup t w.soup) x) (w.nodes t x).records v.facts v.facts refl pending;
      };
    })
  where
    new : List (List Fact)
    new = recorded (w.nodes t x).records v.facts

    pending : Pending c (past c w i.codes) t (i.h t) (log_soup t w.soup) x new
    pending = record {
      turn = ok.turn;
      codes = helds v.facts;
      is_log = newest_log (w.nodes t x).records v.facts ok.turn.facts (i.h t x) ok.is_facts up.is_log;
      is_held = newest_held (w.nodes t x).records v.facts (i.codes t x) up.is_held;
      ok = ok.turn_ok;
      good = ok.good;
      right = ok.codes;
    }

-- what is shown of a move at each state in which x may be up
abbrev pub MoveFits : {B : Type 0} → (c : Config B) → (w : World B) → Inv c w → (t : Tier) → ℕ
    → (State B t → Move (State B t)) → (State B t → List Vote) → Type 0
MoveFits {B} c w i t x move ran = (σ : State B t) → x < 2 * c.u + 1 → UpOk c (past c w i.codes) t (i.h t) (log_soup t w.soup) x (w.nodes t x).records σ
    → StepOk c (past c w i.codes) t (i.h t) w.soup x (ran σ) (move σ)

up_ok : {B : Type 0} (c : Config B) (w : World B) (t : Tier) (x : ℕ) (d : Fate) (move : State B t → Move (State B t))
    (ran : State B t → List Vote) (m : Mode (State B t)) → c.u < 128 → x < 2 * c.u + 1 → (i : Inv c w)
    → NodeOk c (past c w i.codes) t (i.h t) (log_soup t w.soup) x (w.nodes t x) m → MoveFits c w i t x move ran
    → Mid_event c (past c w i.codes) (node_up w t x d move ran m)
up_ok c w t x d move ran (Up σ) few lx i up f = moves_ok c w t x σ (ran σ) (move σ) (d (w.nodes t x).records (move σ).facts) few i up (f σ lx up)
up_ok c w t x d move ran Down few lx i up f = unchanged c w i
up_ok c w t x d move ran Gone few lx i up f = unchanged c w i

pub at_node_ok : {B : Type 0} (c : Config B) (w : World B) (t : Tier) (x : ℕ) (d : Fate) (move : State B t
    → Move (State B t)) (ran : State B t → List Vote) → c.u < 128 → (i : Inv c w)
    → MoveFits c w i t x move ran → Mid_event c (past c w i.codes) (at_node c w t x d move ran)
at_node_ok c w t x d move ran few i f = cond_both (nat_lt x (2 * c.u + 1)) (node_up w t x d move ran (w.nodes t x).mode) w (Mid_event c (past c w i.codes))
    (λ e. let lx : x < 2 * c.u + 1 = ltb-true _ _ e in up_ok c w t x d move ran (w.nodes t x).mode few lx i (i.core.nodes t x lx) f) (λ e. unchanged c w i)

-- CRASH, WIPE AND RESTART

placed_ok : {B : Type 0} (c : Config B) (w : World B) (t : Tier) (x : ℕ) (node : Node (State B t) Fact) (i : Inv c w)
    → (x < 2 * c.u + 1 → Mid_event c (past c w i.codes) (with_node w t x node [] []))
    → Mid_event c (past c w i.codes) (placed c w t x node)
placed_ok c w t x node i k = cond_both (nat_lt x (2 * c.u + 1)) (with_node w t x node [] []) w
    (Mid_event c (past c w i.codes)) (λ e. k (ltb-true _ _ e)) (λ e. unchanged c w i)

-- no round is run
alone : {B : Type 0} (c : Config B) (w : World B) (t : Tier) (x : ℕ) (node : Node (State B t) Fact) (i : Inv c w)
    → NodeOk c (past c w i.codes) t (i.h t) (log_soup t w.soup) x node node.mode
    → Mid_event c (past c w i.codes) (with_node w t x node [] [])
alone c w t x node i k = quiet c w t x node [] i (λ j q e. absurd (cc)) k

pub crash_keeps : {B : Type 0} (c : Config B) (w : World B) (t : Tier) (x : ℕ) → (i : Inv c w)
    → Mid_event c (past c w i.codes) (placed c w t x (crashed (w.nodes t x) (w.nodes t x).mode))
crash_keeps c w t x i = placed_ok c w t x _ i (λ l. alone c w t x (crashed (w.nodes t x) (w.nodes t x).mode) i
    (crash_ok (λ n m. NodeOk c (past c w i.codes) t (i.h t) (log_soup t w.soup) x n m) (w.nodes t x) (w.nodes t x).mode
    (λ σ k. record { is_log = k.is_log; is_held = k.is_held; pending = λ n R q. absurd (cc) }) (i.core.nodes t x l) (i.core.nodes t x l)))

pub wipe_keeps : {B : Type 0} (c : Config B) (w : World B) (t : Tier) (x : ℕ) → (i : Inv c w) → Mid_event c (past c w i.codes) (placed c w t x (stands Gone []))
wipe_keeps c w t x i = placed_ok c w t x _ i (λ l. alone c w t x (stands Gone []) i tt)

-- what is restored from facts
pub record Restored {B : Type 0} (c : Config B) (Q : Past B) (t : Tier) (x : ℕ) (σ : State B t) (F : List Fact) : Type 0 where
  pub beside : Beside c Q t x σ
  pub is_log : log_at c t σ ≡ recover c.u (log_facts F)

-- in each past that has grown, facts that were chosen and codes that are held restore what is right
abbrev pub Restores : {B : Type 0} → (c : Config B) → (w : World B) → Inv c w → (t : Tier) → ℕ → (List Fact → State B t) → Type 0
Restores {B} c w i t x recovered = (Q : Past B) → Grows (past c w i.codes) Q → Known c Q → (F : List Fact)
    → codes_in F ≡ Q.codes t x → MoreLog (learned_in (log_facts F)) (w.logs t) → Restored c Q t x (recovered F) F

restored_up : {B : Type 0} (c : Config B) (w : World B) (i : Inv c w) (t : Tier) (x : ℕ) (recovered : List Fact
    → State B t) (Q : Past B) (h : ℕ → List (LogFact AnyValue)) (R : List (List Fact)) → Restores c w i t x recovered
    → Grows (past c w i.codes) Q → Known c Q → log_facts (newest R) ≡ h x → codes_in (newest R) ≡ Q.codes t x → MoreLog (learned_in (h x)) (w.logs t)
    → UpOk c Q t h (log_soup t w.soup) x R (recovered (newest R))
restored_up c w i t x recovered Q h R f gr kn e held pre =
    let r = f Q gr kn (newest R) held (subst (λ z. MoreLog (learned_in z) (w.logs t)) (sym e) pre) in
    record {
      is_log = e;
      is_held = held;
      log = subst (λ s. StateOk c.u h (h x) (log_soup t w.soup) x s) (sym (r.is_log ∙ ap (recover c.u) e)) (restored c.u h (log_soup t w.soup) x (h x));
      beside = r.beside;
    }

other_found : {B : Type 0} (c : Config B) (w : World B) (t : Tier) (x : ℕ) (recovered : List Fact
    → State B t) (R : List (List Fact)) → (i : Inv c w) → Restores c w i t x recovered
    → Pending c (past c w i.codes) t (i.h t) (log_soup t w.soup) x R → Mid_event c (past c w i.codes) (with_node w t x (up_from recovered R) [] [])
other_found c w t x recovered R i f k = written c w t x (up_from recovered R) [] i R refl k (λ j q e. absurd (cc))
    (λ Q gr kn e held. restored_up c w i t x recovered Q (wrote (i.h t) x k.turn) R f gr kn e held
    (subst (λ F. MoreLog (learned_in F) (w.logs t)) (sym (put_same (i.h t) x (onto k.turn.facts (i.h t x))))
    (turn_more c.u (i.h t) (log_soup t w.soup) (w.logs t) x k.turn k.ok (i.done.all t))))

pub restart_keeps : {B : Type 0} (c : Config B) (w : World B) (t : Tier) (x : ℕ) (recovered : List Fact
    → State B t) (found : Option ℕ) → (i : Inv c w) → Restores c w i t x recovered
    → Mid_event c (past c w i.codes) (placed c w t x (restarted recovered (w.nodes t x) found (w.nodes t x).mode))
restart_keeps c w t x recovered found i f = placed_ok c w t x _ i (λ l.
    restart_ok (λ n m. NodeOk c (past c w i.codes) t (i.h t) (log_soup t w.soup) x n m)
    (λ n. Mid_event c (past c w i.codes) (with_node w t x n [] [])) recovered (w.nodes t x) found (w.nodes t x).mode (record {
      same = alone c w t x (w.nodes t x) i (i.core.nodes t x l);
      first = λ k. alone c w t x (up_from recovered (w.nodes t x).records) i
          (restored_up c w i t x recovered (past c w i.codes) (i.h t) (w.nodes t x).records f (grows-refl (past c w i.codes))
          (known_now c w i.codes i.h i.core) k.is_log k.is_held
          (learned_more c.u (i.h t) (log_soup t w.soup) (w.logs t) x l (i.core.logs t).history (i.done.all t)));
      other = λ k n R e. other_found c w t x recovered R i f (k.pending n R e);
    }) (i.core.nodes t x l))
