-- What the laws say, from the invariant.
use Rattle.std.proofs.Common.{◌≡◌, ℕ, ◌+◌, ◌*◌, ◌<◌, Bool, true, false, List, refl, sym, ap, ◌∙◌, subst, inl, inr, Some, arith}
use Rattle.std.specs.Prelude.{slice_get, ◌⊎◌, ◌==◌, ◌||◌}
use Rattle.std.proofs.lemmas.Bool.{or_left, or_right, or_cases, eq-eqb, eqb-true}
use Rattle.std.proofs.lemmas.Slice.Eq.{bytes_eq-Decides}
use Rattle.aeg_base.specs.declared.names.ReqId.{ReqId}
use Rattle.aeg_base.specs.declared.names.Tier.{Tier}
use Rattle.aeg_base.specs.declared.names.Tier.TheVariants.{Mid as MidTier, Inv, Pay}
use Rattle.aeg_base.specs.declared.names.End.{End}
use Rattle.aeg_base.specs.declared.names.End.TheVariants.{Client}
use Rattle.server_model.specs.History as history
use Rattle.log_model.proofs.Basics.{count-more, every-get}
use Rattle.log_model.proofs.Invariant.{PacketOk}
use Rattle.log_model.specs.declared.message.PaxMsg.TheVariants.{Learn}
use Rattle.log_model.specs.Chosen.{Meets}
use Rattle.log_model.specs.Recover.{newest, learned_in}
use Rattle.log_model.specs.Nodes.{Mode}
use Rattle.log_model.specs.World.{Packet as LogPacket}
use Rattle.log_model.specs.Nodes.Mode.{Down, Gone, Up}
use Rattle.log_values.specs.declared.fact.Fact.{Fact}
use Rattle.log_values.specs.declared.any_value.AnyValue.{AnyValue}
use Rattle.log_values.specs.declared.any_value.AnyValue.TheVariants.{Back as OfBack, Mid as OfMid}
use Rattle.log_values.specs.declared.back_value.BackValue.TheVariants.{Settle}
use Rattle.log_values.specs.declared.mid_value.MidValue.TheVariants.{Verdict as Decided}
use Rattle.log_values.specs.declared.mid_value.Verdict.{Verdict}
use Rattle.log_values.specs.declared.mid_value.Verdict.TheVariants.{Commit, Serial}
use Rattle.frames.specs.declared.message.Msg.{Msg}
use Rattle.frames.specs.declared.message.Msg.TheVariants as msgs
use Rattle.round_model.specs.Service.{meaning}
use Rattle.round_model.specs.After.{Round, round, after}
use Rattle.tier_laws.proofs.MidNodes.CodesOfFacts.{Code, code_of, codes_in}
use Rattle.round_model.specs.Tables.{Number, Want}
use Rattle.round_model.specs.Verdicts.{Vote}
use Rattle.run_model.specs.World.{Config, World, log_at}
use Rattle.run_model.specs.Runs.{is_in, log_soup, served_of}
use Rattle.tier_model.specs.Back.{Back}
use Rattle.tier_model.specs.Mid.{Mid}
use Rattle.tier_model.specs.Moves.{tier_of, Packet, log_facts, held_in}
use Rattle.frames.specs.Headers.{end_index}
use Rattle.tier_laws.specs.Said.{HasReply, HasCall, HasAnswer, chosen_log, LearnedBy, HasLearned, StandsFor}
use Rattle.tier_laws.specs.Said.{DiskStandsFor, learned_from, BackApplied, IsApplied, HasApplied, DidRun, IsRun, RanTo}
use Rattle.tier_laws.specs.Said.{Caused, is_gone, FewGone, Durable}
use Rattle.tier_laws.proofs.Rounds.DecidedRounds.{half-odd}
use Rattle.tier_laws.proofs.Events.OneNodeChanges.{AllCodes, BackBeside, Beside, Inv as WorldOk, NodeOk, past, values}
use Rattle.tier_laws.proofs.Events.EachEvent.{log_place}
use Rattle.tier_laws.proofs.Events.LogsGrow.{served_same}
use Rattle.round_model.specs.Held.{held_code}
use Rattle.tier_laws.proofs.MidNodes.HeldAnswers.{held_codes}
use Rattle.tier_model.specs.Kinds.{State}
use Rattle.tier_laws.proofs.Events.GrowingPast.{FloorOk, ValueOk, ManyHold, MidOk, RunOk, SentBy, SentOk, Past, VerdictBy, VerdictOk, holds}
use Rattle.tier_laws.proofs.Server.ShownLists.{Shown, shown}
use Rattle.run_model.specs.Runs.{log_soup}
use Rattle.tier_laws.proofs.Rounds.BackedVerdicts.{count-gap}
use Rattle.tier_laws.proofs.Server.LookUps.{server, empty_server}
use Rattle.tier_laws.proofs.Events.StepsOfNodes.{disk_of}
use Rattle.tier_laws.proofs.Events.OneTiersLog.{learned_more, meets_good, turn_more}
use Rattle.tier_laws.proofs.Lists.ItemsByIndex.{some_of}
use Rattle.tier_laws.proofs.Rounds.StableRounds.{MoreLog}
use Rattle.tier_laws.proofs.MidNodes.CodesOfFacts.{code_of-left, code_at}
use Rattle.server_model.specs.Server as real
use Rattle.server_model.specs.Server.{same_tier}

-- THE HISTORY

pub shown_now : {B : Type 0} (c : Config B) (w : World B) → WorldOk c w
    → Shown c.service (empty_server c.service) w.hist (real.opening_server (meaning c.service))
shown_now c w i = shown c.service w.hist i.core.laws.again i.core.ledger.legal

pub legal : {B : Type 0} (c : Config B) (w : World B) → WorldOk c w → history.Legal (meaning c.service) w.hist
legal c w i = (shown_now c w i).legal

pub has_reply : {B : Type 0} (c : Config B) (w : World B) (who : ReqId) (text : List ℕ) → WorldOk c w
    → (server c.service w.hist).replies who.client who.seq ≡ Some text → HasReply c w who text
has_reply c w who text i e = (shown_now c w i).shows.replies who.client who.seq text e

pub has_call : {B : Type 0} (c : Config B) (w : World B) (t : Tier) (n : ℕ) (text : List ℕ) → WorldOk c w
    → (server c.service w.hist).calls t n ≡ Some text → HasCall c w t n text
has_call c w t n text i e = (shown_now c w i).shows.calls t n ∙ e

pub has_answer : {B : Type 0} (c : Config B) (w : World B) (t : Tier) (n code : ℕ) → WorldOk c w
    → (server c.service w.hist).served t n ≡ Some code → HasAnswer c w t n code
has_answer c w t n code i e = (shown_now c w i).shows.served t n ∙ e

pub sent : {B : Type 0} (c : Config B) (w : World B) (place : ℕ) (k : Packet) (message : Msg) (i : WorldOk c w)
    → slice_get w.soup place ≡ Some k → k.message ≡ message → SentBy c (past c w i.codes) k.from k.to message
sent c w place k message i e f = subst (SentBy c (past c w i.codes) k.from k.to) f (every-get (SentOk c (past c w i.codes)) w.soup place k i.core.packets e)

pub reply_sent : {B : Type 0} (c : Config B) (w : World B) (place : ℕ) (k : Packet) (who : ReqId) (text : List ℕ)
    → WorldOk c w → slice_get w.soup place ≡ Some k → k.message ≡ msgs.Reply who text → (k.to ≡ Client who.client)
    × HasReply c w who text
reply_sent c w place k who text i e f = let s = sent c w place k (msgs.Reply who text) i e f in (s.0, has_reply c w who text i s.1)

-- AGREEMENT

pub chosen_here : {B : Type 0} (c : Config B) (w : World B) (t : Tier) (p : ℕ) (v : AnyValue) → WorldOk c w
    → Meets c.u (log_soup t w.soup) p v → slice_get (chosen_log w t) p ≡ Some v
chosen_here c w t p v i m = (i.done.all t).at p v m

pub sound_here : {B : Type 0} (c : Config B) (w : World B) (t : Tier) (p : ℕ) (v : AnyValue) → WorldOk c w
    → slice_get (chosen_log w t) p ≡ Some v → Meets c.u (log_soup t w.soup) p v
sound_here c w t p v i e = (i.core.logs t).sound p v e

learned_up : {B : Type 0} (c : Config B) (w : World B) (i : WorldOk c w) (t : Tier) (x p : ℕ) (v : AnyValue)
    (m : Mode (State B t)) → x < 2 * c.u + 1 → NodeOk c (past c w i.codes) t (i.h t) (log_soup t w.soup) x (w.nodes t x) m
    → LearnedBy (log_at c t) m p v → slice_get (w.logs t) p ≡ Some v
learned_up c w i t x p v (Up σ) l k e = (i.done.all t).at p v ((i.core.logs t).history.learned x l p v (rw (← k.log.learned) e))
learned_up c w i t x p v Down l k e = absurd e
learned_up c w i t x p v Gone l k e = absurd e

pub learned : {B : Type 0} (c : Config B) (w : World B) (t : Tier) (x p : ℕ) (v : AnyValue) → WorldOk c w
    → x < 2 * c.u + 1 → HasLearned c w t x p v → slice_get (chosen_log w t) p ≡ Some v
learned c w t x p v i l e = learned_up c w i t x p v (w.nodes t x).mode l (i.core.nodes t x l) e

-- a Learn tells what was chosen
pub learn_told : {B : Type 0} (c : Config B) (w : World B) (t : Tier) (place : ℕ) (k : Packet) (p : ℕ) (v : AnyValue)
    → WorldOk c w → is_in t k.from ≡ true → slice_get w.soup place ≡ Some k → k.message ≡ msgs.Log (Learn p v)
    → slice_get (chosen_log w t) p ≡ Some v
learn_told {B} c w t place k p v i b e f =
    let q = log_place t w.soup place k.from k.to (Learn p v) b (e ∙ (λ j. Some (record { from = k.from; to = k.to; message = f j }))) in
    let j : LogPacket AnyValue = record { from = end_index k.from; to = end_index k.to; msg = Learn p v } in
    let right : PacketOk c.u (i.h t) (log_soup t w.soup) j = every-get (PacketOk c.u (i.h t) (log_soup t w.soup))
    (log_soup t w.soup) q.0 j (i.core.logs t).history.packets q.1 in
    (i.done.all t).at p v right

-- what a disk has learned was chosen
disk_more : {B : Type 0} (c : Config B) (w : World B) (i : WorldOk c w) (t : Tier) (x : ℕ) (records : List (List Fact))
    (m : Mode (State B t)) → x < 2 * c.u + 1 → NodeOk c (past c w i.codes) t (i.h t) (log_soup t w.soup) x (w.nodes t x) m
    → StandsFor (w.nodes t x) m records → MoreLog (learned_from c.u records) (w.logs t)
disk_more c w i t x R m l = disk_of (λ n m. NodeOk c (past c w i.codes) t (i.h t) (log_soup t w.soup) x n m)
    (λ Q. MoreLog (learned_from c.u Q) (w.logs t)) (w.nodes t x) m R (λ σ k. own k.is_log) (λ k. own k.is_log)
    (λ k n Q e. let q = k.pending n Q e in subst (λ z. MoreLog (learned_in z) (w.logs t)) (sym q.is_log)
    (turn_more c.u (i.h t) (log_soup t w.soup) (w.logs t) x q.turn q.ok (i.done.all t)))
  where
    own : log_facts (newest (w.nodes t x).records) ≡ i.h t x → MoreLog (learned_from c.u (w.nodes t x).records) (w.logs t)
    own e = subst (λ z. MoreLog (learned_in z) (w.logs t)) (sym e)
        (learned_more c.u (i.h t) (log_soup t w.soup) (w.logs t) x l (i.core.logs t).history (i.done.all t))

pub disk_learned : {B : Type 0} (c : Config B) (w : World B) (t : Tier) (x p : ℕ) (v : AnyValue)
    (records : List (List Fact)) → WorldOk c w → x < 2 * c.u + 1 → DiskStandsFor w t x records
    → slice_get (learned_from c.u records) p ≡ Some v
    → slice_get (chosen_log w t) p ≡ Some v
disk_learned c w t x p v R i l s e = (disk_more c w i t x R (w.nodes t x).mode l (i.core.nodes t x l) s).at p v e

-- STATES

served_now : {B : Type 0} (c : Config B) (w : World B) (i : WorldOk c w) → served_of c w ≡ (server c.service w.hist).served
served_now c w i = served_same c w i.codes i.h i.core

back_applied : {B : Type 0} (c : Config B) (P : Past B) (t : Tier) (σ : Back B) → BackBeside c P t σ → BackApplied (c.service.backend t) σ
back_applied c P t σ k = record {
  state = k.tied.state;
  codes = k.tied.codes;
  kept = k.tied.kept;
  above = k.tied.above;
  below = k.tied.floor;
  floor = k.tied.greatest;
}

is_applied : {B : Type 0} (c : Config B) (w : World B) (i : WorldOk c w) (t : Tier) (x : ℕ) (σ : State B t)
    → Beside c (past c w i.codes) t x σ → IsApplied c w t σ
is_applied c w i MidTier x σ k = subst (λ A. after c.service.programs c.depth (w.logs MidTier) A σ.applied ≡ Some σ.tables) (sym (served_now c w i)) k.is_after
is_applied c w i Inv x σ k = back_applied c (past c w i.codes) Inv σ k
is_applied c w i Pay x σ k = back_applied c (past c w i.codes) Pay σ k

applied_up : {B : Type 0} (c : Config B) (w : World B) (i : WorldOk c w) (t : Tier) (x : ℕ) (m : Mode (State B t))
    → NodeOk c (past c w i.codes) t (i.h t) (log_soup t w.soup) x (w.nodes t x) m → HasApplied c w t m
applied_up c w i t x (Up σ) k = is_applied c w i t x σ k.beside
applied_up c w i t x Down k = tt
applied_up c w i t x Gone k = tt

pub applied : {B : Type 0} (c : Config B) (w : World B) (t : Tier) (x : ℕ) → WorldOk c w → x < 2 * c.u + 1 → HasApplied c w t (w.nodes t x).mode
applied c w t x i l = applied_up c w i t x (w.nodes t x).mode (i.core.nodes t x l)

-- VERDICTS HAVE CAUSES

-- the nodes that are counted, and the one whose order is taken
by_caused : {B : Type 0} (c : Config B) (w : World B) (codes : AllCodes) (r : ℕ) (R : Round) (v : Verdict)
    → ((a : Vote) → DidRun w a → a.from < 2 * c.u + 1) → VerdictBy c (past c w codes) r R v → Caused c w r v
by_caused {B} c w codes r R (Commit token order) inside k = (
  ys,
  omega (arith, k.2.1, k.2.2.1, count-more (2 * c.u + 1) k.2.2.0 ys (λ y e. or_left (k.2.2.0 y) (y == k.3.0.from) e)),
  (λ y e. by y (or_cases (k.2.2.0 y) (y == k.3.0.from) e)),
  (k.3.0, k.3.1, k.3.2, or_right (k.2.2.0 k.3.0.from) (k.3.0.from == k.3.0.from) (eq-eqb k.3.0.from k.3.0.from refl), k.3.3, k.3.4),
)
  where
    ys : ℕ → Bool
    ys = λ y. k.2.2.0 y || (y == k.3.0.from)

    ran_inside : (y : ℕ) → RanTo w r token y → (y < 2 * c.u + 1) × RanTo w r token y
    ran_inside y q = (subst (λ z. z < 2 * c.u + 1) q.3 (inside q.0 q.1), q)

    by : (y : ℕ) → (k.2.2.0 y ≡ true) ⊎ ((y == k.3.0.from) ≡ true) → (y < 2 * c.u + 1) × RanTo w r token y
    by y (inl f) = let q = k.2.2.2 y f in ran_inside y (q.0, q.1, q.2, q.3, (bytes_eq-Decides q.0.token token).0 q.4)
    by y (inr f) = ran_inside y (k.3.0, k.3.1, k.3.2, sym (eqb-true y k.3.0.from f), k.3.3)
by_caused c w codes r R Serial inside k = (
  k.0,
  k.1,
  k.2,
  k.3,
  k.4,
  k.5,
  inside k.0 k.2,
  inside k.1 k.3,
  (λ e. let f = (bytes_eq-Decides k.0.token k.1.token).1 e in let g = k.6 in cc),
  k.7 ((bytes_eq-Decides k.1.token k.1.token).1 refl),
)

pub at_round : {B : Type 0} (c : Config B) (P : Past B) (r : ℕ) (v : Verdict) → MidOk c P (2 * r + 1) (OfMid (Decided v)) → VerdictOk c P r v
at_round c P r v k = subst (λ z. VerdictOk c P z v) (half-odd r) k.1

pub caused : {B : Type 0} (c : Config B) (w : World B) (r : ℕ) (v : Verdict) → WorldOk c w
    → slice_get (w.logs MidTier) (2 * r + 1) ≡ Some (OfMid (Decided v)) → Caused c w r v
caused c w r v i e =
    let k : VerdictOk c (past c w i.codes) r v = at_round c (past c w i.codes) r v (values c w i.codes i.h i.core (2 * r + 1) (OfMid (Decided v)) e) in
    by_caused c w i.codes r k.made v (λ a d. (i.core.runs d.0 a d.1).inside) k.by

pub is_run : {B : Type 0} (c : Config B) (w : World B) (v : Vote) → WorldOk c w → DidRun w v → IsRun c w v
is_run {B} c w v i d =
    let k : RunOk c (past c w i.codes) v = i.core.runs d.0 v d.1 in
    record {
      inside = k.inside;
      made = k.made;
      is_round = subst (λ A. round c.service.programs c.depth (w.logs MidTier) A v.round ≡ Some k.made)
          (sym (served_now c w i)) k.is_round;
      is_ordered = k.is_ordered;
      is_token = k.is_token;
    }

-- DURABILITY

code_right : {B : Type 0} (c : Config B) (w : World B) (i : WorldOk c w) (x : ℕ) (t : Tier) (n code : ℕ)
    → code_of (i.codes MidTier x) t n ≡ Some code → (server c.service w.hist).served t n ≡ Some code
code_right c w i x t n code e =
    let q = code_at (i.codes MidTier x) t n code e in
    let s = i.core.right MidTier x q.0 q.1 q.2 in
    subst (λ z. (server c.service w.hist).served z n ≡ Some code) q.3
    (subst (λ z. (server c.service w.hist).served q.1.tier z ≡ Some code) q.4 (s ∙ ap Some q.5))

pub held_for : {B : Type 0} (c : Config B) (w : World B) (i : WorldOk c w) (x : ℕ) (t : Tier) (n code : ℕ)
    (m : Mode Mid) → NodeOk c (past c w i.codes) MidTier (i.h MidTier) (log_soup MidTier w.soup) x (w.nodes MidTier x) m
    → code_of (i.codes MidTier x) t n ≡ Some code → (R : List (List Fact)) → StandsFor (w.nodes MidTier x) m R
    → held_code (held_in c.u x (newest R)) t n ≡ Some code
held_for c w i x t n code m k e R s = held_codes c.u x (newest R) t n
    ∙ disk_of (λ n m. NodeOk c (past c w i.codes) MidTier (i.h MidTier) (log_soup MidTier w.soup) x n m)
    (λ Q. code_of (codes_in (newest Q)) t n ≡ Some code) (w.nodes MidTier x) m R
    (λ σ k. ap (λ z. code_of z t n) k.is_held ∙ e) (λ k. ap (λ z. code_of z t n) k.is_held ∙ e)
    (λ k p Q f. let q = k.pending p Q f in ap (λ z. code_of z t n) q.is_held ∙ code_of-left (i.codes MidTier x) q.codes t n code e) k s

pub durable : {B : Type 0} (c : Config B) (w : World B) (t : Tier) (n : ℕ) (i : WorldOk c w) → ManyHold c (past c w i.codes) t n → FewGone c w → Durable c w t n
durable {B} c w t n i many few =
    let z = count-gap (2 * c.u + 1) (λ x. is_gone (w.nodes MidTier x).mode) (holds (past c w i.codes) t n) (omega arith) in
    let a = some_of (code_of (i.codes MidTier z.0) t n) z.2 in
    record {
      node = z.0;
      inside = z.1;
      here = z.3;
      code = a.0;
      is_served = has_answer c w t n a.0 i (code_right c w i z.0 t n a.0 a.1);
      is_held = held_for c w i z.0 t n a.0 (w.nodes MidTier z.0).mode (i.core.nodes MidTier z.0 z.1) a.1;
    }

-- each call below a floor that was sent is durable
pub floor_durable : {B : Type 0} (c : Config B) (w : World B) (place : ℕ) (k : Packet) (g n : ℕ) → WorldOk c w
    → slice_get w.soup place ≡ Some k → k.message ≡ msgs.Settle g → 0 < n → n < g → FewGone c w → Durable c w (tier_of k.to) n
floor_durable c w place k g n i e f a b few = durable c w (tier_of k.to) n i ((sent c w place k (msgs.Settle g) i e f).many n a b) few

-- a floor that a backend's chosen log settles
pub settled_floor : {B : Type 0} (c : Config B) (w : World B) (t : Tier) (p g : ℕ) (i : WorldOk c w)
    → slice_get (w.logs t) p ≡ Some (OfBack (Settle g)) → FloorOk c (past c w i.codes) t g
settled_floor {B} c w t p g i e = floor_in t
    (meets_good c.u (i.h t) (log_soup t w.soup) (w.logs t) (ValueOk c (past c w i.codes) t) p (OfBack (Settle g))
    (i.core.logs t) ((i.core.logs t).sound p (OfBack (Settle g)) e))
  where
    floor_in : (t : Tier) → ValueOk c (past c w i.codes) t p (OfBack (Settle g)) → FloorOk c (past c w i.codes) t g
    floor_in MidTier k = absurd k
    floor_in Inv k = k
    floor_in Pay k = k

-- each call below such a floor is durable
pub settled_durable : {B : Type 0} (c : Config B) (w : World B) (t : Tier) (p g n : ℕ) → WorldOk c w
    → slice_get (w.logs t) p ≡ Some (OfBack (Settle g)) → 0 < n → n < g → FewGone c w → Durable c w t n
settled_durable c w t p g n i e a b few = durable c w t n i ((settled_floor c w t p g i e).many n a b) few

-- each call whose answer a decided round used is durable
pub used_durable : {B : Type 0} (c : Config B) (w : World B) (r : ℕ) (v : Verdict) (R : Round) (j : ℕ) (q : Want)
    (k : Number) → WorldOk c w → slice_get (w.logs MidTier) (2 * r + 1) ≡ Some (OfMid (Decided v))
    → round c.service.programs c.depth (w.logs MidTier) (served_of c w) r ≡ Some R
    → slice_get R.wants j ≡ Some q → q.call ≡ Some k → FewGone c w → Durable c w k.tier k.num
used_durable {B} c w r v R j q k i e f g h few =
    let o : VerdictOk c (past c w i.codes) r v = at_round c (past c w i.codes) r v (values c w i.codes i.h i.core (2 * r + 1) (OfMid (Decided v)) e) in
    let is = o.is_round in
    let there : round c.service.programs c.depth (w.logs MidTier) (server c.service w.hist).served r
    ≡ Some R = subst (λ A. round c.service.programs c.depth (w.logs MidTier) A r ≡ Some R) (served_now c w i) f in
    let same : o.made ≡ R = cc in
    durable c w k.tier k.num i (o.held.at j q k (subst (λ (z : Round). slice_get z.wants j ≡ Some q) (sym same) g) h) few
