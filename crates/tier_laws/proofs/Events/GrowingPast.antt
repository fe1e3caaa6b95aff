-- What is said of packets, values, votes and states: facts of a past that only grows.
pub use Rattle.tier_laws.proofs.Invariant.Past.{Past, holds, Grows}
pub use Rattle.tier_laws.proofs.Invariant.ValuesAreGood.{Submitted, BatchOk, MidOk, BackOk, ValueOk}
pub use Rattle.tier_laws.proofs.Invariant.VerdictsHaveCauses.{DidRun, RunOk, has_run, VerdictBy, VerdictOk}
pub use Rattle.tier_laws.proofs.Invariant.FloorsAreHeld.{ManyHold, FloorOk, JobHeld}
pub use Rattle.tier_laws.proofs.Invariant.PacketsAreTrue.{SentBy, SentOk}
pub use Rattle.tier_laws.proofs.Invariant.MiddleNodes.{MidOther, HeldOk, vote_by}
use Rattle.std.proofs.Common.{◌≡◌, ℕ, ◌+◌, ◌*◌, ◌<◌, List, length, sym, ap, ◌∙◌, Some, arith}
use Rattle.std.specs.Prelude.{slice_get}
use Rattle.aeg_base.specs.declared.names.Tier.{Tier}
use Rattle.aeg_base.specs.declared.names.Tier.TheVariants.{Mid as MidTier, Inv, Pay}
use Rattle.round_model.specs.Held.{HeldState}
use Rattle.log_model.proofs.Basics.{Every, count-more, every-weaker}
use Rattle.log_values.specs.declared.any_value.AnyValue.{AnyValue}
use Rattle.log_values.specs.declared.any_value.AnyValue.TheVariants.{Back as OfBack, Mid as OfMid}
use Rattle.log_values.specs.declared.back_value.BackValue.TheVariants.{Call as Called, Settle as Settled}
use Rattle.log_values.specs.declared.entry.Entry.{Entry}
use Rattle.log_values.specs.declared.mid_value.MidValue.TheVariants.{Batch, Verdict as Decided}
use Rattle.log_values.specs.declared.mid_value.Verdict.{Verdict}
use Rattle.log_values.specs.declared.mid_value.Verdict.TheVariants.{Commit, Serial}
use Rattle.round_model.specs.After.{Round, round}
use Rattle.tier_laws.proofs.MidNodes.CodesOfFacts.{Code, code_of}
use Rattle.round_model.specs.Lists.{half}
use Rattle.aeg_base.specs.declared.names.End.{End}
use Rattle.frames.specs.declared.message.Msg.{Msg}
use Rattle.frames.specs.declared.message.Msg.TheVariants as msgs
use Rattle.round_model.specs.Tables.{Want}
use Rattle.round_model.specs.Verdicts.{Vote}
use Rattle.run_model.specs.World.{Config}
use Rattle.tier_laws.specs.Said.{Laws}
use Rattle.tier_laws.proofs.Server.GrowingHistory.{Decision, answers-kept, tables-kept}
use Rattle.tier_laws.proofs.Rounds.AnyOrder.{kept-refl}
use Rattle.tier_laws.proofs.Rounds.StableRounds.{MoreLog, after-more, round-more}
use Rattle.tier_model.specs.Mid.{Mid}
use Rattle.tier_model.specs.Moves.{Packet, tier_of}
use Rattle.frames.specs.Headers.{end_index}

pub more-refl : {V : Type 0} (xs : List V) → MoreLog xs xs
more-refl xs = record { at = λ i v e. e }

pub grows-refl : {B : Type 0} (P : Past B) → Grows P P
grows-refl P = record { held = λ x t n e. e; log = more-refl P.log; kept = kept-refl P.server; runs = more-refl P.runs; submitted = more-refl P.submitted }

-- FACTS

-- THEY GROW

pub submitted-more : {B : Type 0} (P Q : Past B) (e : Entry) → Grows P Q → Submitted P e → Submitted Q e
submitted-more P Q e g k = (k.0, g.submitted.at k.0 e k.1)

pub run-more : {B : Type 0} (P Q : Past B) (v : Vote) → Grows P Q → DidRun P v → DidRun Q v
run-more P Q v g k = (k.0, g.runs.at k.0 v k.1)

pub many-more : {B : Type 0} (c : Config B) (P Q : Past B) (t : Tier) (n : ℕ) → Grows P Q → ManyHold c P t n → ManyHold c Q t n
many-more c P Q t n g k = omega (arith, k, count-more (2 * c.u + 1) (holds P t n) (holds Q t n) (λ x e. g.held x t n e))

pub floor-more : {B : Type 0} (c : Config B) (P Q : Past B) (t : Tier) (f : ℕ) → Grows P Q → FloorOk c P t f → FloorOk c Q t f
floor-more c P Q t f g k = record {
  served = λ n a b. let r = k.served n a b in (r.0, g.kept.served t n r.0 r.1);
  many = λ n a b. many-more c P Q t n g (k.many n a b);
}

pub job_held-more : {B : Type 0} (c : Config B) (P Q : Past B) (ws : List Want) → Grows P Q → JobHeld c P ws → JobHeld c Q ws
job_held-more c P Q ws g k = record { at = λ i w q e f. many-more c P Q q.tier q.num g (k.at i w q e f) }

pub is_round-more : {B : Type 0} (c : Config B) (P Q : Past B) (r : ℕ) (R : Round) → Grows P Q
    → round c.service.programs c.depth P.log P.server.served r ≡ Some R
    → round c.service.programs c.depth Q.log Q.server.served r ≡ Some R
is_round-more c P Q r R g e = round-more c.service c.depth P.log Q.log P.server.served Q.server.served r R g.log (answers-kept P.server Q.server g.kept) e

pub run_ok-more : {B : Type 0} (c : Config B) (P Q : Past B) (v : Vote) → Grows P Q → RunOk c P v → RunOk c Q v
run_ok-more c P Q v g k = record {
  inside = k.inside;
  made = k.made;
  is_round = is_round-more c P Q v.round k.made g k.is_round;
  held = job_held-more c P Q k.made.wants g k.held;
  is_ordered = k.is_ordered;
  is_token = k.is_token;
}

verdict_by-more : {B : Type 0} (c : Config B) (P Q : Past B) (r : ℕ) (R : Round) (v : Verdict) → Grows P Q → VerdictBy c P r R v → VerdictBy c Q r R v
verdict_by-more c P Q r R (Commit o order) g k = (
  k.0,
  k.1,
  (
    k.2.0,
    k.2.1,
    (k.2.2.0, k.2.2.1, λ y e. let w = k.2.2.2 y e in (w.0, run-more P Q w.0 g w.1, w.2, w.3, w.4)),
  ),
  (k.3.0, run-more P Q k.3.0 g k.3.1, k.3.2, k.3.3, k.3.4),
)
verdict_by-more c P Q r R Serial g k = (k.0, k.1, run-more P Q k.0 g k.2, run-more P Q k.1 g k.3, k.4, k.5, k.6, k.7)

pub verdict-more : {B : Type 0} (c : Config B) (P Q : Past B) (r : ℕ) (v : Verdict) → Grows P Q → VerdictOk c P r v → VerdictOk c Q r v
verdict-more c P Q r v g k = record {
  made = k.made;
  is_round = is_round-more c P Q r k.made g k.is_round;
  held = job_held-more c P Q k.made.wants g k.held;
  by = verdict_by-more c P Q r k.made v g k.by;
}

pub mid_ok-more : {B : Type 0} (c : Config B) (P Q : Past B) (p : ℕ) (v : AnyValue) → Grows P Q → MidOk c P p v → MidOk c Q p v
mid_ok-more c P Q p (OfMid (Batch es)) g k = (k.0, λ i e f. submitted-more P Q e g (k.1 i e f))
mid_ok-more c P Q p (OfBack v) g k = absurd k
mid_ok-more c P Q p (OfMid (Decided v)) g k = (k.0, verdict-more c P Q (half p) v g k.1)

pub back_ok-more : {B : Type 0} (c : Config B) (P Q : Past B) (t : Tier) (p : ℕ) (v : AnyValue) → Grows P Q → BackOk c P t p v → BackOk c Q t p v
back_ok-more c P Q t p (OfBack (Called n text)) g k = g.kept.calls t n text k
back_ok-more c P Q t p (OfMid v) g k = absurd k
back_ok-more c P Q t p (OfBack (Settled f)) g k = floor-more c P Q t f g k

sent_by-more : {B : Type 0} (c : Config B) (P Q : Past B) (from to : End) (k : Msg) → Grows P Q → SentBy c P from to k → SentBy c Q from to k
sent_by-more c P Q from to (msgs.Log p) g o = tt
sent_by-more c P Q from to (msgs.Request seq text) g o = submitted-more P Q _ g o
sent_by-more c P Q from to (msgs.Reply who text) g o = (o.0, g.kept.replies who.client who.seq text o.1)
sent_by-more c P Q from to (msgs.Token r token order) g o = run-more P Q _ g o
sent_by-more c P Q from to (msgs.Call n text) g o = g.kept.calls (tier_of to) n text o
sent_by-more c P Q from to (msgs.Answer n code) g o = g.kept.served (tier_of from) n code o
sent_by-more c P Q from to (msgs.Have t n code) g o = (g.kept.served t n code o.0, g.held (end_index from) t n o.1)
sent_by-more c P Q from to (msgs.Settle f) g o = floor-more c P Q (tier_of to) f g o

pub sent-more : {B : Type 0} (c : Config B) (P Q : Past B) (k : Packet) → Grows P Q → SentOk c P k → SentOk c Q k
sent-more c P Q k g o = sent_by-more c P Q k.from k.to k.message g o

pub parcels-more : {B : Type 0} (c : Config B) (P Q : Past B) (ks : List Packet) → Grows P Q → Every (SentOk c P) ks → Every (SentOk c Q) ks
parcels-more c P Q ks g e = every-weaker (SentOk c P) (SentOk c Q) (λ k o. sent-more c P Q k g o) ks e

pub value_ok-more : {B : Type 0} (c : Config B) (P Q : Past B) (t : Tier) (p : ℕ) (v : AnyValue) → Grows P Q → ValueOk c P t p v → ValueOk c Q t p v
value_ok-more c P Q MidTier p v g k = mid_ok-more c P Q p v g k
value_ok-more c P Q Inv p v g k = back_ok-more c P Q Inv p v g k
value_ok-more c P Q Pay p v g k = back_ok-more c P Q Pay p v g k

-- A MIDDLE NODE'S STATE, BESIDE ITS LOG

pub held-more : {B : Type 0} (c : Config B) (P Q : Past B) (x : ℕ) (H : HeldState) → Grows P Q
    → Q.codes MidTier x ≡ P.codes MidTier x → HeldOk c P x H → HeldOk c Q x H
held-more c P Q x H g e k = record {
  faults = k.faults;
  me = k.me;
  in_order = k.in_order;
  codes = λ t n. k.codes t n ∙ ap (λ z. code_of z t n) (sym e);
  noted = λ y t n f. g.held y t n (k.noted y t n f);
}

pub other-more : {B : Type 0} (c : Config B) (P Q : Past B) (x : ℕ) (σ : Mid) → Grows P Q
    → Q.codes MidTier x ≡ P.codes MidTier x → MidOther c P x σ → MidOther c Q x σ
other-more c P Q x σ g e k = record {
  is_after = after-more c.service c.depth P.log Q.log P.server.served Q.server.served σ.applied σ.tables g.log
      (answers-kept P.server Q.server g.kept) k.is_after;
  tables = tables-kept P.server Q.server σ.tables g.kept k.tables;
  pending = λ y e f. submitted-more P Q e g (k.pending y e f);
  tally = λ r y q f. run-more P Q (vote_by r y q) g (k.tally r y q f);
  in_order = k.in_order;
  spec = λ v f. run-more P Q v g (k.spec v f);
  held = held-more c P Q x σ.held g e k.held;
}

-- what is known of the past, whatever the nodes
pub record Known {B : Type 0} (c : Config B) (P : Past B) : Type 0 where
  pub laws : Laws c.service.programs
  pub values : (p : ℕ) (v : AnyValue) → slice_get P.log p ≡ Some v → MidOk c P p v
  pub decided : (r : ℕ) → r < half (length P.log) → Decision c.service c.depth P.log P.server r
  pub runs : (i : ℕ) (v : Vote) → slice_get P.runs i ≡ Some v → RunOk c P v
  pub codes : (t : Tier) (x i : ℕ) (k : Code) → slice_get (P.codes t x) i ≡ Some k → P.server.served k.tier k.num ≡ Some k.code
