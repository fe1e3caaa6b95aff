-- Each event keeps the invariant.
use Rattle.std.proofs.Common.{◌≡◌, ℕ, ◌+◌, ◌*◌, ◌<◌, false, List, [], ◌∷◌, refl, sym, ap, ◌∙◌, Option, Some, None, zero, suc}
use Rattle.std.specs.Prelude.{slice_get, nat_lt, ◌||◌, not}
use Rattle.std.proofs.lemmas.Bool.{cond_both, ltb-true, or_parts}
use Rattle.log_model.specs.declared.fact.Fact.{Fact}
use Rattle.log_model.specs.Log.{LogState, Turn}
use Rattle.log_model.specs.Rows.{lead, offer, on_msg}
use Rattle.log_model.specs.Recover.{onto, newest, recover}
use Rattle.log_model.specs.Nodes.{or_written}
use Rattle.log_model.specs.World.{Packet, Mode, LogNode, World, Device, Event, with_node, failed, is_well, takes, at_up}
use Rattle.log_model.specs.World.{at_node, delivered, crashed, up_from, up_as, found_at, restarted, changes, happens}
use Rattle.log_model.specs.World.{start, run}
use Rattle.log_model.specs.Nodes.Mode.{Up, Down, Gone}
use Rattle.log_model.specs.Nodes.Device.{Fine, CutKeep, CutDrop, Fault}
use Rattle.log_model.specs.World.Event.{Deliver, Lead, Offer, Crash, Restart, Wipe}
use Rattle.log_model.proofs.Basics.{Every, every-get}
use Rattle.log_model.proofs.Invariant.{PacketOk, ModeOk, Inv, TurnOk, IsPending}
use Rattle.log_model.proofs.Step.{quiet_node, restored, turn_kept, write_kept}
use Rattle.log_model.proofs.History.{newest-push}
use Rattle.log_model.proofs.Rows.{Known, lead_ok}
use Rattle.log_model.proofs.Votes.{offer_ok, on_msg_ok}

-- what a fault may have written is a turn's
pending : {V : Type 0} (u : ℕ) (w : World V) (x : ℕ) (t : Turn V) (i : Inv u w) → newest (w.nodes x).records ≡ i.h x → TurnOk u i.h w.soup x t
    → (fs : List (Fact V)) → fs ≡ t.facts → Every (IsPending u i.h w.soup x) (or_written (w.nodes x).records fs)
pending u w x t i same k [] e = tt
pending u w x t i same k (f ∷ fs) e = (
  record {
    turn = t;
    is = newest-push (w.nodes x).records (f ∷ fs) []
        ∙ ap (λ g. onto g (newest (w.nodes x).records)) e ∙ ap (onto t.facts) same;
    ok = k;
  },
  tt,
)

failed_ok : {V : Type 0} (u : ℕ) (w : World V) (x : ℕ) (d : Device) (t : Turn V) (i : Inv u w)
    → newest (w.nodes x).records ≡ i.h x → TurnOk u i.h w.soup x t → is_well d t.facts ≡ false
    → Inv u (with_node w x (failed (w.nodes x) t.facts d))
failed_ok u w x Fine t i same k e = absurd (cc)
failed_ok u w x CutKeep t i same k e = write_kept u w x t (failed (w.nodes x) t.facts CutKeep) i k
    (λ g f. (newest-push (w.nodes x).records t.facts [] ∙ ap (onto t.facts) same ∙ sym f, tt))
failed_ok u w x CutDrop t i same k e = quiet_node u w x (failed (w.nodes x) t.facts CutDrop) i (λ l. (same, tt))
failed_ok u w x Fault t i same k e = quiet_node u w x (failed (w.nodes x) t.facts Fault) i (λ l. (same, pending u w x t i same k t.facts refl))

takes_ok : {V : Type 0} (u : ℕ) (w : World V) (x : ℕ) (d : Device) (t : Turn V) (i : Inv u w)
    → newest (w.nodes x).records ≡ i.h x → TurnOk u i.h w.soup x t → Inv u (takes w x d t)
takes_ok u w x d t i same k = cond_both (is_well d t.facts) _ _ (Inv u) (λ e. turn_kept u w x t i same k) (λ e. failed_ok u w x d t i same k e)

up_ok : {V : Type 0} (u : ℕ) (w : World V) (x : ℕ) (d : Device) (turn : LogState V → Turn V) (m : Mode (LogState V))
    (i : Inv u w) → u < 128 → x < 2 * u + 1 → ModeOk u i.h w.soup x (w.nodes x) m
    → ((log : LogState V) → Known u i.h w.soup x log → TurnOk u i.h w.soup x (turn log)) → Inv u (at_up w x d m turn)
up_ok u w x d turn (Up log) i few lx k f = takes_ok u w x d (turn log) i k.0 (f log (record { few = few; inside = lx; history = i.history; state = k.1 }))
up_ok u w x d turn Down i few lx k f = i
up_ok u w x d turn Gone i few lx k f = i

node_ok : {V : Type 0} (u : ℕ) (w : World V) (x : ℕ) (d : Device) (turn : LogState V → Turn V) (i : Inv u w) → u < 128
    → ((log : LogState V) → Known u i.h w.soup x log → TurnOk u i.h w.soup x (turn log)) → Inv u (at_node u w x d turn)
node_ok u w x d turn i few f = cond_both (nat_lt x (2 * u + 1)) _ _ (Inv u)
    (λ e. let lx : x < 2 * u + 1 = ltb-true _ _ e in up_ok u w x d turn (w.nodes x).mode i few lx (i.nodes x lx) f) (λ e. i)

delivered_ok : {V : Type 0} (u : ℕ) (w : World V) (d : Device) (place : ℕ) (o : Option (Packet V)) (i : Inv u w)
    → u < 128 → slice_get w.soup place ≡ o → Inv u (delivered u w d o)
delivered_ok u w d place None i few e = i
delivered_ok u w d place (Some j) i few e = node_ok u w j.to d (λ log. on_msg u log j.from j.msg) i few
    (λ log k. on_msg_ok u i.h w.soup j.to log place j j.msg k e refl (every-get (PacketOk u i.h w.soup) w.soup place j i.history.packets e))

changes_ok : {V : Type 0} (u : ℕ) (w : World V) (x : ℕ) (node : LogNode V) (i : Inv u w)
    → (x < 2 * u + 1 → ModeOk u i.h w.soup x node node.mode) → Inv u (changes u w x node)
changes_ok u w x node i k = cond_both (nat_lt x (2 * u + 1)) _ _ (Inv u) (λ e. quiet_node u w x node i k) (λ e. i)

crashed_ok : {V : Type 0} (u : ℕ) (w : World V) (i : Inv u w) (x : ℕ) (node : LogNode V) (m : Mode (LogState V))
    → ModeOk u i.h w.soup x node m → ModeOk u i.h w.soup x node node.mode
    → ModeOk u i.h w.soup x (crashed node m) (crashed node m).mode
crashed_ok u w i x node (Up log) k l = (k.0, tt)
crashed_ok u w i x node Down k l = l
crashed_ok u w i x node Gone k l = l

from_records : {V : Type 0} (u : ℕ) (soup : List (Packet V)) (x : ℕ) (g : ℕ → List (Fact V)) (R : List (List (Fact V)))
    → newest R ≡ g x → ModeOk u g soup x (up_from (recover u) R) (up_from (recover u) R).mode
from_records u soup x g R e = (e, rw e (restored u g soup x (g x)))

up_as_ok : {V : Type 0} (u : ℕ) (w : World V) (x k : ℕ) (o : Option (List (List (Fact V)))) (i : Inv u w)
    → ModeOk u i.h w.soup x (w.nodes x) (w.nodes x).mode → Every (IsPending u i.h w.soup x) (w.nodes x).others
    → slice_get (w.nodes x).others k ≡ o → Inv u (with_node w x (up_as (recover u) (w.nodes x) o))
up_as_ok u w x k None i l p e = quiet_node u w x (w.nodes x) i (λ lx. l)
up_as_ok {V} u w x k (Some R) i l p e = write_kept u w x q.turn (up_from (recover u) R) i q.ok (λ g f. from_records u w.soup x g R (q.is ∙ sym f))
  where
    q : IsPending u i.h w.soup x R
    q = every-get (IsPending u i.h w.soup x) (w.nodes x).others k R p e

found_ok : {V : Type 0} (u : ℕ) (w : World V) (x k : ℕ) (i : Inv u w)
    → ModeOk u i.h w.soup x (w.nodes x) (w.nodes x).mode → ModeOk u i.h w.soup x (w.nodes x) Down
    → Inv u (with_node w x (found_at (recover u) (w.nodes x) k))
found_ok u w x zero i l m = quiet_node u w x (up_from (recover u) (w.nodes x).records) i (λ lx. from_records u w.soup x i.h (w.nodes x).records m.0)
found_ok u w x (suc k) i l m = up_as_ok u w x k (slice_get (w.nodes x).others k) i l m.1 refl

restarted_ok : {V : Type 0} (u : ℕ) (w : World V) (x : ℕ) (found : Option ℕ) (m : Mode (LogState V)) (i : Inv u w)
    → ModeOk u i.h w.soup x (w.nodes x) m → ModeOk u i.h w.soup x (w.nodes x) (w.nodes x).mode
    → Inv u (with_node w x (restarted (recover u) (w.nodes x) found m))
restarted_ok u w x (Some k) Down i m l = found_ok u w x k i l m
restarted_ok u w x None Down i m l = quiet_node u w x (w.nodes x) i (λ lx. l)
restarted_ok u w x (Some k) (Up log) i m l = quiet_node u w x (w.nodes x) i (λ lx. l)
restarted_ok u w x None (Up log) i m l = quiet_node u w x (w.nodes x) i (λ lx. l)
restarted_ok u w x (Some k) Gone i m l = quiet_node u w x (w.nodes x) i (λ lx. l)
restarted_ok u w x None Gone i m l = quiet_node u w x (w.nodes x) i (λ lx. l)

pub happens_ok : {V : Type 0} (u : ℕ) (w : World V) (e : Event V) → u < 128 → Inv u w → Inv u (happens u w e)
happens_ok u w (Deliver place d) few i = delivered_ok u w d place (slice_get w.soup place) i few refl
happens_ok u w (Lead x d) few i = node_ok u w x d (λ log. lead u x log) i few (λ log k. lead_ok u i.h w.soup x log k)
happens_ok u w (Offer x own d) few i = node_ok u w x d (λ log. offer u x log own) i few (λ log k. offer_ok u i.h w.soup x log log.leader own k k.state.leader)
happens_ok u w (Crash x) few i = changes_ok u w x _ i (λ l. crashed_ok u w i x (w.nodes x) (w.nodes x).mode (i.nodes x l) (i.nodes x l))
happens_ok u w (Restart x found) few i = cond_both (nat_lt x (2 * u + 1)) _ _ (Inv u)
    (λ e. let l : x < 2 * u + 1 = ltb-true _ _ e in restarted_ok u w x found (w.nodes x).mode i (i.nodes x l)
    (i.nodes x l)) (λ e. i)
happens_ok u w (Wipe x) few i = changes_ok u w x _ i (λ l. tt)

pub start_ok : {V : Type 0} (u : ℕ) → Inv {V = V} u start
start_ok {V} u = record {
  h = λ x. [];
  history = record { orderly = λ x l. tt; votes = λ x l p b v d. absurd d; learned = λ x l p v e. absurd (cc); packets = tt };
  nodes = λ x l. (refl, tt);
}

pub run_ok : {V : Type 0} (u : ℕ) (es : List (Event V)) (w : World V) → u < 128 → Inv u w → Inv u (run u es w)
run_ok u [] w few i = i
run_ok u (e ∷ es) w few i = run_ok u es (happens u w e) few (happens_ok u w e few i)
