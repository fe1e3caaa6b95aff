-- Chosen logs and the history grow at their ends, so what is submitted later starts later.
use Rattle.std.proofs.Common.{◌≡◌, ℕ, ◌+◌, ◌*◌, ◌<◌, ◌≤◌, List, [], ◌∷◌, ◌++◌, length, refl, sym, ap, ◌∙◌, subst, inl}
use Rattle.std.proofs.Common.{inr, Option, Some, None, suc, append_assoc}
use Rattle.std.specs.Prelude.{slice_get, ◌⊎◌, ◌==◌, ◌&&◌, not, nat_lt, nat_le}
use Rattle.std.proofs.lemmas.Bool.{cond_both, cases_lt}
use Rattle.std.proofs.lemmas.List.{append-nil}
use Rattle.aeg_base.specs.declared.names.ReqId.{ReqId}
use Rattle.aeg_base.specs.declared.names.Tier.{Tier}
use Rattle.aeg_base.specs.declared.names.Tier.TheVariants.{Mid as MidTier, Inv, Pay}
use Rattle.aeg_base.specs.declared.names.End.{End}
use Rattle.aeg_base.specs.declared.names.End.TheVariants.{Node as OfNode, Client}
use Rattle.server_model.specs.declared.history.Hist.TheVariants.{Start}
use Rattle.log_model.specs.Chosen.{chosen_among}
use Rattle.log_model.specs.Nodes.{Mode, Node}
use Rattle.log_model.specs.Nodes.Mode.{Down, Gone, Up}
use Rattle.log_values.specs.declared.fact.Fact.{Fact}
use Rattle.log_values.specs.declared.any_value.AnyValue.{AnyValue}
use Rattle.frames.specs.declared.message.Msg.{Msg}
use Rattle.frames.specs.declared.message.Msg.TheVariants as msgs
use Rattle.round_model.specs.Lists.{is_some}
use Rattle.round_model.specs.Service.{is_request}
use Rattle.tier_model.specs.Kinds.{State}
use Rattle.round_model.specs.Verdicts.{Vote}
use Rattle.tier_model.specs.MidRows as mids
use Rattle.tier_model.specs.Moves.{Move, Packet}
use Rattle.run_model.specs.declared.trace.Fared.{Fared}
use Rattle.run_model.specs.declared.trace.TraceEvent.{TraceEvent}
use Rattle.run_model.specs.declared.trace.TraceEvent.TheVariants.{Submit, Deliver, Short, Lead, Offer, Work, Retry, Crash, Restart, Wipe}
use Rattle.run_model.specs.World.{Config, World, Fate, start, fate, unwritten, kind_at, ran, node_up, at_node, placed}
use Rattle.run_model.specs.World.{with_node, opens, is_client_number, submits, reopens, takes_reply, client_gets}
use Rattle.run_model.specs.World.{node_gets, arrives, delivered, shortened, leads, offers, works, node_retries, retries}
use Rattle.run_model.specs.World.{can_fare, if_can, happens}
use Rattle.run_model.specs.Runs.{chosen_next, grown, grows, grows_at, run, steps_at, world}
use Rattle.run_model.proofs.Appending.{run-append}
use Rattle.tier_laws.specs.Said.{Laws, IsFront, WasSubmitted, chosen_log}
use Rattle.tier_laws.proofs.Events.EachEvent.{world_ok}
use Rattle.run_model.specs.Runs.{log_soup}
use Rattle.tier_laws.proofs.Lists.ItemsByIndex.{by_tier, get_left, get_within}

-- AN EVENT LEAVES WHAT WAS CHOSEN

pub record Keeps {B : Type 0} (w z : World B) : Type 0 where
  pub hist : z.hist ≡ w.hist
  pub logs : z.logs ≡ w.logs

keeps_refl : {B : Type 0} (w : World B) → Keeps w w
keeps_refl w = record { hist = refl; logs = refl }

node_up_keeps : {B : Type 0} (w : World B) (t : Tier) (x : ℕ) (d : Fate) (move : State B t → Move (State B t))
    (ran : State B t → List Vote) (m : Mode (State B t)) → Keeps w (node_up w t x d move ran m)
node_up_keeps w t x d move ran (Up σ) = record { hist = refl; logs = refl }
node_up_keeps w t x d move ran Down = keeps_refl w
node_up_keeps w t x d move ran Gone = keeps_refl w

at_node_keeps : {B : Type 0} (c : Config B) (w : World B) (t : Tier) (x : ℕ) (d : Fate) (move : State B t
    → Move (State B t)) (ran : State B t → List Vote) → Keeps w (at_node c w t x d move ran)
at_node_keeps c w t x d move ran = cond_both (nat_lt x (2 * c.u + 1)) (node_up w t x d move ran (w.nodes t x).mode) w
    (Keeps w) (λ e. node_up_keeps w t x d move ran (w.nodes t x).mode) (λ e. keeps_refl w)

placed_keeps : {B : Type 0} (c : Config B) (w : World B) (t : Tier) (x : ℕ) (node : Node (State B t) Fact) → Keeps w (placed c w t x node)
placed_keeps c w t x node = cond_both (nat_lt x (2 * c.u + 1)) (with_node w t x node [] []) w (Keeps w)
    (λ e. record { hist = refl; logs = refl }) (λ e. keeps_refl w)

takes_keeps : {B : Type 0} (w : World B) (y s : ℕ) (text : List ℕ) → Keeps w (takes_reply w y s text)
takes_keeps w y s text = cond_both (is_some (w.clients y).opened && (s == (w.clients y).last)) _ w (Keeps w)
    (λ e. record { hist = refl; logs = refl }) (λ e. keeps_refl w)

submits_keeps : {B : Type 0} (c : Config B) (w : World B) (y : ℕ) (text : List ℕ) → Keeps w (submits c w y text)
submits_keeps c w y text = cond_both (is_client_number y
    && (is_request c.service.programs (record { client = y; seq = suc (w.clients y).last }) text
    && (not (is_some (w.clients y).opened) && nat_lt (w.clients y).last 65536))) (opens c.u w y text) w (Keeps w)
    (λ e. record { hist = refl; logs = refl }) (λ e. keeps_refl w)

reopens_keeps : {B : Type 0} (c : Config B) (w : World B) (y : ℕ) (o : Option (List ℕ)) → Keeps w (reopens c w y o)
reopens_keeps c w y None = keeps_refl w
reopens_keeps c w y (Some text) = record { hist = refl; logs = refl }

client_keeps : {B : Type 0} (w : World B) (y : ℕ) (message : Msg) → Keeps w (client_gets w y message)
client_keeps w y (msgs.Reply who text) = takes_keeps w y who.seq text
client_keeps w y (msgs.Log p) = keeps_refl w
client_keeps w y (msgs.Request seq text) = keeps_refl w
client_keeps w y (msgs.Token r token order) = keeps_refl w
client_keeps w y (msgs.Call n text) = keeps_refl w
client_keeps w y (msgs.Answer n code) = keeps_refl w
client_keeps w y (msgs.Have t n code) = keeps_refl w
client_keeps w y (msgs.Settle g) = keeps_refl w

node_gets_keeps : {B : Type 0} (c : Config B) (w : World B) (fared : Fared) (from : End) (message : Msg) (t : Tier)
    (x : ℕ) → Keeps w (node_gets c w fared from message t x)
node_gets_keeps c w fared from message t x = at_node_keeps c w t x (fate c fared) ((kind_at c t x).on_frame from message) (λ σ. [])

arrives_keeps : {B : Type 0} (c : Config B) (w : World B) (fared : Fared) (from : End) (message : Msg) (to : End) → Keeps w (arrives c w fared from message to)
arrives_keeps c w fared from message (OfNode n) = node_gets_keeps c w fared from message n.tier n.index
arrives_keeps c w fared from message (Client y) = client_keeps w y message

delivered_keeps : {B : Type 0} (c : Config B) (w : World B) (fared : Fared) (o : Option Packet) → Keeps w (delivered c w fared o)
delivered_keeps c w fared None = keeps_refl w
delivered_keeps c w fared (Some k) = arrives_keeps c w fared k.from k.message k.to

shortened_keeps : {B : Type 0} (c : Config B) (w : World B) (fared : Fared) (bytes : ℕ) (o : Option Packet) → Keeps w (shortened c w fared bytes o)
shortened_keeps c w fared bytes None = keeps_refl w
shortened_keeps c w fared bytes (Some k) = cond_both (nat_le (c.frame_length k.from k.message) bytes)
    (arrives c w fared k.from k.message k.to) w (Keeps w) (λ e. arrives_keeps c w fared k.from k.message k.to) (λ e. keeps_refl w)

lead_keeps : {B : Type 0} (c : Config B) (w : World B) (fared : Fared) (t : Tier) (x : ℕ) → Keeps w (leads c w fared t x)
lead_keeps c w fared t x = at_node_keeps c w t x (fate c fared) (kind_at c t x).leads (λ σ. [])

offer_keeps : {B : Type 0} (c : Config B) (w : World B) (fared : Fared) (t : Tier) (x : ℕ) → Keeps w (offers c w fared t x)
offer_keeps c w fared t x = at_node_keeps c w t x (fate c fared) (kind_at c t x).offers (λ σ. [])

work_keeps : {B : Type 0} (c : Config B) (w : World B) (t : Tier) (x : ℕ) (schedule : List ℕ) → Keeps w (works c w t x schedule)
work_keeps c w MidTier x schedule = at_node_keeps c w MidTier x unwritten (λ σ. mids.work c.u c.service.programs x σ schedule) (ran c x schedule)
work_keeps c w Inv x schedule = keeps_refl w
work_keeps c w Pay x schedule = keeps_refl w

node_retry_keeps : {B : Type 0} (c : Config B) (w : World B) (t : Tier) (x : ℕ) → Keeps w (node_retries c w t x)
node_retry_keeps c w t x = at_node_keeps c w t x unwritten (kind_at c t x).retry (λ σ. [])

retry_keeps : {B : Type 0} (c : Config B) (w : World B) (end : End) → Keeps w (retries c w end)
retry_keeps c w (OfNode n) = node_retry_keeps c w n.tier n.index
retry_keeps c w (Client y) = reopens_keeps c w y (w.clients y).opened

if_can_keeps : {B : Type 0} (fared : Fared) (new w : World B) → Keeps w new → Keeps w (if_can fared new w)
if_can_keeps fared new w k = cond_both (can_fare fared) new w (Keeps w) (λ e. k) (λ e. keeps_refl w)

pub happens_keeps : {B : Type 0} (c : Config B) (w : World B) (e : TraceEvent) → Keeps w (happens c w e)
happens_keeps c w (Submit y text) = submits_keeps c w y text
happens_keeps c w (Deliver k fared) = if_can_keeps fared _ w (delivered_keeps c w fared (slice_get w.soup k))
happens_keeps c w (Short k bytes fared) = if_can_keeps fared _ w (shortened_keeps c w fared bytes (slice_get w.soup k))
happens_keeps c w (Lead n fared) = if_can_keeps fared _ w (lead_keeps c w fared n.tier n.index)
happens_keeps c w (Offer n fared) = if_can_keeps fared _ w (offer_keeps c w fared n.tier n.index)
happens_keeps c w (Work n schedule) = work_keeps c w n.tier n.index schedule
happens_keeps c w (Retry end) = retry_keeps c w end
happens_keeps c w (Crash n) = placed_keeps c w n.tier n.index _
happens_keeps c w (Restart n found) = placed_keeps c w n.tier n.index _
happens_keeps c w (Wipe n) = placed_keeps c w n.tier n.index _

-- A RUN GOES ON

front_refl : {A : Type 0} (xs : List A) → IsFront xs xs
front_refl xs = ([], sym (append-nil xs))

front_then : {A : Type 0} (xs ys zs : List A) → IsFront xs ys → IsFront ys zs → IsFront xs zs
front_then xs ys zs f g = (f.0 ++ g.0, g.1 ∙ ap (λ z. z ++ g.0) f.1 ∙ append_assoc xs f.0 g.0)

pub front_at : {A : Type 0} (xs ys : List A) → IsFront xs ys → (i : ℕ) (a : A) → slice_get xs i ≡ Some a → slice_get ys i ≡ Some a
front_at xs ys f i a e = ap (λ z. slice_get z i) f.1 ∙ get_left xs f.0 i a e

-- what was chosen in w begins what was chosen in z
pub record Longer {B : Type 0} (w z : World B) : Type 0 where
  pub hist : IsFront w.hist z.hist
  pub logs : (t : Tier) → IsFront (w.logs t) (z.logs t)

longer_refl : {B : Type 0} (w : World B) → Longer w w
longer_refl w = record { hist = front_refl w.hist; logs = λ t. front_refl (w.logs t) }

longer_then : {B : Type 0} (w y z : World B) → Longer w y → Longer y z → Longer w z
longer_then w y z a b = record {
  hist = front_then w.hist y.hist z.hist a.hist b.hist;
  logs = λ t. front_then (w.logs t) (y.logs t) (z.logs t) (a.logs t) (b.logs t);
}

keeps_longer : {B : Type 0} (w z : World B) → Keeps w z → Longer w z
keeps_longer w z k = record {
  hist = subst (IsFront w.hist) (sym k.hist) (front_refl w.hist);
  logs = λ t. subst (λ K. IsFront (w.logs t) (K t)) (sym k.logs) (front_refl (w.logs t));
}

grown_longer : {B : Type 0} (c : Config B) (w : World B) (t : Tier) (o : Option AnyValue) → Longer w (grown c w t o)
grown_longer c w t None = longer_refl w
grown_longer c w t (Some v) = record {
  hist = (steps_at c w t v, refl);
  logs = by_tier (λ y K. IsFront (w.logs y) K) w.logs t (w.logs t ++ v ∷ []) (v ∷ [], refl) (λ y f. front_refl (w.logs y));
}

grows_longer : {B : Type 0} (c : Config B) (w : World B) → Longer w (grows c w)
grows_longer {B} c w = longer_then w one (grows c w) (grown_longer c w MidTier (chosen_next c w MidTier))
    (longer_then one two (grows c w) (grown_longer c one Inv (chosen_next c one Inv)) (grown_longer c two Pay (chosen_next c two Pay)))
  where
    one : World B
    one = grows_at c MidTier w

    two : World B
    two = grows_at c Inv one

run_longer : {B : Type 0} (c : Config B) (es : List TraceEvent) (w : World B) → Longer w (run c es w)
run_longer c [] w = longer_refl w
run_longer c (e ∷ es) w =
    longer_then w (happens c w e) (run c (e ∷ es) w) (keeps_longer w (happens c w e) (happens_keeps c w e))
    (longer_then (happens c w e) (grows c (happens c w e)) (run c (e ∷ es) w) (grows_longer c (happens c w e)) (run_longer c es (grows c (happens c w e))))

pub goes_on : {B : Type 0} (c : Config B) (es fs : List TraceEvent) → Longer (world c es) (world c (es ++ fs))
goes_on c es fs = subst (Longer (world c es)) (sym (run-append c es fs start)) (run_longer c fs (world c es))

pub log_goes_on : {B : Type 0} (c : Config B) (es fs : List TraceEvent) (t : Tier) → IsFront (chosen_log (world c es) t) (chosen_log (world c (es ++ fs)) t)
log_goes_on c es fs t = (goes_on c es fs).logs t

-- a start that was not submitted after es stands past the history of es
pub starts_later : {B : Type 0} (c : Config B) (es fs : List TraceEvent) (i n : ℕ) (who : ReqId) (body : List ℕ)
    → c.u < 128 → Laws c.service.programs → slice_get (world c (es ++ fs)).hist i ≡ Some (Start who n, body)
    → ((text : List ℕ) → WasSubmitted (world c es) who text → ⊥) → length (world c es).hist ≤ i
starts_later {B} c es fs i n who body few laws e new = go (cases_lt i (length (world c es).hist))
  where
    go : (i < length (world c es).hist) ⊎ (length (world c es).hist ≤ i) → length (world c es).hist ≤ i
    go (inr l) = l
    go (inl l) =
        let k = get_within (world c es).hist i l in
        let f : slice_get (world c (es ++ fs)).hist i ≡ Some k.0 = front_at (world c es).hist (world c (es ++ fs)).hist (goes_on c es fs).hist i k.0 k.1 in
        let same : k.0 ≡ (Start who n, body) = cc in
        let g : slice_get (world c es).hist i ≡ Some (Start who n, body) = k.1 ∙ ap Some same in
        absurd (new body ((world_ok c es few laws).core.starts i n who body g))
