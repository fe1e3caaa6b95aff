-- Where no disk met a fault each disk stands for one list.
use Rattle.std.proofs.Common.{◌≡◌, ◌+◌, ◌*◌, ◌&&◌, ◌==◌, nat_le, Bool, true, false, ℕ, zero, suc, List, [], length, refl, if◌then◌else◌}
use Rattle.std.specs.Prelude.{nat_lt, Option, Some, None, slice_get}
use Rattle.aeg_base.specs.declared.names.End.{End}
use Rattle.aeg_base.specs.declared.names.End.TheVariants.{Node as NodeEnd, Client}
use Rattle.aeg_base.specs.declared.names.Tier.{Tier}
use Rattle.aeg_base.specs.declared.names.Tier.TheVariants.{Mid, Inv, Pay}
use Rattle.server_model.specs.Server.{same_tier}
use Rattle.log_model.specs.Chosen.{chosen_among}
use Rattle.log_model.specs.Nodes.{Mode, Node, Device, put, recorded, stands, is_well, failed, moved, sent, crashed, up_as, found_at, restarted}
use Rattle.log_model.specs.Nodes.Mode.{Up, Down, Gone}
use Rattle.log_model.specs.Nodes.Device.{Fine as WasFine, CutKeep, CutDrop, Fault as WasFault}
use Rattle.log_values.specs.declared.any_value.AnyValue.{AnyValue}
use Rattle.log_values.specs.declared.fact.Fact.{Fact}
use Rattle.frames.specs.declared.message.Msg.{Msg}
use Rattle.frames.specs.declared.message.Msg.TheVariants as msgs
use Rattle.round_model.specs.Lists.{is_some}
use Rattle.round_model.specs.Verdicts.{Vote}
use Rattle.tier_model.specs.Moves.{Packet, Move}
use Rattle.tier_model.specs.Kinds.{State}
use Rattle.tier_model.specs.MidRows as mids
use Rattle.run_model.specs.declared.trace.Fared.{Fared}
use Rattle.run_model.specs.declared.trace.Fared.TheVariants.{Fine, Cut, Fault}
use Rattle.run_model.specs.declared.trace.Found.{Found}
use Rattle.run_model.specs.declared.trace.Found.TheVariants.{Reads, Fault as Fails}
use Rattle.run_model.specs.declared.trace.TraceEvent.{TraceEvent}
use Rattle.run_model.specs.declared.trace.TraceEvent.TheVariants.{Submit, Deliver, Short, Lead, Offer, Work, Retry, Crash, Restart, Wipe}
use Rattle.run_model.specs.World.{Config, World, Nodes, Fate, put_nodes, kind_at, with_node, node_up, at_node, moves}
use Rattle.run_model.specs.World.{placed, start, device_of, fate, unwritten, can_fare, ran, opens, submits, reopens}
use Rattle.run_model.specs.World.{takes_reply, client_gets, node_gets, arrives, delivered, shortened, leads, offers}
use Rattle.run_model.specs.World.{works, node_retries, retries, crashes, list_of, restarts, wipes, if_can, happens}
use Rattle.run_model.specs.Runs.{grown, chosen_next, grows_at}
use Rattle.run_model.specs.Text.{after}
use Rattle.run_model.specs.Resolving.{is_fine as fares_well, is_sure, others_at}
use Rattle.run_model.specs.Standings.{IsSole}

pub sole_at : {B : Type 0} (w : World B) (t : Tier) (x : ℕ) → IsSole w → others_at w t x ≡ []
sole_at w t x s = s.sole t x

pub start_sole : {B : Type 0} → IsSole (start {B = B})
start_sole = record { sole = λ t x. refl }

-- A NODE IN ITS PLACE

sole_either : {S : Type 0} (b : Bool) (n m : Node S Fact) → n.others ≡ [] → m.others ≡ [] → (if b then n else m).others ≡ []
sole_either true n m h k = h
sole_either false n m h k = k

sole_put : {S : Type 0} (f : ℕ → Node S Fact) (x : ℕ) (n : Node S Fact) → ((y : ℕ) → (f y).others ≡ []) → n.others ≡ [] → (y : ℕ) → (put f x n y).others ≡ []
sole_put f x n h k y = sole_either (y == x) n (f y) k (h y)

-- so are the nodes of one tier among all
sole_nodes : {B : Type 0} (f : Nodes B) (t : Tier) (g : ℕ → Node (State B t) Fact) → ((v : Tier) (y : ℕ) → (f v y).others ≡ [])
    → ((y : ℕ) → (g y).others ≡ []) → (v : Tier) (y : ℕ) → (put_nodes f t g v y).others ≡ []
sole_nodes f Mid g h k Mid y = k y
sole_nodes f Mid g h k Inv y = h Inv y
sole_nodes f Mid g h k Pay y = h Pay y
sole_nodes f Inv g h k Mid y = h Mid y
sole_nodes f Inv g h k Inv y = k y
sole_nodes f Inv g h k Pay y = h Pay y
sole_nodes f Pay g h k Mid y = h Mid y
sole_nodes f Pay g h k Inv y = h Inv y
sole_nodes f Pay g h k Pay y = k y

sole_if : {B : Type 0} (b : Bool) (v w : World B) → IsSole v → IsSole w → IsSole (if b then v else w)
sole_if true v w h k = h
sole_if false v w h k = k

sole_with : {B : Type 0} (w : World B) (t : Tier) (x : ℕ) (n : Node (State B t) Fact) (ks : List Packet) (vs : List Vote) → IsSole w → n.others ≡ []
    → IsSole (with_node w t x n ks vs)
sole_with w t x n ks vs s h = record { sole = sole_nodes w.nodes t (put (w.nodes t) x n) s.sole (sole_put (w.nodes t) x n (s.sole t) h) }

-- MOVES

-- it leaves one list
abbrev is_safe : Device → Bool
is_safe WasFine = true
is_safe CutKeep = true
is_safe CutDrop = true
is_safe WasFault = false

safe_either : (b : Bool) (d e : Device) → is_safe d ≡ true → is_safe e ≡ true → is_safe (if b then d else e) ≡ true
safe_either true d e h k = h
safe_either false d e h k = k

safe_device : (fared : Fared) → fares_well fared ≡ true → is_safe (device_of fared) ≡ true
safe_device Fine h = refl
safe_device (Cut nth keep) h = safe_either (keep && nat_le 3 nth) CutKeep CutDrop refl refl
safe_device Fault h = absurd (cc)

-- so does each write of the event
abbrev AreSafe : (List (List Fact) → List Fact → Device) → Type 0
AreSafe d = (records : List (List Fact)) (facts : List Fact) → is_safe (d records facts) ≡ true

safe_fate : {B : Type 0} (c : Config B) (fared : Fared) → fares_well fared ≡ true → AreSafe (fate c fared)
safe_fate c fared h records facts = safe_either _ CutDrop (device_of fared) refl (safe_device fared h)

safe_unwritten : AreSafe unwritten
safe_unwritten records facts = refl

sole_failed : {S : Type 0} (n : Node S Fact) (facts : List Fact) (d : Device) → is_safe d ≡ true → n.others ≡ [] → (failed n facts d).others ≡ []
sole_failed n facts WasFine h k = k
sole_failed n facts CutKeep h k = refl
sole_failed n facts CutDrop h k = refl
sole_failed n facts WasFault h k = absurd (cc)

sole_moved : {S : Type 0} (n : Node S Fact) (d : Device) (state : S) (facts : List Fact) → is_safe d ≡ true
    → n.others ≡ [] → (moved n d state facts).others ≡ []
sole_moved n d state facts h k = sole_either (is_well d facts) (stands (Up state) (recorded n.records facts))
    (failed n facts d) refl (sole_failed n facts d h k)

sole_up : {B : Type 0} (w : World B) (t : Tier) (x : ℕ) (d : Fate) (move : State B t → Move (State B t))
    (ran : State B t → List Vote) (mode : Mode (State B t)) → AreSafe d → IsSole w
    → IsSole (node_up w t x d move ran mode)
sole_up w t x d move ran (Up σ) h s =
    let facts : List Fact = (move σ).facts in
    let device : Device = d (w.nodes t x).records facts in
    sole_with w t x (moved (w.nodes t x) device (move σ).state facts) (sent device facts (move σ).sends) (ran σ) s
    (sole_moved (w.nodes t x) device (move σ).state facts (h (w.nodes t x).records facts) (s.sole t x))
sole_up w t x d move ran Down h s = s
sole_up w t x d move ran Gone h s = s

sole_at_node : {B : Type 0} (c : Config B) (w : World B) (t : Tier) (x : ℕ) (d : Fate) (move : State B t
    → Move (State B t)) (ran : State B t → List Vote) → AreSafe d → IsSole w
    → IsSole (at_node c w t x d move ran)
sole_at_node c w t x d move ran h s = sole_if (nat_lt x (2 * c.u + 1)) (node_up w t x d move ran (w.nodes t x).mode) w
    (sole_up w t x d move ran (w.nodes t x).mode h s) s

sole_moves : {B : Type 0} (c : Config B) (w : World B) (t : Tier) (x : ℕ) (d : Fate) (move : State B t
    → Move (State B t)) → AreSafe d → IsSole w → IsSole (moves c w t x d move)
sole_moves c w t x d move h s = sole_at_node c w t x d move (λ σ. []) h s

-- CLIENTS

sole_opens : {B : Type 0} (u : ℕ) (w : World B) (y : ℕ) (text : List ℕ) → IsSole w → IsSole (opens u w y text)
sole_opens u w y text s = record { sole = s.sole }

sole_submits : {B : Type 0} (c : Config B) (w : World B) (y : ℕ) (text : List ℕ) → IsSole w → IsSole (submits c w y text)
sole_submits c w y text s = sole_if _ (opens c.u w y text) w (sole_opens c.u w y text s) s

sole_reopens : {B : Type 0} (c : Config B) (w : World B) (y : ℕ) (o : Option (List ℕ)) → IsSole w → IsSole (reopens c w y o)
sole_reopens c w y None s = s
sole_reopens c w y (Some text) s = record { sole = s.sole }

sole_takes : {B : Type 0} (w : World B) (y seq : ℕ) (text : List ℕ) → IsSole w → IsSole (takes_reply w y seq text)
sole_takes w y seq text s = sole_if (is_some (w.clients y).opened && (seq == (w.clients y).last)) _ w (record { sole = s.sole }) s

sole_client : {B : Type 0} (w : World B) (y : ℕ) (m : Msg) → IsSole w → IsSole (client_gets w y m)
sole_client w y (msgs.Reply who text) s = sole_takes w y who.seq text s
sole_client w y (msgs.Log p) s = s
sole_client w y (msgs.Request seq text) s = s
sole_client w y (msgs.Token r token order) s = s
sole_client w y (msgs.Call n text) s = s
sole_client w y (msgs.Answer n code) s = s
sole_client w y (msgs.Have t n code) s = s
sole_client w y (msgs.Settle g) s = s

-- DELIVERIES AND COMMANDS

sole_gets : {B : Type 0} (c : Config B) (w : World B) (fared : Fared) (from : End) (m : Msg) (t : Tier) (x : ℕ)
    → fares_well fared ≡ true → IsSole w → IsSole (node_gets c w fared from m t x)
sole_gets c w fared from m t x h s = sole_moves c w t x (fate c fared) ((kind_at c t x).on_frame from m) (safe_fate c fared h) s

sole_arrives : {B : Type 0} (c : Config B) (w : World B) (fared : Fared) (from : End) (m : Msg) (to : End)
    → fares_well fared ≡ true → IsSole w → IsSole (arrives c w fared from m to)
sole_arrives c w fared from m (NodeEnd n) h s = sole_gets c w fared from m n.tier n.index h s
sole_arrives c w fared from m (Client y) h s = sole_client w y m s

sole_delivered : {B : Type 0} (c : Config B) (w : World B) (fared : Fared) (o : Option Packet) → fares_well fared ≡ true
    → IsSole w → IsSole (delivered c w fared o)
sole_delivered c w fared None h s = s
sole_delivered c w fared (Some k) h s = sole_arrives c w fared k.from k.message k.to h s

sole_shortened : {B : Type 0} (c : Config B) (w : World B) (fared : Fared) (bytes : ℕ) (o : Option Packet)
    → fares_well fared ≡ true → IsSole w → IsSole (shortened c w fared bytes o)
sole_shortened c w fared bytes None h s = s
sole_shortened c w fared bytes (Some k) h s =
    sole_if (nat_le (c.frame_length k.from k.message) bytes) (arrives c w fared k.from k.message k.to) w (sole_arrives c w fared k.from k.message k.to h s) s

sole_leads : {B : Type 0} (c : Config B) (w : World B) (fared : Fared) (t : Tier) (x : ℕ) → fares_well fared ≡ true → IsSole w → IsSole (leads c w fared t x)
sole_leads c w fared t x h s = sole_moves c w t x (fate c fared) (kind_at c t x).leads (safe_fate c fared h) s

sole_offers : {B : Type 0} (c : Config B) (w : World B) (fared : Fared) (t : Tier) (x : ℕ) → fares_well fared ≡ true → IsSole w → IsSole (offers c w fared t x)
sole_offers c w fared t x h s = sole_moves c w t x (fate c fared) (kind_at c t x).offers (safe_fate c fared h) s

sole_works : {B : Type 0} (c : Config B) (w : World B) (t : Tier) (x : ℕ) (schedule : List ℕ) → IsSole w → IsSole (works c w t x schedule)
sole_works c w Mid x schedule s = sole_at_node c w Mid x unwritten (λ σ. mids.work c.u c.service.programs x σ schedule) (ran c x schedule) safe_unwritten s
sole_works c w Inv x schedule s = s
sole_works c w Pay x schedule s = s

sole_node_retries : {B : Type 0} (c : Config B) (w : World B) (t : Tier) (x : ℕ) → IsSole w → IsSole (node_retries c w t x)
sole_node_retries c w t x s = sole_moves c w t x unwritten (kind_at c t x).retry safe_unwritten s

sole_retries : {B : Type 0} (c : Config B) (w : World B) (end : End) → IsSole w → IsSole (retries c w end)
sole_retries c w (NodeEnd n) s = sole_node_retries c w n.tier n.index s
sole_retries c w (Client y) s = sole_reopens c w y (w.clients y).opened s

-- CRASH, RESTART, WIPE

sole_placed : {B : Type 0} (c : Config B) (w : World B) (t : Tier) (x : ℕ) (n : Node (State B t) Fact) → n.others ≡ [] → IsSole w → IsSole (placed c w t x n)
sole_placed c w t x n h s = sole_if (nat_lt x (2 * c.u + 1)) (with_node w t x n [] []) w (sole_with w t x n [] [] s h) s

sole_crashed : {S : Type 0} (n : Node S Fact) (m : Mode S) → n.others ≡ [] → (crashed n m).others ≡ []
sole_crashed n (Up s) h = refl
sole_crashed n Down h = h
sole_crashed n Gone h = h

sole_crashes : {B : Type 0} (c : Config B) (w : World B) (t : Tier) (x : ℕ) → IsSole w → IsSole (crashes c w t x)
sole_crashes c w t x s = sole_placed c w t x (crashed (w.nodes t x) (w.nodes t x).mode) (sole_crashed (w.nodes t x) (w.nodes t x).mode (s.sole t x)) s

sole_as : {S : Type 0} (recover : List Fact → S) (n : Node S Fact) (o : Option (List (List Fact))) → n.others ≡ [] → (up_as recover n o).others ≡ []
sole_as recover n None h = h
sole_as recover n (Some records) h = refl

sole_found : {S : Type 0} (recover : List Fact → S) (n : Node S Fact) (k : ℕ) → n.others ≡ [] → (found_at recover n k).others ≡ []
sole_found recover n zero h = refl
sole_found recover n (suc k) h = sole_as recover n (slice_get n.others k) h

sole_restarted : {S : Type 0} (recover : List Fact → S) (n : Node S Fact) (found : Option ℕ) (m : Mode S)
    → n.others ≡ [] → (restarted recover n found m).others ≡ []
sole_restarted recover n (Some k) Down h = sole_found recover n k h
sole_restarted recover n None Down h = h
sole_restarted recover n (Some k) (Up s) h = h
sole_restarted recover n None (Up s) h = h
sole_restarted recover n (Some k) Gone h = h
sole_restarted recover n None Gone h = h

sole_restarts : {B : Type 0} (c : Config B) (w : World B) (found : Found) (t : Tier) (x : ℕ) → IsSole w → IsSole (restarts c w found t x)
sole_restarts c w found t x s =
    sole_placed c w t x (restarted (kind_at c t x).recovered (w.nodes t x) (list_of found) (w.nodes t x).mode)
    (sole_restarted (kind_at c t x).recovered (w.nodes t x) (list_of found) (w.nodes t x).mode (s.sole t x)) s

sole_wipes : {B : Type 0} (c : Config B) (w : World B) (t : Tier) (x : ℕ) → IsSole w → IsSole (wipes c w t x)
sole_wipes c w t x s = sole_placed c w t x (stands Gone []) refl s

-- EVENTS

sole_can : {B : Type 0} (fared : Fared) (new w : World B) → IsSole new → IsSole w → IsSole (if_can fared new w)
sole_can fared new w h s = sole_if (can_fare fared) new w h s

sole_happens : {B : Type 0} (c : Config B) (w : World B) (e : TraceEvent) → is_sure e ≡ true → IsSole w → IsSole (happens c w e)
sole_happens c w (Submit y text) h s = sole_submits c w y text s
sole_happens c w (Deliver k fared) h s = sole_can fared (delivered c w fared (slice_get w.soup k)) w (sole_delivered c w fared (slice_get w.soup k) h s) s
sole_happens c w (Short k bytes fared) h s = sole_can fared (shortened c w fared bytes (slice_get w.soup k)) w
    (sole_shortened c w fared bytes (slice_get w.soup k) h s) s
sole_happens c w (Lead n fared) h s = sole_can fared (leads c w fared n.tier n.index) w (sole_leads c w fared n.tier n.index h s) s
sole_happens c w (Offer n fared) h s = sole_can fared (offers c w fared n.tier n.index) w (sole_offers c w fared n.tier n.index h s) s
sole_happens c w (Work n schedule) h s = sole_works c w n.tier n.index schedule s
sole_happens c w (Retry end) h s = sole_retries c w end s
sole_happens c w (Crash n) h s = sole_crashes c w n.tier n.index s
sole_happens c w (Restart n found) h s = sole_restarts c w found n.tier n.index s
sole_happens c w (Wipe n) h s = sole_wipes c w n.tier n.index s

sole_grown : {B : Type 0} (c : Config B) (w : World B) (t : Tier) (o : Option AnyValue) → IsSole w → IsSole (grown c w t o)
sole_grown c w t None s = s
sole_grown c w t (Some v) s = record { sole = s.sole }

sole_grows : {B : Type 0} (c : Config B) (t : Tier) (w : World B) → IsSole w → IsSole (grows_at c t w)
sole_grows c t w s = sole_grown c w t (chosen_next c w t) s

-- an event in which no disk met a fault leaves one list to each
pub sole_after : {B : Type 0} (c : Config B) (w : World B) (e : TraceEvent) → is_sure e ≡ true → IsSole w → IsSole (after c w e)
sole_after c w e h s =
    sole_grows c Pay (grows_at c Inv (grows_at c Mid (happens c w e)))
    (sole_grows c Inv (grows_at c Mid (happens c w e)) (sole_grows c Mid (happens c w e) (sole_happens c w e h s)))
