-- Clients that ask: what their requests make of the world.
use Rattle.std.proofs.Common.{◌≡◌, ℕ, ◌+◌, ◌*◌, ◌<◌, ◌≤◌, Bool, true, false, cond, List, [], ◌∷◌, ◌++◌, length, refl}
use Rattle.std.proofs.Common.{sym, ap, ◌∙◌, subst, inl, inr, append-nil, arith, get_or, Option, Some, None, Result, Ok}
use Rattle.std.proofs.Common.{Err, zero, suc}
use Rattle.std.proofs.lemmas.List.{map-append}
use Rattle.std.specs.Prelude.{slice_get, slice_set, map, option_map, nat_lt, nat_le, not, ◌&&◌, ◌⊎◌}
use Rattle.std.proofs.lemmas.Bool.{cond-true, and_from, lt-ltb, le-leb}
use Rattle.std.proofs.lemmas.Option.{slice_get_read}
use Rattle.aeg_base.specs.declared.limits.TheConstants.{PACKETS}
use Rattle.aeg_base.specs.declared.names.End.TheVariants.{Client}
use Rattle.server_model.specs.Requests.{request_of}
use Rattle.server_model.specs.Booking.{stages_in}
use Rattle.server_model.specs.declared.request.Request.{Request}
use Rattle.server_model.specs.declared.request.Request.TheVariants.{Open, Book, Cancel, Look}
use Rattle.aeg_base.specs.declared.names.ReqId.{ReqId}
use Rattle.log_model.specs.Log.{nobody}
use Rattle.log_values.specs.Fields.{IsClient, IsSeq}
use Rattle.frames.specs.declared.message.Msg.TheVariants as msgs
use Rattle.frames.specs.Frames.{FitsFrame}
use Rattle.round_model.specs.Lists.{is_some, each}
use Rattle.round_model.specs.Service.{is_request}
use Rattle.tier_model.specs.Moves.{Packet}
use Rattle.run_model.specs.Script.{is_read}
use Rattle.run_model.specs.World as worlds
use Rattle.run_model.specs.World.{ClientEnd, request_to, requests, opens, submits, reopens, happens}
use Rattle.aeg_disk.specs.Disk.{DiskState}
use Rattle.run_model.specs.Resolving.{Finds}
use Rattle.run_model.specs.Runs.{grows}
use Rattle.run_model.specs.Text.{own_text, growth_text}
use Rattle.run_model.specs.declared.trace.TraceEvent.{TraceEvent}
use Rattle.net_script.specs.Clients.{ClientState, opened_with, asked as open_request}
use Rattle.world.specs.declared.nodes.all_nodes.Nodes.{Nodes}
use Rattle.world.specs.declared.parts.Parts.{Parts}
use Rattle.world.specs.Watching.{hears_packets, all_grown}
use Rattle.run_model.specs.BookingRuns.{config, booking_service, BookingWorld}
use Rattle.world.specs.Parts.{Reaches, AreFit, AllReach, sealed}
use Rattle.world.specs.Disks.{AreDisks, HasCause}
use Rattle.world.specs.Standing.{Makes, AsksOnce, IsClientEnd, AreAll, AreNodes, Shows}
use Rattle.world.proofs.Calls.AtLists.{set_same}
use Rattle.world.proofs.Calls.OnDisks.{set_one}
use Rattle.world.proofs.Rows.PendingPlaces.{request_short}
use Rattle.world.proofs.Power.CountsOfFaults.{falls_none}
use Rattle.world.proofs.Votes.GrownLogs.{grown_disks}
use Rattle.world.proofs.Events.EventsEnd.{Leads, Ended, ends}
use Rattle.log_model.proofs.Basics.{get_push}

-- each of so many
each_all : {A : Type 0} (P : A → Type 0) (n : ℕ) (f : ℕ → A) → ((x : ℕ) → x < n → P (f x)) → (i : ℕ) (a : A) → slice_get (each n nobody f) i ≡ Some a → P a
each_all P zero f h i a e = absurd (cc)
each_all {A} P (suc n) f h i a e = go (get_push (each n nobody f) (f n) i a e) (λ g. each_all P n f (λ x l. h x (omega arith)) i a g)
  where
    go : (slice_get (each n nobody f) i ≡ Some a) ⊎ ((i ≡ length (each n nobody f)) × (f n ≡ a)) → (slice_get (each n nobody f) i ≡ Some a → P a) → P a
    go (inl g) rec = rec g
    go (inr g) rec = subst P g.1 (h n (omega arith))

-- a request that a client can send
pub record CanAsk (y seq : ℕ) (text : List ℕ) : Type 0 where
  pub client : IsClient y
  pub seq_in : IsSeq seq
  pub request : is_request booking_service.programs (record { client = y; seq = seq }) text ≡ true

pub ask_fits : (y seq : ℕ) (text : List ℕ) → CanAsk y seq text → FitsFrame (Client y) (msgs.Request seq text)
ask_fits y seq text k = record { sender = k.client; sent = refl; message = (k.seq_in, request_short (record { client = y; seq = seq }) text k.request) }

pub asks_fit : (u y seq : ℕ) (text : List ℕ) → CanAsk y seq text → AreFit (requests u y seq text)
asks_fit u y seq text k i p e = each_all (λ (z : Packet). FitsFrame z.from z.message) (2 * u + 1) (request_to y seq text) (λ x l. ask_fits y seq text k) i p e

pub asks_reach : (u y seq : ℕ) (text : List ℕ) → CanAsk y seq text → AllReach u (requests u y seq text)
asks_reach u y seq text k i p e = each_all (λ (z : Packet). Reaches u z.from z.to z.message) (2 * u + 1)
    (request_to y seq text) (λ x l. (l, (k.client, (k.seq_in, k.request)))) i p e

first_stage : (who : ReqId) (q : Request) → is_some (stages_in who 0 (Ok q)) ≡ true
first_stage who (Open t c p l) = refl
first_stage who (Book t n) = refl
first_stage who (Cancel b) = refl
first_stage who (Look b) = refl

request_is : (who : ReqId) (body : List ℕ) (q : Request) → request_of body ≡ Ok q → is_request booking_service.programs who body ≡ true
request_is who body q e = ap (λ r. is_some (stages_in who 0 r)) e ∙ first_stage who q

-- what is asked is a request
pub asked_is : (y seq : ℕ) (text : List ℕ) → is_read (request_of text) ≡ true
    → is_request booking_service.programs (record { client = y; seq = seq }) text ≡ true
asked_is y seq text e = go (request_of text) refl e
  where
    go : (r : Result Request ℕ) → request_of text ≡ r → is_read r ≡ true → is_request booking_service.programs (record { client = y; seq = seq }) text ≡ true
    go (Ok q) f g = request_is (record { client = y; seq = seq }) text q f
    go (Err row) f g = absurd (cc)

-- A CLIENT OPENS ITS REQUEST

pub submit_is : (u depth : ℕ) (w : BookingWorld) (y : ℕ) (text : List ℕ) → IsClient y → is_read (request_of text) ≡ true
    → (w.clients y).opened ≡ None → (w.clients y).last ≡ 0 → submits (config u depth) w y text ≡ opens u w y text
submit_is u depth w y text k a o l = cond-true _ (opens u w y text) w
    (and_from _ _ (and_from (nat_le 1 y) (nat_le y 16) (le-leb 1 y k.0) (le-leb y 16 k.1))
    (and_from _ _ (asked_is y (suc (w.clients y).last) text a)
    (and_from _ _ (ap (λ z. not (is_some z)) o) (lt-ltb (w.clients y).last 65536 (omega (arith, l))))))

pub open_leads : (u depth : ℕ) (w : BookingWorld) (nodes : Nodes) (y : ℕ) (text : List ℕ) → AreNodes u depth w nodes
    → CanAsk y (suc (w.clients y).last) text → Leads u depth w (opens u w y text) nodes (requests u y (suc (w.clients y).last) text)
open_leads u depth w nodes y text k a = record {
  are = record { at = k.at };
  soup = refl;
  logs = refl;
  hist = refl;
  fit = asks_fit u y (suc (w.clients y).last) text a;
  reach = asks_reach u y (suc (w.clients y).last) text a;
}

-- a client with an open request opens none
pub busy_is : (u depth : ℕ) (w : BookingWorld) (y : ℕ) (text : List ℕ) → is_some (w.clients y).opened ≡ true → submits (config u depth) w y text ≡ w
busy_is u depth w y text e = go (worlds.is_client_number y)
    (is_request booking_service.programs (record { client = y; seq = suc (w.clients y).last }) text)
    (is_some (w.clients y).opened) e
  where
    go : (a b o : Bool) → o ≡ true → cond (a && (b && (not o && nat_lt (w.clients y).last 65536))) (opens u w y text) w ≡ w
    go true true true e = refl
    go true false true e = refl
    go false b true e = refl
    go a b false e = absurd (cc)

-- the open request is sent again
pub again_leads : (u depth : ℕ) (w : BookingWorld) (nodes : Nodes) (y : ℕ) (text : List ℕ) → AreNodes u depth w nodes
    → CanAsk y (w.clients y).last text
    → Leads u depth w (reopens (config u depth) w y (Some text)) nodes (requests u y (w.clients y).last text)
again_leads u depth w nodes y text k a = record {
  are = record { at = k.at };
  soup = refl;
  logs = refl;
  hist = refl;
  fit = asks_fit u y (w.clients y).last text a;
  reach = asks_reach u y (w.clients y).last text a;
}

-- one packet more
pub sealed_more : (n : ℕ) (f : ℕ → Packet) → map sealed (each (n + 1) nobody f) ≡ map sealed (each n nobody f) ++ sealed (f n) ∷ []
sealed_more n f = let e : n + 1 ≡ suc n = omega arith in ap (λ z. map sealed (each z nobody f)) e ∙ map-append sealed (each n nobody f) (f n ∷ [])

-- CLIENT ENDS

-- a client by its number, and what it asks
pub client_is : (w : BookingWorld) (vs : List ClientState) (y : ℕ) (v : ClientState)
    → AreAll 17 IsClientEnd w.clients vs → y ≤ 16 → v ≡ get_or vs y v → IsClientEnd y (w.clients y) v
client_is w vs y v k l e = k.each y v (slice_get_read vs (length vs) y v refl (omega (arith, k.size, l)) e)

-- it is put back as it was
pub client_back : (w : BookingWorld) (vs : List ClientState) (y : ℕ) (v new : ClientState)
    → AreAll 17 IsClientEnd w.clients vs → y ≤ 16 → v ≡ get_or vs y v → new ≡ v
    → AreAll 17 IsClientEnd w.clients (slice_set vs y new)
client_back w vs y v new k l e f = subst (AreAll 17 IsClientEnd w.clients)
    (set_same vs y v (slice_get_read vs (length vs) y v refl (omega (arith, k.size, l)) e) ∙ ap (slice_set vs y) (sym f)) k

-- it has opened its first request
pub client_opened : (u : ℕ) (w : BookingWorld) (vs : List ClientState) (y : ℕ) (v new : ClientState) (text : List ℕ)
    → AreAll 17 IsClientEnd w.clients vs → y ≤ 16 → v ≡ get_or vs y v → (w.clients y).last ≡ 0
    → is_request booking_service.programs (record { client = y; seq = 1 }) text ≡ true → new ≡ opened_with v text
    → AreAll 17 IsClientEnd (opens u w y text).clients (slice_set vs y new)
client_opened u w vs y v new text k l e z r n =
    let i : IsClientEnd y (w.clients y) v = client_is w vs y v k l e in
    set_one 17 IsClientEnd w.clients vs y (record { last = suc (w.clients y).last; opened = Some text }) new k
    (record { is = n ∙ ap (λ (c : ClientState). opened_with c text) i.is; asks = (ap suc z, r) })

-- a client without an open request has asked for nothing, and one with an open request has asked once
pub asked_nothing : (y : ℕ) (end : ClientEnd) → AsksOnce y end.last end.opened → end.opened ≡ None → end.last ≡ 0
asked_nothing y end k e = subst (AsksOnce y end.last) e k

pub asked_once : (y : ℕ) (end : ClientEnd) (text : List ℕ) → AsksOnce y end.last end.opened → end.opened ≡ Some text
    → (end.last ≡ 1) × (is_request booking_service.programs (record { client = y; seq = 1 }) text ≡ true)
asked_once y end text k e = subst (AsksOnce y end.last) e k

-- THE WHOLE EVENT

abbrev pub clients_after : Parts → Parts → List Packet → Parts
clients_after old new ks = record old { clients = new.clients; soup = old.soup ++ map sealed ks; watch = all_grown (hears_packets old.watch (map sealed ks)) }

pub asked : (u depth : ℕ) (w w1 : BookingWorld) (old new : Parts) (ks : List Packet) (event : TraceEvent)
    (told before now : List ℕ) → Shows u depth w old → length new.soup ≤ PACKETS → happens (config u depth) w event ≡ w1
    → own_text (config u depth) w event ≡ told → Leads u depth w w1 old.nodes ks
    → AreAll 17 IsClientEnd w1.clients new.clients.items
    → new ≡ clients_after old new ks → now ≡ before ++ told → (disks : List DiskState) → AreDisks w1 disks
    → HasCause w disks disks event → Finds w event → Makes new disks disks before now event u depth w
asked u depth w w1 old new ks event told before now s within h o l clients e t disks on cause finds =
    let ended : Ended old new old.nodes (map sealed ks) = record {
      size = ap (λ (p : Parts). p.u) e;
      is = ap (λ (p : Parts). p.nodes) e;
      soup = ap (λ (p : Parts). p.soup) e;
      within = within;
      watch = ap (λ (p : Parts). p.watch) e;
    } in
    let r = ends u depth w w1 old new old.nodes ks s l ended clients in
    let grew : growth_text w (grows (config u depth) (happens (config u depth) w event)) ≡ [] = ap (λ z. growth_text w (grows (config u depth) z)) h ∙ r.1 in
    record {
      shows = subst (λ z. Shows u depth (grows (config u depth) z) new) (sym h) r.0;
      disks = subst (λ z. AreDisks (grows (config u depth) z) disks) (sym h) (grown_disks u depth w1 disks on);
      cause = cause;
      later = falls_none disks;
      finds = finds;
      told = t ∙ ap (λ z. before ++ z) (sym (ap (λ z. own_text (config u depth) w event ++ z) grew ∙ append-nil (own_text (config u depth) w event) ∙ o));
    }

-- the nodes' disks stay
pub open_disks : (u : ℕ) (w : BookingWorld) (y : ℕ) (text : List ℕ) (disks : List DiskState) → AreDisks w disks → AreDisks (opens u w y text) disks
open_disks u w y text disks d = record { all = d.all; at = d.at }

pub again_disks : (u depth : ℕ) (w : BookingWorld) (y : ℕ) (text : List ℕ) (disks : List DiskState) → AreDisks w disks
    → AreDisks (reopens (config u depth) w y (Some text)) disks
again_disks u depth w y text disks d = record { all = d.all; at = d.at }

-- nothing is sent
pub nothing_leads : (u depth : ℕ) (w : BookingWorld) (nodes : Nodes) → AreNodes u depth w nodes → Leads u depth w w nodes []
nothing_leads u depth w nodes k = record {
  are = k;
  soup = sym (append-nil w.soup);
  logs = refl;
  hist = refl;
  fit = λ i p f. absurd (cc);
  reach = λ i p f. absurd (cc);
}

-- what a client tells of its open request
pub pending_none : (c : ClientState) → open_request c ≡ None → c.end.opened ≡ None
pending_none c e = go c.end.opened e
  where
    go : (o : Option (List ℕ)) → option_map {U = ℕ × List ℕ} (λ text. (c.end.last, text)) o ≡ None → o ≡ None
    go None e = refl
    go (Some text) e = absurd (cc)

pub pending_some : (c : ClientState) (seq : ℕ) (text : List ℕ) → open_request c ≡ Some (seq, text) → (c.end.opened ≡ Some text) × (seq ≡ c.end.last)
pending_some c seq text e = go c.end.opened e
  where
    go : (o : Option (List ℕ)) → option_map {U = ℕ × List ℕ} (λ t. (c.end.last, t)) o ≡ Some (seq, text) → (o ≡ Some text) × (seq ≡ c.end.last)
    go None e = absurd (cc)
    go (Some t) e =
        let p : ◌≡◌ {A = ℕ × List ℕ} (c.end.last, t) (seq, text) = cc in
        (ap (λ z. Some z.1) p, sym (ap (λ z. z.0) p))
