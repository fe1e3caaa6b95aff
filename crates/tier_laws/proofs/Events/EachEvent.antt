-- Each event keeps the invariant.
use Rattle.std.proofs.Common.{◌≡◌, ℕ, ◌+◌, ◌*◌, ◌<◌, true, false, List, [], ◌∷◌, ◌++◌, length, refl, sym, ap, ◌∙◌}
use Rattle.std.proofs.Common.{subst, inl, inr, Option, Some, None, zero, suc}
use Rattle.std.specs.Prelude.{slice_get, ◌⊎◌, ◌==◌, ◌&&◌, not, nat_lt, nat_le}
use Rattle.std.proofs.lemmas.Bool.{cond_both, and_parts, cases_eq}
use Rattle.aeg_base.specs.declared.names.Tier.{Tier}
use Rattle.aeg_base.specs.declared.names.Tier.TheVariants.{Mid as MidTier, Inv, Pay}
use Rattle.aeg_base.specs.declared.names.End.{End}
use Rattle.aeg_base.specs.declared.names.End.TheVariants.{Node, Client}
use Rattle.server_model.specs.Server.{same_tier}
use Rattle.log_model.proofs.Basics.{Every, every-append, every-get}
use Rattle.log_model.proofs.Invariant.{History, PacketOk, all_same}
use Rattle.log_model.proofs.Origin.{msg_from}
use Rattle.log_model.proofs.Votes.{on_msg_ok}
use Rattle.log_model.specs.declared.message.PaxMsg.{PaxMsg}
use Rattle.log_model.specs.Log.{nobody}
use Rattle.log_model.specs.Rows.{on_msg}
use Rattle.log_model.specs.Nodes.{put}
use Rattle.log_model.specs.World.{Packet as LogPacket}
use Rattle.log_values.specs.declared.any_value.AnyValue.{AnyValue}
use Rattle.log_values.specs.declared.entry.Entry.{Entry}
use Rattle.frames.specs.declared.message.Msg.{Msg}
use Rattle.frames.specs.declared.message.Msg.TheVariants as msgs
use Rattle.round_model.specs.Lists.{is_some}
use Rattle.round_model.specs.Service.{is_request}
use Rattle.tier_model.specs.Moves.{node, tier_of, is_client, is_node_of, Packet, drops}
use Rattle.frames.specs.Headers.{end_index}
use Rattle.tier_model.specs.Mid.{Mid, in_log}
use Rattle.tier_model.specs.MidRows.{on_request, on_token, on_answer, on_have, is_backend_node, on_frame, work, work_run}
use Rattle.tier_model.specs.MidRows as mids
use Rattle.tier_model.specs.Back.{Back}
use Rattle.tier_model.specs.Back as back
use Rattle.tier_model.specs.BackRows.{on_call, on_settle}
use Rattle.tier_model.specs.BackRows as backs
use Rattle.run_model.specs.declared.trace.Fared.{Fared}
use Rattle.run_model.specs.declared.trace.Found.{Found}
use Rattle.run_model.specs.declared.trace.TraceEvent.{TraceEvent}
use Rattle.run_model.specs.declared.trace.TraceEvent.TheVariants.{Submit, Deliver, Short, Lead, Offer, Work, Retry, Crash, Restart, Wipe}
use Rattle.run_model.specs.World.{Config, World, ClientEnd, start, fate, unwritten, can_fare, kind_at, list_of, ran}
use Rattle.run_model.specs.World.{request_to, requests, opens, is_client_number, submits, reopens, takes_reply}
use Rattle.run_model.specs.World.{client_gets, node_gets, arrives, delivered, shortened, leads, offers, works}
use Rattle.run_model.specs.World.{node_retries, retries, crashes, restarts, wipes, if_can, happens}
use Rattle.run_model.specs.Runs.{is_in, log_part, log_soup, grows, run, world}
use Rattle.tier_laws.specs.Said.{Laws}
use Rattle.tier_laws.proofs.Lists.ItemsByIndex.{put_here, put_there, get_end, get_left, get_right, pushed}
use Rattle.tier_laws.proofs.Rounds.DecidedRounds.{every-each}
use Rattle.tier_laws.proofs.BackNodes.LogTurns.{back_move, back_retry_ok, back_leads_ok, back_offers_ok, one_msg}
use Rattle.tier_laws.proofs.BackNodes.RightMoves.{BackHere, BackMoveOk, back_knows, back_stays, call_ok, settle_ok}
use Rattle.tier_laws.proofs.BackNodes.RightSteps.{inv_here, inv_restores, inv_step, pay_here, pay_restores, pay_step}
use Rattle.tier_laws.proofs.Events.AtNodes.{MoveFits, Restores, at_node_ok, crash_keeps, restart_keeps, wipe_keeps}
use Rattle.tier_laws.proofs.Server.GrowingHistory.{Ledger}
use Rattle.tier_laws.proofs.BackNodes.GrowingLogs.{ledger_start}
use Rattle.tier_laws.proofs.Events.OneNodeChanges.{Inv as WorldOk, Mid_event, back_logs, node-more, past, same_log, soup_log, unchanged}
use Rattle.tier_laws.proofs.Events.LogsGrow.{grows_ok}
use Rattle.tier_laws.proofs.Events.OneTiersLog.{Complete, LogPart, log_weaker, nearly}
use Rattle.tier_laws.proofs.MidNodes.RightSteps.{here, mid_restores, mid_step, start_tables}
use Rattle.tier_laws.proofs.Server.MirroredTables.{mirrors_start}
use Rattle.tier_laws.proofs.MidNodes.RightMoves.{Here, MoveOk, knows, log_move, stays_ok}
use Rattle.tier_laws.proofs.MidNodes.Offers.{retry_ok, leads_ok, offers_ok}
use Rattle.tier_laws.proofs.Events.GrowingPast.{Grows, MidOk, SentBy, SentOk, Past, Submitted, ValueOk, more-refl}
use Rattle.tier_laws.proofs.Events.GrowingPast.{parcels-more, run_ok-more, submitted-more, value_ok-more}
use Rattle.tier_laws.proofs.MidNodes.RowsBesideLog.{answer_ok, have_ok, request_ok, token_ok, work_ok}
use Rattle.tier_laws.proofs.Events.LogPackets.{NoLog, no_log, none_each}
use Rattle.run_model.specs.Runs.{log_soup}
use Rattle.tier_laws.proofs.Rounds.StableRounds.{MoreLog}
use Rattle.tier_laws.proofs.Server.LookUps.{empty_server, server}
use Rattle.tier_laws.proofs.Rounds.AnyOrder.{kept-refl}

-- CLIENT ENDS

abbrev at_clients : {B : Type 0} → World B → (ℕ → ClientEnd) → List Packet → List Entry → List Entry → World B
at_clients w cl ks sub td = record w { clients = cl; soup = w.soup ++ ks; submitted = sub; told = td }

client_changed : {B : Type 0} (c : Config B) (w : World B) (cl : ℕ → ClientEnd) (ks : List Packet) (sub td : List Entry)
    (i : WorldOk c w) → NoLog ks → MoreLog w.submitted sub → Every (SentOk c (past c (at_clients w cl ks sub td) i.codes)) ks
    → ((y : ℕ) (text : List ℕ) → (cl y).opened ≡ Some text
    → Submitted (past c (at_clients w cl ks sub td) i.codes)
    (record { client = y; seq = (cl y).last; body = text }))
    → ((j : ℕ) (e : Entry) → slice_get td j ≡ Some e → (server c.service w.hist).replies e.client e.seq
    ≡ Some e.body) → Mid_event c (past c w i.codes) (at_clients w cl ks sub td)
client_changed {B} c w cl ks sub td i none more sends clients told = record {
  codes = i.codes;
  h = i.h;
  core = record {
    laws = i.core.laws;
    logs = λ t. subst (λ z. LogPart c.u (i.h t) z (w.logs t) (ValueOk c Q t)) (sym (same_log t w.soup ks (no_log ks none t)))
        (log_weaker c.u (i.h t) (log_soup t w.soup) (w.logs t) (ValueOk c P t) (ValueOk c Q t) (λ p v o. value_ok-more c P Q t p v gr o) (i.core.logs t));
    ledger = i.core.ledger;
    runs = λ j v e. run_ok-more c P Q v gr (i.core.runs j v e);
    right = i.core.right;
    packets = every-append (SentOk c Q) w.soup ks (parcels-more c P Q w.soup gr i.core.packets) sends;
    nodes = λ t x l. node-more c P Q t (i.h t) (i.h t) (log_soup t w.soup) (log_soup t (w.soup ++ ks)) x (w.nodes t x)
        (w.nodes t x).mode gr (all_same (i.h t)) (soup_log c.u t w.soup ks) refl refl (i.core.nodes t x l);
    clients = clients;
    starts = λ j n who body e. submitted-more P Q _ gr (i.core.starts j n who body e);
    told = told;
  };
  before = subst (λ z. LogPart c.u (i.h MidTier) z (w.logs MidTier) (MidOk c P))
      (sym (same_log MidTier w.soup ks (no_log ks none MidTier))) (i.core.logs MidTier);
  gone_codes = λ t y g. refl;
  near = record {
    all = λ t. nearly c.u (log_soup t (w.soup ++ ks)) (w.logs t)
        (subst (λ z. Complete c.u z (w.logs t)) (sym (same_log t w.soup ks (no_log ks none t))) (i.done.all t));
  };
}
  where
    P : Past B
    P = past c w i.codes

    Q : Past B
    Q = past c (at_clients w cl ks sub td) i.codes

    gr : Grows P Q
    gr = record { held = λ y t n e. e; log = more-refl (w.logs MidTier); kept = kept-refl (server c.service w.hist); runs = more-refl w.runs; submitted = more }

request_none : (u y s : ℕ) (text : List ℕ) → NoLog (requests u y s text)
request_none u y s text = none_each (2 * u + 1) nobody (request_to y s text) (λ x. record { all = λ t. refl })

opens_ok : {B : Type 0} (c : Config B) (w : World B) (y : ℕ) (text : List ℕ) → (i : WorldOk c w) → Mid_event c (past c w i.codes) (opens c.u w y text)
opens_ok {B} c w y text i = client_changed c w cl (requests c.u y (suc (w.clients y).last) text) sub w.told i
    (request_none c.u y (suc (w.clients y).last) text) more
    (every-each (SentOk c Q) (2 * c.u + 1) nobody (request_to y (suc (w.clients y).last) text) (λ x. new)) (λ z t e. clients z t (cases_eq z y) e) i.core.told
  where
    cl : ℕ → ClientEnd
    cl = put w.clients y (record { last = suc (w.clients y).last; opened = Some text })

    sub : List Entry
    sub = w.submitted ++ record { client = y; seq = suc (w.clients y).last; body = text } ∷ []

    more : MoreLog w.submitted sub
    more = record { at = λ j v e. get_left w.submitted _ j v e }

    Q : Past B
    Q = past c (at_clients w cl (requests c.u y (suc (w.clients y).last) text) sub w.told) i.codes

    new : Submitted Q (record { client = y; seq = suc (w.clients y).last; body = text })
    new = (length w.submitted, get_end w.submitted (record { client = y; seq = suc (w.clients y).last; body = text }))

    clients : (z : ℕ) (t : List ℕ) → (z ≡ y) ⊎ (z ≡ y → ⊥) → (cl z).opened ≡ Some t → Submitted Q (record { client = z; seq = (cl z).last; body = t })
    clients z t (inl f) e =
        let here : cl y ≡ record { last = suc (w.clients y).last; opened = Some text } = put_here w.clients y _ in
        let g : Some text ≡ Some t = sym (ap (λ (q : ClientEnd). q.opened) here) ∙ ap (λ q. (cl q).opened) (sym f) ∙ e in
        let s : text ≡ t = cc in
        subst (λ q. Submitted Q (record { client = q; seq = (cl q).last; body = t })) (sym f)
        (subst (λ (q : ClientEnd). Submitted Q (record { client = y; seq = q.last; body = t })) (sym here)
        (subst (λ q. Submitted Q (record { client = y; seq = suc (w.clients y).last; body = q })) s new))
    clients z t (inr f) e =
        let there : cl z ≡ w.clients z = put_there w.clients y _ z f in
        let r = i.core.clients z t (sym (ap (λ (q : ClientEnd). q.opened) there) ∙ e) in
        subst (λ (q : ClientEnd). Submitted Q (record { client = z; seq = q.last; body = t })) (sym there) (r.0, more.at r.0 _ r.1)

submits_ok : {B : Type 0} (c : Config B) (w : World B) (y : ℕ) (text : List ℕ) → (i : WorldOk c w) → Mid_event c (past c w i.codes) (submits c w y text)
submits_ok c w y text i = cond_both (is_client_number y
    && (is_request c.service.programs (record { client = y; seq = suc (w.clients y).last }) text
    && (not (is_some (w.clients y).opened) && nat_lt (w.clients y).last 65536))) (opens c.u w y text) w
    (Mid_event c (past c w i.codes)) (λ e. opens_ok c w y text i) (λ e. unchanged c w i)

reopens_ok : {B : Type 0} (c : Config B) (w : World B) (y : ℕ) (o : Option (List ℕ)) → (w.clients y).opened ≡ o
    → (i : WorldOk c w) → Mid_event c (past c w i.codes) (reopens c w y o)
reopens_ok c w y None e i = unchanged c w i
reopens_ok {B} c w y (Some text) e i = client_changed c w w.clients (requests c.u y (w.clients y).last text) w.submitted
    w.told i (request_none c.u y (w.clients y).last text) (more-refl w.submitted)
    (every-each (SentOk c (past c (at_clients w w.clients (requests c.u y (w.clients y).last text) w.submitted w.told)
    i.codes)) (2 * c.u + 1) nobody (request_to y (w.clients y).last text) (λ x. i.core.clients y text e))
    i.core.clients i.core.told

-- a reply closes the request
takes_ok : {B : Type 0} (c : Config B) (w : World B) (y s : ℕ) (text : List ℕ) → (server c.service w.hist).replies y s
    ≡ Some text → (i : WorldOk c w) → Mid_event c (past c w i.codes) (takes_reply w y s text)
takes_ok {B} c w y s text said i = cond_both (is_some (w.clients y).opened && (s == (w.clients y).last)) _ w
    (Mid_event c (past c w i.codes)) (λ e. closed) (λ e. unchanged c w i)
  where
    cl : ℕ → ClientEnd
    cl = put w.clients y (record { last = (w.clients y).last; opened = None })

    td : List Entry
    td = w.told ++ record { client = y; seq = s; body = text } ∷ []

    clients : (z : ℕ) (t : List ℕ) → (z ≡ y) ⊎ (z ≡ y → ⊥) → (cl z).opened ≡ Some t
        → Submitted (past c w i.codes) (record { client = z; seq = (cl z).last; body = t })
    clients z t (inl f) e = absurd
        (let g : None ≡ Some t = sym
        (ap (λ (q : ClientEnd). q.opened) (put_here w.clients y (record { last = (w.clients y).last; opened = None })))
        ∙ ap (λ q. (cl q).opened) (sym f) ∙ e in cc)
    clients z t (inr f) e =
        let there : cl z ≡ w.clients z = put_there w.clients y _ z f in
        subst (λ (q : ClientEnd). Submitted (past c w i.codes) (record { client = z; seq = q.last; body = t }))
        (sym there) (i.core.clients z t (sym (ap (λ (q : ClientEnd). q.opened) there) ∙ e))

    closed : Mid_event c (past c w i.codes)
        (record w {
          clients = put w.clients y (record { last = (w.clients y).last; opened = None });
          told = w.told ++ record { client = y; seq = s; body = text } ∷ [];
        })
    closed = record {
      codes = i.codes;
      h = i.h;
      core = record {
        laws = i.core.laws;
        logs = i.core.logs;
        ledger = i.core.ledger;
        runs = i.core.runs;
        right = i.core.right;
        packets = i.core.packets;
        nodes = i.core.nodes;
        clients = λ z t e. clients z t (cases_eq z y) e;
        starts = i.core.starts;
        told = pushed (λ (e : Entry). (server c.service w.hist).replies e.client e.seq ≡ Some e.body) w.told
            (record { client = y; seq = s; body = text }) i.core.told said;
      };
      before = i.core.logs MidTier;
      gone_codes = λ t y g. refl;
      near = record { all = λ t. nearly c.u (log_soup t w.soup) (w.logs t) (i.done.all t) };
    }

-- DELIVERIES

log_part-first : (t : Tier) (from to : End) (p : PaxMsg AnyValue) (ys : List (LogPacket AnyValue)) → is_in t from ≡ true
    → slice_get (log_part t from to (msgs.Log p) ++ ys) 0 ≡ Some (record { from = end_index from; to = end_index to; msg = p })
log_part-first t from to p ys e = rw e refl

-- a packet of a tier's log stands among its packets
pub log_place : (t : Tier) (soup : List Packet) (i : ℕ) (from to : End) (p : PaxMsg AnyValue) → is_in t from ≡ true
    → slice_get soup i ≡ Some (record { from = from; to = to; message = msgs.Log p }) → (j : ℕ)
    × (slice_get (log_soup t soup) j ≡ Some (record { from = end_index from; to = end_index to; msg = p }))
log_place t [] i from to p b e = absurd (cc)
log_place t (k ∷ soup) zero from to p b e =
    let s : record { from = from; to = to; message = msgs.Log p } ≡ k = cc in (
      0,
      subst (λ (z : Packet). slice_get (log_part t z.from z.to z.message ++ log_soup t soup) 0
          ≡ Some (record { from = end_index from; to = end_index to; msg = p })) s (log_part-first t from to p (log_soup t soup) b),
    )
log_place t (k ∷ soup) (suc i) from to p b e = let r = log_place t soup i from to p b e in get_right
    (log_part t k.from k.to k.message) (log_soup t soup) r.0 _ r.1

node_in : (u : ℕ) (t : Tier) (from : End) → is_node_of u t from ≡ true → is_in t from ≡ true
node_in u t (Node n) e = (and_parts (same_tier n.tier t) (nat_lt n.index (2 * u + 1)) e).0
node_in u t (Client y) e = absurd (cc)

mid_frame_ok : {B : Type 0} (c : Config B) (w : World B) (place : ℕ) (from to : End) (message : Msg) (x : ℕ) (σ : Mid)
    → (i : WorldOk c w) → slice_get w.soup place ≡ Some (record { from = from; to = to; message = message })
    → SentBy c (past c w i.codes) from to message → Here c (past c w i.codes) (i.h MidTier) w.soup x σ
    → MoveOk c (past c w i.codes) (i.h MidTier) w.soup x [] (on_frame c.u c.service.programs x σ from message)
mid_frame_ok {B} c w place from to (msgs.Log p) x σ i e sent k = cond_both (is_node_of c.u MidTier from)
    (in_log c.u c.service.programs x σ (on_msg c.u σ.log (end_index from) p)) (drops σ 7)
    (MoveOk c (past c w i.codes) (i.h MidTier) w.soup x []) taken (λ f. stays_ok c (past c w i.codes) (i.h MidTier) w.soup x σ k)
  where
    taken : is_node_of c.u MidTier from ≡ true
        → MoveOk c (past c w i.codes) (i.h MidTier) w.soup x []
        (in_log c.u c.service.programs x σ (on_msg c.u σ.log (end_index from) p))
    taken f =
        let q = log_place MidTier w.soup place from to p (node_in c.u MidTier from f) e in
        let j : LogPacket AnyValue = record { from = end_index from; to = end_index to; msg = p } in
        let right : PacketOk c.u (i.h MidTier) (log_soup MidTier w.soup) j = every-get
        (PacketOk c.u (i.h MidTier) (log_soup MidTier w.soup)) (log_soup MidTier w.soup) q.0 j
        (i.core.logs MidTier).history.packets q.1 in
        log_move c (past c w i.codes) (i.h MidTier) w.soup x σ (on_msg c.u σ.log (end_index from) p) None k
        (on_msg_ok c.u (i.h MidTier) (log_soup MidTier w.soup) x σ.log q.0 j p (knows c (past c w i.codes) (i.h MidTier) w.soup x σ k) q.1 refl right)
        (msg_from c.u (i.h MidTier) (log_soup MidTier w.soup) x σ.log (end_index from) p k.inside right) (λ v f. absurd (cc))
mid_frame_ok c w place from to (msgs.Request seq text) x σ i e sent k = cond_both (not (is_client from)) (drops σ 7) _
    (MoveOk c (past c w i.codes) (i.h MidTier) w.soup x []) (λ f. stays_ok c (past c w i.codes) (i.h MidTier) w.soup x σ k)
    (λ f. cond_both (not (is_request c.service.programs (record { client = end_index from; seq = seq }) text))
    (drops σ 8) (on_request x σ (end_index from) seq text) (MoveOk c (past c w i.codes) (i.h MidTier) w.soup x [])
    (λ g. stays_ok c (past c w i.codes) (i.h MidTier) w.soup x σ k)
    (λ g. request_ok c (past c w i.codes) (i.h MidTier) w.soup x σ (end_index from) seq text k sent))
mid_frame_ok c w place from to (msgs.Token r token order) x σ i e sent k = cond_both (is_node_of c.u MidTier from)
    (on_token σ (record { round = r; from = end_index from; token = token; order = order })) (drops σ 7)
    (MoveOk c (past c w i.codes) (i.h MidTier) w.soup x [])
    (λ f. token_ok c (past c w i.codes) (i.h MidTier) w.soup x σ
    (record { round = r; from = end_index from; token = token; order = order }) k sent)
    (λ f. stays_ok c (past c w i.codes) (i.h MidTier) w.soup x σ k)
mid_frame_ok c w place from to (msgs.Answer n code) x σ i e sent k = cond_both (is_backend_node c.u from)
    (on_answer c.u x σ (tier_of from) n code) (drops σ 7) (MoveOk c (past c w i.codes) (i.h MidTier) w.soup x [])
    (λ f. answer_ok c (past c w i.codes) (i.h MidTier) w.soup x σ (tier_of from) n code k sent) (λ f. stays_ok c (past c w i.codes) (i.h MidTier) w.soup x σ k)
mid_frame_ok c w place from to (msgs.Have t n code) x σ i e sent k = cond_both (is_node_of c.u MidTier from)
    (on_have c.u x σ (end_index from) t n code) (drops σ 7) (MoveOk c (past c w i.codes) (i.h MidTier) w.soup x [])
    (λ f. have_ok c (past c w i.codes) (i.h MidTier) w.soup x σ (end_index from) t n code k sent.0 sent.1)
    (λ f. stays_ok c (past c w i.codes) (i.h MidTier) w.soup x σ k)
mid_frame_ok c w place from to (msgs.Reply who text) x σ i e sent k = stays_ok c (past c w i.codes) (i.h MidTier) w.soup x σ k
mid_frame_ok c w place from to (msgs.Call n text) x σ i e sent k = stays_ok c (past c w i.codes) (i.h MidTier) w.soup x σ k
mid_frame_ok c w place from to (msgs.Settle g) x σ i e sent k = stays_ok c (past c w i.codes) (i.h MidTier) w.soup x σ k

back_frame_ok : {B : Type 0} (c : Config B) (w : World B) (place : ℕ) (from : End) (message : Msg) (t : Tier) (x : ℕ)
    (σ : Back B) → (i : WorldOk c w)
    → slice_get w.soup place ≡ Some (record { from = from; to = node t x; message = message })
    → SentBy c (past c w i.codes) from (node t x) message
    → BackHere c (past c w i.codes) t (w.logs t) (i.h t) w.soup x σ
    → BackMoveOk c (past c w i.codes) t (i.h t) w.soup x (backs.on_frame c.u (c.service.backend t) t x σ from message)
back_frame_ok {B} c w place from (msgs.Log p) t x σ i e sent k = cond_both (is_node_of c.u t from)
    (back.in_log c.u (c.service.backend t) t x σ (on_msg c.u σ.log (end_index from) p)) (drops σ 7)
    (BackMoveOk c (past c w i.codes) t (i.h t) w.soup x) taken
    (λ f. back_stays c (past c w i.codes) t (w.logs t) (i.h t) w.soup x σ k)
  where
    taken : is_node_of c.u t from ≡ true
        → BackMoveOk c (past c w i.codes) t (i.h t) w.soup x
        (back.in_log c.u (c.service.backend t) t x σ (on_msg c.u σ.log (end_index from) p))
    taken f =
        let q = log_place t w.soup place from (node t x) p (node_in c.u t from f) e in
        let j : LogPacket AnyValue = record { from = end_index from; to = x; msg = p } in
        let right : PacketOk c.u (i.h t) (log_soup t w.soup) j = every-get (PacketOk c.u (i.h t) (log_soup t w.soup))
        (log_soup t w.soup) q.0 j (i.core.logs t).history.packets q.1 in
        back_move c (past c w i.codes) t (w.logs t) (i.h t) w.soup x σ (on_msg c.u σ.log (end_index from) p) None k
        (on_msg_ok c.u (i.h t) (log_soup t w.soup) x σ.log q.0 j p (back_knows c (past c w i.codes) t (w.logs t) (i.h t) w.soup x σ k) q.1 refl right)
        (msg_from c.u (i.h t) (log_soup t w.soup) x σ.log (end_index from) p k.inside right) (one_msg c.u σ.log (end_index from) p) (λ q v f. absurd (cc))
back_frame_ok c w place from (msgs.Call n text) t x σ i e sent k = cond_both (is_node_of c.u MidTier from)
    (on_call t x σ (end_index from) n text) (drops σ 7) (BackMoveOk c (past c w i.codes) t (i.h t) w.soup x)
    (λ f. call_ok c (past c w i.codes) t (w.logs t) (i.h t) w.soup x σ (end_index from) n text k sent)
    (λ f. back_stays c (past c w i.codes) t (w.logs t) (i.h t) w.soup x σ k)
back_frame_ok c w place from (msgs.Settle g) t x σ i e sent k = cond_both (is_node_of c.u MidTier from)
    (on_settle σ (end_index from) g) (drops σ 7) (BackMoveOk c (past c w i.codes) t (i.h t) w.soup x)
    (λ f. settle_ok c (past c w i.codes) t (w.logs t) (i.h t) w.soup x σ (end_index from) g k sent)
    (λ f. back_stays c (past c w i.codes) t (w.logs t) (i.h t) w.soup x σ k)
back_frame_ok c w place from (msgs.Request seq text) t x σ i e sent k = back_stays c (past c w i.codes) t (w.logs t) (i.h t) w.soup x σ k
back_frame_ok c w place from (msgs.Reply who text) t x σ i e sent k = back_stays c (past c w i.codes) t (w.logs t) (i.h t) w.soup x σ k
back_frame_ok c w place from (msgs.Token r token order) t x σ i e sent k = back_stays c (past c w i.codes) t (w.logs t) (i.h t) w.soup x σ k
back_frame_ok c w place from (msgs.Answer n code) t x σ i e sent k = back_stays c (past c w i.codes) t (w.logs t) (i.h t) w.soup x σ k
back_frame_ok c w place from (msgs.Have v n code) t x σ i e sent k = back_stays c (past c w i.codes) t (w.logs t) (i.h t) w.soup x σ k

client_ok : {B : Type 0} (c : Config B) (w : World B) (from : End) (message : Msg) (y : ℕ) → (i : WorldOk c w)
    → SentBy c (past c w i.codes) from (Client y) message → Mid_event c (past c w i.codes) (client_gets w y message)
client_ok {B} c w from (msgs.Reply who text) y i sent =
    let s : Client y ≡ Client who.client = sent.0 in
    let same : who.client ≡ y = sym (ap end_index s) in
    takes_ok c w y who.seq text (subst (λ z. (server c.service w.hist).replies z who.seq ≡ Some text) same sent.1) i
client_ok c w from (msgs.Log p) y i sent = unchanged c w i
client_ok c w from (msgs.Request seq text) y i sent = unchanged c w i
client_ok c w from (msgs.Token r token order) y i sent = unchanged c w i
client_ok c w from (msgs.Call n text) y i sent = unchanged c w i
client_ok c w from (msgs.Answer n code) y i sent = unchanged c w i
client_ok c w from (msgs.Have t n code) y i sent = unchanged c w i
client_ok c w from (msgs.Settle g) y i sent = unchanged c w i

frame_fits : {B : Type 0} (c : Config B) (w : World B) (place : ℕ) (from : End) (message : Msg) (t : Tier) (x : ℕ)
    → c.u < 128 → (i : WorldOk c w) → slice_get w.soup place ≡ Some (record { from = from; to = node t x; message = message })
    → SentBy c (past c w i.codes) from (node t x) message → MoveFits c w i t x ((kind_at c t x).on_frame from message) (λ σ. [])
frame_fits c w place from message MidTier x few i e sent = λ σ lx up. mid_step c (past c w i.codes) (i.h MidTier) w.soup
    x [] (mids.on_frame c.u c.service.programs x σ from message)
    (mid_frame_ok c w place from (node MidTier x) message x σ i e sent (here c w x σ few lx i up))
frame_fits c w place from message Inv x few i e sent = λ σ lx up. inv_step c (past c w i.codes) (i.h Inv) w.soup x
    (backs.on_frame c.u (c.service.backend Inv) Inv x σ from message)
    (back_frame_ok c w place from message Inv x σ i e sent (inv_here c w x σ few lx i up))
frame_fits c w place from message Pay x few i e sent = λ σ lx up. pay_step c (past c w i.codes) (i.h Pay) w.soup x
    (backs.on_frame c.u (c.service.backend Pay) Pay x σ from message)
    (back_frame_ok c w place from message Pay x σ i e sent (pay_here c w x σ few lx i up))

node_gets_ok : {B : Type 0} (c : Config B) (w : World B) (fared : Fared) (place : ℕ) (from : End) (message : Msg)
    (t : Tier) (x : ℕ) → c.u < 128 → (i : WorldOk c w)
    → slice_get w.soup place ≡ Some (record { from = from; to = node t x; message = message })
    → SentBy c (past c w i.codes) from (node t x) message
    → Mid_event c (past c w i.codes) (node_gets c w fared from message t x)
node_gets_ok c w fared place from message t x few i e sent = at_node_ok c w t x (fate c fared)
    ((kind_at c t x).on_frame from message) (λ σ. []) few i (frame_fits c w place from message t x few i e sent)

arrives_ok : {B : Type 0} (c : Config B) (w : World B) (fared : Fared) (place : ℕ) (from : End) (message : Msg)
    (to : End) → c.u < 128 → (i : WorldOk c w)
    → slice_get w.soup place ≡ Some (record { from = from; to = to; message = message })
    → Mid_event c (past c w i.codes) (arrives c w fared from message to)
arrives_ok c w fared place from message (Node n) few i e = node_gets_ok c w fared place from message n.tier n.index few
    i e (every-get (SentOk c (past c w i.codes)) w.soup place (record { from = from; to = Node n; message = message })
    i.core.packets e)
arrives_ok c w fared place from message (Client y) few i e = client_ok c w from message y i
    (every-get (SentOk c (past c w i.codes)) w.soup place (record { from = from; to = Client y; message = message })
    i.core.packets e)

delivered_ok : {B : Type 0} (c : Config B) (w : World B) (fared : Fared) (place : ℕ) (o : Option Packet) → c.u < 128
    → (i : WorldOk c w) → slice_get w.soup place ≡ o → Mid_event c (past c w i.codes) (delivered c w fared o)
delivered_ok c w fared place None few i e = unchanged c w i
delivered_ok c w fared place (Some k) few i e = arrives_ok c w fared place k.from k.message k.to few i e

shortened_ok : {B : Type 0} (c : Config B) (w : World B) (fared : Fared) (bytes place : ℕ) (o : Option Packet)
    → c.u < 128 → (i : WorldOk c w) → slice_get w.soup place ≡ o → Mid_event c (past c w i.codes) (shortened c w fared bytes o)
shortened_ok c w fared bytes place None few i e = unchanged c w i
shortened_ok c w fared bytes place (Some k) few i e = cond_both (nat_le (c.frame_length k.from k.message) bytes)
    (arrives c w fared k.from k.message k.to) w (Mid_event c (past c w i.codes))
    (λ f. arrives_ok c w fared place k.from k.message k.to few i e) (λ f. unchanged c w i)

-- COMMANDS

lead_fits : {B : Type 0} (c : Config B) (w : World B) (t : Tier) (x : ℕ) → c.u < 128 → (i : WorldOk c w) → MoveFits c w i t x (kind_at c t x).leads (λ σ. [])
lead_fits c w MidTier x few i = λ σ lx up. mid_step c (past c w i.codes) (i.h MidTier) w.soup x []
    (mids.leads c.u c.service.programs x σ) (leads_ok c (past c w i.codes) (i.h MidTier) w.soup x σ (here c w x σ few lx i up))
lead_fits c w Inv x few i = λ σ lx up. inv_step c (past c w i.codes) (i.h Inv) w.soup x
    (backs.leads c.u (c.service.backend Inv) Inv x σ)
    (back_leads_ok c (past c w i.codes) Inv (w.logs Inv) (i.h Inv) w.soup x σ (inv_here c w x σ few lx i up))
lead_fits c w Pay x few i = λ σ lx up. pay_step c (past c w i.codes) (i.h Pay) w.soup x
    (backs.leads c.u (c.service.backend Pay) Pay x σ)
    (back_leads_ok c (past c w i.codes) Pay (w.logs Pay) (i.h Pay) w.soup x σ (pay_here c w x σ few lx i up))

lead_event : {B : Type 0} (c : Config B) (w : World B) (fared : Fared) (t : Tier) (x : ℕ) → c.u < 128
    → (i : WorldOk c w) → Mid_event c (past c w i.codes) (leads c w fared t x)
lead_event c w fared t x few i = at_node_ok c w t x (fate c fared) (kind_at c t x).leads (λ σ. []) few i (lead_fits c w t x few i)

offer_fits : {B : Type 0} (c : Config B) (w : World B) (t : Tier) (x : ℕ) → c.u < 128 → (i : WorldOk c w) → MoveFits c w i t x (kind_at c t x).offers (λ σ. [])
offer_fits c w MidTier x few i = λ σ lx up. mid_step c (past c w i.codes) (i.h MidTier) w.soup x []
    (mids.offers c.u c.service.programs x σ) (offers_ok c (past c w i.codes) (i.h MidTier) w.soup x σ (here c w x σ few lx i up))
offer_fits c w Inv x few i = λ σ lx up. inv_step c (past c w i.codes) (i.h Inv) w.soup x
    (backs.offers c.u (c.service.backend Inv) Inv x σ)
    (back_offers_ok c (past c w i.codes) Inv (w.logs Inv) (i.h Inv) w.soup x σ (inv_here c w x σ few lx i up))
offer_fits c w Pay x few i = λ σ lx up. pay_step c (past c w i.codes) (i.h Pay) w.soup x
    (backs.offers c.u (c.service.backend Pay) Pay x σ)
    (back_offers_ok c (past c w i.codes) Pay (w.logs Pay) (i.h Pay) w.soup x σ (pay_here c w x σ few lx i up))

offer_event : {B : Type 0} (c : Config B) (w : World B) (fared : Fared) (t : Tier) (x : ℕ) → c.u < 128
    → (i : WorldOk c w) → Mid_event c (past c w i.codes) (offers c w fared t x)
offer_event c w fared t x few i = at_node_ok c w t x (fate c fared) (kind_at c t x).offers (λ σ. []) few i (offer_fits c w t x few i)

work_event : {B : Type 0} (c : Config B) (w : World B) (t : Tier) (x : ℕ) (schedule : List ℕ) → c.u < 128
    → (i : WorldOk c w) → Mid_event c (past c w i.codes) (works c w t x schedule)
work_event c w MidTier x schedule few i = at_node_ok c w MidTier x unwritten (λ σ. work c.u c.service.programs x σ schedule) (ran c x schedule) few i
    (λ σ lx up. mid_step c (past c w i.codes) (i.h MidTier) w.soup x (ran c x schedule σ)
    (work c.u c.service.programs x σ schedule)
    (work_ok c (past c w i.codes) (i.h MidTier) w.soup x σ schedule (here c w x σ few lx i up)))
work_event c w Inv x schedule few i = unchanged c w i
work_event c w Pay x schedule few i = unchanged c w i

retry_fits : {B : Type 0} (c : Config B) (w : World B) (t : Tier) (x : ℕ) → c.u < 128 → (i : WorldOk c w) → MoveFits c w i t x (kind_at c t x).retry (λ σ. [])
retry_fits c w MidTier x few i = λ σ lx up. mid_step c (past c w i.codes) (i.h MidTier) w.soup x [] (mids.retry c.u x σ)
    (retry_ok c (past c w i.codes) (i.h MidTier) w.soup x σ (here c w x σ few lx i up))
retry_fits c w Inv x few i = λ σ lx up. inv_step c (past c w i.codes) (i.h Inv) w.soup x (backs.retry c.u Inv x σ)
    (back_retry_ok c (past c w i.codes) Inv (w.logs Inv) (i.h Inv) w.soup x σ (inv_here c w x σ few lx i up))
retry_fits c w Pay x few i = λ σ lx up. pay_step c (past c w i.codes) (i.h Pay) w.soup x (backs.retry c.u Pay x σ)
    (back_retry_ok c (past c w i.codes) Pay (w.logs Pay) (i.h Pay) w.soup x σ (pay_here c w x σ few lx i up))

node_retry_event : {B : Type 0} (c : Config B) (w : World B) (t : Tier) (x : ℕ) → c.u < 128 → (i : WorldOk c w)
    → Mid_event c (past c w i.codes) (node_retries c w t x)
node_retry_event c w t x few i = at_node_ok c w t x unwritten (kind_at c t x).retry (λ σ. []) few i (retry_fits c w t x few i)

retry_event : {B : Type 0} (c : Config B) (w : World B) (end : End) → c.u < 128 → (i : WorldOk c w) → Mid_event c (past c w i.codes) (retries c w end)
retry_event c w (Node n) few i = node_retry_event c w n.tier n.index few i
retry_event c w (Client y) few i = reopens_ok c w y (w.clients y).opened refl i

restores : {B : Type 0} (c : Config B) (w : World B) (i : WorldOk c w) (t : Tier) (x : ℕ) → Restores c w i t x (kind_at c t x).recovered
restores c w i MidTier x = mid_restores c w i x
restores c w i Inv x = inv_restores c w i x
restores c w i Pay x = pay_restores c w i x

-- EVENTS

if_can_ok : {B : Type 0} (c : Config B) (w new : World B) (fared : Fared) → (i : WorldOk c w)
    → Mid_event c (past c w i.codes) new → Mid_event c (past c w i.codes) (if_can fared new w)
if_can_ok c w new fared i k = cond_both (can_fare fared) new w (Mid_event c (past c w i.codes)) (λ e. k) (λ e. unchanged c w i)

pub happens_ok : {B : Type 0} (c : Config B) (w : World B) (e : TraceEvent) → c.u < 128 → (i : WorldOk c w) → Mid_event c (past c w i.codes) (happens c w e)
happens_ok c w (Submit y text) few i = submits_ok c w y text i
happens_ok c w (Deliver k fared) few i = if_can_ok c w _ fared i (delivered_ok c w fared k (slice_get w.soup k) few i refl)
happens_ok c w (Short k bytes fared) few i = if_can_ok c w _ fared i (shortened_ok c w fared bytes k (slice_get w.soup k) few i refl)
happens_ok c w (Lead n fared) few i = if_can_ok c w _ fared i (lead_event c w fared n.tier n.index few i)
happens_ok c w (Offer n fared) few i = if_can_ok c w _ fared i (offer_event c w fared n.tier n.index few i)
happens_ok c w (Work n schedule) few i = work_event c w n.tier n.index schedule few i
happens_ok c w (Retry end) few i = retry_event c w end few i
happens_ok c w (Crash n) few i = crash_keeps c w n.tier n.index i
happens_ok c w (Restart n found) few i = restart_keeps c w n.tier n.index (kind_at c n.tier n.index).recovered (list_of found) i (restores c w i n.tier n.index)
happens_ok c w (Wipe n) few i = wipe_keeps c w n.tier n.index i

pub start_ok : {B : Type 0} (c : Config B) → Laws c.service.programs → WorldOk c (start {B = B})
start_ok {B} c laws = record {
  codes = λ t x. [];
  h = λ t x. [];
  core = record {
    laws = laws;
    logs = λ t. record { history = empty_history c.u; good = λ x l p b v d. absurd d; sound = λ p v e. absurd (cc) };
    ledger = subst (λ K. Ledger c.service c.depth [] K []) no_logs
        (ledger_start c.service c.depth (mirrors_start c.service c.depth) (start_tables c.depth (empty_server c.service)));
    runs = λ i v e. absurd (cc);
    right = λ t x i q e. absurd (cc);
    packets = tt;
    nodes = λ t x l. record { is_log = refl; is_held = refl; pending = λ n Q q. absurd (cc) };
    clients = λ y text e. absurd (cc);
    starts = λ j n who body e. absurd (cc);
    told = λ j e f. absurd (cc);
  };
  done = record { all = λ t. record { at = λ p v m. absurd (let e = m.is_sent in cc) } };
}
  where
    empty_history : {V : Type 0} (u : ℕ) → History {V = V} u (λ x. []) []
    empty_history u = record { orderly = λ x l. tt; votes = λ x l p b v d. absurd d; learned = λ x l p v e. absurd (cc); packets = tt }

    no_logs : (λ (t : Tier). []) ≡ back_logs (λ t. [])
    no_logs = λ i s. at s i
      where
        at : (s : Tier) → [] ≡ back_logs (λ t. []) s
        at MidTier = refl
        at Inv = refl
        at Pay = refl

-- no node holds anything
pub start_codes : {B : Type 0} (c : Config B) (laws : Laws c.service.programs) (t : Tier) (x : ℕ) → (start_ok c laws).codes t x ≡ []
unfolding start_ok
start_codes c laws t x = refl

pub run_ok : {B : Type 0} (c : Config B) (es : List TraceEvent) (w : World B) → c.u < 128 → WorldOk c w → WorldOk c (run c es w)
run_ok c [] w few i = i
run_ok c (e ∷ es) w few i = run_ok c es (grows c (happens c w e)) few (grows_ok c (past c w i.codes) (happens c w e) few (happens_ok c w e few i))

pub world_ok : {B : Type 0} (c : Config B) (es : List TraceEvent) → c.u < 128 → Laws c.service.programs → WorldOk c (world c es)
world_ok c es few laws = run_ok c es start few (start_ok c laws)
