use Rattle.std.proofs.Common.{rules, ◌≡◌, [], ◌++◌, ◌∙◌, ap, sym, subst, arith, append-nil, get_or, Some, None}
use Rattle.std.specs.Prelude.{map}
use Rattle.std.proofs.lemmas.Bool.{cond-true, cond-false}
use Rattle.std.proofs.lemmas.Result.{on_ok_weaker}
use Rattle.aeg_base.specs.declared.names.End.TheVariants as ends
use Rattle.tier_model.specs.declared.turn.Idle.TheVariants as why
use Rattle.run_model.specs.declared.trace.TraceEvent.TheVariants as events
use Rattle.run_model.specs.World.{requests, reopens}
use Rattle.run_model.specs.Text.{client_name, cause_text, idle_line}
use Rattle.round_model.specs.Lists.{is_some}
use Rattle.net_script.specs.Clients.{ClientState}
use Rattle.run_model.specs.BookingRuns.{config}
use Rattle.world.specs.Parts.{sealed}
use Rattle.world.specs.Watching.{hears_packets, all_grown}
use Rattle.world.specs.declared.parts.Parts.{Parts}
use Rattle.world.proofs.Events.RequestsOfClients.{CanAsk, pending_none, pending_some, ask_fits, again_leads, client_is}
use Rattle.world.proofs.Events.RequestsOfClients.{asked_once, asked, again_disks, nothing_leads}
use Rattle.world.proofs.Turns.PacketsHaveRoom.{requests_fit}
use Rattle.world.proofs.parts.Parts.ask_again.Goals as goal

pub returns-in_default : goal.returns-in_default
returns-in_default c =
    let at : c.index.result.now ≡ get_or c.args.self.now.clients.items c.args.client c.index.result.now = subst
    (λ z. c.index.result.now ≡ get_or c.args.self.now.clients.items z c.index.result.now) c.from.ensures (search rules) in
    let nothing : c.index.result.now.end.opened ≡ None = pending_none c.index.result.now (sym c.in_default.ensures) in
    on_ok_weaker c.send.result (λ sent disks u depth w s d.
    let e = sent.0 in
    let i = client_is w c.args.self.now.clients.items c.args.client c.index.result.now s.clients c.requires.client.1 at in
    let none : (w.clients c.args.client).opened ≡ None = ap (λ (v : ClientState). v.end.opened) (sym i.is) ∙ nothing in
    asked u depth w w c.args.self.now c.send.new.self [] (events.Retry (ends.Client c.args.client))
    (idle_line (client_name c.args.client) (cause_text why.Nothing)) c.args.lines.now c.add_idle.new.out s sent.1
    (ap (reopens (config u depth) w c.args.client) none)
    (cond-false (is_some (w.clients c.args.client).opened) _ _ (ap is_some none))
    (nothing_leads u depth w c.args.self.now.nodes s.nodes) (rw e s.clients)
    (e ∙ (λ j. record c.args.self.now {
      soup = c.args.self.now.soup ++ c.new-out.ensures j;
      watch = all_grown (hears_packets c.args.self.now.watch (c.new-out.ensures j));
    })
    ∙ (λ j. record c.args.self.now {
      clients = ap (λ (p : Parts). p.clients) (sym e) j;
      soup = c.args.self.now.soup ++ [];
      watch = all_grown (hears_packets c.args.self.now.watch []);
    }))
    c.in_ok-add_idle.ensures disks d (λ f. absurd (cc)) tt) c.send.ensures

pub add_requests-requires-clause-fit : goal.add_requests-requires-clause-fit
add_requests-requires-clause-fit c =
    let r = c.requires.shown in
    let at : c.index.result.now ≡ get_or c.args.self.now.clients.items c.args.client c.index.result.now = subst
    (λ z. c.index.result.now ≡ get_or c.args.self.now.clients.items z c.index.result.now) c.from.ensures (search rules) in
    let i = client_is r.2 c.args.self.now.clients.items c.args.client c.index.result.now r.3.clients c.requires.client.1 at in
    let h = pending_some c.index.result.now c.in-Some.seq c.in-Some.body.now (sym c.in-Some.ensures) in
    let some : (r.2.clients c.args.client).opened ≡ Some c.in-Some.body.now = ap (λ (v : ClientState). v.end.opened) (sym i.is) ∙ h.0 in
    let once = asked_once c.args.client (r.2.clients c.args.client) c.in-Some.body.now i.asks some in
    let number : c.in-Some.seq ≡ 1 = h.1 ∙ ap (λ (v : ClientState). v.end.last) i.is ∙ once.0 in
    ask_fits c.args.client c.in-Some.seq c.in-Some.body.now
    (record { client = c.requires.client; seq_in = (omega (arith, number), omega (arith, number)); request = rw number once.1 })

pub send-requires-2 : goal.send-requires-2
send-requires-2 c =
    let s = c.requires.shown.3 in
    requests_fit c.args.self.now.u c.args.client c.in-Some.seq c.in-Some.body.now c.args.self.now.soup c.new-out.result
    c.add_requests.new.out (omega (arith, s.size, s.few)) c.requires.few c.new-out.ensures c.in_ok-add_requests.ensures

pub returns : goal.returns
returns c =
    let at : c.index.result.now ≡ get_or c.args.self.now.clients.items c.args.client c.index.result.now = subst
    (λ z. c.index.result.now ≡ get_or c.args.self.now.clients.items z c.index.result.now) c.from.ensures (search rules) in
    let h = pending_some c.index.result.now c.in-Some.seq c.in-Some.body.now (sym c.in-Some.ensures) in
    on_ok_weaker c.send-2.result (λ sent disks u depth w s d.
    let e = sent.0 in
    let i = client_is w c.args.self.now.clients.items c.args.client c.index.result.now s.clients c.requires.client.1 at in
    let some : (w.clients c.args.client).opened ≡ Some c.in-Some.body.now = ap (λ (v : ClientState). v.end.opened) (sym i.is) ∙ h.0 in
    let once = asked_once c.args.client (w.clients c.args.client) c.in-Some.body.now i.asks some in
    let number : c.in-Some.seq ≡ (w.clients c.args.client).last = h.1 ∙ ap (λ (v : ClientState). v.end.last) i.is in
    let last : (w.clients c.args.client).last ≡ 1 = once.0 in
    let can : CanAsk c.args.client (w.clients c.args.client).last c.in-Some.body.now = record {
      client = c.requires.client;
      seq_in = (omega (arith, last), omega (arith, last));
      request = rw last once.1;
    } in
    let out : c.add_requests.new.out ≡ map sealed (requests u c.args.client (w.clients c.args.client).last c.in-Some.body.now) =
    c.in_ok-add_requests.ensures
    ∙ ap (λ z. z ++ map sealed (requests c.args.self.now.u c.args.client c.in-Some.seq c.in-Some.body.now))
    c.new-out.ensures ∙ (λ j. map sealed (requests (s.size j) c.args.client (number j) c.in-Some.body.now)) in
    asked u depth w (reopens (config u depth) w c.args.client (Some c.in-Some.body.now)) c.args.self.now
    c.send-2.new.self (requests u c.args.client (w.clients c.args.client).last c.in-Some.body.now)
    (events.Retry (ends.Client c.args.client)) [] c.args.lines.now c.args.lines.now s sent.1
    (ap (reopens (config u depth) w c.args.client) some)
    (cond-true (is_some (w.clients c.args.client).opened) _ _ (ap is_some some))
    (again_leads u depth w c.args.self.now.nodes c.args.client c.in-Some.body.now s.nodes can) (rw e s.clients)
    (e ∙ (λ j. record c.args.self.now { soup = c.args.self.now.soup ++ out j; watch = all_grown (hears_packets c.args.self.now.watch (out j)) })
    ∙ (λ j. record c.args.self.now {
      clients = ap (λ (p : Parts). p.clients) (sym e) j;
      soup = c.args.self.now.soup
          ++ map sealed (requests u c.args.client (w.clients c.args.client).last c.in-Some.body.now);
      watch = all_grown
          (hears_packets c.args.self.now.watch
          (map sealed (requests u c.args.client (w.clients c.args.client).last c.in-Some.body.now)));
    }))
    (sym (append-nil c.args.lines.now)) disks (again_disks u depth w c.args.client c.in-Some.body.now disks d) (λ f. absurd (cc)) tt) c.send-2.ensures
