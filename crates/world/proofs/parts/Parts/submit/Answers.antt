use Rattle.std.proofs.Common.{◌≡◌, true, [], ◌++◌, ◌∙◌, ap, sym, subst, arith, append-nil, get_or, suc, None}
use Rattle.std.specs.Prelude.{map, codes, slice_set}
use Rattle.std.specs.Fmt.{decimal}
use Rattle.std.proofs.lemmas.Bool.{cond-true, cond-false}
use Rattle.std.proofs.lemmas.Result.{on_ok_weaker}
use Rattle.run_model.specs.declared.trace.TraceEvent.TheVariants as events
use Rattle.run_model.specs.World.{requests, opens}
use Rattle.run_model.specs.Text.{then_word, line_end}
use Rattle.round_model.specs.Lists.{is_some}
use Rattle.net_script.specs.Clients.{ClientState, Submits}
use Rattle.world.specs.declared.parts.Parts.{Parts}
use Rattle.world.specs.Parts.{sealed}
use Rattle.world.specs.Watching.{hears_packets, all_grown}
use Rattle.world.specs.Standing.{AreAll, IsClientEnd}
use Rattle.world.proofs.Events.RequestsOfClients.{CanAsk, ask_fits, asked_is, submit_is, open_leads, busy_is, client_is, client_back}
use Rattle.world.proofs.Events.RequestsOfClients.{client_opened, asked_nothing, asked, open_disks, nothing_leads}
use Rattle.world.proofs.Turns.PacketsHaveRoom.{requests_fit}
use Rattle.world.proofs.parts.Parts.submit.Goals as goal

pub returns-in_default : goal.returns-in_default
returns-in_default c =
    let h = subst (λ z. Submits c.index_mut.result.now c.submit.new.self c.args.body.now z) c.in_default.is c.in_ok-seq.ensures.ok in
    let at = subst (λ z. c.index_mut.result.now ≡ get_or c.args.self.now.clients.items z c.index_mut.result.now) c.from.ensures c.index_mut.ensures.value in
    on_ok_weaker c.send.result (λ sent disks u depth w s d.
    let e = sent.0 in
    let i = client_is w c.args.self.now.clients.items c.args.client c.index_mut.result.now s.clients c.requires.client.1 at in
    let opened : is_some (w.clients c.args.client).opened ≡ true = ap (λ (v : ClientState). is_some v.end.opened) (sym i.is) ∙ h.0 in
    let kept : AreAll 17 IsClientEnd w.clients
    (slice_set c.args.self.now.clients.items c.from.result c.submit.new.self) = rw c.from.ensures
    (client_back w c.args.self.now.clients.items c.args.client c.index_mut.result.now c.submit.new.self s.clients
    c.requires.client.1 at h.1) in
    let list : c.send.new.self.clients.items
    ≡ slice_set c.args.self.now.clients.items c.from.result c.submit.new.self = ap (λ (p : Parts). p.clients.items) e in
    let back = subst (λ z. AreAll 17 IsClientEnd w.clients z) (sym list) kept in
    let same = sym (ap (λ (p : Parts). p.clients) e) in
    asked u depth w w c.args.self.now c.send.new.self [] (events.Submit c.args.client c.args.body.now)
    (then_word (codes "busy") (decimal c.args.client ++ line_end)) c.args.lines.now c.add_busy.new.out s sent.1
    (busy_is u depth w c.args.client c.args.body.now opened)
    (cond-true (is_some (w.clients c.args.client).opened) _ _ opened)
    (nothing_leads u depth w c.args.self.now.nodes s.nodes) back
    (e ∙ (λ j. record c.args.self.now {
      clients = same j;
      soup = c.args.self.now.soup ++ c.new-out.ensures j;
      watch = all_grown (hears_packets c.args.self.now.watch (c.new-out.ensures j));
    }))
    c.in_ok-add_busy.ensures disks d (λ f. absurd (cc)) tt) c.send.ensures

pub add_requests-requires-clause-fit : goal.add_requests-requires-clause-fit
add_requests-requires-clause-fit c =
    let r = c.requires.shown in
    let h = subst (λ z. Submits c.index_mut.result.now c.submit.new.self c.args.body.now z) c.in-Some.is c.in_ok-seq.ensures.ok in
    let at = subst (λ z. c.index_mut.result.now ≡ get_or c.args.self.now.clients.items z c.index_mut.result.now) c.from.ensures c.index_mut.ensures.value in
    let i = client_is r.2 c.args.self.now.clients.items c.args.client c.index_mut.result.now r.3.clients c.requires.client.1 at in
    let none : (r.2.clients c.args.client).opened ≡ None = ap (λ (v : ClientState). v.end.opened) (sym i.is) ∙ h.0 in
    let first : (r.2.clients c.args.client).last ≡ 0 = asked_nothing c.args.client (r.2.clients c.args.client) i.asks none in
    let number : c.in-Some.seq ≡ suc (r.2.clients c.args.client).last = h.1.0 ∙ ap (λ (v : ClientState). suc v.end.last) i.is in
    ask_fits c.args.client c.in-Some.seq c.args.body.now
    (record {
      client = c.requires.client;
      seq_in = (omega (arith, number, first), omega (arith, number, first));
      request = asked_is c.args.client c.in-Some.seq c.args.body.now c.requires.asked;
    })

pub send-requires-2 : goal.send-requires-2
send-requires-2 c =
    let s = c.requires.shown.3 in
    requests_fit c.args.self.now.u c.args.client c.in-Some.seq c.args.body.now c.args.self.now.soup c.new-out.result
    c.add_requests.new.out (omega (arith, s.size, s.few)) c.requires.few c.new-out.ensures c.in_ok-add_requests.ensures

pub returns : goal.returns
returns c =
    let h = subst (λ z. Submits c.index_mut.result.now c.submit.new.self c.args.body.now z) c.in-Some.is c.in_ok-seq.ensures.ok in
    let at = subst (λ z. c.index_mut.result.now ≡ get_or c.args.self.now.clients.items z c.index_mut.result.now) c.from.ensures c.index_mut.ensures.value in
    on_ok_weaker c.send-2.result (λ sent disks u depth w s d.
    let e = sent.0 in
    let i = client_is w c.args.self.now.clients.items c.args.client c.index_mut.result.now s.clients c.requires.client.1 at in
    let none : (w.clients c.args.client).opened ≡ None = ap (λ (v : ClientState). v.end.opened) (sym i.is) ∙ h.0 in
    let first : (w.clients c.args.client).last ≡ 0 = asked_nothing c.args.client (w.clients c.args.client) i.asks none in
    let number : c.in-Some.seq ≡ suc (w.clients c.args.client).last = h.1.0 ∙ ap (λ (v : ClientState). suc v.end.last) i.is in
    let can : CanAsk c.args.client (suc (w.clients c.args.client).last) c.args.body.now = record {
      client = c.requires.client;
      seq_in = (omega (arith, first), omega (arith, first));
      request = asked_is c.args.client (suc (w.clients c.args.client).last) c.args.body.now c.requires.asked;
    } in
    let one : AreAll 17 IsClientEnd (opens u w c.args.client c.args.body.now).clients
    (slice_set c.args.self.now.clients.items c.from.result c.submit.new.self) = rw c.from.ensures
    (client_opened u w c.args.self.now.clients.items c.args.client c.index_mut.result.now c.submit.new.self
    c.args.body.now s.clients c.requires.client.1 at first (asked_is c.args.client 1 c.args.body.now c.requires.asked) h.1.1) in
    let list : c.send-2.new.self.clients.items
    ≡ slice_set c.args.self.now.clients.items c.from.result c.submit.new.self = ap (λ (p : Parts). p.clients.items) e in
    let now = subst (λ z. AreAll 17 IsClientEnd (opens u w c.args.client c.args.body.now).clients z) (sym list) one in
    let same = sym (ap (λ (p : Parts). p.clients) e) in
    let out : c.add_requests.new.out ≡ map sealed (requests u c.args.client (suc (w.clients c.args.client).last) c.args.body.now) =
    c.in_ok-add_requests.ensures
    ∙ ap (λ z. z ++ map sealed (requests c.args.self.now.u c.args.client c.in-Some.seq c.args.body.now))
    c.new-out.ensures ∙ (λ j. map sealed (requests (s.size j) c.args.client (number j) c.args.body.now)) in
    asked u depth w (opens u w c.args.client c.args.body.now) c.args.self.now c.send-2.new.self
    (requests u c.args.client (suc (w.clients c.args.client).last) c.args.body.now)
    (events.Submit c.args.client c.args.body.now) [] c.args.lines.now c.args.lines.now s sent.1
    (submit_is u depth w c.args.client c.args.body.now c.requires.client c.requires.asked none first)
    (cond-false (is_some (w.clients c.args.client).opened) _ _ (ap is_some none))
    (open_leads u depth w c.args.self.now.nodes c.args.client c.args.body.now s.nodes can) now
    (e ∙ (λ j. record c.args.self.now {
      clients = same j;
      soup = c.args.self.now.soup ++ out j;
      watch = all_grown (hears_packets c.args.self.now.watch (out j));
    }))
    (sym (append-nil c.args.lines.now)) disks (open_disks u w c.args.client c.args.body.now disks d) (λ f. absurd (cc)) tt) c.send-2.ensures
