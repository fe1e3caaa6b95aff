use Rattle.std.proofs.Common.{◌≡◌, ◌∙◌, ap, length, take, drop, arith}
use Rattle.kv_store.specs.Stores.{unwound}
use Rattle.kv_store.proofs.Unwinding.{undone_more, front_more}
use Rattle.kv_store.proofs.store.Store.undo_to.Goals as goal

pub entries-preserved : goal.entries-preserved
entries-preserved c =
    let all = c.args.list.now.entries in
    let es = c.entries.list.entries in
    let new = c.take_back.new.list.entries in
    let less = c.take_back.ensures.less in
    record {
      map = c.take_back.ensures.map ∙ ap (unwound (drop (length new) es)) c.entries.invariant.map
          ∙ undone_more all es (length new) c.args.self.now.map c.entries.invariant.front (omega arith);
      front = front_more all es new c.entries.invariant.front c.take_back.ensures.entries (omega arith);
      left = c.take_back.ensures.left;
      top = c.take_back.ensures.top ∙ c.entries.invariant.top;
      room = c.take_back.ensures.room ∙ c.entries.invariant.room;
      list_room = c.take_back.ensures.list_room ∙ c.entries.invariant.list_room;
      kept = (let more = c.entries-test.true in let is = c.len.ensures in omega arith);
    }

pub returns-clause-map : goal.returns-clause-map
returns-clause-map c =
    let n : length c.entries.list.entries ≡ c.args.kept =
    (let more = c.entries.invariant.kept in let none = c.entries-test.false in let is = c.len.ensures in omega arith) in
    c.entries.invariant.map ∙ ap (λ m. unwound (drop m c.args.list.now.entries) c.args.self.now.map) n

pub returns-clause-entries : goal.returns-clause-entries
returns-clause-entries c =
    let n : length c.entries.list.entries ≡ c.args.kept =
    (let more = c.entries.invariant.kept in let none = c.entries-test.false in let is = c.len.ensures in omega arith) in
    c.entries.invariant.front ∙ ap (λ m. take m c.args.list.now.entries) n
