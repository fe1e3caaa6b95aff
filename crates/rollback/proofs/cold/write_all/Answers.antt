use Rattle.std.proofs.Common.{◌≡◌, ℕ, ◌+◌, ◌-◌, ◌<◌, ap, length, get_or, ◌∷◌, [], length-append, arith}
use Rattle.aeg_base.specs.Store.{written, written_all, value_at}
use Rattle.aeg_base.specs.declared.names.Key.{Key}
use Rattle.rollback.proofs.Writes.{written_more, size_more, class_at}
use Rattle.rollback.proofs.cold.write_all.Goals as goal

pub put_logged-requires-clause-class : goal.put_logged-requires-clause-class
put_logged-requires-clause-class c = class_at c.args.pairs.now c.pairs.key-index (record { class = 0; id = 0 }, 0) c.requires c.pairs-test.true

pub pairs-preserved : goal.pairs-preserved
pairs-preserved c =
    let ps = c.args.pairs.now in
    let k = c.pairs.key-index in
    let lt : k < length ps = c.pairs-test.true in
    let p : Key × ℕ = get_or ps k (record { class = 0; id = 0 }, 0) in
    let w : c.put_logged.new.self.map ≡ written c.pairs.store.map p.0 p.1 = c.put_logged.ensures.map in
    let left : (length ps - (k + 1)) + 1 ≡ length ps - k = omega arith in
    record {
      written = written_more ps k (record { class = 0; id = 0 }, 0) c.pairs.store.map c.put_logged.new.self.map
          (written_all c.args.store.now.map ps) lt w c.pairs.invariant.written;
      room = (let a = size_more c.pairs.store.map c.put_logged.new.self.map p.0 p.1 (length ps - k)
          (length ps - (k + 1)) c.pairs.store.room w left c.pairs.invariant.room in let r = c.put_logged.ensures.room in omega arith);
      list_room = (let e = ap length c.put_logged.ensures.entries in let l = length-append c.pairs.undo.entries
          ((p.0, value_at c.pairs.store.map p.0) ∷ []) in let r = c.put_logged.ensures.list_room in let i = c.pairs.invariant.list_room in omega arith);
    }
