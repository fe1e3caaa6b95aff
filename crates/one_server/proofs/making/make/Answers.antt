use Rattle.std.proofs.Common.{◌≤◌, ◌+◌, ap, ◌∙◌, length, length-append, arith}
use Rattle.aeg_base.specs.Store.{Store, written}
use Rattle.kv_store.specs.Stores.{size}
use Rattle.kv_store.proofs.Sizes.{size-written}
use Rattle.one_server.proofs.WriteLaws.{one_more}
use Rattle.one_server.proofs.making.make.Goals as goal

pub loop-write-preserved : goal.loop-write-preserved
loop-write-preserved c =
    let write = c.write-item.result in
    let grown : size c.put_logged.new.self.map ≤ size c.loop-write.store.map + 1 =
    let most = size-written c.loop-write.store.map write.key write.value in
    let same = ap size c.put_logged.ensures.map in omega (arith, most, same) in
    let noted = ap length c.put_logged.ensures.entries in
    record {
      made = c.put_logged.ensures.map ∙ ap (λ (s : Store). written s write.key write.value) c.loop-write.invariant.made
          ∙ one_more c.args.store.now.map c.args.writes.now c.loop-write.write-index write c.loop-write-test.true c.write-item.is;
      pairs = omega (arith, grown, c.loop-write.invariant.pairs);
      room = c.put_logged.ensures.room ∙ c.loop-write.invariant.room;
      entries = omega (arith, noted, simp length-append at noted, c.loop-write.invariant.entries);
      list_room = omega (arith, c.put_logged.ensures.list_room, c.loop-write.invariant.list_room);
    }
