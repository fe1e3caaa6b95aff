use Rattle.std.proofs.Common.{arith}
use Rattle.kv_store.proofs.Sizes.{size-written}
use Rattle.kv_store.proofs.Unwinding.{logged_start, logged_stays, top_above, top_covers}
use Rattle.kv_store.proofs.store.Store.put_logged.Goals as goal

pub write-requires-clause-room : goal.write-requires-clause-room
write-requires-clause-room c = let m = size-written c.args.self.now.map c.args.key c.args.value in let r = c.requires.room in omega arith

pub returns-clause-start : goal.returns-clause-start
returns-clause-start c = logged_start _ _ _ _ c.args.key c.args.value _ c.write.ensures.map c.get-held.ensures c.log.ensures.entries

pub returns-clause-left : goal.returns-clause-left
returns-clause-left c = logged_stays _ _ _ _ c.args.key c.args.value _ c.write.ensures.map c.get-held.ensures c.log.ensures.entries _ _
    (top_above _ _ _ c.log.ensures.top) (top_covers _ _ _ _ _ _ c.log.ensures.top c.max.ensures c.len-before.ensures.count)
