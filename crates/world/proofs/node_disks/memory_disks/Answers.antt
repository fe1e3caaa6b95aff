use Rattle.std.proofs.Common.{◌≡◌, ◌∷◌, ◌++◌, [], length, length-append, ap, sym, subst, List, arith}
use Rattle.aeg_disk.specs.declared.memory.MemDisk.{MemDisk}
use Rattle.world.proofs.Power.BlankDisks.{AllBlank, blank_more, are_blank}
use Rattle.world.proofs.node_disks.memory_disks.Goals as goal

pub disks-preserved : goal.disks-preserved
disks-preserved c =
    let e : c.push-in-disks.new.self.items ≡ c.disks.disks.items ++ c.new-in-disks-2.result ∷ [] = c.in_ok-push-2.ensures.items in
    let P : List MemDisk → Type 0 = λ z. AllBlank z in (
      subst P (sym e) (blank_more c.disks.disks.items c.new-in-disks-2.result c.disks.invariant.0 c.new-in-disks-2.ensures),
      (let more = ap length e in let long = length-append c.disks.disks.items
          (c.new-in-disks-2.result ∷ []) in let test = c.disks-test.true in let is = c.len.ensures in omega arith),
    )

pub returns : goal.returns
returns c = are_blank c.disks.disks.items
    (let test = c.disks-test.false in let is = c.len.ensures in let few = c.disks.invariant.1 in omega arith) c.disks.invariant.0
