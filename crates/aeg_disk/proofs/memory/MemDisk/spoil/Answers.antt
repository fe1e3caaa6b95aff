use Rattle.std.proofs.Common.{◌≡◌, ◌≤◌, false, refl, length, rules, arith}
use Rattle.aeg_disk.specs.Disk.{Rose}
use Rattle.aeg_disk.proofs.Tapes.{mark_logged, fault_state}
use Rattle.aeg_disk.proofs.memory.MemDisk.spoil.Goals as goal

pub invariant_of-self-2 : goal.invariant_of-self-2
invariant_of-self-2 c =
    let long : c.len.result ≡ length c.args.self.now.bytes.items = search rules in
    record { logged = mark_logged _ _ _ c.args.self.now.bytes.items c.args.self.now.logged c.args.at c.args.count _ false long c.in_ok-add.ensures.ok }

pub returns-clause-fault : goal.returns-clause-fault
returns-clause-fault c =
    let long : c.len.result ≡ length c.args.self.now.bytes.items = search rules in
    let later : c.args.self.now.faults ≤ c.saturating_add-self-2.result = omega arith in
    let rose : Rose c.args.self.now.faults c.saturating_add-self-2.result = omega arith in
    rw c.saturating_sub-self.ensures
    (fault_state _ _ _ _ c.args.self.now.logged _ _ _ _ c.requires.runs c.args.at c.args.count _
    c.saturating_add-self-2.result c.requires.unmet later rose refl long c.in_ok-add.ensures.ok)
