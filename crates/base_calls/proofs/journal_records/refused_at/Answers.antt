use Rattle.std.proofs.Common.{◌≡◌, true, ℕ, Err, ap, sym, subst}
use Rattle.aeg_disk.specs.Disk.{DiskState}
use Rattle.node_journal.specs.Append.{IsReady}
use Rattle.base_calls.proofs.journal_records.refused_at.Goals as goal

pub returns-in-Full : goal.returns-in-Full
returns-in-Full g c =
    let same = c.in-Err.ensures.nothing_written c.in-Full.len (ap Err c.in-Full.is) in
    let old = g.D.Disk.state c.args.disk.now in
    subst (λ (s : DiskState). s.tells ≡ true → IsReady s c.append.new.self) (sym same)
    (subst (λ (n : ℕ). old.tells ≡ true → IsReady old n) (sym c.in-Err.ensures.kept) c.requires.settled)
