use Rattle.std.proofs.Common.{◌≡◌, ◌∙◌, ◌-◌, sym, rules, length, suc}
use Rattle.std.specs.Vec.{vec_len}
use Rattle.aeg_disk.proofs.Notes.{sync_noted}
use Rattle.aeg_disk.proofs.tape.sync_last.Goals as goal

pub returns-clause-yes : goal.returns-clause-yes
returns-clause-yes c = λ yes.
    let long : length c.args.notes.now.items ≡ suc (vec_len c.args.notes.now - 1) = search rules in
    sync_noted c.args.notes.now.items (vec_len c.args.notes.now - 1) c.args.len c.in-Some.last.now long
    c.in-Some.ensures.item.1 c.if-last.false (sym c.length_after.ensures ∙ c.if-length_after-len.false)
