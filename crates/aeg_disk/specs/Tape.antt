-- What the notes of a disk in memory stand for.
use Rattle.std.specs.Prelude.{ℕ, ◌+◌, ◌-◌, max, List, [], ◌∷◌, length, take, drop, true, cond}
use Rattle.aeg_disk.specs.Memory.{Change, mark_of}
use Rattle.aeg_disk.specs.declared.note.Note.{Note}

-- the change of a note, which replaced these bytes
abbrev pub change_of : Note → List ℕ → Change
change_of n replaced = record { place = n.place; count = n.count; before = n.before; replaced = replaced; settles = n.settles }

-- the disk's length after the change of a note with which a sync is noted
abbrev pub length_after : Note → ℕ
length_after n = max n.before (n.place + n.count)

-- with the sync that followed the note's change at once, where one did
abbrev pub with_sync : Note → List Change → List Change
with_sync n log = cond n.synced (mark_of 0 0 (length_after n) true ∷ log) log

-- The changes of these notes, the newest first: each replaced the last bytes of what the later ones leave of the run.
abbrev pub changes_of : List Note → List ℕ → List Change
changes_of [] run = []
changes_of (n ∷ notes) run = with_sync n (change_of n (drop (length run - n.replaced) run) ∷ changes_of notes (take (length run - n.replaced) run))
