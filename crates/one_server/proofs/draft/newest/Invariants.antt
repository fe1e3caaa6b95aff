use Rattle.std.proofs.Common.{◌≡◌, take, unwrap_or}
use Rattle.aeg_base.specs.Store.{Store, value_at}
use Rattle.one_server.specs.Writes.{after}
use Rattle.one_server.proofs.draft.newest.Given as goal

-- found is the newest of the writes so far
abbrev pub invariant-loop-write : goal.invariant-loop-write
invariant-loop-write l = (s : Store) → value_at (after s (take l.write-index l.writes)) l.key ≡ unwrap_or l.found (value_at s l.key)
