-- Lock numbers, and sets of them as lists of 256 flags.
use Rattle.std.specs.Prelude.{◌≡◌, ℕ, ◌+◌, ◌*◌, ◌%◌, List, [], ◌∷◌, Bool, true, false, slice_index_or, slice_set, replicate}
use Rattle.aeg_base.specs.declared.names.Key.{Key}

-- the lock of a key: a class has 32 of them
abbrev pub lock_number : Key → ℕ
lock_number key = 32 * key.class + key.id % 32

-- the set has this lock
abbrev pub has_lock : List Bool → ℕ → Bool
has_lock set lock = slice_index_or set lock false

-- some lock is in both sets
abbrev pub Shares : List Bool → List Bool → Type 0
Shares a b = (lock : ℕ) × ((has_lock a lock ≡ true) × (has_lock b lock ≡ true))

unfoldable pub no_locks : List Bool
no_locks = replicate 256 false

abbrev pub with_lock : List Bool → ℕ → List Bool
with_lock set lock = slice_set set lock true

-- the set of the locks of these keys
abbrev pub locks_of : List Key → List Bool
locks_of [] = no_locks
locks_of (key ∷ keys) = with_lock (locks_of keys) (lock_number key)
