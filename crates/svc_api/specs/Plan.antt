-- What a program does from here on, as a tree of its actions, and what that comes to when it runs whole and alone.
use Rattle.std.specs.Prelude.{◌≡◌, ℕ, ◌-◌, ◌<◌, ◌≤◌, ◌^◌, ◌⊎◌, Bool, true, List, [], ◌∷◌, length, Option, Some, None}
use Rattle.aeg_base.specs.Store.{Store, value_at, written}
use Rattle.aeg_base.specs.Locks.{lock_number}
use Rattle.aeg_base.specs.declared.names.Key.{Key}
use Rattle.aeg_base.specs.declared.names.Tier.{Tier}
use Rattle.aeg_base.specs.declared.names.Tier.TheVariants.{Mid, Inv, Pay}
use Rattle.svc_api.specs.declared.action.Action.{Action}
use Rattle.svc_api.specs.declared.action.Action.TheVariants as acts
use Rattle.svc_api.specs.declared.action.Ending.{Ending}
use Rattle.svc_api.specs.declared.action.Ending.TheVariants as ends

pub data Plan : Type 0 where
  Reads : (key : Key) (rest : ℕ → Plan) → Plan
  Writes : (key : Key) (value : ℕ) (rest : Plan) → Plan
  Ends : (ending : Ending) → Plan

-- the store after the whole plan
abbrev pub store_after : Plan → Store → Store
store_after (Reads key rest) s = store_after (rest (value_at s key)) s
store_after (Writes key value rest) s = store_after rest (written s key value)
store_after (Ends ending) s = s

-- how the plan ends
abbrev pub ending_of : Plan → Store → Ending
ending_of (Reads key rest) s = ending_of (rest (value_at s key)) s
ending_of (Writes key value rest) s = ending_of rest (written s key value)
ending_of (Ends ending) s = ending

-- run from s, the plan comes by t: that is s itself, or the store after one write of the plan or more
abbrev pub ComesBy : Plan → Store → Store → Type 0
ComesBy (Reads key rest) s t = ComesBy (rest (value_at s key)) s t
ComesBy (Writes key value rest) s t = (t ≡ s) ⊎ ComesBy rest (written s key value) t
ComesBy (Ends ending) s t = t ≡ s

-- the keys that it touches, in order
abbrev pub keys_of : Plan → Store → List Key
keys_of (Reads key rest) s = key ∷ keys_of (rest (value_at s key)) s
keys_of (Writes key value rest) s = key ∷ keys_of rest (written s key value)
keys_of (Ends ending) s = []

-- the action is the plan's first, and the program goes on with the rest; a call names the stage after it
abbrev pub Follows : Plan → Action → (Option ℕ → Plan) → ℕ → Type 0
Follows (Reads key rest) (acts.Get read) left stage = (read ≡ key) × ((value : ℕ) → left (Some value) ≡ rest value)
Follows (Writes key value rest) (acts.Put put v) left stage = (put ≡ key) × (v ≡ value) × (left None ≡ rest)
Follows (Ends ending) (acts.Call tier body) left stage = ending ≡ ends.Call tier stage body
Follows (Ends ending) (acts.Reply text) left stage = ending ≡ ends.Reply text
Follows (Reads key rest) (acts.Put put v) left stage = ⊥
Follows (Reads key rest) (acts.Call tier body) left stage = ⊥
Follows (Reads key rest) (acts.Reply text) left stage = ⊥
Follows (Writes key value rest) (acts.Get read) left stage = ⊥
Follows (Writes key value rest) (acts.Call tier body) left stage = ⊥
Follows (Writes key value rest) (acts.Reply text) left stage = ⊥
Follows (Ends ending) (acts.Get read) left stage = ⊥
Follows (Ends ending) (acts.Put put v) left stage = ⊥

abbrev pub IsEnd : Action → Type 0
IsEnd (acts.Get key) = ⊥
IsEnd (acts.Put key value) = ⊥
IsEnd (acts.Call tier body) = Unit {0}
IsEnd (acts.Reply text) = Unit {0}

-- a key that is read or written is one of a store
abbrev pub NamesKey : Action → Type 0
NamesKey (acts.Get key) = key.class < 8
NamesKey (acts.Put key value) = key.class < 8
NamesKey (acts.Call tier body) = Unit {0}
NamesKey (acts.Reply text) = Unit {0}

abbrev pub IsKey : Key → Type 0
IsKey key = (key.class < 8) × (key.id < 2 ^ 32)

abbrev pub IsBackend : Tier → Type 0
IsBackend Mid = ⊥
IsBackend Inv = Unit {0}
IsBackend Pay = Unit {0}

-- a text of at most 48 bytes; a call goes to a backend tier, and its request goes on at stage 1, 2 or 3
abbrev pub IsEnding : Ending → Type 0
IsEnding (ends.Reply text) = length text ≤ 48
IsEnding (ends.Call tier stage body) = IsBackend tier × ((1 ≤ stage) × ((stage ≤ 3) × (length body ≤ 48)))

-- it ends within so many actions, the end included, with at most so many writes, and names keys and ends that there are
abbrev pub IsBounded : ℕ → ℕ → Plan → Type 0
IsBounded actions puts (Reads key rest) = (1 < actions) × (IsKey key × ((value : ℕ) → value < 2 ^ 64 → IsBounded (actions - 1) puts (rest value)))
IsBounded actions puts (Writes key value rest) = (1 < actions) × ((0 < puts) × (IsKey key × ((value < 2 ^ 64) × IsBounded (actions - 1) (puts - 1) rest)))
IsBounded actions puts (Ends ending) = (0 < actions) × IsEnding ending

-- each key's lock is one of these
abbrev pub AreLocked : (ℕ → Bool) → List Key → Type 0
AreLocked locked [] = Unit {0}
AreLocked locked (key ∷ keys) = (locked (lock_number key) ≡ true) × AreLocked locked keys

-- the stores agree on the keys of these locks
abbrev pub AgreeWhere : (ℕ → Bool) → Store → Store → Type 0
AgreeWhere locked s t = (key : Key) → locked (lock_number key) ≡ true → value_at s key ≡ value_at t key
