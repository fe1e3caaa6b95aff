-- The interleaving machine: segments take turns by a schedule, under the locks of the keys that they touch.
use Rattle.std.specs.Prelude.{ℕ, ◌+◌, ◌==◌, Bool, true, false, ◌||◌, if◌then◌else◌, List, [], ◌∷◌, ◌++◌, Option, Some, None}
use Rattle.aeg_base.specs.Store.{Store, value_at, written}
use Rattle.aeg_base.specs.Locks.{lock_number}
use Rattle.aeg_base.specs.declared.names.Key.{Key}
use Rattle.svc_api.specs.Plan.{Plan, Reads, Writes, Ends}
use Rattle.svc_api.specs.declared.action.Ending.{Ending}
use Rattle.svc_api.specs.Orders.{mem}
use Rattle.exec_model.specs.Serial.{serial, serial_end}

pub data Progress : Type 0 where
  Running : (rest : Plan) → Progress
  Ended : (ending : Ending) → Progress

abbrev pub is_running : Progress → Bool
is_running (Running p) = true
is_running (Ended e) = false

abbrev pub end_of : Progress → Option Ending
end_of (Running p) = None
end_of (Ended e) = Some e

abbrev pub any_running : (ℕ → Progress) → List ℕ → Bool
any_running q [] = false
any_running q (i ∷ is) = is_running (q i) || any_running q is

abbrev pub update : {A : Type 0} → (ℕ → A) → ℕ → A → ℕ → A
update f i x = λ j. if i == j then x else f j

pub record State : Type 0 where
  pub store : Store
  -- 0 where the lock is free, else the number of its holder plus 1
  pub owner : ℕ → ℕ
  pub progress : ℕ → Progress
  -- the store that the group found
  pub base : Store
  -- the order of finishing of the groups before
  pub past : List ℕ
  pub group : List ℕ
  -- the order of finishing in this group
  pub done : List ℕ
  pub later : List (List ℕ)
  pub redo : ℕ
  pub steps : List ℕ

-- the next group begins
abbrev pub next : State → State
next t = record t {
  base = t.store;
  past = t.past ++ t.done;
  group = elim t.later [ [] ↦ [] | g ∷ gs ↦ g ];
  done = [];
  later = elim t.later [ [] ↦ [] | g ∷ gs ↦ gs ];
}

-- the next group begins where no member of this one runs
abbrev pub settle : State → State
settle t = if any_running t.progress t.group then t else next t

abbrev pub or_ended : Option Ending → Progress → Progress
or_ended None q = q
or_ended (Some e) q = Ended e

-- the group is undone, and run again one segment after another in job order
abbrev pub again : (ℕ → Plan) → State → ℕ → State
again plan t i = record t {
  store = serial plan t.base t.group;
  owner = λ l. 0;
  progress = λ j. or_ended (serial_end plan t.base t.group j) (t.progress j);
  done = t.group;
  redo = t.redo + 1;
  steps = t.steps ++ i ∷ [];
}

-- segment i touches a key, after which the store is s and p is left of it
abbrev pub touch : (ℕ → Plan) → State → ℕ → Key → Store → Plan → State
touch plan t i k s p =
    if (t.owner (lock_number k) == 0) || (t.owner (lock_number k) == i + 1) then
    record t {
      store = s;
      owner = update t.owner (lock_number k) (i + 1);
      progress = update t.progress i (Running p);
      steps = t.steps ++ i ∷ [];
    }
    else again plan t i

-- segment i ends, and gives all its locks back
abbrev pub leave : State → ℕ → Ending → State
leave t i e = record t {
  owner = λ l. if t.owner l == i + 1 then 0 else t.owner l;
  progress = update t.progress i (Ended e);
  done = t.done ++ i ∷ [];
  steps = t.steps ++ i ∷ [];
}

abbrev pub act : (ℕ → Plan) → State → ℕ → Progress → State
act plan t i (Running (Reads k f)) = settle (touch plan t i k t.store (f (value_at t.store k)))
act plan t i (Running (Writes k v p)) = settle (touch plan t i k (written t.store k v) p)
act plan t i (Running (Ends e)) = settle (leave t i e)
act plan t i (Ended e) = t

-- one entry of the schedule; those outside the group and of ended segments are skipped
abbrev pub turn : (ℕ → Plan) → State → ℕ → State
turn plan t i = if mem i t.group then act plan t i (t.progress i) else t

abbrev pub turns : (ℕ → Plan) → State → List ℕ → State
turns plan t [] = t
turns plan t (i ∷ is) = turns plan (turn plan t i) is

-- segment i, with this left, goes on to its end, or to the step that finds a lock held
abbrev pub go_on : (ℕ → Plan) → ℕ → Plan → State → State
go_on plan i (Reads k f) t =
    if is_running ((turn plan t i).progress i) then go_on plan i (f (value_at t.store k)) (turn plan t i) else turn plan t i
go_on plan i (Writes k v p) t =
    if is_running ((turn plan t i).progress i) then go_on plan i p (turn plan t i) else turn plan t i
go_on plan i (Ends e) t = turn plan t i

abbrev pub finish_one : (ℕ → Plan) → ℕ → Progress → State → State
finish_one plan i (Running p) t = go_on plan i p t
finish_one plan i (Ended e) t = t

-- with no schedule left the lowest unfinished segment goes on
abbrev pub finish : (ℕ → Plan) → List ℕ → State → State
finish plan [] t = t
finish plan (i ∷ is) t = finish plan is (finish_one plan i (t.progress i) t)

abbrev pub concat : List (List ℕ) → List ℕ
concat [] = []
concat (g ∷ gs) = g ++ concat gs

abbrev pub start : (ℕ → Plan) → List (List ℕ) → Store → State
start plan groups s = record {
  store = s;
  owner = λ l. 0;
  progress = λ i. Running (plan i);
  base = s;
  past = [];
  group = elim groups [ [] ↦ [] | g ∷ gs ↦ g ];
  done = [];
  later = elim groups [ [] ↦ [] | g ∷ gs ↦ gs ];
  redo = 0;
  steps = [];
}

abbrev pub complete : (ℕ → Plan) → State → State
complete plan t = finish plan (t.group ++ concat t.later) t

abbrev pub run : (ℕ → Plan) → List (List ℕ) → Store → List ℕ → State
run plan groups s schedule = complete plan (turns plan (start plan groups s) schedule)
