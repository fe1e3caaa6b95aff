-- What a loop that finishes a group keeps: what is left to finish comes to the same state.
use Rattle.std.proofs.Common.{◌≡◌, ℕ, zero, suc, ◌+◌, ◌==◌, Bool, true, false, ◌||◌, List, [], ◌∷◌, ◌++◌, refl, sym, ap, ◌∙◌, cond}
use Rattle.std.proofs.lemmas.Bool.{or_right}
use Rattle.aeg_base.specs.declared.names.Key.{Key}
use Rattle.aeg_base.specs.Store.{Store, value_at, written}
use Rattle.svc_api.specs.Plan.{Plan, Reads, Writes, Ends}
use Rattle.aeg_base.specs.Locks.{lock_number}
use Rattle.exec_model.specs.Serial.{serial_end}
use Rattle.exec_model.specs.Machine.{next, State, is_running, concat, Progress, Running, Ended, touch, leave, again}
use Rattle.exec_model.specs.Machine.{act, update, turn, turns, go_on, finish_one, finish, complete}
use Rattle.svc_api.specs.Orders.{mem}
use Rattle.exec_model.specs.Spell.{repeat}
use Rattle.exec_model.proofs.Basics.{mem-first}
use Rattle.exec_model.proofs.Inv.{concat-split}
use Rattle.exec_model.proofs.Finish.{turn_is, turn-reads, turn-writes, turn-ends, update-less, again-less, settle-progress}

pub ended-stays : (plan : ℕ → Plan) (i : ℕ) (x : Progress) (t : State) → is_running x ≡ false → finish_one plan i x t ≡ t
ended-stays plan i (Running p) t h = cc
ended-stays plan i (Ended e) t h = refl

finish_one-turn : (plan : ℕ → Plan) (i : ℕ) (p : Plan) (t : State) → mem i t.group ≡ true → t.progress i ≡ Running p
    → finish_one plan i (Running p) t ≡ finish_one plan i ((turn plan t i).progress i) (turn plan t i)
finish_one-turn plan i (Reads k f) t m r = at (is_running ((turn plan t i).progress i)) refl
  where
    u : State
    u = turn plan t i

    at : (c : Bool) → is_running (u.progress i) ≡ c → cond c (go_on plan i (f (value_at t.store k)) u) u ≡ finish_one plan i (u.progress i) u
    at true e = sym (ap (λ x. finish_one plan i x u) (turn-reads plan t i k f m r e))
    at false e = sym (ended-stays plan i (u.progress i) u e)
finish_one-turn plan i (Writes k v p) t m r = at (is_running ((turn plan t i).progress i)) refl
  where
    u : State
    u = turn plan t i

    at : (c : Bool) → is_running (u.progress i) ≡ c → cond c (go_on plan i p u) u ≡ finish_one plan i (u.progress i) u
    at true e = sym (ap (λ x. finish_one plan i x u) (turn-writes plan t i k v p m r e))
    at false e = sym (ended-stays plan i (u.progress i) u e)
finish_one-turn plan i (Ends e) t m r = sym (ended-stays plan i ((turn plan t i).progress i) (turn plan t i) (turn-ends plan t i e m r))

-- the lowest unfinished segment makes one step more
pub finish-turn : (plan : ℕ → Plan) (i : ℕ) (is : List ℕ) (t : State) → mem i t.group ≡ true
    → is_running (t.progress i) ≡ true → finish plan (i ∷ is) t ≡ finish plan (i ∷ is) (turn plan t i)
finish-turn plan i is t m r = at (t.progress i) refl
  where
    at : (x : Progress) → t.progress i ≡ x → finish plan is (finish_one plan i (t.progress i) t)
        ≡ finish plan is (finish_one plan i ((turn plan t i).progress i) (turn plan t i))
    at (Running p) e = ap (finish plan is) (ap (λ x. finish_one plan i x t) e ∙ finish_one-turn plan i p t m e)
    at (Ended x) e = let z : true ≡ false = sym r ∙ ap is_running e in cc

-- entries of the segment that goes on are steps that it makes anyway
finish-entry : (plan : ℕ → Plan) (i : ℕ) (is : List ℕ) (t : State) → finish plan (i ∷ is) t ≡ finish plan (i ∷ is) (turn plan t i)
finish-entry plan i is t = at (mem i t.group) (is_running (t.progress i)) refl refl
  where
    still : (x : Progress) → t.progress i ≡ x → is_running x ≡ false → mem i t.group ≡ true → turn plan t i ≡ t
    still (Running p) e r m = let z : true ≡ false = r in cc
    still (Ended y) e r m = turn_is plan t i (Ended y) m e

    at : (c d : Bool) → mem i t.group ≡ c → is_running (t.progress i) ≡ d → finish plan (i ∷ is) t ≡ finish plan (i ∷ is) (turn plan t i)
    at true true m r = finish-turn plan i is t m r
    at true false m r = ap (finish plan (i ∷ is)) (sym (still (t.progress i) refl r m))
    at false d m r = ap (finish plan (i ∷ is)) (sym (ap (λ c. cond c (act plan t i (t.progress i)) t) m))

pub finish-entries : (plan : ℕ → Plan) (i : ℕ) (is : List ℕ) (n : ℕ) (t : State) → finish plan (i ∷ is) t ≡ finish plan (i ∷ is) (turns plan t (repeat n i))
finish-entries plan i is zero t = refl
finish-entries plan i is (suc n) t = finish-entry plan i is t ∙ finish-entries plan i is n (turn plan t i)

-- segments that have ended are passed over
pub finish-ended : (plan : ℕ → Plan) (xs ys : List ℕ) (t : State)
    → ((j : ℕ) → mem j xs ≡ true → is_running (t.progress j) ≡ false) → finish plan (xs ++ ys) t ≡ finish plan ys t
finish-ended plan [] ys t h = refl
finish-ended plan (x ∷ xs) ys t h =
    ap (finish plan (xs ++ ys)) (ended-stays plan x (t.progress x) t (h x (mem-first x xs)))
    ∙ finish-ended plan xs ys t (λ j m. h j (or_right (x == j) (mem j xs) m))

-- after a group the run goes on with the next one
pub complete-next : (plan : ℕ → Plan) (t : State) → finish plan (concat t.later) (next t) ≡ complete plan (next t)
complete-next plan t = ap (λ xs. finish plan xs (next t)) (concat-split t.later)

touch-less : (plan : ℕ → Plan) (t : State) (i : ℕ) (k : Key) (s : Store) (p : Plan) (j : ℕ)
    → is_running (t.progress i) ≡ true → is_running ((touch plan t i k s p).progress j) ≡ true → is_running (t.progress j) ≡ true
touch-less plan t i k s p j r = at ((t.owner (lock_number k) == 0) || (t.owner (lock_number k) == i + 1))
  where
    at : (c : Bool) → is_running
        ((cond c (record t {
          store = s;
          owner = update t.owner (lock_number k) (i + 1);
          progress = update t.progress i (Running p);
          steps = t.steps ++ i ∷ [];
        }) (again plan t i)).progress j) ≡ true
        → is_running (t.progress j) ≡ true
    at true h = update-less t.progress i (Running p) j r h
    at false h = again-less (serial_end plan t.base t.group j) (t.progress j) h

act-less : (plan : ℕ → Plan) (t : State) (i : ℕ) (x : Progress) (j : ℕ) → t.progress i ≡ x
    → is_running ((act plan t i x).progress j) ≡ true → is_running (t.progress j) ≡ true
act-less plan t i (Running (Reads k f)) j r h = touch-less plan t i k t.store (f (value_at t.store k)) j
    (ap is_running r) (sym (ap (λ q. is_running (q j)) (settle-progress (touch plan t i k t.store (f (value_at t.store k))))) ∙ h)
act-less plan t i (Running (Writes k v p)) j r h = touch-less plan t i k (written t.store k v) p j (ap is_running r)
    (sym (ap (λ q. is_running (q j)) (settle-progress (touch plan t i k (written t.store k v) p))) ∙ h)
act-less plan t i (Running (Ends e)) j r h = update-less t.progress i (Ended e) j (ap is_running r)
    (sym (ap (λ q. is_running (q j)) (settle-progress (leave t i e))) ∙ h)
act-less plan t i (Ended e) j r h = h

-- no segment starts again
pub turn-less : (plan : ℕ → Plan) (t : State) (i j : ℕ) → is_running ((turn plan t i).progress j) ≡ true → is_running (t.progress j) ≡ true
turn-less plan t i j = at (mem i t.group)
  where
    at : (c : Bool) → is_running ((cond c (act plan t i (t.progress i)) t).progress j) ≡ true → is_running (t.progress j) ≡ true
    at true h = act-less plan t i (t.progress i) j refl h
    at false h = h
