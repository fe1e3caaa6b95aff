-- A write to the vectors of the machine is a step of the machine's state.
use Rattle.std.proofs.Common.{◌≡◌, ◌≢◌, ℕ, ◌+◌, ◌<◌, ◌==◌, Bool, true, false, ◌||◌, List, [], ◌∷◌, ◌++◌, length, get_or}
use Rattle.std.proofs.Common.{set, Option, refl, sym, ap, ◌∙◌, subst, inl, inr, ◌⊎◌, cond, get_or-set_same}
use Rattle.std.proofs.Common.{get_or-set_other}
use Rattle.std.proofs.lemmas.Bool.Decides.{eqb_tells}
use Rattle.aeg_base.specs.declared.names.Key.{Key}
use Rattle.svc_api.specs.declared.action.Ending.TheVariants.{Reply}
use Rattle.svc_api.specs.Plan.{Plan, Reads, Writes, Ends}
use Rattle.aeg_base.specs.Store.{Store, value_at, written}
use Rattle.aeg_base.specs.Locks.{lock_number}
use Rattle.exec_model.specs.Machine.{State, Progress, Running, Ended, update, touch, again}
use Rattle.exec_core.specs.declared.machine.Slot.{Slot}
use Rattle.exec_core.specs.declared.steps.Went.TheVariants.{Moved, Left}
use Rattle.exec_core.specs.States.{slot_progress, progress_of, owner_of, Goes, raw, went_on}

abbrev at : {P : Type 0} → List (Slot P) → ℕ → Slot P
at xs i = get_or xs i (Slot.Ended (Reply []))

pub progress_of-set : {P : Type 0} (plan : P → Option ℕ → Plan) (xs : List (Slot P)) (i : ℕ) (y : Slot P)
    → i < length xs → progress_of plan (set xs i y) ≡ update (progress_of plan xs) i (slot_progress plan y)
progress_of-set plan xs i y h = λ n j. by j (i == j) (eqb_tells i j) n
  where
    by : (j : ℕ) (c : Bool) → ((c ≡ true) × (i ≡ j)) ⊎ ((c ≡ false) × (i ≢ j)) → slot_progress plan (at (set xs i y) j)
        ≡ cond c (slot_progress plan y) (slot_progress plan (at xs j))
    by j true (inl z) = ap (slot_progress plan) (ap (λ k. at (set xs i y) k) (sym z.1) ∙ get_or-set_same xs i y (Slot.Ended (Reply [])) h)
    by j true (inr z) = cc
    by j false (inl z) = cc
    by j false (inr z) = ap (slot_progress plan) (get_or-set_other xs i j y (Slot.Ended (Reply [])) (λ e. z.1 (sym e)))

abbrev pub state : State → Store → (ℕ → ℕ) → (ℕ → Progress) → List ℕ → List ℕ → State
state t s w q d st = record t { store = s; owner = w; progress = q; done = d; steps = st }

pub same_state : (t : State) (s s' : Store) (w w' : ℕ → ℕ) (q q' : ℕ → Progress) (d d' st st' : List ℕ) → s ≡ s'
    → w ≡ w' → q ≡ q' → d ≡ d' → st ≡ st' → state t s w q d st ≡ state t s' w' q' d' st'
same_state t s s' w w' q q' d d' st st' a b c e f = λ n. record t { store = a n; owner = b n; progress = c n; done = e n; steps = f n }

-- with the lock, the touch is made
touch-granted : (plans : ℕ → Plan) (t : State) (i : ℕ) (k : Key) (s : Store) (p : Plan)
    → ((t.owner (lock_number k) == 0) || (t.owner (lock_number k) == i + 1)) ≡ true
    → touch plans t i k s p ≡ record t {
      store = s;
      owner = update t.owner (lock_number k) (i + 1);
      progress = update t.progress i (Running p);
      steps = t.steps ++ i ∷ [];
    }
touch-granted plans t i k s p e = ap
    (λ c. cond c (record t {
      store = s;
      owner = update t.owner (lock_number k) (i + 1);
      progress = update t.progress i (Running p);
      steps = t.steps ++ i ∷ [];
    }) (again plans t i)) e

pub went-moved : {P : Type 0} (plan : P → Option ℕ → Plan) (xs : List (Slot P)) (i : ℕ) (y : Slot P) (w w' : ℕ
    → ℕ) (s s' : Store) (d st : List ℕ) (plans : ℕ → Plan) (t : State)
    → i < length xs → Goes i (progress_of plan xs i) w s Moved (slot_progress plan y) w' s'
    → state t s' w' (progress_of plan (set xs i y)) d (st ++ i ∷ []) ≡ went_on plans (state t s w (progress_of plan xs) d st) i
went-moved plan xs i y w w' s s' d st plans t h z = by (progress_of plan xs i) refl z
  where
    t0 : State
    t0 = state t s w (progress_of plan xs) d st

    by : (x : Progress) → progress_of plan xs i ≡ x → Goes i x w s Moved (slot_progress plan y) w' s'
        → state t s' w' (progress_of plan (set xs i y)) d (st ++ i ∷ []) ≡ raw plans t0 i (progress_of plan xs i)
    by (Running (Reads k f)) was z =
        same_state t s' s w' _ _ _ d d _ _ z.3 z.2 (progress_of-set plan xs i y h ∙ ap (update (progress_of plan xs) i) z.1) refl refl
        ∙ sym (touch-granted plans t0 i k s (f (value_at s k)) z.0) ∙ sym (ap (raw plans t0 i) was)
    by (Running (Writes k v p)) was z =
        same_state t s' (written s k v) w' _ _ _ d d _ _ z.3 z.2 (progress_of-set plan xs i y h ∙ ap (update (progress_of plan xs) i) z.1) refl refl
        ∙ sym (touch-granted plans t0 i k (written s k v) p z.0) ∙ sym (ap (raw plans t0 i) was)
    by (Running (Ends e)) was z = absurd z
    by (Ended e) was z = absurd z

pub went-left : {P : Type 0} (plan : P → Option ℕ → Plan) (xs : List (Slot P)) (i : ℕ) (y : Slot P) (w w' : ℕ
    → ℕ) (s s' : Store) (d st : List ℕ) (plans : ℕ → Plan) (t : State)
    → i < length xs → Goes i (progress_of plan xs i) w s Left (slot_progress plan y) w' s'
    → state t s' w' (progress_of plan (set xs i y)) (d ++ i ∷ []) (st ++ i ∷ []) ≡ went_on plans (state t s w (progress_of plan xs) d st) i
went-left plan xs i y w w' s s' d st plans t h z = by (progress_of plan xs i) refl z
  where
    t0 : State
    t0 = state t s w (progress_of plan xs) d st

    by : (x : Progress) → progress_of plan xs i ≡ x → Goes i x w s Left (slot_progress plan y) w' s'
        → state t s' w' (progress_of plan (set xs i y)) (d ++ i ∷ []) (st ++ i ∷ []) ≡ raw plans t0 i (progress_of plan xs i)
    by (Running (Ends e)) was z =
        same_state t s' s w' (λ l. cond (w l == i + 1) 0 (w l)) _ _ _ _ _ _ z.2 (λ n l. z.1 l n)
        (progress_of-set plan xs i y h ∙ ap (update (progress_of plan xs) i) z.0) refl refl
        ∙ sym (ap (raw plans t0 i) was)
    by (Running (Reads k f)) was z = absurd z
    by (Running (Writes k v p)) was z = absurd z
    by (Ended e) was z = absurd z

-- the same, with each new value as an equation
pub went-left-at : {P : Type 0} (plan : P → Option ℕ → Plan) (xs ys : List (Slot P)) (i : ℕ) (x y : Slot P)
    (os os' os'' : List ℕ) (s s' : Store) (d d' st st' : List ℕ) (plans : ℕ → Plan) (t : State)
    → i < length xs → x ≡ at xs i
    → Goes i (slot_progress plan x) (owner_of os) s Left (slot_progress plan y) (owner_of os') s' → ys ≡ set xs i y
    → os'' ≡ os' → d' ≡ d ++ i ∷ [] → st' ≡ st ++ i ∷ []
    → state t s' (owner_of os'') (progress_of plan ys) d' st' ≡ went_on plans (state t s (owner_of os) (progress_of plan xs) d st) i
went-left-at plan xs ys i x y os os' os'' s s' d d' st st' plans t h e z ey eo ed est =
    same_state t s' s' _ _ _ _ d' _ st' _ refl (ap owner_of eo) (ap (progress_of plan) ey) ed est
    ∙ went-left plan xs i y (owner_of os) (owner_of os') s s' d st plans t h
    (subst (λ x. Goes i (slot_progress plan x) (owner_of os) s Left (slot_progress plan y) (owner_of os') s') e z)

pub went-moved-at : {P : Type 0} (plan : P → Option ℕ → Plan) (xs ys : List (Slot P)) (i : ℕ) (x y : Slot P)
    (os os' os'' : List ℕ) (s s' : Store) (d st st' : List ℕ) (plans : ℕ → Plan) (t : State)
    → i < length xs → x ≡ at xs i
    → Goes i (slot_progress plan x) (owner_of os) s Moved (slot_progress plan y) (owner_of os') s' → ys ≡ set xs i y
    → os'' ≡ os' → st' ≡ st ++ i ∷ []
    → state t s' (owner_of os'') (progress_of plan ys) d st' ≡ went_on plans (state t s (owner_of os) (progress_of plan xs) d st) i
went-moved-at plan xs ys i x y os os' os'' s s' d st st' plans t h e z ey eo est =
    same_state t s' s' _ _ _ _ d d st' _ refl (ap owner_of eo) (ap (progress_of plan) ey) refl est
    ∙ went-moved plan xs i y (owner_of os) (owner_of os') s s' d st plans t h
    (subst (λ x. Goes i (slot_progress plan x) (owner_of os) s Moved (slot_progress plan y) (owner_of os') s') e z)
