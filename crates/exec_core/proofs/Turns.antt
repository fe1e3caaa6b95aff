-- A step, and what follows it, is a turn of the machine.
use Rattle.std.proofs.Common.{◌≡◌, ◌≢◌, ℕ, ◌+◌, ◌==◌, Bool, true, false, not, List, [], ◌∷◌, ◌++◌, refl, sym, ap, ◌∙◌, inl, inr, ◌⊎◌, cond}
use Rattle.std.proofs.lemmas.Bool.Decides.{eqb_tells}
use Rattle.aeg_base.specs.declared.names.Key.{Key}
use Rattle.svc_api.specs.Plan.{Plan, Reads, Writes, Ends}
use Rattle.aeg_base.specs.Store.{Store, value_at, written}
use Rattle.exec_model.specs.Serial.{serial, serial_end}
use Rattle.aeg_base.specs.Locks.{lock_number}
use Rattle.exec_model.specs.Machine.{State, Progress, Running, Ended, is_running, any_running, or_ended, update, settle, touch, again, act, turn}
use Rattle.svc_api.specs.Orders.{mem}
use Rattle.exec_model.proofs.Basics.{serial_end-some, serial_end-none, times-mem, times-not_mem}
use Rattle.exec_model.proofs.Finish.{any_running-some}
use Rattle.exec_core.specs.declared.steps.Went.{Went}
use Rattle.exec_core.specs.declared.steps.Went.TheVariants.{Moved, Left, Busy, Skipped}
use Rattle.exec_core.specs.States.{Goes, may, raw, went_on}
use Rattle.exec_model.specs.Machine.{next}

goes-running : (i : ℕ) (x : Progress) (w : ℕ → ℕ) (s : Store) (went : Went) (x' : Progress) (w' : ℕ → ℕ) (s' : Store)
    → Goes i x w s went x' w' s' → (went ≡ Moved) ⊎ (went ≡ Left) → is_running x ≡ true
goes-running i (Running p) w s went x' w' s' h e = refl
goes-running i (Ended r) w s Moved x' w' s' h e = absurd h
goes-running i (Ended r) w s Left x' w' s' h e = absurd h
goes-running i (Ended r) w s Busy x' w' s' h e = absurd h
goes-running i (Ended r) w s Skipped x' w' s' h (inl e) = cc
goes-running i (Ended r) w s Skipped x' w' s' h (inr e) = cc

act-settles : (plans : ℕ → Plan) (t : State) (i : ℕ) (x : Progress) → is_running x ≡ true → act plans t i x ≡ settle (raw plans t i x)
act-settles plans t i (Running (Reads k f)) r = refl
act-settles plans t i (Running (Writes k v p)) r = refl
act-settles plans t i (Running (Ends e)) r = refl
act-settles plans t i (Ended e) r = cc

flip : (c : Bool) (a b : State) → cond (not c) a b ≡ cond c b a
flip true a b = refl
flip false a b = refl

pub turn-went : (plans : ℕ → Plan) (t u : State) (i : ℕ) (over : Bool) (went : Went) (x' : Progress) (w' : ℕ
    → ℕ) (s' : Store) → mem i t.group ≡ true → Goes i (t.progress i) t.owner t.store went x' w' s' → (went ≡ Moved) ⊎ (went ≡ Left)
    → u ≡ went_on plans t i → over ≡ not (any_running u.progress u.group) → cond over (next u) u ≡ turn plans t i
turn-went plans t u i over went x' w' s' m g k e o =
    ap (λ c. cond c (next u) u) o ∙ flip (any_running u.progress u.group) (next u) u ∙ ap settle e
    ∙ sym (act-settles plans t i (t.progress i) (goes-running i (t.progress i) t.owner t.store went x' w' s' g k))
    ∙ sym (ap (λ c. cond c (act plans t i (t.progress i)) t) m)

pub none_running : (q : ℕ → Progress) (xs : List ℕ) → ((j : ℕ) → mem j xs ≡ true → is_running (q j) ≡ false) → any_running q xs ≡ false
none_running q xs h = at (any_running q xs) refl
  where
    at : (c : Bool) → any_running q xs ≡ c → c ≡ false
    at false e = refl
    at true e = let z = any_running-some q xs e in let f = h z.0 z.1 in let k : true ≡ false = sym z.2 ∙ f in cc

settle-again : (plans : ℕ → Plan) (t : State) (i : ℕ) → settle (again plans t i) ≡ next (again plans t i)
settle-again plans t i = ap (λ c. cond c (again plans t i) (next (again plans t i))) (none_running (again plans t i).progress t.group each)
  where
    each : (j : ℕ) → mem j t.group ≡ true → is_running (or_ended (serial_end plans t.base t.group j) (t.progress j)) ≡ false
    each j m = let z = serial_end-some plans t.base t.group j (times-mem j t.group m) in ap (λ o. is_running (or_ended o (t.progress j))) z.1

touch-busy : (plans : ℕ → Plan) (t : State) (i : ℕ) (k : Key) (s : Store) (p : Plan) → may t.owner i k ≡ false → touch plans t i k s p ≡ again plans t i
touch-busy plans t i k s p e = ap
    (λ c. cond c (record t {
      store = s;
      owner = update t.owner (lock_number k) (i + 1);
      progress = update t.progress i (Running p);
      steps = t.steps ++ i ∷ [];
    }) (again plans t i)) e

busy-act : (plans : ℕ → Plan) (t : State) (i : ℕ) (x x' : Progress) (w' : ℕ → ℕ) (s' : Store)
    → Goes i x t.owner t.store Busy x' w' s' → act plans t i x ≡ next (again plans t i)
busy-act plans t i (Running (Reads k f)) x' w' s' g = ap settle (touch-busy plans t i k t.store (f (value_at t.store k)) g.0) ∙ settle-again plans t i
busy-act plans t i (Running (Writes k v p)) x' w' s' g = ap settle (touch-busy plans t i k (written t.store k v) p g.0) ∙ settle-again plans t i
busy-act plans t i (Running (Ends e)) x' w' s' g = absurd g
busy-act plans t i (Ended e) x' w' s' g = absurd g

-- u is what the rerun made of t
pub turn-busy : (plans : ℕ → Plan) (t : State) (i : ℕ) (x' : Progress) (w' : ℕ → ℕ) (s' : Store) (q : ℕ → Progress)
    (s b : Store) (w : ℕ → ℕ) (qq : ℕ → Progress) (d st : List ℕ) (r : ℕ) → mem i t.group ≡ true → Goes i (t.progress i) t.owner t.store Busy x' w' s'
    → ((j : ℕ) → i ≢ j → q j ≡ t.progress j)
    → s ≡ serial plans t.base t.group → ((l : ℕ) → w l ≡ 0)
    → ((j : ℕ) → qq j ≡ or_ended (serial_end plans t.base t.group j) (q j)) → d ≡ t.group → st ≡ t.steps ++ i ∷ []
    → r ≡ t.redo + 1
    → next (record t { store = s; owner = w; progress = qq; base = b; done = d; steps = st; redo = r }) ≡ turn plans t i
turn-busy plans t i x' w' s' q s b w qq d st r m g others es ew eq ed est er =
    (λ n. next (record t { store = es n; owner = λ l. ew l n; progress = λ j. same j n; base = b; done = ed n; steps = est n; redo = er n }))
    ∙ sym (busy-act plans t i (t.progress i) x' w' s' g)
    ∙ sym (ap (λ c. cond c (act plans t i (t.progress i)) t) m)
  where
    by : (j : ℕ) (c : Bool) → ((c ≡ true) × (i ≡ j)) ⊎ ((c ≡ false) × (i ≢ j))
        → or_ended (serial_end plans t.base t.group j) (q j) ≡ or_ended (serial_end plans t.base t.group j) (t.progress j)
    by j true (inl z) =
        let e = serial_end-some plans t.base t.group j (times-mem j t.group (ap (λ n. mem n t.group) (sym z.1) ∙ m)) in
        ap (λ o. or_ended o (q j)) e.1 ∙ sym (ap (λ o. or_ended o (t.progress j)) e.1)
    by j true (inr z) = cc
    by j false (inl z) = cc
    by j false (inr z) = ap (or_ended (serial_end plans t.base t.group j)) (others j z.1)

    same : (j : ℕ) → qq j ≡ or_ended (serial_end plans t.base t.group j) (t.progress j)
    same j = eq j ∙ by j (i == j) (eqb_tells i j)

-- after a rerun no member of the group runs
pub rerun-ended : (plans : ℕ → Plan) (b : Store) (group : List ℕ) (q qq : ℕ → Progress)
    → ((j : ℕ) → qq j ≡ or_ended (serial_end plans b group j) (q j)) → any_running qq group ≡ false
rerun-ended plans b group q qq e = none_running qq group
    (λ j m. let z = serial_end-some plans b group j (times-mem j group m) in ap is_running (e j ∙ ap (λ o. or_ended o (q j)) z.1))

pub rerun-outside : (plans : ℕ → Plan) (b : Store) (group : List ℕ) (q : ℕ → Progress) (j : ℕ) → mem j group ≡ false
    → or_ended (serial_end plans b group j) (q j) ≡ q j
rerun-outside plans b group q j n = ap (λ o. or_ended o (q j)) (serial_end-none plans b group j (times-not_mem j group n))

pub apart : (group : List ℕ) (i j : ℕ) → mem i group ≡ true → mem j group ≡ false → i ≡ j → ⊥
apart group i j m n e = let z : true ≡ false = sym m ∙ ap (λ k. mem k group) e ∙ n in cc
