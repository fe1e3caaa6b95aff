-- A loop over the groups.
use Rattle.std.proofs.Common.{◌≡◌, ℕ, suc, zero, ◌+◌, ◌<◌, ◌≤◌, Bool, true, false, List, [], ◌∷◌, ◌++◌, length, get_or}
use Rattle.std.proofs.Common.{drop, Option, refl, sym, ap, subst, ◌∙◌, cond, arith}
use Rattle.std.proofs.lemmas.Bool.{or_left, or_right}
use Rattle.std.specs.List.{All}
use Rattle.std.specs.declared.vec.Vec.{Vec}
use Rattle.std.specs.declared.alloc.Global.{Global}
use Rattle.svc_api.specs.Plan.{Plan}
use Rattle.aeg_base.specs.Store.{Store}
use Rattle.exec_model.specs.Machine.{State, Progress, is_running, any_running, concat, act, turns, finish, complete}
use Rattle.svc_api.specs.Orders.{mem}
use Rattle.exec_model.specs.Groups.{times, AreFull}
use Rattle.exec_model.proofs.Basics.{mem-first, times-append, times-mem}
use Rattle.exec_model.proofs.Inv.{any_running-true}
use Rattle.exec_model.proofs.Finish.{mem-append}
use Rattle.exec_core.specs.declared.machine.Machine.{Machine}
use Rattle.key_mixer.specs.Lists.{lists_of}
use Rattle.exec_core.specs.States.{AreMembers, whole_of, begun}
use Rattle.exec_model.specs.Machine.{next}

pub groups_at : (gs : List (Vec ℕ Global)) (k : ℕ) (v : Vec ℕ Global) → k < length gs → v ≡ get_or gs k v
    → drop k (lists_of gs) ≡ v.items ∷ drop (k + 1) (lists_of gs)
groups_at [] k v h e = absurd (omega arith)
groups_at (x ∷ xs) zero v h e = ap (λ (w : Vec ℕ Global). w.items ∷ lists_of xs) (sym e)
groups_at (x ∷ xs) (suc k) v h e =
    let n : suc (k + 1) ≡ suc k + 1 = omega arith in
    groups_at xs k v (omega arith) e ∙ ap (λ n. v.items ∷ drop n (x.items ∷ lists_of xs)) n

pub members_drop : (n : ℕ) (gs : List (List ℕ)) (k : ℕ) → AreMembers n gs → AreMembers n (drop k gs)
members_drop n gs zero h = h
members_drop n [] (suc k) h = h
members_drop n (g ∷ gs) (suc k) h = members_drop n gs k h.2

pub full_drop : (gs : List (List ℕ)) (k : ℕ) → AreFull gs → AreFull (drop k gs)
full_drop gs zero h = h
full_drop [] (suc k) h = h
full_drop ([] ∷ gs) (suc k) h = absurd h
full_drop ((x ∷ xs) ∷ gs) (suc k) h = full_drop gs k h

times_concat_drop : (j : ℕ) (gs : List (List ℕ)) (k : ℕ) → times j (concat (drop k gs)) ≤ times j (concat gs)
times_concat_drop j gs zero = omega arith
times_concat_drop j [] (suc k) = omega arith
times_concat_drop j (g ∷ gs) (suc k) = let a = times-append j g (concat gs) in let b = times_concat_drop j gs k in omega arith

-- what the group at k is
pub record At (n : ℕ) (q : ℕ → Progress) (all : List (List ℕ)) (k : ℕ) (g : List ℕ) : Type 0 where
  pub here : drop k all ≡ g ∷ drop (k + 1) all
  pub members : All (λ j. j < n) g
  pub numbers : All (λ j. j < 255) g
  pub once : (j : ℕ) → times j g ≤ 1
  pub runs : any_running q g ≡ true
  -- the later groups have other members
  pub apart : (j : ℕ) → mem j (concat (drop (k + 1) all)) ≡ true → mem j g ≡ false
  pub later : (j : ℕ) → mem j (concat (drop (k + 1) all)) ≡ true → is_running (q j) ≡ true

at_list : (n : ℕ) (q : ℕ → Progress) (all : List (List ℕ)) (k : ℕ) (g : List ℕ) → drop k all ≡ g ∷ drop (k + 1) all
    → AreMembers n all → AreFull all → ((j : ℕ) → times j (concat all) ≤ 1)
    → ((j : ℕ) → mem j (concat (drop k all)) ≡ true → is_running (q j) ≡ true) → At n q all k g
at_list n q all k g d m f one run =
    let m' = subst (AreMembers n) d (members_drop n all k m) in
    record {
      here = d;
      members = m'.0;
      numbers = m'.1;
      once = λ j. let a = once_both j in omega arith;
      runs = some g (subst AreFull d (full_drop all k f)) (λ j h. run' j h);
      apart = λ j h. by j (mem j g) refl h;
      later = λ j h. run j (ap (λ x. mem j (concat x)) d ∙ mem-append j g (concat (drop (k + 1) all)) ∙ or_right (mem j g) _ h);
    }
  where
    once_both : (j : ℕ) → times j g + times j (concat (drop (k + 1) all)) ≤ 1
    once_both j =
        let a = times_concat_drop j all k in let b = one j in
        let c : times j (concat (drop k all)) ≡ times j (g ++ concat (drop (k + 1) all)) = ap (λ x. times j (concat x)) d in
        let e = times-append j g (concat (drop (k + 1) all)) in omega arith

    run' : (j : ℕ) → mem j g ≡ true → is_running (q j) ≡ true
    run' j h = run j (ap (λ x. mem j (concat x)) d ∙ mem-append j g (concat (drop (k + 1) all)) ∙ or_left (mem j g) _ h)

    some : (g : List ℕ) → AreFull (g ∷ drop (k + 1) all) → ((j : ℕ) → mem j g ≡ true → is_running (q j) ≡ true) → any_running q g ≡ true
    some [] f r = absurd f
    some (x ∷ xs) f r =
        let m = mem-first x xs in any_running-true q (x ∷ xs) x m (r x m)

    by : (j : ℕ) (c : Bool) → mem j g ≡ c → mem j (concat (drop (k + 1) all)) ≡ true → c ≡ false
    by j false e h = refl
    by j true e h = let a = times-mem j g e in let b = times-mem j _ h in let c = once_both j in absurd (omega arith)

pub at_group : (n : ℕ) (q : ℕ → Progress) (groups : List (Vec ℕ Global)) (k : ℕ) (v : Vec ℕ Global) (g : List ℕ)
    → k < length groups → v ≡ get_or groups k v → g ≡ v.items
    → AreMembers n (lists_of groups) → AreFull (lists_of groups) → ((j : ℕ) → times j (concat (lists_of groups)) ≤ 1)
    → ((j : ℕ) → mem j (concat (drop k (lists_of groups))) ≡ true → is_running (q j) ≡ true)
    → At n q (lists_of groups) k g
at_group n q groups k v g lt is same = at_list n q (lists_of groups) k g (groups_at groups k v lt is
    ∙ ap (λ xs. xs ∷ drop (k + 1) (lists_of groups)) (sym same))

-- the run goes on with the next group
pub run-more : {P : Type 0} (plan : P → Option ℕ → Plan) (plans : ℕ → Plan) (all : List (List ℕ)) (k : ℕ) (g : List ℕ)
    (m m1 m2 : Machine P) (s s1 b1 s2 b2 : Store) (o o2 : List ℕ) (rest rest2 : List ℕ) (t : State)
    → drop k all ≡ g ∷ drop (k + 1) all → m1.slots ≡ m.slots → m1.owner ≡ m.owner → m1.done.items ≡ []
    → m1.steps ≡ m.steps → m1.redo ≡ m.redo → s1 ≡ s → b1 ≡ s → o2 ≡ o ++ m2.done.items
    → ((t : State) → t.group ≡ g → complete plans (turns plans (next (whole_of plan m2 s2 b2 t)) rest2)
    ≡ complete plans (turns plans (whole_of plan m1 s1 b1 t) rest))
    → complete plans (turns plans (begun plan m2 s2 o2 (drop (k + 1) all) t) rest2) ≡ complete plans (turns plans (begun plan m s o (drop k all) t) rest)
run-more plan plans all k g m m1 m2 s s1 b1 s2 b2 o o2 rest rest2 t d e1 e2 e3 e4 e5 e6 e7 eo h =
    let t1 = record t { past = o; group = g; later = drop (k + 1) all } in
    ap (λ p. complete plans (turns plans (begun plan m2 s2 p (drop (k + 1) all) t) rest2)) eo
    ∙ h t1 refl
    ∙ (λ n. complete plans
    (turns plans (record t1 {
      store = e6 n;
      owner = (λ l. get_or (e2 n).items l 0);
      progress = (whole_of plan (record m { slots = e1 n }) s s t1).progress;
      base = e7 n;
      done = e3 n;
      redo = e5 n;
      steps = (e4 n).items;
    }) rest))
    ∙ ap (λ x. complete plans (turns plans (begun plan m s o x t) rest)) (sym d)

pub lists_all : (gs : List (Vec ℕ Global)) (k : ℕ) → length gs ≤ k → drop k (lists_of gs) ≡ []
lists_all [] zero h = refl
lists_all [] (suc k) h = refl
lists_all (x ∷ xs) zero h = absurd (omega arith)
lists_all (x ∷ xs) (suc k) h = lists_all xs k (omega arith)

-- with no group left nothing happens
pub run-over : (plans : ℕ → Plan) (t : State) (xs : List ℕ) → t.group ≡ [] → t.later ≡ [] → t ≡ complete plans (turns plans t xs)
run-over plans t [] g l = sym (ap (λ xs. finish plans (xs ++ concat t.later) t) g ∙ ap (λ xs. finish plans (concat xs) t) l)
run-over plans t (x ∷ xs) g l = run-over plans t xs g l
    ∙ sym (ap (λ u. complete plans (turns plans u xs)) (ap (λ c. cond c (act plans t x (t.progress x)) t) (ap (mem x) g)))
