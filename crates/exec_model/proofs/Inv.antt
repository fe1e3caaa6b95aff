-- The invariant of the machine, and that each turn keeps it.
use Rattle.std.proofs.Common.{◌≡◌, ◌≢◌, ℕ, suc, zero, ◌+◌, ◌≤◌, ◌==◌, Bool, true, false, ◌||◌, List, [], ◌∷◌, ◌++◌}
use Rattle.std.proofs.Common.{Option, Some, None, refl, sym, ap, ◌∙◌, subst, inl, inr, ◌⊎◌, cond, arith}
use Rattle.std.proofs.lemmas.Bool.Decides.{nat_tests, eqb_tells}
use Rattle.aeg_base.specs.Store.{Store}
use Rattle.svc_api.specs.declared.action.Ending.{Ending}
use Rattle.svc_api.specs.Plan.{Plan, Ends, ending_of}
use Rattle.exec_model.specs.Serial.{serial, serial_end}
use Rattle.exec_model.specs.Machine.{State, update, any_running, is_running, end_of, or_ended, concat, Progress, Running, Ended, again, leave, next}
use Rattle.svc_api.specs.Orders.{mem}
use Rattle.exec_model.specs.Groups.{times}
use Rattle.exec_model.proofs.Basics.{serial-append, serial_end-append, or_else, times-append, times-mem, times-not_mem, serial_end-none, serial_end-some}
use Rattle.exec_model.proofs.Lookups.{Lookup, looks, looks-after, end_with-looks, same_store}
use Rattle.exec_model.proofs.Safe.{Safe, Safe-left, Safe-leave, Safe-again, Safe-free}

pub record Inv (plan : ℕ → Plan) (s0 : Store) (all : List ℕ) (t : State) : Type 0 where
  pub base_is : t.base ≡ serial plan s0 t.past
  pub safe : Safe plan (looks (serial plan t.base t.done)) (looks t.store) t.owner t.progress
  pub held : (l i : ℕ) → t.owner l ≡ i + 1 → (mem i t.group ≡ true) × (is_running (t.progress i) ≡ true)
  pub ends : (i : ℕ) → end_of (t.progress i) ≡ or_else (serial_end plan s0 t.past i) (serial_end plan t.base t.done i)
  pub once : (i : ℕ) → times i t.past + times i t.done ≡ cond (is_running (t.progress i)) 0 1
  pub parts : (i : ℕ) → times i t.past + times i t.group + times i (concat t.later) ≡ times i all
  pub inside : (i : ℕ) → times i t.done ≤ times i t.group

same_end : (q : ℕ → Progress) (i : ℕ) (x p : Plan) (j : ℕ) → q i ≡ Running x → end_of (update q i (Running p) j) ≡ end_of (q j)
same_end q i x p j h = at (i == j) (eqb_tells i j)
  where
    at : (c : Bool) → ((c ≡ true) × (i ≡ j)) ⊎ ((c ≡ false) × (i ≢ j)) → end_of (cond c (Running p) (q j)) ≡ end_of (q j)
    at false z = refl
    at true (inl z) = ap end_of (sym h ∙ ap q z.1)
    at true (inr z) = cc

same_run : (q : ℕ → Progress) (i : ℕ) (x p : Plan) (j : ℕ) → q i ≡ Running x → is_running (update q i (Running p) j) ≡ is_running (q j)
same_run q i x p j h = at (i == j) (eqb_tells i j)
  where
    at : (c : Bool) → ((c ≡ true) × (i ≡ j)) ⊎ ((c ≡ false) × (i ≢ j)) → is_running (cond c (Running p) (q j)) ≡ is_running (q j)
    at false z = refl
    at true (inl z) = ap is_running (sym h ∙ ap q z.1)
    at true (inr z) = cc

pub Inv-grab : (plan : ℕ → Plan) (s0 : Store) (all : List ℕ) (t : State) (i l : ℕ) (s : Store) (x p : Plan)
    → Inv plan s0 all t → mem i t.group ≡ true → t.progress i ≡ Running x
    → Safe plan (looks (serial plan t.base t.done)) (looks s) (update t.owner l (i + 1)) (update t.progress i (Running p))
    → Inv plan s0 all (record t { store = s; owner = update t.owner l (i + 1); progress = update t.progress i (Running p); steps = t.steps ++ i ∷ [] })
Inv-grab plan s0 all t i l s x p h m r safe = record {
  base_is = h.base_is;
  safe = safe;
  held = λ k j o. holds k j (l == k) o;
  ends = λ j. same_end t.progress i x p j r ∙ h.ends j;
  once = λ j. h.once j ∙ ap (λ b. cond b 0 1) (sym (same_run t.progress i x p j r));
  parts = h.parts;
  inside = h.inside;
}
  where
    runs : is_running (t.progress i) ≡ true
    runs = ap is_running r

    holds : (k j : ℕ) (c : Bool) → cond c (i + 1) (t.owner k) ≡ j + 1 → (mem j t.group ≡ true) × (is_running (update t.progress i (Running p) j) ≡ true)
    holds k j true o = let e : i ≡ j = omega arith in
        (ap (λ n. mem n t.group) (sym e) ∙ m, same_run t.progress i x p j r ∙ ap (λ n. is_running (t.progress n)) (sym e) ∙ runs)
    holds k j false o = let z = h.held k j o in (z.0, same_run t.progress i x p j r ∙ z.1)

or_else-none : (x y z : Option Ending) → None ≡ or_else x y → or_else x (or_else y z) ≡ z
or_else-none None None z h = refl
or_else-none None (Some e) z h = cc
or_else-none (Some e) y z h = cc

or_else-right : (x y : Option Ending) → or_else x (or_else y None) ≡ or_else x y
or_else-right (Some e) y = refl
or_else-right None None = refl
or_else-right None (Some e) = refl

pub Inv-leave : (plan : ℕ → Plan) (s0 : Store) (all : List ℕ) (t : State) (i : ℕ) (e : Ending) → Inv plan s0 all t
    → mem i t.group ≡ true → t.progress i ≡ Running (Ends e) → Inv plan s0 all (leave t i e)
Inv-leave plan s0 all t i e h m r = record {
  base_is = h.base_is;
  safe = subst (λ (b : Lookup). Safe plan b (looks t.store) (λ l. cond (t.owner l == i + 1) 0 (t.owner l))
      (update t.progress i (Ended e)))
      (sym (ap looks (serial-append plan t.base t.done (i ∷ [])) ∙ looks-after (plan i) b))
      (Safe-leave plan (looks b) (looks t.store) t.owner t.progress i e h.safe r);
  held = λ l j o. holds l j o;
  ends = λ j. ends_at j (i == j) (eqb_tells i j) ∙ ap (or_else (serial_end plan s0 t.past j)) (sym (serial_end-append plan t.base t.done (i ∷ []) j));
  once = λ j. let a = times-append j t.done (i ∷ []) in let z = once_at j (i == j) (eqb_tells i j) in omega arith;
  parts = h.parts;
  inside = λ j. inside_at j;
}
  where
    b : Store
    b = serial plan t.base t.done

    gives : ending_of (plan i) b ≡ e
    gives = end_with-looks (plan i) b ∙ (Safe-left plan (looks b) (looks t.store) t.owner t.progress i e h.safe r).endings

    running : is_running (t.progress i) ≡ true
    running = ap is_running r

    other_runs : (j : ℕ) (c : Bool) → ((c ≡ true) × (i ≡ j)) ⊎ ((c ≡ false) × (i ≢ j)) → i ≢ j
        → is_running (cond c (Ended e) (t.progress j)) ≡ is_running (t.progress j)
    other_runs j false z n = refl
    other_runs j true (inl z) n = absurd (n z.1)
    other_runs j true (inr z) n = cc

    holds : (l j : ℕ) → cond (t.owner l == i + 1) 0 (t.owner l) ≡ j + 1 → (mem j t.group ≡ true) × (is_running (update t.progress i (Ended e) j) ≡ true)
    holds l j o =
        let own : t.owner l ≡ j + 1 = grind (arith, nat_tests) in
        let ne : i ≢ j = λ ij. grind (arith, nat_tests) in
        let z = h.held l j own in (z.0, other_runs j (i == j) (eqb_tells i j) ne ∙ z.1)

    ends_at : (j : ℕ) (c : Bool) → ((c ≡ true) × (i ≡ j)) ⊎ ((c ≡ false) × (i ≢ j))
        → end_of (cond c (Ended e) (t.progress j))
        ≡ or_else (serial_end plan s0 t.past j)
        (or_else (serial_end plan t.base t.done j) (cond c (Some (ending_of (plan i) b)) None))
    ends_at j false z = h.ends j ∙ sym (or_else-right _ _)
    ends_at j true (inr z) = cc
    ends_at j true (inl z) =
        ap Some (sym gives) ∙ sym (or_else-none _ _ _ (ap end_of (sym r ∙ ap t.progress z.1) ∙ h.ends j))

    once_at : (j : ℕ) (c : Bool) → ((c ≡ true) × (i ≡ j)) ⊎ ((c ≡ false) × (i ≢ j))
        → times j t.past + times j t.done + cond c 1 0 ≡ cond (is_running (cond c (Ended e) (t.progress j))) 0 1
    once_at j false z = let o = h.once j in omega arith
    once_at j true (inr z) = cc
    once_at j true (inl z) = let o : times j t.past + times j t.done ≡ 0 = h.once j
        ∙ ap (λ n. cond (is_running (t.progress n)) 0 1) (sym z.1) ∙ ap (λ b. cond b 0 1) running in omega arith

    inside_at : (j : ℕ) → times j (t.done ++ i ∷ []) ≤ times j t.group
    inside_at j =
        let a = times-append j t.done (i ∷ []) in
        let k = by (i == j) (eqb_tells i j) in omega arith
      where
        by : (c : Bool) → ((c ≡ true) × (i ≡ j)) ⊎ ((c ≡ false) × (i ≢ j)) → times j t.done + cond c 1 0 ≤ times j t.group
        by false z = let o = h.inside j in omega arith
        by true (inr z) = cc
        by true (inl z) =
            let o : times j t.past + times j t.done ≡ 0 = h.once j ∙ ap (λ n. cond (is_running (t.progress n)) 0 1) (sym z.1) ∙ ap (λ b. cond b 0 1) running in
            let k = times-mem j t.group (ap (λ n. mem n t.group) (sym z.1) ∙ m) in omega arith

or_ended-running : (o : Option Ending) (x : Progress) (p : Plan) → or_ended o x ≡ Running p → (x ≡ Running p) × (o ≡ None)
or_ended-running None x p h = (h, refl)
or_ended-running (Some e) x p h = cc

-- in the group: not in the groups before, and once in the group
in_group : (plan : ℕ → Plan) (s0 : Store) (all : List ℕ) (t : State) → Inv plan s0 all t → ((i : ℕ) → times i all ≤ 1)
    → (j : ℕ) → mem j t.group ≡ true → (times j t.past ≡ 0) × (times j t.group ≡ 1) × (times j (concat t.later) ≡ 0)
in_group plan s0 all t h one j m =
    let a = h.parts j in let b = one j in let c = times-mem j t.group m in (omega arith, omega arith, omega arith)

out_of_group : (plan : ℕ → Plan) (s0 : Store) (all : List ℕ) (t : State) → Inv plan s0 all t → (j : ℕ)
    → mem j t.group ≡ false → (times j t.group ≡ 0) × (times j t.done ≡ 0)
out_of_group plan s0 all t h j m =
    let a = times-not_mem j t.group m in let b = h.inside j in (omega arith, omega arith)

pub Inv-again : (plan : ℕ → Plan) (s0 : Store) (all : List ℕ) (t : State) (i : ℕ) → Inv plan s0 all t
    → ((i : ℕ) → times i all ≤ 1) → Inv plan s0 all (again plan t i)
Inv-again plan s0 all t i h one = record {
  base_is = h.base_is;
  safe = Safe-again plan (looks (serial plan t.base t.done)) (looks (serial plan t.base t.group)) (looks t.store) t.owner t.progress _ h.safe
      (λ j p e. (or_ended-running (serial_end plan t.base t.group j) (t.progress j) p e).0)
      (λ j p e l o. none_held j p e l o);
  held = λ l j o. absurd (omega arith);
  ends = λ j. ends_at j (mem j t.group) refl;
  once = λ j. once_at j (mem j t.group) refl;
  parts = h.parts;
  inside = λ j. omega arith;
}
  where
    none_held : (j : ℕ) (p : Plan) → or_ended (serial_end plan t.base t.group j) (t.progress j) ≡ Running p → (l : ℕ) → t.owner l ≡ j + 1 → ⊥
    none_held j p e l o =
        let m = (h.held l j o).0 in
        let a = serial_end-some plan t.base t.group j (times-mem j t.group m) in
        let b = (or_ended-running (serial_end plan t.base t.group j) (t.progress j) p e).1 in
        let c : Some a.0 ≡ None = sym a.1 ∙ b in cc

    ends_at : (j : ℕ) (c : Bool) → mem j t.group ≡ c
        → end_of (or_ended (serial_end plan t.base t.group j) (t.progress j))
        ≡ or_else (serial_end plan s0 t.past j) (serial_end plan t.base t.group j)
    ends_at j true m =
        let a = serial_end-some plan t.base t.group j (times-mem j t.group m) in
        let b = serial_end-none plan s0 t.past j (in_group plan s0 all t h one j m).0 in
        ap (λ o. end_of (or_ended o (t.progress j))) a.1 ∙ sym (ap (λ x. or_else x (serial_end plan t.base t.group j)) b ∙ a.1)
    ends_at j false m =
        let z = out_of_group plan s0 all t h j m in
        let a = serial_end-none plan t.base t.group j z.0 in
        let b = serial_end-none plan t.base t.done j z.1 in
        ap (λ o. end_of (or_ended o (t.progress j))) a ∙ h.ends j ∙ ap (or_else (serial_end plan s0 t.past j)) (b ∙ sym a)

    once_at : (j : ℕ) (c : Bool) → mem j t.group ≡ c → times j t.past + times j t.group
        ≡ cond (is_running (or_ended (serial_end plan t.base t.group j) (t.progress j))) 0 1
    once_at j true m =
        let a = serial_end-some plan t.base t.group j (times-mem j t.group m) in
        let z = in_group plan s0 all t h one j m in
        let e : times j t.past + times j t.group ≡ 1 = omega arith in
        e ∙ sym (ap (λ o. cond (is_running (or_ended o (t.progress j))) 0 1) a.1)
    once_at j false m =
        let z = out_of_group plan s0 all t h j m in
        let a = serial_end-none plan t.base t.group j z.0 in
        let o = h.once j in
        let e : times j t.past + times j t.group ≡ times j t.past + times j t.done = omega arith in
        e ∙ o ∙ sym (ap (λ o. cond (is_running (or_ended o (t.progress j))) 0 1) a)

pub any_running-false : (q : ℕ → Progress) (xs : List ℕ) → any_running q xs ≡ false → (j : ℕ) → mem j xs ≡ true → is_running (q j) ≡ false
any_running-false q [] h j m = cc
any_running-false q (x ∷ xs) h j m = at (any_running-false q xs) (is_running (q x)) refl h (x == j) (eqb_tells x j) m
  where
    at : (any_running q xs ≡ false → (j : ℕ) → mem j xs ≡ true → is_running (q j) ≡ false) → (r : Bool)
        → is_running (q x) ≡ r → (r || any_running q xs) ≡ false → (c : Bool) → ((c ≡ true) × (x ≡ j))
        ⊎ ((c ≡ false) × (x ≢ j)) → (c || mem j xs) ≡ true → is_running (q j) ≡ false
    at rec true e h c z m = cc
    at rec false e h true (inl z) m = ap (λ n. is_running (q n)) (sym z.1) ∙ e
    at rec false e h true (inr z) m = cc
    at rec false e h false z m = rec h j m

pub any_running-true : (q : ℕ → Progress) (xs : List ℕ) (j : ℕ) → mem j xs ≡ true → is_running (q j) ≡ true → any_running q xs ≡ true
any_running-true q xs j m r = at (any_running q xs) refl
  where
    at : (c : Bool) → any_running q xs ≡ c → c ≡ true
    at true e = refl
    at false e = let z = any_running-false q xs e j m in sym z ∙ r

pub zero_or : (n : ℕ) → (n ≡ 0) ⊎ ((i : ℕ) × (n ≡ i + 1))
zero_or zero = inl refl
zero_or (suc n) = inr (n, omega arith)

abbrev pub head_of : List (List ℕ) → List ℕ
head_of gs = elim gs [ [] ↦ [] | g ∷ gs ↦ g ]

abbrev pub tail_of : List (List ℕ) → List (List ℕ)
tail_of gs = elim gs [ [] ↦ [] | g ∷ gs ↦ gs ]

pub concat-split : (gs : List (List ℕ)) → concat gs ≡ head_of gs ++ concat (tail_of gs)
concat-split [] = refl
concat-split (g ∷ gs) = refl

split_later : (j : ℕ) (gs : List (List ℕ)) → times j (head_of gs) + times j (concat (tail_of gs)) ≡ times j (concat gs)
split_later j [] = refl
split_later j (g ∷ gs) = sym (times-append j g (concat gs))

-- the next group begins
pub Inv-next : (plan : ℕ → Plan) (s0 : Store) (all : List ℕ) (t : State) → Inv plan s0 all t
    → ((i : ℕ) → times i all ≤ 1) → any_running t.progress t.group ≡ false → Inv plan s0 all (next t)
Inv-next plan s0 all t h one none = record {
  base_is = here ∙ ap (λ b. serial plan b t.done) h.base_is ∙ sym (serial-append plan s0 t.past t.done);
  safe = subst (λ (b : Store). Safe plan (looks b) (looks t.store) t.owner t.progress) (sym here) h.safe;
  held = λ l j o. absurd (nobody l j o);
  ends = λ j. h.ends j ∙ ends_at j;
  once = λ j. let a = times-append j t.past t.done in let o = h.once j in omega arith;
  parts = λ j. let a = times-append j t.past t.done in let b = split_later j t.later in let c = h.parts
      j in let d = all_done j (mem j t.group) refl in omega arith;
  inside = λ j. omega arith;
}
  where
    nobody : (l j : ℕ) → t.owner l ≡ j + 1 → ⊥
    nobody l j o = let z = h.held l j o in let f = any_running-false t.progress t.group none j z.0 in let e : true ≡ false = sym z.1 ∙ f in cc

    all_free : (l : ℕ) → t.owner l ≡ 0
    all_free l = elim (zero_or (t.owner l)) [ inl e ↦ e | inr z ↦ absurd (nobody l z.0 z.1) ]

    here : t.store ≡ serial plan t.base t.done
    here = same_store t.store (serial plan t.base t.done) (Safe-free plan _ (looks t.store) t.owner t.progress h.safe all_free)

    or_none : (x : Option Ending) → x ≡ or_else x None
    or_none None = refl
    or_none (Some e) = refl

    ends_at : (j : ℕ) → or_else (serial_end plan s0 t.past j) (serial_end plan t.base t.done j) ≡ or_else (serial_end plan s0 (t.past ++ t.done) j) None
    ends_at j = ap (λ b. or_else (serial_end plan s0 t.past j) (serial_end plan b t.done j)) h.base_is
        ∙ sym (serial_end-append plan s0 t.past t.done j) ∙ or_none _

    all_done : (j : ℕ) (c : Bool) → mem j t.group ≡ c → times j t.done ≡ times j t.group
    all_done j false m = let z = out_of_group plan s0 all t h j m in omega arith
    all_done j true m =
        let z = in_group plan s0 all t h one j m in
        let f = any_running-false t.progress t.group none j m in
        let o : times j t.past + times j t.done ≡ 1 = h.once j ∙ ap (λ b. cond b 0 1) f in omega arith
