-- The steps of a disk in memory, over what its functions change.
use Rattle.std.proofs.Common.{◌≡◌, ◌≢◌, ℕ, ◌+◌, ◌-◌, ◌≤◌, max, List, ◌∷◌, length, Bool, true, false, cond, refl, sym, ◌∙◌, ap, subst}
use Rattle.aeg_disk.specs.Disk.{DiskState, Put, Settled, Spoilt, Done, Fault, Stop, Rose, written}
use Rattle.aeg_disk.specs.Memory.{Change, undone, kept_of, is_logged, memory_state, write_of, mark_of, loss_of}
use Rattle.aeg_disk.proofs.Steps.{undoes, undoes_logged, marks, marks_logged, replaces, replaces_logged, put_done, sync_done, write_fault, stop_met}

module _ (log more : List Change) (old new : List ℕ) (h : is_logged log old ≡ true) where
  pub put_logged : (at : ℕ) (piece : List ℕ) (s : Bool) → new ≡ written at piece old → more ≡ write_of at (length piece) old s ∷ log → is_logged more new ≡ true
  put_logged at piece s is o = (λ i. is_logged (o i) (is i)) ∙ undoes_logged log old at piece s h

  pub mark_logged : (at n size : ℕ) (s : Bool) → size ≡ length old → more ≡ mark_of at n size s ∷ log → is_logged more old ≡ true
  mark_logged at n size s e o = ap (λ (l : List Change). is_logged l old) o
      ∙ ap (λ (k : ℕ). is_logged (mark_of at n k s ∷ log) old) e ∙ marks_logged log old at n s h

  pub lose_logged : more ≡ loss_of old ∷ log → is_logged more new ≡ true
  lose_logged o = ap (λ (l : List Change). is_logged l new) o ∙ replaces_logged log old new h

  module _ (faults armed : ℕ) (keep stopped : Bool) (runs : stopped ≡ false) where
    abbrev before : DiskState
    before = memory_state old log faults stopped armed keep

    -- a step from a disk that runs, to these bytes and changes
    step : (P : DiskState → DiskState → Type 0) (bytes : List ℕ) (changes : List Change) (later left : ℕ) → new ≡ bytes → more ≡ changes
        → P (memory_state old log faults false armed keep) (memory_state bytes changes later false left keep)
        → P before (memory_state new more later stopped left keep)
    step P bytes changes later left is o p =
        subst (λ (b : Bool). P (memory_state old log faults b armed keep) (memory_state new more later b left keep)) (sym runs)
        (subst (λ (l : List Change). P (memory_state old log faults false armed keep) (memory_state new l later false left keep)) (sym o)
        (subst (λ (x : List ℕ). P (memory_state old log faults false armed keep) (memory_state x changes later false left keep)) (sym is) p))

    pub put_state : (at : ℕ) (piece : List ℕ) → armed ≢ 1 → new ≡ written at piece old → more ≡ write_of at (length piece) old false ∷ log
        → Done before (memory_state new more faults stopped (armed - 1) keep) (max (length old) (at + length piece))
        (Put at piece before (memory_state new more faults stopped (armed - 1) keep))
    put_state at piece unmet is o =
        step (λ a b. Done a b (max (length old) (at + length piece)) (Put at piece a b)) (written at piece old)
        (write_of at (length piece) old false ∷ log) faults (armed - 1) is o
        (put_done log old faults armed keep at piece unmet)

    pub sync_state : (size : ℕ) → armed ≢ 1 → new ≡ old → size ≡ length old → more ≡ mark_of 0 0 size true ∷ log
        → Done before (memory_state new more faults stopped (armed - 1) keep) (length old)
        (Settled before (memory_state new more faults stopped (armed - 1) keep))
    sync_state size unmet same e o =
        step (λ a b. Done a b (length old) (Settled a b)) old (mark_of 0 0 (length old) true ∷ log) faults (armed - 1)
        same (o ∙ ap (λ (k : ℕ). mark_of 0 0 k true ∷ log) e)
        (sync_done log old faults armed keep unmet)

    pub fault_state : (at n size later : ℕ) → armed ≢ 1 → faults ≤ later → Rose faults later → new ≡ old
        → size ≡ length old → more ≡ mark_of at n size false ∷ log
        → Fault before (memory_state new more later stopped (armed - 1) keep) (max (length old) (at + n))
        (Spoilt at n before (memory_state new more later stopped (armed - 1) keep))
    fault_state at n size later unmet le rose same e o =
        step (λ a b. Fault a b (max (length old) (at + n)) (Spoilt at n a b)) old
        (mark_of at n (length old) false ∷ log) later (armed - 1) same (o ∙ ap (λ (k : ℕ). mark_of at n k false ∷ log) e)
        (write_fault log old faults armed keep at n later unmet le rose)

    abbrev Met : List ℕ → Type 0
    Met left = Stop before (memory_state new more faults true 0 keep) left

    met : (left : List ℕ) (c : Change) → more ≡ c ∷ log → armed ≡ 1 → undone c new ≡ old → c.settles ≡ true → new ≡ cond keep left (kept_of log old) → Met left
    met left c e one back settles is = subst
        (λ (b : Bool). Stop (memory_state old log faults b armed keep) (memory_state new more faults true 0 keep) left) (sym runs)
        (subst (λ (l : List Change). Stop (memory_state old log faults false armed keep) (memory_state new l faults true 0 keep) left) (sym e)
        (stop_met log old faults armed keep c left new one back settles is))

    pub write_stop : (at : ℕ) (piece : List ℕ) → armed ≡ 1 → keep ≡ true → new ≡ written at piece old
        → more ≡ write_of at (length piece) old true ∷ log → Met (written at piece old)
    write_stop at piece one k is o =
        let c = write_of at (length piece) old true in
        met (written at piece old) c o one (ap (λ (x : List ℕ). undone c x) is ∙ undoes log old at piece true) refl
        (is ∙ ap (λ (b : Bool). cond b (written at piece old) (kept_of log old)) (sym k))

    pub sync_stop : (size : ℕ) → armed ≡ 1 → keep ≡ true → new ≡ old → size ≡ length old → more ≡ mark_of 0 0 size true ∷ log → Met old
    sync_stop size one k is e o =
        let c = mark_of 0 0 (length old) true in
        met old c (o ∙ ap (λ (n : ℕ). mark_of 0 0 n true ∷ log) e) one (ap (λ (x : List ℕ). undone c x) is ∙ marks log old 0 0 true) refl
        (is ∙ ap (λ (b : Bool). cond b old (kept_of log old)) (sym k))

    pub lose_stop : (left : List ℕ) → armed ≡ 1 → keep ≡ false → new ≡ kept_of log old → more ≡ loss_of old ∷ log → Met left
    lose_stop left one k is o = met left (loss_of old) o one (replaces log old new) refl (is ∙ ap (λ (b : Bool). cond b left (kept_of log old)) (sym k))
