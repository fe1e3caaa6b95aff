-- What each change makes of a disk in memory.
use Rattle.std.proofs.Common.{◌≡◌, ◌≢◌, ℕ, ◌+◌, ◌-◌, ◌≤◌, min, max, List, [], ◌∷◌, ◌++◌, length, take, drop, Bool, true}
use Rattle.std.proofs.Common.{false, cond, ◌&&◌, ◌||◌, nat_le, refl, ◌∙◌, ap, arith, length-drop, take-append-drop}
use Rattle.std.proofs.lemmas.Bool.Decides.{nat_tests}
use Rattle.std.proofs.lemmas.List.{take_at, take_all, append-nil, length-take}
use Rattle.std.proofs.lemmas.Bool.{and_from}
use Rattle.aeg_disk.specs.Disk.{DiskState, Put, Settled, Spoilt, Done, Fault, Stop, Rose, written}
use Rattle.aeg_disk.specs.Memory.{Change, start_of, undone, kept_of, ranges_of, past_of, is_fit, is_logged, memory_state, write_of, mark_of, loss_of}
use Rattle.aeg_disk.specs.Undo.{undo_written, written_long}

fit_true : (a b n l m k : ℕ) → a ≤ b → n ≤ l → b ≤ m → m ≤ k → (nat_le a b && nat_le n l && nat_le b m && nat_le m k) ≡ true
fit_true a b n l m k p q r s = grind (arith, nat_tests)

logged_true : (p q r : Bool) → q ≡ true → r ≡ true → ((p || q) && r) ≡ true
logged_true true q r e f = f
logged_true false q r e f = and_from q r e f

settled_true : (p q r : Bool) → p ≡ true → r ≡ true → ((p || q) && r) ≡ true
settled_true true q r e f = f
settled_true false q r e f = cc

-- with one change more
module _ (log : List Change) (old : List ℕ) where
  pub undoes : (at : ℕ) (piece : List ℕ) (s : Bool) → undone (write_of at (length piece) old s) (written at piece old) ≡ old
  undoes at piece s = undo_written at piece old

  pub undoes_logged : (at : ℕ) (piece : List ℕ) (s : Bool) → is_logged log old ≡ true
      → is_logged (write_of at (length piece) old s ∷ log) (written at piece old) ≡ true
  undoes_logged at piece s h =
      let c = write_of at (length piece) old s in
      let w = written at piece old in
      let long = written_long at piece old in
      let rl : length c.replaced ≡ min (length piece) (length old - at) = length-take (length piece) (drop at old)
      ∙ ap (λ (n : ℕ). min (length piece) n) (length-drop at old) in
      logged_true s (is_fit c w) (is_logged log (undone c w))
      (fit_true (start_of c + length c.replaced) (length old) (length c.replaced) (length piece) (length w) (max (length old) (at + length piece))
      (omega (arith, rl)) (omega (arith, rl)) (omega (arith, long)) (omega (arith, long)))
      (ap (λ (l : List ℕ). is_logged log l) (undoes at piece s) ∙ h)

  pub marks : (at n : ℕ) (s : Bool) → undone (mark_of at n (length old) s) old ≡ old
  marks at n s =
      let l = length old in
      (λ i. take l (append-nil (take (min at l) old) i ++ drop (plus_none (min at l) i) old))
      ∙ ap (λ (x : List ℕ). take l x) (take-append-drop (min at l) old)
      ∙ take_all l old (omega arith)
    where
      plus_none : (k : ℕ) → k + 0 ≡ k
      plus_none k = omega arith

  pub marks_logged : (at n : ℕ) (s : Bool) → is_logged log old ≡ true → is_logged (mark_of at n (length old) s ∷ log) old ≡ true
  marks_logged at n s h =
      let c = mark_of at n (length old) s in
      logged_true s (is_fit c old) (is_logged log (undone c old))
      (fit_true (start_of c + 0) (length old) 0 n (length old) (max (length old) (at + n)) (omega arith) (omega arith) (omega arith) (omega arith))
      (ap (λ (l : List ℕ). is_logged log l) (marks at n s) ∙ h)

  pub replaces : (new : List ℕ) → undone (loss_of old) new ≡ old
  replaces new =
      let l = length old in
      ap (λ (k : ℕ). take l (take k new ++ old ++ drop (min 0 l + length old) new)) (let none : min 0 l ≡ 0 = omega arith in none)
      ∙ take_at old (drop (min 0 l + length old) new) l refl

  pub replaces_logged : (new : List ℕ) → is_logged log old ≡ true → is_logged (loss_of old ∷ log) new ≡ true
  replaces_logged new h = ap (λ (l : List ℕ). is_logged log l) (replaces new) ∙ h

  -- the states before and after
  module _ (faults armed : ℕ) (keep : Bool) where
    abbrev state : List ℕ → List Change → ℕ → Bool → ℕ → DiskState
    state bytes changes failed stopped left = memory_state bytes changes failed stopped left keep

    pub put_done : (at : ℕ) (piece : List ℕ) → armed ≢ 1
        → Done (state old log faults false armed)
        (state (written at piece old) (write_of at (length piece) old false ∷ log) faults false (armed - 1))
        (max (length old) (at + length piece))
        (Put at piece (state old log faults false armed) (state (written at piece old) (write_of at (length piece) old false ∷ log) faults false (armed - 1)))
    put_done at piece unmet =
        let c = write_of at (length piece) old false in
        record {
          passed = record { ran = refl; runs = refl; unmet = unmet; armed = refl; keep = refl; tells = refl };
          faults = refl;
          size = written_long at piece old;
          content = λ t. record {
            bytes = refl;
            kept = ap (λ (l : List ℕ). kept_of log l) (undoes at piece false);
            ranges = refl;
            past = ap (λ (l : List ℕ). record {
              kept = kept_of (c ∷ log) (written at piece old);
              ranges = ranges_of (c ∷ log);
            } ∷ past_of log l) (undoes at piece false);
          };
        }

    pub sync_done : armed ≢ 1
        → Done (state old log faults false armed) (state old (mark_of 0 0 (length old) true ∷ log) faults false (armed - 1)) (length old)
        (Settled (state old log faults false armed) (state old (mark_of 0 0 (length old) true ∷ log) faults false (armed - 1)))
    sync_done unmet = record {
      passed = record { ran = refl; runs = refl; unmet = unmet; armed = refl; keep = refl; tells = refl };
      faults = refl;
      size = refl;
      content = λ t. record {
        bytes = refl;
        kept = refl;
        ranges = refl;
        past = ap (λ (l : List ℕ). record { kept = old; ranges = [] } ∷ past_of log l) (marks 0 0 true);
      };
    }

    pub write_fault : (at n more : ℕ) → armed ≢ 1 → faults ≤ more → Rose faults more
        → Fault (state old log faults false armed) (state old (mark_of at n (length old) false ∷ log) more false (armed - 1)) (max (length old) (at + n))
        (Spoilt at n (state old log faults false armed) (state old (mark_of at n (length old) false ∷ log) more false (armed - 1)))
    write_fault at n more unmet later rose =
        let c = mark_of at n (length old) false in
        record {
          passed = record { ran = refl; runs = refl; unmet = unmet; armed = refl; keep = refl; tells = refl };
          later = later;
          faults = rose;
          low = omega arith;
          high = omega arith;
          content = λ t. record {
            kept = ap (λ (l : List ℕ). kept_of log l) (marks at n false);
            ranges = refl;
            past = ap (λ (l : List ℕ). record { kept = kept_of (c ∷ log) old; ranges = ranges_of (c ∷ log) } ∷ past_of log l) (marks at n false);
          };
        }

    pub stop_met : (c : Change) (left new : List ℕ) → armed ≡ 1 → undone c new ≡ old → c.settles ≡ true → new ≡ cond keep left (kept_of log old)
        → Stop (state old log faults false armed) (state new (c ∷ log) faults true 0) left
    stop_met c left new met back settles is = record {
      ran = refl;
      met = met;
      stopped = refl;
      armed = refl;
      tells = refl;
      faults = refl;
      content = λ t. record {
        bytes = is;
        kept = ap (λ (b : Bool). cond b new (kept_of log (undone c new))) settles;
        ranges = ap (λ (b : Bool). cond b [] ((c.place, c.count) ∷ ranges_of log)) settles;
        past = ap (λ (l : List ℕ). record { kept = kept_of (c ∷ log) new; ranges = ranges_of (c ∷ log) } ∷ past_of log l) back;
      };
    }
