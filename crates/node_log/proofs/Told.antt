-- What an append to a node's journal told: what was written, what may have been, and why it was not.
use Rattle.std.proofs.Common.{◌≡◌, ◌⊎◌, ℕ, ◌+◌, ◌-◌, ◌^◌, ◌≤◌, Bool, true, false, List, min, refl, sym, subst, inl, inr, Result, Ok, Err}
use Rattle.std.specs.Prelude.{OnOk}
use Rattle.std.proofs.lemmas.Bool.{false_from_ne_true}
use Rattle.aeg_disk.specs.Disk.{DiskState, Rose}
use Rattle.node_journal.specs.declared.journal.AppendErr.{AppendErr}
use Rattle.node_journal.specs.declared.journal.AppendErr.TheVariants as appends
use Rattle.fact_journal.specs.Calls.{length_with, is_past, Appended, IsCut}
use Rattle.fact_journal.specs.Standing.{HasFacts}
use Rattle.fact_journal.proofs.Appends.{not_begun}
use Rattle.log_model.specs.Nodes.{writes}
use Rattle.log_values.specs.declared.fact.Fact.{Fact}
use Rattle.tier_model.specs.declared.turn.Fault.{Fault}
use Rattle.node_log.specs.Faults.{as_fault}
use Rattle.node_log.specs.Views.{Wrote, MayHaveWritten, HasCause}

-- what the call told, from one place of the journal's gate to the next
pub record Told (at next : ℕ) (facts : List Fact) (a b : DiskState) (r : Result (Unit {0}) AppendErr) : Type 0 where
  pub idle : writes facts ≡ false → (r ≡ Ok tt) × ((b ≡ a) × (next ≡ at))
  pub full : (n : ℕ) → r ≡ Err (appends.Full n) → (is_past (at + 1) facts ≡ true) × (n ≡ min (length_with (at + 1) facts) (2 ^ 64 - 1))
  pub past : is_past (at + 1) facts ≡ true → (r ≡ Err (appends.Full (min (length_with (at + 1) facts) (2 ^ 64 - 1)))) ⊎ (r ≡ Err appends.Memory)
  pub nothing_written : (n : ℕ) → r ≡ Err (appends.Full n) → b ≡ a
  pub place : OnOk r (next + 1 ≡ length_with (at + 1) facts)
  pub leaves : (rs : List (List Fact)) → a.tells ≡ true → HasFacts rs a at → Appended rs facts b next r
  pub stopped : a.stopped ≡ false → b.stopped ≡ true → (rs : List (List Fact)) → a.tells ≡ true → HasFacts rs a at → IsCut rs facts a b
  pub unmet : OnOk r (writes facts ≡ true → a.armed ≤ 4 → a.armed ≡ 0)
  pub cause : r ≡ Err appends.Disk → (b.stopped ≡ true) ⊎ Rose a.faults b.faults

-- it is full, or memory ran out, so it is neither of the other two
not_full : (at next : ℕ) (facts : List Fact) (a b : DiskState) (r : Result (Unit {0}) AppendErr) → ((n : ℕ) → r ≡ Err (appends.Full n) → ⊥)
    → (r ≡ Err appends.Memory → ⊥) → Told at next facts a b r → is_past (at + 1) facts ≡ false
not_full at next facts a b r f m k = false_from_ne_true (is_past (at + 1) facts) (λ e. go (k.past e))
  where
    go : (r ≡ Err (appends.Full (min (length_with (at + 1) facts) (2 ^ 64 - 1)))) ⊎ (r ≡ Err appends.Memory) → ⊥
    go (inl e) = f _ e
    go (inr e) = m e

wrote_at_fault : (at next : ℕ) (facts : List Fact) (a b : DiskState) → Told at next facts a b (Err appends.Disk) → writes facts ≡ true
wrote_at_fault at next facts a b k = go (writes facts) refl
  where
    go : (w : Bool) → writes facts ≡ w → w ≡ true
    go true e = refl
    go false e = absurd (let f = (k.idle e).0 in cc)

pub wrote : (at next : ℕ) (facts : List Fact) (a b : DiskState) (r : Result (Unit {0}) AppendErr) → r ≡ Ok tt → Told at next facts a b r
    → Wrote a b at next facts
wrote at next facts a b r ok told =
    let k = subst (λ z. Told at next facts a b z) ok told in
    record {
      records = k.leaves;
      long = k.place;
      within = not_full at next facts a b (Ok tt) (λ n e. cc) (λ e. cc) k;
      unstopped = k.unmet;
      untouched = λ w. (k.idle w).1.0;
    }

-- nothing was written
pub not_written : (at : ℕ) (facts : List Fact) (a b : DiskState) → b ≡ a → MayHaveWritten a b at facts
not_written at facts a b e = subst (λ (z : DiskState). MayHaveWritten a z at facts) (sym e) (record {
  one_of_two = λ rs t has. not_begun rs facts a at has at (Err appends.Memory) t refl;
  stop = λ runs stands. absurd cc;
})

pub may_have : (at next : ℕ) (facts : List Fact) (a b : DiskState) (r : Result (Unit {0}) AppendErr) (error : AppendErr) → r ≡ Err error
    → Told at next facts a b r → MayHaveWritten a b at facts
may_have at next facts a b r error err told = go error (subst (λ z. Told at next facts a b z) err told)
  where
    go : (error : AppendErr) → Told at next facts a b (Err error) → MayHaveWritten a b at facts
    go appends.Disk k = record { one_of_two = k.leaves; stop = k.stopped }
    go (appends.Full n) k = not_written at facts a b (k.nothing_written n refl)
    go appends.Memory k = record { one_of_two = k.leaves; stop = k.stopped }

pub has_cause : (at next : ℕ) (facts : List Fact) (a b : DiskState) (r : Result (Unit {0}) AppendErr) (error : AppendErr) (given fault : Fault)
    → r ≡ Err error → given ≡ as_fault error → ◌≡◌ {A = Result (Unit {0}) Fault} (Err given) (Err fault) → Told at next facts a b r
    → HasCause a b at facts fault
has_cause at next facts a b r error given fault err is same told = subst (HasCause a b at facts) as_told
    (go error (subst (λ z. Told at next facts a b z) err told))
  where
    as_told : as_fault error ≡ fault
    as_told = cc

    go : (error : AppendErr) → Told at next facts a b (Err error) → HasCause a b at facts (as_fault error)
    go appends.Disk k = (not_full at next facts a b (Err appends.Disk) (λ n e. cc) (λ e. cc) k, wrote_at_fault at next facts a b k, k.cause refl)
    go (appends.Full n) k = ((k.full n refl).0, (k.full n refl).1, k.nothing_written n refl)
    go appends.Memory k = tt
