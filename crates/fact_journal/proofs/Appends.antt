-- What an append of a record leaves.
use Rattle.std.proofs.Common.{◌≡◌, inl, inr, ℕ, ◌+◌, ◌<◌, List, [], ◌∷◌, ◌++◌, length, Bool, true, false, cond, ◌==◌}
use Rattle.std.proofs.Common.{◌-◌, ◌^◌, min, Result, Ok, Err, refl, sym, ap, ◌∙◌, subst, arith}
use Rattle.aeg_disk.specs.Disk.{DiskState, Image, Moment, Later}
use Rattle.node_journal.specs.Journal.{records, size_of}
use Rattle.node_journal.specs.declared.journal.AppendErr.{AppendErr}
use Rattle.node_journal.specs.declared.journal.AppendErr.TheVariants.{Disk, Full, Memory}
use Rattle.node_journal.specs.Append.{Holds, HasList, Each, LeavesOnly, OldOrNew, StopMet, is_kept}
use Rattle.log_model.specs.Nodes.{recorded}
use Rattle.log_values.specs.declared.fact.Fact.{Fact}
use Rattle.log_values.specs.Records.{record_text}
use Rattle.std.specs.Prelude.{OnOk, OnErr}
use Rattle.std.proofs.lemmas.Bool.{ltb-true, lt-ltb}
use Rattle.aeg_base.specs.declared.limits.TheConstants.{JOURNAL_BYTES}
use Rattle.log_values.proofs.RecordGrammar.{no_more}
use Rattle.fact_journal.specs.Standing.{texts, HasFacts, IsJournalOf, StandsFor}
use Rattle.fact_journal.specs.Calls.{length_with, is_past, old_or_new, Appended, IsCut}
use Rattle.fact_journal.proofs.Standing.{ended_sound, stands_alone, from_list}
use Rattle.fact_journal.proofs.BodiesRead.{texts_more, size_texts}

recorded_some : (rs : List (List Fact)) (facts : List Fact) → 0 < length facts → recorded rs facts ≡ rs ++ facts ∷ []
recorded_some rs [] some = absurd (omega arith)
recorded_some rs (f ∷ fs) some = refl

pub long_with : (written : ℕ) (facts : List Fact) → 0 < length facts → length_with written facts ≡ written + (5 + length (record_text facts))
long_with written [] some = absurd (omega arith)
long_with written (f ∷ fs) some = refl

-- ---- the bytes of the record

pub some_left : (facts got : List Fact) (none : Bool) → got ≡ facts → none ≡ (length got == 0) → none ≡ false → 0 < length facts
some_left [] got none e h f = absurd (let same : none ≡ true = h ∙ ap (λ (l : List Fact). length l == 0) e in cc)
some_left (x ∷ facts) got none e h f = omega arith

pub spelled_as : (before out : List ℕ) (facts : List Fact) → before ≡ [] → out ≡ before ++ record_text facts → out ≡ record_text facts
spelled_as before out facts e h = h ∙ ap (λ (l : List ℕ). l ++ record_text facts) e

pub filled : (facts : List Fact) (body : List ℕ) → 0 < length facts → body ≡ record_text facts → 0 < length body
filled facts body some spelled = omega (arith, some, no_more facts, ap length spelled)

-- ---- where the journal is full

pub full_at : (facts : List Fact) (body : List ℕ) (at inner n : ℕ) → 0 < length facts → body ≡ record_text facts
    → at ≡ inner → (JOURNAL_BYTES < inner + 6 + length body) × (n ≡ min (inner + 6 + length body) (2 ^ 64 - 1))
    → (is_past (at + 1) facts ≡ true) × (n ≡ min (length_with (at + 1) facts) (2 ^ 64 - 1))
full_at [] body at inner n some spelled e h = absurd (omega arith)
full_at (f ∷ fs) body at inner n some spelled e h =
    let long : length body ≡ length (record_text (f ∷ fs)) = ap length spelled in
    let size : inner + 6 + length body ≡ at + 1 + (5 + length (record_text (f ∷ fs))) = omega (arith, long, e) in
    (lt-ltb JOURNAL_BYTES (at + 1 + (5 + length (record_text (f ∷ fs)))) (omega (arith, h.0, size)), h.1 ∙ ap (λ (k : ℕ). min k (2 ^ 64 - 1)) size)

pub past_at : (facts : List Fact) (body : List ℕ) (at inner : ℕ) → 0 < length facts → body ≡ record_text facts → at ≡ inner → is_past (at + 1) facts ≡ true
    → (JOURNAL_BYTES < inner + 6 + length body) × (min (length_with (at + 1) facts) (2 ^ 64 - 1) ≡ min (inner + 6 + length body) (2 ^ 64 - 1))
past_at [] body at inner some spelled e h = absurd (omega arith)
past_at (f ∷ fs) body at inner some spelled e h =
    let long : length body ≡ length (record_text (f ∷ fs)) = ap length spelled in
    let size : at + 1 + (5 + length (record_text (f ∷ fs))) ≡ inner + 6 + length body = omega (arith, long, e) in
    (omega (arith, ltb-true JOURNAL_BYTES (at + 1 + (5 + length (record_text (f ∷ fs)))) h, size), ap (λ (k : ℕ). min k (2 ^ 64 - 1)) size)

-- ---- the disk

each_weaker : (P Q : List ℕ → Type 0) → ((c : List ℕ) → P c → Q c) → (ms : List Moment) → Each ms P → Each ms Q
each_weaker P Q h [] all = tt
each_weaker P Q h (m ∷ ms) all = (λ c i. h c (all.0 c i), each_weaker P Q h ms all.1)

leaves_weaker : (a b : DiskState) (P Q : List ℕ → Type 0) → ((c : List ℕ) → P c → Q c) → LeavesOnly a b P → LeavesOnly a b Q
leaves_weaker a b P Q h left = record {
  since = (left.since.0, left.since.1, each_weaker P Q h left.since.0 left.since.2);
  here = λ c i. h c (left.here c i);
}

module _ (rs : List (List Fact)) (facts : List Fact) (some : 0 < length facts) (body : List ℕ)
    (spelled : body ≡ record_text facts) (a b : DiskState) (at : ℕ) (has : HasFacts rs a at) where
  now_texts : records a.bytes ++ body ∷ [] ≡ texts (recorded rs facts)
  now_texts =
      ap (λ (l : List (List ℕ)). l ++ body ∷ []) has.read ∙ ap (λ (x : List ℕ). texts rs ++ x ∷ []) spelled
      ∙ sym (texts_more rs facts) ∙ ap texts (sym (recorded_some rs facts some))

  pub appended : (place : ℕ) → place ≡ at + 5 + length body → HasList (records a.bytes ++ body ∷ []) b place → HasFacts (recorded rs facts) b place
  appended place e h =
      let size = ap size_of (ap texts (recorded_some rs facts some)) ∙ size_texts rs facts in
      let long : length body ≡ length (record_text facts) = ap length spelled in
      from_list (recorded rs facts) b place (subst (λ (l : List (List ℕ)). HasList l b place) now_texts h) (omega (arith, e, size, long, has.long))

  either : (c : List ℕ) → OldOrNew (records a.bytes) at body c → IsJournalOf (old_or_new rs facts) c
  either c (inl e) = ((0, rs, refl, e.list ∙ has.read), ended_sound (records a.bytes) at c e)
  either c (inr e) = ((1, recorded rs facts, refl, e.list ∙ now_texts), ended_sound (records a.bytes ++ body ∷ []) (at + 5 + length body) c e)

  pub moments : a.tells ≡ true → (a.tells ≡ true → LeavesOnly a b (OldOrNew (records a.bytes) at body)) → LeavesOnly a b (IsJournalOf (old_or_new rs facts))
  moments t left = leaves_weaker a b (OldOrNew (records a.bytes) at body) (IsJournalOf (old_or_new rs facts)) either (left t)

  pub two_lists : a.tells ≡ true → Later a b → LeavesOnly a b (OldOrNew (records a.bytes) at body) → StandsFor (old_or_new rs facts) b
  two_lists t later left = record { tells = later.tells ∙ t; images = λ c i. (either c (left.here c i)).0; sound = λ c i. (either c (left.here c i)).1 }

  left_texts : (k : Bool) → cond k (records a.bytes ++ body ∷ []) (records a.bytes) ≡ texts (cond k (recorded rs facts) rs)
  left_texts true = now_texts
  left_texts false = has.read

  pub cut : a.tells ≡ true → Later a b → StopMet (records a.bytes) at body a b → IsCut rs facts a b
  cut t later met =
      let k = is_kept a.armed a.keep in
      record {
        first = met.first;
        last = met.last;
        faults = met.faults;
        stands = stands_alone (cond k (recorded rs facts) rs) b (cond k (at + 5 + length body) at) (later.tells ∙ t)
            (subst (λ (l : List (List ℕ)). Holds l (cond k (at + 5 + length body) at) b) (left_texts k) (met.left t));
      }

  pub leaves : (r : Result (Unit {0}) AppendErr) (place : ℕ) → a.tells ≡ true → Later a b
      → OnOk r (place ≡ at + 5 + length body) → OnErr r (place ≡ at)
      → OnOk r (a.tells ≡ true → HasList (records a.bytes ++ body ∷ []) b place)
      → (a.tells ≡ true → LeavesOnly a b (OldOrNew (records a.bytes) at body)) → ((n : ℕ) → r ≡ Err (Full n) → b ≡ a) → Appended rs facts b place r
  leaves (Ok u) place t later here kept h moment same = appended place here (h t)
  leaves (Err (Full n)) place t later here kept h moment same =
      subst (λ (s : DiskState). HasFacts rs s place) (sym (same n refl)) (subst (λ (k : ℕ). HasFacts rs a k) (sym kept) has)
  leaves (Err Disk) place t later here kept h moment same = two_lists t later (moment t)
  leaves (Err Memory) place t later here kept h moment same = two_lists t later (moment t)

-- NOTHING WAS WRITTEN

module _ (rs : List (List Fact)) (facts : List Fact) (s : DiskState) (at : ℕ) (has : HasFacts rs s at) where
  is_old : (c : List ℕ) → Image s c → IsJournalOf (old_or_new rs facts) c
  is_old c i = ((0, rs, refl, (has.images c i).list), ended_sound (texts rs) at c (has.images c i))

  pub not_begun : (place : ℕ) (r : Result (Unit {0}) AppendErr) → s.tells ≡ true → r ≡ Err Memory → Appended rs facts s place r
  not_begun place r t e = subst (λ (z : Result (Unit {0}) AppendErr). Appended rs facts s place z) (sym e)
      (record { tells = t; images = λ c i. (is_old c i).0; sound = λ c i. (is_old c i).1 })

  pub leaves_old : LeavesOnly s s (IsJournalOf (old_or_new rs facts))
  leaves_old = record { since = ([], refl, tt); here = is_old }
