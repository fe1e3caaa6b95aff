-- What each call of an opening leaves.
use Rattle.std.proofs.Common.{◌≡◌, inl, inr, ℕ, ◌+◌, ◌<◌, ◌≤◌, Bool, false, cond, List, [], ◌∷◌, length, get_or, true}
use Rattle.std.proofs.Common.{false, Result, Ok, Err, ◌&&◌, ◌==◌, nat_lt, nat_le, refl, sym, ◌∙◌, ap, subst, arith}
use Rattle.std.proofs.lemmas.Bool.Decides.{nat_tests}
use Rattle.std.proofs.lemmas.List.{drop_all}
use Rattle.std.proofs.lemmas.Bool.{le-ltb, lt-ltb}
use Rattle.aeg_base.specs.declared.limits.TheConstants.{RECORD_BYTES}
use Rattle.node_journal.proofs.Walk.{records_at-none, end_at-no_entry}
use Rattle.aeg_disk.specs.declared.disk.DiskErr.{DiskErr}
use Rattle.aeg_disk.specs.declared.disk.DiskErr.TheVariants as DiskErrs
use Rattle.aeg_disk.specs.Disk.{DiskState, Image, Torn, Lawful, Syncs, Looks, Later, written}
use Rattle.aeg_disk.proofs.Images.{image_settled}
use Rattle.aeg_disk.proofs.Later.{same_later, write_later, sync_later, look_later, later_still}
use Rattle.node_journal.specs.declared.opening.OpenErr.{OpenErr}
use Rattle.node_journal.specs.declared.opening.OpenErr.TheVariants.{Disk, BadRecord, Memory}
use Rattle.node_journal.specs.Journal.{records, records_at, told_length, is_entry, Ends, IsBadAt}
use Rattle.node_journal.specs.Append.{LeavesOnly, Holds, HasList}
use Rattle.node_journal.specs.Opening.{Shuts, WasThere, LooksTo, opened_bytes}
use Rattle.node_journal.proofs.Leaves.{started, stays, counts, write_done, sync_done, write_failed, sync_failed}

no_room : (g t : ℕ) → ((g == 1) && (nat_lt 0 t && nat_le t RECORD_BYTES && nat_lt (4 + t) 0)) ≡ false
no_room g t = grind (arith, nat_tests)

alone : (g : ℕ) → is_entry g [] ≡ false
alone g = no_room g (told_length [])

pub short_none : (bytes : List ℕ) → length bytes ≤ 1 → records bytes ≡ []
unfolding records_at
short_none [] h = refl
short_none (g ∷ []) h = records_at-none g [] (alone g)
short_none (a ∷ b ∷ bytes) h = absurd (omega arith)

-- the shut gate of an empty journal
shut_gate : Ends [] 0 (0 ∷ [])
shut_gate = record { list = records_at-none 0 [] (alone 0); place = end_at-no_entry 0 [] (alone 0); inside = omega arith; shut = λ e. cc }

module _ (a : DiskState) (telling : a.tells ≡ true) (lawful : Lawful a) where
  abbrev P : List ℕ → Type 0
  P = WasThere a

  there : (x : List ℕ) → Image a x → P x
  there x h = (x, h, refl, λ n bad. (n, bad))

  begun : LeavesOnly a a P
  begun = started a P there

  pub sync_failing : (z : DiskState) (e : DiskErr) → Syncs a z (Err e) → LeavesOnly a z P
  sync_failing z e w = sync_failed a P a z e telling begun (there a.bytes lawful.reads) w

  pub record Synced (b : DiskState) : Type 0 where
    pub leaves : LeavesOnly a b P
    pub tells : b.tells ≡ true
    pub bytes : b.bytes ≡ a.bytes
    pub only : (x : List ℕ) → Image b x → x ≡ a.bytes

  pub synced : (b : DiskState) → Syncs a b (Ok tt) → Synced b
  synced b w =
      let settled = w.content telling in
      record {
        leaves = sync_done a P a b begun (there a.bytes lawful.reads) settled;
        tells = w.passed.tells ∙ telling;
        bytes = settled.bytes;
        only = λ x h. image_settled a b x settled h;
      }

  -- reads leave what they found
  pub looked : (b z : DiskState) → LeavesOnly a b P → z ≡ record b { faults = z.faults } → LeavesOnly a z P
  looked b z so same = counts a P b z so same

  pub len_failing : (b z : DiskState) (e : DiskErr) → LeavesOnly a b P → Looks {T = ℕ} b z (Err e) → LeavesOnly a z P
  len_failing b z DiskErrs.Memory so same = stays a P b z so same
  len_failing b z DiskErrs.Failed so (inl stood) = stays a P b z so stood.same
  len_failing b z DiskErrs.Failed so (inr missed) = counts a P b z so missed.same

  pub reading : {T : Type 0} → (b z : DiskState) (r : Result T OpenErr) → LeavesOnly a b P → LooksTo b z r → LeavesOnly a z P
  reading b z (Ok x) so same = stays a P b z so same
  reading b z (Err Disk) so looks = counts a P b z so looks.0.same
  reading b z (Err Memory) so same = stays a P b z so same
  reading b z (Err (BadRecord at)) so same = stays a P b z so same

  -- an empty journal
  module _ (short : length a.bytes ≤ 1) where
    empty : records a.bytes ≡ []
    empty = short_none a.bytes short

    short_there : (x : List ℕ) → length x ≤ 1 → P x
    short_there x h = (a.bytes, lawful.reads, short_none x h ∙ sym empty, λ n bad. absurd (let long = bad.long in omega arith))

    torn_short : (b : DiskState) → Synced b → (x y : List ℕ) → Image b x → Torn 0 1 x y → P y
    torn_short b s x y h torn = short_there y (omega (arith, torn.no_longer, ap length (s.only x h)))

    zero_written : (b : DiskState) → Synced b → written 0 (0 ∷ []) b.bytes ≡ 0 ∷ []
    zero_written b s = ap (λ (l : List ℕ). 0 ∷ l) (drop_all 1 b.bytes (omega (arith, ap length s.bytes)))

    pub shut_leaves : (b z : DiskState) (r : Result (Unit {0}) DiskErr) → Synced b → Shuts b z r → LeavesOnly a z P
    shut_leaves b z (Ok u) s w =
        let zero = zero_written b s in
        let put = w.1.content s.tells in
        let mid = write_done a P 0 (0 ∷ []) b w.0 s.leaves (torn_short b s) put in
        sync_done a P w.0 z mid (subst P (sym (put.bytes ∙ zero)) (short_there (0 ∷ []) (omega arith))) (w.2.content (w.1.passed.tells ∙ s.tells))
    shut_leaves b z (Err e) s (inl w) = write_failed a P 0 (0 ∷ []) b z e s.tells s.leaves (torn_short b s)
        (subst P (sym (zero_written b s)) (short_there (0 ∷ []) (omega arith))) w
    shut_leaves b z (Err e) s (inr w) =
        let put = w.1.content s.tells in
        let mid = write_done a P 0 (0 ∷ []) b w.0 s.leaves (torn_short b s) put in
        sync_failed a P w.0 z e (w.1.passed.tells ∙ s.tells) mid (subst P (sym (put.bytes ∙ zero_written b s)) (short_there (0 ∷ []) (omega arith))) w.2

    shut_images : (b z : DiskState) → Synced b → Shuts b z (Ok tt) → Holds (records a.bytes) 0 z
    shut_images b z s w x h =
        let put = w.1.content s.tells in
        let is : x ≡ 0 ∷ [] = image_settled w.0 z x (w.2.content (w.1.passed.tells ∙ s.tells)) h ∙ put.bytes ∙ zero_written b s in
        subst (λ (l : List (List ℕ)). Ends l 0 x) (sym empty) (subst (Ends [] 0) (sym is) shut_gate)

    pub shut_bytes : (b z : DiskState) → Synced b → Shuts b z (Ok tt) → z.bytes ≡ 0 ∷ []
    shut_bytes b z s w =
        let put = w.1.content s.tells in
        (w.2.content (w.1.passed.tells ∙ s.tells)).bytes ∙ put.bytes ∙ zero_written b s

    pub shut_holds : (b z : DiskState) → Synced b → Shuts b z (Ok tt) → HasList (records a.bytes) z 0
    shut_holds b z s w =
        let is = shut_bytes b z s w in
        let list : records z.bytes ≡ records a.bytes = ap records is ∙ short_none (0 ∷ []) (omega arith) ∙ sym empty in
        (subst (λ (l : List (List ℕ)). Holds l 0 z) (sym list) (shut_images b z s w), list)

-- what the disk is once its length is known
module _ (a b d z : DiskState) (telling : a.tells ≡ true) (lawful : Lawful a) (w : Syncs a b (Ok tt)) (same : d ≡ b) (len : ℕ) (is : len ≡ b.size) where
  pub known : Synced a telling lawful d
  known = subst (λ (s : DiskState). Synced a telling lawful s) (sym same) (synced a telling lawful b w)

  pub long : length d.bytes ≡ len
  long = ap length known.bytes ∙ lawful.size ∙ sym w.size ∙ sym is

  pub length_is : length a.bytes ≡ len
  length_is = lawful.size ∙ sym w.size ∙ sym is

  module _ (list : List (List ℕ)) (end : ℕ) (ends : Ends list end d.bytes) where
    ours : Ends list end a.bytes
    ours = subst (Ends list end) known.bytes ends

    pub list_read : list ≡ records a.bytes
    list_read = sym ours.list

    pub list_holds : z ≡ d → Holds (records a.bytes) end z
    list_holds left x h =
        let e : x ≡ a.bytes = known.only x (subst (λ (s : DiskState). Image s x) left h) in
        subst (Ends (records a.bytes) end) (sym e) (subst (λ (l : List (List ℕ)). Ends l end a.bytes) list_read ours)

    pub not_bad : (n : ℕ) → IsBadAt n a.bytes → ⊥
    not_bad n bad = ours.shut (subst (λ (k : ℕ). get_or a.bytes k 0 ≡ 1) (sym bad.place ∙ ours.place) bad.open_gate)

-- what reads and the shutting of a gate keep, whatever they answer
pub reading_later : {T : Type 0} → (a b : DiskState) (r : Result T OpenErr) → LooksTo a b r → Later a b
reading_later a b (Ok x) same = same_later a b same
reading_later a b (Err Disk) looks =
    let same = looks.0.same in record {
      faults = looks.0.later;
      tells = ap (λ (s : DiskState). s.tells) same;
      free = λ h g. (ap (λ (s : DiskState). s.armed) same ∙ h, ap (λ (s : DiskState). s.stopped) same ∙ g);
      stands = λ h. ap (λ (s : DiskState). s.stopped) same ∙ h;
    }
reading_later a b (Err Memory) same = same_later a b same
reading_later a b (Err (BadRecord at)) same = same_later a b same

pub shut_later : (a z : DiskState) (r : Result (Unit {0}) DiskErr) → Shuts a z r → Later a z
shut_later a z (Ok u) w = later_still a w.0 z (write_later 0 (0 ∷ []) a w.0 (Ok tt) w.1) (sync_later w.0 z (Ok tt) w.2)
shut_later a z (Err e) (inl w) = write_later 0 (0 ∷ []) a z (Err e) w
shut_later a z (Err e) (inr w) = later_still a w.0 z (write_later 0 (0 ∷ []) a w.0 (Ok tt) w.1) (sync_later w.0 z (Err e) w.2)

-- the opening up to its reads
pub sized_later : (a b d : DiskState) → Syncs a b (Ok tt) → d ≡ b → Later a d
sized_later a b d w same = later_still a b d (sync_later a b (Ok tt) w) (same_later b d same)

pub unsized_later : (a b z : DiskState) (e : DiskErr) → Syncs a b (Ok tt) → Looks {T = ℕ} b z (Err e) → Later a z
unsized_later a b z e w looks = later_still a b z (sync_later a b (Ok tt) w) (look_later {T = ℕ} b z (Err e) looks)

-- the bytes of an opened disk
pub read_bytes : (bytes new : List ℕ) (len : ℕ) → length bytes ≡ len → 1 < len → new ≡ bytes → new ≡ opened_bytes bytes
read_bytes bytes new len long some e = e ∙ ap (λ (b : Bool). cond b bytes (0 ∷ [])) (sym (lt-ltb 1 (length bytes) (omega (arith, long))))

pub blank_bytes : (bytes new : List ℕ) → length bytes ≤ 1 → new ≡ 0 ∷ [] → new ≡ opened_bytes bytes
blank_bytes bytes new short e = e ∙ ap (λ (b : Bool). cond b bytes (0 ∷ [])) (sym (le-ltb 1 (length bytes) short))
