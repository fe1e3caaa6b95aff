-- Which lists of records a disk stands for.
use Rattle.std.proofs.Common.{◌≡◌, ℕ, ◌+◌, ◌≤◌, List, [], ◌∷◌, length, get_or, true, refl, sym, ap, ◌∙◌, subst, arith}
use Rattle.aeg_disk.specs.Disk.{DiskState, Image, IsImage, Later, Blank, SameContent}
use Rattle.aeg_disk.proofs.Images.{image_same}
use Rattle.node_journal.specs.Journal.{records, size_of, Ends}
use Rattle.node_journal.specs.Append.{Holds, HasList, IsReady, LeavesOnly}
use Rattle.node_journal.specs.Opening.{WasThere}
use Rattle.node_journal.proofs.Opens.{short_none}
use Rattle.log_values.specs.declared.fact.Fact.{Fact}
use Rattle.fact_journal.specs.Standing.{texts, HasFacts, IsOneOf, IsSound, IsJournalOf, StandsFor, IsBlank}

-- a shut gate ends the records, so none is bad
pub ended_sound : (bodies : List (List ℕ)) (at : ℕ) (c : List ℕ) → Ends bodies at c → IsSound c
ended_sound bodies at c e n bad = e.shut (subst (λ (k : ℕ). get_or c k 0 ≡ 1) (sym bad.place ∙ e.place) bad.open_gate)

pub the_one : (bodies : List (List ℕ)) (rs : List (List Fact)) → bodies ≡ texts rs → IsOneOf bodies (rs ∷ [])
the_one bodies rs e = (0, rs, refl, e)

-- a disk with these records stands for them alone
pub stands_alone : (rs : List (List Fact)) (s : DiskState) (at : ℕ) → s.tells ≡ true → Holds (texts rs) at s → StandsFor (rs ∷ []) s
stands_alone rs s at t h = record {
  tells = t;
  images = λ c i. the_one (records c) rs (h c i).list;
  sound = λ c i. ended_sound (texts rs) at c (h c i);
}

pub having_stands : (rs : List (List Fact)) (s : DiskState) (at : ℕ) → s.tells ≡ true → HasFacts rs s at → StandsFor (rs ∷ []) s
having_stands rs s at t h = stands_alone rs s at t h.images

-- nothing was done to it
pub untouched : (rs : List (List Fact)) (a b : DiskState) (at : ℕ) → b ≡ a → HasFacts rs a at → LeavesOnly a b (IsJournalOf (rs ∷ rs ∷ []))
untouched rs a b at e h = subst (λ (s : DiskState). LeavesOnly a s (IsJournalOf (rs ∷ rs ∷ []))) (sym e) (record {
  since = ([], refl, tt);
  here = λ c i. ((0, rs, refl, (h.images c i).list), ended_sound (texts rs) at c (h.images c i));
})

-- what was opened or appended
pub from_list : (rs : List (List Fact)) (s : DiskState) (at : ℕ) → HasList (texts rs) s at → at + 1 ≡ size_of (texts rs) → HasFacts rs s at
from_list rs s at h long = record { images = subst (λ (l : List (List ℕ)). Holds l at s) h.1 h.0; read = h.1; long = long }

pub to_ready : (rs : List (List Fact)) (s : DiskState) (at : ℕ) → HasFacts rs s at → IsReady s at
to_ready rs s at h = subst (λ (l : List (List ℕ)). Holds l at s) (sym h.read) h.images

-- a disk with the same content
pub same_stands : (lists : List (List (List Fact))) (a b : DiskState) → StandsFor lists a → SameContent a b → b.tells ≡ a.tells → StandsFor lists b
same_stands lists a b h same tells = record {
  tells = tells ∙ h.tells;
  images = λ c i. h.images c (image_same a b c same i);
  sound = λ c i. h.sound c (image_same a b c same i);
}

pub same_facts : (rs : List (List Fact)) (a b : DiskState) (at : ℕ) → HasFacts rs a at → SameContent a b → HasFacts rs b at
same_facts rs a b at h same = record { images = λ c i. h.images c (image_same a b c same i); read = ap records same.bytes ∙ h.read; long = h.long }

-- what a crash at any moment of an opening leaves
pub still_stands : (lists : List (List (List Fact))) (a b : DiskState) → StandsFor lists a → LeavesOnly a b (WasThere a) → Later a b → StandsFor lists b
still_stands lists a b h left later = record {
  tells = later.tells ∙ h.tells;
  images = λ c i. let w = left.here c i in subst (λ (l : List (List ℕ)). IsOneOf l lists) (sym w.2) (h.images w.0 w.1);
  sound = λ c i n bad. let w = left.here c i in let m = w.3 n bad in h.sound w.0 w.1 m.0 m.1;
}

-- ---- a blank disk

blank_image : (s : DiskState) → IsBlank s → (c : List ℕ) → Image s c → c ≡ []
blank_image s b c i = subst (λ (r : List (ℕ × ℕ)). IsImage s.kept r c) b.ranges i ∙ b.kept

short_sound : (c : List ℕ) → length c ≤ 1 → IsSound c
short_sound c short n bad = let long = bad.long in absurd (omega arith)

pub blank_stands : (s : DiskState) → IsBlank s → StandsFor ([] ∷ []) s
blank_stands s b = record {
  tells = b.tells;
  images = λ c i. the_one (records c) [] (short_none c (omega (arith, ap length (blank_image s b c i))));
  sound = λ c i. short_sound c (omega (arith, ap length (blank_image s b c i)));
}

pub erased_stands : (a b : DiskState) → Blank a b → a.tells ≡ true → StandsFor ([] ∷ []) b
erased_stands a b e t = blank_stands b (record { tells = e.tells ∙ t; kept = e.kept t; ranges = e.ranges t })
