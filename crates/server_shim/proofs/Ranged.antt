-- What a backend replica keeps stays in range, and what it offers and tells has a spelling.
use Rattle.std.proofs.Common.{◌≡◌, ℕ, ◌+◌, ◌-◌, ◌*◌, ◌<◌, ◌^◌, List, [], ◌∷◌, length, refl, ◌∙◌, arith, Option, Some, None, zero, suc}
use Rattle.std.specs.Prelude.{nat_lt, IfSome}
use Rattle.std.specs.List.{AllByRecursion}
use Rattle.std.proofs.lemmas.Bool.{cond_both, ltb-true}
use Rattle.std.proofs.lemmas.List.{length-set}
use Rattle.log_model.proofs.Basics.{Every}
use Rattle.log_values.specs.Fields.{IsCallNumber, IsFloor, IsText}
use Rattle.round_model.specs.Lists.{and_then, lowest}
use Rattle.round_model.specs.Numbered.{find, first, picked, picked_as}
use Rattle.round_model.specs.Shims.{ShimState, new_shim, copy_of, copies_or_none, copies_at, with_copy, notes, agreed, ready, is_backed, serves}
use Rattle.round_model.specs.Shims.{settles, floor_at, rises_to, told_floor, is_more, due_among, due, due_floor, highest}
use Rattle.server_shim.specs.Ranges.{IsCode, IsCall, AreTexts, AreCopies, IsFloorIn, IsShimIn}
use Rattle.server_shim.proofs.Lists.{drop_in, set_in, index_in, replicate_in, put_in, without_in, from_in, find_in}

-- WHAT IS KEPT

pub serves_in : (u : ℕ) (s : ShimState) (n code : ℕ) → IsShimIn u s → IsCode (n, code) → IsShimIn u (serves s n code)
serves_in u s n code k c =
    record {
      faults = k.faults;
      kept = put_in IsCode s.kept n code k.kept c;
      floor = k.floor;
      copies = without_in AreCopies s.copies n k.copies;
      places = k.places;
      floors = k.floors;
    }

pub settles_in : (u : ℕ) (s : ShimState) (g : ℕ) → IsShimIn u s → IsFloorIn g → IsShimIn u (settles s g)
settles_in u s g k f = cond_both (nat_lt s.floor g) _ _ (IsShimIn u)
    (λ e. record {
      faults = k.faults;
      kept = from_in IsCode s.kept g k.kept;
      floor = f;
      copies = from_in AreCopies s.copies g k.copies;
      places = k.places;
      floors = k.floors;
    }) (λ e. k)

-- the copies of a call
AreRow : List (Option (List ℕ)) → Type 0
AreRow row = (length row ≡ 5) × AreTexts row

row_in : (u : ℕ) (s : ShimState) (n : ℕ) → IsShimIn u s → AreRow (copies_at s n)
unfolding AreRow
row_in u s n k = go (find s.copies n) (find_in AreCopies AreRow s.copies n (λ m row e. e.1) k.copies)
  where
    go : (o : Option (List (Option (List ℕ)))) → IfSome o AreRow → AreRow (copies_or_none o)
    go None f = (refl, replicate_in (λ copy. IfSome copy IsText) 5 None tt)
    go (Some row) f = f

pub notes_in : (u : ℕ) (s : ShimState) (y n : ℕ) (text : List ℕ) → IsShimIn u s → IsCallNumber n → IsText text → IsShimIn u (notes s y n text)
unfolding AreRow
notes_in u s y n text k c f = record {
  faults = k.faults;
  kept = k.kept;
  floor = k.floor;
  copies = put_in AreCopies s.copies n (with_copy (copies_at s n) y text) k.copies
      (let r = row_in u s n k in (
        c,
        (
          length-set (copies_at s n) y (Some text) ∙ r.0,
          set_in (λ copy. IfSome copy IsText) (copies_at s n) y
              (Some text) r.1 f,
        ),
      ));
  places = k.places;
  floors = k.floors;
}

pub told_in : (u : ℕ) (s : ShimState) (y g : ℕ) → IsShimIn u s → IsFloorIn g → IsShimIn u (told_floor s y g)
told_in u s y g k f = cond_both (rises_to s y g) _ _ (IsShimIn u)
    (λ e. record {
      faults = k.faults;
      kept = k.kept;
      floor = k.floor;
      copies = k.copies;
      places = length-set s.floors y g
          ∙ k.places;
      floors = set_in IsFloorIn s.floors y g k.floors f;
    }) (λ e. k)

one_floor : IsFloorIn 1
one_floor = (omega arith, omega arith)

pub new_in : (u : ℕ) → IsShimIn u (new_shim u)
new_in u = record { faults = refl; kept = tt; floor = one_floor; copies = tt; places = refl; floors = replicate_in IsFloorIn 5 1 one_floor }

-- WHAT IS OFFERED AND TOLD

-- the text of a ready call
agreed_in : (u : ℕ) (row : List (Option (List ℕ))) → AreTexts row → IfSome (agreed u row) IsText
agreed_in u row k = go (lowest (2 * u + 1) (λ y. is_backed u row (copy_of row y)))
  where
    go : (o : Option ℕ) → IfSome (and_then o (copy_of row)) IsText
    go None = tt
    go (Some y) = index_in (λ copy. IfSome copy IsText) row y k tt

first_in : (u : ℕ) (es : List (ℕ × List (Option (List ℕ)))) → Every AreCopies es → IfSome (first (picked (agreed u) es)) IsCall
first_in u [] k = tt
first_in u (e ∷ es) k = go (agreed u e.1) (agreed_in u e.1 k.0.1.1) (first_in u es k.1)
  where
    go : (o : Option (List ℕ)) → IfSome o IsText → IfSome (first (picked (agreed u) es)) IsCall
        → IfSome (first (picked_as e.0 o (picked (agreed u) es))) IsCall
    go None f rest = rest
    go (Some text) f rest = (k.0.0, f)

-- a floor that was told
floor_in : (floors : List ℕ) (y : ℕ) → Every IsFloorIn floors → floor_at floors y < 2 ^ 32
floor_in [] y k = omega arith
floor_in (g ∷ gs) zero k = k.0.1
floor_in (g ∷ gs) (suc y) k = floor_in gs y k.1

due_in : (u : ℕ) (floors : List ℕ) (n : ℕ) → Every IsFloorIn floors → due_among u floors n < 2 ^ 32
due_in u floors zero k = omega arith
due_in u floors (suc y) k = cond_both (is_more u floors (due_among u floors y) (floor_at floors y)) _ _ (λ z. z < 2 ^ 32) (λ e. floor_in floors y k)
    (λ e. due_in u floors y k)

pub settled_in : (u : ℕ) (s : ShimState) → IsShimIn u s → IfSome (due_floor s) IsFloor
settled_in u s k = cond_both (nat_lt s.floor (due s.faults s.floors)) _ _ (λ o. IfSome o IsFloor)
    (λ e. let above : s.floor < due s.faults s.floors = ltb-true s.floor (due s.faults s.floors) e in
    (omega (arith, above, k.floor.0), due_in s.faults s.floors (2 * s.faults + 1) k.floors)) (λ e. tt)

pub ready_in : (u : ℕ) (s : ShimState) → IsShimIn u s → IfSome (ready s) IsCall
ready_in u s k = first_in s.faults s.copies k.copies

pub highest_in : (u : ℕ) (s : ShimState) → IsShimIn u s → AllByRecursion IsCode (highest s)
highest_in u s k = drop_in IsCode (length s.kept - 16) s.kept k.kept
