-- A node at its place that stands for one of the definition, with its disk.
use Rattle.std.proofs.Common.{◌≡◌, ℕ, ◌+◌, Bool, true, false, List, [], ◌∷◌, refl, sym, ap, ◌∙◌, subst, arith, Option, Some, None}
use Rattle.std.specs.Prelude.{IfSome, is_some}
use Rattle.aeg_disk.specs.Disk.{DiskState}
use Rattle.fact_journal.proofs.Standing.{same_facts, same_stands}
use Rattle.fact_journal.specs.Fitting.{EachFits, all_facts, open_after_all}
use Rattle.fact_journal.specs.Standing.{HasFacts, StandsFor}
use Rattle.log_model.specs.Log.{LogState, open_at}
use Rattle.log_model.specs.Nodes.{Node}
use Rattle.log_model.specs.Nodes.Mode.{Down, Up}
use Rattle.log_values.specs.declared.any_value.AnyValue.{AnyValue}
use Rattle.log_values.specs.declared.fact.Fact.{Fact}
use Rattle.node_log.specs.Views.{MayWrite, is_up}
use Rattle.tier_nodes.proofs.Journals.{size_is}
use Rattle.tier_nodes.proofs.Stops.{armed_content, rest_content}
use Rattle.tier_nodes.specs.Arming.{armed_with, at_rest}
use Rattle.tier_nodes.specs.declared.arming.StopAt.{StopAt}
use Rattle.tier_nodes.specs.declared.condition.Condition.TheVariants as conditions
use Rattle.tier_nodes.specs.Seats.{condition_in, condition_of}
use Rattle.tier_nodes.specs.Standing.{AllWithin, IsDiskOf, IsDoubted, IsNodeOf, IsOpen, IsPlaced, IsReady, Seat, StandsOn, journal_of, mode_in, mode_of}

-- UP OR DOWN

-- what is up has a state, and is not gone
up_in : {S : Type 0} (gone : Bool) (up : Option S) (s : S) → mode_in gone up ≡ Up s → (gone ≡ false) × (up ≡ Some s)
up_in true up s e = absurd (cc)
up_in false (Some r) s e = let same : r ≡ s = cc in (refl, ap Some same)
up_in false None s e = absurd (cc)

pub up_seat : {S : Type 0} (seat : Seat S) (s : S) → mode_of seat ≡ Up s → (seat.gone ≡ false) × (seat.view.up ≡ Some s)
up_seat seat s e = up_in seat.gone seat.view.up s e

-- what is up there, by its condition
up_by : {S : Type 0} (gone : Bool) (up : Option S) → condition_in (mode_in gone up) ≡ conditions.Up → (s : S) × (mode_in gone up ≡ Up s)
up_by true up e = absurd (cc)
up_by false (Some s) e = (s, refl)
up_by false None e = absurd (cc)

pub is_up_at : {S : Type 0} (seat : Seat S) → condition_of seat ≡ conditions.Up → (s : S) × (mode_of seat ≡ Up s)
is_up_at seat e = up_by seat.gone seat.view.up e

down_by : {S : Type 0} (gone : Bool) (up : Option S) → condition_in (mode_in gone up) ≡ conditions.Down
    → (gone ≡ false) × (up ≡ None) × (mode_in gone up ≡ Down)
down_by true up e = absurd (cc)
down_by false (Some s) e = absurd (cc)
down_by false None e = (refl, refl, refl)

pub is_down_at : {S : Type 0} (seat : Seat S) → condition_of seat ≡ conditions.Down → (seat.gone ≡ false) × (seat.view.up ≡ None) × (mode_of seat ≡ Down)
is_down_at seat e = down_by seat.gone seat.view.up e

-- its node is up
pub seen_up : {S : Type 0} (seat : Seat S) → condition_of seat ≡ conditions.Up → is_up seat.view ≡ true
seen_up seat e = let s = is_up_at seat e in ap is_some (up_seat seat s.0 s.1).1

pub seen_down : {S : Type 0} (seat : Seat S) → condition_of seat ≡ conditions.Down → is_up seat.view ≡ false
seen_down seat e = ap is_some (is_down_at seat e).1

pub at_up : {S : Type 0} (P : S → Type 0) (up : Option S) (s : S) → up ≡ Some s → IfSome up P → P s
at_up P up s e h = subst (λ z. IfSome z P) e h

-- ITS RECORDS

module _ {S : Type 0} (log_in : S → LogState AnyValue) (node : Node S Fact) (seat : Seat S) (k : IsNodeOf log_in node seat) where
  pub up_placed : (s : S) → node.mode ≡ Up s → (seat.view.place + 1 ≡ journal_of node.records) × (seat.doubt ≡ false)
  up_placed s e = subst (λ m. IsPlaced m seat.view.place seat.doubt node.records) e k.placed

  pub sure_alone : seat.doubt ≡ false → node.others ≡ []
  sure_alone e = subst (λ b. IsDoubted b node.records node.others) e k.doubted

  pub up_open : (s : S) → node.mode ≡ Up s → open_at (log_in s) ≡ open_after_all 0 (all_facts node.records)
  up_open s e = subst (λ m. IsOpen log_in m node.records) e k.opened

  -- its disk has its records, and the gate at its place
  pub up_has : (disk : DiskState) (s : S) → IsDiskOf node disk → node.mode ≡ Up s → HasFacts node.records disk seat.view.place
  up_has disk s d e =
      let r : (at : ℕ) × HasFacts node.records disk at = subst (λ m. IsReady m node.records disk) e d.ready in
      let p : seat.view.place + 1 ≡ journal_of node.records = (up_placed s e).0 in
      let q : r.0 ≡ seat.view.place = omega (arith, p, r.1.long, size_is node.records) in
      subst (HasFacts node.records disk) q r.1

  pub armed_has : (disk : DiskState) (stop : Option StopAt) (s : S) → IsDiskOf node disk → node.mode ≡ Up s
      → HasFacts node.records (armed_with stop disk) seat.view.place
  armed_has disk stop s d e = same_facts node.records disk (armed_with stop disk) seat.view.place (up_has disk s d e) (armed_content stop disk)

-- what a call asks of the disk
pub may_write : {S : Type 0} (log_in : S → LogState AnyValue) (seat : Seat S) (disk : DiskState) (stop : Option StopAt) → StandsOn log_in seat disk
    → condition_of seat ≡ conditions.Up → MayWrite seat.view (armed_with stop disk)
may_write log_in seat disk stop k e tells =
    let s = is_up_at seat e in
    (k.0.records, armed_has log_in k.0 seat k.1 disk stop s.0 k.2 (k.1.mode ∙ s.1))

pub rest_stands : {S : Type 0} (node : Node S Fact) (disk : DiskState) → IsDiskOf node disk → StandsFor (node.records ∷ node.others) (at_rest disk)
rest_stands node disk d = same_stands (node.records ∷ node.others) disk (at_rest disk) d.lists (rest_content disk) refl

-- A NODE THAT WENT DOWN

-- it knows its place, or is in no doubt
pub down_node : {S : Type 0} (log_in : S → LogState AnyValue) (records : List (List Fact)) (others : List (List (List Fact))) (new : Seat S)
    → mode_of new ≡ Down → (new.doubt ≡ true → new.view.place + 1 ≡ journal_of records) → IsDoubted new.doubt records others
    → AllWithin (records ∷ others) → EachFits new.view.tier (records ∷ others)
    → IsNodeOf log_in (record { mode = Down; records = records; others = others }) new
down_node log_in records others new m p d l a = record { mode = sym m; placed = p; doubted = d; within = l; fits = a; opened = tt }

pub down_disk : {S : Type 0} (records : List (List Fact)) (others : List (List (List Fact))) (disk : DiskState) → StandsFor (records ∷ others) disk
    → IsDiskOf {S = S} (record { mode = Down; records = records; others = others }) (at_rest disk)
down_disk records others disk h = record {
  rest = (refl, refl);
  lists = same_stands (records ∷ others) disk (at_rest disk) h (rest_content disk) refl;
  ready = tt;
}

pub no_doubt : (doubt : Bool) (P : Type 0) → doubt ≡ false → doubt ≡ true → P
no_doubt doubt P e f = absurd (cc)
