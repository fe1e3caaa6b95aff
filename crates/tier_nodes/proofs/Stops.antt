-- Disks that are armed, stopped and put back under power, and how an event fares on them.
use Rattle.std.proofs.Common.{◌≡◌, ℕ, ◌≤◌, Bool, true, false, cond, List, [], ◌∷◌, refl, ap, ◌∙◌, subst, arith}
use Rattle.std.proofs.Common.{Option, Some, None}
use Rattle.std.specs.Prelude.{nat_lt, nat_le, ◌&&◌}
use Rattle.std.proofs.lemmas.Bool.{cond-true, cond-false, cond_both, le-leb, leb-false, leb-true, ltb-false, ltb-true}
use Rattle.aeg_disk.specs.Disk.{DiskState, Later, SameContent}
use Rattle.fact_journal.specs.Calls.{is_past}
use Rattle.log_model.specs.Nodes.{Node, failed, is_well, recorded, stands, writes}
use Rattle.log_model.specs.Nodes.Mode.{Down}
use Rattle.log_model.specs.Nodes.Device.{CutDrop, CutKeep}
use Rattle.log_values.specs.declared.fact.Fact.{Fact}
use Rattle.node_journal.specs.Append.{is_kept}
use Rattle.run_model.specs.declared.trace.Fared.{Fared}
use Rattle.run_model.specs.declared.trace.Fared.TheVariants.{Cut}
use Rattle.run_model.specs.World.{can_fare, device_of}
use Rattle.tier_nodes.specs.Arming.{CanStop, armed_with, asked_of, at_rest, fate_of, is_fault}
use Rattle.tier_nodes.specs.declared.arming.StopAt.{StopAt}
use Rattle.tier_nodes.specs.Standing.{journal_of}

-- DISKS

pub armed_content : (stop : Option StopAt) (disk : DiskState) → SameContent disk (armed_with stop disk)
armed_content None disk = record { bytes = refl; kept = refl; ranges = refl; past = refl }
armed_content (Some s) disk = record { bytes = refl; kept = refl; ranges = refl; past = refl }

pub armed_tells : (stop : Option StopAt) (disk : DiskState) → (armed_with stop disk).tells ≡ disk.tells
armed_tells None disk = refl
armed_tells (Some s) disk = refl

pub armed_stopped : (stop : Option StopAt) (disk : DiskState) → (armed_with stop disk).stopped ≡ disk.stopped
armed_stopped None disk = refl
armed_stopped (Some s) disk = refl

pub armed_faults : (stop : Option StopAt) (disk : DiskState) → (armed_with stop disk).faults ≡ disk.faults
armed_faults None disk = refl
armed_faults (Some s) disk = refl

pub rest_content : (disk : DiskState) → SameContent disk (at_rest disk)
rest_content disk = record { bytes = refl; kept = refl; ranges = refl; past = refl }

few_armed : (stop : Option StopAt) (disk : DiskState) → CanStop stop → disk.armed ≡ 0 → (armed_with stop disk).armed ≤ 4
few_armed None disk k e = omega (arith, e)
few_armed (Some s) disk k e = k.1

-- where nothing was written, or no stop was armed as the facts were written, none was met
pub unmet : (stop : Option StopAt) (disk called : DiskState) (facts : List Fact) → CanStop stop → disk.armed ≡ 0 → disk.stopped ≡ false
    → (writes facts ≡ true → (armed_with stop disk).armed ≤ 4 → (armed_with stop disk).armed ≡ 0)
    → (writes facts ≡ false → called ≡ armed_with stop disk) → Later (armed_with stop disk) called → called.stopped ≡ false
unmet stop disk called facts k quiet still h same later = go (writes facts) refl
  where
    go : (b : Bool) → writes facts ≡ b → called.stopped ≡ false
    go true e = (later.free (h e (few_armed stop disk k quiet)) (armed_stopped stop disk ∙ still)).1
    go false e = ap (λ (d : DiskState). d.stopped) (same e) ∙ armed_stopped stop disk ∙ still

-- HOW AN EVENT FARES

pub asked_can : (stop : Option StopAt) → CanStop stop → can_fare (asked_of stop) ≡ true
asked_can None k = refl
asked_can (Some s) k =
    let a : nat_le 1 s.nth ≡ true = le-leb 1 s.nth k.0 in
    let b : nat_le s.nth 4 ≡ true = le-leb s.nth 4 k.1 in
    rw (a, b) refl

asked_no_fault : (stop : Option StopAt) → is_fault (asked_of stop) ≡ false
asked_no_fault None = refl
asked_no_fault (Some s) = refl

pub no_cause : (stop : Option StopAt) (P : Type 0) → is_fault (asked_of stop) ≡ true → P
no_cause stop P e = absurd (let f : is_fault (asked_of stop) ≡ false = asked_no_fault stop in cc)

-- WHAT THE DEVICE DOES

pub fate_is : (fared : Fared) (records : List (List Fact)) (facts : List Fact) → is_past (journal_of records) facts ≡ false
    → fate_of fared records facts ≡ device_of fared
fate_is fared records facts e = cond-false (is_past (journal_of records) facts) CutDrop (device_of fared) e

pub fate_full : (fared : Fared) (records : List (List Fact)) (facts : List Fact) → is_past (journal_of records) facts ≡ true
    → fate_of fared records facts ≡ CutDrop
fate_full fared records facts e = cond-true (is_past (journal_of records) facts) CutDrop (device_of fared) e

-- a stop that facts were written under was none
pub asked_well : (stop : Option StopAt) (disk : DiskState) (facts : List Fact) → CanStop stop
    → (writes facts ≡ true → (armed_with stop disk).armed ≤ 4 → (armed_with stop disk).armed ≡ 0) → is_well (device_of (asked_of stop)) facts ≡ true
asked_well None disk facts k h = refl
asked_well (Some s) disk [] k h = cond_both (s.keep && nat_le 3 s.nth) CutKeep CutDrop (λ d. is_well {F = Fact} d [] ≡ true) (λ e. refl) (λ e. refl)
asked_well (Some s) disk (f ∷ fs) k h = absurd (let none : s.nth ≡ 0 = h refl k.1 in omega (arith, none, k.0))

pub drop_ill : (facts : List Fact) → writes facts ≡ true → is_well CutDrop facts ≡ false
drop_ill [] e = absurd (cc)
drop_ill (f ∷ fs) e = refl

keep_ill : (facts : List Fact) → writes facts ≡ true → is_well CutKeep facts ≡ false
keep_ill [] e = absurd (cc)
keep_ill (f ∷ fs) e = refl

pub cut_ill : (nth : ℕ) (keep : Bool) (facts : List Fact) → writes facts ≡ true → is_well (device_of (Cut nth keep)) facts ≡ false
cut_ill nth keep facts w = cond_both (keep && nat_le 3 nth) CutKeep CutDrop (λ d. is_well d facts ≡ false) (λ e. keep_ill facts w) (λ e. drop_ill facts w)

kept_is : (nth : ℕ) (keep : Bool) → (keep && nat_le 3 nth) ≡ is_kept nth keep
kept_is nth keep = go keep (nat_le 3 nth) (nat_lt 2 nth) refl refl
  where
    go : (k a b : Bool) → nat_le 3 nth ≡ a → nat_lt 2 nth ≡ b → (k && a) ≡ (b && k)
    go false true true e f = refl
    go false true false e f = refl
    go false false true e f = refl
    go false false false e f = refl
    go true true true e f = refl
    go true false false e f = refl
    go true true false e f = absurd (omega (arith, leb-true 3 nth e, ltb-false 2 nth f))
    go true false true e f = absurd (omega (arith, leb-false 3 nth e, ltb-true 2 nth f))

-- what a cut leaves of a node
pub cut_failed : {S : Type 0} (node : Node S Fact) (facts : List Fact) (nth : ℕ) (keep : Bool)
    → failed node facts (device_of (Cut nth keep)) ≡ stands Down (cond (is_kept nth keep) (recorded node.records facts) node.records)
cut_failed {S} node facts nth keep = subst (λ b. failed node facts (device_of (Cut nth keep))
    ≡ stands Down (cond b (recorded node.records facts) node.records)) (kept_is nth keep) (by (keep && nat_le 3 nth))
  where
    by : (b : Bool) → failed node facts (cond b CutKeep CutDrop) ≡ stands Down (cond b (recorded node.records facts) node.records)
    by true = refl
    by false = refl
