-- A call at a node, as its steps make it; and what it asks.
use Rattle.std.proofs.Common.{◌≡◌, ℕ, ◌+◌, ◌*◌, ◌<◌, ◌≤◌, Bool, true, false, List, [], ◌∷◌, refl, sym, ap, ◌∙◌, subst}
use Rattle.std.proofs.Common.{length, arith, slice_index_or, Option, Some, zero, suc}
use Rattle.world.proofs.Votes.PassedTests.{passes}
use Rattle.std.proofs.lemmas.Option.{slice_get_within}
use Rattle.std.specs.Prelude.{slice_get, slice_set, map}
use Rattle.std.proofs.lemmas.List.{length-map, length-set}
use Rattle.std.specs.declared.result.Result.{Result}
use Rattle.aeg_base.specs.declared.names.Tier.{Tier}
use Rattle.aeg_base.specs.declared.names.Tier.TheVariants as tiers
use Rattle.aeg_base.specs.declared.names.NodeId.{NodeId}
use Rattle.aeg_base.specs.declared.names.End.{End}
use Rattle.aeg_disk.specs.Disk.{DiskState}
use Rattle.fact_journal.proofs.Standing.{same_facts}
use Rattle.log_model.specs.Nodes.{Node as NodeOf}
use Rattle.log_values.specs.declared.fact.Fact.{Fact}
use Rattle.tier_model.specs.declared.turn.Turn.{Turn as Answer}
use Rattle.tier_model.specs.declared.turn.Fault.{Fault}
use Rattle.run_model.specs.BookingRuns.{BookingWorld}
use Rattle.world.specs.declared.nodes.all_nodes.Nodes.{Nodes}
use Rattle.world.specs.declared.parts.arming.StopAt.{StopAt}
use Rattle.world.specs.Arming.{armed_with, at_rest}
use Rattle.world.specs.Calling.{Called, IsSureIf}
use Rattle.world.specs.Disks.{IsDiskOf, AreDisks, first_of}
use Rattle.world.specs.Parts.{NodePart, MayWrite, is_up}
use Rattle.world.specs.NodeLists.{views, view_up, up_in, size_of, RowOf, MoveIn, NodesMove, MayWriteIn}
use Rattle.world.specs.Standing.{IsNode, AreNodes}
use Rattle.world.proofs.Calls.OfOneTier.{up_is, may_write_in}
use Rattle.world.proofs.Calls.InWorlds.{up_has, armed_content}
use Rattle.world.proofs.Calls.OnDisks.{up_state}
use Rattle.log_model.proofs.Basics.{get_within}

-- the disk was armed first, and then the power was put back
pub called_by : (old between new : Nodes) (n : NodeId) (stop : Option StopAt) (disk armed called disk_after : DiskState)
    (before after : List (End × List ℕ)) (row : RowOf) (answer : Result Answer Fault) (met : Bool)
    → armed ≡ armed_with stop disk → NodesMove old between n armed called before after row answer → met ≡ called.stopped
    → disk_after ≡ at_rest called → IsSureIf met between new n.tier n.index
    → Called old new n.tier n.index stop disk disk_after before after row answer met
called_by old between new n stop disk armed called disk_after before after row answer met a m e r s = record {
  between = between;
  called = called;
  moves = subst (λ z. MoveIn old between n.tier n.index z called before after row answer) a m;
  stopped = e;
  rests = r;
  sure = s;
}

-- WHERE A NODE'S DISK IS

disk_at : {A : Type 0} (state : A → DiskState) (disks : List A) (x : ℕ) (d : A) → x < length disks
    → slice_get (map state disks) x ≡ Some (state (slice_index_or disks x d))
disk_at state [] x d l = absurd (omega arith)
disk_at state (b ∷ disks) zero d l = refl
disk_at state (b ∷ disks) (suc x) d l = disk_at state disks x d (omega arith)

-- the one that is read there, and all with it written back
pub disk_read : {A : Type 0} (state : A → DiskState) (disks : List A) (x p : ℕ) (d : A) → p ≡ x → p < 15
    → length (map state disks) ≡ 15 → slice_get (map state disks) x ≡ Some (state (slice_index_or disks p d))
disk_read state disks x p d e l all = subst (λ z. slice_get (map state disks) z
    ≡ Some (state (slice_index_or disks p d))) e (disk_at state disks p d (omega (arith, l, all, length-map disks state)))

disks_set : {A : Type 0} (state : A → DiskState) (disks : List A) (x : ℕ) (d : A) → map state (slice_set disks x d) ≡ slice_set (map state disks) x (state d)
disks_set state [] x d = refl
disks_set state (b ∷ disks) zero d = refl
disks_set state (b ∷ disks) (suc x) d = ap (λ z. state b ∷ z) (disks_set state disks x d)

pub disks_left : {A : Type 0} (state : A → DiskState) (disks : List A) (x p : ℕ) (d : A) → p ≡ x
    → map state (slice_set disks p d) ≡ slice_set (map state disks) x (state d)
disks_left state disks x p d e = disks_set state disks p d ∙ ap (λ z. slice_set (map state disks) z (state d)) e

-- WHAT A CALL ASKS OF THE DISK

may_write : {S T : Type 0} (t : Tier) (whole : S → T) (open_of : S → ℕ) (node : NodeOf T Fact) (part : NodePart S)
    (disk : DiskState) (stop : Option StopAt) → IsNode t whole open_of node part → IsDiskOf node disk
    → is_up part ≡ true → MayWrite part (armed_with stop disk)
may_write t whole open_of node part disk stop k d e tells =
    let s = up_state part e in (
      node.records,
      same_facts node.records disk (armed_with stop disk) part.place
          (up_has t whole open_of node part disk s.0 k d s.1) (armed_content stop disk).0,
    )

pub may_write_at : (u depth : ℕ) (w : BookingWorld) (nodes : Nodes) (t : Tier) (x : ℕ) (disks : List DiskState) (disk : DiskState) (stop : Option StopAt)
    → u ≤ 2 → AreNodes u depth w nodes → AreDisks w disks → x < 2 * u + 1 → slice_get disks (first_of t + x) ≡ Some disk → up_in nodes t x ≡ true
    → MayWriteIn nodes t x (armed_with stop disk)
may_write_at u depth w nodes t x disks disk stop few k d l e up =
    let on = d.at t x disk (omega (arith, few, l)) e in
    may_write_in nodes t x (armed_with stop disk) (λ v f. may_write _ _ _ (w.nodes t x) v.part disk stop ((k.at t).each x v f).part on
    (sym (ap view_up f) ∙ sym (up_is nodes t x) ∙ up))

-- a disk for each node
pub disk_of : (w : BookingWorld) (u x : ℕ) (t : Tier) (disks : List DiskState) → u ≤ 2 → AreDisks w disks
    → x < 2 * u + 1 → (disk : DiskState) × (slice_get disks (first_of t + x) ≡ Some disk)
disk_of w u x tiers.Mid disks few d l = get_within disks (0 + x) (omega (arith, d.all, few, l))
disk_of w u x tiers.Inv disks few d l = get_within disks (5 + x) (omega (arith, d.all, few, l))
disk_of w u x tiers.Pay disks few d l = get_within disks (10 + x) (omega (arith, d.all, few, l))

-- some disk
pub a_disk : DiskState
a_disk = record { tells = false; bytes = []; kept = []; ranges = []; past = []; size = 0; faults = 0; stopped = false; armed = 0; keep = false }

-- THE NODE STAYS ONE OF ITS TIER

pub move_has : (old new : Nodes) (t : Tier) (x : ℕ) (a b : DiskState) (before after : List (End × List ℕ)) (row : RowOf) (result : Result Answer Fault)
    → up_in old t x ≡ true → MoveIn old new t x a b before after row result → x < size_of new t
move_has old new t x a b before after row result up k =
    let v = passes view_up (slice_get (views old t) x) refl (sym (up_is old t x) ∙ up) in
    let r = k.0 v.0 v.1 in
    let n : length (views new t) ≡ length (views old t) = ap length r.1 ∙ length-set (views old t) x r.0 in
    subst (λ z. x < z) (size_is new t) (omega (arith, slice_get_within (views old t) x v.0 v.1, n))
  where
    size_is : (nodes : Nodes) (t : Tier) → length (views nodes t) ≡ size_of nodes t
    size_is nodes tiers.Mid = refl
    size_is nodes tiers.Inv = refl
    size_is nodes tiers.Pay = refl
