-- A call at a node is the node's event in the world, on the node's disk.
use Rattle.std.proofs.Common.{◌≡◌, ℕ, ◌+◌, ◌*◌, ◌<◌, Bool, true, false, List, [], ◌∷◌, refl, sym, ap, ◌∙◌, subst, inl}
use Rattle.std.proofs.Common.{inr, arith, Option, Some, None, Result, zero, suc}
use Rattle.world.proofs.Votes.PassedTests.{passes}
use Rattle.std.specs.Prelude.{slice_get, slice_set, map, ◌==◌, ◌⊎◌}
use Rattle.std.proofs.lemmas.Bool.{cond-true, cond-false, eq-eqb, ne_eqb}
use Rattle.std.proofs.lemmas.List.{length-set}
use Rattle.std.proofs.lemmas.Result.{on_ok_weaker}
use Rattle.aeg_base.specs.declared.names.Tier.{Tier}
use Rattle.aeg_base.specs.declared.names.Tier.TheVariants.{Mid, Inv, Pay}
use Rattle.aeg_base.specs.declared.names.End.{End}
use Rattle.aeg_disk.specs.Disk.{DiskState}
use Rattle.fact_journal.specs.Calls.{is_past}
use Rattle.server_model.specs.Backends.{Amounts}
use Rattle.log_model.specs.Log.{open_at}
use Rattle.log_model.specs.Nodes.{Mode, Node as NodeOf, put, is_well}
use Rattle.log_model.specs.Nodes.Mode.{Up, Down, Gone}
use Rattle.log_values.specs.declared.fact.Fact.{Fact}
use Rattle.tier_model.specs.declared.turn.Turn.{Turn as Answer}
use Rattle.tier_model.specs.declared.turn.Fault.{Fault}
use Rattle.tier_model.specs.Moves.{Move}
use Rattle.tier_model.specs.Kinds.{State}
use Rattle.run_model.specs.declared.trace.Fared.{Fared}
use Rattle.run_model.specs.declared.trace.Fared.TheVariants.{Fine}
use Rattle.run_model.specs.World.{Fate, fate, unwritten, kind_at}
use Rattle.run_model.specs.BookingRuns.{config}
use Rattle.world.specs.declared.nodes.all_nodes.Nodes.{Nodes}
use Rattle.world.specs.declared.parts.arming.StopAt.{StopAt}
use Rattle.world.specs.Arming.{CanStop, asked_of, armed_with, fared_by, at_rest}
use Rattle.world.specs.Calling.{IsSureIf, Called}
use Rattle.world.specs.Disks.{IsDiskOf, AreDisksOf}
use Rattle.run_model.specs.Resolving as resolving
use Rattle.world.specs.Parts.{NodePart, View, PartOf, Shape, shape, mid_shape, back_shape, open_in, Moves, IsSameView}
use Rattle.world.specs.Parts.{is_up, is_sure_now, view_with, sealed, AreFit, AllReach}
use Rattle.world.specs.NodeLists.{depth_at, views, view_up, RowOf, ListMoves, KeepsElse}
use Rattle.world.specs.Telling.{HadMemory}
use Rattle.world.specs.Standing.{mode_by, journal_of, state_at, IsNode, IsAt, AreAll}
use Rattle.world.proofs.Calls.OfOneTier.{keeps_then, keeps_sure, changed}
use Rattle.world.proofs.Calls.InWorlds.{CameOut, Came, Call, Faring, moved_by, sent_by, sure_if}
use Rattle.world.proofs.Calls.ByAnswer.{came, came_quiet}

-- ONE OF ALL

get_set : {A : Type 0} (xs : List A) (x y : ℕ) (a v : A) → slice_get (slice_set xs x a) y ≡ Some v → ((y ≡ x) × (a ≡ v))
    ⊎ (((y ≡ x) → ⊥) × (slice_get xs y ≡ Some v))
get_set [] x y a v e = absurd (cc)
get_set (b ∷ xs) zero zero a v e = inl (refl, cc)
get_set (b ∷ xs) zero (suc y) a v e = inr ((λ f. absurd (omega arith)), e)
get_set (b ∷ xs) (suc x) zero a v e = inr ((λ f. absurd (omega arith)), e)
get_set {A} (b ∷ xs) (suc x) (suc y) a v e = go (get_set xs x y a v e)
  where
    go : ((y ≡ x) × (a ≡ v)) ⊎ (((y ≡ x) → ⊥) × (slice_get xs y ≡ Some v)) → ((suc y ≡ suc x) × (a ≡ v)) ⊎ (((suc y ≡ suc x) → ⊥) × (slice_get xs y ≡ Some v))
    go (inl f) = inl (ap suc f.0, f.1)
    go (inr f) = inr ((λ g. f.0 (omega arith)), f.1)

pub get_here : {A : Type 0} (xs : List A) (x : ℕ) (a b : A) → slice_get xs x ≡ Some a → slice_get (slice_set xs x b) x ≡ Some b
get_here [] x a b e = absurd (cc)
get_here (y ∷ xs) zero a b e = refl
get_here (y ∷ xs) (suc x) a b e = get_here xs x a b e

set_again : {A : Type 0} (xs : List A) (x : ℕ) (a b : A) → slice_set (slice_set xs x a) x b ≡ slice_set xs x b
set_again [] x a b = refl
set_again (y ∷ xs) zero a b = refl
set_again (y ∷ xs) (suc x) a b = ap (λ z. y ∷ z) (set_again xs x a b)

-- one of them is another now
pub set_one : {N V : Type 0} (n : ℕ) (Is : ℕ → N → V → Type 0) (nodes : ℕ → N) (vs : List V) (x : ℕ) (node : N) (v : V)
    → AreAll n Is nodes vs → Is x node v → AreAll n Is (put nodes x node) (slice_set vs x v)
set_one {N} {V} n Is nodes vs x node v k h = record { size = length-set vs x v ∙ k.size; each = λ y u e. at y u (get_set vs x y v u e) }
  where
    at : (y : ℕ) (u : V) → ((y ≡ x) × (v ≡ u)) ⊎ (((y ≡ x) → ⊥) × (slice_get vs y ≡ Some u)) → Is y (put nodes x node y) u
    at y u (inl e) = subst (λ z. Is y z u) (sym (cond-true (y == x) node (nodes y) (eq-eqb y x e.0)))
        (subst (λ z. Is z node u) (sym e.0) (subst (λ z. Is x node z) e.1 h))
    at y u (inr e) = subst (λ z. Is y z u) (sym (cond-false (y == x) node (nodes y) (ne_eqb y x e.0))) (k.each y u e.1)

-- and so is its disk
pub set_disk : {S : Type 0} (nodes : ℕ → NodeOf S Fact) (first x : ℕ) (node : NodeOf S Fact) (disks : List DiskState)
    (disk : DiskState) → AreDisksOf nodes first disks → IsDiskOf node disk
    → AreDisksOf (put nodes x node) first (slice_set disks (first + x) disk)
set_disk {S} nodes first x node disks disk k h = λ y b l e. at y b l (get_set disks (first + x) (first + y) disk b e)
  where
    at : (y : ℕ) (b : DiskState) → y < 5 → ((first + y ≡ first + x) × (disk ≡ b))
        ⊎ (((first + y ≡ first + x) → ⊥) × (slice_get disks (first + y) ≡ Some b)) → IsDiskOf (put nodes x node y) b
    at y b l (inl e) = let f : y
        ≡ x = let g = e.0 in omega (arith, g) in subst (λ z. IsDiskOf z b)
        (sym (cond-true (y == x) node (nodes y) (eq-eqb y x f))) (subst (IsDiskOf node) e.1 h)
    at y b l (inr e) = subst (λ z. IsDiskOf z b) (sym (cond-false (y == x) node (nodes y) (ne_eqb y x (λ f. e.0 (ap (λ z. first + z) f))))) (k y b l e.1)

-- the disks of other tiers stay
pub else_disk : {S : Type 0} (nodes : ℕ → NodeOf S Fact) (first at : ℕ) (disks : List DiskState) (disk : DiskState)
    → ((x : ℕ) → x < 5 → first + x ≡ at → ⊥) → AreDisksOf nodes first disks → AreDisksOf nodes first (slice_set disks at disk)
else_disk {S} nodes first at disks disk h k = λ y b l e. go y b l (get_set disks at (first + y) disk b e)
  where
    go : (y : ℕ) (b : DiskState) → y < 5 → ((first + y ≡ at) × (disk ≡ b))
        ⊎ (((first + y ≡ at) → ⊥) × (slice_get disks (first + y) ≡ Some b)) → IsDiskOf (nodes y) b
    go y b l (inl e) = absurd (h y l e.0)
    go y b l (inr e) = k y b l e.1

-- WHAT BECAME OF A CALL

-- A node is up, makes the move as the device fares, and sends what it sends.
pub record Done {T V : Type 0} (n x u : ℕ) (Is : ℕ → NodeOf T Fact → V → Type 0) (nodes : ℕ
    → NodeOf T Fact) (new : List V) (disk_before disk_after : DiskState) (after : List (End × List ℕ)) (d : Fate)
    (asked fared : Fared) (met : Bool) (row : T → Move T) (result : Result Answer Fault) : Type 0 where
  pub state : T
  pub up : (nodes x).mode ≡ Up state
  pub all : AreAll n Is (put nodes x (moved_by (nodes x) (d (nodes x).records (row state).facts) (row state))) new
  pub on : IsDiskOf (moved_by (nodes x) (d (nodes x).records (row state).facts) (row state)) disk_after
  pub sends : after ≡ map sealed (sent_by (d (nodes x).records (row state).facts) (row state))
  pub fit : AreFit (sent_by (d (nodes x).records (row state).facts) (row state))
  pub reach : AllReach u (sent_by (d (nodes x).records (row state).facts) (row state))
  pub out : CameOut result met (is_well (d (nodes x).records (row state).facts) (row state).facts) fared
      (is_past (journal_of (nodes x).records) (row state).facts) (row state)
  pub how : Faring asked fared disk_before disk_after

pub up_state : {S : Type 0} (part : NodePart S) → is_up part ≡ true → (s : S) × (part.mode ≡ Up s)
up_state {S} part e = go part.mode refl e
  where
    go : (m : Mode S) → part.mode ≡ m → resolving.is_up m ≡ true → (s : S) × (part.mode ≡ Up s)
    go (Up s) f e = (s, f)
    go Down f e = absurd (cc)
    go Gone f e = absurd (cc)

-- one call, whatever the tier
done : {S T V : Type 0} (n x u : ℕ) (t : Tier) (Is : ℕ → NodeOf T Fact → V → Type 0) (nodes : ℕ
    → NodeOf T Fact) (vs : List V) (v : V) (whole : S → T) (open_of : S → ℕ) (part new : NodePart S) (s : S)
    (disk_before disk_after : DiskState) (after : List (End × List ℕ)) (d : Fate) (asked fared : Fared) (met : Bool)
    (row : T → Move T) (result : Result Answer Fault)
    → AreAll n Is nodes vs → IsNode t whole open_of (nodes x) part → part.mode ≡ Up s
    → ((node : NodeOf T Fact) → IsNode t whole open_of node (sure_if met new) → Is x node v)
    → Came t whole open_of u (nodes x) new disk_before disk_after (d (nodes x).records (row (whole s)).facts) asked fared met (row (whole s)) after result
    → Done n x u Is nodes (slice_set vs x v) disk_before disk_after after d asked fared met row result
done n x u t Is nodes vs v whole open_of part new s disk_before disk_after after d asked fared met row result k i m is c = record {
  state = whole s;
  up = i.mode ∙ ap (mode_by whole) m;
  all = set_one n Is nodes vs x (moved_by (nodes x) (d (nodes x).records (row (whole s)).facts) (row (whole s))) v k
      (is (moved_by (nodes x) (d (nodes x).records (row (whole s)).facts) (row (whole s))) c.is);
  on = c.on;
  sends = c.sends;
  fit = c.fit;
  reach = c.reach;
  out = c.out;
  how = c.how;
}

-- A NODE OF A TIER

-- the view that it has
abbrev pub view_of : (u depth : ℕ) (t : Tier) (x : ℕ) → NodePart (PartOf t) → View (PartOf t)
view_of u depth t x part = record { faults = u; tier = t; depth = depth_at t depth; me = x; part = part }

pub view_is : (u depth : ℕ) (t : Tier) (x : ℕ) (node : NodeOf (State Amounts t) Fact) (v : View (PartOf t)) → IsAt u depth t x node v
    → v ≡ view_of u depth t x v.part
view_is u depth t x node v i = (λ j. record { faults = i.faults j; tier = i.tier j; depth = i.deep j; me = i.me j; part = v.part })

-- the rows of such a node are the world's
pub rows_are : (u depth : ℕ) (t : Tier) (x : ℕ) (part : NodePart (PartOf t)) → (shape t).rows (view_of u depth t x part) ≡ kind_at (config u depth) t x
rows_are u depth Mid x part = refl
rows_are u depth Inv x part = refl
rows_are u depth Pay x part = refl

pub as_viewed : (u depth : ℕ) (t : Tier) (x : ℕ) (v : View (PartOf t)) → IsSameView (view_of u depth t x v.part) v
    → (node : NodeOf (State Amounts t) Fact) (part : NodePart (PartOf t)) → IsNode t (state_at u depth t x) (open_in (shape t)) node part
    → IsAt u depth t x node (view_with (λ p. part) v)
as_viewed u depth t x v h node part k = record { faults = h.0; tier = h.1.0; deep = h.1.1.0; me = h.1.1.1; part = k }

a_call : {S T : Type 0} (k : Shape S T) (old n : View S) (node : NodeOf T Fact) (disk called : DiskState) (stop : Option StopAt) (s : S)
    (after : List (End × List ℕ)) (row : T → Move T) (result : Result Answer Fault) → IsNode old.tier (k.whole old) (open_in k) node old.part
    → IsDiskOf node disk → old.part.mode ≡ Up s → CanStop stop → ((r : S) → k.log_in (k.whole old r) ≡ k.log r)
    → Moves k old n (armed_with stop disk) called [] after row result
    → Call old.tier (k.whole old) (open_in k) old.faults node old.part n.part disk called stop s (row (k.whole old s)) after result
a_call k old n node disk called stop s after row result is on up stops inside h = record {
  is = is;
  on = on;
  up = up;
  stops = stops;
  row = h.row s up;
  wrote = h.disk s up;
  later = h.later;
  reach = on_ok_weaker result (λ f. f s up) h.reach;
  fits = h.fits s up;
  opens = λ r e. ap open_at (sym (inside r) ∙ ap k.log_in e) ∙ h.opens s up;
}

node_called : (u depth : ℕ) (t : Tier) (x : ℕ) (node : NodeOf (State Amounts t) Fact) (part : NodePart (PartOf t)) (n : View (PartOf t))
    (disk called : DiskState) (stop : Option StopAt) (s : PartOf t) (after : List (End × List ℕ)) (row : State Amounts t → Move (State Amounts t))
    (result : Result Answer Fault) → IsNode t (state_at u depth t x) (open_in (shape t)) node part → IsDiskOf node disk → part.mode ≡ Up s → CanStop stop
    → Moves (shape t) (view_of u depth t x part) n (armed_with stop disk) called [] after row result
    → Call t (state_at u depth t x) (open_in (shape t)) u node part n.part disk called stop s (row (state_at u depth t x s)) after result
node_called u depth Mid x node part n disk called stop s after row result is on up stops h =
    a_call mid_shape (view_of u depth Mid x part) n node disk called stop s after row result is on up stops (λ r. refl) h
node_called u depth Inv x node part n disk called stop s after row result is on up stops h =
    a_call back_shape (view_of u depth Inv x part) n node disk called stop s after row result is on up stops (λ r. refl) h
node_called u depth Pay x node part n disk called stop s after row result is on up stops h =
    a_call back_shape (view_of u depth Pay x part) n node disk called stop s after row result is on up stops (λ r. refl) h

-- the call, as the node of the tier makes it
viewed : (u depth : ℕ) (t : Tier) (x : ℕ) (node : NodeOf (State Amounts t) Fact) (v n : View (PartOf t)) (a b : DiskState)
    (before after : List (End × List ℕ)) (row : RowOf) (result : Result Answer Fault) → IsAt u depth t x node v
    → Moves (shape t) v n a b before after (row _ ((shape t).rows v)) result
    → Moves (shape t) (view_of u depth t x v.part) n a b before after (row _ (kind_at (config u depth) t x)) result
viewed u depth t x node v n a b before after row result i h =
    subst (λ z. Moves (shape t) (view_of u depth t x v.part) n a b before after (row _ z) result) (rows_are u depth t x v.part)
    (subst (λ z. Moves (shape t) z n a b before after (row _ ((shape t).rows z)) result) (view_is u depth t x node v i) h)

-- the list as the call and the power left it
list_after : (t : Tier) (met : Bool) (old between new : Nodes) (x : ℕ) (m n : View (PartOf t)) → IsSureIf met between new t x
    → slice_get (views old t) x ≡ Some m → views between t ≡ slice_set (views old t) x n
    → views new t ≡ slice_set (views old t) x (view_with (sure_if met) n)
list_after t true old between new x m n k e b =
    let here : slice_get (views between t) x ≡ Some n = ap (λ z. slice_get z x) b ∙ get_here (views old t) x m n e in
    (changed t between new x (λ S. is_sure_now {S = S}) k).0 n here ∙ ap (λ z. slice_set z x (view_with (sure_if true) n)) b
    ∙ set_again (views old t) x n (view_with (sure_if true) n)
list_after t false old between new x m n k e b = ap (λ z. views z t) k ∙ b

pub node_done : (u depth : ℕ) (t : Tier) (x : ℕ) (nodes : ℕ → NodeOf (State Amounts t) Fact) (old new : Nodes) (stop : Option StopAt)
    (disk disk_after : DiskState) (after : List (End × List ℕ)) (row : RowOf) (result : Result Answer Fault) (met : Bool)
    → AreAll (2 * u + 1) (IsAt u depth t) nodes (views old t) → view_up (slice_get (views old t) x) ≡ true → IsDiskOf (nodes x) disk → CanStop stop
    → HadMemory result → Called old new t x stop disk disk_after [] after row result met
    → Done (2 * u + 1) x u (IsAt u depth t) nodes (views new t) disk disk_after after (fate (config u depth) (fared_by stop met result))
    (asked_of stop) (fared_by stop met result) met (row _ (kind_at (config u depth) t x)) result × KeepsElse t old new
node_done u depth t x nodes old new stop disk disk_after after row result met k up on stops memory c =
    let found = passes view_up (slice_get (views old t) x) refl up in
    let m : View (PartOf t) = found.0 in
    let i : IsAt u depth t x (nodes x) m = k.each x m found.1 in
    let s = up_state m.part found.2 in
    let h = c.moves.0 m found.1 in
    let n : View (PartOf t) = h.0 in
    let move : State Amounts t → Move (State Amounts t) = row _ (kind_at (config u depth) t x) in
    let f = fate (config u depth) (fared_by stop met result) in
    let v = viewed u depth t x (nodes x) m n (armed_with stop disk) c.called [] after row result i h.2 in
    let p = node_called u depth t x (nodes x) m.part n disk c.called stop s.0 after move result i.part on s.1 stops v in
    let r = came t (state_at u depth t x) (open_in (shape t)) u depth (nodes x) m.part n.part disk c.called stop met s.0
    (move (state_at u depth t x s.0)) after result c.stopped memory p in
    let d = done (2 * u + 1) x u t (IsAt u depth t) nodes (views old t) (view_with (sure_if met) n) (state_at u depth t x) (open_in (shape t))
    m.part n.part s.0 disk (at_rest c.called) after f (asked_of stop) (fared_by stop met result) met move result k i.part s.1
    (λ to q. as_viewed u depth t x n v.same to (sure_if met n.part) q) r in (
      subst (λ z. Done (2 * u + 1) x u (IsAt u depth t) nodes z disk disk_after after f (asked_of stop) (fared_by stop met result) met move result)
          (sym (list_after t met old c.between new x m n c.sure found.1 h.1))
          (subst (λ z. Done (2 * u + 1) x u (IsAt u depth t) nodes (slice_set (views old t) x (view_with (sure_if met) n)) disk z after f
          (asked_of stop) (fared_by stop met result) met move result) (sym c.rests) d),
      keeps_then t old c.between new c.moves.1 (keeps_sure t met c.between new x c.sure),
    )

-- a call that writes nothing
pub node_quiet : (u depth : ℕ) (t : Tier) (x : ℕ) (nodes : ℕ → NodeOf (State Amounts t) Fact) (old new : List (View (PartOf t))) (disk : DiskState)
    (after : List (End × List ℕ)) (row : RowOf) (result : Result Answer Fault) → AreAll (2 * u + 1) (IsAt u depth t) nodes old
    → view_up (slice_get old x) ≡ true → IsDiskOf (nodes x) disk → HadMemory result
    → ((σ : State Amounts t) → (row _ (kind_at (config u depth) t x) σ).facts ≡ []) → ListMoves t old new x disk disk [] after row result
    → Done (2 * u + 1) x u (IsAt u depth t) nodes new disk disk after unwritten Fine Fine false (row _ (kind_at (config u depth) t x)) result
node_quiet u depth t x nodes old new disk after row result k up on memory silent moves =
    let found = passes view_up (slice_get old x) refl up in
    let m : View (PartOf t) = found.0 in
    let i : IsAt u depth t x (nodes x) m = k.each x m found.1 in
    let s = up_state m.part found.2 in
    let h = moves m found.1 in
    let move : State Amounts t → Move (State Amounts t) = row _ (kind_at (config u depth) t x) in
    let v = viewed u depth t x (nodes x) m h.0 disk disk [] after row result i h.2 in
    let p = node_called u depth t x (nodes x) m.part h.0 disk disk None s.0 after move result i.part on s.1 tt v in
    let r = came_quiet t (state_at u depth t x) (open_in (shape t)) u depth (nodes x) m.part h.0.part disk s.0
    (move (state_at u depth t x s.0)) after result (silent (state_at u depth t x s.0)) memory p in
    subst (λ z. Done (2 * u + 1) x u (IsAt u depth t) nodes z disk disk after unwritten Fine Fine false move result) (sym h.1)
    (done (2 * u + 1) x u t (IsAt u depth t) nodes old h.0 (state_at u depth t x) (open_in (shape t)) m.part h.0.part s.0 disk disk after unwritten
    Fine Fine false move result k i.part s.1 (λ to q. as_viewed u depth t x h.0 v.same to h.0.part q) r)
