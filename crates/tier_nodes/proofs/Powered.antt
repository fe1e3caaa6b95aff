-- Nodes that crash, restart, tell again, or are wiped.
use Rattle.std.proofs.Common.{◌≡◌, ℕ, zero, suc, ◌+◌, ◌≤◌, Bool, true, false, cond, List, [], ◌∷◌, ◌++◌, refl, sym, ap, ◌∙◌, subst, inl, inr, arith}
use Rattle.std.proofs.Common.{length, Option, Some, None, Result, Ok, Err}
use Rattle.std.specs.Prelude.{nat_lt, slice_get, ◌⊎◌}
use Rattle.std.specs.List.{AllByRecursion}
use Rattle.std.proofs.lemmas.Bool.{le-ltb, lt-ltb}
use Rattle.aeg_base.specs.declared.limits.TheConstants.{JOURNAL_BYTES}
use Rattle.aeg_disk.specs.Disk.{Blank, DiskState, Later, Rose}
use Rattle.fact_journal.proofs.Opens.{each_get}
use Rattle.fact_journal.proofs.Restoring.{newest_facts}
use Rattle.fact_journal.proofs.Standing.{erased_stands, having_stands}
use Rattle.fact_journal.specs.Calls.{ReadsOne}
use Rattle.fact_journal.specs.Fitting.{EachFits, Fit, all_facts, open_after_all}
use Rattle.fact_journal.specs.Standing.{StandsFor}
use Rattle.log_model.specs.Log.{LogState, open_at}
use Rattle.log_model.specs.Nodes.{Node, crashed, found_at, restarted, stands, up_as, up_from}
use Rattle.log_model.specs.Nodes.Mode.{Down, Up}
use Rattle.log_model.specs.Recover.{newest, onto}
use Rattle.log_values.specs.declared.any_value.AnyValue.{AnyValue}
use Rattle.log_values.specs.declared.fact.Fact.{Fact}
use Rattle.log_values.specs.Records.{record_text}
use Rattle.node_log.specs.Views.{CameUp, Restarts, View, went_down}
use Rattle.run_model.specs.declared.trace.Found.{Found}
use Rattle.run_model.specs.declared.trace.Found.TheVariants.{Reads, Fault as Fails}
use Rattle.tier_model.specs.declared.turn.Fault.{Fault as NodeFault}
use Rattle.tier_model.specs.declared.turn.Fault.TheVariants as faults
use Rattle.tier_nodes.proofs.Answered.{restarted_view, same_seat, same_view}
use Rattle.tier_nodes.proofs.Journals.{journal_more, size_is}
use Rattle.tier_nodes.proofs.Seated.{down_node, is_down_at, rest_stands, sure_alone, up_placed, up_seat}
use Rattle.tier_nodes.specs.Arming.{at_rest}
use Rattle.tier_nodes.specs.Calling.{HadMemory, IsSameSeat}
use Rattle.tier_nodes.specs.declared.condition.Condition.TheVariants as conditions
use Rattle.tier_nodes.specs.Powering.{Crashes, Risen, Rises, RoseOut, Wipes, found_of, list_found, still_doubts}
use Rattle.tier_nodes.specs.Seats.{condition_of}
use Rattle.tier_nodes.specs.Standing.{IsDiskOf, IsDoubted, IsNodeOf, IsPlaced, IsReady, Seat, journal_of, mode_in, mode_of}

-- A NODE THAT WAS NEVER STARTED

blank_within : 1 ≤ JOURNAL_BYTES
blank_within = omega arith

pub fresh_node : {S : Type 0} (log_in : S → LogState AnyValue) (seat : Seat S) → mode_of seat ≡ Down → seat.doubt ≡ false
    → IsNodeOf log_in (stands Down []) seat
fresh_node log_in seat m d = record {
  mode = sym m;
  placed = λ e. absurd (cc);
  doubted = subst (λ b. IsDoubted b [] []) (sym d) refl;
  within = (blank_within, tt);
  fits = (tt, tt);
  opened = tt;
}

-- CRASHES

-- a node that was up is down
crashed_is : {S : Type 0} (log_in : S → LogState AnyValue) (node : Node S Fact) (old new : Seat S) (s : S) → IsNodeOf log_in node old → node.mode ≡ Up s
    → mode_of new ≡ Down → new.view ≡ went_down old.view → new.doubt ≡ old.doubt → IsNodeOf log_in (crashed node node.mode) new
crashed_is {S} log_in node old new s k up m v d =
    let p = up_placed log_in node old k s up in
    let sure : new.doubt ≡ false = d ∙ p.1 in
    subst (λ z. IsNodeOf log_in z new) (sym (ap (crashed node) up))
    (down_node log_in node.records [] new m (λ e. ap (λ (z : View S). z.place + 1) v ∙ p.0)
    (subst (λ b. IsDoubted b node.records []) (sym sure) refl) (k.within.0, tt)
    (subst (λ t. EachFits t (node.records ∷ [])) (sym (ap (λ (z : View S). z.tier) v)) (k.fits.0, tt)))

crashed_disk : {S : Type 0} (log_in : S → LogState AnyValue) (node : Node S Fact) (old : Seat S) (s : S) (disk : DiskState) → IsNodeOf log_in node old
    → node.mode ≡ Up s → IsDiskOf node disk → IsDiskOf (crashed node node.mode) disk
crashed_disk log_in node old s disk k up d = subst (λ z. IsDiskOf z disk) (sym (ap (crashed node) up)) (record {
  rest = d.rest;
  lists = subst (λ z. StandsFor (node.records ∷ z) disk) (sure_alone log_in node old k (up_placed log_in node old k s up).1) d.lists;
  ready = tt;
})

pub crashes : {S : Type 0} (log_in : S → LogState AnyValue) (old new : Seat S) (s : S) → mode_of old ≡ Up s → new.view ≡ went_down old.view
    → new.gone ≡ old.gone → new.doubt ≡ old.doubt → Crashes log_in old new
crashes {S} log_in old new s up v g d = record {
  is = λ node k. crashed_is log_in node old new s k (k.mode ∙ up) down v d;
  on = λ node disk k on. crashed_disk log_in node old s disk k (k.mode ∙ up) on;
  same = same_seat old new (same_view old.view new.view _ _ v);
}
  where
    down : mode_of new ≡ Down
    down = ap (λ z. mode_in z new.view.up) (g ∙ (up_seat old s up).0) ∙ ap (λ (z : View S). mode_in false z.up) v

-- WIPES

pub wipes : {S : Type 0} (log_in : S → LogState AnyValue) (old new : Seat S) (a b : DiskState) → new.gone ≡ true → new.doubt ≡ false
    → IsSameSeat old new → Blank a b → Wipes log_in old new a b
wipes log_in old new a b g d same blank = record {
  is = record {
    mode = sym (ap (λ z. mode_in z new.view.up) g);
    placed = (d, refl);
    doubted = subst (λ z. IsDoubted z [] []) (sym d) refl;
    within = (blank_within, tt);
    fits = (tt, tt);
    opened = tt;
  };
  on = λ node k. record {
    rest = (blank.armed ∙ k.rest.0, blank.stopped ∙ k.rest.1);
    lists = erased_stands a b blank k.lists.tells;
    ready = tt;
  };
  faults = blank.faults;
  same = same;
}

-- WHICH LIST A RESTART READS

all_get : {A : Type 0} (P : A → Type 0) (xs : List A) (k : ℕ) (x : A) → AllByRecursion P xs → slice_get xs k ≡ Some x → P x
all_get P [] k x h e = absurd (cc)
all_get P (y ∷ xs) zero x h e = let f : y ≡ x = cc in subst P f h.0
all_get P (y ∷ xs) (suc k) x h e = all_get P xs k x h.1 e

-- the length of its journal tells which one it is
names : {S : Type 0} (recover : List Fact → S) (node : Node S Fact) (doubt : Bool) (k list known found : ℕ) (rs : List (List Fact))
    → IsDoubted doubt node.records node.others → (doubt ≡ true → known + 1 ≡ journal_of node.records)
    → slice_get (node.records ∷ node.others) k ≡ Some rs → found + 1 ≡ journal_of rs → list ≡ list_found doubt known found
    → (found_at recover node list ≡ up_from recover rs) × (list ≤ length node.others)
names recover node false zero list known found rs d p g f e =
    let same : node.records ≡ rs = cc in
    (ap (found_at recover node) e ∙ ap (up_from recover) same, omega (arith, e))
names recover node false (suc k) list known found rs d p g f e = absurd (let h : slice_get [] k ≡ Some rs = subst (λ z. slice_get z k ≡ Some rs) d g in cc)
names recover node true zero list known found rs d p g f e =
    let same : node.records ≡ rs = cc in
    let long : known + 1 ≡ journal_of rs = p refl ∙ ap journal_of same in
    let no_more : nat_lt known found ≡ false = le-ltb known found (omega (arith, long, f)) in
    let none : list ≡ 0 = e ∙ ap (λ z. cond z 1 0) no_more in
    (ap (found_at recover node) none ∙ ap (up_from recover) same, omega (arith, none))
names recover node true (suc zero) list known found rs d p g f e =
    let h : slice_get ((node.records ++ d.0 ∷ []) ∷ []) 0 ≡ Some rs = subst (λ z. slice_get z 0 ≡ Some rs) d.2 g in
    let same : node.records ++ d.0 ∷ [] ≡ rs = cc in
    let long : known + 1 ≡ journal_of node.records = p refl in
    let longer : found + 1 ≡ journal_of node.records + (5 + length (record_text d.0)) = f ∙ ap journal_of (sym same) ∙ journal_more node.records d.0 in
    let more : nat_lt known found ≡ true = lt-ltb known found (omega (arith, long, longer)) in
    let one : list ≡ 1 = e ∙ ap (λ z. cond z 1 0) more in
    (ap (found_at recover node) one ∙ ap (up_as recover node) g, omega (arith, one, ap length d.2))
names recover node true (suc (suc k)) list known found rs d p g f e = absurd
    (let h : slice_get ((node.records ++ d.0 ∷ []) ∷ []) (suc k) ≡ Some rs = subst (λ z. slice_get z (suc k) ≡ Some rs) d.2 g in cc)

-- RESTARTS

module _ {S : Type 0} (log_in : S → LogState AnyValue) (recovered : List Fact → S) (old new : Seat S) (disk disk_after : DiskState)
    (opens : (rs : List (List Fact)) → Fit old.view.tier rs → open_at (log_in (recovered (newest rs))) ≡ open_after_all 0 (all_facts rs))
    (gone : new.gone ≡ false) (node : Node S Fact) (is : IsNodeOf log_in node old) (on : IsDiskOf node disk) (down : mode_of old ≡ Down)
    (later : Later (at_rest disk) disk_after) where
  came_up : (list : ℕ) → new.doubt ≡ false → list ≡ list_found old.doubt old.view.place new.view.place
      → (facts : List Fact) → ReadsOne (node.records ∷ node.others) disk_after facts new.view.place → CameUp old.view new.view recovered facts
      → Risen log_in recovered new disk disk_after node (Ok tt) (Reads list)
  came_up list sure found facts read up = record {
    is = subst (λ z. IsNodeOf log_in z new) (sym is_up) (record {
      mode = sym (ap (λ z. mode_in z new.view.up) gone ∙ ap (λ (z : View S). mode_in false z.up) up ∙ ap (λ z. Up (recovered z)) newest_is);
      placed = (place, sure);
      doubted = subst (λ z. IsDoubted z rs []) (sym sure) refl;
      within = (all_get (λ records. journal_of records ≤ JOURNAL_BYTES) (node.records ∷ node.others) read.0 rs is.within read.2, tt);
      fits = subst (λ t. EachFits t (rs ∷ [])) (sym (ap (λ (z : View S). z.tier) up)) (fit, tt);
      opened = opens rs fit;
    });
    on = subst (λ z. IsDiskOf z disk_after) (sym is_up) (record {
      rest = later.free refl refl;
      lists = having_stands rs disk_after new.view.place (later.tells ∙ on.lists.tells) read.4;
      ready = (new.view.place, read.4);
    });
    among = named.1;
    out = tt;
  }
    where
      rs : List (List Fact)
      rs = read.1

      fit : Fit old.view.tier rs
      fit = each_get old.view.tier (node.records ∷ node.others) read.0 rs is.fits read.2

      newest_is : onto facts [] ≡ newest rs
      newest_is = ap (λ z. onto z []) read.3 ∙ sym (newest_facts rs)

      place : new.view.place + 1 ≡ journal_of rs
      place = read.4.long ∙ size_is rs

      known : old.doubt ≡ true → old.view.place + 1 ≡ journal_of node.records
      known = subst (λ z. IsPlaced z old.view.place old.doubt node.records) (is.mode ∙ down) is.placed

      named : (found_at recovered node list ≡ up_from recovered rs) × (list ≤ length node.others)
      named = names recovered node old.doubt read.0 list old.view.place new.view.place rs is.doubted known read.2 place found

      is_up : restarted recovered node (Some list) node.mode ≡ stands (Up (recovered (newest rs))) rs
      is_up = ap (restarted recovered node (Some list)) (is.mode ∙ down) ∙ named.0

  stayed : (fault : NodeFault) → new.view ≡ old.view → new.doubt ≡ old.doubt → StandsFor (node.records ∷ node.others) disk_after
      → RoseOut disk disk_after (Err fault) → Risen log_in recovered new disk disk_after node (Err fault) Fails
  stayed fault v d lists out = record {
    is = subst (λ z. IsNodeOf log_in z new) (sym same) (record {
      mode = is.mode ∙ down ∙ sym (ap (λ z. mode_in z new.view.up) gone ∙ ap (λ (z : View S). mode_in false z.up) v ∙ ap (λ z. mode_in false z) none);
      placed = subst (λ (z : ℕ × Bool). IsPlaced node.mode z.0 z.1 node.records) (λ i. (sym (ap (λ (z : View S). z.place) v) i, sym d i)) is.placed;
      doubted = subst (λ b. IsDoubted b node.records node.others) (sym d) is.doubted;
      within = is.within;
      fits = subst (λ (z : View S). EachFits z.tier (node.records ∷ node.others)) (sym v) is.fits;
      opened = is.opened;
    });
    on = subst (λ z. IsDiskOf z disk_after) (sym same)
        (record { rest = later.free refl refl; lists = lists; ready = subst (λ z. IsReady z node.records disk_after) (sym (is.mode ∙ down)) tt });
    among = tt;
    out = out;
  }
    where
      same : restarted recovered node None node.mode ≡ node
      same = ap (restarted recovered node None) (is.mode ∙ down)

      none : old.view.up ≡ None
      none = (is_down_by old.gone old.view.up down).1
        where
          is_down_by : (gone : Bool) (up : Option S) → mode_in gone up ≡ Down → (gone ≡ false) × (up ≡ None)
          is_down_by true up e = absurd (cc)
          is_down_by false (Some s) e = absurd (cc)
          is_down_by false None e = (refl, refl)

  risen : (answer : Result (Unit {0}) NodeFault) → HadMemory answer → Restarts old.view new.view (at_rest disk) disk_after recovered answer
      → new.doubt ≡ still_doubts answer old.doubt
      → Risen log_in recovered new disk disk_after node answer (found_of old.doubt old.view.place new.view.place answer)
  risen (Ok tt) m k d =
      let read = k.one_list (node.records ∷ node.others) (rest_stands node disk on) is.fits in
      came_up (list_found old.doubt old.view.place new.view.place) d refl read.0 read.1 read.2
  risen (Err faults.Disk) m k d = stayed faults.Disk k.down d (k.same_lists (node.records ∷ node.others) (rest_stands node disk on)) (rose (k.disk refl))
    where
      rose : (disk_after.stopped ≡ true) ⊎ Rose disk.faults disk_after.faults → Rose disk.faults disk_after.faults
      rose (inl e) = absurd (let f : disk_after.stopped ≡ false = (later.free refl refl).1 in cc)
      rose (inr r) = r
  risen (Err faults.Memory) m k d = absurd m
  risen (Err (faults.JournalFull size)) m k d = absurd (k.never_full size refl)
  risen (Err (faults.BadRecord at)) m k d = absurd (k.none_refused (node.records ∷ node.others) (rest_stands node disk on) is.fits at refl)

pub rises : {S : Type 0} (log_in : S → LogState AnyValue) (recovered : List Fact → S) (old new : Seat S) (view : View S) (known : ℕ)
    (disk powered disk_after : DiskState) (answer : Result (Unit {0}) NodeFault) (found : Found)
    → ((rs : List (List Fact)) → Fit old.view.tier rs → open_at (log_in (recovered (newest rs))) ≡ open_after_all 0 (all_facts rs))
    → condition_of old ≡ conditions.Down → powered ≡ at_rest disk → Restarts old.view view powered disk_after recovered answer → new.view ≡ view
    → new.gone ≡ old.gone → new.doubt ≡ still_doubts answer old.doubt → known ≡ old.view.place → found ≡ found_of old.doubt known view.place answer
    → Rises log_in recovered old new disk disk_after answer found
rises {S} log_in recovered old new view known disk powered disk_after answer found opens condition e k seen g d knew f = record {
  risen = λ memory node is on. subst (λ z. Risen log_in recovered new disk disk_after node answer z) (sym reads)
      (risen log_in recovered old new disk disk_after opens (g ∙ down.0) node is on down.2 here.later answer memory here d);
  reads = reads;
  later = here.later.faults;
  same = same_seat old new (restarted_view old.view new.view (at_rest disk) disk_after recovered answer here);
}
  where
    down : (old.gone ≡ false) × (old.view.up ≡ None) × (mode_of old ≡ Down)
    down = is_down_at old condition

    here : Restarts old.view new.view (at_rest disk) disk_after recovered answer
    here = subst (λ z. Restarts old.view new.view z disk_after recovered answer) e
        (subst (λ z. Restarts old.view z powered disk_after recovered answer) (sym seen) k)

    reads : found ≡ found_of old.doubt old.view.place new.view.place answer
    reads = f ∙ ap (λ z. found_of old.doubt z view.place answer) knew ∙ ap (λ (z : View S). found_of old.doubt old.view.place z.place answer) (sym seen)
