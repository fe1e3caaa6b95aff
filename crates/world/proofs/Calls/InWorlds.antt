-- A node with its disk makes its move in the world too.
use Rattle.std.proofs.Common.{◌≡◌, ℕ, ◌+◌, ◌≤◌, Bool, true, false, cond, List, [], ◌∷◌, ◌++◌, refl, sym, ap, ◌∙◌, subst}
use Rattle.std.proofs.Common.{length, append-nil, arith, Option, Some, None, Result, Ok, Err, zero, suc}
use Rattle.std.specs.Prelude.{nat_lt, nat_le, map, codes, slice_get, ◌&&◌}
use Rattle.std.specs.Result.{OnOk}
use Rattle.std.specs.List.{AllByRecursion}
use Rattle.std.proofs.lemmas.Bool.{cond-true, cond-false, cond_both, ltb-false, le-leb}
use Rattle.aeg_base.specs.declared.limits.TheConstants.{JOURNAL_BYTES}
use Rattle.aeg_base.specs.declared.names.Tier.{Tier}
use Rattle.aeg_base.specs.declared.names.End.{End}
use Rattle.aeg_disk.specs.Disk.{DiskState, SameContent, Later, Rose}
use Rattle.fact_journal.specs.Standing.{HasFacts, texts}
use Rattle.fact_journal.specs.Fitting.{Fit, all_facts, open_after_all}
use Rattle.fact_journal.specs.Calls.{length_with, is_past}
use Rattle.fact_journal.proofs.Fits.{open_after_then, all_more, fit_recorded}
use Rattle.node_journal.specs.Journal.{size_of}
use Rattle.log_model.specs.Nodes.{Node as NodeOf, Device, recorded, stands, failed, writes, is_well, moved, sent}
use Rattle.log_model.specs.Nodes.Mode.{Up}
use Rattle.log_model.specs.Nodes.Device.{Fine as WasFine, CutKeep, CutDrop, Fault as WasFault}
use Rattle.log_values.specs.declared.fact.Fact.{Fact}
use Rattle.log_values.specs.Records.{record_text}
use Rattle.tier_model.specs.declared.turn.Turn.{Turn as Answer}
use Rattle.tier_model.specs.declared.turn.Fault.{Fault as NodeFault}
use Rattle.tier_model.specs.declared.turn.Fault.TheVariants as faults
use Rattle.tier_model.specs.Moves.{Packet, Move}
use Rattle.run_model.specs.declared.trace.Fared.{Fared}
use Rattle.run_model.specs.declared.trace.Fared.TheVariants.{Fine}
use Rattle.run_model.specs.World.{journal_length, device_of, fate, can_fare}
use Rattle.run_model.specs.Text.{fault_text}
use Rattle.run_model.specs.BookingRuns.{config}
use Rattle.world.specs.declared.parts.arming.StopAt.{StopAt}
use Rattle.world.specs.Arming.{CanStop, asked_of, armed_with, at_rest}
use Rattle.world.specs.Disks.{IsReady, IsDiskOf, is_fault}
use Rattle.world.specs.Parts.{NodePart, Makes, Wrote, StandIn, AllStand, CanWrite, AreFit, AllReach, sealed, is_sure_now}
use Rattle.world.specs.Standing.{mode_by, journal_of, IsPlaced, IsDoubted, IsOpen, IsNode, FaresAs}
use Rattle.world.proofs.Rows.PendingPlaces.{all-both}

-- LENGTHS

pub journal-last : (bytes : List Fact → ℕ) (rs : List (List Fact)) (r : List Fact) → journal_length bytes (rs ++ r ∷ [])
    ≡ journal_length bytes rs + (5 + bytes r)
journal-last bytes [] r = refl
journal-last bytes (q ∷ rs) r = let h = journal-last bytes rs r in omega (arith, h)

-- the journal once the facts are written
pub journal-with : (rs : List (List Fact)) (facts : List Fact) → journal_of (recorded rs facts) ≡ length_with (journal_of rs) facts
journal-with rs [] = refl
journal-with rs (f ∷ fs) = journal-last (λ facts. length (record_text facts)) rs (f ∷ fs)

pub size_is : (rs : List (List Fact)) → size_of (texts rs) ≡ journal_of rs
size_is [] = refl
size_is (r ∷ rs) = let h = size_is rs in omega (arith, h)

pub short : (written : ℕ) (facts : List Fact) → is_past written facts ≡ false → written ≤ JOURNAL_BYTES → length_with written facts ≤ JOURNAL_BYTES
short written [] e l = l
short written (f ∷ fs) e l = ltb-false JOURNAL_BYTES (length_with written (f ∷ fs)) e

pub past_writes : (written : ℕ) (facts : List Fact) → is_past written facts ≡ true → writes facts ≡ true
past_writes written [] e = absurd (cc)
past_writes written (f ∷ fs) e = refl

pub written_all : (rs : List (List Fact)) (facts : List Fact) → writes facts ≡ true → recorded rs facts ≡ rs ++ facts ∷ []
written_all rs [] e = absurd (cc)
written_all rs (f ∷ fs) e = refl

-- WHAT A NODE OF THE TIER CAN HAVE WRITTEN

facts_with : (rs : List (List Fact)) (facts : List Fact) → all_facts (recorded rs facts) ≡ all_facts rs ++ facts
facts_with rs [] = sym (append-nil (all_facts rs))
facts_with rs (f ∷ fs) = all_more rs (f ∷ fs)

pub open_with : (rs : List (List Fact)) (facts : List Fact) → open_after_all 0 (all_facts (recorded rs facts))
    ≡ open_after_all (open_after_all 0 (all_facts rs)) facts
open_with rs facts = ap (open_after_all 0) (facts_with rs facts) ∙ open_after_then 0 (all_facts rs) facts

pub stand_alone : (t : Tier) (rs : List (List Fact)) → Fit t rs → AllByRecursion (CanWrite t) (all_facts rs) → AllStand t (rs ∷ [])
stand_alone t rs fit write = record { fit = (fit, tt); can = can }
  where
    can : (i : ℕ) (qs : List (List Fact)) → slice_get (rs ∷ []) i ≡ Some qs → AllByRecursion (CanWrite t) (all_facts qs)
    can zero qs e = let f : rs ≡ qs = cc in subst (λ z. AllByRecursion (CanWrite t) (all_facts z)) f write
    can (suc i) qs e = absurd (cc)

pub stand_one : (t : Tier) (rs : List (List Fact)) (others : List (List (List Fact))) → AllStand t (rs ∷ others) → AllStand t (rs ∷ [])
stand_one t rs others k = stand_alone t rs k.fit.0 (k.can 0 rs refl)

with_facts : (t : Tier) (rs : List (List Fact)) (facts : List Fact) → AllStand t (rs ∷ [])
    → StandIn t (open_after_all 0 (all_facts rs)) facts → AllByRecursion (CanWrite t) (all_facts (recorded rs facts))
with_facts t rs facts k h = subst (AllByRecursion (CanWrite t)) (sym (facts_with rs facts)) (all-both (CanWrite t) (all_facts rs) facts (k.can 0 rs refl) h.can)

pub stand_more : (t : Tier) (rs : List (List Fact)) (facts : List Fact) → AllStand t (rs ∷ [])
    → StandIn t (open_after_all 0 (all_facts rs)) facts → AllStand t (recorded rs facts ∷ [])
stand_more t rs facts k h = stand_alone t (recorded rs facts) (fit_recorded t rs facts k.fit.0 h.fit) (with_facts t rs facts k h)

pub stand_both : (t : Tier) (rs : List (List Fact)) (facts : List Fact) → AllStand t (rs ∷ [])
    → StandIn t (open_after_all 0 (all_facts rs)) facts → AllStand t (rs ∷ recorded rs facts ∷ [])
stand_both t rs facts k h = record { fit = (k.fit.0, (fit_recorded t rs facts k.fit.0 h.fit, tt)); can = can }
  where
    can : (i : ℕ) (qs : List (List Fact)) → slice_get (rs ∷ recorded rs facts ∷ []) i ≡ Some qs → AllByRecursion (CanWrite t) (all_facts qs)
    can zero qs e = k.can 0 qs e
    can (suc zero) qs e = let f : recorded rs facts ≡ qs = cc in subst (λ z. AllByRecursion (CanWrite t) (all_facts z)) f (with_facts t rs facts k h)
    can (suc (suc i)) qs e = absurd (cc)

-- a cut keeps the record or not
pub stand_cut : (t : Tier) (rs : List (List Fact)) (facts : List Fact) (kept : Bool) → AllStand t (rs ∷ [])
    → StandIn t (open_after_all 0 (all_facts rs)) facts → AllStand t (cond kept (recorded rs facts) rs ∷ [])
stand_cut t rs facts true k h = stand_more t rs facts k h
stand_cut t rs facts false k h = k

-- DISKS

pub armed_content : (stop : Option StopAt) (disk : DiskState) → SameContent disk (armed_with stop disk) × ((armed_with stop disk).tells ≡ disk.tells)
armed_content None disk = (record { bytes = refl; kept = refl; ranges = refl; past = refl }, refl)
armed_content (Some s) disk = (record { bytes = refl; kept = refl; ranges = refl; past = refl }, refl)

pub rest_content : (disk : DiskState) → SameContent disk (at_rest disk)
rest_content disk = record { bytes = refl; kept = refl; ranges = refl; past = refl }

pub armed_stopped : (stop : Option StopAt) (disk : DiskState) → (armed_with stop disk).stopped ≡ disk.stopped
armed_stopped None disk = refl
armed_stopped (Some s) disk = refl

pub armed_faults : (stop : Option StopAt) (disk : DiskState) → (armed_with stop disk).faults ≡ disk.faults
armed_faults None disk = refl
armed_faults (Some s) disk = refl

-- its count of faults does not fall
pub armed_later : (stop : Option StopAt) (disk called : DiskState) → Later (armed_with stop disk) called → disk.faults ≤ called.faults
armed_later stop disk called h = subst (λ z. z ≤ called.faults) (armed_faults stop disk) h.faults

-- A NODE THAT IS UP

pub up_placed : {S T : Type 0} (t : Tier) (whole : S → T) (open_of : S → ℕ) (node : NodeOf T Fact) (part : NodePart S)
    (s : S) → IsNode t whole open_of node part → part.mode ≡ Up s → (part.place + 1 ≡ journal_of node.records)
    × (part.doubt ≡ false)
up_placed t whole open_of node part s k e = subst (λ m. IsPlaced m part.place part.doubt node.records) e k.placed

pub sure_alone : {S T : Type 0} (t : Tier) (whole : S → T) (open_of : S → ℕ) (node : NodeOf T Fact) (part : NodePart S)
    → IsNode t whole open_of node part → part.doubt ≡ false → node.others ≡ []
sure_alone t whole open_of node part k e = subst (λ b. IsDoubted b node.records node.others) e k.doubted

pub up_open : {S T : Type 0} (t : Tier) (whole : S → T) (open_of : S → ℕ) (node : NodeOf T Fact) (part : NodePart S)
    (s : S) → IsNode t whole open_of node part → part.mode ≡ Up s → open_of s ≡ open_after_all 0 (all_facts node.records)
up_open t whole open_of node part s k e = subst (λ m. IsOpen open_of m node.records) e k.opened

-- its disk has its records, and the gate at its place
pub up_has : {S T : Type 0} (t : Tier) (whole : S → T) (open_of : S → ℕ) (node : NodeOf T Fact) (part : NodePart S)
    (disk : DiskState) (s : S) → IsNode t whole open_of node part → IsDiskOf node disk → part.mode ≡ Up s
    → HasFacts node.records disk part.place
up_has t whole open_of node part disk s k d e =
    let up : node.mode ≡ Up (whole s) = k.mode ∙ ap (mode_by whole) e in
    let r : (at : ℕ) × HasFacts node.records disk at = subst (λ m. IsReady m node.records disk) up d.ready in
    let p : part.place + 1 ≡ journal_of node.records = (up_placed t whole open_of node part s k e).0 in
    let q : r.0 ≡ part.place = omega (arith, p, r.1.long, size_is node.records) in
    subst (HasFacts node.records disk) q r.1

pub up_stand : {S T : Type 0} (t : Tier) (whole : S → T) (open_of : S → ℕ) (node : NodeOf T Fact) (part : NodePart S)
    → IsNode t whole open_of node part → AllStand t (node.records ∷ [])
up_stand t whole open_of node part k = stand_one t node.records node.others k.stand

-- its journal is within its limit, and stays so with facts that don't pass it
pub more_within : (records : List (List Fact)) (facts : List Fact) → journal_of records ≤ JOURNAL_BYTES
    → is_past (journal_of records) facts ≡ false → journal_of (recorded records facts) ≤ JOURNAL_BYTES
more_within records facts l e = let m = short (journal_of records) facts e l in omega (arith, m, journal-with records facts)

-- HOW THE WORLD'S DEVICE FARES

pub fate_is : (u depth : ℕ) (fared : Fared) (records : List (List Fact)) (facts : List Fact) → writes facts ≡ true
    → is_past (journal_of records) facts ≡ false → fate (config u depth) fared records facts ≡ device_of fared
fate_is u depth fared records [] w e = absurd (cc)
fate_is u depth fared records (f ∷ fs) w e = cond-false
    (nat_lt JOURNAL_BYTES (journal_of records + (5 + length (record_text (f ∷ fs))))) CutDrop (device_of fared) e

pub fate_full : (u depth : ℕ) (fared : Fared) (records : List (List Fact)) (facts : List Fact)
    → is_past (journal_of records) facts ≡ true → fate (config u depth) fared records facts ≡ CutDrop
fate_full u depth fared records [] e = absurd (cc)
fate_full u depth fared records (f ∷ fs) e = cond-true
    (nat_lt JOURNAL_BYTES (journal_of records + (5 + length (record_text (f ∷ fs))))) CutDrop (device_of fared) e

abbrev pub is_ok : Device → Bool
is_ok WasFine = true
is_ok CutKeep = false
is_ok CutDrop = false
is_ok WasFault = false

-- where nothing is written no stop is met
asked_silent : (u depth : ℕ) (stop : Option StopAt) (records : List (List Fact)) (facts : List Fact) → writes facts ≡ false
    → is_well (fate (config u depth) (asked_of stop) records facts) facts ≡ true
asked_silent u depth None records [] e = refl
asked_silent u depth (Some s) records [] e =
    cond_both (s.keep && nat_le 3 s.nth) CutKeep CutDrop (λ d. is_well {F = Fact} d [] ≡ true) (λ f. refl) (λ f. refl)
asked_silent u depth stop records (f ∷ fs) e = absurd (cc)

well_fine : (d : Device) (facts : List Fact) → d ≡ WasFine → is_well d facts ≡ true
well_fine d facts e = ap (λ z. is_well z facts) e

pub ill_by : (d e : Device) (facts : List Fact) → writes facts ≡ true → d ≡ e → is_ok e ≡ false → is_well d facts ≡ false
ill_by d e [] w f g = absurd (cc)
ill_by d WasFine (x ∷ facts) w f g = absurd (cc)
ill_by d CutKeep (x ∷ facts) w f g = ap (λ z. is_well z (x ∷ facts)) f
ill_by d CutDrop (x ∷ facts) w f g = ap (λ z. is_well z (x ∷ facts)) f
ill_by d WasFault (x ∷ facts) w f g = ap (λ z. is_well z (x ∷ facts)) f

-- the node after a move, and what the move sends
abbrev pub moved_by : {T : Type 0} → NodeOf T Fact → Device → Move T → NodeOf T Fact
moved_by node d v = moved node d v.state v.facts

abbrev pub sent_by : {T : Type 0} → Device → Move T → List Packet
sent_by d v = sent d v.facts v.sends

pub moved_well : {T : Type 0} (node : NodeOf T Fact) (d : Device) (v : Move T) → is_well d v.facts ≡ true
    → moved_by node d v ≡ stands (Up v.state) (recorded node.records v.facts)
moved_well node d v e = cond-true (is_well d v.facts) (stands (Up v.state) (recorded node.records v.facts)) (failed node v.facts d) e

pub moved_ill : {T : Type 0} (node : NodeOf T Fact) (d : Device) (v : Move T) → is_well d v.facts ≡ false → moved_by node d v ≡ failed node v.facts d
moved_ill node d v e = cond-false (is_well d v.facts) (stands (Up v.state) (recorded node.records v.facts)) (failed node v.facts d) e

pub sent_well : {T : Type 0} (d : Device) (move : Move T) → is_well d move.facts ≡ true → sent_by d move ≡ move.sends
sent_well d move e = cond-true (is_well d move.facts) move.sends [] e

pub sent_ill : {T : Type 0} (d : Device) (move : Move T) → is_well d move.facts ≡ false → sent_by d move ≡ []
sent_ill d move e = cond-false (is_well d move.facts) move.sends [] e

pub no_fit : AreFit []
no_fit i k e = absurd (cc)

pub no_reach : (u : ℕ) → AllReach u []
no_reach u i k e = absurd (cc)

-- WHAT BECAME OF A CALL

-- the node did it, with this answer, or its journal was full, or its disk stopped where that was armed, or it failed
abbrev pub CameOut : {T : Type 0} → Result Answer NodeFault → Bool → Bool → Fared → Bool → Move T → Type 0
CameOut (Ok answer) met well fared past move = (well ≡ true) × (answer ≡ move.answer)
CameOut (Err (faults.JournalFull size)) met well fared past move = (well ≡ false) × (past ≡ true)
CameOut (Err faults.Memory) met well fared past move = ⊥
CameOut (Err faults.Disk) true well fared past move = (well ≡ false) × (past ≡ false) × (fault_text false fared ≡ codes "cut")
CameOut (Err faults.Disk) false well fared past move = (well ≡ false) × (past ≡ false) × (fault_text false fared ≡ codes "disk")
CameOut (Err (faults.BadRecord at)) met well fared past move = ⊥

-- where the armed stop was met, the node is sure of its disk
abbrev pub sure_if : {S : Type 0} → Bool → NodePart S → NodePart S
sure_if true part = is_sure_now part
sure_if false part = part

-- the event fared as asked, or its disk failed
pub record Faring (asked fared : Fared) (disk_before disk_after : DiskState) : Type 0 where
  pub fares : FaresAs asked fared
  pub can : can_fare fared ≡ true
  pub cause : is_fault fared ≡ true → Rose disk_before.faults disk_after.faults
  pub later : disk_before.faults ≤ disk_after.faults

-- The node and its disk are those of the move as its device fared, and it sends what it sends.
pub record Came {S T : Type 0} (t : Tier) (whole : S → T) (open_of : S → ℕ) (u : ℕ) (node : NodeOf T Fact)
    (new : NodePart S) (disk_before disk_after : DiskState) (dev : Device) (asked fared : Fared) (met : Bool)
    (v : Move T) (after : List (End × List ℕ)) (answer : Result Answer NodeFault) : Type 0 where
  pub is : IsNode t whole open_of (moved_by node dev v) (sure_if met new)
  pub on : IsDiskOf (moved_by node dev v) disk_after
  pub sends : after ≡ map sealed (sent_by dev v)
  pub fit : AreFit (sent_by dev v)
  pub reach : AllReach u (sent_by dev v)
  pub out : CameOut answer met (is_well dev v.facts) fared (is_past (journal_of node.records) v.facts) v
  pub how : Faring asked fared disk_before disk_after

-- a call of a node that is up, with its disk
pub record Call {S T : Type 0} (t : Tier) (whole : S → T) (open_of : S → ℕ) (u : ℕ) (node : NodeOf T Fact)
    (part new : NodePart S) (disk called : DiskState) (stop : Option StopAt) (s : S) (v : Move T)
    (after : List (End × List ℕ)) (answer : Result Answer NodeFault) : Type 0 where
  pub is : IsNode t whole open_of node part
  pub on : IsDiskOf node disk
  pub up : part.mode ≡ Up s
  pub stops : CanStop stop
  pub row : Makes whole part new [] after v answer
  pub wrote : Wrote (armed_with stop disk) called part.place new.place v.facts answer
  pub later : Later (armed_with stop disk) called
  pub reach : OnOk answer (AllReach u v.sends)
  pub fits : StandIn t (open_of s) v.facts
  pub opens : (r : S) → whole r ≡ v.state → open_of r ≡ open_after_all (open_of s) v.facts

-- HOW IT FARES

pub asked_can : (stop : Option StopAt) → CanStop stop → can_fare (asked_of stop) ≡ true
asked_can None k = refl
asked_can (Some s) k =
    let a : nat_le 1 s.nth ≡ true = le-leb 1 s.nth k.0 in
    let b : nat_le s.nth 4 ≡ true = le-leb s.nth 4 k.1 in
    rw (a, b) refl

pub asked_no_fault : (stop : Option StopAt) → is_fault (asked_of stop) ≡ false
asked_no_fault None = refl
asked_no_fault (Some s) = refl

pub no_cause : (stop : Option StopAt) (P : Type 0) → is_fault (asked_of stop) ≡ true → P
no_cause stop P e = absurd (let f : is_fault (asked_of stop) ≡ false = asked_no_fault stop in cc)

-- a stop that a record was written under was none
pub asked_well : (u depth : ℕ) (stop : Option StopAt) (disk : DiskState) (records : List (List Fact))
    (facts : List Fact) → CanStop stop → is_past (journal_of records) facts ≡ false
    → (writes facts ≡ true → (armed_with stop disk).armed ≤ 4 → (armed_with stop disk).armed ≡ 0)
    → is_well (fate (config u depth) (asked_of stop) records facts) facts ≡ true
asked_well u depth stop disk records facts k p h = go (writes facts) refl stop k h
  where
    go : (b : Bool) → writes facts ≡ b → (o : Option StopAt) → CanStop o
        → (writes facts ≡ true → (armed_with o disk).armed ≤ 4 → (armed_with o disk).armed ≡ 0)
        → is_well (fate (config u depth) (asked_of o) records facts) facts ≡ true
    go false e o c f = asked_silent u depth o records facts e
    go true e None c f = well_fine (fate (config u depth) Fine records facts) facts (fate_is u depth Fine records facts e p)
    go true e (Some s) c f = absurd (let none : s.nth ≡ 0 = f e c.1 in omega (arith, none, c.0))

-- and none was met
pub unmet : (stop : Option StopAt) (disk called : DiskState) (facts : List Fact) → CanStop stop → disk.stopped ≡ false
    → (writes facts ≡ true → (armed_with stop disk).armed ≤ 4 → (armed_with stop disk).armed ≡ 0)
    → (writes facts ≡ false → called ≡ armed_with stop disk) → Later (armed_with stop disk) called
    → disk.armed ≡ 0 → called.stopped ≡ false
unmet stop disk called facts k still h same later quiet = go (writes facts) refl
  where
    few : (o : Option StopAt) → CanStop o → (armed_with o disk).armed ≤ 4
    few None c = omega (arith, quiet)
    few (Some s) c = c.1

    go : (b : Bool) → writes facts ≡ b → called.stopped ≡ false
    go true e = (later.free (h e (few stop k)) (armed_stopped stop disk ∙ still)).1
    go false e = ap (λ (d : DiskState). d.stopped) (same e) ∙ armed_stopped stop disk ∙ still
