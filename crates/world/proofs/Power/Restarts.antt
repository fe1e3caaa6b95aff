-- A node restarts, and comes up from one of the lists that its disk stands for, or its disk fails.
use Rattle.std.proofs.Common.{◌≡◌, ℕ, ◌+◌, ◌*◌, ◌<◌, ◌≤◌, Bool, true, false, cond, List, [], ◌∷◌, ◌++◌, refl, sym, ap}
use Rattle.std.proofs.Common.{◌∙◌, subst, inl, inr, arith, length, Option, Some, None, Result, Ok, Err, zero, suc}
use Rattle.std.specs.Prelude.{nat_lt, slice_get, slice_set, codes, ◌⊎◌}
use Rattle.std.specs.List.{AllByRecursion}
use Rattle.std.proofs.lemmas.Bool.{le-ltb, lt-ltb}
use Rattle.aeg_base.specs.declared.limits.TheConstants.{JOURNAL_BYTES}
use Rattle.aeg_base.specs.declared.names.Tier.{Tier}
use Rattle.aeg_base.specs.declared.names.Tier.TheVariants.{Mid as MidTier, Inv, Pay}
use Rattle.aeg_base.specs.declared.names.NodeId.{NodeId}
use Rattle.aeg_disk.specs.Disk.{DiskState, Later, Rose}
use Rattle.fact_journal.specs.Standing.{StandsFor}
use Rattle.fact_journal.proofs.Standing.{having_stands, same_stands}
use Rattle.server_model.specs.Backends.{Amounts}
use Rattle.log_model.specs.Nodes.{Mode, Node as NodeOf, stands, up_from, up_as, found_at, restarted}
use Rattle.log_model.specs.Nodes.Mode.{Up, Down, Gone}
use Rattle.log_model.specs.Recover.{newest}
use Rattle.log_values.specs.declared.fact.Fact.{Fact}
use Rattle.log_values.specs.Records.{record_text}
use Rattle.tier_model.specs.declared.turn.Fault.{Fault as NodeFault}
use Rattle.tier_model.specs.declared.turn.Fault.TheVariants as faults
use Rattle.tier_model.specs.Kinds.{State}
use Rattle.run_model.specs.declared.trace.Found.{Found}
use Rattle.run_model.specs.declared.trace.Found.TheVariants.{Reads as ReadsList, Fault as Fails}
use Rattle.run_model.specs.World as worlds
use Rattle.run_model.specs.World.{kind_at, list_of}
use Rattle.run_model.specs.Text as texts
use Rattle.run_model.specs.BookingRuns.{config, BookingWorld}
use Rattle.world.specs.declared.nodes.all_nodes.Nodes.{Nodes}
use Rattle.world.specs.declared.nodes.condition.Condition.TheVariants as conditions
use Rattle.world.specs.Arming.{at_rest}
use Rattle.world.specs.Calling.{found_of}
use Rattle.world.specs.Disks.{IsReady, IsDiskOf, AreDisks, first_of}
use Rattle.world.specs.Parts.{NodePart, View, PartOf, shape, open_in, Restarts, AllStand, MayRead, Reads, list_found, is_down_in}
use Rattle.world.specs.NodeLists.{condition_in, condition_at, view_condition, KeepTiers, RestartIn, down_in, view_down}
use Rattle.world.specs.Telling.{told_restart, HadMemory}
use Rattle.world.specs.Standing.{mode_by, journal_of, state_at, IsPlaced, IsDoubted, IsOpen, IsNode, IsAt, AreNodes}
use Rattle.world.proofs.Calls.InWorlds.{journal-last, size_is, rest_content, stand_alone}
use Rattle.world.proofs.Calls.OfOneTier.{condition_is, down_is}
use Rattle.world.proofs.Calls.OnDisks.{view_of, view_is, as_viewed}
use Rattle.world.proofs.Calls.CommandsInWorlds.{Commanded}
use Rattle.world.proofs.Power.PutInPlace.{node_placed, node_kept}
use Rattle.world.proofs.Calls.NodesThere.{node_at, node_condition}
use Rattle.fact_journal.proofs.Opens.{each_get}

-- ONE OF THE LISTS

all_get : {A : Type 0} (P : A → Type 0) (xs : List A) (k : ℕ) (x : A) → AllByRecursion P xs → slice_get xs k ≡ Some x → P x
all_get P [] k x h e = absurd (cc)
all_get P (y ∷ xs) zero x h e = let f : y ≡ x = cc in subst P f h.0
all_get P (y ∷ xs) (suc k) x h e = all_get P xs k x h.1 e

stand_get : (t : Tier) (lists : List (List (List Fact))) (k : ℕ) (rs : List (List Fact)) → AllStand t lists → slice_get lists k ≡ Some rs → AllStand t (rs ∷ [])
stand_get t lists k rs h e = stand_alone t rs (each_get t lists k rs h.fit e) (h.can k rs e)

-- its length tells which one it is
names : {S : Type 0} (recover : List Fact → S) (node : NodeOf S Fact) (doubt : Bool) (k list known found : ℕ)
    (rs : List (List Fact)) → IsDoubted doubt node.records node.others
    → (doubt ≡ true → known + 1 ≡ journal_of node.records) → slice_get (node.records ∷ node.others) k ≡ Some rs
    → found + 1 ≡ journal_of rs → list ≡ list_found doubt known found
    → (found_at recover node list ≡ up_from recover rs) × (list ≤ length node.others)
names recover node false zero list known found rs d p g f e =
    let same : node.records ≡ rs = cc in
    (ap (found_at recover node) e ∙ ap (up_from recover) same, omega (arith, e))
names recover node false (suc k) list known found rs d p g f e = absurd (let h : slice_get [] k ≡ Some rs = subst (λ z. slice_get z k ≡ Some rs) d g in cc)
names recover node true zero list known found rs d p g f e =
    let same : node.records ≡ rs = cc in
    let long : known + 1 ≡ journal_of rs = p refl ∙ ap journal_of same in
    let no_more : nat_lt known found ≡ false = le-ltb known found (omega (arith, long, f)) in
    let none : list ≡ 0 = e ∙ ap (λ z. cond z 1 0) no_more in
    (ap (found_at recover node) none ∙ ap (up_from recover) same, omega (arith, none))
names recover node true (suc zero) list known found rs d p g f e =
    let h : slice_get ((node.records ++ d.0 ∷ []) ∷ []) 0 ≡ Some rs = subst (λ z. slice_get z 0 ≡ Some rs) d.2 g in
    let same : node.records ++ d.0 ∷ [] ≡ rs = cc in
    let long : known + 1 ≡ journal_of node.records = p refl in
    let longer : found + 1 ≡ journal_of node.records + (5 + length (record_text d.0)) = f ∙ ap journal_of (sym same)
    ∙ journal-last (λ facts. length (record_text facts)) node.records d.0 in
    let more : nat_lt known found ≡ true = lt-ltb known found (omega (arith, long, longer)) in
    let one : list ≡ 1 = e ∙ ap (λ z. cond z 1 0) more in
    (ap (found_at recover node) one ∙ ap (up_as recover node) g, omega (arith, one, ap length d.2))
names recover node true (suc (suc k)) list known found rs d p g f e = absurd
    (let h : slice_get ((node.records ++ d.0 ∷ []) ∷ []) (suc k) ≡ Some rs = subst (λ z. slice_get z (suc k) ≡ Some rs) d.2 g in cc)

-- A NODE THAT IS DOWN

abbrev pub IsAmong : List (List (List Fact)) → Found → Type 0
IsAmong others (ReadsList k) = k ≤ length others
IsAmong others Fails = Unit {0}

abbrev pub is_failing : Found → Bool
is_failing (ReadsList k) = false
is_failing Fails = true

-- it came up with one of the lists, or its disk failed
pub record Risen {S T : Type 0} (t : Tier) (whole : S → T) (open_of : S → ℕ) (recover : List Fact
    → T) (node : NodeOf T Fact) (new : NodePart S) (disk disk_after : DiskState) (found : Found) : Type 0 where
  pub is : IsNode t whole open_of (restarted recover node (list_of found) node.mode) new
  pub on : IsDiskOf (restarted recover node (list_of found) node.mode) disk_after
  pub among : IsAmong node.others found
  pub cause : is_failing found ≡ true → Rose disk.faults disk_after.faults

rises : {S T : Type 0} (t : Tier) (whole : S → T) (open_of : S → ℕ) (recover : List Fact → T) (node : NodeOf T Fact)
    (part new : NodePart S) (disk disk_after : DiskState) (result : Result ℕ NodeFault)
    → IsNode t whole open_of node part → IsDiskOf node disk → part.mode ≡ Down → HadMemory result
    → Reads t whole open_of recover part new (at_rest disk) disk_after (node.records ∷ node.others) result
    → Later (at_rest disk) disk_after → Risen t whole open_of recover node new disk disk_after (found_of result)
rises {S} {T} t whole open_of recover node part new disk disk_after (Ok list) k d m memory h later = record {
  is = subst (λ z. IsNode t whole open_of z new) (sym is_up) (record {
    mode = ap Up (sym h.3.2) ∙ sym (ap (mode_by whole) h.3.1);
    placed = subst (λ z. IsPlaced z new.place new.doubt h.1) (sym h.3.1) (place, h.4);
    doubted = subst (λ z. IsDoubted z h.1 []) (sym h.4) refl;
    within = (all_get (λ records. journal_of records ≤ JOURNAL_BYTES) (node.records ∷ node.others) h.0 h.1 k.within h.2, tt);
    stand = stand_get t (node.records ∷ node.others) h.0 h.1 k.stand h.2;
    opened = subst (λ z. IsOpen open_of z h.1) (sym h.3.1) h.3.3;
  });
  on = subst (λ z. IsDiskOf z disk_after) (sym is_up)
      (record {
        rest = later.free refl refl;
        lists = having_stands h.1 disk_after new.place (later.tells ∙ d.lists.tells) h.5;
        ready = (new.place, h.5);
      });
  among = named.1;
  cause = λ e. absurd (cc);
}
  where
    down : node.mode ≡ Down
    down = k.mode ∙ ap (mode_by whole) m

    place : new.place + 1 ≡ journal_of h.1
    place = h.5.long ∙ size_is h.1

    known : part.doubt ≡ true → part.place + 1 ≡ journal_of node.records
    known = subst (λ z. IsPlaced z part.place part.doubt node.records) m k.placed

    named : (found_at recover node list ≡ up_from recover h.1) × (list ≤ length node.others)
    named = names recover node part.doubt h.0 list part.place new.place h.1 k.doubted known h.2 place h.6

    is_up : restarted recover node (Some list) node.mode ≡ stands (Up (recover (newest h.1))) h.1
    is_up = ap (restarted recover node (Some list)) down ∙ named.0
rises {S} {T} t whole open_of recover node part new disk disk_after (Err faults.Disk) k d m memory h later = record {
  is = subst (λ z. IsNode t whole open_of z new) (sym same) (subst (IsNode t whole open_of node) (sym h.0) k);
  on = subst (λ z. IsDiskOf z disk_after) (sym same)
      (record { rest = later.free refl refl; lists = h.1; ready = subst (λ z. IsReady z node.records disk_after) (sym down) tt });
  among = tt;
  cause = λ e. rose h.2;
}
  where
    down : node.mode ≡ Down
    down = k.mode ∙ ap (mode_by whole) m

    same : restarted recover node None node.mode ≡ node
    same = ap (restarted recover node None) down

    rose : (disk_after.stopped ≡ true) ⊎ Rose disk.faults disk_after.faults → Rose disk.faults disk_after.faults
    rose (inl e) = absurd (let f : disk_after.stopped ≡ false = (later.free refl refl).1 in cc)
    rose (inr r) = r
rises t whole open_of recover node part new disk disk_after (Err faults.Memory) k d m memory h later = absurd memory
rises t whole open_of recover node part new disk disk_after (Err (faults.JournalFull size)) k d m memory h later = absurd h
rises t whole open_of recover node part new disk disk_after (Err (faults.BadRecord at)) k d m memory h later = absurd h

down_mode : {S : Type 0} (m : Mode S) → condition_in m ≡ conditions.Down → m ≡ Down
down_mode (Up s) e = absurd (cc)
down_mode Down e = refl
down_mode Gone e = absurd (cc)

-- what a restart can answer
abbrev IsRestart : Result ℕ NodeFault → Type 0
IsRestart (Ok list) = Unit {0}
IsRestart (Err faults.Disk) = Unit {0}
IsRestart (Err faults.Memory) = Unit {0}
IsRestart (Err (faults.JournalFull size)) = ⊥
IsRestart (Err (faults.BadRecord at)) = ⊥

told_is : {S : Type 0} (n : NodeId) (result : Result ℕ NodeFault) (m : Mode S) → m ≡ Down → HadMemory result
    → IsRestart result → texts.restart_text (texts.node_name n) (found_of result) m ≡ told_restart n result
told_is n (Ok list) m e k r = ap (texts.restart_text (texts.node_name n) (ReadsList list)) e
told_is n (Err faults.Disk) m e k r = ap (texts.restart_text (texts.node_name n) Fails) e
told_is n (Err faults.Memory) m e k r = absurd k
told_is n (Err (faults.JournalFull size)) m e k r = absurd r
told_is n (Err (faults.BadRecord at)) m e k r = absurd r

read_is : {S T : Type 0} (t : Tier) (whole : S → T) (open_of : S → ℕ) (recover : List Fact → T) (old new : NodePart S)
    (before after : DiskState) (lists : List (List (List Fact))) (result : Result ℕ NodeFault)
    → Reads t whole open_of recover old new before after lists result → IsRestart result
read_is t whole open_of recover old new before after lists (Ok list) h = tt
read_is t whole open_of recover old new before after lists (Err faults.Disk) h = tt
read_is t whole open_of recover old new before after lists (Err faults.Memory) h = tt
read_is t whole open_of recover old new before after lists (Err (faults.JournalFull size)) h = h
read_is t whole open_of recover old new before after lists (Err (faults.BadRecord at)) h = h

rest_stands : {T : Type 0} (node : NodeOf T Fact) (disk : DiskState) → IsDiskOf node disk → StandsFor (node.records ∷ node.others) (at_rest disk)
rest_stands node disk d = same_stands (node.records ∷ node.others) disk (at_rest disk) d.lists (rest_content disk) refl

-- WHAT A RESTART ASKS

pub may_read : (u depth : ℕ) (w : BookingWorld) (nodes : Nodes) (t : Tier) (x : ℕ) (disks : List DiskState) (disk : DiskState) → u ≤ 2
    → AreNodes u depth w nodes → AreDisks w disks → x < 2 * u + 1 → slice_get disks (first_of t + x) ≡ Some disk → MayRead t (at_rest disk)
may_read u depth w nodes t x disks disk few k d l e =
    let on = d.at t x disk (omega (arith, few, l)) e in
    ((w.nodes t x).records ∷ (w.nodes t x).others, rest_stands (w.nodes t x) disk on, (node_at u depth w nodes t x k l).2.part.stand)

pub keep_tiers : (u depth : ℕ) (w : BookingWorld) (nodes : Nodes) → AreNodes u depth w nodes → KeepTiers nodes
keep_tiers u depth w nodes k = record { invs = λ x b e. ((k.at Inv).each x b e).tier; pays = λ x b e. ((k.at Pay).each x b e).tier }

down_by : {S : Type 0} (m : Mode S) → condition_in m ≡ conditions.Down → is_down_in m ≡ true
down_by (Up s) e = absurd (cc)
down_by Down e = refl
down_by Gone e = absurd (cc)

pub is_down_there : (u depth : ℕ) (w : BookingWorld) (nodes : Nodes) (t : Tier) (x : ℕ) → AreNodes u depth w nodes → x < 2 * u + 1
    → condition_at nodes t x ≡ conditions.Down → down_in nodes t x ≡ true
is_down_there u depth w nodes t x k l e =
    let m = node_at u depth w nodes t x k l in
    down_is nodes t x ∙ ap view_down m.1 ∙ down_by m.0.part.mode (sym (ap view_condition m.1) ∙ sym (condition_is nodes t x) ∙ e)

-- THE NODE'S EVENT

-- what the node of the tier reads
reads_here : (u depth : ℕ) (t : Tier) (x : ℕ) (part : NodePart (PartOf t)) (v : View (PartOf t)) (before after : DiskState)
    (lists : List (List (List Fact))) (result : Result ℕ NodeFault) → Restarts (shape t) (view_of u depth t x part) v before after result
    → StandsFor lists before → AllStand t lists
    → Reads t (state_at u depth t x) (open_in (shape t)) (kind_at (config u depth) t x).recovered part v.part before after lists result
reads_here u depth MidTier x part v before after lists result h s a = h.reads lists s a
reads_here u depth Inv x part v before after lists result h s a = h.reads lists s a
reads_here u depth Pay x part v before after lists result h s a = h.reads lists s a

pub restart_by : (u depth : ℕ) (w : BookingWorld) (old new : Nodes) (n : NodeId) (disks : List DiskState) (disk disk_after : DiskState)
    (result : Result ℕ NodeFault) (t : Tier) → u ≤ 2 → AreNodes u depth w old → AreDisks w disks → n.index < 2 * u + 1
    → slice_get disks (first_of t + n.index) ≡ Some disk → condition_at old t n.index ≡ conditions.Down → HadMemory result
    → RestartIn old new t n.index (at_rest disk) disk_after result
    → Commanded u depth w (worlds.restarts (config u depth) w (found_of result) t n.index) new (slice_set disks (first_of t + n.index) disk_after) []
    (texts.restart_text (texts.node_name n) (found_of result) (w.nodes t n.index).mode) (told_restart n result)
    × IsAmong (w.nodes t n.index).others (found_of result) × (is_failing (found_of result) ≡ true → Rose disk.faults disk_after.faults)
    × (disk.faults ≤ disk_after.faults)
restart_by u depth w old new n disks disk disk_after result t few k d l b c memory move =
    let x = n.index in
    let m = node_at u depth w old t x k l in
    let i = m.2 in
    let v = move.0 m.0 m.1 in
    let node = w.nodes t x in
    let lists = node.records ∷ node.others in
    let recover : List Fact → State Amounts t = (kind_at (config u depth) t x).recovered in
    let h : Restarts (shape t) (view_of u depth t x m.0.part) v.0 (at_rest disk) disk_after result =
    subst (λ z. Restarts (shape t) z v.0 (at_rest disk) disk_after result) (view_is u depth t x node m.0 i) v.2 in
    let on = d.at t x disk (omega (arith, few, l)) b in
    let down : m.0.part.mode ≡ Down = down_mode m.0.part.mode (sym (ap view_condition m.1) ∙ sym (condition_is old t x) ∙ c) in
    let read = reads_here u depth t x m.0.part v.0 (at_rest disk) disk_after lists result h (rest_stands node disk on) i.part.stand in
    let r = rises t (state_at u depth t x) (open_in (shape t)) recover node m.0.part v.0.part disk disk_after result i.part on down memory read h.later in
    let up = restarted recover node (list_of (found_of result)) node.mode in
    let to : IsAt u depth t x up v.0 = as_viewed u depth t x v.0 h.same up v.0.part r.is in (
      node_placed u depth w old new t x disks disk_after up v.0 _ (told_restart n result) few l k d to r.on v.1 move.1
          (told_is n result node.mode (i.part.mode ∙ ap (mode_by _) down) memory
          (read_is t (state_at u depth t x) (open_in (shape t)) recover m.0.part v.0.part (at_rest disk) disk_after lists result read)),
      r.among,
      r.cause,
      h.later.faults,
    )

-- A NODE THAT ISN'T DOWN

restarted_up : {S : Type 0} (recover : List Fact → S) (node : NodeOf S Fact) (found : Option ℕ) (m : Mode S)
    → condition_in m ≡ conditions.Up → restarted recover node found m ≡ node
restarted_up recover node (Some k) (Up s) e = refl
restarted_up recover node None (Up s) e = refl
restarted_up recover node found Down e = absurd (cc)
restarted_up recover node found Gone e = absurd (cc)

restarted_gone : {S : Type 0} (recover : List Fact → S) (node : NodeOf S Fact) (found : Option ℕ) (m : Mode S)
    → condition_in m ≡ conditions.Gone → restarted recover node found m ≡ node
restarted_gone recover node found (Up s) e = absurd (cc)
restarted_gone recover node found Down e = absurd (cc)
restarted_gone recover node (Some k) Gone e = refl
restarted_gone recover node None Gone e = refl

up_told : {S : Type 0} (n : NodeId) (found : Found) (m : Mode S) → condition_in m ≡ conditions.Up
    → texts.restart_text (texts.node_name n) found m ≡ texts.idle_line (texts.node_name n) (codes "up")
up_told n found (Up s) e = refl
up_told n found Down e = absurd (cc)
up_told n found Gone e = absurd (cc)

gone_told : {S : Type 0} (n : NodeId) (found : Found) (m : Mode S) → condition_in m ≡ conditions.Gone
    → texts.restart_text (texts.node_name n) found m ≡ texts.gone_line (texts.node_name n)
gone_told n found (Up s) e = absurd (cc)
gone_told n found Down e = absurd (cc)
gone_told n found Gone e = refl

pub restart_up : (u depth : ℕ) (w : BookingWorld) (old : Nodes) (n : NodeId) (disks : List DiskState) (found : Found) (t : Tier) → u ≤ 2
    → AreNodes u depth w old → AreDisks w disks → n.index < 2 * u + 1 → condition_at old t n.index ≡ conditions.Up
    → Commanded u depth w (worlds.restarts (config u depth) w found t n.index) old disks []
    (texts.restart_text (texts.node_name n) found (w.nodes t n.index).mode) (texts.idle_line (texts.node_name n) (codes "up"))
restart_up u depth w old n disks found t few k d l e =
    let node = w.nodes t n.index in
    let recover : List Fact → State Amounts t = (kind_at (config u depth) t n.index).recovered in
    let is : condition_in node.mode ≡ conditions.Up = sym (node_condition u depth w old t n.index k l) ∙ e in
    node_kept u depth w old t n.index disks (restarted recover node (list_of found) node.mode) _ (texts.idle_line (texts.node_name n) (codes "up")) few l k d
    (restarted_up recover node (list_of found) node.mode is) (up_told n found node.mode is)

pub restart_gone : (u depth : ℕ) (w : BookingWorld) (old : Nodes) (n : NodeId) (disks : List DiskState) (found : Found) (t : Tier) → u ≤ 2
    → AreNodes u depth w old → AreDisks w disks → n.index < 2 * u + 1 → condition_at old t n.index ≡ conditions.Gone
    → Commanded u depth w (worlds.restarts (config u depth) w found t n.index) old disks []
    (texts.restart_text (texts.node_name n) found (w.nodes t n.index).mode) (texts.gone_line (texts.node_name n))
restart_gone u depth w old n disks found t few k d l e =
    let node = w.nodes t n.index in
    let recover : List Fact → State Amounts t = (kind_at (config u depth) t n.index).recovered in
    let is : condition_in node.mode ≡ conditions.Gone = sym (node_condition u depth w old t n.index k l) ∙ e in
    node_kept u depth w old t n.index disks (restarted recover node (list_of found) node.mode) _ (texts.gone_line (texts.node_name n)) few l k d
    (restarted_gone recover node (list_of found) node.mode is) (gone_told n found node.mode is)
