-- How the disks fare in a run, event by event.
use Rattle.std.proofs.Common.{◌≡◌, ◌⊎◌, inl, inr, ℕ, zero, suc, ◌+◌, ◌<◌, ◌≤◌, ◌&&◌, nat_le, Bool, true, false, List}
use Rattle.std.proofs.Common.{[], ◌∷◌, ◌++◌, length, map, Option, Some, None, get_or, refl, sym, ap, subst, ◌∙◌}
use Rattle.std.proofs.Common.{if◌then◌else◌, arith}
use Rattle.std.specs.Prelude.{slice_get, min, ◌-◌, ◌^◌}
use Rattle.std.proofs.lemmas.Option.{slice_get_within, slice_get-get_or}
use Rattle.std.proofs.lemmas.Bool.{leb-true, and_parts, false_from_ne_true, eqb-true}
use Rattle.aeg_base.specs.declared.names.NodeId.{NodeId}
use Rattle.aeg_disk.specs.Disk.{DiskState, Rose}
use Rattle.server_model.specs.Backends.{Amounts}
use Rattle.run_model.specs.declared.trace.Fared.{Fared}
use Rattle.run_model.specs.declared.trace.Fared.TheVariants.{Fine, Cut, Fault}
use Rattle.run_model.specs.declared.trace.Found.{Found}
use Rattle.run_model.specs.declared.trace.Found.TheVariants.{Reads, Fault as Fails}
use Rattle.run_model.specs.declared.trace.TraceEvent.{TraceEvent}
use Rattle.run_model.specs.declared.trace.TraceEvent.TheVariants.{Submit, Deliver, Short, Lead, Offer, Work, Retry, Crash, Restart, Wipe}
use Rattle.run_model.specs.BookingRuns.{BookingWorld}
use Rattle.run_model.specs.Script.{Script}
use Rattle.run_model.specs.World.{Config, start}
use Rattle.run_model.specs.Runs.{run, world}
use Rattle.run_model.specs.Text.{after}
use Rattle.run_model.specs.Resolving.{is_fine, is_sure, AllSure, others_at, Finds, AllFind, AllBecome, all_nodes, starts}
use Rattle.run_model.specs.Standings.{IsSole}
use Rattle.run_model.proofs.Appending.{run-append}
use Rattle.run_model.proofs.Beginning.{becomes_restart}
use Rattle.run_model.proofs.Resolved.{sure-last}
use Rattle.run_model.proofs.Sole.{sole_at, start_sole, sole_after}
use Rattle.world.specs.Disks.{AreDisks, is_fault, is_faulty, place_of, place_in, RoseAt, HasCause, AllCaused, NoneFell}
use Rattle.aegean_main.specs.DiskFaults.{is_place, fails_at, faults_at, CountsFaults, NoneRose}
use Rattle.aegean_main.specs.Playing.{DisksStand}
use Rattle.aegean_main.specs.Replay.{tiers}
use Rattle.world.proofs.Power.CountsOfFaults.{same_read}

-- PLACES

-- a list of the same length has a disk there too
there : (xs ys : List DiskState) (x : ℕ) (a : DiskState) → length ys ≡ length xs → slice_get xs x ≡ Some a → (b : DiskState) × (slice_get ys x ≡ Some b)
there xs ys x a e h =
    let l : x < length xs = slice_get_within xs x a h in
    (get_or ys x a, slice_get-get_or ys x a (omega (arith, l, e)))

-- COUNTS

fell_on : (first now new : List DiskState) → NoneFell first now → NoneFell now new → NoneFell first new
fell_on first now new h k = (
  k.0 ∙ h.0,
  λ x a c e g. let b = there first now x a h.0 e in
      let one : a.faults ≤ b.0.faults = h.1 x a b.0 e b.1 in
      let two : b.0.faults ≤ c.faults = k.1 x b.0 c b.1 g in
      omega (arith, one, two),
)

-- where none rose at the end none had risen before
none_rose_before : (first now new : List DiskState) → NoneFell now new → NoneRose first new → NoneRose first now
none_rose_before first now new k n x a b e g r =
    let c = there now new x b k.0 g in
    let more : b.faults ≤ c.0.faults = k.1 x b c.0 g c.1 in
    n x a c.0 e c.1 (omega (arith, r, more))

none_rose_at : (first now new : List DiskState) (x : ℕ) → NoneFell first now → NoneRose first new → RoseAt now new x → ⊥
none_rose_at first now new x h n r =
    let a = there now first x r.0 (sym h.0) r.2 in
    let less : a.0.faults ≤ r.0.faults = h.1 x a.0 r.0 a.1 r.2 in
    let rose : Rose r.0.faults r.1.faults = r.4 in
    n x a.0 r.1 a.1 r.3 (omega (arith, rose, less))

-- SURE EVENTS

fares_well : (fared : Fared) → is_fault fared ≡ false → is_fine fared ≡ true
fares_well Fine h = refl
fares_well (Cut nth keep) h = refl
fares_well Fault h = absurd (cc)

-- an event without a fault, where each disk stands for one list
is_sure_by : (w : BookingWorld) (e : TraceEvent) → IsSole w → Finds w e → is_faulty e ≡ false → is_sure e ≡ true
is_sure_by w (Deliver k fared) s f h = fares_well fared h
is_sure_by w (Short k bytes fared) s f h = fares_well fared h
is_sure_by w (Lead n fared) s f h = fares_well fared h
is_sure_by w (Offer n fared) s f h = fares_well fared h
is_sure_by w (Restart n (Reads zero)) s f h = refl
is_sure_by w (Restart n (Reads (suc k))) s f h =
    let none : length (others_at w n.tier n.index) ≡ 0 = ap length (sole_at w n.tier n.index s) in
    let within : suc k ≤ length (others_at w n.tier n.index) = f in
    absurd (omega (arith, none, within))
is_sure_by w (Restart n Fails) s f h = absurd (cc)
is_sure_by w (Submit y text) s f h = refl
is_sure_by w (Work n schedule) s f h = refl
is_sure_by w (Retry end) s f h = refl
is_sure_by w (Crash n) s f h = refl
is_sure_by w (Wipe n) s f h = refl

-- FAULTS AT A DISK

none_more : (a : ℕ) → a ≡ 0 + a
none_more a = omega arith

plus_assoc : (a b d : ℕ) → a + (b + d) ≡ (a + b) + d
plus_assoc a b d = omega arith

faults-append : (c : Config Amounts) (w : BookingWorld) (x : ℕ) (es fs : List TraceEvent)
    → faults_at c w x (es ++ fs) ≡ faults_at c w x es + faults_at c (run c es w) x fs
faults-append c w x [] fs = none_more (faults_at c w x fs)
faults-append c w x (e ∷ es) fs =
    ap (λ (z : ℕ). (if fails_at w x e then 1 else 0) + z) (faults-append c (after c w e) x es fs)
    ∙ plus_assoc (if fails_at w x e then 1 else 0) (faults_at c (after c w e) x es) (faults_at c (run c es (after c w e)) x fs)

same_place : (x y : ℕ) (o : Option ℕ) → is_place x o ≡ true → o ≡ Some y → x ≡ y
same_place x y None h e = absurd (cc)
same_place x y (Some z) h e = let same : z ≡ y = cc in eqb-true x z h ∙ same

-- the disk at x counted its fault
rose_there : (w : BookingWorld) (old new : List DiskState) (x : ℕ) (e : TraceEvent) → HasCause w old new e → fails_at w x e ≡ true → RoseAt old new x
rose_there w old new x e h f =
    let both = and_parts (is_faulty e) (is_place x (place_in w e)) f in
    let cause = h both.0 in
    let same : x ≡ cause.0 = same_place x cause.0 (place_in w e) both.1 cause.1 in
    subst (λ (z : ℕ). RoseAt old new z) (sym same) cause.2

rose_by : (old new : List DiskState) (x : ℕ) (a b : DiskState) → RoseAt old new x → slice_get old x ≡ Some a → slice_get new x ≡ Some b → Rose a.faults b.faults
rose_by old new x a b r e f =
    let one : r.0 ≡ a = same_read (slice_get old x) r.0 a r.2 e in
    let two : r.1 ≡ b = same_read (slice_get new x) r.1 b r.3 f in
    subst (λ (z : DiskState). Rose z.faults b.faults) one (subst (λ (z : DiskState). Rose r.0.faults z.faults) two r.4)

-- one event more
counts_by : (w : BookingWorld) (x had many : ℕ) (n b : DiskState) (now new : List DiskState) (e : TraceEvent) (t : Bool)
    → fails_at w x e ≡ t → min (had + many) (2 ^ 64 - 1) ≤ n.faults → n.faults ≤ b.faults → slice_get now x ≡ Some n
    → slice_get new x ≡ Some b
    → HasCause w now new e → min (had + (many + ((if t then 1 else 0) + 0))) (2 ^ 64 - 1) ≤ b.faults
counts_by w x had many n b now new e false f low more g k h = omega (arith, low, more)
counts_by w x had many n b now new e true f low more g k h =
    let rose : Rose n.faults b.faults = rose_by now new x n b (rose_there w now new x e h f) g k in
    omega (arith, low, rose)

counts-last : (c : Config Amounts) (es : List TraceEvent) (e : TraceEvent) (first now new : List DiskState)
    → CountsFaults c es first now → NoneFell first now → NoneFell now new → HasCause (world c es) now new e
    → CountsFaults c (es ++ e ∷ []) first new
counts-last c es e first now new h l m cause x a b p q =
    let n = there first now x a l.0 p in
    let count : faults_at c start x (es ++ e ∷ [])
    ≡ faults_at c start x es + ((if fails_at (world c es) x e then 1 else 0) + 0) = faults-append c start x es (e ∷ []) in
    let by = counts_by (world c es) x a.faults (faults_at c start x es) n.0 b now new e (fails_at (world c es) x e) refl
    (h x a n.0 p n.1) (m.1 x n.0 b n.1 q) n.1 q cause in
    subst (λ (z : ℕ). min (a.faults + z) (2 ^ 64 - 1) ≤ b.faults) (sym count) by

-- A RUN'S DISKS

-- one event more
pub disks_more : (script : Script) (es : List TraceEvent) (e : TraceEvent) (first now new : List DiskState)
    → DisksStand script es first now → Finds (world (tiers script) es) e → HasCause (world (tiers script) es) now new e
    → NoneFell now new
    → AreDisks (world (tiers script) (es ++ e ∷ [])) new → DisksStand script (es ++ e ∷ []) first new
disks_more script es e first now new s f cause m d =
    let on : world (tiers script) (es ++ e ∷ []) ≡ after (tiers script) (world (tiers script) es) e = run-append (tiers script) es (e ∷ []) start in
    let had : NoneRose first new → NoneRose first now = none_rose_before first now new m in
    let sure : NoneRose first new → is_sure e ≡ true = λ n.
    is_sure_by (world (tiers script) es) e (s.sole (had n)) f
    (false_from_ne_true (is_faulty e) (λ t. let c = cause t in none_rose_at first now new c.0 s.later n c.2)) in
    record {
      leaves = record {
        disks = d;
        counted = counts-last (tiers script) es e first now new s.leaves.counted s.later m cause;
        sure = λ n. sure-last es e (s.leaves.sure (had n)) (sure n);
      };
      later = fell_on first now new s.later m;
      sole = λ n. subst IsSole (sym on) (sole_after (tiers script) (world (tiers script) es) e (sure n) (s.sole (had n)));
    }

-- THE FIRST RESTARTS

first_sure : (c : Config Amounts) (es : List TraceEvent) (w : BookingWorld) (old new : List DiskState) → AllFind c w es
    → AllCaused old new es → NoneRose old new → IsSole w → AllSure es × IsSole (run c es w)
first_sure c [] w old new f h n s = (tt, s)
first_sure c (e ∷ es) w old new f h n s =
    let sure : is_sure e ≡ true = is_sure_by w e s f.0
    (false_from_ne_true (is_faulty e)
    (λ t. let cause = h.0 t in n cause.0 cause.2.0 cause.2.1 cause.2.2 cause.2.3 cause.2.4)) in
    let rest = first_sure c es (after c w e) old new f.1 h.1 n (sole_after c w e sure s) in
    ((sure, rest.0), rest.1)

-- the places of these nodes ascend from here
abbrev ascends : ℕ → List NodeId → Bool
ascends low [] = true
ascends low (n ∷ ns) = nat_le low (place_of n) && ascends (suc (place_of n)) ns

nodes_ascend : (u : ℕ) → u ≤ 2 → ascends 0 (all_nodes u) ≡ true
nodes_ascend zero l = refl
nodes_ascend (suc zero) l = refl
nodes_ascend (suc (suc zero)) l = refl
nodes_ascend (suc (suc (suc u))) l = absurd (omega arith)

-- a restart that failed at x is one of the node there
fails_here : (w : BookingWorld) (x : ℕ) (n : NodeId) (e : TraceEvent) (found : Found) → e ≡ Restart n found → fails_at w x e ≡ true → x ≡ place_of n
fails_here w x n e found r f =
    let both = and_parts (is_faulty e) (is_place x (place_in w e)) f in
    same_place x (place_of n) (place_in w e) both.1 (ap (λ (z : TraceEvent). place_in w z) r)

within : (a b : ℕ) (t : Bool) → nat_le a b && t ≡ true → (a ≤ b) × (t ≡ true)
within a b t h = let both = and_parts (nat_le a b) t h in (leb-true a b both.0, both.1)

none_below : (c : Config Amounts) (ns : List NodeId) (es : List TraceEvent) (w : BookingWorld) (low x : ℕ)
    → AllBecome (map (λ n. Restart n (Reads 0)) ns) es → ascends low ns ≡ true → x < low → faults_at c w x es ≡ 0
none_below c [] [] w low x h a l = refl
none_below c [] (e ∷ es) w low x h a l = absurd h
none_below c (n ∷ ns) [] w low x h a l = absurd h
none_below c (n ∷ ns) (e ∷ es) w low x h a l =
    let r = becomes_restart n e h.0 in
    let up = within low (place_of n) (ascends (suc (place_of n)) ns) a in
    let not_here : fails_at w x e ≡ false = false_from_ne_true (fails_at w x e) (λ t. let same : x
    ≡ place_of n = fails_here w x n e r.0 r.1 t in omega (arith, same, up.0, l)) in
    ap (λ (z : Bool). (if z then 1 else 0) + faults_at c (after c w e) x es) not_here
    ∙ sym (none_more (faults_at c (after c w e) x es))
    ∙ none_below c ns es (after c w e) (suc (place_of n)) x h.1 up.1 (omega (arith, up.0, l))

-- a disk failed at most once, and counted it
abbrev OneOrNone : Config Amounts → BookingWorld → ℕ → List TraceEvent → List DiskState → List DiskState → Type 0
OneOrNone c w x es old new = (faults_at c w x es ≡ 0) ⊎ ((faults_at c w x es ≡ 1) × RoseAt old new x)

rose_restart : (w : BookingWorld) (old new : List DiskState) (x : ℕ) (n : NodeId) (e : TraceEvent) (found : Found)
    → e ≡ Restart n found → HasCause start old new e → fails_at w x e ≡ true → RoseAt old new x
rose_restart w old new x n e found g h f = rose_there start old new x e h (ap (λ (z : TraceEvent). fails_at start x z) g
    ∙ sym (ap (λ (z : TraceEvent). fails_at w x z) g) ∙ f)

count_of : (c : Config Amounts) (w : BookingWorld) (x : ℕ) (e : TraceEvent) (es : List TraceEvent) (t : Bool)
    → fails_at w x e ≡ t → faults_at c w x (e ∷ es) ≡ (if t then 1 else 0) + faults_at c (after c w e) x es
count_of c w x e es t f = ap (λ (z : Bool). (if z then 1 else 0) + faults_at c (after c w e) x es) f

one_more : (c : Config Amounts) (w : BookingWorld) (old new : List DiskState) (x : ℕ) (e : TraceEvent)
    (es : List TraceEvent) (t : Bool) → fails_at w x e ≡ t
    → (fails_at w x e ≡ true → (faults_at c (after c w e) x es ≡ 0) × RoseAt old new x)
    → OneOrNone c (after c w e) x es old new → OneOrNone c w x (e ∷ es) old new
one_more c w old new x e es true f here rest = inr (count_of c w x e es true f ∙ ap (λ (z : ℕ). 1 + z) (here f).0, (here f).1)
one_more c w old new x e es false f here (inl none) = inl (count_of c w x e es false f ∙ sym (none_more (faults_at c (after c w e) x es)) ∙ none)
one_more c w old new x e es false f here (inr one) = inr (count_of c w x e es false f ∙ sym (none_more (faults_at c (after c w e) x es)) ∙ one.0, one.1)

one_or_none : (c : Config Amounts) (ns : List NodeId) (es : List TraceEvent) (w : BookingWorld)
    (old new : List DiskState) (low x : ℕ) → AllBecome (map (λ n. Restart n (Reads 0)) ns) es → AllCaused old new es
    → ascends low ns ≡ true → OneOrNone c w x es old new
one_or_none c [] [] w old new low x h k a = inl refl
one_or_none c [] (e ∷ es) w old new low x h k a = absurd h
one_or_none c (n ∷ ns) [] w old new low x h k a = absurd h
one_or_none c (n ∷ ns) (e ∷ es) w old new low x h k a =
    let r = becomes_restart n e h.0 in
    let up = within low (place_of n) (ascends (suc (place_of n)) ns) a in
    one_more c w old new x e es (fails_at w x e) refl
    (λ f. let same : x ≡ place_of n = fails_here w x n e r.0 r.1
    f in (
      none_below c ns es (after c w e) (suc (place_of n)) x h.1 up.1 (omega (arith, same)),
      rose_restart w old new x n e r.0 r.1 k.0 f,
    ))
    (one_or_none c ns es (after c w e) old new (suc (place_of n)) x h.1 k.1 up.1)

counts_of : (c : Config Amounts) (es : List TraceEvent) (old new : List DiskState) (x : ℕ) (a b : DiskState)
    → OneOrNone c start x es old new → a.faults ≤ b.faults → slice_get old x ≡ Some a → slice_get new x ≡ Some b
    → min (a.faults + faults_at c start x es) (2 ^ 64 - 1) ≤ b.faults
counts_of c es old new x a b (inl none) more p q = omega (arith, none, more)
counts_of c es old new x a b (inr one) more p q = let rose : Rose a.faults b.faults = rose_by old new x a b one.1 p q in omega (arith, one.0, rose)

first_counts : (c : Config Amounts) (es : List TraceEvent) (old new : List DiskState) → c.u ≤ 2
    → AllBecome (starts c.u) es → AllCaused old new es → NoneFell old new → CountsFaults c es old new
first_counts c es old new few h k l x a b p q = counts_of c es old new x a b
    (one_or_none c (all_nodes c.u) es start old new 0 x h k (nodes_ascend c.u few)) (l.1 x a b p q) p q

pub disks_first : (script : Script) (es : List TraceEvent) (old new : List DiskState) → script.u ≤ 2
    → AllBecome (starts script.u) es → AllFind (tiers script) start es → AllCaused old new es → NoneFell old new
    → AreDisks (world (tiers script) es) new
    → DisksStand script es old new
disks_first script es old new few h f k l d = record {
  leaves = record {
    disks = d;
    counted = first_counts (tiers script) es old new few h k l;
    sure = λ n. (first_sure (tiers script) es start old new f k n start_sole).0;
  };
  later = l;
  sole = λ n. (first_sure (tiers script) es start old new f k n start_sole).1;
}
