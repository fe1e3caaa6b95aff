-- Counts of faults never fall, and what rose has risen.
use Rattle.std.proofs.Common.{◌≡◌, ℕ, ◌+◌, ◌-◌, ◌^◌, ◌≤◌, min, List, [], ◌∷◌, ◌++◌, refl, sym, ◌∙◌, subst, arith, Option, Some, zero, suc}
use Rattle.std.proofs.lemmas.Option.{slice_get_within}
use Rattle.std.specs.Prelude.{slice_get, slice_set}
use Rattle.std.proofs.lemmas.List.{length-set}
use Rattle.std.proofs.Math.Nat.{min-le_left, min-le_right, le-min}
use Rattle.aeg_base.specs.declared.names.NodeId.{NodeId}
use Rattle.aeg_disk.specs.Disk.{DiskState, Rose}
use Rattle.run_model.specs.declared.trace.Fared.TheVariants.{Fine, Cut, Fault}
use Rattle.run_model.specs.declared.trace.Found.TheVariants.{Reads}
use Rattle.run_model.specs.declared.trace.TraceEvent.{TraceEvent}
use Rattle.run_model.specs.declared.trace.TraceEvent.TheVariants.{Submit, Deliver, Short, Lead, Offer, Work, Retry, Crash, Restart, Wipe}
use Rattle.run_model.specs.World.{start}
use Rattle.run_model.specs.Resolving.{Becomes}
use Rattle.run_model.specs.BookingRuns.{BookingWorld}
use Rattle.world.specs.Disks.{RoseAt, HasCause, AllCaused, NoneFell}
use Rattle.log_model.proofs.Basics.{get_within}

-- what is read twice
pub same_read : (o : Option DiskState) (a b : DiskState) → o ≡ Some a → o ≡ Some b → a ≡ b
same_read o a b e f = let g : Some a ≡ Some b = sym e ∙ f in cc

pub falls_none : (disks : List DiskState) → NoneFell disks disks
falls_none disks = (refl, λ x a b e f. subst (λ (z : DiskState). a.faults ≤ z.faults) (same_read (slice_get disks x) a b e f) (omega arith))

set_counts : (ds : List DiskState) (at : ℕ) (disk disk_after : DiskState) (x : ℕ) (a b : DiskState)
    → slice_get ds at ≡ Some disk → disk.faults ≤ disk_after.faults → slice_get ds x ≡ Some a
    → slice_get (slice_set ds at disk_after) x ≡ Some b → a.faults ≤ b.faults
set_counts [] at disk disk_after x a b e l g h = absurd (cc)
set_counts (d ∷ ds) zero disk disk_after zero a b e l g h = let p : disk ≡ a = cc in let q : disk_after
    ≡ b = cc in subst (λ (z : DiskState). z.faults ≤ b.faults) p (subst (λ (z : DiskState). disk.faults ≤ z.faults) q l)
set_counts (d ∷ ds) zero disk disk_after (suc x) a b e l g h = subst (λ (z : DiskState). a.faults ≤ z.faults) (same_read (slice_get ds x) a b g h) (omega arith)
set_counts (d ∷ ds) (suc at) disk disk_after zero a b e l g h = let p : a ≡ b = cc in subst (λ (z : DiskState). a.faults ≤ z.faults) p (omega arith)
set_counts (d ∷ ds) (suc at) disk disk_after (suc x) a b e l g h = set_counts ds at disk disk_after x a b e l g h

pub falls_set : (disks disks_after : List DiskState) (at : ℕ) (disk disk_after : DiskState)
    → slice_get disks at ≡ Some disk → disks_after ≡ slice_set disks at disk_after → disk.faults ≤ disk_after.faults
    → NoneFell disks disks_after
falls_set disks disks_after at disk disk_after e f l = subst (NoneFell disks) (sym f) (
  length-set disks at disk_after,
  λ x a b g h. set_counts disks at disk disk_after x a b e l g h,
)

pub falls_then : (before mid after : List DiskState) → NoneFell before mid → NoneFell mid after → NoneFell before after
falls_then before mid after h k = (
  k.0 ∙ h.0,
  λ x a b e f.
      let c = get_within mid x (omega (arith, h.0, slice_get_within before x a e)) in
      let l : a.faults ≤ c.0.faults = h.1 x a c.0 e c.1 in
      let m : c.0.faults ≤ b.faults = k.1 x c.0 b c.1 f in
      omega (arith, l, m),
)

-- WHAT ROSE

rose_then : (a b c d : ℕ) → a ≤ b → Rose b c → c ≤ d → Rose a d
rose_then a b c d l r m =
    let p : min (a + 1) (2 ^ 64 - 1) ≤ a + 1 = min-le_left (a + 1) (2 ^ 64 - 1) in
    let q : min (a + 1) (2 ^ 64 - 1) ≤ 2 ^ 64 - 1 = min-le_right (a + 1) (2 ^ 64 - 1) in
    let s : min (a + 1) (2 ^ 64 - 1) ≤ min (b + 1) (2 ^ 64 - 1) = le-min (omega (arith, p, l)) q in
    omega (arith, s, r, m)

later_rose : (before mid after : List DiskState) (x : ℕ) → NoneFell mid after → RoseAt before mid x → RoseAt before after x
later_rose before mid after x k r =
    let c = get_within after x (omega (arith, k.0, slice_get_within mid x r.1 r.3)) in
    (r.0, c.0, r.2, c.1, rose_then r.0.faults r.0.faults r.1.faults c.0.faults (omega arith) r.4 (k.1 x r.1 c.0 r.3 c.1))

sooner_rose : (before mid after : List DiskState) (x : ℕ) → NoneFell before mid → RoseAt mid after x → RoseAt before after x
sooner_rose before mid after x k r =
    let a = get_within before x (omega (arith, k.0, slice_get_within mid x r.0 r.2)) in
    (a.0, r.1, a.1, r.3, rose_then a.0.faults r.0.faults r.1.faults r.1.faults (k.1 x a.0 r.0 a.1 r.2) r.4 (omega arith))

-- CAUSES OF RESTARTS

later_cause : (before mid after : List DiskState) (e : TraceEvent) → NoneFell mid after → HasCause start before mid e → HasCause start before after e
later_cause before mid after e k h = λ f. let c = h f in (c.0, c.1, later_rose before mid after c.0 k c.2)

sooner_cause : (before mid after : List DiskState) (e : TraceEvent) → NoneFell before mid → HasCause start mid after e → HasCause start before after e
sooner_cause before mid after e k h = λ f. let c = h f in (c.0, c.1, sooner_rose before mid after c.0 k c.2)

pub all_caused : (before mid after : List DiskState) (es fs : List TraceEvent) → NoneFell before mid
    → NoneFell mid after → AllCaused before mid es → AllCaused mid after fs → AllCaused before after (es ++ fs)
all_caused before mid after (e ∷ es) fs h k a b = (later_cause before mid after e k a.0, all_caused before mid after es fs h k a.1 b)
all_caused before mid after [] fs h k a b = sooner fs b
  where
    sooner : (fs : List TraceEvent) → AllCaused mid after fs → AllCaused before after fs
    sooner [] b = tt
    sooner (f ∷ fs) b = (sooner_cause before mid after f h b.0, sooner fs b.1)

-- a restart's cause is the same in every world
pub restart_cause : (w : BookingWorld) (n : NodeId) (before after : List DiskState) (e : TraceEvent)
    → Becomes (Restart n (Reads 0)) e → HasCause w before after e → HasCause start before after e
restart_cause w n before after (Restart m found) b h = h
restart_cause w n before after (Submit y text) b h = λ f. absurd (cc)
restart_cause w n before after (Deliver k Fine) b h = λ f. absurd (cc)
restart_cause w n before after (Deliver k (Cut nth keep)) b h = λ f. absurd (cc)
restart_cause w n before after (Deliver k Fault) b h = absurd (let e : Restart n (Reads 0) ≡ Deliver k b.0 = b.1 in cc)
restart_cause w n before after (Short k bytes Fine) b h = λ f. absurd (cc)
restart_cause w n before after (Short k bytes (Cut nth keep)) b h = λ f. absurd (cc)
restart_cause w n before after (Short k bytes Fault) b h = absurd (let e : Restart n (Reads 0) ≡ Short k bytes b.0 = b.1 in cc)
restart_cause w n before after (Lead m fared) b h = h
restart_cause w n before after (Offer m fared) b h = h
restart_cause w n before after (Work m schedule) b h = λ f. absurd (cc)
restart_cause w n before after (Retry end) b h = λ f. absurd (cc)
restart_cause w n before after (Crash m) b h = λ f. absurd (cc)
restart_cause w n before after (Wipe m) b h = λ f. absurd (cc)
