-- Restarts, one after another.
use Rattle.std.proofs.Common.{◌≡◌, ℕ, ◌+◌, false, List, [], ◌∷◌, ◌++◌, sym, ap, ◌∙◌, subst, arith, append_assoc, append-nil, suc}
use Rattle.std.specs.Prelude.{map}
use Rattle.std.proofs.lemmas.List.{map-append}
use Rattle.aeg_base.specs.declared.names.NodeId.{NodeId}
use Rattle.aeg_base.specs.declared.names.Tier.{Tier}
use Rattle.aeg_base.specs.declared.names.Tier.TheVariants.{Mid as MidTier, Inv, Pay}
use Rattle.aeg_disk.specs.Disk.{DiskState}
use Rattle.log_model.specs.Log.{nobody}
use Rattle.round_model.specs.Lists.{each}
use Rattle.run_model.specs.declared.trace.Found.TheVariants.{Reads}
use Rattle.run_model.specs.declared.trace.TraceEvent.{TraceEvent}
use Rattle.run_model.specs.declared.trace.TraceEvent.TheVariants.{Restart}
use Rattle.run_model.specs.World.{start}
use Rattle.run_model.specs.Runs.{world}
use Rattle.run_model.specs.Resolving.{AllBecome, AllFind, nodes_of, starts}
use Rattle.run_model.specs.Text.{text_from}
use Rattle.run_model.specs.BookingRuns.{config}
use Rattle.run_model.proofs.Appending.{run-append, text-append}
use Rattle.run_model.proofs.Standing.{finds-append}
use Rattle.world.specs.declared.progress.Progress.{Progress}
use Rattle.world.specs.Disks.{AreDisks, AreBlank, AllCaused}
use Rattle.world.specs.Run.{Run, world_of, new_run, text_of, Starts}
use Rattle.world.specs.Going.{place_at, run_of, IsInStep, StandsOn, Adds, Restarted}
use Rattle.world.proofs.Events.BeforeTheFirst.{blank_disks}
use Rattle.world.proofs.Power.CountsOfFaults.{falls_none, falls_then, all_caused, restart_cause}

abbrev pub again : NodeId → TraceEvent
again n = Restart n (Reads 0)

abbrev pub node_in : Tier → ℕ → NodeId
node_in t x = record { tier = t; index = x }

-- ONE AFTER ANOTHER

pub restarted_none : (p : Progress) (disks : List DiskState) (lines : List ℕ) → StandsOn p disks → Restarted p p disks disks lines lines []
restarted_none p disks lines s = record {
  events = [];
  become = tt;
  finds = tt;
  run = (λ i. record { u = p.parts.u; depth = p.depth; trace = sym (append-nil p.trace) i; place = place_at p.cursor; has_ended = false });
  told = sym (append-nil lines);
  causes = tt;
  later = falls_none disks;
  stands = s;
}

pub restarted_one : (old new : Progress) (n : NodeId) (disks_before disks_after : List DiskState) (before now : List ℕ)
    → Adds old new disks_before disks_after before now (again n) (place_at old.cursor)
    → Restarted old new disks_before disks_after before now (n ∷ [])
restarted_one old new n disks_before disks_after before now a = record {
  events = a.1.event ∷ [];
  become = (a.1.becomes, tt);
  finds = (a.1.finds, tt);
  run = a.1.run;
  told = a.1.told ∙ ap (λ z. before ++ z) (sym (append-nil (text_of (run_of old) a.1.event)));
  causes = (restart_cause (world_of (run_of old)) n disks_before disks_after a.1.event a.1.becomes a.1.cause, tt);
  later = a.1.later;
  stands = (a.0, a.1.disks);
}

become_both : (due bs es fs : List TraceEvent) → AllBecome due es → AllBecome bs fs → AllBecome (due ++ bs) (es ++ fs)
become_both [] bs [] fs h k = k
become_both [] bs (e ∷ es) fs h k = absurd h
become_both (a ∷ due) bs [] fs h k = absurd h
become_both (a ∷ due) bs (e ∷ es) fs h k = (h.0, become_both due bs es fs h.1 k)

-- the run with these events more
abbrev longer : Run → List TraceEvent → Run
longer r es = record r { trace = r.trace ++ es }

told_both : (r : Run) (es fs : List TraceEvent) (first between now : List ℕ)
    → between ≡ first ++ text_from (config r.u r.depth) (world_of r) es
    → now ≡ between ++ text_from (config r.u r.depth) (world_of (longer r es)) fs
    → now ≡ first ++ text_from (config r.u r.depth) (world_of r) (es ++ fs)
told_both r es fs first between now a b =
    let c = config r.u r.depth in
    b ∙ ap (λ z. z ++ text_from c (world_of (longer r es)) fs) a ∙ append_assoc first (text_from c (world_of r) es) (text_from c (world_of (longer r es)) fs)
    ∙ ap (λ z. first ++ (text_from c (world_of r) es ++ text_from c z fs)) (run-append c r.trace es start)
    ∙ ap (λ z. first ++ z) (sym (text-append c es fs (world_of r)))

finds_both : (r : Run) (es fs : List TraceEvent) → AllFind (config r.u r.depth) (world_of r) es
    → AllFind (config r.u r.depth) (world_of (longer r es)) fs → AllFind (config r.u r.depth) (world_of r) (es ++ fs)
finds_both r es fs a b = finds-append (config r.u r.depth) (world_of r) es fs a
    (subst (λ z. AllFind (config r.u r.depth) z fs) (run-append (config r.u r.depth) r.trace es start) b)

pub restarted_then : (a b c : Progress) (d0 d1 d2 : List DiskState) (l0 l1 l2 : List ℕ) (ns ms : List NodeId)
    → Restarted a b d0 d1 l0 l1 ns → Restarted b c d1 d2 l1 l2 ms → Restarted a c d0 d2 l0 l2 (ns ++ ms)
restarted_then a b c d0 d1 d2 l0 l1 l2 ns ms h k = record {
  events = h.events ++ k.events;
  become = subst (λ z. AllBecome z (h.events ++ k.events)) (sym (map-append again ns ms))
      (become_both (map again ns) (map again ms) h.events k.events h.become k.become);
  finds = finds_both (run_of a) h.events k.events h.finds (subst (λ (z : Run). AllFind (config z.u z.depth) (world_of z) k.events) h.run k.finds);
  run = k.run ∙ ap (λ z. longer z k.events) h.run ∙ (λ i. record (run_of a) { trace = append_assoc (run_of a).trace h.events k.events i });
  told = told_both (run_of a) h.events k.events l0 l1 l2 h.told
      (subst (λ (z : Run). l2 ≡ l1 ++ text_from (config z.u z.depth) (world_of z) k.events) h.run k.told);
  causes = all_caused d0 d1 d2 h.events k.events h.later k.later h.causes k.causes;
  later = falls_then d0 d1 d2 h.later k.later;
  stands = k.stands;
}

-- THE FIRST NODES OF A TIER

abbrev pub first_nodes : ℕ → Tier → List NodeId
first_nodes i t = each i nobody (node_in t)

pub one_further : (a b c : Progress) (d0 d1 d2 : List DiskState) (l0 l1 l2 : List ℕ) (t : Tier) (i : ℕ)
    → Restarted a b d0 d1 l0 l1 (first_nodes i t) → Adds b c d1 d2 l1 l2 (again (node_in t i)) (place_at b.cursor)
    → Restarted a c d0 d2 l0 l2 (first_nodes (i + 1) t)
one_further a b c d0 d1 d2 l0 l1 l2 t i h k =
    let e : suc i ≡ i + 1 = omega arith in
    subst (λ z. Restarted a c d0 d2 l0 l2 (first_nodes z t)) e
    (restarted_then a b c d0 d1 d2 l0 l1 l2 (first_nodes i t) (node_in t i ∷ []) h
    (restarted_one b c (node_in t i) d1 d2 l1 l2 k))

-- ALL NODES

pub same_size : (a b : Progress) (d0 d1 : List DiskState) (l0 l1 : List ℕ) (ns : List NodeId) → Restarted a b d0 d1 l0 l1 ns → b.parts.u ≡ a.parts.u
same_size a b d0 d1 l0 l1 ns h = ap (λ (z : Run). z.u) h.run

pub all_started : (old new : Progress) (d0 d1 : List DiskState) (l0 l1 : List ℕ)
    → run_of old ≡ new_run old.parts.u old.depth
    → Restarted old new d0 d1 l0 l1 (nodes_of old.parts.u MidTier
    ++ (nodes_of old.parts.u Inv ++ nodes_of old.parts.u Pay)) → Starts (run_of old) (run_of new) d0 d1 l0 l1
all_started old new d0 d1 l0 l1 e h =
    let none : old.trace ≡ [] = ap (λ (z : Run). z.trace) e in
    let trace : (run_of new).trace ≡ h.events = ap (λ (z : Run). z.trace) h.run ∙ ap (λ z. z ++ h.events) none in
    let run : run_of new ≡ record (run_of old) { trace = (run_of new).trace } = h.run
    ∙ (λ i. record (run_of old) { trace = (ap (λ (z : Run). z.trace) (sym h.run)) i }) in
    record {
      become = subst (AllBecome (starts old.parts.u)) (sym trace) h.become;
      finds = (subst (AllFind (config old.parts.u old.depth) start) (sym trace)
          (subst (λ z. AllFind (config old.parts.u old.depth) (world (config old.parts.u old.depth) z) h.events) none h.finds));
      run = run;
      later = h.later;
      told = h.told ∙ (λ i. l0 ++ text_from (config old.parts.u old.depth) (world (config old.parts.u old.depth) (none i)) (sym trace i));
      disks = h.stands.1;
      causes = subst (AllCaused d0 d1) (sym trace) h.causes;
    }

pub three_tiers : (a b c d : Progress) (d0 d1 d2 d3 : List DiskState) (l0 l1 l2 l3 : List ℕ)
    → Restarted a b d0 d1 l0 l1 (nodes_of a.parts.u MidTier) → Restarted b c d1 d2 l1 l2 (nodes_of b.parts.u Inv)
    → Restarted c d d2 d3 l2 l3 (nodes_of c.parts.u Pay)
    → Restarted a d d0 d3 l0 l3 (nodes_of a.parts.u MidTier ++ (nodes_of a.parts.u Inv ++ nodes_of a.parts.u Pay))
three_tiers a b c d d0 d1 d2 d3 l0 l1 l2 l3 h k m =
    let one : b.parts.u ≡ a.parts.u = same_size a b d0 d1 l0 l1 (nodes_of a.parts.u MidTier) h in
    let two : c.parts.u ≡ a.parts.u = same_size b c d1 d2 l1 l2 (nodes_of b.parts.u Inv) k ∙ one in
    let invs : Restarted b c d1 d2 l1 l2 (nodes_of a.parts.u Inv) = subst (λ z. Restarted b c d1 d2 l1 l2 (nodes_of z Inv)) one k in
    let pays : Restarted c d d2 d3 l2 l3 (nodes_of a.parts.u Pay) = subst (λ z. Restarted c d d2 d3 l2 l3 (nodes_of z Pay)) two m in
    restarted_then a b d d0 d1 d3 l0 l1 l3 (nodes_of a.parts.u MidTier) (nodes_of a.parts.u Inv
    ++ nodes_of a.parts.u Pay) h
    (restarted_then b c d d1 d2 d3 l1 l2 l3 (nodes_of a.parts.u Inv) (nodes_of a.parts.u Pay) invs pays)

-- BEFORE THEM

pub stands_blank : (r : Run) (p : Progress) (disks : List DiskState) → r ≡ run_of p → IsInStep p → r ≡ new_run r.u r.depth → AreBlank disks → StandsOn p disks
stands_blank r p disks v s e b = (
  s,
  subst (λ (z : Run). AreDisks (world_of z) disks) v
      (subst (λ (z : Run). AreDisks (world_of z) disks) (sym e) (blank_disks disks b)),
)
