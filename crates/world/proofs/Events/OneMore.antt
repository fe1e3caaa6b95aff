-- One event more.
use Rattle.std.proofs.Common.{◌≡◌, ℕ, ◌+◌, ◌<◌, ◌≤◌, true, false, List, [], ◌∷◌, ◌++◌, length, refl, sym, ap, ◌∙◌, subst, inl, inr, Some, None, Ok, Err}
use Rattle.std.proofs.lemmas.List.{length-map}
use Rattle.aeg_base.specs.declared.limits.TheConstants.{PACKETS_BEFORE}
use Rattle.aeg_disk.specs.Disk.{DiskState}
use Rattle.run_model.specs.declared.line.Event.TheVariants as script
use Rattle.run_model.specs.declared.trace.Fared.{Fared}
use Rattle.run_model.specs.declared.trace.Fared.TheVariants.{Fine, Cut, Fault}
use Rattle.run_model.specs.declared.trace.TraceEvent.TheVariants.{Deliver}
use Rattle.run_model.specs.Resolving.{next_packet, flow_by, at_end, Becomes, Fares}
use Rattle.run_model.specs.declared.trace.TraceEvent.{TraceEvent}
use Rattle.run_model.specs.World.{start}
use Rattle.run_model.specs.Runs.{world}
use Rattle.run_model.proofs.Appending.{run-append}
use Rattle.run_model.specs.BookingRuns.{config}
use Rattle.world.specs.declared.parts.Parts.{Parts}
use Rattle.world.specs.declared.progress.Progress.{Progress}
use Rattle.world.specs.declared.stop.Stop.TheVariants as stops
use Rattle.world.specs.Disks.{AreDisks}
use Rattle.world.specs.Parts.{sealed}
use Rattle.world.specs.Run.{world_of, with_event, at_place, AppliesEvent, AppliesNothing, AppliesBy}
use Rattle.world.specs.Standing.{AreShown, AreShownOn, Shows, FaresAs, MakesAny}
use Rattle.world.specs.Going.{place_at, run_of, IsInStep, StandsOn, Adds, GoesBy}

pub shown : (p : Progress) → IsInStep p → AreShown p.parts
shown p s = (p.parts.u, p.depth, world_of (run_of p), s)

pub shown_on : (p : Progress) (disks : List DiskState) → StandsOn p disks → AreShownOn p.parts disks
shown_on p disks s = (p.parts.u, p.depth, world_of (run_of p), s.0, s.1)

-- the event was made, and noted
abbrev pub noted : Progress → Parts → TraceEvent → ℕ → Progress
noted old parts event cursor = record { depth = old.depth; cursor = cursor; trace = old.trace ++ event ∷ []; parts = parts }

-- it fared as was due, or its disk met a fault
pub fares_is : (event : Fared → TraceEvent) (asked fared : Fared) → FaresAs asked fared → Fares event (event asked) fared
fares_is event asked Fine (inl e) = ap event (sym e)
fares_is event asked Fine (inr e) = absurd (cc)
fares_is event asked (Cut nth keep) (inl e) = ap event (sym e)
fares_is event asked (Cut nth keep) (inr e) = absurd (cc)
fares_is event asked Fault e = (asked, refl)

pub one_more : (old new : Progress) (parts : Parts) (due event : TraceEvent) (cursor : ℕ)
    (disks_before disks_after : List DiskState) (before now : List ℕ) → StandsOn old disks_before → Becomes due event
    → MakesAny old.parts parts disks_before disks_after before now event
    → new ≡ noted old parts event cursor → Adds old new disks_before disks_after before now due (place_at cursor)
one_more old new parts due event cursor disks_before disks_after before now s becomes h e =
    let r = h old.parts.u old.depth (world_of (run_of old)) s.0 s.1 in
    let size : parts.u ≡ old.parts.u = r.shows.size in
    let is : run_of (noted old parts event cursor)
    ≡ with_event (run_of old) event (place_at cursor) = (λ i. record {
      u = size i;
      depth = old.depth;
      trace = old.trace ++ event ∷ [];
      place = place_at cursor;
      has_ended = false;
    }) in
    let further = run-append (config old.parts.u old.depth) old.trace (event ∷ []) start in
    let later : Shows old.parts.u old.depth (world (config old.parts.u old.depth) (old.trace ++ event ∷ []))
    parts = subst (λ z. Shows old.parts.u old.depth z parts) (sym further) r.shows in
    let on : AreDisks (world (config old.parts.u old.depth) (old.trace ++ event ∷ [])) disks_after = subst
    (λ z. AreDisks z disks_after) (sym further) r.disks in
    let step : IsInStep (noted old parts event cursor) = subst
    (λ z. Shows z old.depth (world (config z old.depth) (old.trace ++ event ∷ [])) parts) (sym size) later in
    let run : run_of new ≡ with_event (run_of old) event (place_at cursor) = ap run_of e ∙ is in (
      subst IsInStep (sym e) step,
      record {
        event = event;
        becomes = becomes;
        finds = r.finds;
        cause = r.cause;
        later = r.later;
        run = run;
        told = r.told;
        disks = subst (λ z. AreDisks (world_of z) disks_after) (sym run) on;
      },
    )

-- FLOW

-- as many packets as the world's
pub packets_of : (p : Progress) → IsInStep p → length (world_of (run_of p)).soup ≡ length p.parts.soup
packets_of p s = sym (ap length s.soup ∙ length-map (world_of (run_of p)).soup sealed)

-- behind all packets
abbrev pub behind : Progress → ℕ → Progress
behind p cursor = record { depth = p.depth; cursor = cursor; trace = p.trace; parts = p.parts }

pub flow_rests : (p : Progress) (cursor : ℕ) (disks : List DiskState) (lines : List ℕ) → IsInStep p
    → cursor ≡ length p.parts.soup → None ≡ next_packet (world_of (run_of p)) p.cursor
    → GoesBy p (behind p cursor) disks disks lines lines script.Flow (Ok false)
flow_rests p cursor disks lines s e n =
    let end : place_at cursor ≡ at_end (world_of (run_of p)) = ap place_at (e ∙ sym (packets_of p s)) in
    let rests : AppliesNothing (run_of p) (run_of (behind p cursor)) disks disks lines lines
    (at_end (world_of (run_of p))) (Ok false) = (ap (at_place (run_of p)) end, refl, refl, refl) in (
      subst (λ o. AppliesBy (run_of p) (run_of (behind p cursor)) disks disks lines lines script.Flow
          (flow_by (world_of (run_of p)) o).place (flow_by (world_of (run_of p)) o).event (Ok false)) n rests,
      s,
    )

-- what is left is lost
pub all_lost : (p : Progress) (cursor : ℕ) (disks : List DiskState) (lines : List ℕ) → IsInStep p
    → cursor ≡ length p.parts.soup → GoesBy p (behind p cursor) disks disks lines lines script.Lose (Ok false)
all_lost p cursor disks lines s e = ((ap (at_place (run_of p)) (ap place_at (e ∙ sym (packets_of p s))), refl, refl, refl), s)

pub flow_stops : (p : Progress) (k : ℕ) (disks : List DiskState) (lines : List ℕ) → IsInStep p
    → PACKETS_BEFORE < length p.parts.soup → Some k ≡ next_packet (world_of (run_of p)) p.cursor
    → GoesBy p p disks disks lines lines script.Flow (Err stops.Limit)
flow_stops p k disks lines s l n =
    let many : PACKETS_BEFORE < length (world_of (run_of p)).soup = subst (λ z. PACKETS_BEFORE < z) (sym (packets_of p s)) l in
    let halts : AppliesEvent (run_of p) (run_of p) disks disks lines lines script.Flow (place_at (k + 1))
    (Deliver k Fine) (Err stops.Limit) = (many, refl, refl, refl) in (
      subst (λ o. AppliesBy (run_of p) (run_of p) disks disks lines lines script.Flow
          (flow_by (world_of (run_of p)) o).place (flow_by (world_of (run_of p)) o).event (Err stops.Limit)) n halts,
      s,
    )

pub flow_goes : (old new : Progress) (k : ℕ) (disks_before disks_after : List DiskState) (before now : List ℕ)
    → IsInStep old → length old.parts.soup ≤ PACKETS_BEFORE → Some k ≡ next_packet (world_of (run_of old)) old.cursor
    → Adds old new disks_before disks_after before now (Deliver k Fine) (place_at (k + 1))
    → GoesBy old new disks_before disks_after before now script.Flow (Ok true)
flow_goes old new k disks_before disks_after before now s l n a =
    let few : length (world_of (run_of old)).soup ≤ PACKETS_BEFORE = subst (λ z. z ≤ PACKETS_BEFORE) (sym (packets_of old s)) l in
    let goes : AppliesEvent (run_of old) (run_of new) disks_before disks_after before now script.Flow (place_at (k + 1))
    (Deliver k Fine) (Ok true) = (few, a.1, refl) in (
      subst (λ o. AppliesBy (run_of old) (run_of new) disks_before disks_after before now script.Flow
          (flow_by (world_of (run_of old)) o).place (flow_by (world_of (run_of old)) o).event (Ok true)) n goes,
      a.0,
    )
