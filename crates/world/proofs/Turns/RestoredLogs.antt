-- What a restart of a node's log leaves: nothing is applied, since no verdict is learned, and a backend has learned nothing.
use Rattle.std.proofs.Common.{◌≡◌, ℕ, ◌≤◌, Bool, false, List, [], ◌∷◌, length, replicate, refl, sym, ap, ◌∙◌, subst}
use Rattle.std.proofs.Common.{arith, Option, Some, None, Result, Ok, Err, zero, suc}
use Rattle.std.proofs.lemmas.List.{nil_from_length}
use Rattle.std.specs.Prelude.{slice_get}
use Rattle.std.specs.List.{AllByRecursion}
use Rattle.aeg_base.specs.declared.names.NodeId.{NodeId}
use Rattle.aeg_base.specs.declared.names.Tier.{Tier}
use Rattle.aeg_base.specs.declared.names.Tier.TheVariants.{Mid as InMid}
use Rattle.svc_api.specs.Plan.{IsBackend}
use Rattle.aeg_disk.specs.Disk.{DiskState, Later}
use Rattle.fact_journal.specs.Fitting.{open_after_all, FactsFit, EachFits, all_facts}
use Rattle.fact_journal.specs.Standing.{HasFacts, StandsFor}
use Rattle.fact_journal.specs.Calls.{ReadsOne}
use Rattle.fact_journal.proofs.Fits.{facts_fit}
use Rattle.fact_journal.proofs.Restoring.{newest_facts, newest_log, open_is}
use Rattle.log_model.specs.declared.fact.Fact.{Fact as LogFact}
use Rattle.log_model.specs.Log.{LogState, open_at}
use Rattle.log_model.specs.Ranges.{IsLogIn}
use Rattle.log_model.specs.Recover.{onto, newest, recover}
use Rattle.log_model.specs.Nodes.{Mode}
use Rattle.log_model.specs.Nodes.Mode.{Up, Down, Gone}
use Rattle.log_values.specs.declared.any_value.AnyValue.{AnyValue}
use Rattle.log_values.specs.declared.entry.Entry.{Entry}
use Rattle.log_values.specs.declared.fact.Fact.{Fact}
use Rattle.log_values.specs.declared.fact.Fact.TheVariants.{Promised, Accepted, Learned, Held}
use Rattle.log_values.specs.Fields.{FitsBallot}
use Rattle.tier_model.specs.declared.turn.Fault.{Fault}
use Rattle.tier_model.specs.declared.turn.Fault.TheVariants as faults
use Rattle.paxos_log.specs.TierLog.{NodeLog, with_state, new_log, newest_first}
use Rattle.round_model.specs.Lists.{and_then}
use Rattle.round_model.specs.After.{batch_at, verdict_at}
use Rattle.round_model.specs.Tables.{tables0}
use Rattle.round_model.specs.Held.{none_held}
use Rattle.tier_model.specs.Moves.{log_facts, held_in}
use Rattle.tier_model.specs.Mid.{Mid, Ready, ready, apply}
use Rattle.tier_model.specs.MidRows as mids
use Rattle.tier_model.specs.BackRows as backs
use Rattle.run_model.specs.BookingRuns.{booking_service}
use Rattle.world.specs.Parts.{CanStand, CanWrite, AllStand, NodePart, MidView, BackView, as_mid, as_back, list_found, Reads, MayRead, MidRestarts, BackRestarts}
use Rattle.world.specs.LogNodes.{LogView, mode_of, place_by, IsOwnLog, IsLogNode, IsSameNode, log_itself, mid_mode, mid_part}
use Rattle.std.specs.declared.alloc.Global.{Global}
use Rattle.std.specs.declared.boxed.Box.{Box}
use Rattle.world.specs.declared.nodes.working.Working.{Working}
use Rattle.world.proofs.Turns.TurnsOfNodes.{seen, down_here}
use Rattle.world.proofs.Turns.JournalsGrow.{restored_stands}
use Rattle.world.proofs.Rows.MidRows.{mid_view, at_most_one}
use Rattle.world.proofs.Rows.BackRows.{back_view, none_learned}
use Rattle.fact_journal.proofs.Opens.{each_get}

-- ONE OF THE LISTS

-- its facts fit, and can be written
pub one_fits : (t : Tier) (lists : List (List (List Fact))) (k : ℕ) (rs : List (List Fact)) → AllStand t lists
    → slice_get lists k ≡ Some rs → FactsFit t 0 (all_facts rs) × AllByRecursion (CanWrite t) (all_facts rs)
one_fits t lists k rs stand e = (facts_fit t 0 rs (each_get t lists k rs stand.fit e), stand.can k rs e)

-- the log that is restored is in range
pub one_restored : (u : ℕ) (t : Tier) (lists : List (List (List Fact))) (a b : DiskState) (facts : List Fact) (at : ℕ)
    → AllStand t lists → ReadsOne lists b facts at → IsLogIn (CanStand t) FitsBallot (recover u (newest_first (log_facts facts)))
one_restored u t lists a b facts at stand (k, rs, e, f, has) =
    let fits = one_fits t lists k rs stand e in
    subst (λ z. IsLogIn (CanStand t) FitsBallot (recover u (newest_first (log_facts z)))) (sym f) (restored_stands u t (all_facts rs) fits.0 fits.1)

-- THE NODE'S LOG

-- the log is restored from the facts of one of the lists
pub reads_log : (u : ℕ) (t : Tier) (lists : List (List (List Fact))) (old : NodePart (LogState AnyValue))
    (log : LogState AnyValue) (doubt : Bool) (before after : DiskState) (facts : List Fact) (at place list : ℕ)
    → ReadsOne lists after facts at → place ≡ at → doubt ≡ false → log ≡ recover u (newest_first (log_facts facts))
    → list ≡ list_found old.doubt old.place place
    → Reads t log_itself open_at (λ fs. recover u (log_facts fs)) old (record { mode = Up log; place = place; doubt = doubt }) before after lists (Ok list)
reads_log u t lists old log doubt before after facts at place list (k, rs, e, f, has) p d g h = (
  k,
  rs,
  e,
  (
    log,
    refl,
    g ∙ (ap (λ z. recover u (newest_first (log_facts z))) f ∙ ap (λ z. recover u z) (sym (newest_log rs))),
    ap open_at g ∙ (sym (open_is facts) ∙ ap (λ z. open_after_all 0 z) f),
  ),
  d,
  subst (HasFacts rs after) (sym p) has,
  h,
)

known_place : (o : Option (Box Working Global)) (gone : Bool) (known : ℕ) → mode_of o gone ≡ Down → known ≡ place_by o known
known_place (Some up) gone known e = absurd (cc)
known_place None gone known e = refl

-- what the journal of the node's tier read
abbrev pub ReadsAny : Tier → DiskState → DiskState → List Fact → ℕ → Type 0
ReadsAny t a b facts at = (lists : List (List (List Fact))) → StandsFor lists a → EachFits t lists → ReadsOne lists b facts at

state_is : (u x : ℕ) (fresh log : NodeLog AnyValue) (logs : List (LogFact AnyValue)) (facts : List Fact)
    → fresh ≡ new_log u x → log ≡ with_state fresh (recover fresh.faults (newest_first logs)) → logs ≡ log_facts facts
    → log ≡ with_state (new_log u x) (recover u (newest_first (log_facts facts)))
state_is u x fresh log logs facts f g h = g
    ∙ (ap (λ (z : NodeLog AnyValue). with_state z (recover z.faults (newest_first logs))) f
    ∙ ap (λ z. with_state (new_log u x) (recover u (newest_first z))) h)

-- the node is at work with the restored log
pub works_again : (u : ℕ) (me : NodeId) (known : ℕ) (doubt gone : Bool) (o : Option (Box Working Global))
    (now : LogView) → seen u me known doubt gone o ≡ now → IsLogNode u me.tier me.index gone doubt o → now.part.mode ≡ Down
    → (fresh log : NodeLog AnyValue) (logs : List (LogFact AnyValue)) (facts : List Fact) (at : ℕ) (a b : DiskState)
    (journal : ℕ) → fresh ≡ new_log u me.index → log ≡ with_state fresh (recover fresh.faults (newest_first logs))
    → logs ≡ log_facts facts → ReadsAny me.tier a b facts at → MayRead now.tier a
    → (at_work : Box Working Global) → at_work.value ≡ record { log = log; journal = journal } → IsLogNode u me.tier me.index gone false (Some at_work)
works_again u me known doubt gone o now v k down fresh log logs facts at a b journal f g h one may at_work e = record {
  few = k.few;
  node = k.node;
  own = record {
    here = down_here o gone (ap (λ (z : LogView). z.part.mode) v ∙ down);
    sure = refl;
    log = subst (λ (z : Working). IsOwnLog u me.tier me.index z.log) (sym e)
        (subst (IsOwnLog u me.tier me.index) (sym (state_is u me.index fresh log logs facts f g h))
        (record { faults = refl; me = refl; range = range }));
  };
}
  where
    all : AllStand me.tier may.0
    all = subst (λ (z : LogView). AllStand z.tier may.0) (sym v) may.2

    range : IsLogIn (CanStand me.tier) FitsBallot (recover u (newest_first (log_facts facts)))
    range = one_restored u me.tier may.0 a b facts at all (one may.0 may.1 all.fit)

pub restart_reads : (u : ℕ) (me : NodeId) (known : ℕ) (doubt gone : Bool) (o : Option (Box Working Global))
    (now : LogView) → seen u me known doubt gone o ≡ now → now.part.mode ≡ Down
    → (fresh log : NodeLog AnyValue) (logs : List (LogFact AnyValue)) (facts : List Fact) (a b : DiskState)
    (at place list : ℕ) → fresh ≡ new_log u me.index
    → log ≡ with_state fresh (recover fresh.faults (newest_first logs)) → logs ≡ log_facts facts → place ≡ at
    → list ≡ list_found doubt known place → ReadsAny me.tier a b facts at
    → (lists : List (List (List Fact))) → StandsFor lists a → AllStand now.tier lists
    → Reads now.tier log_itself open_at (λ fs. recover now.faults (log_facts fs)) now.part
    (record { mode = Up log.state; place = at; doubt = false }) a b lists (Ok list)
restart_reads u me known doubt gone o now v down fresh log logs facts a b at place list f g h p q one lists stands all =
    subst (λ (z : LogView). Reads z.tier log_itself open_at (λ fs. recover z.faults (log_facts fs)) z.part
    (record { mode = Up log.state; place = at; doubt = false }) a b lists (Ok list)) v
    (reads_log u me.tier lists (record { mode = mode_of o gone; place = place_by o known; doubt = doubt }) log.state
    false a b facts at at list (one lists stands (subst (λ (z : LogView). EachFits z.tier lists) (sym v) all.fit)) refl refl
    (ap (λ (z : NodeLog AnyValue). z.state) (state_is u me.index fresh log logs facts f g h))
    (q ∙ (ap (λ (z : ℕ). list_found doubt known z) p
    ∙ ap (λ (z : ℕ). list_found doubt z at) (known_place o gone known (ap (λ (z : LogView). z.part.mode) v ∙ down)))))

-- NOTHING IS APPLIED

nothing_held : (u x : ℕ) (t : Tier) (fs older : List Fact) → AllByRecursion (CanWrite t) fs → held_in u x older ≡ none_held u x
    → held_in u x (onto fs older) ≡ none_held u x
nothing_held u x t [] older k e = e
nothing_held u x t (Promised b ∷ fs) older k e = nothing_held u x t fs (Promised b ∷ older) k.1 e
nothing_held u x t (Accepted p b v ∷ fs) older k e = nothing_held u x t fs (Accepted p b v ∷ older) k.1 e
nothing_held u x t (Learned p v ∷ fs) older k e = nothing_held u x t fs (Learned p v ∷ older) k.1 e
nothing_held u x t (Held w number code ∷ fs) older k e = absurd k.0

both_or_none : {A B C : Type 0} (a : Option A) (b : Option B) (g : A → B → Option C) → b ≡ None → and_then a (λ x. and_then b (g x)) ≡ None
both_or_none None b g e = refl
both_or_none (Some x) b g e = ap (λ z. and_then z (g x)) e

-- no round is ready while there is no verdict
caught : (n : ℕ) (σ : Mid) → ready booking_service.programs σ ≡ None → mids.catch_up booking_service.programs n σ ≡ σ
caught zero σ e = refl
caught (suc n) σ e = ap (λ (o : Option Ready). elim o [ None ↦ σ | Some R ↦ mids.catch_up booking_service.programs n (apply σ R) ]) e

no_verdict_yet : (vs : List AnyValue) → length vs ≤ 1 → verdict_at vs 0 ≡ None
no_verdict_yet [] l = refl
no_verdict_yet (v ∷ []) l = refl
no_verdict_yet (v ∷ w ∷ vs) l = absurd (omega arith)

-- a middle node
pub mid_recovers : (u x depth : ℕ) (rs : List (List Fact)) (log : LogState AnyValue)
    → AllByRecursion (CanWrite InMid) (all_facts rs) → log ≡ recover u (log_facts (newest rs)) → length log.learned ≤ 1
    → as_mid u x depth (record { log = log; pending = replicate 17 None }) ≡ mids.recovered u booking_service.programs depth x (newest rs)
mid_recovers u x depth rs log can e l = sym (
    caught (length (recover u (log_facts (newest rs))).learned) (mids.bare u depth x (newest rs)) never
    ∙ (ap (λ z. record {
      log = recover u (log_facts (newest rs));
      applied = 0;
      tables = tables0 depth;
      pending = replicate 17 None;
      tally = [];
      spec = None;
      held = z;
    }) held
    ∙ ap (λ z. as_mid u x depth (record { log = z; pending = replicate 17 None })) (sym e)))
  where
    held : held_in u x (newest rs) ≡ none_held u x
    held = ap (held_in u x) (newest_facts rs) ∙ nothing_held u x InMid (all_facts rs) [] can refl

    few : length (recover u (log_facts (newest rs))).learned ≤ 1
    few = subst (λ (z : LogState AnyValue). length z.learned ≤ 1) e l

    never : ready booking_service.programs (mids.bare u depth x (newest rs)) ≡ None
    never = both_or_none (batch_at (recover u (log_facts (newest rs))).learned 0)
        (verdict_at (recover u (log_facts (newest rs))).learned 0) _
        (no_verdict_yet (recover u (log_facts (newest rs))).learned few)

-- a backend node
pub back_recovers : (u : ℕ) (t : Tier) (rs : List (List Fact)) (log : LogState AnyValue) → log ≡ recover u (log_facts (newest rs)) → length log.learned ≡ 0
    → as_back u t log ≡ backs.recovered u (booking_service.backend t) (newest rs)
back_recovers u t rs log e l = sym (
    ap (λ z. backs.after_values (booking_service.backend t) (backs.bare u (booking_service.backend t) (newest rs)) z)
    (nil_from_length (recover u (log_facts (newest rs))).learned (subst (λ (z : LogState AnyValue). length z.learned ≡ 0) e l))
    ∙ ap (λ z. as_back u t z) (sym e))

-- THE NODES

mid_reads : (u x depth : ℕ) (lists : List (List (List Fact))) (old new : NodePart (LogState AnyValue))
    (pending fresh : List (Option Entry)) (a b : DiskState) (result : Result ℕ Fault) → old.mode ≡ Down
    → AllStand InMid lists → fresh ≡ replicate 17 None
    → Reads InMid log_itself open_at (λ fs. recover u (log_facts fs)) old new a b lists result
    → Reads InMid (as_mid u x depth) (λ part. open_at part.log) (mids.recovered u booking_service.programs depth x)
    (mid_part old pending) (mid_part new fresh) a b lists result
mid_reads u x depth lists old new pending fresh a b (Ok list) down stand f (k, rs, e, (log, m, g, o), d, has, h) =
    let fits = one_fits InMid lists k rs stand e in
    let inside : IsLogIn (CanStand InMid) FitsBallot log = subst (IsLogIn (CanStand InMid) FitsBallot)
    (sym (g ∙ ap (λ z. recover u z) (newest_log rs))) (restored_stands u InMid (all_facts rs) fits.0 fits.1) in (
      k,
      rs,
      e,
      (
        record { log = log; pending = replicate 17 None },
        ap (λ z. mid_mode z fresh) m
            ∙ ap (λ z. mid_mode (Up log) z) f,
        mid_recovers u x depth rs log fits.1 g (at_most_one log inside),
        o,
      ),
      d,
      has,
      h,
    )
mid_reads u x depth lists old new pending fresh a b (Err faults.Disk) down stand f (same, stands, cause) = (
  ap (λ z. mid_part z fresh) same
      ∙ ap (λ z. record { mode = z; place = old.place; doubt = old.doubt }) (ap (λ z. mid_mode z fresh) down
      ∙ sym (ap (λ z. mid_mode z pending) down)),
  stands,
  cause,
)
mid_reads u x depth lists old new pending fresh a b (Err faults.Memory) down stand f k = tt
mid_reads u x depth lists old new pending fresh a b (Err (faults.JournalFull n)) down stand f k = absurd k
mid_reads u x depth lists old new pending fresh a b (Err (faults.BadRecord n)) down stand f k = absurd k

-- what the log's node told of its restart
abbrev pub LogReads : LogView → LogView → DiskState → DiskState → Result ℕ Fault → Type 0
LogReads old new a b result = (lists : List (List (List Fact))) → StandsFor lists a → AllStand old.tier lists
    → Reads old.tier log_itself open_at (λ fs. recover old.faults (log_facts fs)) old.part new.part a b lists result

-- the part of a middle node that is down
mid_is_down : (mode : Mode (LogState AnyValue)) (pending : List (Option Entry)) → mid_mode mode pending ≡ Down → mode ≡ Down
mid_is_down (Up log) pending e = absurd (cc)
mid_is_down Down pending e = refl
mid_is_down Gone pending e = absurd (cc)

pub mid_restarts : (depth : ℕ) (old new : LogView) (pending fresh : List (Option Entry)) (now : MidView)
    (a b : DiskState) (result : Result ℕ Fault) → mid_view old depth pending ≡ now → old.tier ≡ InMid
    → now.part.mode ≡ Down → fresh ≡ replicate 17 None
    → LogReads old new a b result → Later a b → IsSameNode old new → MidRestarts now (mid_view new depth fresh) a b result
mid_restarts depth old new pending fresh now a b result v tier down f reads later same = subst
    (λ (z : MidView). MidRestarts z (mid_view new depth fresh) a b result) v (record {
      reads = λ lists stands all. mid_reads old.faults old.me depth lists old.part new.part pending fresh a b result
          (mid_is_down old.part.mode pending (ap (λ (z : MidView). z.part.mode) v ∙ down)) all f
          (subst (λ z. Reads z log_itself open_at (λ fs. recover old.faults (log_facts fs)) old.part new.part a b lists
          result) tier (reads lists stands (subst (λ z. AllStand z lists) (sym tier) all)));
      later = later;
      same = (same.0, (refl, (refl, same.1.1)));
    })

back_reads : (u : ℕ) (t : Tier) (lists : List (List (List Fact))) (old new : NodePart (LogState AnyValue))
    (a b : DiskState) (result : Result ℕ Fault) → IsBackend t → AllStand t lists
    → Reads t log_itself open_at (λ fs. recover u (log_facts fs)) old new a b lists result
    → Reads t (as_back u t) open_at (backs.recovered u (booking_service.backend t)) old new a b lists result
back_reads u t lists old new a b (Ok list) is stand (k, rs, e, (log, m, g, o), d, has, h) =
    let fits = one_fits t lists k rs stand e in
    let inside : IsLogIn (CanStand t) FitsBallot log = subst (IsLogIn (CanStand t) FitsBallot)
    (sym (g ∙ ap (λ z. recover u z) (newest_log rs))) (restored_stands u t (all_facts rs) fits.0 fits.1) in
    (k, rs, e, (log, m, back_recovers u t rs log g (none_learned t log is inside), o), d, has, h)
back_reads u t lists old new a b (Err faults.Disk) is stand k = k
back_reads u t lists old new a b (Err faults.Memory) is stand k = tt
back_reads u t lists old new a b (Err (faults.JournalFull n)) is stand k = absurd k
back_reads u t lists old new a b (Err (faults.BadRecord n)) is stand k = absurd k

pub back_restarts : (old new : LogView) (now : BackView) (a b : DiskState) (result : Result ℕ Fault)
    → back_view old ≡ now → IsBackend old.tier → LogReads old new a b result → Later a b → IsSameNode old new
    → BackRestarts now (back_view new) a b result
back_restarts old new now a b result v is reads later same = subst (λ (z : BackView). BackRestarts z (back_view new) a b result) v (record {
  reads = λ lists stands all. back_reads old.faults old.tier lists old.part new.part a b result is all (reads lists stands all);
  later = later;
  same = (same.0, (same.1.0, (refl, same.1.1)));
})
