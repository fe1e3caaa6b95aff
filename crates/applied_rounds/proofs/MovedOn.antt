-- What is kept once a round is moved on from.
use Rattle.std.proofs.Common.{◌≡◌, ℕ, suc, ◌+◌, ◌<◌, ◌++◌, drop, List, [], ◌∷◌, length, map, refl, sym, ap, ◌∙◌, subst, arith, Option, Some, None, Result, Ok, Err}
use Rattle.std.specs.Prelude.{IfSome, OnOk}
use Rattle.std.specs.List.{All}
use Rattle.aeg_base.specs.declared.names.Tier.{Tier}
use Rattle.svc_api.specs.declared.action.Ending.{Ending}
use Rattle.svc_api.specs.declared.action.Ending.TheVariants as ends
use Rattle.exec_model.specs.declared.job.Seg.{Seg}
use Rattle.exec_model.specs.declared.job.Job.{Job}
use Rattle.kv_store.specs.Stores.{Holding}
use Rattle.log_values.specs.declared.entry.Entry.{Entry}
use Rattle.round_model.specs.Lists.{OfTiers, concat, is_some, of_tier}
use Rattle.round_model.specs.Tables.{Parked, Want, bump, kept_after, kept_by, last_after, next_after, parked_of, parks}
use Rattle.batcher.specs.Clients.{ClientTable, busy_of}
use Rattle.pipeline.specs.States.{RoundsState, call_of, moved_on, next_wants}
use Rattle.pipeline.specs.Kept.{IsInRange}
use Rattle.pipeline.specs.Jobs.{IsAsked, IsNextJob, asks_for, unanswered, want_of}
use Rattle.pipeline.proofs.Fields.{Fields, parked_are}
use Rattle.pipeline.proofs.Moves.{moved_in_range}
use Rattle.pipeline.proofs.Wants.{asked_segs, same_length}
use Rattle.spec_barrier.specs.Barriers.{BarrierState, held_of}
use Rattle.rollback.specs.declared.spec.Spec.{Spec}
use Rattle.row_laws.specs.Mids.{rounds_in}
use Rattle.applied_rounds.specs.ClientsAfter.{all_ended}
use Rattle.applied_rounds.specs.States.{AppliedState, AreKept, Stands, after_round, claim_of, start_of, tables_of}
use Rattle.applied_rounds.specs.Told.{tolds}
use Rattle.applied_rounds.specs.declared.told.Told.TheVariants as says
use Rattle.applied_rounds.proofs.Ended.{busy_ended, kept_ended, last_ended}

pub on_ok : {X E : Type 0} (P : Type 0) (r : Result X E) → P → OnOk r P
on_ok P (Ok x) p = p
on_ok P (Err e) p = tt

-- THE JOB

-- what the state shows is what is inside
pub next_inside : (a b : AppliedState) (fresh : List Entry) (job : Job) → a ≡ b → IsNextJob (rounds_in b.applied b.tables) fresh job
    → IsNextJob (rounds_in a.applied a.tables) fresh job
next_inside a b fresh job e n = subst (λ (z : AppliedState). IsNextJob (rounds_in z.applied z.tables) fresh job) (sym e) n

pub asked_now : (s : RoundsState) (fresh : List Entry) (job : Job) (segs : List Seg) → IsInRange s → IsNextJob s fresh job → segs ≡ job.segs → All IsAsked segs
asked_now s fresh job segs range n e = subst (All IsAsked) (sym e) (asked_segs s fresh job.segs range n.fresh_ones n.segs)

-- a job parks what is wanted
parks_now : (s : RoundsState) (fresh : List Entry) (job : Job) (es : List Ending) → IsInRange s → IsNextJob s fresh job
    → parks s.numbers (map want_of job.segs) es ≡ parks s.numbers (next_wants s fresh) es
parks_now s fresh job es range n =
    let new : List Parked = parks s.numbers (map want_of job.segs) es in
    let all : Fields = record {
      before = s;
      segs = job.segs;
      ends = es;
      new = new;
      pushed = s.queue ++ new ∷ [];
      popped = drop 1 (s.queue ++ new ∷ []);
      numbers = next_after s.numbers es;
    } in
    parked_are s fresh job all (record { same = refl; kept = range; segs = refl; new = refl; numbers = refl; pushed = refl; popped = refl }) n

-- so its calls are those of what is wanted
pub calls_now : (s : RoundsState) (fresh : List Entry) (job : Job) (es : List Ending) (calls : List (Tier × ℕ × List ℕ))
    → IsInRange s → IsNextJob s fresh job → calls ≡ map call_of (parks s.numbers (next_wants s fresh) es)
    → calls ≡ map call_of (parks s.numbers (map want_of job.segs) es)
calls_now s fresh job es calls range n h = h ∙ ap (map call_of) (sym (parks_now s fresh job es range n))

-- so is what they tell
pub tolds_by : (next : OfTiers ℕ) (js : List Seg) (ws : List Want) (es : List Ending) → map unanswered js ≡ map asks_for ws
    → tolds next (map want_of js) es ≡ tolds next ws es
tolds_by next [] [] es h = refl
tolds_by next [] (w ∷ ws) es h = absurd (cc)
tolds_by next (j ∷ js) [] es h = absurd (cc)
tolds_by next (j ∷ js) (w ∷ ws) [] h = refl
tolds_by next (j ∷ js) (w ∷ ws) (ends.Reply text ∷ es) h =
    let one : unanswered j ≡ asks_for w = cc in
    let rest : map unanswered js ≡ map asks_for ws = cc in
    λ i. says.Reply ((one i).who) text ∷ tolds_by next js ws es rest i
tolds_by next (j ∷ js) (w ∷ ws) (ends.Call t stage text ∷ es) h =
    let rest : map unanswered js ≡ map asks_for ws = cc in
    ap (λ z. says.Call t (of_tier next t) text ∷ z) (tolds_by (bump next t) js ws es rest)

-- WHAT IS KEPT

no_claim : (run : Option Spec) → claim_of run ≡ None → run ≡ None
no_claim None e = refl
no_claim (Some spec) e = absurd (cc)

-- what a round that is moved on from changes
pub record Moves (s after : RoundsState) (t clients : ClientTable) (fresh : List Entry) (job : Job) (segs : List Seg) (es : List Ending)
    (replies : List (Option (List ℕ))) : Type 0 where
  pub next : IsNextJob s fresh job
  pub each : length es ≡ length job.segs
  pub moved : after ≡ moved_on s (next_wants s fresh) es
  pub segs_are : segs ≡ job.segs
  pub replies_are : replies ≡ map kept_by es
  pub ended : clients ≡ all_ended t segs replies

clients_are : (s after : RoundsState) (t clients : ClientTable) (fresh : List Entry) (job : Job) (segs : List Seg) (es : List Ending)
    (replies : List (Option (List ℕ))) → Moves s after t clients fresh job segs es replies → clients ≡ all_ended t job.segs (map kept_by es)
clients_are s after t clients fresh job segs es replies m = m.ended ∙ (λ i. all_ended t (m.segs_are i) (m.replies_are i))

pub kept_on : {T : Type 0} (store : Holding) (run : Option Spec) (s after : RoundsState) (t clients : ClientTable) (fresh : List Entry) (job : Job)
    (segs : List Seg) (es : List Ending) (replies : List (Option (List ℕ))) (a b : BarrierState T) → AreKept store t s run a → claim_of run ≡ None
    → s.next < 2048 → Moves s after t clients fresh job segs es replies → b.applied ≡ a.applied + 1 → ((r : ℕ) → held_of b r ≡ [])
    → AreKept store clients after run b
kept_on {T} store run s after t clients fresh job segs es replies a b k idle small m out none =
    let new : RoundsState = moved_on s (next_wants s fresh) es in
    let ended : ClientTable = all_ended t job.segs (map kept_by es) in
    let is : clients ≡ ended = clients_are s after t clients fresh job segs es replies m in
    record {
      clients_agree = record {
        last = refl;
        kept = refl;
        busy = λ client low high. ap (λ (z : RoundsState). is_some (parked_of client (concat z.queue))) m.moved
            ∙ busy_ended t s fresh job.segs es client k.range m.next.fresh_ones m.next.segs m.each (k.clients_agree.busy client low high)
            ∙ sym (ap (λ (z : ClientTable). busy_of z.busy client) is);
      };
      range = subst IsInRange (sym m.moved) (moved_in_range s fresh es k.range m.next.fresh_ones small
          (m.each ∙ same_length job.segs (next_wants s fresh) m.next.segs));
      out = out ∙ ap (λ n. n + 1) k.out ∙ sym (ap (λ (z : RoundsState). z.next) m.moved);
      nothing = none;
      run_stands = subst (λ r. IfSome r (λ spec. Stands spec store)) (sym (no_claim run idle)) tt;
    }

-- the state that it shows
pub state_on : (store : Holding) (run : Option Spec) (s after : RoundsState) (t clients : ClientTable) (fresh : List Entry) (job : Job)
    (segs : List Seg) (es : List Ending) (replies : List (Option (List ℕ))) → claim_of run ≡ None → Moves s after t clients fresh job segs es replies
    → record { applied = after.next; tables = tables_of (start_of run store.map) clients after; run = claim_of run }
    ≡ after_round (record { applied = s.next; tables = tables_of (start_of run store.map) t s; run = claim_of run }) (next_wants s fresh)
    (record { store = start_of run store.map; ends = es })
state_on store run s after t clients fresh job segs es replies idle m =
    let is : clients ≡ all_ended t job.segs (map kept_by es) = clients_are s after t clients fresh job segs es replies m in
    let last : clients.last ≡ last_after (next_wants s fresh) t.last =
    ap (λ (z : ClientTable). z.last) is ∙ last_ended t job.segs (next_wants s fresh) es m.next.segs m.each in
    let kept : clients.kept ≡ kept_after (next_wants s fresh) es t.kept =
    ap (λ (z : ClientTable). z.kept) is ∙ kept_ended t job.segs (next_wants s fresh) es m.next.segs m.each in
    let one : after.next ≡ suc s.next = ap (λ (z : RoundsState). z.next) m.moved ∙ omega arith in
    λ i. record {
      applied = one i;
      tables = record {
        store = start_of run store.map;
        last = last i;
        kept = kept i;
        queue = (m.moved i).queue;
        next = (m.moved i).numbers;
      };
      run = idle i;
    }
