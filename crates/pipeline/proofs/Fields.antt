-- What a park does to the fields of the rounds.
use Rattle.std.proofs.Common.{◌≡◌, ℕ, ◌+◌, ◌<◌, ◌≤◌, List, [], ◌∷◌, ◌++◌, map, length, drop, refl, sym, ap, ◌∙◌, subst, arith}
use Rattle.aeg_base.specs.declared.names.Tier.{Tier}
use Rattle.svc_api.specs.declared.action.Ending.{Ending}
use Rattle.svc_api.specs.declared.action.Ending.TheVariants.{Reply, Call}
use Rattle.exec_model.specs.declared.job.Seg.{Seg}
use Rattle.exec_model.specs.declared.job.Job.{Job}
use Rattle.log_values.specs.declared.entry.Entry.{Entry}
use Rattle.round_model.specs.Lists.{OfTiers, of_tier, tail_of}
use Rattle.round_model.specs.Tables.{Parked, Want, bump, next_after, parks}
use Rattle.pipeline.specs.States.{RoundsState, greatest, moved_on, next_wants}
use Rattle.pipeline.specs.Kept.{IsInRange}
use Rattle.pipeline.specs.Jobs.{IsNextJob, asks_for, unanswered, want_of}
use Rattle.pipeline.proofs.Moves.{moved_in_range}
use Rattle.pipeline.proofs.Wants.{AreNext, few_segs, same_length}

-- no number of its calls is too great
pub park_fits : (x s : RoundsState) (fresh : List Entry) (job : Job) (js : List Seg) → x ≡ s → IsInRange x → s.next < 2048
    → IsNextJob s fresh job → js ≡ job.segs → (t : Tier) → of_tier x.numbers t + length js < greatest
park_fits x s fresh job js same k lt n segs t =
    let here : IsInRange s = subst IsInRange same k in
    let most : length job.segs ≤ 16 = few_segs s fresh job.segs here n.fresh_ones n.segs in
    omega (arith, ap length segs, here.few t, ap (λ z. of_tier z.numbers t) same)

-- by its segments it parks what the wants park
parks_by : (next : OfTiers ℕ) (js : List Seg) (ws : List Want) (es : List Ending) → map unanswered js ≡ map asks_for ws
    → parks next (map want_of js) es ≡ parks next ws es
parks_by next [] [] es h = refl
parks_by next [] (w ∷ ws) es h = absurd (cc)
parks_by next (j ∷ js) [] es h = absurd (cc)
parks_by next (j ∷ js) (w ∷ ws) [] h = refl
parks_by next (j ∷ js) (w ∷ ws) (Reply text ∷ es) h =
    let rest : map unanswered js ≡ map asks_for ws = cc in parks_by next js ws es rest
parks_by next (j ∷ js) (w ∷ ws) (Call t stage text ∷ es) h =
    let one : unanswered j ≡ asks_for w = cc in
    let rest : map unanswered js ≡ map asks_for ws = cc in
    let client : j.who.client ≡ w.client = ap (λ (z : Seg). z.who.client) one in
    let seq : j.who.seq ≡ w.seq = ap (λ (z : Seg). z.who.seq) one in
    let body : j.body ≡ w.body = ap (λ (z : Seg). z.body) one in
    rw (client, seq, body) (rw (parks_by (bump next t) js ws es rest) refl)

-- the fields before a park of these segments with these ends, what is parked, the queue with it, and the fields after
pub record Fields : Type 0 where
  pub before : RoundsState
  pub segs : List Seg
  pub ends : List Ending
  pub new : List Parked
  pub pushed : List (List Parked)
  pub popped : List (List Parked)
  pub numbers : OfTiers ℕ

abbrev pub after : Fields → RoundsState
after x = record { next = x.before.next + 1; queue = x.popped; numbers = x.numbers }

pub record IsPark (s : RoundsState) (job : Job) (x : Fields) : Type 0 where
  pub same : x.before ≡ s
  pub kept : IsInRange x.before
  pub segs : x.segs ≡ job.segs
  pub new : x.new ≡ parks x.before.numbers (map want_of x.segs) x.ends
  pub numbers : x.numbers ≡ next_after x.before.numbers x.ends
  pub pushed : x.pushed ≡ x.before.queue ++ x.new ∷ []
  pub popped : x.popped ≡ drop 1 x.pushed

dropped : {A : Type 0} (q : List (List A)) (g : List A) → 1 ≤ length q → drop 1 (q ++ g ∷ []) ≡ tail_of q ++ g ∷ []
dropped [] g h = absurd (omega arith)
dropped (x ∷ q) g h = refl

pub parked_are : (s : RoundsState) (fresh : List Entry) (job : Job) (x : Fields) → IsPark s job x → IsNextJob s fresh job
    → x.new ≡ parks s.numbers (next_wants s fresh) x.ends
parked_are s fresh job x p n =
    let own : AreNext s fresh x.segs = ap (map unanswered) p.segs ∙ n.segs in
    p.new ∙ ap (λ z. parks z.numbers (map want_of x.segs) x.ends) p.same ∙ parks_by s.numbers x.segs (next_wants s fresh) x.ends own

pub parked_on : (s : RoundsState) (fresh : List Entry) (job : Job) (x : Fields) → IsPark s job x → IsNextJob s fresh job
    → after x ≡ moved_on s (next_wants s fresh) x.ends
parked_on s fresh job x p n =
    let more : x.new ≡ parks s.numbers (next_wants s fresh) x.ends = parked_are s fresh job x p n in
    let rotated : x.popped ≡ tail_of x.before.queue ++ x.new ∷ [] =
    p.popped ∙ ap (drop 1) p.pushed ∙ dropped x.before.queue x.new p.kept.deep in
    let queue : x.popped ≡ tail_of s.queue ++ parks s.numbers (next_wants s fresh) x.ends ∷ [] =
    rotated ∙ ap (λ z. tail_of z.queue ++ x.new ∷ []) p.same ∙ ap (λ z. tail_of s.queue ++ z ∷ []) more in
    let next : x.before.next + 1 ≡ s.next + 1 = ap (λ z. z.next + 1) p.same in
    let numbers : x.numbers ≡ next_after s.numbers x.ends = p.numbers ∙ ap (λ z. next_after z.numbers x.ends) p.same in
    rw (next, queue, numbers) refl

pub park_keeps : (s : RoundsState) (fresh : List Entry) (job : Job) (x : Fields) → IsPark s job x → IsNextJob s fresh job
    → s.next < 2048 → length x.ends ≡ length job.segs → IsInRange (after x)
park_keeps s fresh job x p n lt each =
    let here : IsInRange s = subst IsInRange p.same p.kept in
    let count : length x.ends ≡ length (next_wants s fresh) = each ∙ same_length job.segs (next_wants s fresh) n.segs in
    subst IsInRange (sym (parked_on s fresh job x p n)) (moved_in_range s fresh x.ends here n.fresh_ones lt count)
