-- What a verdict makes of a job is what the tables' round comes to.
use Rattle.std.proofs.Common.{◌≡◌, ℕ, suc, Bool, true, false, cond, List, [], ◌∷◌, length, refl, sym, ap, ◌∙◌, Some, None, unwrap_or}
use Rattle.std.proofs.lemmas.Bool.{and_parts}
use Rattle.std.proofs.lemmas.List.{length-map}
use Rattle.std.proofs.lemmas.Option.{same_Some}
use Rattle.aeg_base.specs.Store.{Store}
use Rattle.svc_api.specs.declared.action.Ending.{Ending}
use Rattle.svc_api.specs.declared.outcome.Outcome.{Outcome}
use Rattle.exec_model.specs.declared.job.Seg.{Seg}
use Rattle.exec_model.specs.Jobs.{Beginnings, below, plan_at, said_nothing, serial_ends, serial_store}
use Rattle.exec_model.specs.Serial as plans
use Rattle.log_values.specs.declared.mid_value.Verdict.{Verdict}
use Rattle.log_values.specs.declared.mid_value.Verdict.TheVariants.{Commit, Serial}
use Rattle.round_model.specs.Service.{Programs, Finish, finish, finish_by, serial_end}
use Rattle.round_model.specs.Settling.{fit, finish_of, fits}
use Rattle.round_model.specs.Tables.{Codes, Tables, Want, job_of}
use Rattle.rollback.specs.Settled.{IsReadable, Settled, told}
use Rattle.rollback.proofs.Fits.{length_below}
use Rattle.tier_laws.proofs.Rounds.StableRounds.{then_parts}
use Rattle.tier_laws.proofs.Services.Serial.{Agrees, end_is, map-below, serial_is, tabulate-same}
use Rattle.applied_rounds.specs.States.{ComesTo}

-- there is one end for each segment
pub ends_settled : (begins : Beginnings) (segs : List Seg) (v : Verdict) (s t : Store) (o : Outcome) → IsReadable v (length segs)
    → Settled begins segs v s t o → length o.ends ≡ length segs
unfolding serial_ends
ends_settled begins segs (Commit token order) s t o k h =
    ap (λ (z : Outcome). length z.ends) (same_Some o k.told_as (sym h.0 ∙ k.reads)) ∙ k.each
ends_settled begins segs Serial s t o k h =
    ap (λ (z : Outcome). length z.ends) h.1 ∙ length-map (below (length segs)) _ ∙ length_below (length segs)

-- ends that fit are as many as the segments
fits_length : (m : Programs) (ws : List Want) (es : List Ending) → fits m ws es ≡ true → length es ≡ length ws
fits_length m [] [] f = refl
fits_length m [] (e ∷ es) f = absurd (cc)
fits_length m (w ∷ ws) [] f = absurd (cc)
fits_length m (w ∷ ws) (e ∷ es) f = ap suc (fits_length m ws es (and_parts (fit m w e) (fits m ws es) f).1)

-- a Commit that comes to something tells ends that fit
fitting : (m : Programs) (ws : List Want) (s : Store) (o : Outcome) (f : Finish) → cond (fits m ws o.ends) (Some (finish_by s o)) None ≡ Some f
    → (fits m ws o.ends ≡ true) × (finish_by s o ≡ f)
fitting m ws s o f h = by (fits m ws o.ends) h
  where
    by : (b : Bool) → cond b (Some (finish_by s o)) None ≡ Some f → (b ≡ true) × (finish_by s o ≡ f)
    by true h = (refl, same_Some (finish_by s o) f h)
    by false h = absurd (cc)

pub readable : (m : Programs) (A : Codes) (ws : List Want) (T : Tables) (v : Verdict) (f : Finish) (n : ℕ) → m.read ≡ told → length ws ≡ n
    → finish_of m A ws T v ≡ Some f → IsReadable v n
readable m A ws T (Commit token order) f n r long h =
    let p = then_parts (m.read token) (λ o. cond (fits m ws o.ends) (Some (finish_by T.store o)) None) f h in
    record {
      told_as = p.0;
      reads = sym (ap (λ z. z token) r) ∙ p.1;
      each = fits_length m ws p.0.ends (fitting m ws T.store p.0 f p.2).0 ∙ long;
    }
readable m A ws T Serial f n r long h = tt

-- the job in its order, by its plans and by the table
serial_finish : (m : Programs) (segs : List Seg) (s : Store) → Agrees m
    → record { store = serial_store m.begins segs s (below (length segs)); ends = serial_ends m.begins segs s (below (length segs)) }
    ≡ finish m segs (below (length segs)) s
unfolding serial_store serial_ends
serial_finish m segs s a =
    let order : List ℕ = below (length segs) in
    let left = serial_is m a segs order s in
    let ends = map-below (λ i. unwrap_or (plans.serial_end (plan_at m.begins segs) s order i) said_nothing) (length segs)
    ∙ tabulate-same (length segs) (λ i. unwrap_or (plans.serial_end (plan_at m.begins segs) s order i) said_nothing) (serial_end m segs order s)
    (end_is m a segs order s) in
    λ i. record { store = left i; ends = ends i }

pub comes_to : (m : Programs) (A : Codes) (ws : List Want) (T : Tables) (v : Verdict) (f : Finish) (segs : List Seg) → Agrees m → m.read ≡ told
    → (v ≡ Serial → job_of A ws ≡ Some segs) → finish_of m A ws T v ≡ Some f → ComesTo m.begins segs v T.store f
comes_to m A ws T (Commit token order) f segs a r j h = λ t out k.
    let p = then_parts (m.read token) (λ o. cond (fits m ws o.ends) (Some (finish_by T.store o)) None) f h in
    let same : out ≡ p.0 = same_Some out p.0 (sym k.0 ∙ sym (ap (λ z. z token) r) ∙ p.1) in
    ap (λ (z : Store). record { store = z; ends = out.ends }) k.1 ∙ ap (finish_by T.store) same ∙ (fitting m ws T.store p.0 f p.2).1
comes_to m A ws T Serial f segs a r j h = λ t out k.
    let p = then_parts (job_of A ws) (λ J. Some (finish m J (below (length J)) T.store)) f h in
    let same : segs ≡ p.0 = same_Some segs p.0 (sym (j refl) ∙ p.1) in
    (λ i. record { store = k.0 i; ends = (k.1 i).ends }) ∙ serial_finish m segs T.store a
    ∙ ap (λ J. finish m J (below (length J)) T.store) same ∙ same_Some (finish m p.0 (below (length p.0)) T.store) f p.2
