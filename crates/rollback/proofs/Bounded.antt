-- What segments within their limits write, and how they end.
use Rattle.std.proofs.Common.{◌≡◌, ℕ, zero, suc, ◌-◌, ◌*◌, ◌<◌, ◌≤◌, ◌^◌, ◌==◌, Bool, true, false, cond, List, [], ◌∷◌}
use Rattle.std.proofs.Common.{◌++◌, length, length-append, Option, Some, None, unwrap_or, refl, sym, ap, subst, ◌∙◌}
use Rattle.std.proofs.Common.{arith}
use Rattle.std.specs.List.{All, AllByRecursion}
use Rattle.aeg_base.specs.declared.names.Key.{Key}
use Rattle.aeg_base.specs.Store.{Store, same_key, value_at, written}
use Rattle.aeg_base.proofs.StoreLaws.{value_at-written}
use Rattle.svc_api.specs.Plan.{Plan, Reads, Writes, Ends, store_after, ending_of, IsBounded, IsKey, IsEnding}
use Rattle.svc_api.specs.Segment.{Beginning, IsProper}
use Rattle.svc_api.specs.declared.action.Ending.{Ending}
use Rattle.kv_store.specs.Stores.{unwound}
use Rattle.kv_store.proofs.Unwinding.{written_back}
use Rattle.exec_model.specs.declared.job.Seg.{Seg}
use Rattle.exec_model.specs.Serial.{serial, serial_end}
use Rattle.exec_model.specs.Jobs.{Beginnings, plan_in, plan_at, said_nothing, run_job, serial_store, AreProper}
use Rattle.exec_model.proofs.Outcome.{run_job-store}
use Rattle.exec_core.specs.Jobs.{BeginsWell}
use Rattle.kv_store.proofs.Unwinding.{unwound-append}
use Rattle.rollback.specs.Runs.{AreNumbers}

-- the keys that a plan writes, each with the value before
abbrev pub log : Plan → Store → List (Key × ℕ)
log (Reads k f) s = log (f (value_at s k)) s
log (Writes k v p) s = (k, value_at s k) ∷ log p (written s k v)
log (Ends e) s = []

abbrev pub log_all : (ℕ → Plan) → Store → List ℕ → List (Key × ℕ)
log_all plan s [] = []
log_all plan s (i ∷ is) = log (plan i) s ++ log_all plan (store_after (plan i) s) is

unwound-log : (p : Plan) (s : Store) → unwound (log p s) (store_after p s) ≡ s
unwound-log (Reads k f) s = unwound-log (f (value_at s k)) s
unwound-log (Writes k v p) s = ap (λ t. written t k (value_at s k)) (unwound-log p (written s k v)) ∙ written_back s k v
unwound-log (Ends e) s = refl

pub unwound-all : (plan : ℕ → Plan) (s : Store) (is : List ℕ) → unwound (log_all plan s is) (serial plan s is) ≡ s
unwound-all plan s [] = refl
unwound-all plan s (i ∷ is) =
    unwound-append (log (plan i) s) (log_all plan (store_after (plan i) s) is) (serial plan (store_after (plan i) s) is)
    ∙ ap (unwound (log (plan i) s)) (unwound-all plan (store_after (plan i) s) is)
    ∙ unwound-log (plan i) s

numbers_written : (s : Store) (k : Key) (v : ℕ) → v < 2 ^ 64 → AreNumbers s → AreNumbers (written s k v)
numbers_written s k v lt n q = at (same_key q k) (value_at-written s k v q)
  where
    at : (b : Bool) → value_at (written s k v) q ≡ cond b v (value_at s q) → value_at (written s k v) q < 2 ^ 64
    at true e = let a = lt in omega arith
    at false e = let a = n q in omega arith

-- a plan within its limits
pub record Does (puts : ℕ) (p : Plan) (s : Store) : Type 0 where
  pub numbers : AreNumbers (store_after p s)
  pub few : length (log p s) ≤ puts
  pub keys : AllByRecursion (λ e. IsKey e.0) (log p s)
  pub ends : IsEnding (ending_of p s)

pub does : (actions puts : ℕ) (p : Plan) (s : Store) → IsBounded actions puts p → AreNumbers s → Does puts p s
does actions puts (Reads k f) s h n =
    let z = does (actions - 1) puts (f (value_at s k)) s (h.1.1 (value_at s k) (n k)) n in
    record { numbers = z.numbers; few = z.few; keys = z.keys; ends = z.ends }
does actions puts (Writes k v p) s h n =
    let z = does (actions - 1) (puts - 1) p (written s k v) h.1.1.1.1 (numbers_written s k v h.1.1.1.0 n) in
    record { numbers = z.numbers; few = (let a = z.few in let b = h.1.0 in omega arith); keys = (h.1.1.0, z.keys); ends = z.ends }
does actions puts (Ends e) s h n = record { numbers = n; few = omega arith; keys = tt; ends = h.1 }

all-append : {A : Type 0} (P : A → Type 0) (xs ys : List A) → AllByRecursion P xs → AllByRecursion P ys → AllByRecursion P (xs ++ ys)
all-append P [] ys h k = k
all-append P (x ∷ xs) ys h k = (h.0, all-append P xs ys h.1 k)

-- an end, where there is one
abbrev EndsWell : Option Ending → Type 0
EndsWell None = Unit {0}
EndsWell (Some e) = IsEnding e

-- segments within their limits, one after another
pub record DoAll (plan : ℕ → Plan) (s : Store) (is : List ℕ) : Type 0 where
  pub numbers : AreNumbers (serial plan s is)
  pub few : length (log_all plan s is) ≤ 8 * length is
  pub keys : AllByRecursion (λ e. IsKey e.0) (log_all plan s is)
  pub ends : (j : ℕ) → IsEnding (unwrap_or (serial_end plan s is j) said_nothing)

pub do_all : (plan : ℕ → Plan) (s : Store) (is : List ℕ) → ((i : ℕ) → IsBounded 32 8 (plan i)) → AreNumbers s → DoAll plan s is
do_all plan s [] h n = record { numbers = n; few = omega arith; keys = tt; ends = λ j. (let z : 0 ≤ 48 = omega arith in z) }
do_all plan s (i ∷ is) h n =
    let one = does 32 8 (plan i) s (h i) n in
    let rest = do_all plan (store_after (plan i) s) is h one.numbers in
    record {
      numbers = rest.numbers;
      few = (let a = length-append (log (plan i) s) (log_all plan (store_after (plan i) s) is) in let b = one.few in let c = rest.few in omega arith);
      keys = all-append (λ e. IsKey e.0) (log (plan i) s) (log_all plan (store_after (plan i) s) is) one.keys rest.keys;
      ends = λ j. at j (i == j) (rest.ends j) one.ends;
    }
  where
    at : (j : ℕ) (b : Bool) → IsEnding (unwrap_or (serial_end plan (store_after (plan i) s) is j) said_nothing)
        → IsEnding (ending_of (plan i) s)
        → IsEnding (unwrap_or (cond b (Some (ending_of (plan i) s)) (serial_end plan (store_after (plan i) s) is j)) said_nothing)
    at j true r e = e
    at j false r e = r

silent : (a : Option ℕ) → IsBounded 32 8 (Ends said_nothing)
silent a = (let x : 0 < 32 = omega arith in x, let y : 0 ≤ 48 = omega arith in y)

-- each segment of a job keeps within its limits
pub bounded_at : (begins : Beginnings) (segs : List Seg) → AreProper begins → All (BeginsWell begins) segs → (i : ℕ) → IsBounded 32 8 (plan_at begins segs i)
bounded_at begins [] proper each i = silent None
bounded_at begins (x ∷ xs) proper each zero = at (begins x.who x.body x.stage) (proper x.who x.body x.stage (each 0 x (omega arith)).request)
  where
    at : (o : Option Beginning) → IsProper o → IsBounded 32 8 (plan_in o x.answer)
    at None h = silent None
    at (Some beginning) h = h x.answer
bounded_at begins (x ∷ xs) proper each (suc i) = bounded_at begins xs proper (λ k d lt. each (suc k) d (omega arith)) i

-- a run leaves numbers that a store can hold
pub numbers_after : (begins : Beginnings) (segs : List Seg) (s : Store) (schedule : List ℕ) → AreProper begins
    → All (BeginsWell begins) segs → AreNumbers s → AreNumbers (run_job begins segs s schedule).store
unfolding serial_store
numbers_after begins segs s schedule proper each numbers =
    subst AreNumbers (sym (run_job-store begins segs s schedule))
    (do_all (plan_at begins segs) s (run_job begins segs s schedule).order (bounded_at begins segs proper each) numbers).numbers
