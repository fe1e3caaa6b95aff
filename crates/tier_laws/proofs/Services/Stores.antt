-- Segments within the limits keep stores in range, end in range and write few keys.
use Rattle.std.proofs.Common.{◌≡◌, ℕ, zero, suc, ◌-◌, ◌*◌, ◌^◌, ◌<◌, ◌≤◌, Bool, true, false, cond, List, [], ◌∷◌, ◌++◌}
use Rattle.std.proofs.Common.{length, refl, sym, ap, ◌∙◌, subst, Option, Some, None, arith, lit<, lit≤}
use Rattle.std.specs.Prelude.{slice_get, ◌||◌}
use Rattle.std.proofs.lemmas.Bool.{or_parts}
use Rattle.std.proofs.lemmas.List.{length-append}
use Rattle.aeg_base.specs.Store.{Store, same_key, value_at, written}
use Rattle.aeg_base.specs.declared.names.Key.{Key}
use Rattle.aeg_base.proofs.StoreLaws.{value_at-written}
use Rattle.svc_api.specs.Plan.{Plan, Reads, Writes, Ends, store_after, ending_of, IsKey, IsEnding, IsBounded}
use Rattle.svc_api.specs.Requests.{IsRequest}
use Rattle.svc_api.specs.Segment.{Beginning, IsProper}
use Rattle.exec_model.specs.declared.job.Seg.{Seg}
use Rattle.exec_model.specs.Jobs.{Beginnings, AreProper, plan_in, plan_at}
use Rattle.exec_model.specs.Serial.{serial}
use Rattle.tier_laws.specs.Said.{IsStore, IsJob}
use Rattle.aeg_base.proofs.ChangeLaws.{key_parts}
use Rattle.svc_api.proofs.Pigeons.{has}

-- ONE SEGMENT

written_in : (s : Store) (k : Key) (v : ℕ) → IsStore s → IsKey k → v < 2 ^ 64 → IsStore (written s k v)
written_in s k v st is_key small = record {
  keys = λ q n. named q (same_key q k) refl (λ z. n (value_at-written s k v q ∙ z));
  values = λ q. subst (λ n. n < 2 ^ 64) (sym (value_at-written s k v q)) (below q (same_key q k));
}
  where
    named : (q : Key) (b : Bool) → same_key q k ≡ b → (cond b v (value_at s q) ≡ 0 → ⊥) → IsKey q
    named q true e n = subst IsKey (sym (key_parts q k e)) is_key
    named q false e n = st.keys q n

    below : (q : Key) (b : Bool) → cond b v (value_at s q) < 2 ^ 64
    below q true = small
    below q false = st.values q

store_in : (actions puts : ℕ) (p : Plan) (s : Store) → IsBounded actions puts p → IsStore s → IsStore (store_after p s)
store_in actions puts (Reads key rest) s b st = store_in (actions - 1) puts (rest (value_at s key)) s (b.1.1 (value_at s key) (st.values key)) st
store_in actions puts (Writes key value rest) s b st = store_in (actions - 1) (puts - 1) rest (written s key value)
    b.1.1.1.1 (written_in s key value st b.1.1.0 b.1.1.1.0)
store_in actions puts (Ends e) s b st = st

end_in : (actions puts : ℕ) (p : Plan) (s : Store) → IsBounded actions puts p → IsStore s → IsEnding (ending_of p s)
end_in actions puts (Reads key rest) s b st = end_in (actions - 1) puts (rest (value_at s key)) s (b.1.1 (value_at s key) (st.values key)) st
end_in actions puts (Writes key value rest) s b st = end_in (actions - 1) (puts - 1) rest (written s key value)
    b.1.1.1.1 (written_in s key value st b.1.1.0 b.1.1.1.0)
end_in actions puts (Ends e) s b st = b.1

-- the keys that it writes
abbrev wrote : Plan → Store → List Key
wrote (Reads key rest) s = wrote (rest (value_at s key)) s
wrote (Writes key value rest) s = key ∷ wrote rest (written s key value)
wrote (Ends e) s = []

few_wrote : (actions puts : ℕ) (p : Plan) (s : Store) → IsBounded actions puts p → IsStore s → length (wrote p s) ≤ puts
few_wrote actions puts (Reads key rest) s b st = few_wrote (actions - 1) puts (rest (value_at s key)) s (b.1.1 (value_at s key) (st.values key)) st
few_wrote actions puts (Writes key value rest) s b st =
    omega (arith, b.1.0, few_wrote (actions - 1) (puts - 1) rest (written s key value) b.1.1.1.1 (written_in s key value st b.1.1.0 b.1.1.1.0))
few_wrote actions puts (Ends e) s b st = omega arith

unwritten : (p : Plan) (s : Store) (q : Key) → has same_key (wrote p s) q ≡ false → value_at (store_after p s) q ≡ value_at s q
unwritten (Reads key rest) s q h = unwritten (rest (value_at s key)) s q h
unwritten (Writes key value rest) s q h =
    let e = or_parts (same_key q key) (has same_key (wrote rest (written s key value)) q) h in
    unwritten rest (written s key value) q e.1 ∙ value_at-written s key value q ∙ ap (λ b. cond b value (value_at s q)) e.0
unwritten (Ends e) s q h = refl

-- THE SEGMENTS OF A JOB

bounded_in : (o : Option Beginning) (answer : Option ℕ) → IsProper o → IsBounded 32 8 (plan_in o answer)
bounded_in None answer h = (lit< tt, lit≤ tt)
bounded_in (Some b) answer h = h answer

abbrev AreAsked : List Seg → Type 0
AreAsked J = (i : ℕ) (j : Seg) → slice_get J i ≡ Some j → IsRequest j.who

bounded_at : (begins : Beginnings) → AreProper begins → (J : List Seg) → AreAsked J → (i : ℕ) → IsBounded 32 8 (plan_at begins J i)
bounded_at begins h [] k i = (lit< tt, lit≤ tt)
bounded_at begins h (x ∷ xs) k zero = bounded_in (begins x.who x.body x.stage) x.answer (h x.who x.body x.stage (k 0 x refl))
bounded_at begins h (x ∷ xs) k (suc i) = bounded_at begins h xs (λ j y e. k (suc j) y e) i

pub bounded : (begins : Beginnings) → AreProper begins → (J : List Seg) → IsJob J → (i : ℕ) → IsBounded 32 8 (plan_at begins J i)
bounded begins h J k = bounded_at begins h J k.asked

-- each plan is within the limits
abbrev pub AreBounded : (ℕ → Plan) → Type 0
AreBounded plan = (i : ℕ) → IsBounded 32 8 (plan i)

pub one_store_in : (plan : ℕ → Plan) → AreBounded plan → (i : ℕ) (s : Store) → IsStore s → IsStore (store_after (plan i) s)
one_store_in plan b i s st = store_in 32 8 (plan i) s (b i) st

pub one_end_in : (plan : ℕ → Plan) → AreBounded plan → (i : ℕ) (s : Store) → IsStore s → IsEnding (ending_of (plan i) s)
one_end_in plan b i s st = end_in 32 8 (plan i) s (b i) st

pub serial_in : (plan : ℕ → Plan) → AreBounded plan → (order : List ℕ) (s : Store) → IsStore s → IsStore (serial plan s order)
serial_in plan b [] s st = st
serial_in plan b (i ∷ is) s st = serial_in plan b is (store_after (plan i) s) (one_store_in plan b i s st)

-- the keys that the segments write
abbrev pub all_wrote : (ℕ → Plan) → Store → List ℕ → List Key
all_wrote plan s [] = []
all_wrote plan s (i ∷ is) = wrote (plan i) s ++ all_wrote plan (store_after (plan i) s) is

pub few_keys : (plan : ℕ → Plan) → AreBounded plan → (order : List ℕ) (s : Store) → IsStore s → length (all_wrote plan s order) ≤ 8 * length order
few_keys plan b [] s st = omega arith
few_keys plan b (i ∷ is) s st =
    omega (
      arith,
      length-append (wrote (plan i) s) (all_wrote plan (store_after (plan i) s) is),
      few_wrote 32 8 (plan i) s (b i) st,
      few_keys plan b is (store_after (plan i) s) (one_store_in plan b i s st),
    )

has-append : (xs ys : List Key) (q : Key) → has same_key (xs ++ ys) q ≡ false → (has same_key xs q ≡ false) × (has same_key ys q ≡ false)
has-append [] ys q h = (refl, h)
has-append (x ∷ xs) ys q h =
    let e = or_parts (same_key q x) (has same_key (xs ++ ys) q) h in
    let r = has-append xs ys q e.1 in
    (ap (λ b. b || has same_key xs q) e.0 ∙ r.0, r.1)

-- a key that none of them writes keeps its value
pub kept_value : (plan : ℕ → Plan) (order : List ℕ) (s : Store) (q : Key) → has same_key (all_wrote plan s order) q
    ≡ false → value_at (serial plan s order) q ≡ value_at s q
kept_value plan [] s q h = refl
kept_value plan (i ∷ is) s q h =
    let e = has-append (wrote (plan i) s) (all_wrote plan (store_after (plan i) s) is) q h in
    kept_value plan is (store_after (plan i) s) q e.1 ∙ unwritten (plan i) s q e.0
