-- A backend node learns, offers, retries and restarts.
use Rattle.std.proofs.Common.{◌≡◌, ℕ, ◌+◌, ◌*◌, ◌<◌, ◌≤◌, Bool, true, false, cond, List, [], ◌∷◌, ◌++◌, length, refl}
use Rattle.std.proofs.Common.{sym, ap, ◌∙◌, subst, inl, inr, Option, Some, None, zero, suc, get_or, arith}
use Rattle.std.specs.Prelude.{◌⊎◌, ◌==◌, ◌||◌, nat_lt, replicate, take}
use Rattle.std.proofs.lemmas.Bool.{cond-true, cond-false, ltb-true, ltb-false, cases_lt, cases_eq}
use Rattle.std.proofs.Math.Seq.{take-append_seam}
use Rattle.aeg_base.specs.declared.names.Tier.{Tier}
use Rattle.log_model.proofs.Basics.{Every}
use Rattle.log_model.specs.Log.{nobody}
use Rattle.log_values.specs.declared.any_value.AnyValue.{AnyValue}
use Rattle.log_values.specs.declared.any_value.AnyValue.TheVariants.{Back as OfBack, Mid as OfMid}
use Rattle.log_values.specs.declared.back_value.BackValue.TheVariants.{Call as Called, Settle as Settled}
use Rattle.round_model.proofs.NumberedLaws.{find_from, find_without, rises_from, rises_put, rises_without}
use Rattle.round_model.specs.Lists.{each, is_some}
use Rattle.round_model.specs.Numbered.{rises, find, from, put}
use Rattle.round_model.specs.Service.{Backend, Service}
use Rattle.round_model.specs.Shims.{ShimState, copies_or_none, copy_of}
use Rattle.run_model.specs.Histories.{BackRun, back_from, back_run, back_serve, back_value, floor_from, floor_of, floor_value}
use Rattle.run_model.specs.World.{Config}
use Rattle.tier_laws.proofs.Lists.ItemsByIndex.{put_here, put_there, get_end, get_left}
use Rattle.tier_laws.proofs.Rounds.DecidedRounds.{every-each}
use Rattle.tier_laws.proofs.BackNodes.RightMoves.{BackKnown, BackOther, Tied, put-cases, put-here, put-there}
use Rattle.tier_laws.proofs.BackNodes.GrowingLogs.{back-push, run-keeps, value-keeps}
use Rattle.tier_laws.proofs.Events.GrowingPast.{SentOk, Past}
use Rattle.tier_laws.proofs.Rounds.StableRounds.{MoreLog}
use Rattle.tier_model.specs.Back.{answer_to, Back, after_value, passes, serves, settles, value_sends}
use Rattle.tier_model.specs.Moves.{Packet}

-- PREFIXES

prefix-split : {V : Type 0} (xs ys : List V) → MoreLog xs ys → (rest : List V) × (ys ≡ xs ++ rest)
prefix-split [] ys k = (ys, refl)
prefix-split (x ∷ xs) [] k = absurd (let e = k.at 0 x refl in cc)
prefix-split (x ∷ xs) (y ∷ ys) k =
    let e = k.at 0 x refl in
    let s : y ≡ x = cc in
    let r = prefix-split xs ys (record { at = λ i v f. k.at (suc i) v f }) in
    (r.0, λ i. s i ∷ r.1 i)

take-prefix : {V : Type 0} (xs ys : List V) → MoreLog xs ys → take (length xs) ys ≡ xs
take-prefix xs ys k = let r = prefix-split xs ys k in ap (take (length xs)) r.1 ∙ take-append_seam xs r.0

back_from-append : {B : Type 0} (m : Service B) (t : Tier) (R : BackRun B) (xs ys : List AnyValue)
    → back_from (m.backend t) R (xs ++ ys) ≡ back_from (m.backend t) (back_from (m.backend t) R xs) ys
back_from-append m t R [] ys = refl
back_from-append m t R (x ∷ xs) ys = back_from-append m t (back_value (m.backend t) R x) xs ys

-- a code of a prefix is one of the log
prefix-code : {B : Type 0} (m : Service B) (t : Tier) (xs ys : List AnyValue) (n code : ℕ) → MoreLog xs ys → (back_run (m.backend t) xs).code n ≡ Some code
    → (back_run (m.backend t) ys).code n ≡ Some code
prefix-code {B} m t xs ys n code k e =
    let r = prefix-split xs ys k in
    ap (λ z. (back_run (m.backend t) z).code n) r.1 ∙ ap (λ (R : BackRun B). R.code n) (back_from-append m t _ xs r.0)
    ∙ run-keeps m t (back_run (m.backend t) xs) r.0 n code e

floor-append : (f : ℕ) (vs : List AnyValue) (v : AnyValue) → floor_from f (vs ++ v ∷ []) ≡ floor_value (floor_from f vs) v
floor-append f [] v = refl
floor-append f (w ∷ vs) v = floor-append (floor_value f w) vs v

floor-push : (vs : List AnyValue) (v : AnyValue) → floor_of (vs ++ v ∷ []) ≡ floor_value (floor_of vs) v
floor-push vs v = floor-append 1 vs v

-- TABLES BY NUMBER

-- what is found once all below g is dropped is from g on, and was found before
from_some : {A : Type 0} (es : List (ℕ × A)) (g n : ℕ) (a : A) → rises 0 es ≡ true → find (from es g) n ≡ Some a → (g ≤ n) × (find es n ≡ Some a)
from_some {A} es g n a h e = go (nat_lt n g) refl (sym (find_from 0 es g n h) ∙ e)
  where
    go : (b : Bool) → nat_lt n g ≡ b → cond b None (find es n) ≡ Some a → (g ≤ n) × (find es n ≡ Some a)
    go true f q = absurd (cc)
    go false f q = (ltb-false n g f, q)

from_keeps : {A : Type 0} (es : List (ℕ × A)) (g n : ℕ) → rises 0 es ≡ true → g ≤ n → find (from es g) n ≡ find es n
from_keeps es g n h l = find_from 0 es g n h ∙ cond-false (nat_lt n g) None (find es n) (not_less n g l)
  where
    not_less : (n g : ℕ) → g ≤ n → nat_lt n g ≡ false
    not_less n g l = grind (arith)

pub nobody_gave : (n y : ℕ) (text : List ℕ) → get_or (replicate n None) y None ≡ Some text → ⊥
nobody_gave zero y text e = cc
nobody_gave (suc n) zero text e = cc
nobody_gave (suc n) (suc y) text e = nobody_gave n y text e

-- a copy that is left once some calls are dropped was there before
less_copies : (b : Bool) (o p : Option (List (Option (List ℕ)))) (y : ℕ) (text : List ℕ) → p ≡ cond b None o → copy_of (copies_or_none p) y ≡ Some text
    → copy_of (copies_or_none o) y ≡ Some text
less_copies true o p y text e f = absurd (nobody_gave 5 y text (sym (ap (λ z. copy_of (copies_or_none z) y) e) ∙ f))
less_copies false o p y text e f = sym (ap (λ z. copy_of (copies_or_none z) y) e) ∙ f

-- ONE VALUE

pub record Learnt {B : Type 0} (c : Config B) (P : Past B) (t : Tier) (x : ℕ) (xs : List AnyValue) (σ : Back B) (ks : List Packet) : Type 0 where
  pub tied : Tied (c.service.backend t) xs σ
  pub other : BackOther c P t σ
  pub sends : Every (SentOk c P) ks

tied_same : {B : Type 0} (b : Backend B) (xs ys : List AnyValue) (σ : Back B) → back_run b ys ≡ back_run b xs → floor_of ys ≡ floor_of xs → Tied b xs σ
    → Tied b ys σ
tied_same {B} b xs ys σ e q k = record {
  greatest = k.greatest ∙ sym q;
  above = k.above;
  state = k.state ∙ ap (λ (R : BackRun B). R.state) (sym e);
  codes = λ n code f. k.codes n code (sym (ap (λ (R : BackRun B). R.code n) e) ∙ f);
  kept = λ n code f. ap (λ (R : BackRun B). R.code n) e ∙ k.kept n code f;
  floor = λ n a b. let r = k.floor n a b in (r.0, ap (λ (R : BackRun B). R.code n) e ∙ r.1);
  in_order = k.in_order;
}

learn_call : {B : Type 0} (c : Config B) (P : Past B) (t : Tier) (x : ℕ) (vs xs : List AnyValue) (σ : Back B) (n : ℕ) (text : List ℕ) → BackKnown c P t vs
    → MoreLog (xs ++ OfBack (Called n text) ∷ []) vs → Tied (c.service.backend t) xs σ → BackOther c P t σ
    → Learnt c P t x (xs ++ OfBack (Called n text) ∷ []) (after_value (c.service.backend t) σ (OfBack (Called n text)))
    (value_sends c.u (c.service.backend t) t x σ (OfBack (Called n text)))
learn_call {B} c P t x vs xs σ n text known pre tied other = go (passes σ n) refl
  where
    b : Backend B
    b = c.service.backend t

    -- the backend before the call, and where it is served
    R : BackRun B
    R = back_run b xs

    S : BackRun B
    S = back_serve b R n text

    ys : List AnyValue
    ys = xs ++ OfBack (Called n text) ∷ []

    answer : ℕ
    answer = (b.serve σ.state text).code

    positive : 0 < n
    positive = known.positive (length xs) n text (pre.at (length xs) (OfBack (Called n text)) (get_end xs (OfBack (Called n text))))

    pushed_run : back_run b ys ≡ cond (is_some (R.code n)) R S
    pushed_run = back-push c.service t xs (OfBack (Called n text))

    has : passes σ n ≡ true → (code : ℕ) × (R.code n ≡ Some code)
    has e = by (nat_lt n σ.shim.floor) refl (find σ.shim.kept n) refl e
      where
        by : (b : Bool) → nat_lt n σ.shim.floor ≡ b → (o : Option ℕ) → find σ.shim.kept n ≡ o → (b || is_some o) ≡ true → (code : ℕ) × (R.code n ≡ Some code)
        by true f o g h = tied.floor n positive (ltb-true n σ.shim.floor f)
        by false f (Some code) g h = (code, tied.kept n code g)
        by false f None g h = absurd (cc)

    none : passes σ n ≡ false → (R.code n ≡ None) × (σ.shim.floor ≤ n)
    none e = by (nat_lt n σ.shim.floor) refl (find σ.shim.kept n) refl e
      where
        by : (b : Bool) → nat_lt n σ.shim.floor ≡ b → (o : Option ℕ) → find σ.shim.kept n ≡ o → (b || is_some o) ≡ false
            → (R.code n ≡ None) × (σ.shim.floor ≤ n)
        by true f o g h = absurd (cc)
        by false f (Some code) g h = absurd (cc)
        by false f None g h = (empty (R.code n) refl, ltb-false n σ.shim.floor f)
          where
            empty : (o : Option ℕ) → R.code n ≡ o → R.code n ≡ None
            empty None q = q
            empty (Some code) q = absurd (no_code (tied.codes n code q))
              where
                no_code : (n < σ.shim.floor) ⊎ (find σ.shim.kept n ≡ Some code) → ⊥
                no_code (inl l) = omega (arith, ltb-false n σ.shim.floor f)
                no_code (inr l) = cc

    go : (p : Bool) → passes σ n ≡ p → Learnt c P t x ys (cond p σ (serves b σ n text)) (cond p [] (each (2 * c.u + 1) nobody (answer_to t x n answer)))
    go true e = record {
      tied = tied_same b xs ys σ (pushed_run ∙ ap (λ z. cond (is_some z) R S) (has e).1) (floor-push xs (OfBack (Called n text))) tied;
      other = other;
      sends = tt;
    }
    go false e = record {
      tied = record {
        state = ap (λ z. (b.serve z text).state) tied.state ∙ ap (λ (Q : BackRun B). Q.state) (sym served);
        codes = λ k code f. codes k code (cases_eq k n) (sym (ap (λ (Q : BackRun B). Q.code k) served) ∙ f);
        kept = λ k code f. ap (λ (Q : BackRun B). Q.code k) served ∙ kept k code (put-cases σ.shim.kept n answer k code f);
        floor = λ k l m. let r = tied.floor k l m in (r.0, ap (λ (Q : BackRun B). Q.code k) served ∙ keeps k r.0 r.1);
        greatest = tied.greatest ∙ sym (floor-push xs (OfBack (Called n text)));
        above = λ k code f. above k code (put-cases σ.shim.kept n answer k code f);
        in_order = rises_put 0 σ.shim.kept n answer (omega arith) tied.in_order;
      };
      other = record {
        faults = other.faults;
        copies = λ k y copy f. other.copies k y copy (less_copies (n == k) _ _ y copy (find_without 0 σ.shim.copies n k other.in_order) f);
        in_order = rises_without 0 σ.shim.copies n other.in_order;
        floors = other.floors;
        kept = λ k code f. still k code (put-cases σ.shim.kept n answer k code f);
      };
      sends = every-each (SentOk c P) (2 * c.u + 1) nobody (answer_to t x n answer) (λ y. right);
    }
      where
        served : back_run b ys ≡ S
        served = pushed_run ∙ ap (λ z. cond (is_some z) R S) (none e).0

        here : S.code n ≡ Some answer
        here = put_here R.code n _ ∙ ap (λ z. Some (b.serve z text).code) (sym tied.state)

        right : P.server.served t n ≡ Some answer
        right = known.served n ∙ prefix-code c.service t ys vs n answer pre (ap (λ (Q : BackRun B). Q.code n) served ∙ here)

        keeps : (k code : ℕ) → R.code k ≡ Some code → S.code k ≡ Some code
        keeps k code f =
            sym (ap (λ (Q : BackRun B). Q.code k) served) ∙ ap (λ (Q : BackRun B). Q.code k) (back-push c.service t xs (OfBack (Called n text)))
            ∙ value-keeps c.service t R (OfBack (Called n text)) k code f

        codes : (k code : ℕ) → (k ≡ n) ⊎ (k ≡ n → ⊥) → S.code k ≡ Some code → (k < σ.shim.floor) ⊎ (find (put σ.shim.kept n answer) k ≡ Some code)
        codes k code (inl g) f =
            let h : Some code ≡ Some answer = sym f ∙ ap S.code g ∙ here in
            inr (ap (find (put σ.shim.kept n answer)) g ∙ put-here σ.shim.kept n answer ∙ sym h)
        codes k code (inr g) f = old (tied.codes k code (sym (put_there R.code n _ k g) ∙ f))
          where
            old : (k < σ.shim.floor) ⊎ (find σ.shim.kept k ≡ Some code) → (k < σ.shim.floor) ⊎ (find (put σ.shim.kept n answer) k ≡ Some code)
            old (inl l) = inl l
            old (inr l) = inr (put-there σ.shim.kept n answer k g ∙ l)

        above : (k code : ℕ) → (find σ.shim.kept k ≡ Some code) ⊎ ((n ≡ k) × (answer ≡ code)) → σ.shim.floor ≤ k
        above k code (inl f) = tied.above k code f
        above k code (inr f) = omega (arith, f.0, (none e).1)

        kept : (k code : ℕ) → (find σ.shim.kept k ≡ Some code) ⊎ ((n ≡ k) × (answer ≡ code)) → S.code k ≡ Some code
        kept k code (inl f) = keeps k code (tied.kept k code f)
        kept k code (inr f) = ap S.code (sym f.0) ∙ here ∙ ap Some f.1

        still : (k code : ℕ) → (find σ.shim.kept k ≡ Some code) ⊎ ((n ≡ k) × (answer ≡ code)) → P.server.served t k ≡ Some code
        still k code (inl f) = other.kept k code f
        still k code (inr f) = ap (P.server.served t) (sym f.0) ∙ right ∙ ap Some f.1

learn_settle : {B : Type 0} (c : Config B) (P : Past B) (t : Tier) (x : ℕ) (vs xs : List AnyValue) (σ : Back B) (g : ℕ) → BackKnown c P t vs
    → MoreLog (xs ++ OfBack (Settled g) ∷ []) vs → Tied (c.service.backend t) xs σ → BackOther c P t σ
    → Learnt c P t x (xs ++ OfBack (Settled g) ∷ []) (settles σ g) []
learn_settle {B} c P t x vs xs σ g known pre tied other = go (nat_lt σ.shim.floor g) refl
  where
    b : Backend B
    b = c.service.backend t

    ys : List AnyValue
    ys = xs ++ OfBack (Settled g) ∷ []

    same : back_run b ys ≡ back_run b xs
    same = back-push c.service t xs (OfBack (Settled g))

    floor_is : floor_of ys ≡ cond (nat_lt (floor_of xs) g) g (floor_of xs)
    floor_is = floor-push xs (OfBack (Settled g))

    before : MoreLog xs vs
    before = record { at = λ i v e. pre.at i v (get_left xs (OfBack (Settled g) ∷ []) i v e) }

    all : (n : ℕ) → 0 < n → n < g → (code : ℕ) × ((back_run b xs).code n ≡ Some code)
    all n l m =
        let r = known.settles (length xs) g n (pre.at (length xs) (OfBack (Settled g)) (get_end xs (OfBack (Settled g)))) l m in
        (r.0, subst (λ z. (back_run b z).code n ≡ Some r.0) (take-prefix xs vs before) r.1)

    -- the shim once the floor has risen
    risen : ShimState
    risen = record σ.shim { kept = from σ.shim.kept g; floor = g; copies = from σ.shim.copies g }

    go : (p : Bool) → nat_lt σ.shim.floor g ≡ p → Learnt c P t x ys (record σ { shim = cond p risen σ.shim }) []
    go false e = record {
      tied = tied_same b xs ys σ same (floor_is ∙ cond-false (nat_lt (floor_of xs) g) g (floor_of xs) (subst (λ z. nat_lt z g ≡ false) tied.greatest e)) tied;
      other = other;
      sends = tt;
    }
    go true e = record {
      tied = record {
        state = tied.state ∙ ap (λ (R : BackRun B). R.state) (sym same);
        codes = λ n code f. codes n code (tied.codes n code (sym (ap (λ (R : BackRun B). R.code n) same) ∙ f)) (cases_lt n g);
        kept = λ n code f. ap (λ (R : BackRun B). R.code n) same ∙ tied.kept n code (from_some σ.shim.kept g n code tied.in_order f).1;
        floor = λ n l m. let r = all n l m in (r.0, ap (λ (R : BackRun B). R.code n) same ∙ r.1);
        greatest = sym (floor_is ∙ cond-true (nat_lt (floor_of xs) g) g (floor_of xs) (subst (λ z. nat_lt z g ≡ true) tied.greatest e));
        above = λ n code f. (from_some σ.shim.kept g n code tied.in_order f).0;
        in_order = rises_from 0 σ.shim.kept g tied.in_order;
      };
      other = record {
        faults = other.faults;
        copies = λ n y copy f. other.copies n y copy (less_copies (nat_lt n g) _ _ y copy (find_from 0 σ.shim.copies g n other.in_order) f);
        in_order = rises_from 0 σ.shim.copies g other.in_order;
        floors = other.floors;
        kept = λ n code f. other.kept n code (from_some σ.shim.kept g n code tied.in_order f).1;
      };
      sends = tt;
    }
      where
        codes : (n code : ℕ) → (n < σ.shim.floor) ⊎ (find σ.shim.kept n ≡ Some code) → (n < g) ⊎ (g ≤ n) → (n < g) ⊎ (find (from σ.shim.kept g) n ≡ Some code)
        codes n code f (inl l) = inl l
        codes n code (inl f) (inr l) = absurd (omega (arith, ltb-true σ.shim.floor g e))
        codes n code (inr f) (inr l) = inr (from_keeps σ.shim.kept g n tied.in_order l ∙ f)

pub learn_ok : {B : Type 0} (c : Config B) (P : Past B) (t : Tier) (x : ℕ) (vs xs : List AnyValue) (σ : Back B) (v : AnyValue) → BackKnown c P t vs
    → MoreLog (xs ++ v ∷ []) vs → Tied (c.service.backend t) xs σ → BackOther c P t σ
    → Learnt c P t x (xs ++ v ∷ []) (after_value (c.service.backend t) σ v) (value_sends c.u (c.service.backend t) t x σ v)
learn_ok c P t x vs xs σ (OfBack (Called n text)) known pre tied other = learn_call c P t x vs xs σ n text known pre tied other
learn_ok c P t x vs xs σ (OfBack (Settled g)) known pre tied other = learn_settle c P t x vs xs σ g known pre tied other
learn_ok c P t x vs xs σ (OfMid v) known pre tied other = record {
  tied = tied_same (c.service.backend t) xs (xs ++ OfMid v ∷ []) σ (back-push c.service t xs (OfMid v)) (floor-push xs (OfMid v)) tied;
  other = other;
  sends = tt;
}
