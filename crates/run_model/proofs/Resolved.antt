-- Where no disk met a fault a script comes to one run.
use Rattle.std.proofs.Common.{◌≡◌, zero, suc, true, List, [], ◌∷◌, ◌++◌, refl, sym, ap, ◌∙◌, ◌⊎◌, inl, inr, subst, Option, Some, None, append_assoc, append-nil}
use Rattle.run_model.specs.declared.trace.Fared.{Fared}
use Rattle.run_model.specs.declared.trace.Fared.TheVariants.{Fine, Cut, Fault}
use Rattle.run_model.specs.declared.trace.Found.TheVariants.{Reads, Fault as Fails}
use Rattle.run_model.specs.declared.trace.TraceEvent.{TraceEvent}
use Rattle.run_model.specs.declared.trace.TraceEvent.TheVariants.{Submit, Deliver, Short, Lead, Offer, Work, Retry, Crash, Restart, Wipe}
use Rattle.run_model.specs.Script.{Script}
use Rattle.run_model.specs.World.{Config}
use Rattle.run_model.specs.Runs.{world}
use Rattle.run_model.specs.Resolving.{Standing, Due, next, Fares, is_fine, Becomes, AllBecome, is_sure, AllSure}
use Rattle.run_model.specs.Resolving.{stands_after, Goes, starts, first_standing, Reaches, Resolves}

fares_fine : (event : Fared → TraceEvent) (due : TraceEvent) (fared : Fared) → Fares event due fared → is_fine fared ≡ true → due ≡ event fared
fares_fine event due Fine h f = h
fares_fine event due (Cut nth keep) h f = h
fares_fine event due Fault h f = absurd (cc)

pub sure_is_due : (due e : TraceEvent) → Becomes due e → is_sure e ≡ true → due ≡ e
sure_is_due due (Deliver k fared) h f = fares_fine (Deliver k) due fared h f
sure_is_due due (Short k bytes fared) h f = fares_fine (Short k bytes) due fared h f
sure_is_due due (Lead n fared) h f = fares_fine (Lead n) due fared h f
sure_is_due due (Offer n fared) h f = fares_fine (Offer n) due fared h f
sure_is_due due (Restart n (Reads zero)) h f = h
sure_is_due due (Restart n (Reads (suc k))) h f = absurd (cc)
sure_is_due due (Restart n Fails) h f = absurd (cc)
sure_is_due due (Submit y text) h f = h
sure_is_due due (Work n schedule) h f = h
sure_is_due due (Retry end) h f = h
sure_is_due due (Crash n) h f = h
sure_is_due due (Wipe n) h f = h

-- LISTS OF EVENTS

sure_front : (es fs : List TraceEvent) → AllSure (es ++ fs) → AllSure es
sure_front [] fs h = tt
sure_front (e ∷ es) fs h = (h.0, sure_front es fs h.1)

sure_rest : (es fs : List TraceEvent) → AllSure (es ++ fs) → AllSure fs
sure_rest [] fs h = h
sure_rest (e ∷ es) fs h = sure_rest es fs h.1

-- one event more
pub sure-last : (es : List TraceEvent) (e : TraceEvent) → AllSure es → is_sure e ≡ true → AllSure (es ++ e ∷ [])
sure-last [] e h f = (f, tt)
sure-last (x ∷ es) e h f = (h.0, sure-last es e h.1 f)

all_due : (dues es : List TraceEvent) → AllBecome dues es → AllSure es → dues ≡ es
all_due [] [] h f = refl
all_due [] (e ∷ es) h f = absurd h
all_due (due ∷ dues) [] h f = absurd h
all_due (due ∷ dues) (e ∷ es) h f = ap (λ z. z ∷ dues) (sure_is_due due e h.0 f.0) ∙ ap (λ z. e ∷ z) (all_due dues es h.1 f.1)

-- RUNS

-- a run that ends, and another from the same standing that has come so far: it goes on as the first
pub record GoesOn {B : Type 0} (c : Config B) (t : Standing B) (es fs : List TraceEvent) (end : Standing B) : Type 0 where
  pub rest : List TraceEvent
  pub whole : fs ≡ es ++ rest
  pub goes : Goes c t rest end

same_due : (o : Option Due) (d g : Due) → o ≡ Some d → o ≡ Some g → d ≡ g
same_due o d g e f = let both : Some d ≡ Some g = sym e ∙ f in cc

goes_on : {B : Type 0} (c : Config B) (s t end : Standing B) (es fs : List TraceEvent) → Goes c s es t → AllSure es
    → Goes c s fs end → AllSure fs → next c end ≡ None → GoesOn c t es fs end
goes_on {B} c s t end [] fs g a h b n = record { rest = fs; whole = refl; goes = subst (λ (z : Standing B). Goes c z fs end) g h }
goes_on {B} c s t end (e ∷ es) [] g a h b n =
    let none : next c s ≡ None = ap (λ (z : Standing B). next c z) h ∙ n in
    let some : next c s ≡ Some g.0 = g.1 in
    absurd (cc)
goes_on {B} c s t end (e ∷ es) (f ∷ fs) g a h b n =
    let one : g.0 ≡ h.0 = same_due (next c s) g.0 h.0 g.1 h.1 in
    let same : e ≡ f = sym (sure_is_due g.0.event e g.2 a.0) ∙ ap (λ (z : Due). z.event) one ∙ sure_is_due h.0.event f h.2 b.0 in
    let at : stands_after c s.world h.0 f ≡ stands_after c s.world g.0 e = ap (λ (z : Due). stands_after c s.world z f)
    (sym one) ∙ ap (λ (z : TraceEvent). stands_after c s.world g.0 z) (sym same) in
    let on = goes_on c (stands_after c s.world g.0 e) t end es fs g.4 a.1 (subst (λ (z : Standing B). Goes c z fs end) at h.4) b.1 n in
    record { rest = on.rest; whole = ap (λ z. z ∷ fs) (sym same) ∙ ap (λ z. e ∷ z) on.whole; goes = on.goes }

-- of two runs from one standing one goes on as the other
abbrev pub OneGoesOn : {B : Type 0} → Config B → Standing B → List TraceEvent → Standing B → List TraceEvent → Type 0
OneGoesOn c t es end fs = GoesOn c t es fs end ⊎ GoesOn c end fs es t

one_goes_on : {B : Type 0} (c : Config B) (s t end : Standing B) (es fs : List TraceEvent) → Goes c s es t → AllSure es
    → Goes c s fs end → AllSure fs → OneGoesOn c t es end fs
one_goes_on {B} c s t end [] fs g a h b = inl (record { rest = fs; whole = refl; goes = subst (λ (z : Standing B). Goes c z fs end) g h })
one_goes_on {B} c s t end (e ∷ es) [] g a h b = inr (record { rest = e ∷ es; whole = refl; goes = subst (λ (z : Standing B). Goes c z (e ∷ es) t) h g })
one_goes_on {B} c s t end (e ∷ es) (f ∷ fs) g a h b =
    let one : g.0 ≡ h.0 = same_due (next c s) g.0 h.0 g.1 h.1 in
    let same : e ≡ f = sym (sure_is_due g.0.event e g.2 a.0) ∙ ap (λ (z : Due). z.event) one ∙ sure_is_due h.0.event f h.2 b.0 in
    let at : stands_after c s.world h.0 f ≡ stands_after c s.world g.0 e = ap (λ (z : Due). stands_after c s.world z f)
    (sym one) ∙ ap (λ (z : TraceEvent). stands_after c s.world g.0 z) (sym same) in
    with_one e f es fs same (one_goes_on c (stands_after c s.world g.0 e) t end es fs g.4 a.1 (subst (λ (z : Standing B). Goes c z fs end) at h.4) b.1)
  where
    with_one : (e f : TraceEvent) (es fs : List TraceEvent) → e ≡ f → OneGoesOn c t es end fs → OneGoesOn c t (e ∷ es) end (f ∷ fs)
    with_one e f es fs same (inl on) = inl (record { rest = on.rest; whole = ap (λ z. z ∷ fs) (sym same) ∙ ap (λ z. e ∷ z) on.whole; goes = on.goes })
    with_one e f es fs same (inr on) = inr (record { rest = on.rest; whole = ap (λ z. z ∷ es) same ∙ ap (λ z. f ∷ z) on.whole; goes = on.goes })

-- of two runs of a script without a fault one begins with the other
pub one_begins : {B : Type 0} (c : Config B) (script : Script) (es fs : List TraceEvent) (t end : Standing B)
    → Reaches c script es t → AllSure es → Reaches c script fs end → AllSure fs → OneGoesOn c t es end fs
one_begins {B} c script es fs t end g a r b = go
    (one_goes_on c (first_standing (world c g.0) script) t end g.1 r.1 g.5 (sure_rest g.0 g.1 a_all) from (sure_rest r.0 r.1 b_all))
  where
    a_all : AllSure (g.0 ++ g.1)
    a_all = subst AllSure g.2 a

    b_all : AllSure (r.0 ++ r.1)
    b_all = subst AllSure r.2 b

    first : r.0 ≡ g.0
    first = sym (all_due (starts c.u) r.0 r.3 (sure_front r.0 r.1 b_all)) ∙ all_due (starts c.u) g.0 g.3 (sure_front g.0 g.1 a_all)

    from : Goes c (first_standing (world c g.0) script) r.1 end
    from = subst (λ (z : List TraceEvent). Goes c (first_standing (world c z) script) r.1 end) first r.5

    whole_by : (all one front more next rest : List TraceEvent) → all ≡ next ++ rest → next ≡ front → rest ≡ more ++ one → all ≡ (front ++ more) ++ one
    whole_by all one front more next rest e f h = e ∙ ap (λ (z : List TraceEvent). z ++ rest) f
        ∙ ap (λ (z : List TraceEvent). front ++ z) h ∙ sym (append_assoc front more one)

    go : OneGoesOn c t g.1 end r.1 → OneGoesOn c t es end fs
    go (inl on) = inl (record {
      rest = on.rest;
      whole = whole_by fs on.rest g.0 g.1 r.0 r.1 r.2 first on.whole
          ∙ ap (λ (z : List TraceEvent). z ++ on.rest) (sym g.2);
      goes = on.goes;
    })
    go (inr on) = inr (record {
      rest = on.rest;
      whole = whole_by es on.rest r.0 r.1 g.0 g.1 g.2 (sym first) on.whole
          ∙ ap (λ (z : List TraceEvent). z ++ on.rest) (sym r.2);
      goes = on.goes;
    })

-- a run of a script without a fault is how each such run of it begins
pub run_begins : {B : Type 0} (c : Config B) (script : Script) (es fs : List TraceEvent) (t : Standing B)
    → Reaches c script es t → AllSure es → (r : Resolves c script fs) → AllSure fs → GoesOn c t es fs r.0
run_begins {B} c script es fs t g a r b =
    let a_all : AllSure (g.0 ++ g.1) = subst AllSure g.2 a in
    let b_all : AllSure (r.1.0 ++ r.1.1) = subst AllSure r.1.2 b in
    let mine : starts c.u ≡ g.0 = all_due (starts c.u) g.0 g.3 (sure_front g.0 g.1 a_all) in
    let others : starts c.u ≡ r.1.0 = all_due (starts c.u) r.1.0 r.1.3 (sure_front r.1.0 r.1.1 b_all) in
    let first : r.1.0 ≡ g.0 = sym others ∙ mine in
    let from : Goes c (first_standing (world c g.0) script) r.1.1 r.0 = subst
    (λ (z : List TraceEvent). Goes c (first_standing (world c z) script) r.1.1 r.0) first r.1.5 in
    let on = goes_on c (first_standing (world c g.0) script) t r.0 g.1 r.1.1 g.5 (sure_rest g.0 g.1 a_all) from (sure_rest r.1.0 r.1.1 b_all) r.2 in
    record {
      rest = on.rest;
      whole = r.1.2 ∙ ap (λ (z : List TraceEvent). z ++ r.1.1) first ∙ ap (λ (z : List TraceEvent). g.0 ++ z) on.whole
          ∙ sym (append_assoc g.0 g.1 on.rest) ∙ ap (λ (z : List TraceEvent). z ++ on.rest) (sym g.2);
      goes = on.goes;
    }

-- nothing goes on where nothing is next
at_end : {B : Type 0} (c : Config B) (t end : Standing B) (es fs rest : List TraceEvent) → next c t ≡ None → Goes c t rest end → fs ≡ es ++ rest → fs ≡ es
at_end c t end es fs [] n g e = e ∙ append-nil es
at_end c t end es fs (x ∷ rest) n g e = let some : next c t ≡ Some g.0 = g.1 in absurd (cc)

-- and one that ends is the only one
pub one_run : {B : Type 0} (c : Config B) (script : Script) (es fs : List TraceEvent) → Resolves c script es
    → AllSure es → Resolves c script fs → AllSure fs → fs ≡ es
one_run c script es fs g a r b =
    let on = run_begins c script es fs g.0 g.1 a r b in
    at_end c g.0 r.0 es fs on.rest g.2 on.goes on.whole
