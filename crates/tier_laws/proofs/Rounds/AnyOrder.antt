-- The heart: the steps of a round are legal in any order of its job, and what the server comes to.
use Rattle.std.proofs.Common.{◌≡◌, ℕ, ◌+◌, ◌<◌, ◌≤◌, true, false, cond, List, [], ◌∷◌, ◌++◌, refl, sym, ap, ◌∙◌, subst}
use Rattle.std.proofs.Common.{inl, inr, Option, Some, None, suc, arith}
use Rattle.std.specs.Prelude.{slice_get, ◌⊎◌, ◌==◌}
use Rattle.std.proofs.lemmas.Bool.{lt-ltb, eq-eqb, ne_eqb, cond-true, cond-false, cases_eq}
use Rattle.aeg_base.specs.Store.{Store}
use Rattle.aeg_base.specs.declared.names.Tier.{Tier}
use Rattle.exec_model.specs.declared.job.Seg.{Seg}
use Rattle.run_model.specs.Histories.{put}
use Rattle.round_model.specs.Service.{Service, is_request, run, times}
use Rattle.round_model.specs.Tables.{Number, Want, answered, as_seg}
use Rattle.server_model.specs.Server.{same_tier}
use Rattle.server_model.specs.declared.history.Hist.TheVariants.{Resume, Start}
use Rattle.svc_api.specs.declared.action.Ending.{Ending}
use Rattle.svc_api.specs.declared.action.Ending.TheVariants.{Call, Reply}
use Rattle.run_model.specs.Histories.{HistoryStep}
use Rattle.tier_laws.proofs.Rounds.ActsByIndex.{Act, NoneOf, Numbered, NumberedAs, none_not}
use Rattle.tier_laws.proofs.Lists.ItemsByIndex.{put_here, put_there, tier_cases, tier_here, tier_there}
use Rattle.tier_laws.proofs.Rounds.StableRounds.{then_parts}
use Rattle.tier_laws.proofs.Server.LookUps.{Progress, Server, called, first_seg, next_seg, put_number, ran, replied, step}
use Rattle.tier_laws.proofs.Server.LookUps.Result.{Done}

-- ONE STEP

abbrev pub step_for : Want → Option Number → ℕ → HistoryStep
step_for w None k = (Start (record { client = w.client; seq = w.seq }) k, w.body)
step_for w (Some c) k = (Resume (record { client = w.client; seq = w.seq }) k, [])

-- the want can run at the server
abbrev pub WantOk : {B : Type 0} → Service B → Server B → Want → Option Number → Type 0
WantOk m O w None = (w.seq ≡ suc (O.last w.client)) × (O.progress w.client ≡ None)
    × (is_request m.programs (record { client = w.client; seq = w.seq }) w.body ≡ true) × (w.stage ≡ 0) × (w.client < 17)
WantOk m O w (Some k) = (w.seq ≡ O.last w.client)
    × (O.progress w.client ≡ Some (record { seq = w.seq; body = w.body; stage = w.stage; tier = k.tier; num = k.num }))

-- the number is 0 where the segment replies, and new where it calls
abbrev pub NumberOk : {B : Type 0} → Server B → Ending → ℕ → Type 0
NumberOk O (Reply text) k = k ≡ 0
NumberOk O (Call t stage text) k = (0 < k) × (O.calls t k ≡ None)

-- the server after the act
abbrev pub acted : {B : Type 0} → Server B → Want → ℕ → Ending → Store → Server B
acted O w k (Reply text) store = replied O w.client w.seq store text
acted O w k (Call t stage text) store = called O w.client w.seq w.body k store t stage text

ran_done : {B : Type 0} (O : Server B) (w : Want) (k : ℕ) (store : Store) (e : Ending) → NumberOk O e k
    → ran O w.client w.seq w.body k store e ≡ Done (acted O w k e store)
ran_done O w k store (Reply text) n = rw n refl
ran_done O w k store (Call t stage text) n = rw (ne_eqb k 0 (omega arith), n.1) refl

start_done : {B : Type 0} (m : Service B) (O : Server B) (c s : ℕ) (body : List ℕ) (k : ℕ) → s ≡ suc (O.last c)
    → O.progress c ≡ None → is_request m.programs (record { client = c; seq = s }) body ≡ true → c < 17
    → step m O (Start (record { client = c; seq = s }) k, body)
    ≡ ran O c s body k (run m.programs (first_seg c s body) O.store).store (run m.programs (first_seg c s body) O.store).ending
start_done m O c s body k e f g l = rw (lt-ltb c 17 l, eq-eqb s (suc (O.last c)) e, f, g) refl

resume_done : {B : Type 0} (m : Service B) (O : Server B) (c s k : ℕ) (g : Progress) (code : ℕ) → O.progress c ≡ Some g
    → g.seq ≡ s → O.served g.tier g.num ≡ Some code
    → step m O (Resume (record { client = c; seq = s }) k, [])
    ≡ ran O c s g.body k (run m.programs (next_seg c g code) O.store).store (run m.programs (next_seg c g code) O.store).ending
resume_done m O c s k g code e f h = rw (e, eq-eqb g.seq s f, h) refl

pub act_done : {B : Type 0} (m : Service B) (O : Server B) (w : Want) (q : Option Number) (k : ℕ) (j : Seg)
    → WantOk m O w q → answered O.served w q ≡ Some j → NumberOk O (run m.programs j O.store).ending k
    → step m O (step_for w q k) ≡ Done (acted O w k (run m.programs j O.store).ending (run m.programs j O.store).store)
act_done m O w None k j o a n =
    let s : first_seg w.client w.seq w.body ≡ j = (λ i. record {
      who = record { client = w.client; seq = w.seq };
      body = w.body;
      stage = sym o.3 i;
      answer = None;
    }) ∙ cc in
    start_done m O w.client w.seq w.body k o.0 o.1 o.2 o.4
    ∙ ap (λ z. ran O w.client w.seq w.body k (run m.programs z O.store).store (run m.programs z O.store).ending) s
    ∙ ran_done O w k (run m.programs j O.store).store (run m.programs j O.store).ending n
act_done m O w (Some c) k j o a n =
    let p = then_parts (O.served c.tier c.num) (λ code. Some (as_seg w (Some code))) j a in
    let s : next_seg w.client (record { seq = w.seq; body = w.body; stage = w.stage; tier = c.tier; num = c.num }) p.0 ≡ j = cc in
    resume_done m O w.client w.seq k (record { seq = w.seq; body = w.body; stage = w.stage; tier = c.tier; num = c.num }) p.0 o.1 refl p.1
    ∙ ap (λ z. ran O w.client w.seq w.body k (run m.programs z O.store).store (run m.programs z O.store).ending) s
    ∙ ran_done O w k (run m.programs j O.store).store (run m.programs j O.store).ending n

-- WHAT IS DONE SO FAR

abbrev pub progress_by : Want → ℕ → Ending → Option Progress
progress_by w k (Reply text) = None
progress_by w k (Call t stage text) = Some (record { seq = w.seq; body = w.body; stage = stage; tier = t; num = k })

-- the end of the act stands at the server
abbrev pub ToldOne : {B : Type 0} → Server B → Want → ℕ → Ending → Type 0
ToldOne O w k (Reply text) = O.replies w.client w.seq ≡ Some text
ToldOne O w k (Call t stage text) = O.calls t k ≡ Some text

-- what a server keeps
pub record Kept {B : Type 0} (O P : Server B) : Type 0 where
  pub calls : (t : Tier) (n : ℕ) (text : List ℕ) → O.calls t n ≡ Some text → P.calls t n ≡ Some text
  pub replies : (c s : ℕ) (text : List ℕ) → O.replies c s ≡ Some text → P.replies c s ≡ Some text
  pub served : (t : Tier) (n code : ℕ) → O.served t n ≡ Some code → P.served t n ≡ Some code

pub kept-refl : {B : Type 0} (O : Server B) → Kept O O
kept-refl O = record { calls = λ t n text e. e; replies = λ c s text e. e; served = λ t n code e. e }

pub told-kept : {B : Type 0} (O P : Server B) (w : Want) (k : ℕ) (e : Ending) → Kept O P → ToldOne O w k e → ToldOne P w k e
told-kept O P w k (Reply text) g t = g.replies w.client w.seq text t
told-kept O P w k (Call t stage text) g h = g.calls t k text h

pub number_here : {A : Type 0} (f : Tier → ℕ → A) (t : Tier) (n : ℕ) (a : A) → put_number f t n a t n ≡ a
number_here f t n a = ap (λ (g : ℕ → _). g n) (tier_here f t (put (f t) n a)) ∙ put_here (f t) n a

pub number_cases : {A : Type 0} (f : Tier → ℕ → A) (t : Tier) (n : ℕ) (a : A) (v : Tier) (k : ℕ) → ((v ≡ t) × (k ≡ n)) ⊎ (put_number f t n a v k ≡ f v k)
number_cases {A} f t n a v k = go (tier_cases v t) (cases_eq k n)
  where
    go : (v ≡ t) ⊎ (same_tier v t ≡ false) → (k ≡ n) ⊎ (k ≡ n → ⊥) → ((v ≡ t) × (k ≡ n)) ⊎ (put_number f t n a v k ≡ f v k)
    go (inl e) (inl g) = inl (e, g)
    go (inl e) (inr g) = inr (ap (λ z. put_number f t n a z k) e
        ∙ ap (λ (h : ℕ → A). h k) (tier_here f t (put (f t) n a)) ∙ put_there (f t) n a k g ∙ ap (λ z. f z k) (sym e))
    go (inr e) g = inr (ap (λ (h : ℕ → A). h k) (tier_there f t (put (f t) n a) v e))

pub record Partway {B : Type 0} (O : Server B) (X : List Act) (ws : List Want) (done : List ℕ) (s : Store) (P : Server B) : Type 0 where
  pub store : P.store ≡ s
  pub waits : (i : ℕ) (a : Act) → slice_get X i ≡ Some a → times i done ≡ 0
      → (P.last a.want.client ≡ O.last a.want.client) × (P.progress a.want.client ≡ O.progress a.want.client)
  pub ended : (i : ℕ) (a : Act) → slice_get X i ≡ Some a → 0 < times i done → (P.last a.want.client ≡ a.want.seq)
      × (P.progress a.want.client ≡ progress_by a.want a.num a.ending) × ToldOne P a.want a.num a.ending
  pub others : (c : ℕ) → NoneOf c ws → (P.last c ≡ O.last c) × (P.progress c ≡ O.progress c)
  pub calls : (t : Tier) (n : ℕ) (text : List ℕ) → P.calls t n ≡ Some text → (O.calls t n ≡ Some text)
      ⊎ ((i : ℕ) × (a : Act) × (slice_get X i ≡ Some a) × (0 < times i done) × Numbered a t n)
  pub kept : Kept O P
  pub served : P.served ≡ O.served
  pub backs : P.backs ≡ O.backs

-- ONE MORE ACT

-- each reply is for a request up to the last, which is not in progress
pub record Bounded {B : Type 0} (P : Server B) : Type 0 where
  pub low : (c s : ℕ) (text : List ℕ) → P.replies c s ≡ Some text → s ≤ P.last c
  pub ended : (c s : ℕ) (text : List ℕ) → P.replies c s ≡ Some text → s ≡ P.last c → P.progress c ≡ None

-- the request of the want has no reply yet, and its seq is above those that have one
pub free : {B : Type 0} (m : Service B) (P : Server B) (w : Want) (q : Option Number) (s : ℕ) (text : List ℕ)
    → Bounded P → WantOk m P w q → P.replies w.client s ≡ Some text → s < w.seq
free m P w None s text b o e = omega (arith, b.low w.client s text e, o.0)
free m P w (Some k) s text b o e = go (cases_eq s (P.last w.client))
  where
    go : (s ≡ P.last w.client) ⊎ (s ≡ P.last w.client → ⊥) → s < w.seq
    go (inl f) = absurd (let g : P.progress w.client ≡ None = b.ended w.client s text e f in let h = o.1 in cc)
    go (inr n) = omega (arith, b.low w.client s text e, o.0)

acted-last : {B : Type 0} (P : Server B) (w : Want) (k : ℕ) (e : Ending) (s : Store) → (acted P w k e s).last ≡ put P.last w.client w.seq
acted-last P w k (Reply text) s = refl
acted-last P w k (Call t stage text) s = refl

acted-progress : {B : Type 0} (P : Server B) (w : Want) (k : ℕ) (e : Ending) (s : Store)
    → (acted P w k e s).progress ≡ put P.progress w.client (progress_by w k e)
acted-progress P w k (Reply text) s = refl
acted-progress P w k (Call t stage text) s = refl

acted-store : {B : Type 0} (P : Server B) (w : Want) (k : ℕ) (e : Ending) (s : Store) → (acted P w k e s).store ≡ s
acted-store P w k (Reply text) s = refl
acted-store P w k (Call t stage text) s = refl

acted-served : {B : Type 0} (P : Server B) (w : Want) (k : ℕ) (e : Ending) (s : Store)
    → ((acted P w k e s).served ≡ P.served) × ((acted P w k e s).backs ≡ P.backs)
acted-served P w k (Reply text) s = (refl, refl)
acted-served P w k (Call t stage text) s = (refl, refl)

acted-told : {B : Type 0} (P : Server B) (w : Want) (k : ℕ) (e : Ending) (s : Store) → ToldOne (acted P w k e s) w k e
acted-told P w k (Reply text) s = ap (λ (f : ℕ → Option (List ℕ)). f w.seq)
    (put_here P.replies w.client (put (P.replies w.client) w.seq (Some text))) ∙ put_here (P.replies w.client) w.seq (Some text)
acted-told P w k (Call t stage text) s = number_here P.calls t k (Some text)

acted-calls : {B : Type 0} (P : Server B) (w : Want) (k : ℕ) (e : Ending) (s : Store) (t : Tier) (n : ℕ) (text : List ℕ)
    → (acted P w k e s).calls t n ≡ Some text → (P.calls t n ≡ Some text) ⊎ NumberedAs e k t n
acted-calls P w k (Reply x) s t n text e = inl e
acted-calls P w k (Call v stage x) s t n text e = go (number_cases P.calls v k (Some x) t n)
  where
    go : ((t ≡ v) × (n ≡ k)) ⊎ (put_number P.calls v k (Some x) t n ≡ P.calls t n) → (P.calls t n ≡ Some text) ⊎ ((v ≡ t) × (k ≡ n))
    go (inl f) = inr (sym f.0, sym f.1)
    go (inr f) = inl (sym f ∙ e)

pub put2_cases : {A : Type 0} (f : ℕ → ℕ → A) (c s : ℕ) (a : A) (d r : ℕ) → ((d ≡ c) × (r ≡ s)) ⊎ (put f c (put (f c) s a) d r ≡ f d r)
put2_cases {A} f c s a d r = go (cases_eq d c) (cases_eq r s)
  where
    go : (d ≡ c) ⊎ (d ≡ c → ⊥) → (r ≡ s) ⊎ (r ≡ s → ⊥) → ((d ≡ c) × (r ≡ s)) ⊎ (put f c (put (f c) s a) d r ≡ f d r)
    go (inl e) (inl g) = inl (e, g)
    go (inl e) (inr g) = inr (ap (λ z. put f c (put (f c) s a) z r) e
        ∙ ap (λ (h : ℕ → A). h r) (put_here f c (put (f c) s a)) ∙ put_there (f c) s a r g ∙ ap (λ z. f z r) (sym e))
    go (inr e) g = inr (ap (λ (h : ℕ → A). h r) (put_there f c (put (f c) s a) d e))

acted-kept : {B : Type 0} (m : Service B) (P : Server B) (w : Want) (q : Option Number) (k : ℕ) (e : Ending) (s : Store)
    → Bounded P → WantOk m P w q → NumberOk P e k → Kept P (acted P w k e s)
acted-kept {B} m P w q k (Reply x) s b o n = record {
  calls = λ t n text e. e;
  served = λ t n code e. e;
  replies = λ c r text e. go c r text e (put2_cases P.replies w.client w.seq (Some x) c r);
}
  where
    go : (c r : ℕ) (text : List ℕ) → P.replies c r ≡ Some text → ((c ≡ w.client) × (r ≡ w.seq))
        ⊎ (put P.replies w.client (put (P.replies w.client) w.seq (Some x)) c r ≡ P.replies c r)
        → put P.replies w.client (put (P.replies w.client) w.seq (Some x)) c r ≡ Some text
    go c r text e (inl f) = absurd (omega (arith, f.1, free m P w q r text b o (subst (λ z. P.replies z r ≡ Some text) f.0 e)))
    go c r text e (inr f) = f ∙ e
acted-kept {B} m P w q k (Call v stage x) s b o n = record {
  served = λ t n code e. e;
  replies = λ c r text e. e;
  calls = λ t n text e. go t n text e (number_cases P.calls v k (Some x) t n);
}
  where
    go : (t : Tier) (i : ℕ) (text : List ℕ) → P.calls t i ≡ Some text → ((t ≡ v) × (i ≡ k))
        ⊎ (put_number P.calls v k (Some x) t i ≡ P.calls t i) → put_number P.calls v k (Some x) t i ≡ Some text
    go t i text e (inl f) = absurd (let g : P.calls v k
        ≡ Some text = subst (λ z. P.calls v z ≡ Some text) f.1 (subst (λ z. P.calls z i ≡ Some text) f.0 e) in let h = n.1 in cc)
    go t i text e (inr f) = f ∙ e

pub acted-bounded : {B : Type 0} (m : Service B) (P : Server B) (w : Want) (q : Option Number) (k : ℕ) (e : Ending)
    (s : Store) → Bounded P → WantOk m P w q → Bounded (acted P w k e s)
acted-bounded {B} m P w q k (Reply x) s b o = record {
  low = λ c r text e. low c r text e (put2_cases P.replies w.client w.seq (Some x) c r) (cases_eq c w.client);
  ended = λ c r text e f. ended c r text e f (put2_cases P.replies w.client w.seq (Some x) c r) (cases_eq c w.client);
}
  where
    here : (c : ℕ) → c ≡ w.client → (replied P w.client w.seq s x).last c ≡ w.seq
    here c e = ap (put P.last w.client w.seq) e ∙ put_here P.last w.client w.seq

    low : (c r : ℕ) (text : List ℕ) → (replied P w.client w.seq s x).replies c r ≡ Some text
        → ((c ≡ w.client) × (r ≡ w.seq)) ⊎ ((replied P w.client w.seq s x).replies c r ≡ P.replies c r) → (c ≡ w.client)
        ⊎ (c ≡ w.client → ⊥) → r ≤ (replied P w.client w.seq s x).last c
    low c r text e (inl f) g = omega (arith, f.1, here c f.0)
    low c r text e (inr f) (inl g) = omega (arith, here c g, free m P w q r text b o (subst (λ z. P.replies z r ≡ Some text) g (sym f ∙ e)))
    low c r text e (inr f) (inr g) = omega (arith, put_there P.last w.client w.seq c g, b.low c r text (sym f ∙ e))

    ended : (c r : ℕ) (text : List ℕ) → (replied P w.client w.seq s x).replies c r ≡ Some text
        → r ≡ (replied P w.client w.seq s x).last c → ((c ≡ w.client) × (r ≡ w.seq))
        ⊎ ((replied P w.client w.seq s x).replies c r ≡ P.replies c r) → (c ≡ w.client) ⊎ (c ≡ w.client → ⊥)
        → (replied P w.client w.seq s x).progress c ≡ None
    ended c r text e h f (inl g) = ap (put P.progress w.client None) g ∙ put_here P.progress w.client None
    ended c r text e h (inl f) (inr g) = absurd (g f.0)
    ended c r text e h (inr f) (inr g) = put_there P.progress w.client None c g ∙ b.ended c r text (sym f ∙ e) (h ∙ put_there P.last w.client w.seq c g)
acted-bounded {B} m P w q k (Call v stage x) s b o = record {
  low = λ c r text e. low c r text e (cases_eq c w.client);
  ended = λ c r text e f. ended c r text e f (cases_eq c w.client);
}
  where
    low : (c r : ℕ) (text : List ℕ) → P.replies c r ≡ Some text → (c ≡ w.client) ⊎ (c ≡ w.client → ⊥) → r ≤ put P.last w.client w.seq c
    low c r text e (inl g) = omega (
      arith,
      ap (put P.last w.client w.seq) g ∙ put_here P.last w.client w.seq,
      free m P w q r text b o (subst (λ z. P.replies z r ≡ Some text) g e),
    )
    low c r text e (inr g) = omega (arith, put_there P.last w.client w.seq c g, b.low c r text e)

    ended : (c r : ℕ) (text : List ℕ) → P.replies c r ≡ Some text → r ≡ put P.last w.client w.seq c → (c ≡ w.client)
        ⊎ (c ≡ w.client → ⊥) → put P.progress w.client (progress_by w k (Call v stage x)) c ≡ None
    ended c r text e h (inl g) = absurd
        (omega (
          arith,
          h,
          ap (put P.last w.client w.seq) g ∙ put_here P.last w.client w.seq,
          free m P w q r text b o (subst (λ z. P.replies z r ≡ Some text) g e),
        ))
    ended c r text e h (inr g) = put_there P.progress w.client _ c g ∙ b.ended c r text e (h ∙ put_there P.last w.client w.seq c g)

pub times-push : (done : List ℕ) (i j : ℕ) → times j (done ++ i ∷ []) ≡ times j done + cond (i == j) 1 0
times-push [] i j = grind arith
times-push (d ∷ done) i j = let h = times-push done i j in omega arith

pub times-other : (done : List ℕ) (i j : ℕ) → (i ≡ j → ⊥) → times j (done ++ i ∷ []) ≡ times j done
times-other done i j n = omega (arith, times-push done i j, cond-false {A = ℕ} (i == j) 1 0 (ne_eqb i j n))

pub times-own : (done : List ℕ) (i : ℕ) → times i (done ++ i ∷ []) ≡ suc (times i done)
times-own done i = omega (arith, times-push done i i, cond-true {A = ℕ} (i == i) 1 0 (eq-eqb i i refl))

pub act_partway : {B : Type 0} (m : Service B) (O P : Server B) (X : List Act) (ws : List Want) (done : List ℕ)
    (s new : Store) (i : ℕ) (a : Act) (q : Option Number)
    → Partway O X ws done s P → Bounded P → slice_get X i ≡ Some a → times i done ≡ 0 → slice_get ws i ≡ Some a.want
    → ((j : ℕ) (b : Act) → slice_get X j ≡ Some b → b.want.client ≡ a.want.client → j ≡ i)
    → WantOk m P a.want q → NumberOk P a.ending a.num → Partway O X ws (done ++ i ∷ []) new (acted P a.want a.num a.ending new)
act_partway {B} m O P X ws done s new i a q k b at none in_ws alone o n = record {
  store = acted-store P a.want a.num a.ending new;
  waits = λ j c f z. waits j c f z (cases_eq i j);
  ended = λ j c f z. ended j c f z (cases_eq i j);
  others = λ c f.
      let ne : c ≡ a.want.client → ⊥ = λ e. none_not c ws i a.want f in_ws (sym e) in
      let r = k.others c f in (last-there c ne ∙ r.0, progress-there c ne ∙ r.1);
  calls = λ t c text e. calls t c text (acted-calls P a.want a.num a.ending new t c text e);
  kept = record {
    calls = λ t c text e. keeps.calls t c text (k.kept.calls t c text e);
    replies = λ c r text e. keeps.replies c r text (k.kept.replies c r text e);
    served = λ t c code e. keeps.served t c code (k.kept.served t c code e);
  };
  served = (acted-served P a.want a.num a.ending new).0 ∙ k.served;
  backs = (acted-served P a.want a.num a.ending new).1 ∙ k.backs;
}
  where
    keeps : Kept P (acted P a.want a.num a.ending new)
    keeps = acted-kept m P a.want q a.num a.ending new b o n

    last-there : (c : ℕ) → (c ≡ a.want.client → ⊥) → (acted P a.want a.num a.ending new).last c ≡ P.last c
    last-there c ne = ap (λ (f : ℕ → ℕ). f c) (acted-last P a.want a.num a.ending new) ∙ put_there P.last a.want.client a.want.seq c ne

    progress-there : (c : ℕ) → (c ≡ a.want.client → ⊥) → (acted P a.want a.num a.ending new).progress c ≡ P.progress c
    progress-there c ne = ap (λ (f : ℕ → Option Progress). f c) (acted-progress P a.want a.num a.ending new) ∙ put_there P.progress a.want.client _ c ne

    waits : (j : ℕ) (c : Act) → slice_get X j ≡ Some c → times j (done ++ i ∷ []) ≡ 0 → (i ≡ j) ⊎ (i ≡ j → ⊥)
        → ((acted P a.want a.num a.ending new).last c.want.client ≡ O.last c.want.client)
        × ((acted P a.want a.num a.ending new).progress c.want.client ≡ O.progress c.want.client)
    waits j c f z (inl e) = absurd (let z2 : times i (done ++ i ∷ [])
        ≡ 0 = subst (λ y. times y (done ++ i ∷ []) ≡ 0) (sym e) z in omega (arith, times-own done i, z2))
    waits j c f z (inr ne) =
        let r = k.waits j c f (sym (times-other done i j ne) ∙ z) in
        let away : c.want.client ≡ a.want.client → ⊥ = λ e. ne (sym (alone j c f e)) in
        (last-there c.want.client away ∙ r.0, progress-there c.want.client away ∙ r.1)

    ended : (j : ℕ) (c : Act) → slice_get X j ≡ Some c → 0 < times j (done ++ i ∷ []) → (i ≡ j) ⊎ (i ≡ j → ⊥)
        → ((acted P a.want a.num a.ending new).last c.want.client ≡ c.want.seq)
        × ((acted P a.want a.num a.ending new).progress c.want.client ≡ progress_by c.want c.num c.ending)
        × ToldOne (acted P a.want a.num a.ending new) c.want c.num c.ending
    ended j c f z (inl e) =
        let g : slice_get X j ≡ Some a = subst (λ y. slice_get X y ≡ Some a) e at in
        let same : a ≡ c = cc in
        subst (λ (c : Act). ((acted P a.want a.num a.ending new).last c.want.client ≡ c.want.seq)
        × ((acted P a.want a.num a.ending new).progress c.want.client ≡ progress_by c.want c.num c.ending)
        × ToldOne (acted P a.want a.num a.ending new) c.want c.num c.ending) same (
          ap (λ (f : ℕ → ℕ). f a.want.client) (acted-last P a.want a.num a.ending new) ∙ put_here P.last a.want.client a.want.seq,
          ap (λ (f : ℕ → Option Progress). f a.want.client) (acted-progress P a.want a.num a.ending new) ∙ put_here P.progress a.want.client _,
          acted-told P a.want a.num a.ending new,
        )
    ended j c f z (inr ne) =
        let r = k.ended j c f (omega (arith, times-other done i j ne)) in
        let away : c.want.client ≡ a.want.client → ⊥ = λ e. ne (sym (alone j c f e)) in (
          last-there c.want.client away ∙ r.0,
          progress-there c.want.client away ∙ r.1,
          told-kept P (acted P a.want a.num a.ending new) c.want c.num c.ending keeps r.2,
        )

    calls : (t : Tier) (c : ℕ) (text : List ℕ) → (P.calls t c ≡ Some text) ⊎ Numbered a t c → (O.calls t c ≡ Some text)
        ⊎ ((j : ℕ) × (b : Act) × (slice_get X j ≡ Some b) × (0 < times j (done ++ i ∷ [])) × Numbered b t c)
    calls t c text (inr f) = inr (i, a, at, omega (arith, times-own done i), f)
    calls t c text (inl e) = old (k.calls t c text e)
      where
        old : (O.calls t c ≡ Some text)
            ⊎ ((j : ℕ) × (b : Act) × (slice_get X j ≡ Some b) × (0 < times j done) × Numbered b t c)
            → (O.calls t c ≡ Some text)
            ⊎ ((j : ℕ) × (b : Act) × (slice_get X j ≡ Some b) × (0 < times j (done ++ i ∷ [])) × Numbered b t c)
        old (inl e) = inl e
        old (inr r) = inr (r.0, r.1, r.2, omega (arith, times-push done i r.0, r.3), r.4)
