-- The one server's lists show what its look-up functions have, and no step of a history that these take is refused.
use Rattle.std.proofs.Common.{◌≡◌, ℕ, ◌+◌, ◌<◌, ◌≤◌, Bool, true, false, cond, List, [], ◌∷◌, ◌++◌, length, refl, sym}
use Rattle.std.proofs.Common.{ap, ◌∙◌, subst, inl, inr, Option, Some, None, suc, arith}
use Rattle.std.specs.Prelude.{slice_get, ◌⊎◌, ◌==◌, ◌&&◌, not, nat_lt, slice_index, slice_index_or, slice_set, IsSome}
use Rattle.std.proofs.lemmas.Bool.{cond-true, cond-false, eq-eqb, eqb-true, ne_eqb, ltb-true, cases_lt, cases_eq}
use Rattle.std.proofs.lemmas.List.{get_or-set_same, get_or-set_other, length-set, get_or-replicate}
use Rattle.aeg_base.specs.Store.{Store}
use Rattle.aeg_base.specs.declared.names.ReqId.{ReqId}
use Rattle.aeg_base.specs.declared.names.Tier.{Tier}
use Rattle.aeg_base.specs.declared.names.Tier.TheVariants.{Mid, Inv, Pay}
use Rattle.svc_api.specs.Segment.{Segment, HasStage, GoesOn}
use Rattle.svc_api.specs.declared.action.Ending.{Ending}
use Rattle.svc_api.specs.declared.action.Ending.TheVariants.{Reply, Call}
use Rattle.server_model.specs.Backends.{Served}
use Rattle.server_model.specs.Server as real
use Rattle.server_model.specs.declared.progress.Progress.{Progress as Waiting}
use Rattle.server_model.specs.Server.{same_tier, found_in}
use Rattle.server_model.specs.History.{History, server_from as real_from, server_or, IsMade, LegalFrom as RealFrom}
use Rattle.server_model.specs.declared.history.Hist.{Hist}
use Rattle.server_model.specs.declared.history.Hist.TheVariants.{Start, Serve, Resume}
use Rattle.server_model.specs.declared.history.Told.{Told}
use Rattle.server_model.specs.declared.history.Told.TheVariants.{Replied, Called, Answered}
use Rattle.round_model.specs.Lists.{is_some}
use Rattle.round_model.specs.Service.{Service, row_of, run, meaning}
use Rattle.run_model.specs.Histories.{put, HistoryStep}
use Rattle.tier_laws.proofs.Server.LookUps.{Progress, Server, Result, put_number, replied, called, ran, next_seg, coded, serves}
use Rattle.tier_laws.proofs.Server.LookUps.{resumes, resume, start_at, step_as, step, empty_server, result_or, IsDone}
use Rattle.tier_laws.proofs.Server.LookUps.{server_from, LegalFrom, Legal}
use Rattle.tier_laws.proofs.Server.LookUps.Result.{Refused, Done}
use Rattle.tier_laws.proofs.Lists.ItemsByIndex.{put_here, put_there, tier_same, tier_eq, tier_cases, get_end, get_left}
use Rattle.tier_laws.proofs.Rounds.AnyOrder.{number_cases, number_here}
use Rattle.tier_laws.proofs.MidNodes.CodesOfFacts.{same_number}
use Rattle.log_model.specs.Chosen.{or_else}

abbrev as_progress : Option Progress → Option Waiting
as_progress None = None
as_progress (Some g) = Some (record { seq = g.seq; body = g.body; stage = g.stage; tier = g.tier; number = g.num })

pub record Shows {B : Type 0} (m : Service B) (O : Server B) (s : real.Server B) : Type 0 where
  pub store : s.store ≡ O.store
  pub last : (c : ℕ) → c < 17 → slice_index s.last c ≡ O.last c
  pub progress : (c : ℕ) → c < 17 → slice_index_or s.progress c None ≡ as_progress (O.progress c)
  pub outside : (c : ℕ) → 17 ≤ c → O.progress c ≡ None
  pub calls : (t : Tier) (n : ℕ) → found_in s.calls t n ≡ O.calls t n
  pub served : (t : Tier) (n : ℕ) → found_in s.served t n ≡ O.served t n
  pub inventory : s.inventory ≡ O.backs Inv
  pub payment : s.payment ≡ O.backs Pay
  pub replies : (c n : ℕ) (text : List ℕ) → O.replies c n ≡ Some text → (i : ℕ) × (slice_get s.replies i ≡ Some (record { client = c; seq = n }, text))
  -- each request in progress has the stage at which it goes on
  pub staged : (c : ℕ) (g : Progress) → O.progress c ≡ Some g → is_some (m.programs.table (record { client = c; seq = g.seq }) g.body g.stage) ≡ true
  pub lasts : length s.last ≡ 17
  pub progresses : length s.progress ≡ 17

-- LOOKING UP

found-push : {A : Type 0} (xs : List (Tier × ℕ × A)) (t : Tier) (n : ℕ) (a : A) (v : Tier) (k : ℕ)
    → found_in (xs ++ (t, n, a) ∷ []) v k ≡ or_else (found_in xs v k) (cond (same_tier t v && (n == k)) (Some a) None)
found-push [] t n a v k = refl
found-push {A} (x ∷ xs) t n a v k = go (same_tier x.0 v && (x.1 == k)) (found-push xs t n a v k)
  where
    go : (b : Bool) → found_in (xs ++ (t, n, a) ∷ []) v k
        ≡ or_else (found_in xs v k) (cond (same_tier t v && (n == k)) (Some a) None)
        → cond b (Some x.2) (found_in (xs ++ (t, n, a) ∷ []) v k)
        ≡ or_else (cond b (Some x.2) (found_in xs v k)) (cond (same_tier t v && (n == k)) (Some a) None)
    go true e = refl
    go false e = e

-- a new number is looked up as it is put
found-put : {A : Type 0} (xs : List (Tier × ℕ × A)) (f : Tier → ℕ → Option A) (t : Tier) (n : ℕ) (a : A)
    → ((v : Tier) (k : ℕ) → found_in xs v k ≡ f v k) → f t n ≡ None → (v : Tier) (k : ℕ)
    → found_in (xs ++ (t, n, a) ∷ []) v k ≡ put_number f t n (Some a) v k
found-put {A} xs f t n a same none v k = found-push xs t n a v k
    ∙ ap (λ z. or_else z (cond (same_tier t v && (n == k)) (Some a) None)) (same v k) ∙ go (tier_cases v t) (cases_eq k n)
  where
    there : (b : Bool) (o : Option A) → b ≡ false → or_else o (cond b (Some a) None) ≡ o
    there true o e = absurd (cc)
    there false None e = refl
    there false (Some x) e = refl

    apart_tier : same_tier v t ≡ false → (same_tier t v && (n == k)) ≡ false
    apart_tier e = by (same_tier t v) refl
      where
        by : (b : Bool) → same_tier t v ≡ b → (b && (n == k)) ≡ false
        by false f = refl
        by true f = absurd (let s : v ≡ t = sym (tier_eq t v f) in let g : same_tier t t
            ≡ false = subst (λ z. same_tier z t ≡ false) s e in let h = tier_same t in cc)

    apart_num : (k ≡ n → ⊥) → (same_tier t v && (n == k)) ≡ false
    apart_num e = by (same_tier t v)
      where
        by : (b : Bool) → (b && (n == k)) ≡ false
        by false = refl
        by true = ne_eqb n k (λ f. e (sym f))

    go : (v ≡ t) ⊎ (same_tier v t ≡ false) → (k ≡ n) ⊎ (k ≡ n → ⊥)
        → or_else (f v k) (cond (same_tier t v && (n == k)) (Some a) None) ≡ put_number f t n (Some a) v k
    go (inl e) (inl g) =
        subst (λ z. or_else (f z k) (cond (same_tier t z && (n == k)) (Some a) None) ≡ put_number f t n (Some a) z k) (sym e)
        (subst (λ z. or_else (f t z) (cond (same_tier t t && (n == z)) (Some a) None) ≡ put_number f t n (Some a) t z) (sym g) here)
      where
        here : or_else (f t n) (cond (same_tier t t && (n == n)) (Some a) None) ≡ put_number f t n (Some a) t n
        here = ap (λ z. or_else z (cond (same_tier t t && (n == n)) (Some a) None)) none
            ∙ cond-true (same_tier t t && (n == n)) (Some a) None (same_number t n) ∙ sym (number_here f t n (Some a))
    go (inl e) (inr g) = there (same_tier t v && (n == k)) (f v k) (apart_num g) ∙ sym (kept (number_cases f t n (Some a) v k))
      where
        kept : ((v ≡ t) × (k ≡ n)) ⊎ (put_number f t n (Some a) v k ≡ f v k) → put_number f t n (Some a) v k ≡ f v k
        kept (inl p) = absurd (g p.1)
        kept (inr p) = p
    go (inr e) g = there (same_tier t v && (n == k)) (f v k) (apart_tier e) ∙ sym (kept (number_cases f t n (Some a) v k))
      where
        kept : ((v ≡ t) × (k ≡ n)) ⊎ (put_number f t n (Some a) v k ≡ f v k) → put_number f t n (Some a) v k ≡ f v k
        kept (inl p) = absurd (let q : same_tier t t ≡ false = subst (λ z. same_tier z t ≡ false) p.0 e in let h = tier_same t in cc)
        kept (inr p) = p

-- BY CLIENT

set-shows : {A C : Type 0} (xs : List A) (d : A) (f : ℕ → C) (g : C → A) (x : ℕ) (c : C) → length xs ≡ 17 → x < 17
    → ((y : ℕ) → y < 17 → slice_index_or xs y d ≡ g (f y)) → (y : ℕ) → y < 17
    → slice_index_or (slice_set xs x (g c)) y d ≡ g (put f x c y)
set-shows {A} {C} xs d f g x c l k same y m = go (cases_eq y x)
  where
    go : (y ≡ x) ⊎ (y ≡ x → ⊥) → slice_index_or (slice_set xs x (g c)) y d ≡ g (put f x c y)
    go (inl e) = subst (λ z. slice_index_or (slice_set xs x (g c)) z d ≡ g (put f x c z)) (sym e)
        (get_or-set_same xs x (g c) d (omega arith) ∙ ap g (sym (put_here f x c)))
    go (inr n) = get_or-set_other xs x y (g c) d n ∙ same y m ∙ ap g (sym (put_there f x c y n))

-- A STEP

record Stepped {B : Type 0} (m : Service B) (O : Server B) (r : real.Step B) : Type 0 where
  new : real.Server B
  told : Told
  goes : r ≡ real.Goes new told
  shows : Shows m O new

put_outside : {C : Type 0} (f : ℕ → C) (x : ℕ) (c d : C) → x < 17 → ((y : ℕ) → 17 ≤ y → f y ≡ d) → (y : ℕ) → 17 ≤ y → put f x c y ≡ d
put_outside f x c d l k y h = put_there f x c y (λ e. omega arith) ∙ k y h

replied_shows : {B : Type 0} (m : Service B) (O : Server B) (s : real.Server B) (who : ReqId) (store : Store)
    (text : List ℕ) → who.client < 17 → Shows m O s
    → Shows m (replied O who.client who.seq store text) (real.replied s who store text)
replied_shows {B} m O s who store text l k = record {
  store = refl;
  last = λ c h. set-shows s.last 0 O.last (λ z. z) who.client who.seq k.lasts l k.last c h;
  progress = λ c h. set-shows s.progress None O.progress as_progress who.client None k.progresses l k.progress c h;
  outside = put_outside O.progress who.client None None l k.outside;
  calls = k.calls;
  served = k.served;
  inventory = k.inventory;
  payment = k.payment;
  replies = λ c n t e. replies c n t e (cases_eq c who.client) (cases_eq n who.seq);
  staged = λ c g e. staged c g e (cases_eq c who.client);
  lasts = length-set s.last who.client who.seq ∙ k.lasts;
  progresses = length-set s.progress who.client None ∙ k.progresses;
}
  where
    staged : (c : ℕ) (g : Progress) → put O.progress who.client None c ≡ Some g → (c ≡ who.client)
        ⊎ (c ≡ who.client → ⊥) → is_some (m.programs.table (record { client = c; seq = g.seq }) g.body g.stage) ≡ true
    staged c g e (inl f) = absurd (let h : None ≡ Some g = sym (ap (put O.progress who.client None) f ∙ put_here O.progress who.client None) ∙ e in cc)
    staged c g e (inr f) = k.staged c g (sym (put_there O.progress who.client None c f) ∙ e)

    old : (c n : ℕ) (t : List ℕ) → O.replies c n ≡ Some t → (i : ℕ) × (slice_get (s.replies ++ (who, text) ∷ []) i ≡ Some (record { client = c; seq = n }, t))
    old c n t e = let r = k.replies c n t e in (r.0, get_left s.replies ((who, text) ∷ []) r.0 (record { client = c; seq = n }, t) r.1)

    replies : (c n : ℕ) (t : List ℕ) → put O.replies who.client (put (O.replies who.client) who.seq (Some text)) c n
        ≡ Some t → (c ≡ who.client) ⊎ (c ≡ who.client → ⊥) → (n ≡ who.seq) ⊎ (n ≡ who.seq → ⊥) → (i : ℕ)
        × (slice_get (s.replies ++ (who, text) ∷ []) i ≡ Some (record { client = c; seq = n }, t))
    replies c n t e (inl f) (inl g) =
        let here : put O.replies who.client (put (O.replies who.client) who.seq (Some text)) c n
        ≡ Some text = ap (λ z. put O.replies who.client (put (O.replies who.client) who.seq (Some text)) z n) f
        ∙ ap (λ (h : ℕ → Option (List ℕ)). h n)
        (put_here O.replies who.client (put (O.replies who.client) who.seq (Some text)))
        ∙ ap (put (O.replies who.client) who.seq (Some text)) g ∙ put_here (O.replies who.client) who.seq (Some text) in
        let same : text ≡ t = cc in
        (length s.replies, get_end s.replies (who, text) ∙ (λ i. Some (record { client = sym f i; seq = sym g i }, same i)))
    replies c n t e (inl f) (inr g) =
        old c n t (subst (λ z. O.replies z n ≡ Some t) (sym f)
        (sym (put_there (O.replies who.client) who.seq (Some text) n g)
        ∙ sym (ap (λ (h : ℕ → Option (List ℕ)). h n)
        (put_here O.replies who.client (put (O.replies who.client) who.seq (Some text))))
        ∙ sym (ap (λ z. put O.replies who.client (put (O.replies who.client) who.seq (Some text)) z n) f) ∙ e))
    replies c n t e (inr f) g = old c n t
        (sym (ap (λ (h : ℕ → Option (List ℕ)). h n)
        (put_there O.replies who.client (put (O.replies who.client) who.seq (Some text)) c f)) ∙ e)

called_shows : {B : Type 0} (m : Service B) (O : Server B) (s : real.Server B) (who : ReqId) (body : List ℕ) (num : ℕ)
    (store : Store) (t : Tier) (stage : ℕ) (text : List ℕ) → who.client < 17 → O.calls t num ≡ None
    → is_some (m.programs.table who body stage) ≡ true → Shows m O s
    → Shows m (called O who.client who.seq body num store t stage text) (real.called s who body num store t stage text)
called_shows {B} m O s who body num store t stage text l none st k = record {
  store = refl;
  last = λ c h. set-shows s.last 0 O.last (λ z. z) who.client who.seq k.lasts l k.last c h;
  progress = λ c h. set-shows s.progress None O.progress as_progress who.client
      (Some (record { seq = who.seq; body = body; stage = stage; tier = t; num = num })) k.progresses l k.progress c h;
  outside = put_outside O.progress who.client _ None l k.outside;
  calls = found-put s.calls O.calls t num text k.calls none;
  served = k.served;
  inventory = k.inventory;
  payment = k.payment;
  replies = k.replies;
  staged = λ c g e. staged c g e (cases_eq c who.client);
  lasts = length-set s.last who.client who.seq ∙ k.lasts;
  progresses = length-set s.progress who.client _ ∙ k.progresses;
}
  where
    new : Progress
    new = record { seq = who.seq; body = body; stage = stage; tier = t; num = num }

    staged : (c : ℕ) (g : Progress)
        → put O.progress who.client (Some (record { seq = who.seq; body = body; stage = stage; tier = t; num = num })) c
        ≡ Some g → (c ≡ who.client) ⊎ (c ≡ who.client → ⊥)
        → is_some (m.programs.table (record { client = c; seq = g.seq }) g.body g.stage) ≡ true
    staged c g e (inl f) =
        let h : Some new ≡ Some g = sym (ap (put O.progress who.client (Some new)) f ∙ put_here O.progress who.client (Some new)) ∙ e in
        let same : new ≡ g = cc in
        subst (λ (z : Progress). is_some (m.programs.table (record { client = c; seq = z.seq }) z.body z.stage) ≡ true)
        same (subst (λ z. is_some (m.programs.table (record { client = z; seq = who.seq }) body stage) ≡ true) (sym f) st)
    staged c g e (inr f) = k.staged c g (sym (put_there O.progress who.client (Some new) c f) ∙ e)

not_some : {A : Type 0} (o : Option A) → is_some o ≡ false → o ≡ None
not_some None e = refl
not_some (Some a) e = absurd (cc)

has_some : {A : Type 0} (o : Option A) → IsSome o → is_some o ≡ true
has_some None h = absurd (cc)
has_some (Some a) h = refl

ended_shows : {B : Type 0} (m : Service B) (O P : Server B) (s : real.Server B) (who : ReqId) (body : List ℕ) (num : ℕ)
    (store : Store) (e : Ending) → who.client < 17 → HasStage (m.programs.table who body) e → Shows m O s
    → ran O who.client who.seq body num store e ≡ Done P → Stepped m P (real.ended s who body num store e)
ended_shows {B} m O P s who body num store (Reply text) l st k f = go (num == 0) refl f
  where
    go : (b : Bool) → (num == 0) ≡ b → cond b (Done (replied O who.client who.seq store text)) (Refused 7) ≡ Done P
        → Stepped m P (real.ended s who body num store (Reply text))
    go false g h = absurd (cc)
    go true g h = let same : replied O who.client who.seq store text ≡ P = cc in record {
      new = real.replied s who store text;
      told = Replied who text;
      goes = cond-true (num == 0) (real.Goes (real.replied s who store text) (Replied who text)) (real.Refused 7) g;
      shows = subst (λ z. Shows m z (real.replied s who store text)) same (replied_shows m O s who store text l k);
    }
ended_shows {B} m O P s who body num store (Call t stage text) l st k f = go (num == 0) refl (is_some (O.calls t num)) refl f
  where
    go : (b : Bool) → (num == 0) ≡ b → (d : Bool) → is_some (O.calls t num) ≡ d
        → cond b (Refused 7) (cond d (Refused 8) (Done (called O who.client who.seq body num store t stage text)))
        ≡ Done P → Stepped m P (real.ended s who body num store (Call t stage text))
    go true g d q h = absurd (cc)
    go false g true q h = absurd (cc)
    go false g false q h =
        let same : called O who.client who.seq body num store t stage text ≡ P = cc in
        let none : O.calls t num ≡ None = not_some (O.calls t num) q in
        record {
          new = real.called s who body num store t stage text;
          told = Called t num text;
          goes = cond-false (num == 0) (real.Refused 7)
              (real.calls_with s who body num store t stage text (found_in s.calls t num)) g
              ∙ ap (real.calls_with s who body num store t stage text) (k.calls t num ∙ none);
          shows = subst (λ z. Shows m z (real.called s who body num store t stage text)) same
              (called_shows m O s who body num store t stage text l none (has_some (m.programs.table who body stage) st) k);
        }

no_more : (a b : ℕ) → a ≡ suc b → a ≡ b + 1
no_more a b e = omega arith

start_shows : {B : Type 0} (m : Service B) (O P : Server B) (s : real.Server B) (who : ReqId) (num : ℕ) (body : List ℕ)
    → GoesOn (m.programs.table who body 0) (m.programs.table who body) → Shows m O s
    → start_at m O who.client who.seq num body ≡ Done P → Stepped m P (real.step (meaning m) s (Start who num) body)
start_shows {B} m O P s who num body again k f = go (nat_lt who.client 17) refl (who.seq == suc (O.last who.client))
    refl (is_some (O.progress who.client)) refl (m.programs.table who body 0) refl again f
  where
    go : (a : Bool) → nat_lt who.client 17 ≡ a → (b : Bool) → (who.seq == suc (O.last who.client)) ≡ b → (d : Bool)
        → is_some (O.progress who.client) ≡ d → (q : Option (Option ℕ → Store → Segment))
        → m.programs.table who body 0 ≡ q → GoesOn q (m.programs.table who body)
        → cond (not a) (Refused 0)
        (cond (not b) (Refused 1)
        (cond d (Refused 2)
        (cond (not (is_some q)) (Refused 3)
        (ran O who.client who.seq body num (row_of q None O.store).store (row_of q None O.store).ending)))) ≡ Done P
        → Stepped m P (real.step (meaning m) s (Start who num) body)
    go false e1 b e2 d e3 q e4 st h = absurd (cc)
    go true e1 false e2 d e3 q e4 st h = absurd (cc)
    go true e1 true e2 true e3 q e4 st h = absurd (cc)
    go true e1 true e2 false e3 None e4 st h = absurd (cc)
    go true e1 true e2 false e3 (Some row) e4 st h =
        let l : who.client < 17 = ltb-true who.client 17 e1 in
        let seq : (who.seq == slice_index s.last who.client + 1) ≡ true = eq-eqb who.seq
        (slice_index s.last who.client + 1)
        (omega (arith, eqb-true who.seq (suc (O.last who.client)) e2, k.last who.client l)) in
        let idle : slice_index_or s.progress who.client None ≡ None = k.progress who.client l ∙ ap as_progress (not_some (O.progress who.client) e3) in
        let r : Stepped m P (real.ended s who body num (row None O.store).store (row None O.store).ending) = ended_shows
        m O P s who body num (row None O.store).store (row None O.store).ending l (st None O.store) k h in
        record {
          new = r.new;
          told = r.told;
          goes = cond-true (who.seq == slice_index s.last who.client + 1)
              (real.start (meaning m) s who num body (slice_index_or s.progress who.client None)) (real.Refused 1) seq
              ∙ ap (real.start (meaning m) s who num body) idle ∙ ap (real.starts s who body num) e4
              ∙ ap (λ z. real.ended s who body num (row None z).store (row None z).ending) k.store ∙ r.goes;
          shows = r.shows;
        }

inside : {B : Type 0} (m : Service B) (O : Server B) (s : real.Server B) (c : ℕ) (g : Progress) → Shows m O s → O.progress c ≡ Some g → c < 17
inside m O s c g k e = go (cases_lt c 17)
  where
    go : (c < 17) ⊎ (17 ≤ c) → c < 17
    go (inl l) = l
    go (inr l) = absurd (let h = k.outside c l in cc)

resumed_shows : {B : Type 0} (m : Service B) (O P : Server B) (s : real.Server B) (who : ReqId) (num : ℕ) (g : Progress)
    (code : ℕ) → ((body : List ℕ) (stage : ℕ) → GoesOn (m.programs.table who body stage) (m.programs.table who body))
    → Shows m O s → O.progress who.client ≡ Some g → g.seq ≡ who.seq → O.served g.tier g.num ≡ Some code
    → ran O who.client who.seq g.body num (run m.programs (next_seg who.client g code) O.store).store
    (run m.programs (next_seg who.client g code) O.store).ending ≡ Done P
    → Stepped m P (real.step (meaning m) s (Resume who num) [])
resumed_shows {B} m O P s who num g code again k e q v f = go (m.programs.table who g.body g.stage) refl (again g.body g.stage) staged ran_here
  where
    l : who.client < 17
    l = inside m O s who.client g k e

    staged : is_some (m.programs.table who g.body g.stage) ≡ true
    staged = subst (λ z. is_some (m.programs.table (record { client = who.client; seq = z }) g.body g.stage) ≡ true) q (k.staged who.client g e)

    ran_here : ran O who.client who.seq g.body num
        (row_of (m.programs.table who g.body g.stage) (Some code) O.store).store
        (row_of (m.programs.table who g.body g.stage) (Some code) O.store).ending ≡ Done P
    ran_here = subst (λ z. ran O who.client who.seq g.body num
        (row_of (m.programs.table (record { client = who.client; seq = z }) g.body g.stage) (Some code) O.store).store
        (row_of (m.programs.table (record { client = who.client; seq = z }) g.body g.stage) (Some code) O.store).ending
        ≡ Done P) q f

    go : (t : Option (Option ℕ → Store → Segment)) → m.programs.table who g.body g.stage ≡ t
        → GoesOn t (m.programs.table who g.body) → is_some t ≡ true
        → ran O who.client who.seq g.body num (row_of t (Some code) O.store).store (row_of t (Some code) O.store).ending
        ≡ Done P → Stepped m P (real.step (meaning m) s (Resume who num) [])
    go None e1 st h r = absurd (cc)
    go (Some row) e1 st h r =
        let z : Stepped m P (real.ended s who g.body num (row (Some code) O.store).store
        (row (Some code) O.store).ending) = ended_shows m O P s who g.body num (row (Some code) O.store).store
        (row (Some code) O.store).ending l (st (Some code) O.store) k r in
        record {
          new = z.new;
          told = z.told;
          goes = ap (real.resume (meaning m) s who num) (k.progress who.client l ∙ ap as_progress e)
              ∙ cond-true (g.seq == who.seq)
              (real.resumes (meaning m) s who num
              (record { seq = g.seq; body = g.body; stage = g.stage; tier = g.tier; number = g.num })
              (found_in s.served g.tier g.num)) (real.Refused 5) (eq-eqb g.seq who.seq q)
              ∙ ap (real.resumes (meaning m) s who num
              (record { seq = g.seq; body = g.body; stage = g.stage; tier = g.tier; number = g.num }))
              (k.served g.tier g.num ∙ v)
              ∙ ap (real.goes_on s who g.body num code) e1
              ∙ ap (λ y. real.ended s who g.body num (row (Some code) y).store (row (Some code) y).ending) k.store ∙ z.goes;
          shows = z.shows;
        }

resume_shows : {B : Type 0} (m : Service B) (O P : Server B) (s : real.Server B) (who : ReqId) (num : ℕ) (body : List ℕ)
    → ((body : List ℕ) (stage : ℕ) → GoesOn (m.programs.table who body stage) (m.programs.table who body)) → Shows m O s
    → resume m O who.client who.seq num (O.progress who.client) ≡ Done P
    → Stepped m P (real.step (meaning m) s (Resume who num) body)
resume_shows {B} m O P s who num body again k f = go (O.progress who.client) refl f
  where
    seen : (g : Progress) → O.progress who.client ≡ Some g → (b : Bool) → (g.seq == who.seq) ≡ b → (v : Option ℕ)
        → O.served g.tier g.num ≡ v → cond b (resumes m O who.client who.seq num g v) (Refused 5) ≡ Done P
        → Stepped m P (real.step (meaning m) s (Resume who num) body)
    seen g e false q v r h = absurd (cc)
    seen g e true q None r h = absurd (cc)
    seen g e true q (Some code) r h = resumed_shows m O P s who num g code again k e (eqb-true g.seq who.seq q) r h

    go : (o : Option Progress) → O.progress who.client ≡ o → resume m O who.client who.seq num o ≡ Done P
        → Stepped m P (real.step (meaning m) s (Resume who num) body)
    go None e h = absurd (cc)
    go (Some g) e h = seen g e (g.seq == who.seq) refl (O.served g.tier g.num) refl h

serve_inv : {B : Type 0} (m : Service B) (O : Server B) (s : real.Server B) (n : ℕ) (b : Served B)
    → O.served Inv n ≡ None → Shows m O s → Shows m (coded O Inv n b) (real.with_backend s Inv n b)
serve_inv m O s n b none k = record {
  store = k.store;
  last = k.last;
  progress = k.progress;
  outside = k.outside;
  calls = k.calls;
  served = found-put s.served O.served Inv n b.code k.served none;
  inventory = refl;
  payment = k.payment;
  replies = k.replies;
  staged = k.staged;
  lasts = k.lasts;
  progresses = k.progresses;
}

serve_pay : {B : Type 0} (m : Service B) (O : Server B) (s : real.Server B) (n : ℕ) (b : Served B)
    → O.served Pay n ≡ None → Shows m O s → Shows m (coded O Pay n b) (real.with_backend s Pay n b)
serve_pay m O s n b none k = record {
  store = k.store;
  last = k.last;
  progress = k.progress;
  outside = k.outside;
  calls = k.calls;
  served = found-put s.served O.served Pay n b.code k.served none;
  inventory = k.inventory;
  payment = refl;
  replies = k.replies;
  staged = k.staged;
  lasts = k.lasts;
  progresses = k.progresses;
}

served_shows : {B : Type 0} (m : Service B) (O P : Server B) (s : real.Server B) (t : Tier) (n : ℕ) (body text : List ℕ)
    → Shows m O s → O.calls t n ≡ Some text → O.served t n ≡ None → coded O t n ((m.backend t).serve (O.backs t) text)
    ≡ P → real.backend_of s t ≡ O.backs t
    → Shows m (coded O t n ((m.backend t).serve (real.backend_of s t) text))
    (real.with_backend s t n ((m.backend t).serve (real.backend_of s t) text))
    → Stepped m P (real.step (meaning m) s (Serve t n) body)
served_shows m O P s t n body text k e g same state shows = record {
  new = real.with_backend s t n ((m.backend t).serve (real.backend_of s t) text);
  told = Answered t n ((m.backend t).serve (real.backend_of s t) text).code;
  goes = ap (λ z. real.serves (meaning m) s t n z (found_in s.served t n)) (k.calls t n ∙ e)
      ∙ ap (real.serves (meaning m) s t n (Some text)) (k.served t n ∙ g);
  shows = subst (λ z. Shows m z (real.with_backend s t n ((m.backend t).serve (real.backend_of s t) text))) same
      (subst (λ y. Shows m (coded O t n ((m.backend t).serve y text)) (real.with_backend s t n ((m.backend t).serve (real.backend_of s t) text))) state shows);
}

serve_shows : {B : Type 0} (m : Service B) (O P : Server B) (s : real.Server B) (t : Tier) (n : ℕ) (body : List ℕ)
    → Shows m O s → serves m O t n (O.calls t n) (O.served t n) ≡ Done P → Stepped m P (real.step (meaning m) s (Serve t n) body)
serve_shows m O P s Mid n body k f = absurd (cc)
serve_shows {B} m O P s Inv n body k f = go (O.calls Inv n) refl (O.served Inv n) refl f
  where
    go : (a : Option (List ℕ)) → O.calls Inv n ≡ a → (b : Option ℕ) → O.served Inv n ≡ b → serves m O Inv n a b ≡ Done P
        → Stepped m P (real.step (meaning m) s (Serve Inv n) body)
    go None e b g h = absurd (cc)
    go (Some text) e (Some code) g h = absurd (cc)
    go (Some text) e None g h = served_shows m O P s Inv n body text k e g (cc) k.inventory (serve_inv m O s n ((m.backend Inv).serve s.inventory text) g k)
serve_shows {B} m O P s Pay n body k f = go (O.calls Pay n) refl (O.served Pay n) refl f
  where
    go : (a : Option (List ℕ)) → O.calls Pay n ≡ a → (b : Option ℕ) → O.served Pay n ≡ b → serves m O Pay n a b ≡ Done P
        → Stepped m P (real.step (meaning m) s (Serve Pay n) body)
    go None e b g h = absurd (cc)
    go (Some text) e (Some code) g h = absurd (cc)
    go (Some text) e None g h = served_shows m O P s Pay n body text k e g (cc) k.payment (serve_pay m O s n ((m.backend Pay).serve s.payment text) g k)

-- the law that each call names a stage of its request
abbrev pub Again : {B : Type 0} → Service B → Type 0
Again m = (who : ReqId) (body : List ℕ) (stage : ℕ) → GoesOn (m.programs.table who body stage) (m.programs.table who body)

step_shows : {B : Type 0} (m : Service B) (O P : Server B) (s : real.Server B) (k : HistoryStep) → Again m → Shows m O s
    → step m O k ≡ Done P → Stepped m P (real.step (meaning m) s k.0 k.1)
step_shows {B} m O P s k again sh f = go k.0 k.1 f
  where
    go : (h : Hist) (body : List ℕ) → step_as m O h body ≡ Done P → Stepped m P (real.step (meaning m) s h body)
    go (Start who num) body f = start_shows m O P s who num body (again who body 0) sh f
    go (Serve t n) body f = serve_shows m O P s t n body sh f
    go (Resume who num) body f = resume_shows m O P s who num body (again who) sh f

-- HISTORIES

pub done_of : {A : Type 0} (r : Result A) → IsDone r → (a : A) × (r ≡ Done a)
done_of (Refused row) d = absurd d
done_of (Done a) d = (a, refl)

pub record Shown {B : Type 0} (m : Service B) (O : Server B) (h : History) (s : real.Server B) : Type 0 where
  pub legal : RealFrom (meaning m) h s
  pub shows : Shows m (server_from m O h) (real_from (meaning m) h s)

shown_from : {B : Type 0} (m : Service B) (O : Server B) (h : History) (s : real.Server B) → Again m → LegalFrom m O h → Shows m O s → Shown m O h s
shown_from m O [] s again l k = record { legal = tt; shows = k }
shown_from m O (x ∷ h) s again l k =
    let d = done_of (step m O x) l.0 in
    let t : Stepped m d.0 (real.step (meaning m) s x.0 x.1) = step_shows m O d.0 s x again k d.1 in
    let r : Shown m d.0 h t.new = shown_from m d.0 h t.new again (subst (λ z. LegalFrom m (result_or O z) h) d.1 l.1) t.shows in
    record {
      legal = subst (λ z. IsMade z × RealFrom (meaning m) h (server_or s z)) (sym t.goes) (tt, r.legal);
      shows = subst (λ z. Shows m (server_from m (result_or O z) h)
          (real_from (meaning m) h (server_or s (real.step (meaning m) s x.0 x.1)))) (sym d.1)
          (subst (λ z. Shows m (server_from m d.0 h) (real_from (meaning m) h (server_or s z))) (sym t.goes) r.shows);
    }

opening_shows : {B : Type 0} (m : Service B) → Shows m (empty_server m) (real.opening_server (meaning m))
opening_shows m = record {
  store = refl;
  last = λ c l. get_or-replicate 17 c 0 0 l;
  progress = λ c l. get_or-replicate 17 c None None l;
  outside = λ c l. refl;
  calls = λ t n. refl;
  served = λ t n. refl;
  inventory = refl;
  payment = refl;
  replies = λ c n text e. absurd (cc);
  staged = λ c g e. absurd (cc);
  lasts = refl;
  progresses = refl;
}

-- a history that the look-up functions take is legal, and the server after it shows what they have
pub shown : {B : Type 0} (m : Service B) (h : History) → Again m → Legal m h → Shown m (empty_server m) h (real.opening_server (meaning m))
shown m h again l = shown_from m (empty_server m) h (real.opening_server (meaning m)) again l (opening_shows m)
