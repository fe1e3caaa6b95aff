-- A reply has its step in the history, and no step of its request stands behind it: so where a client took the reply before
-- a request was submitted, that step and all others of the request that it replies to stand before the request's start.
use Rattle.std.proofs.Common.{◌≡◌, ℕ, ◌+◌, ◌<◌, ◌≤◌, Bool, true, false, cond, List, [], ◌∷◌, ◌++◌, length, refl, sym}
use Rattle.std.proofs.Common.{ap, ◌∙◌, subst, inl, inr, Option, Some, None, zero, suc, arith}
use Rattle.std.specs.Prelude.{slice_get, ◌⊎◌, ◌==◌, not, nat_lt, take}
use Rattle.std.proofs.lemmas.Bool.{cond_both, cases_eq, eqb-true}
use Rattle.std.proofs.lemmas.List.{take-append-le}
use Rattle.std.proofs.lemmas.Option.{slice_get_within}
use Rattle.aeg_base.specs.Store.{Store}
use Rattle.aeg_base.specs.declared.names.ReqId.{ReqId}
use Rattle.aeg_base.specs.declared.names.Tier.{Tier}
use Rattle.aeg_base.specs.declared.names.Tier.TheVariants.{Mid, Inv, Pay}
use Rattle.svc_api.specs.Segment.{Segment}
use Rattle.svc_api.specs.declared.action.Ending.{Ending}
use Rattle.svc_api.specs.declared.action.Ending.TheVariants.{Reply, Call}
use Rattle.server_model.specs.Server as real
use Rattle.server_model.specs.Server.{Meaning}
use Rattle.server_model.specs.History as history
use Rattle.server_model.specs.History.{History}
use Rattle.server_model.specs.declared.history.Hist.{Hist}
use Rattle.server_model.specs.declared.history.Hist.TheVariants.{Start, Serve, Resume}
use Rattle.server_model.specs.declared.history.Told.{Told}
use Rattle.server_model.specs.declared.history.Told.TheVariants.{Replied}
use Rattle.server_model.specs.declared.progress.Progress.{Progress as Waiting}
use Rattle.log_values.specs.declared.entry.Entry.{Entry}
use Rattle.round_model.specs.Lists.{is_some}
use Rattle.round_model.specs.Service.{Service, is_request, run, meaning}
use Rattle.round_model.specs.Tables.{who_of}
use Rattle.run_model.specs.World.{Config, World}
use Rattle.run_model.specs.Histories.{put, HistoryStep}
use Rattle.run_model.specs.Runs.{world}
use Rattle.run_model.specs.declared.trace.TraceEvent.{TraceEvent}
use Rattle.tier_laws.specs.Said.{Laws, HasReply, WasSubmitted, RepliesAt, IsOf, IsFront}
use Rattle.tier_laws.proofs.Events.OneNodeChanges.{Inv as WorldOk}
use Rattle.tier_laws.proofs.Events.EachEvent.{world_ok}
use Rattle.tier_laws.proofs.Said.LaterStarts.{goes_on, starts_later}
use Rattle.tier_laws.proofs.Lists.ItemsByIndex.{get_cases, get_left, get_push, put_here, put_there}
use Rattle.tier_laws.proofs.Server.LookUps.{Progress, Server, Result, replied, called, ran, next_seg, first_seg, coded, serves}
use Rattle.tier_laws.proofs.Server.LookUps.{resumes, resume, start_at, step_as, step, result_or, server, server_from, LegalFrom}
use Rattle.tier_laws.proofs.Server.LookUps.{Legal, empty_server}
use Rattle.tier_laws.proofs.Server.LookUps.Result.{Refused, Done}
use Rattle.tier_laws.proofs.Rounds.AnyOrder.{put2_cases}
use Rattle.tier_laws.proofs.Server.ShownLists.{done_of}
use Rattle.tier_laws.proofs.Said.FromInvariant.{has_reply}

-- A REPLY IS OLD, OR THE STEP TELLS IT

record OldOrTold {B : Type 0} (s : real.Server B) (r : real.Step B) : Type 0 where
  at : (j : ℕ) (who : ReqId) (text : List ℕ) → slice_get (history.server_or s r).replies j ≡ Some (who, text)
      → (slice_get s.replies j ≡ Some (who, text)) ⊎ (history.told_by r ≡ Replied who text ∷ [])

refused_told : {B : Type 0} (s : real.Server B) (row : ℕ) → OldOrTold s (real.Refused row)
refused_told s row = record { at = λ j who text e. inl e }

-- other steps leave the replies
other_told : {B : Type 0} (s new : real.Server B) (told : Told) → new.replies ≡ s.replies → OldOrTold s (real.Goes new told)
other_told s new told f = record { at = λ j who text e. inl (ap (λ z. slice_get z j) (sym f) ∙ e) }

reply_told : {B : Type 0} (s : real.Server B) (who : ReqId) (store : Store) (text : List ℕ)
    → OldOrTold s (real.Goes (real.replied s who store text) (Replied who text))
reply_told s who store text = record { at = λ j asked t e. go j asked t (get_push s.replies (who, text) j (asked, t) e) }
  where
    go : (j : ℕ) (asked : ReqId) (t : List ℕ) → (slice_get s.replies j ≡ Some (asked, t))
        ⊎ ((j ≡ length s.replies) × (◌≡◌ {A = ReqId × List ℕ} (who, text) (asked, t)))
        → (slice_get s.replies j ≡ Some (asked, t)) ⊎ (Replied who text ∷ [] ≡ Replied asked t ∷ [])
    go j asked t (inl f) = inl f
    go j asked t (inr f) = inr (ap (λ (z : ReqId × List ℕ). Replied z.0 z.1 ∷ []) f.1)

call_told : {B : Type 0} (s : real.Server B) (who : ReqId) (body : List ℕ) (num : ℕ) (store : Store) (t : Tier)
    (stage : ℕ) (text : List ℕ) (o : Option (List ℕ)) → OldOrTold s (real.calls_with s who body num store t stage text o)
call_told s who body num store t stage text (Some x) = refused_told s 8
call_told s who body num store t stage text None = other_told s _ _ refl

ended_told : {B : Type 0} (s : real.Server B) (who : ReqId) (body : List ℕ) (num : ℕ) (store : Store) (e : Ending)
    → OldOrTold s (real.ended s who body num store e)
ended_told s who body num store (Reply text) = cond_both (num == 0)
    (real.Goes (real.replied s who store text) (Replied who text)) (real.Refused 7) (OldOrTold s)
    (λ e. reply_told s who store text) (λ e. refused_told s 7)
ended_told s who body num store (Call t stage text) =
    cond_both (num == 0) (real.Refused 7) (real.calls_with s who body num store t stage text (real.text_of s t num))
    (OldOrTold s) (λ e. refused_told s 7) (λ e. call_told s who body num store t stage text (real.text_of s t num))

starts_told : {B : Type 0} (s : real.Server B) (who : ReqId) (body : List ℕ) (num : ℕ)
    (o : Option (Option ℕ → Store → Segment)) → OldOrTold s (real.starts s who body num o)
starts_told s who body num None = refused_told s 3
starts_told s who body num (Some segment) = ended_told s who body num (segment None s.store).store (segment None s.store).ending

start_told : {B : Type 0} (m : Meaning B) (s : real.Server B) (who : ReqId) (num : ℕ) (body : List ℕ)
    (o : Option Waiting) → OldOrTold s (real.start m s who num body o)
start_told m s who num body (Some g) = refused_told s 2
start_told m s who num body None = starts_told s who body num (m.table who body 0)

serve_told : {B : Type 0} (m : Meaning B) (s : real.Server B) (t : Tier) (n : ℕ) (a : Option (List ℕ)) (b : Option ℕ) → OldOrTold s (real.serves m s t n a b)
serve_told m s t n None b = refused_told s 4
serve_told m s t n (Some text) (Some code) = refused_told s 4
serve_told m s Mid n (Some text) None = other_told s _ _ refl
serve_told m s Inv n (Some text) None = other_told s _ _ refl
serve_told m s Pay n (Some text) None = other_told s _ _ refl

goes_on_told : {B : Type 0} (s : real.Server B) (who : ReqId) (body : List ℕ) (num code : ℕ)
    (o : Option (Option ℕ → Store → Segment)) → OldOrTold s (real.goes_on s who body num code o)
goes_on_told s who body num code None = refused_told s 5
goes_on_told s who body num code (Some segment) = ended_told s who body num (segment (Some code) s.store).store (segment (Some code) s.store).ending

resumes_told : {B : Type 0} (m : Meaning B) (s : real.Server B) (who : ReqId) (num : ℕ) (g : Waiting) (o : Option ℕ)
    → OldOrTold s (real.resumes m s who num g o)
resumes_told m s who num g None = refused_told s 6
resumes_told m s who num g (Some code) = goes_on_told s who g.body num code (m.table who g.body g.stage)

resume_told : {B : Type 0} (m : Meaning B) (s : real.Server B) (who : ReqId) (num : ℕ) (o : Option Waiting) → OldOrTold s (real.resume m s who num o)
resume_told m s who num None = refused_told s 5
resume_told m s who num (Some g) =
    cond_both (g.seq == who.seq) (real.resumes m s who num g (real.code_of s g.tier g.number)) (real.Refused 5)
    (OldOrTold s) (λ e. resumes_told m s who num g (real.code_of s g.tier g.number)) (λ e. refused_told s 5)

step_told : {B : Type 0} (m : Meaning B) (s : real.Server B) (h : Hist) (body : List ℕ) → OldOrTold s (real.step m s h body)
step_told m s (Start who n) body = cond_both (who.seq == real.last_of s who.client + 1)
    (real.start m s who n body (real.progress_of s who.client)) (real.Refused 1) (OldOrTold s)
    (λ e. start_told m s who n body (real.progress_of s who.client)) (λ e. refused_told s 1)
step_told m s (Serve t n) body = serve_told m s t n (real.text_of s t n) (real.code_of s t n)
step_told m s (Resume who n) body = resume_told m s who n (real.progress_of s who.client)

-- A REPLY HAS ITS STEP

record ReplyStep {B : Type 0} (m : Meaning B) (s : real.Server B) (h : History) (place : ℕ) (who : ReqId) (text : List ℕ) : Type 0 where
  is : HistoryStep
  is_step : slice_get h place ≡ Some is
  tells : history.told_by (real.step m (history.server_from m (take place h) s) is.0 is.1) ≡ Replied who text ∷ []

reply_step : {B : Type 0} (m : Meaning B) (h : History) (s : real.Server B) (j : ℕ) (who : ReqId) (text : List ℕ)
    → slice_get (history.server_from m h s).replies j ≡ Some (who, text) → (slice_get s.replies j ≡ Some (who, text))
    ⊎ ((k : ℕ) × ReplyStep m s h k who text)
reply_step m [] s j who text e = inl e
reply_step {B} m (x ∷ h) s j who text e = go (reply_step m h next j who text e)
  where
    next : real.Server B
    next = history.server_or s (real.step m s x.0 x.1)

    here : (slice_get s.replies j ≡ Some (who, text))
        ⊎ (history.told_by (real.step m s x.0 x.1) ≡ Replied who text ∷ []) → (slice_get s.replies j ≡ Some (who, text))
        ⊎ ((k : ℕ) × ReplyStep m s (x ∷ h) k who text)
    here (inl f) = inl f
    here (inr f) = inr (0, record { is = x; is_step = refl; tells = f })

    go : (slice_get next.replies j ≡ Some (who, text)) ⊎ ((k : ℕ) × ReplyStep m next h k who text)
        → (slice_get s.replies j ≡ Some (who, text)) ⊎ ((k : ℕ) × ReplyStep m s (x ∷ h) k who text)
    go (inl f) = here ((step_told m s x.0 x.1).at j who text f)
    go (inr k) = inr (suc k.0, record { is = k.1.is; is_step = k.1.is_step; tells = k.1.tells })

first_step : {B : Type 0} (c : Config B) (w : World B) (who : ReqId) (text : List ℕ) → HasReply c w who text → (k : ℕ)
    × ReplyStep (meaning c.service) (real.opening_server (meaning c.service)) w.hist k who text
first_step {B} c w who text r = go (reply_step (meaning c.service) w.hist (real.opening_server (meaning c.service)) r.0 who text r.1)
  where
    go : (slice_get {X = ReqId × List ℕ} [] r.0 ≡ Some (who, text))
        ⊎ ((k : ℕ) × ReplyStep (meaning c.service) (real.opening_server (meaning c.service)) w.hist k who text)
        → (k : ℕ) × ReplyStep (meaning c.service) (real.opening_server (meaning c.service)) w.hist k who text
    go (inl f) = absurd (cc)
    go (inr k) = k

-- the step stays where it is as the history grows
replies_later : {B : Type 0} (c : Config B) (w z : World B) (who : ReqId) (text : List ℕ) → IsFront w.hist z.hist
    → HasReply c w who text → (j : ℕ) × RepliesAt c z j who text × (j < length w.hist)
replies_later {B} c w z who text f r = (
  k.0,
  record {
    step = k.1.is;
    is_step = ap (λ h. slice_get h k.0) f.1 ∙ get_left w.hist f.0 k.0 k.1.is k.1.is_step;
    tells = tells;
  },
  below,
)
  where
    k : (j : ℕ) × ReplyStep (meaning c.service) (real.opening_server (meaning c.service)) w.hist j who text
    k = first_step c w who text r

    below : k.0 < length w.hist
    below = slice_get_within w.hist k.0 k.1.is k.1.is_step

    same : take k.0 z.hist ≡ take k.0 w.hist
    same = ap (take k.0) f.1 ∙ take-append-le k.0 w.hist f.0 (omega (arith, below))

    tells : history.told_by (real.step (meaning c.service) (history.server_after (meaning c.service) (take k.0 z.hist))
        k.1.is.0 k.1.is.1) ≡ Replied who text ∷ []
    tells = ap (λ h. history.told_by (real.step (meaning c.service) (history.server_after (meaning c.service) h) k.1.is.0 k.1.is.1)) same ∙ k.1.tells

-- NO STEP OF THE REQUEST STANDS BEHIND ITS REPLY

-- the client's request n is over
record Over {B : Type 0} (O : Server B) (c n : ℕ) : Type 0 where
  last : n ≤ O.last c
  next : (g : Progress) → O.progress c ≡ Some g → n < g.seq

replied_over : {B : Type 0} (O : Server B) (d s : ℕ) (store : Store) (text : List ℕ) (c n : ℕ) → ((d ≡ c) × (n ≤ s))
    ⊎ ((c ≡ d → ⊥) × Over O c n) → Over (replied O d s store text) c n
replied_over O d s store text c n (inl f) = record {
  last = omega (arith, f.1, ap (put O.last d s) (sym f.0) ∙ put_here O.last d s);
  next = λ g e. absurd (let h : None ≡ Some g = sym (ap (put O.progress d None) (sym f.0) ∙ put_here O.progress d None) ∙ e in cc);
}
replied_over O d s store text c n (inr f) = record {
  last = omega (arith, f.1.last, put_there O.last d s c f.0);
  next = λ g e. f.1.next g (sym (put_there O.progress d None c f.0) ∙ e);
}

called_over : {B : Type 0} (O : Server B) (d s : ℕ) (body : List ℕ) (num : ℕ) (store : Store) (t : Tier) (stage : ℕ)
    (text : List ℕ) (c n : ℕ) → (d ≡ c → n < s) → Over O c n → Over (called O d s body num store t stage text) c n
called_over {B} O d s body num store t stage text c n newer k = go (cases_eq c d)
  where
    new : Progress
    new = record { seq = s; body = body; stage = stage; tier = t; num = num }

    go : (c ≡ d) ⊎ (c ≡ d → ⊥) → Over (called O d s body num store t stage text) c n
    go (inl f) = record {
      last = omega (arith, newer (sym f), ap (put O.last d s) f ∙ put_here O.last d s);
      next = λ g e. let h : Some new
          ≡ Some g = sym (ap (put O.progress d (Some new)) f ∙ put_here O.progress d (Some new))
          ∙ e in let same : new ≡ g = cc in subst (λ (z : Progress). n < z.seq) same (newer (sym f));
    }
    go (inr f) = record { last = omega (arith, k.last, put_there O.last d s c f); next = λ g e. k.next g (sym (put_there O.progress d (Some new) c f) ∙ e) }

-- a row that isn't refused
not_refused : {A : Type 0} (b : Bool) (row : ℕ) (r : Result A) (a : A) → cond b (Refused row) r ≡ Done a → (b ≡ false) × (r ≡ Done a)
not_refused true row r a e = absurd (cc)
not_refused false row r a e = (refl, e)

is_done : {A : Type 0} (b : Bool) (row : ℕ) (r : Result A) (a : A) → cond b r (Refused row) ≡ Done a → (b ≡ true) × (r ≡ Done a)
is_done true row r a e = (refl, e)
is_done false row r a e = absurd (cc)

same_done : {A : Type 0} (a b : A) → Done a ≡ Done b → a ≡ b
same_done a b e = cc

-- what a step leaves: a request that is over stays over, and one that has a reply now had it or is over now
record Leaves {B : Type 0} (O P : Server B) (c n : ℕ) : Type 0 where
  over : Over O c n → Over P c n
  new : (text : List ℕ) → P.replies c n ≡ Some text → ((u : List ℕ) × (O.replies c n ≡ Some u)) ⊎ Over P c n

ran_leaves : {B : Type 0} (O P : Server B) (d s : ℕ) (body : List ℕ) (num : ℕ) (store : Store) (e : Ending) (c n : ℕ)
    → (Over O c n → d ≡ c → n < s) → ran O d s body num store e ≡ Done P → Leaves O P c n
ran_leaves {B} O P d s body num store (Reply text) c n newer e = subst (λ z. Leaves O z c n)
    (same_done (replied O d s store text) P (is_done (num == 0) 7 (Done (replied O d s store text)) P e).1)
    (record { over = λ k. over k (cases_eq c d); new = λ t f. new t f (put2_cases O.replies d s (Some text) c n) })
  where
    over : Over O c n → (c ≡ d) ⊎ (c ≡ d → ⊥) → Over (replied O d s store text) c n
    over k (inl f) = replied_over O d s store text c n (inl (sym f, omega (arith, newer k (sym f))))
    over k (inr f) = replied_over O d s store text c n (inr (f, k))

    new : (t : List ℕ) → (replied O d s store text).replies c n ≡ Some t → ((c ≡ d) × (n ≡ s))
        ⊎ ((replied O d s store text).replies c n ≡ O.replies c n) → ((u : List ℕ) × (O.replies c n ≡ Some u))
        ⊎ Over (replied O d s store text) c n
    new t f (inl g) = inr (replied_over O d s store text c n (inl (sym g.0, omega (arith, g.1))))
    new t f (inr g) = inl (t, sym g ∙ f)
ran_leaves {B} O P d s body num store (Call t stage text) c n newer e =
    let p = not_refused (num == 0) 7 (cond (is_some (O.calls t num)) (Refused 8) (Done (called O d s body num store t stage text))) P e in
    let q = not_refused (is_some (O.calls t num)) 8 (Done (called O d s body num store t stage text)) P p.1 in
    subst (λ z. Leaves O z c n) (same_done (called O d s body num store t stage text) P q.1)
    (record { over = λ k. called_over O d s body num store t stage text c n (newer k) k; new = λ u f. inl (u, f) })

serve_leaves : {B : Type 0} (m : Service B) (O P : Server B) (t : Tier) (num : ℕ) (a : Option (List ℕ)) (b : Option ℕ)
    (c n : ℕ) → serves m O t num a b ≡ Done P → Leaves O P c n
serve_leaves m O P Mid num a b c n e = absurd (cc)
serve_leaves m O P Inv num None b c n e = absurd (cc)
serve_leaves m O P Inv num (Some text) (Some code) c n e = absurd (cc)
serve_leaves m O P Inv num (Some text) None c n e = subst (λ z. Leaves O z c n)
    (same_done (coded O Inv num ((m.backend Inv).serve (O.backs Inv) text)) P e)
    (record { over = λ k. record { last = k.last; next = k.next }; new = λ u f. inl (u, f) })
serve_leaves m O P Pay num None b c n e = absurd (cc)
serve_leaves m O P Pay num (Some text) (Some code) c n e = absurd (cc)
serve_leaves m O P Pay num (Some text) None c n e = subst (λ z. Leaves O z c n)
    (same_done (coded O Pay num ((m.backend Pay).serve (O.backs Pay) text)) P e)
    (record { over = λ k. record { last = k.last; next = k.next }; new = λ u f. inl (u, f) })

-- a step that is made starts or goes on with a request that isn't over
record Made {B : Type 0} (O P : Server B) (h : Hist) (c n : ℕ) : Type 0 where
  leaves : Leaves O P c n
  other : Over O c n → IsOf (record { client = c; seq = n }) h → ⊥

-- the step of a request that is newer where it is the same client's
made : {B : Type 0} (O P : Server B) (h : Hist) (asked : ReqId) (c n : ℕ)
    → (Over O c n → asked.client ≡ c → n < asked.seq)
    → (IsOf (record { client = c; seq = n }) h → asked ≡ record { client = c; seq = n }) → Leaves O P c n → Made O P h c n
made O P h asked c n newer own leaves = record {
  leaves = leaves;
  other = λ k f. omega (arith, newer k (ap (λ (z : ReqId). z.client) (own f)), ap (λ (z : ReqId). z.seq) (own f));
}

start_made : {B : Type 0} (m : Service B) (O P : Server B) (asked : ReqId) (num : ℕ) (body : List ℕ) (c n : ℕ)
    → start_at m O asked.client asked.seq num body ≡ Done P → Made O P (Start asked num) c n
start_made {B} m O P asked num body c n e = made O P (Start asked num) asked c n newer (λ f. f)
    (ran_leaves O P asked.client asked.seq body num
    (run m.programs (first_seg asked.client asked.seq body) O.store).store
    (run m.programs (first_seg asked.client asked.seq body) O.store).ending c n newer four.1)
  where
    last_row : Result (Server B)
    last_row = ran O asked.client asked.seq body num
        (run m.programs (first_seg asked.client asked.seq body) O.store).store
        (run m.programs (first_seg asked.client asked.seq body) O.store).ending

    row3 : Result (Server B)
    row3 = cond (not (is_request m.programs (record { client = asked.client; seq = asked.seq }) body)) (Refused 3) last_row

    row2 : Result (Server B)
    row2 = cond (is_some (O.progress asked.client)) (Refused 2) row3

    row1 : Result (Server B)
    row1 = cond (not (asked.seq == suc (O.last asked.client))) (Refused 1) row2

    one : (not (nat_lt asked.client 17) ≡ false) × (row1 ≡ Done P)
    one = not_refused (not (nat_lt asked.client 17)) 0 row1 P e

    two : (not (asked.seq == suc (O.last asked.client)) ≡ false) × (row2 ≡ Done P)
    two = not_refused (not (asked.seq == suc (O.last asked.client))) 1 row2 P one.1

    three : (is_some (O.progress asked.client) ≡ false) × (row3 ≡ Done P)
    three = not_refused (is_some (O.progress asked.client)) 2 row3 P two.1

    four : (not (is_request m.programs (record { client = asked.client; seq = asked.seq }) body) ≡ false) × (last_row ≡ Done P)
    four = not_refused (not (is_request m.programs (record { client = asked.client; seq = asked.seq }) body)) 3 last_row P three.1

    negated : (b : Bool) → not b ≡ false → b ≡ true
    negated true f = refl
    negated false f = absurd (cc)

    is_next : asked.seq ≡ suc (O.last asked.client)
    is_next = eqb-true asked.seq (suc (O.last asked.client)) (negated (asked.seq == suc (O.last asked.client)) two.0)

    newer : Over O c n → asked.client ≡ c → n < asked.seq
    newer k f = omega (arith, k.last, is_next, ap O.last f)

resume_made : {B : Type 0} (m : Service B) (O P : Server B) (asked : ReqId) (num c n : ℕ) (o : Option Progress)
    → O.progress asked.client ≡ o → resume m O asked.client asked.seq num o ≡ Done P → Made O P (Resume asked num) c n
resume_made m O P asked num c n None f e = absurd (cc)
resume_made {B} m O P asked num c n (Some g) f e = made O P (Resume asked num) asked c n newer (λ h. h) (leaves (O.served g.tier g.num) row.1)
  where
    row : ((g.seq == asked.seq) ≡ true) × (resumes m O asked.client asked.seq num g (O.served g.tier g.num) ≡ Done P)
    row = is_done (g.seq == asked.seq) 5 (resumes m O asked.client asked.seq num g (O.served g.tier g.num)) P e

    newer : Over O c n → asked.client ≡ c → n < asked.seq
    newer k h = omega (arith, k.next g (ap O.progress (sym h) ∙ f), eqb-true g.seq asked.seq row.0)

    leaves : (a : Option ℕ) → resumes m O asked.client asked.seq num g a ≡ Done P → Leaves O P c n
    leaves None h = absurd (cc)
    leaves (Some code) h = ran_leaves O P asked.client asked.seq g.body num
        (run m.programs (next_seg asked.client g code) O.store).store
        (run m.programs (next_seg asked.client g code) O.store).ending c n newer h

step_made : {B : Type 0} (m : Service B) (O P : Server B) (h : Hist) (body : List ℕ) (c n : ℕ) → step_as m O h body ≡ Done P → Made O P h c n
step_made m O P (Start asked num) body c n e = start_made m O P asked num body c n e
step_made m O P (Serve t num) body c n e = record { leaves = serve_leaves m O P t num (O.calls t num) (O.served t num) c n e; other = λ k f. f }
step_made m O P (Resume asked num) body c n e = resume_made m O P asked num c n (O.progress asked.client) refl e

-- HISTORIES

-- once it is over, it stays over, and no step is of it
record OverFrom {B : Type 0} (m : Service B) (O : Server B) (h : History) (c n : ℕ) : Type 0 where
  over : Over (server_from m O h) c n
  none : (i : ℕ) (k : HistoryStep) → slice_get h i ≡ Some k → IsOf (record { client = c; seq = n }) k.0 → ⊥

over_from : {B : Type 0} (m : Service B) (h : History) (O : Server B) (c n : ℕ) → LegalFrom m O h → Over O c n → OverFrom m O h c n
over_from m [] O c n l k = record { over = k; none = λ i x e f. absurd (cc) }
over_from {B} m (x ∷ h) O c n l k =
    let d = done_of (step m O x) l.0 in
    let now : Made O d.0 x.0 c n = step_made m O d.0 x.0 x.1 c n d.1 in
    first x h (now.other k) (over_from m h (result_or O (step m O x)) c n l.1 (subst (λ z. Over (result_or O z) c n) (sym d.1) (now.leaves.over k)))
  where
    first : (x : HistoryStep) (h : History) → (IsOf (record { client = c; seq = n }) x.0 → ⊥)
        → OverFrom m (result_or O (step m O x)) h c n → OverFrom m O (x ∷ h) c n
    first x h other rest = record { over = rest.over; none = none }
      where
        none : (i : ℕ) (y : HistoryStep) → slice_get (x ∷ h) i ≡ Some y → IsOf (record { client = c; seq = n }) y.0 → ⊥
        none zero y e f = let s : x ≡ y = cc in other (subst (λ (z : HistoryStep). IsOf (record { client = c; seq = n }) z.0) (sym s) f)
        none (suc i) y e f = rest.none i y e f

-- what has a reply is over
reply_over : {B : Type 0} (m : Service B) (h : History) (O : Server B) (c n : ℕ) (text : List ℕ) → LegalFrom m O h
    → (server_from m O h).replies c n ≡ Some text → ((u : List ℕ) × (O.replies c n ≡ Some u)) ⊎ Over (server_from m O h) c n
reply_over m [] O c n text l e = inl (text, e)
reply_over {B} m (x ∷ h) O c n text l e = go (reply_over m h (result_or O (step m O x)) c n text l.1 e)
  where
    d : (P : Server B) × (step m O x ≡ Done P)
    d = done_of (step m O x) l.0

    now : Leaves O (result_or O (step m O x)) c n
    now = subst (λ z. Leaves O (result_or O z) c n) (sym d.1) (step_made m O d.0 x.0 x.1 c n d.1).leaves

    here : ((u : List ℕ) × (O.replies c n ≡ Some u)) ⊎ Over (result_or O (step m O x)) c n
        → ((u : List ℕ) × (O.replies c n ≡ Some u)) ⊎ Over (server_from m O (x ∷ h)) c n
    here (inl f) = inl f
    here (inr k) = inr (over_from m h (result_or O (step m O x)) c n l.1 k).over

    go : ((u : List ℕ) × ((result_or O (step m O x)).replies c n ≡ Some u)) ⊎ Over (server_from m O (x ∷ h)) c n
        → ((u : List ℕ) × (O.replies c n ≡ Some u)) ⊎ Over (server_from m O (x ∷ h)) c n
    go (inl f) = here (now.new f.0 f.1)
    go (inr k) = inr k

legal_rest : {B : Type 0} (m : Service B) (O : Server B) (h k : History) → LegalFrom m O (h ++ k) → LegalFrom m O h × LegalFrom m (server_from m O h) k
legal_rest m O [] k l = (tt, l)
legal_rest m O (x ∷ h) k l = let r = legal_rest m (result_or O (step m O x)) h k l.1 in ((l.0, r.0), r.1)

-- each step of a request that has a reply in the first part of a legal history stands there
own_steps : {B : Type 0} (m : Service B) (h k : History) (who : ReqId) (text : List ℕ) (j : ℕ) (x : HistoryStep)
    → Legal m (h ++ k) → (server m h).replies who.client who.seq ≡ Some text → slice_get (h ++ k) j ≡ Some x
    → IsOf who x.0 → j < length h
own_steps {B} m h k who text j x l e f own = go (get_cases h k j x f)
  where
    parts : LegalFrom m (empty_server m) h × LegalFrom m (server m h) k
    parts = legal_rest m (empty_server m) h k l

    by : ((u : List ℕ) × (None ≡ Some u)) ⊎ Over (server m h) who.client who.seq → Over (server m h) who.client who.seq
    by (inl z) = absurd (let q = z.1 in cc)
    by (inr z) = z

    over : Over (server m h) who.client who.seq
    over = by (reply_over m h (empty_server m) who.client who.seq text parts.0 e)

    go : (slice_get h j ≡ Some x) ⊎ ((i : ℕ) × (slice_get k i ≡ Some x)) → j < length h
    go (inl g) = slice_get_within h j x g
    go (inr g) = absurd ((over_from m k (server m h) who.client who.seq parts.1 over).none g.0 x g.1 own)

-- BEFORE A LATER START

-- the reply that a client took stands before the start of what was submitted later
pub replied_before : {B : Type 0} (c : Config B) (es fs : List TraceEvent) (k i n : ℕ) (e : Entry) (who : ReqId)
    (body : List ℕ) → c.u < 128 → Laws c.service.programs → slice_get (world c es).told k ≡ Some e
    → ((text : List ℕ) → WasSubmitted (world c es) who text → ⊥)
    → slice_get (world c (es ++ fs)).hist i ≡ Some (Start who n, body) → (j : ℕ) × RepliesAt c (world c (es ++ fs)) j (who_of e) e.body × (j < i)
replied_before {B} c es fs k i n e who body few laws told new at =
    let now : WorldOk c (world c es) = world_ok c es few laws in
    let r = replies_later c (world c es) (world c (es ++ fs)) (who_of e) e.body (goes_on c es fs).hist
    (has_reply c (world c es) (who_of e) e.body now (now.core.told k e told)) in
    (r.0, r.1, omega (arith, r.2, starts_later c es fs i n who body few laws at new))

-- and so does each step of its request
pub finished_before : {B : Type 0} (c : Config B) (es fs : List TraceEvent) (k i j n : ℕ) (e : Entry) (who : ReqId)
    (body : List ℕ) (x : HistoryStep) → c.u < 128 → Laws c.service.programs → slice_get (world c es).told k ≡ Some e
    → ((text : List ℕ) → WasSubmitted (world c es) who text → ⊥)
    → slice_get (world c (es ++ fs)).hist i ≡ Some (Start who n, body) → slice_get (world c (es ++ fs)).hist j ≡ Some x → IsOf (who_of e) x.0 → j < i
finished_before {B} c es fs k i j n e who body x few laws told new at is own =
    let front : IsFront (world c es).hist (world c (es ++ fs)).hist = (goes_on c es fs).hist in
    let l : Legal c.service ((world c es).hist ++ front.0) = subst (Legal c.service) front.1 (world_ok c (es ++ fs) few laws).core.ledger.legal in
    let below = own_steps c.service (world c es).hist front.0 (who_of e) e.body j x l
    ((world_ok c es few laws).core.told k e told) (ap (λ h. slice_get h j) (sym front.1) ∙ is) own in
    omega (arith, below, starts_later c es fs i n who body few laws at new)
