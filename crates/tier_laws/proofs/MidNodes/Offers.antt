-- What a middle node offers of its own, and what a retry sends.
use Rattle.std.proofs.Common.{◌≡◌, ℕ, ◌+◌, ◌*◌, ◌-◌, ◌<◌, ◌≤◌, Bool, true, false, cond, List, [], ◌∷◌, ◌++◌, length}
use Rattle.std.proofs.Common.{refl, sym, ap, ◌∙◌, subst, inl, inr, Option, Some, None, zero, suc, arith}
use Rattle.std.specs.Prelude.{slice_get, ◌⊎◌, ◌&&◌, not, nat_lt, ◌==◌, map, take, drop}
use Rattle.std.proofs.lemmas.Bool.{cond_both, cond-true, eq-eqb, eqb-true}
use Rattle.std.proofs.lemmas.List.{append-nil}
use Rattle.aeg_base.specs.declared.names.Tier.{Tier}
use Rattle.log_model.proofs.Basics.{Every, every-append, every-weaker}
use Rattle.log_model.proofs.Rows.{still}
use Rattle.log_model.specs.Log.{Leader, LogState, is, nobody, open_at}
use Rattle.log_model.specs.Rows.{lead, offer}
use Rattle.log_model.specs.declared.fact.Fact.{Fact as LogFact}
use Rattle.log_values.specs.declared.any_value.AnyValue.{AnyValue}
use Rattle.log_values.specs.declared.any_value.AnyValue.TheVariants.{Mid as OfMid}
use Rattle.log_values.specs.declared.entry.Entry.{Entry}
use Rattle.log_values.specs.declared.mid_value.MidValue.TheVariants.{Batch, Verdict as Decided}
use Rattle.round_model.proofs.HeldLaws.{floor_usable, in_order}
use Rattle.round_model.proofs.NumberedLaws.{find_below, risen}
use Rattle.round_model.specs.Held.{HeldState, answers_of, floor, held_code, highest, usable, with_code}
use Rattle.round_model.specs.Numbered.{find, last, rises}
use Rattle.round_model.specs.declared.answer.Answer.{Answer}
use Rattle.tier_laws.proofs.Lists.ItemsByIndex.{some_of, tier_sym}
use Rattle.tier_laws.proofs.Rounds.DecidedRounds.{held_right}
use Rattle.round_model.specs.Lists.{and_then, concat, each, half, is_nil, is_some, odd}
use Rattle.round_model.specs.Service.{Service}
use Rattle.round_model.specs.Tables.{pending_of, Parked, Tables, fresh_pending, if_fresh, is_fresh}
use Rattle.round_model.specs.Verdicts.{claims_in, verdict}
use Rattle.run_model.specs.World.{Config}
use Rattle.server_model.specs.Server.{same_tier}
use Rattle.tier_laws.proofs.Lists.ItemsByIndex.{get_cases, take_get}
use Rattle.tier_laws.proofs.Rounds.DecidedRounds.{every-each}
use Rattle.tier_laws.proofs.MidNodes.RightMoves.{Here, MoveOk, knows}
use Rattle.tier_laws.proofs.Events.GrowingPast.{BatchOk, FloorOk, Known, MidOk, MidOther, SentOk, Past, holds, other-more}
use Rattle.tier_laws.proofs.Rounds.StableRounds.{then_parts}
use Rattle.tier_laws.proofs.Rounds.BackedVerdicts.{usable_ok, verdict_ok}
use Rattle.aeg_base.specs.declared.names.Tier.TheVariants.{Mid as MidTier, Inv, Pay}
use Rattle.tier_laws.proofs.Events.LogPackets.{NoLog, no_log, none_nil, none_append, none_each, log_soup-own, log_soup-other, every-log}
use Rattle.run_model.specs.Runs.{log_soup}
use Rattle.run_model.proofs.Soups.{log_soup-append}
use Rattle.tier_model.specs.Mid.{Mid, calls_to}
use Rattle.log_model.specs.declared.message.PaxMsg.TheVariants.{Ask}
use Rattle.log_model.specs.declared.turn.Offering.{Offering}
use Rattle.log_model.specs.declared.turn.Offering.TheVariants.{NotLeader, NoPromises, InFlight, LogFull, Taken, Free}
use Rattle.log_model.specs.Log.{says as log_says}
use Rattle.log_model.specs.Rows.{offer_as, wants as log_wants}
use Rattle.log_model.proofs.Rows.{lead_ok}
use Rattle.log_model.proofs.Votes.{offer_ok}
use Rattle.log_model.proofs.Origin.{lead_from, offer_from}
use Rattle.log_model.proofs.Invariant.{SendOk}
use Rattle.tier_laws.proofs.MidNodes.RightMoves.{log_move, stays_ok}
use Rattle.tier_model.specs.Mid.{in_log, call_to}
use Rattle.tier_model.specs.Moves.{log_packets, idles}
use Rattle.tier_model.specs.MidRows.{leads, offers, offers_as, own_cause, have_to, settle_at, open_calls, put_parked}
use Rattle.tier_model.specs.MidRows.{by_number, again, calls_again, haves, haves_again, own_batch, own_value, retry}
use Rattle.tier_model.specs.MidRows.{settle_to}
use Rattle.tier_model.specs.Moves.{Packet, asks}

-- OWN VALUES

fresh_get : {B : Type 0} (m : Service B) (T : Tables) (o : Option Entry) (i : ℕ) (e : Entry) → slice_get (if_fresh m.programs T o) i ≡ Some e → o ≡ Some e
fresh_get m T None i e f = absurd (cc)
fresh_get m T (Some d) i e f = go (is_fresh m.programs T d) i f
  where
    go : (b : Bool) (i : ℕ) → slice_get (cond b (d ∷ []) []) i ≡ Some e → Some d ≡ Some e
    go true zero g = g
    go true (suc i) g = absurd (cc)
    go false i g = absurd (cc)

pending_get : {B : Type 0} (m : Service B) (T : Tables) (pending : List (Option Entry)) (n i : ℕ) (e : Entry)
    → slice_get (fresh_pending m.programs T pending n) i ≡ Some e → (y : ℕ) × (pending_of pending y ≡ Some e)
pending_get m T pending zero i e f = absurd (cc)
pending_get {B} m T pending (suc n) i e f = go
    (get_cases (fresh_pending m.programs T pending n) (if_fresh m.programs T (pending_of pending (suc n))) i e f)
    (λ i f. pending_get m T pending n i e f)
  where
    go : (slice_get (fresh_pending m.programs T pending n) i ≡ Some e)
        ⊎ ((j : ℕ) × (slice_get (if_fresh m.programs T (pending_of pending (suc n))) j ≡ Some e))
        → ((i : ℕ) → slice_get (fresh_pending m.programs T pending n) i ≡ Some e → (y : ℕ)
        × (pending_of pending y ≡ Some e)) → (y : ℕ) × (pending_of pending y ≡ Some e)
    go (inl g) r = r i g
    go (inr g) r = (suc n, fresh_get m T (pending_of pending (suc n)) g.0 e g.1)

batch_ok : {B : Type 0} (c : Config B) (P : Past B) (h : ℕ → List (LogFact AnyValue)) (soup : List Packet) (x : ℕ)
    (σ : Mid) (v : AnyValue) → Here c P h soup x σ → odd (open_at σ.log) ≡ false
    → own_batch c.service.programs σ (half (open_at σ.log)) ≡ Some v → MidOk c P (open_at σ.log) v
batch_ok {B} c P h soup x σ v k o e = go (nat_lt σ.applied (half (open_at σ.log)))
    (is_nil (fresh_pending c.service.programs σ.tables σ.pending 16) && is_nil (concat σ.tables.queue)) e
  where
    entries : BatchOk P (take 8 (fresh_pending c.service.programs σ.tables σ.pending 16))
    entries i d f = let q = pending_get c.service σ.tables σ.pending 16 i d
        (take_get 8 (fresh_pending c.service.programs σ.tables σ.pending 16) i d f) in k.other.pending q.0 d q.1

    go : (a b : Bool) → cond a None
        (cond b None (Some (OfMid (Batch (take 8 (fresh_pending c.service.programs σ.tables σ.pending 16)))))) ≡ Some v
        → MidOk c P (open_at σ.log) v
    go true b f = absurd (cc)
    go false true f = absurd (cc)
    go false false f = let s : OfMid (Batch (take 8 (fresh_pending c.service.programs σ.tables σ.pending 16)))
        ≡ v = cc in subst (MidOk c P (open_at σ.log)) s (o, entries)

pub own_ok : {B : Type 0} (c : Config B) (P : Past B) (h : ℕ → List (LogFact AnyValue)) (soup : List Packet) (x : ℕ)
    (σ : Mid) (v : AnyValue) → Here c P h soup x σ → own_value c.u c.service.programs σ ≡ Some v → MidOk c P (open_at σ.log) v
own_ok {B} c P h soup x σ v k e = go (odd (open_at σ.log)) refl e
  where
    go : (b : Bool) → odd (open_at σ.log) ≡ b
        → cond b (and_then (verdict c.u (claims_in σ.tally (half (open_at σ.log)))) (λ v. Some (OfMid (Decided v))))
        (own_batch c.service.programs σ (half (open_at σ.log))) ≡ Some v → MidOk c P (open_at σ.log) v
    go true o f =
        let p = then_parts (verdict c.u (claims_in σ.tally (half (open_at σ.log)))) (λ v. Some (OfMid (Decided v))) v f in
        let s : OfMid (Decided p.0) ≡ v = let g = p.2 in cc in
        subst (MidOk c P (open_at σ.log)) s (
          o,
          verdict_ok c P (claims_in σ.tally (half (open_at σ.log))) (half (open_at σ.log)) p.0 k.known
              (record { at = k.other.tally (half (open_at σ.log)) }) p.1,
        )
    go false o f = batch_ok c P h soup x σ v k o f

-- the offer leaves what is learned
pub offer_learned : {V : Type 0} (u x : ℕ) (log : LogState V) (o : Option (Leader V)) (own : Option V) → (offer_as u x log o own).state.learned ≡ log.learned
offer_learned u x log None own = refl
offer_learned {V} u x log (Some l) own = grind arith

-- RETRY

abbrev IsCall : {B : Type 0} → Past B → Parked → Type 0
IsCall Q p = Q.server.calls p.tier p.num ≡ Some p.text

open_every : (G : Parked → Type 0) (held : HeldState) (t : Tier) (ps : List Parked) → Every G ps → Every G (open_calls held t ps)
open_every G held t [] e = tt
open_every G held t (p ∷ ps) e = cond_both (same_tier p.tier t && not (is_some (held_code held p.tier p.num)))
    (p ∷ open_calls held t ps) (open_calls held t ps) (Every G) (λ f. (e.0, open_every G held t ps e.1))
    (λ f. open_every G held t ps e.1)

put_every : (G : Parked → Type 0) (p : Parked) (ps : List Parked) → G p → Every G ps → Every G (put_parked p ps)
put_every G p [] g e = (g, tt)
put_every G p (q ∷ qs) g e = cond_both (nat_lt q.num p.num) (q ∷ put_parked p qs) (p ∷ q ∷ qs) (Every G)
    (λ f. (e.0, put_every G p qs g e.1)) (λ f. (g, (e.0, e.1)))

number_every : (G : Parked → Type 0) (ps : List Parked) → Every G ps → Every G (by_number ps)
number_every G [] e = tt
number_every G (p ∷ ps) e = put_every G p (by_number ps) e.0 (number_every G ps e.1)

calls_ok : {B : Type 0} (c : Config B) (Q : Past B) (x : ℕ) (ps : List Parked) → Every (IsCall Q) ps → Every (SentOk c Q) (calls_again c.u x ps)
calls_ok c Q x [] k = tt
calls_ok c Q x (p ∷ ps) k = every-append (SentOk c Q) (calls_to c.u x p.tier p.num p.text) (calls_again c.u x ps)
    (every-each (SentOk c Q) (2 * c.u + 1) nobody (call_to x p.tier p.num p.text) (λ y. k.0)) (calls_ok c Q x ps k.1)

calls_none : (u x : ℕ) (ps : List Parked) → NoLog (calls_again u x ps)
calls_none u x [] = none_nil
calls_none u x (p ∷ ps) = none_append (calls_to u x p.tier p.num p.text) (calls_again u x ps)
    (none_each (2 * u + 1) nobody (call_to x p.tier p.num p.text) (λ y. record { all = λ v. refl })) (calls_none u x ps)

pub drop_every : {A : Type 0} (G : A → Type 0) (n : ℕ) (xs : List A) → Every G xs → Every G (drop n xs)
drop_every G zero xs e = e
drop_every G (suc n) [] e = tt
drop_every G (suc n) (x ∷ xs) e = drop_every G n xs e.1

map_every : {A C : Type 0} (G : C → Type 0) (f : A → C) (xs : List A) → Every (λ a. G (f a)) xs → Every G (map f xs)
map_every G f [] e = tt
map_every G f (x ∷ xs) e = (e.0, map_every G f xs e.1)

pub every_from : {A : Type 0} (G : A → Type 0) (xs : List A) → ((i : ℕ) (a : A) → slice_get xs i ≡ Some a → G a) → Every G xs
every_from G [] k = tt
every_from G (x ∷ xs) k = (k 0 x refl, every_from G xs (λ i a e. k (suc i) a e))

-- an answer of the tier, by number and code
abbrev HaveOk : {B : Type 0} → Past B → ℕ → Tier → ℕ × ℕ → Type 0
HaveOk Q x t e = (Q.server.served t e.0 ≡ Some e.1) × (holds Q t e.0 x ≡ true)

haves_ok : {B : Type 0} (c : Config B) (Q : Past B) (x : ℕ) (t : Tier) (es : List (ℕ × ℕ)) → Every (HaveOk Q x t) es
    → Every (SentOk c Q) (haves_again c.u x t es)
haves_ok c Q x t [] k = tt
haves_ok c Q x t (e ∷ es) k = every-append (SentOk c Q) (haves c.u x t e.0 e.1) (haves_again c.u x t es)
    (every-each (SentOk c Q) (2 * c.u + 1) (is x) (have_to x t e.0 e.1) (λ y. k.0)) (haves_ok c Q x t es k.1)

haves_none : (u x : ℕ) (t : Tier) (es : List (ℕ × ℕ)) → NoLog (haves_again u x t es)
haves_none u x t [] = none_nil
haves_none u x t (e ∷ es) = none_append (haves u x t e.0 e.1) (haves_again u x t es)
    (none_each (2 * u + 1) (is x) (have_to x t e.0 e.1) (λ y. record { all = λ v. refl })) (haves_none u x t es)

-- the floor of what is held
pub floor_ok : {B : Type 0} (c : Config B) (Q : Past B) (x : ℕ) (σ : Mid) (t : Tier) → Known c Q → MidOther c Q x σ → FloorOk c Q t (floor σ.held t)
floor_ok {B} c Q x σ t k o = record {
  served = λ n a b. let q = at n a b in (q.0, (usable_ok c Q x σ t n q.0 k o q.1).0);
  many = λ n a b. let q = at n a b in (usable_ok c Q x σ t n q.0 k o q.1).1;
}
  where
    at : (n : ℕ) → 0 < n → n < floor σ.held t → (code : ℕ) × (usable σ.held t n ≡ Some code)
    at n a b = some_of (usable σ.held t n) (floor_usable σ.held t n (omega arith) b)

settle_ok : {B : Type 0} (c : Config B) (Q : Past B) (x : ℕ) (t : Tier) (g : ℕ) → FloorOk c Q t g → Every (SentOk c Q) (settle_to c.u x t g)
settle_ok c Q x t g k = cond_both (nat_lt 1 g) (each (2 * c.u + 1) nobody (settle_at x t g)) [] (Every (SentOk c Q))
    (λ e. every-each (SentOk c Q) (2 * c.u + 1) nobody (settle_at x t g) (λ y. k)) (λ e. tt)

settle_none : (u x : ℕ) (t : Tier) (g : ℕ) → NoLog (settle_to u x t g)
settle_none u x t g = cond_both (nat_lt 1 g) (each (2 * u + 1) nobody (settle_at x t g)) [] NoLog
    (λ e. none_each (2 * u + 1) nobody (settle_at x t g) (λ y. record { all = λ v. refl })) (λ e. none_nil)

-- each entry of a table in order is found
find_at : {A : Type 0} (m : ℕ) (es : List (ℕ × A)) (i : ℕ) (e : ℕ × A) → rises m es ≡ true → slice_get es i ≡ Some e → find es e.0 ≡ Some e.1
find_at m [] i e h f = absurd (cc)
find_at {A} m (d ∷ es) zero e h f =
    let s : d ≡ e = cc in
    subst (λ (z : ℕ × A). find (d ∷ es) z.0 ≡ Some z.1) s (cond-true (d.0 == d.0) (Some d.1) (find es d.0) (eq-eqb d.0 d.0 refl))
find_at {A} m (d ∷ es) (suc i) e h f = go (d.0 == e.0) refl (find_at (suc d.0) es i e (risen m d es h).rest f)
  where
    go : (b : Bool) → (d.0 == e.0) ≡ b → find es e.0 ≡ Some e.1 → cond b (Some d.1) (find es e.0) ≡ Some e.1
    go true g r =
        let none : find es d.0 ≡ None = find_below (suc d.0) es d.0 (risen m d es h).rest (omega arith) in
        absurd (let k : find es e.0 ≡ None = subst (λ z. find es z ≡ None) (eqb-true d.0 e.0 g) none in cc)
    go false g r = r

pub entries : {A : Type 0} (m : ℕ) (es : List (ℕ × A)) → rises m es ≡ true → Every (λ (e : ℕ × A). find es e.0 ≡ Some e.1) es
entries m es h = every_from (λ e. find es e.0 ≡ Some e.1) es (λ i e f. find_at m es i e h f)

held_have : {B : Type 0} (c : Config B) (Q : Past B) (x : ℕ) (σ : Mid) (t : Tier) → Known c Q → MidOther c Q x σ → Every (HaveOk Q x t) (highest σ.held t)
held_have {B} c Q x σ t k o = map_every (HaveOk Q x t) with_code (last 16 (answers_of σ.held t))
    (drop_every (λ e. HaveOk Q x t (with_code e)) (length (answers_of σ.held t) - 16) (answers_of σ.held t)
    (every-weaker (λ (e : ℕ × Answer). find (answers_of σ.held t) e.0 ≡ Some e.1) (λ e. HaveOk Q x t (with_code e)) have
    (answers_of σ.held t) (entries 0 (answers_of σ.held t) (in_order σ.held t o.held.in_order))))
  where
    have : (e : ℕ × Answer) → find (answers_of σ.held t) e.0 ≡ Some e.1 → HaveOk Q x t (with_code e)
    have e f =
        let g : held_code σ.held t e.0 ≡ Some e.1.code = ap (λ z. and_then z (λ (q : Answer). Some q.code)) f in
        ((held_right c Q x σ k o).at t e.0 e.1.code g, ap is_some (sym (o.held.codes t e.0)) ∙ ap is_some g)

again_ok : {B : Type 0} (c : Config B) (Q : Past B) (x : ℕ) (σ : Mid) → Known c Q → MidOther c Q x σ → Every (SentOk c Q) (again c.u x σ)
again_ok c Q x σ k o =
    every-append (SentOk c Q) (calls_again c.u x (by_number (open_calls σ.held Inv (concat σ.tables.queue)))) _
    (calls_ok c Q x (by_number (open_calls σ.held Inv (concat σ.tables.queue)))
    (number_every (IsCall Q) (open_calls σ.held Inv (concat σ.tables.queue))
    (open_every (IsCall Q) σ.held Inv (concat σ.tables.queue) (every_from (IsCall Q) (concat σ.tables.queue) o.tables.parked))))
    (every-append (SentOk c Q) (calls_again c.u x (by_number (open_calls σ.held Pay (concat σ.tables.queue)))) _
    (calls_ok c Q x (by_number (open_calls σ.held Pay (concat σ.tables.queue)))
    (number_every (IsCall Q) (open_calls σ.held Pay (concat σ.tables.queue))
    (open_every (IsCall Q) σ.held Pay (concat σ.tables.queue) (every_from (IsCall Q) (concat σ.tables.queue) o.tables.parked))))
    (every-append (SentOk c Q) (haves_again c.u x Inv (highest σ.held Inv)) _ (haves_ok c Q x Inv (highest σ.held Inv) (held_have c Q x σ Inv k o))
    (every-append (SentOk c Q) (haves_again c.u x Pay (highest σ.held Pay)) _ (haves_ok c Q x Pay (highest σ.held Pay) (held_have c Q x σ Pay k o))
    (every-append (SentOk c Q) (settle_to c.u x Inv (floor σ.held Inv)) _
    (settle_ok c Q x Inv (floor σ.held Inv) (floor_ok c Q x σ Inv k o))
    (settle_ok c Q x Pay (floor σ.held Pay) (floor_ok c Q x σ Pay k o))))))

again_none : (u x : ℕ) (σ : Mid) → NoLog (again u x σ)
again_none u x σ =
    none_append (calls_again u x (by_number (open_calls σ.held Inv (concat σ.tables.queue)))) _
    (calls_none u x (by_number (open_calls σ.held Inv (concat σ.tables.queue))))
    (none_append (calls_again u x (by_number (open_calls σ.held Pay (concat σ.tables.queue)))) _
    (calls_none u x (by_number (open_calls σ.held Pay (concat σ.tables.queue))))
    (none_append (haves_again u x Inv (highest σ.held Inv)) _ (haves_none u x Inv (highest σ.held Inv))
    (none_append (haves_again u x Pay (highest σ.held Pay)) _ (haves_none u x Pay (highest σ.held Pay))
    (none_append (settle_to u x Inv (floor σ.held Inv)) _ (settle_none u x Inv (floor σ.held Inv)) (settle_none u x Pay (floor σ.held Pay))))))

pub retry_ok : {B : Type 0} (c : Config B) (P : Past B) (h : ℕ → List (LogFact AnyValue)) (soup : List Packet) (x : ℕ)
    (σ : Mid) → Here c P h soup x σ → MoveOk c P h soup x [] (retry c.u x σ)
retry_ok {B} c P h soup x σ k = record {
  turn = log_says σ.log (asks c.u x (open_at σ.log));
  turn_ok = still c.u h (log_soup MidTier soup) x σ.log σ.log (asks c.u x (open_at σ.log)) None (knows c P h soup x σ k)
      k.log (λ g same m. every-each (SendOk c.u g (log_soup MidTier soup) x) (2 * c.u + 1) (is x)
      (λ y. (y, Ask (open_at σ.log))) (λ y. tt));
  good = λ p b w d. k.good x k.inside p b w d;
  is_facts = refl;
  is_sends = log_soup-append MidTier (log_packets MidTier x (asks c.u x (open_at σ.log))) (again c.u x σ)
      ∙ ap (λ z. log_soup MidTier (log_packets MidTier x (asks c.u x (open_at σ.log))) ++ z)
      (no_log _ (again_none c.u x σ) MidTier)
      ∙ append-nil (log_soup MidTier (log_packets MidTier x (asks c.u x (open_at σ.log))))
      ∙ log_soup-own MidTier x (asks c.u x (open_at σ.log));
  is_log = refl;
  others = λ v e. log_soup-append v (log_packets MidTier x (asks c.u x (open_at σ.log))) (again c.u x σ)
      ∙ ap (λ z. z ++ log_soup v (again c.u x σ))
      (log_soup-other v MidTier x (asks c.u x (open_at σ.log)) (tier_sym v MidTier e)) ∙ no_log _ (again_none c.u x σ) v;
  codes = λ i q e. absurd (cc);
  runs = λ i r e. absurd (cc);
  later = λ Q g kn e rs.
      let o : MidOther c Q x σ = other-more c P Q x σ g (e ∙ append-nil (P.codes MidTier x)) k.other in
      record {
        other = o;
        sends = every-append (SentOk c Q) (log_packets MidTier x (asks c.u x (open_at σ.log)))
            (again c.u x σ) (every-log c Q MidTier x (asks c.u x (open_at σ.log))) (again_ok c Q x σ kn o);
      };
}

-- LEADING AND OFFERING

pub leads_ok : {B : Type 0} (c : Config B) (P : Past B) (h : ℕ → List (LogFact AnyValue)) (soup : List Packet) (x : ℕ)
    (σ : Mid) → Here c P h soup x σ → MoveOk c P h soup x [] (leads c.u c.service.programs x σ)
leads_ok c P h soup x σ k = log_move c P h soup x σ (lead c.u x σ.log) None k
    (lead_ok c.u h (log_soup MidTier soup) x σ.log (knows c P h soup x σ k)) (lead_from c.u h x σ.log k.inside) (λ v e. absurd (cc))

pub offers_ok : {B : Type 0} (c : Config B) (P : Past B) (h : ℕ → List (LogFact AnyValue)) (soup : List Packet) (x : ℕ)
    (σ : Mid) → Here c P h soup x σ → MoveOk c P h soup x [] (offers c.u c.service.programs x σ)
offers_ok {B} c P h soup x σ k = go (log_wants c.u σ.log)
  where
    offered : MoveOk c P h soup x [] (in_log c.u c.service.programs x σ (offer c.u x σ.log (own_value c.u c.service.programs σ)))
    offered = log_move c P h soup x σ (offer c.u x σ.log (own_value c.u c.service.programs σ))
        (own_value c.u c.service.programs σ) k
        (offer_ok c.u h (log_soup MidTier soup) x σ.log σ.log.leader (own_value c.u c.service.programs σ)
        (knows c P h soup x σ k) k.log.leader)
        (offer_from c.u h x σ.log σ.log.leader (own_value c.u c.service.programs σ) k.inside k.log.leader)
        (λ v e. subst (λ z. MidOk c P (length z) v)
        (sym (offer_learned c.u x σ.log σ.log.leader (own_value c.u c.service.programs σ))) (own_ok c P h soup x σ v k e))

    go : (o : Offering) → MoveOk c P h soup x [] (offers_as c.u c.service.programs x σ o)
    go NotLeader = stays_ok c P h soup x σ k
    go (NoPromises have) = stays_ok c P h soup x σ k
    go (InFlight p) = stays_ok c P h soup x σ k
    go LogFull = stays_ok c P h soup x σ k
    go Taken = offered
    go (Free p) = cond_both (is_some (own_value c.u c.service.programs σ))
        (in_log c.u c.service.programs x σ (offer c.u x σ.log (own_value c.u c.service.programs σ)))
        (idles σ (own_cause c.u σ)) (MoveOk c P h soup x []) (λ e. offered) (λ e. stays_ok c P h soup x σ k)
