-- What a backend node does in an event is right by itself.
pub use Rattle.tier_laws.proofs.Invariant.BackendNodes.{Tied, BackOther}
use Rattle.std.proofs.Common.{◌≡◌, ℕ, ◌+◌, ◌*◌, ◌<◌, false, List, [], ◌∷◌, refl, sym, ap, ◌∙◌, subst, inl, inr, Option}
use Rattle.std.proofs.Common.{Some, None, zero, suc, get_or, set, arith}
use Rattle.std.specs.Prelude.{slice_get, slice_set, ◌⊎◌, ◌==◌, nat_lt, take}
use Rattle.std.proofs.lemmas.Bool.{cond_both, cond-true, cond-false, cases_eq, eq-eqb, ne_eqb}
use Rattle.aeg_base.specs.declared.names.Ballot.{Ballot}
use Rattle.aeg_base.specs.declared.names.Tier.{Tier}
use Rattle.log_model.proofs.Basics.{Every}
use Rattle.log_model.proofs.History.{DidVote}
use Rattle.log_model.proofs.Invariant.{History, StateOk, TurnOk}
use Rattle.log_model.proofs.Rows.{Known as Knows, idle_ok}
use Rattle.log_model.specs.Log.{LogState, Turn, idles as log_idles}
use Rattle.log_model.specs.Recover.{onto}
use Rattle.log_model.specs.declared.fact.Fact.{Fact as LogFact}
use Rattle.log_values.specs.declared.any_value.AnyValue.{AnyValue}
use Rattle.log_values.specs.declared.any_value.AnyValue.TheVariants.{Back as OfBack}
use Rattle.log_values.specs.declared.back_value.BackValue.TheVariants.{Call as Called, Settle as Settled}
use Rattle.round_model.proofs.NumberedLaws.{find_put, rises_put}
use Rattle.round_model.specs.Lists.{is_some}
use Rattle.round_model.specs.Numbered.{rises, find, put}
use Rattle.round_model.specs.Service.{Backend}
use Rattle.round_model.specs.Shims.{ShimState, copies_at, copies_or_none, copy_of, floor_at, notes, rises_to, told_floor, with_copy}
use Rattle.run_model.specs.Histories.{back_run}
use Rattle.run_model.specs.World.{Config}
use Rattle.server_model.specs.Server.{same_tier}
use Rattle.tier_laws.proofs.Events.OneTiersLog.{Complete}
use Rattle.tier_laws.proofs.Events.GrowingPast.{BackOk, FloorOk, Grows, SentOk, Past, floor-more}
use Rattle.aeg_base.specs.declared.names.Tier.TheVariants.{Mid as MidTier}
use Rattle.tier_model.specs.declared.turn.Turn.{Turn as Answer}
use Rattle.tier_model.specs.declared.turn.Idle.TheVariants as why
use Rattle.tier_laws.proofs.MidNodes.CodesOfFacts.{helds}
use Rattle.tier_laws.proofs.Events.LogPackets.{NoLog, no_log, none_nil}
use Rattle.run_model.specs.Runs.{log_soup}
use Rattle.tier_model.specs.Back.{Back}
use Rattle.log_model.specs.declared.turn.LogIdle.TheVariants.{Nothing}
use Rattle.log_model.specs.World.{packets_of}
use Rattle.tier_model.specs.Back.{answer_to}
use Rattle.tier_model.specs.BackRows.{copied, notes_copy, call_as, on_call, on_settle}
use Rattle.tier_model.specs.Moves.{Move, Packet, log_facts, idles, becomes}

-- TABLES BY NUMBER

pub put-here : {A : Type 0} (es : List (ℕ × A)) (n : ℕ) (a : A) → find (put es n a) n ≡ Some a
put-here es n a = find_put es n a n ∙ cond-true (n == n) (Some a) (find es n) (eq-eqb n n refl)

pub put-there : {A : Type 0} (es : List (ℕ × A)) (n : ℕ) (a : A) (k : ℕ) → (k ≡ n → ⊥) → find (put es n a) k ≡ find es k
put-there es n a k e = find_put es n a k ∙ cond-false (n == k) (Some a) (find es k) (ne_eqb n k (λ f. e (sym f)))

-- what is found after a number has got something is what it has got, or was found before
pub put-cases : {A : Type 0} (es : List (ℕ × A)) (n : ℕ) (a : A) (k : ℕ) (b : A) → find (put es n a) k ≡ Some b → (find es k ≡ Some b) ⊎ ((n ≡ k) × (a ≡ b))
put-cases {A} es n a k b e = go (cases_eq k n)
  where
    go : (k ≡ n) ⊎ (k ≡ n → ⊥) → (find es k ≡ Some b) ⊎ ((n ≡ k) × (a ≡ b))
    go (inl f) = let s : Some a ≡ Some b = sym (put-here es n a) ∙ ap (find (put es n a)) (sym f) ∙ e in inr (sym f, cc)
    go (inr f) = inl (sym (put-there es n a k f) ∙ e)

-- an item of a list with another item at one index is that one or an old one
set-either : {A : Type 0} (G : A → Type 0) (xs : List A) (i : ℕ) (a : A) (j : ℕ) (d : A) → G a → G (get_or xs j d) → G (get_or (set xs i a) j d)
set-either G [] i a j d new old = old
set-either G (x ∷ xs) zero a zero d new old = new
set-either G (x ∷ xs) zero a (suc j) d new old = old
set-either G (x ∷ xs) (suc i) a zero d new old = old
set-either G (x ∷ xs) (suc i) a (suc j) d new old = set-either G xs i a j d new old

-- THE STATE BESIDE THE LOG

pub back_other-more : {B : Type 0} (c : Config B) (P Q : Past B) (t : Tier) (σ : Back B) → Grows P Q → BackOther c P t σ → BackOther c Q t σ
back_other-more c P Q t σ g k = record {
  faults = k.faults;
  copies = λ n y text e. g.kept.calls t n text (k.copies n y text e);
  in_order = k.in_order;
  floors = λ y. floor-more c P Q t (floor_at σ.shim.floors y) g (k.floors y);
  kept = λ n code e. g.kept.served t n code (k.kept n code e);
}

-- what is known of the tier's chosen log
pub record BackKnown {B : Type 0} (c : Config B) (P : Past B) (t : Tier) (vs : List AnyValue) : Type 0 where
  pub served : (n : ℕ) → P.server.served t n ≡ (back_run (c.service.backend t) vs).code n
  pub settles : (i g n : ℕ) → slice_get vs i ≡ Some (OfBack (Settled g)) → 0 < n → n < g
      → (code : ℕ) × ((back_run (c.service.backend t) (take i vs)).code n ≡ Some code)
  pub positive : (i n : ℕ) (text : List ℕ) → slice_get vs i ≡ Some (OfBack (Called n text)) → 0 < n

pub record BackMoveOk {B : Type 0} (c : Config B) (P : Past B) (t : Tier) (h : ℕ → List (LogFact AnyValue))
    (soup : List Packet) (x : ℕ) (v : Move (Back B)) : Type 0 where
  pub turn : Turn AnyValue
  pub turn_ok : TurnOk c.u h (log_soup t soup) x turn
  pub good : (p : ℕ) (b : Ballot) (w : AnyValue) → DidVote (onto turn.facts (h x)) p b w → BackOk c P t p w
  pub is_facts : log_facts v.facts ≡ turn.facts
  pub is_sends : log_soup t v.sends ≡ packets_of x turn.sends
  pub is_log : v.state.log ≡ turn.state
  pub others : (s : Tier) → same_tier s t ≡ false → log_soup s v.sends ≡ []
  pub no_codes : helds v.facts ≡ []
  pub other : BackOther c P t v.state
  pub tied : Tied (c.service.backend t) v.state.log.learned v.state
  pub sends : Every (SentOk c P) v.sends

pub record BackHere {B : Type 0} (c : Config B) (P : Past B) (t : Tier) (vs : List AnyValue) (h : ℕ
    → List (LogFact AnyValue)) (soup : List Packet) (x : ℕ) (σ : Back B) : Type 0 where
  pub few : c.u < 128
  pub backend : same_tier t MidTier ≡ false
  pub inside : x < 2 * c.u + 1
  pub history : History c.u h (log_soup t soup)
  pub log : StateOk c.u h (h x) (log_soup t soup) x σ.log
  pub good : (y : ℕ) → y < 2 * c.u + 1 → (p : ℕ) (b : Ballot) (v : AnyValue) → DidVote (h y) p b v → BackOk c P t p v
  pub complete : Complete c.u (log_soup t soup) vs
  pub other : BackOther c P t σ
  pub tied : Tied (c.service.backend t) σ.log.learned σ
  pub known : BackKnown c P t vs

pub back_knows : {B : Type 0} (c : Config B) (P : Past B) (t : Tier) (vs : List AnyValue) (h : ℕ → List (LogFact AnyValue)) (soup : List Packet)
    (x : ℕ) (σ : Back B) → BackHere c P t vs h soup x σ → Knows c.u h (log_soup t soup) x σ.log
back_knows c P t vs h soup x σ k = record { few = k.few; inside = k.inside; history = k.history; state = k.log }

-- a move beside the log
back_plain : {B : Type 0} {a : Answer} (c : Config B) (P : Past B) (t : Tier) (vs : List AnyValue) (h : ℕ → List (LogFact AnyValue)) (soup : List Packet)
    (x : ℕ) (σ τ : Back B) (ks : List Packet) → BackHere c P t vs h soup x σ → τ.log ≡ σ.log → NoLog ks → BackOther c P t τ
    → Tied (c.service.backend t) σ.log.learned τ → Every (SentOk c P) ks → BackMoveOk c P t h soup x (record { state = τ; facts = []; sends = ks; answer = a })
back_plain c P t vs h soup x σ τ ks k l n o e s = record {
  turn = log_idles σ.log Nothing;
  turn_ok = idle_ok c.u h (log_soup t soup) x σ.log Nothing (back_knows c P t vs h soup x σ k);
  good = λ p b w d. k.good x k.inside p b w d;
  is_facts = refl;
  is_sends = no_log ks n t;
  is_log = l;
  others = λ w f. no_log ks n w;
  no_codes = refl;
  other = o;
  tied = subst (λ (z : LogState AnyValue). Tied (c.service.backend t) z.learned τ) (sym l) e;
  sends = s;
}

pub back_stays : {B : Type 0} {a : Answer} (c : Config B) (P : Past B) (t : Tier) (vs : List AnyValue) (h : ℕ → List (LogFact AnyValue)) (soup : List Packet)
    (x : ℕ) (σ : Back B) → BackHere c P t vs h soup x σ → BackMoveOk c P t h soup x (record { state = σ; facts = []; sends = []; answer = a })
back_stays c P t vs h soup x σ k = back_plain c P t vs h soup x σ σ [] k refl none_nil k.other k.tied tt

-- a node with another shim, whose answers and floor are the same
reshim : {B : Type 0} (b : Backend B) (vs : List AnyValue) (σ : Back B) (s : ShimState) → s.kept ≡ σ.shim.kept → s.floor ≡ σ.shim.floor
    → Tied b vs σ → Tied b vs (record σ { shim = s })
reshim {B} b vs σ s e f k = record {
  state = k.state;
  codes = λ n code q. codes n code (k.codes n code q);
  kept = λ n code q. k.kept n code (sym (found n) ∙ q);
  floor = λ n l q. k.floor n l (omega (arith, f));
  greatest = f ∙ k.greatest;
  above = λ n code q. omega (arith, f, k.above n code (sym (found n) ∙ q));
  in_order = ap (rises 0) e ∙ k.in_order;
}
  where
    found : (n : ℕ) → find s.kept n ≡ find σ.shim.kept n
    found n = ap (λ z. find z n) e

    codes : (n code : ℕ) → (n < σ.shim.floor) ⊎ (find σ.shim.kept n ≡ Some code) → (n < s.floor) ⊎ (find s.kept n ≡ Some code)
    codes n code (inl l) = inl (omega (arith, f))
    codes n code (inr q) = inr (found n ∙ q)

-- CALLS AND FLOORS

notes_ok : {B : Type 0} (c : Config B) (P : Past B) (t : Tier) (vs : List AnyValue) (h : ℕ → List (LogFact AnyValue)) (soup : List Packet) (x : ℕ)
    (σ : Back B) (from n : ℕ) (text : List ℕ) → BackHere c P t vs h soup x σ → P.server.calls t n ≡ Some text
    → BackMoveOk c P t h soup x (notes_copy σ from n text)
notes_ok {B} c P t vs h soup x σ from n text k e =
    cond_both (is_some (copy_of (copies_at σ.shim n) from)) (idles σ why.Nothing) (becomes (copied σ from n text)) (BackMoveOk c P t h soup x)
    (λ f. back_stays c P t vs h soup x σ k)
    (λ f. back_plain c P t vs h soup x σ (copied σ from n text) [] k refl none_nil other
    (reshim (c.service.backend t) σ.log.learned σ (notes σ.shim from n text) refl refl k.tied) tt)
  where
    -- the copies of a call with one more
    row : List (Option (List ℕ))
    row = with_copy (copies_at σ.shim n) from text

    here : (y : ℕ) (copy : List ℕ) → copy_of row y ≡ Some copy → P.server.calls t n ≡ Some copy
    here y copy =
        set-either (λ o. o ≡ Some copy → P.server.calls t n ≡ Some copy) (copies_at σ.shim n) from (Some text) y None (λ g. e ∙ g) (k.other.copies n y copy)

    copies : (m y : ℕ) (copy : List ℕ) → (m ≡ n) ⊎ (m ≡ n → ⊥) → copy_of (copies_or_none (find (put σ.shim.copies n row) m)) y ≡ Some copy
        → P.server.calls t m ≡ Some copy
    copies m y copy (inl f) g =
        let at : find (put σ.shim.copies n row) m ≡ Some row = ap (find (put σ.shim.copies n row)) f ∙ put-here σ.shim.copies n row in
        ap (P.server.calls t) f ∙ here y copy (sym (ap (λ z. copy_of (copies_or_none z) y) at) ∙ g)
    copies m y copy (inr f) g = k.other.copies m y copy (sym (ap (λ z. copy_of (copies_or_none z) y) (put-there σ.shim.copies n row m f)) ∙ g)

    other : BackOther c P t (copied σ from n text)
    other = record {
      faults = k.other.faults;
      copies = λ m y copy g. copies m y copy (cases_eq m n) g;
      in_order = rises_put 0 σ.shim.copies n row (omega arith) k.other.in_order;
      floors = k.other.floors;
      kept = k.other.kept;
    }

call_as_ok : {B : Type 0} (c : Config B) (P : Past B) (t : Tier) (vs : List AnyValue) (h : ℕ → List (LogFact AnyValue)) (soup : List Packet) (x : ℕ)
    (σ : Back B) (from n : ℕ) (text : List ℕ) (o : Option ℕ) → BackHere c P t vs h soup x σ → P.server.calls t n ≡ Some text
    → ((code : ℕ) → o ≡ Some code → P.server.served t n ≡ Some code) → BackMoveOk c P t h soup x (call_as t x σ from n text o)
call_as_ok c P t vs h soup x σ from n text None k e served = notes_ok c P t vs h soup x σ from n text k e
call_as_ok c P t vs h soup x σ from n text (Some code) k e served =
    back_plain c P t vs h soup x σ σ (answer_to t x n code from ∷ []) k refl (record { all = λ v. refl }) k.other k.tied (served code refl, tt)

pub call_ok : {B : Type 0} (c : Config B) (P : Past B) (t : Tier) (vs : List AnyValue) (h : ℕ → List (LogFact AnyValue)) (soup : List Packet) (x : ℕ)
    (σ : Back B) (from n : ℕ) (text : List ℕ) → BackHere c P t vs h soup x σ → P.server.calls t n ≡ Some text
    → BackMoveOk c P t h soup x (on_call t x σ from n text)
call_ok {B} c P t vs h soup x σ from n text k e =
    cond_both (nat_lt n σ.shim.floor) (idles σ why.Nothing) (call_as t x σ from n text (find σ.shim.kept n)) (BackMoveOk c P t h soup x)
    (λ f. back_stays c P t vs h soup x σ k) (λ f. call_as_ok c P t vs h soup x σ from n text (find σ.shim.kept n) k e (k.other.kept n))

pub settle_ok : {B : Type 0} (c : Config B) (P : Past B) (t : Tier) (vs : List AnyValue) (h : ℕ → List (LogFact AnyValue)) (soup : List Packet) (x : ℕ)
    (σ : Back B) (from g : ℕ) → BackHere c P t vs h soup x σ → FloorOk c P t g → BackMoveOk c P t h soup x (on_settle σ from g)
settle_ok {B} c P t vs h soup x σ from g k f =
    cond_both (rises_to σ.shim from g) (becomes (record σ { shim = told_floor σ.shim from g })) (idles σ why.Nothing) (BackMoveOk c P t h soup x)
    (λ e. now) (λ e. back_stays c P t vs h soup x σ k)
  where
    raised : ShimState
    raised = record σ.shim { floors = slice_set σ.shim.floors from g }

    rises_ok : BackMoveOk c P t h soup x (becomes (record σ { shim = raised }))
    rises_ok = back_plain c P t vs h soup x σ (record σ { shim = raised }) [] k refl none_nil (record {
      faults = k.other.faults;
      copies = k.other.copies;
      in_order = k.other.in_order;
      floors = λ y. set-either (FloorOk c P t) σ.shim.floors from g y 0 f (k.other.floors y);
      kept = k.other.kept;
    }) (reshim (c.service.backend t) σ.log.learned σ raised refl refl k.tied) tt

    now : BackMoveOk c P t h soup x (becomes (record σ { shim = told_floor σ.shim from g }))
    now = cond_both (rises_to σ.shim from g) raised σ.shim (λ z. BackMoveOk c P t h soup x (becomes (record σ { shim = z })))
        (λ e. rises_ok) (λ e. back_stays c P t vs h soup x σ k)
