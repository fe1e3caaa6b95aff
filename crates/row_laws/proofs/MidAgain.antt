-- What a middle node tells again, and what a restart restores.
use Rattle.std.proofs.Common.{◌≡◌, ℕ, zero, suc, ◌+◌, ◌-◌, ◌*◌, ◌<◌, ◌≤◌, ◌^◌, Bool, true, false, cond, List, [], ◌∷◌, ◌++◌, length, length-append}
use Rattle.std.proofs.Common.{map, replicate, refl, sym, ap, ◌∙◌, subst, arith, Option, Some, None}
use Rattle.std.specs.Prelude.{nat_lt, ◌&&◌, not, IfSome}
use Rattle.std.specs.List.{All}
use Rattle.std.proofs.lemmas.Bool.{cond_both}
use Rattle.std.proofs.lemmas.List.{length-map}
use Rattle.std.proofs.lemmas.List.Elements.{All-nil, All-cons, All-head, All-tail}
use Rattle.aeg_base.specs.declared.names.Tier.{Tier}
use Rattle.aeg_base.specs.declared.names.Tier.TheVariants.{Mid as InMid, Inv, Pay}
use Rattle.aeg_base.specs.declared.limits.TheConstants.{LAST_SEQ}
use Rattle.aeg_base.proofs.StoreLaws.{value_at-empty}
use Rattle.server_model.specs.Server.{same_tier}
use Rattle.log_model.specs.Log.{open_at}
use Rattle.log_model.specs.Recover.{newest, recover}
use Rattle.log_model.proofs.Basics.{Every}
use Rattle.log_values.specs.declared.entry.Entry.{Entry}
use Rattle.log_values.specs.declared.fact.Fact.{Fact}
use Rattle.log_values.specs.Fields.{IsText}
use Rattle.log_values.specs.Values.{FitsEntry}
use Rattle.tier_model.specs.declared.turn.Turn.TheVariants.{Did}
use Rattle.fact_journal.specs.Fitting.{Fit, all_facts, open_after_all}
use Rattle.round_model.specs.declared.answer.Answer.{Answer}
use Rattle.round_model.specs.Lists.{is_some, concat, at}
use Rattle.round_model.specs.Numbered.{last}
use Rattle.round_model.specs.Service.{Service, Programs}
use Rattle.round_model.specs.Tables.{Parked, Tables, tables0}
use Rattle.round_model.specs.Held.{HeldState, answers_of, held_code, with_code, floor, highest}
use Rattle.round_model.proofs.HeldLaws.{floor_most}
use Rattle.pipeline.specs.Kept.{IsWaiting, owner}
use Rattle.pipeline.proofs.Clients.{at_most_16}
use Rattle.pipeline.proofs.Moves.{first_in_range}
use Rattle.tier_laws.specs.Said.{IsStore}
use Rattle.tier_model.specs.Moves.{Packet, asks, log_packets, log_facts}
use Rattle.tier_model.specs.Mid.{Mid, Ready, ready, apply}
use Rattle.tier_model.specs.MidRows.{open_calls, put_parked, by_number, calls_again, haves_again, settle_to, again, retry, catch_up, bare, recovered}
use Rattle.row_laws.specs.Services.{IsServiceIn}
use Rattle.server_shim.specs.Ranges.{IsCode}
use Rattle.row_laws.specs.Mids.{IsParkedIn, AreTablesIn, ArePendingIn, IsAnswerIn, IsMidIn}
use Rattle.row_laws.specs.Moves.{IsTaken}
use Rattle.server_shim.proofs.Lists.{drop_in, replicate_in}
use Rattle.row_laws.proofs.Lists.{map_in}
use Rattle.row_laws.proofs.LogTurns.{both_good, asks_good, asks_few}
use Rattle.row_laws.proofs.Moving.{telling}
use Rattle.row_laws.proofs.BackMoves.{last_few}
use Rattle.row_laws.proofs.MidSends.{calls_again_good, calls_again_few, haves_again_good, haves_again_few, settles_good, settles_few}
use Rattle.row_laws.proofs.MidParts.{held_restored}
use Rattle.row_laws.proofs.MidRounds.{ready_in, apply_in}
use Rattle.row_laws.proofs.MidMoves.{IsMidMove}
use Rattle.row_laws.proofs.Restored.{log_restored, log_opens}

-- CALLS THAT WAIT

-- at most 16 requests wait
pub clients_in : (ps : List Parked) → All IsWaiting ps → All (λ (c : ℕ). (1 ≤ c) × (c ≤ 16)) (map owner ps)
clients_in [] k = All-nil (λ (c : ℕ). (1 ≤ c) × (c ≤ 16))
clients_in (p ∷ ps) k =
    let here : IsWaiting p = All-head IsWaiting p ps k in
    All-cons (λ (c : ℕ). (1 ≤ c) × (c ≤ 16)) p.client (map owner ps) (here.client_low, here.client_high) (clients_in ps (All-tail IsWaiting p ps k))

pub few_wait : (m : Programs) (depth a : ℕ) (T : Tables) → AreTablesIn m depth a T → length (concat T.queue) ≤ 16
few_wait m depth a T k = let e =
    at_most_16 (map owner (concat T.queue)) (clients_in (concat T.queue) k.rounds.requests) k.rounds.once in omega
    (arith, e, length-map (concat T.queue) owner)

pub open_in : (P : Parked → Type 0) (h : HeldState) (t : Tier) (ps : List Parked) → Every P ps → Every P (open_calls h t ps)
open_in P h t [] k = tt
open_in P h t (p ∷ ps) k = cond_both (same_tier p.tier t && not (is_some (held_code h p.tier p.num))) _ _ (Every P) (λ e. (k.0, open_in P h t ps k.1))
    (λ e. open_in P h t ps k.1)

-- a call is to one tier
one_tier : (t : Tier) (a b : Bool) → cond (same_tier t Inv && a) 1 0 + cond (same_tier t Pay && b) 1 0 ≤ 1
one_tier InMid a b = omega arith
one_tier Inv true b = omega arith
one_tier Inv false b = omega arith
one_tier Pay a true = omega arith
one_tier Pay a false = omega arith

open_length : (h : HeldState) (t : Tier) (p : Parked) (ps : List Parked)
    → length (open_calls h t (p ∷ ps)) ≡ cond (same_tier p.tier t && not (is_some (held_code h p.tier p.num))) 1 0 + length (open_calls h t ps)
open_length h t p ps = go (same_tier p.tier t && not (is_some (held_code h p.tier p.num)))
  where
    go : (b : Bool) → length (cond b (p ∷ open_calls h t ps) (open_calls h t ps)) ≡ cond b 1 0 + length (open_calls h t ps)
    go true = omega arith
    go false = omega arith

few_open : (h : HeldState) (ps : List Parked) → length (open_calls h Inv ps) + length (open_calls h Pay ps) ≤ length ps
few_open h [] = omega arith
few_open h (p ∷ ps) = omega (
  arith,
  open_length h Inv p ps,
  open_length h Pay p ps,
  few_open h ps,
  one_tier p.tier (not (is_some (held_code h p.tier p.num)))
      (not (is_some (held_code h p.tier p.num))),
)

insert_in : (P : Parked → Type 0) (p : Parked) (ps : List Parked) → P p → Every P ps → Every P (put_parked p ps)
insert_in P p [] f k = (f, tt)
insert_in P p (q ∷ qs) f k = cond_both (nat_lt q.num p.num) _ _ (Every P) (λ e. (k.0, insert_in P p qs f k.1)) (λ e. (f, k))

pub sorted_in : (P : Parked → Type 0) (ps : List Parked) → Every P ps → Every P (by_number ps)
sorted_in P [] k = tt
sorted_in P (p ∷ ps) k = insert_in P p (by_number ps) k.0 (sorted_in P ps k.1)

insert_length : (p : Parked) (ps : List Parked) → length (put_parked p ps) ≡ suc (length ps)
insert_length p [] = refl
insert_length p (q ∷ qs) = cond_both (nat_lt q.num p.num) _ _ (λ (z : List Parked). length z ≡ suc (suc (length qs))) (λ e. ap suc (insert_length p qs))
    (λ e. refl)

sorted_length : (ps : List Parked) → length (by_number ps) ≡ length ps
sorted_length [] = refl
sorted_length (p ∷ ps) = insert_length p (by_number ps) ∙ ap suc (sorted_length ps)

-- ANSWERS AND FLOORS

pub codes_in : (u x : ℕ) (h : HeldState) (t : Tier) → Every IsAnswerIn (answers_of h t) → Every IsCode (highest h t)
codes_in u x h t k = map_in IsCode with_code (last 16 (answers_of h t))
    (fewer (last 16 (answers_of h t)) (drop_in IsAnswerIn (length (answers_of h t) - 16) (answers_of h t) k))
  where
    fewer : (es : List (ℕ × Answer)) → Every IsAnswerIn es → Every (λ e. IsCode (with_code e)) es
    fewer [] k = tt
    fewer (e ∷ es) k = ((k.0.0, k.0.1.0), fewer es k.1)

pub codes_few : (h : HeldState) (t : Tier) → length (highest h t) ≤ 16
codes_few h t = omega (arith, length-map (last 16 (answers_of h t)) with_code, last_few 16 (answers_of h t))

pub floor_high : (h : HeldState) (t : Tier) → floor h t < 2 ^ 32
floor_high h t = let e = floor_most h.faults h.me (answers_of h t) in omega (arith, e)

-- RETRY

pub retry_in : {B : Type 0} (s : Service B) (u depth x : ℕ) (σ : Mid) → u ≤ 2 → x < 2 * u + 1 → IsMidIn s.programs u depth x σ
    → IsMidMove s u depth x σ (retry u x σ)
retry_in {B} s u depth x σ small l k =
    telling (IsMidIn s.programs u depth x) (λ (z : Mid). z.log) (IsTaken s u depth) InMid x σ σ (asked ++ again u x σ) Did k refl
    (both_good s u depth InMid x asked (again u x σ) (asks_good s u depth InMid x σ.log small l k.log)
    (both_good s u depth InMid x (calls Inv) _ (calls_again_good s u depth x (by_number (unheld Inv)) small l
    (sorted_in P (unheld Inv) (open_in P σ.held Inv waiting k.tables.parked)))
    (both_good s u depth InMid x (calls Pay) _ (calls_again_good s u depth x (by_number (unheld Pay)) small l
    (sorted_in P (unheld Pay) (open_in P σ.held Pay waiting k.tables.parked)))
    (both_good s u depth InMid x (told Inv) _ (haves_again_good s u depth x Inv (highest σ.held Inv) tt small l (codes_in u x σ.held Inv (k.held.answers Inv)))
    (both_good s u depth InMid x (told Pay) _ (haves_again_good s u depth x Pay (highest σ.held Pay) tt small l (codes_in u x σ.held Pay (k.held.answers Pay)))
    (both_good s u depth InMid x (floors Inv) (floors Pay) (settles_good s u depth x Inv (floor σ.held Inv) tt small l (floor_high σ.held Inv))
    (settles_good s u depth x Pay (floor σ.held Pay) tt small l (floor_high σ.held Pay))))))))
    (omega (
      arith,
      small,
      length-append asked (again u x σ),
      length-append (calls Inv) (calls Pay ++ (told Inv ++ (told Pay ++ (floors Inv ++ floors Pay)))),
      length-append (calls Pay) (told Inv ++ (told Pay ++ (floors Inv ++ floors Pay))),
      length-append (told Inv) (told Pay ++ (floors Inv ++ floors Pay)),
      length-append (told Pay) (floors Inv ++ floors Pay),
      length-append (floors Inv) (floors Pay),
      asks_few u InMid x (open_at σ.log) l,
      calls_again_few u x (by_number (unheld Inv)) small,
      calls_again_few u x (by_number (unheld Pay)) small,
      sorted_length (unheld Inv),
      sorted_length (unheld Pay),
      few_open σ.held waiting,
      few_wait s.programs depth σ.applied σ.tables k.tables,
      haves_again_few u x Inv (highest σ.held Inv) small l,
      haves_again_few u x Pay (highest σ.held Pay) small l,
      codes_few σ.held Inv,
      codes_few σ.held Pay,
      settles_few u x Inv (floor σ.held Inv),
      settles_few u x Pay (floor σ.held Pay),
    ))
  where
    P : Parked → Type 0
    P = IsParkedIn s.programs

    waiting : List Parked
    waiting = concat σ.tables.queue

    unheld : Tier → List Parked
    unheld t = open_calls σ.held t waiting

    asked : List Packet
    asked = log_packets InMid x (asks u x (open_at σ.log))

    calls : Tier → List Packet
    calls t = calls_again u x (by_number (unheld t))

    told : Tier → List Packet
    told t = haves_again u x t (highest σ.held t)

    floors : Tier → List Packet
    floors t = settle_to u x t (floor σ.held t)

-- RESTART

empty_store : IsStore (tables0 0).store
empty_store = record { keys = λ q n. absurd (n (value_at-empty q)); values = λ q. let e = value_at-empty q in omega (arith, e) }

no_lists : (depth : ℕ) → concat (tables0 depth).queue ≡ []
no_lists zero = refl
no_lists (suc n) = no_lists n

long_lists : (depth : ℕ) → length (tables0 depth).queue ≡ depth
long_lists zero = refl
long_lists (suc n) = ap suc (long_lists n)

pub first_tables : (m : Programs) (depth : ℕ) → 1 ≤ depth → AreTablesIn m depth 0 (tables0 depth)
first_tables m depth deep = record {
  store = empty_store;
  last = replicate_in (λ (seq : ℕ). seq ≤ LAST_SEQ) 17 0 (omega arith);
  kept = replicate_in (λ reply. IfSome reply IsText) 17 None tt;
  depth_is = long_lists depth;
  rounds = first_in_range (replicate depth []) (record { mid = 1; inv = 1; pay = 1 }) depth refl refl deep;
  parked = subst (Every (IsParkedIn m)) (sym (no_lists depth)) tt;
}

nobody_at : (n c : ℕ) (e : Entry) → at None (replicate n None) c ≡ Some e → ⊥
nobody_at zero c e f = cc
nobody_at (suc n) zero e f = cc
nobody_at (suc n) (suc c) e f = nobody_at n c e f

pub no_pending : ArePendingIn (replicate 17 None)
no_pending = record {
  stand = record { places = refl; stand = λ c e f. absurd (nobody_at 17 c e f) };
  fit = replicate_in (λ entry. IfSome entry FitsEntry) 17 None tt;
}

pub bare_in : {B : Type 0} (s : Service B) (u depth x : ℕ) (rs : List (List Fact)) → 1 ≤ depth → Fit InMid rs
    → IsMidIn s.programs u depth x (bare u depth x (newest rs))
bare_in s u depth x rs deep fit = record {
  log = log_restored u InMid rs fit;
  applied = omega arith;
  tables = first_tables s.programs depth deep;
  pending = no_pending;
  tally = tt;
  spec = tt;
  held = held_restored u x rs fit;
}

-- rounds are applied one after another
pub catches_up : {B : Type 0} (s : Service B) (u depth x n : ℕ) (σ : Mid) → IsServiceIn s.programs → IsMidIn s.programs u depth x σ
    → IsMidIn s.programs u depth x (catch_up s.programs n σ)
catches_up s u depth x zero σ service k = k
catches_up s u depth x (suc n) σ service k = go (ready s.programs σ) refl (λ R here. catches_up s u depth x n (apply σ R) service here)
  where
    go : (o : Option Ready) → ready s.programs σ ≡ o → ((R : Ready) → IsMidIn s.programs u depth x (apply σ R) → IsMidIn s.programs u depth x
        (catch_up s.programs n (apply σ R)))
        → IsMidIn s.programs u depth x (elim o [ None ↦ σ | Some R ↦ catch_up s.programs n (apply σ R) ])
    go None e rest = k
    go (Some R) e rest = rest R (apply_in s u depth x σ R k (ready_in s u depth x σ R service k e))

-- what is left where a round can't be applied, and where it can
abbrev next_left : Programs → ℕ → Mid → Option Ready → Mid
next_left m n σ o = elim o [ None ↦ σ | Some R ↦ catch_up m n (apply σ R) ]

pub catching_log : (m : Programs) (n : ℕ) (σ : Mid) → (catch_up m n σ).log ≡ σ.log
catching_log m zero σ = refl
catching_log m (suc n) σ = go (ready m σ) (λ R. catching_log m n (apply σ R))
  where
    go : (o : Option Ready) → ((R : Ready) → (catch_up m n (apply σ R)).log ≡ σ.log) → (next_left m n σ o).log ≡ σ.log
    go None rest = refl
    go (Some R) rest = rest R

pub recovered_in : {B : Type 0} (s : Service B) (u depth x : ℕ) (rs : List (List Fact)) → 1 ≤ depth → IsServiceIn s.programs → Fit InMid rs
    → IsMidIn s.programs u depth x (recovered u s.programs depth x (newest rs))
recovered_in s u depth x rs deep service fit =
    catches_up s u depth x (length (recover u (log_facts (newest rs))).learned) (bare u depth x (newest rs)) service (bare_in s u depth x rs deep fit)

pub recovered_opens : (m : Programs) (u depth x : ℕ) (rs : List (List Fact)) → open_at (recovered u m depth x (newest rs)).log ≡ open_after_all 0 (all_facts rs)
recovered_opens m u depth x rs = ap open_at (catching_log m (length (recover u (log_facts (newest rs))).learned) (bare u depth x (newest rs))) ∙ log_opens u rs
