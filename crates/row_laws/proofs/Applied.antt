-- The tables after a round are in range.
use Rattle.std.proofs.Common.{◌≡◌, ℕ, suc, ◌+◌, ◌<◌, ◌≤◌, List, [], ◌∷◌, ◌++◌, length, length-append, sym, ◌∙◌, subst, arith, Option, Some, None}
use Rattle.std.specs.Prelude.{nat_le, IfSome}
use Rattle.std.proofs.lemmas.Bool.{cond_both}
use Rattle.aeg_base.specs.declared.limits.TheConstants.{LAST_SEQ}
use Rattle.aeg_base.specs.declared.names.Tier.{Tier}
use Rattle.svc_api.specs.declared.action.Ending.{Ending}
use Rattle.svc_api.specs.declared.action.Ending.TheVariants.{Reply, Call}
use Rattle.log_model.proofs.Basics.{Every, every-append}
use Rattle.log_values.specs.declared.entry.Entry.{Entry}
use Rattle.log_values.specs.Fields.{IsText, IsCallNumber}
use Rattle.log_values.specs.Values.{FitsEntry}
use Rattle.round_model.specs.Lists.{OfTiers, of_tier, concat, head_of, tail_of, put_at}
use Rattle.round_model.specs.Service.{Service, Programs, Finish}
use Rattle.round_model.specs.Tables.{Parked, Tables, Want, wants, fresh_entries, bump, parks, next_after, last_after, kept_by, kept_after, settled}
use Rattle.round_model.specs.Tables.{not_done, drop_done}
use Rattle.pipeline.specs.Kept.{IsInRange}
use Rattle.pipeline.proofs.Moves.{moved_in_range}
use Rattle.pipeline.proofs.Rising.{next_low, next_high, rise_ends}
use Rattle.pipeline.proofs.Wants.{concat-head, concat-push}
use Rattle.batcher.proofs.Dropping.{left_stands}
use Rattle.row_laws.specs.Mids.{IsParkedIn, AreTablesIn, ArePendingIn, rounds_in}
use Rattle.row_laws.proofs.Lists.{every_right, put_at_in}
use Rattle.row_laws.proofs.Wanted.{who_wants, IsWantIn, some_there, are_fresh, wants_few}
use Rattle.row_laws.proofs.Finishes.{IsEndIn, AreEndsIn, ends_length, IsFinishIn}

-- THE NUMBERS OF CALLS

-- each next number can be given to so many calls
pub record AreNumbersFor (n : ℕ) (next : OfTiers ℕ) : Type 0 where
  pub low : (t : Tier) → 1 ≤ of_tier next t
  pub high : (t : Tier) → of_tier next t + n ≤ 65536

pub numbers_bump : (n : ℕ) (next : OfTiers ℕ) (v : Tier) (stage : ℕ) (text : List ℕ) → AreNumbersFor (suc n) next → AreNumbersFor n (bump next v)
numbers_bump n next v stage text k = record {
  low = λ t. let e = next_low next (Call v stage text ∷ []) t in omega (arith, k.low t, e);
  high = λ t. let e = next_high next (Call v stage text ∷ []) t in omega (arith, k.high t, e);
}

pub numbers_less : (n : ℕ) (next : OfTiers ℕ) → AreNumbersFor (suc n) next → AreNumbersFor n next
numbers_less n next k = record { low = k.low; high = λ t. omega (arith, k.high t) }

pub call_number : (n : ℕ) (next : OfTiers ℕ) (t : Tier) → AreNumbersFor n next → IsCallNumber (of_tier next t)
call_number n next t k = (k.low t, omega (arith, k.high t))

-- those of a round
pub numbers_in : (m : Programs) (depth a n : ℕ) (T : Tables) → AreTablesIn m depth a T → a < 2048 → n ≤ 16 → AreNumbersFor n T.next
numbers_in m depth a n T k small few = record {
  low = λ t. rise_ends 1 (of_tier T.next t) _ (k.rounds.rise t);
  high = λ t. let e = k.rounds.few t in omega (arith, e, small, few);
}

-- WHAT IS PARKED

pub parks_in : (m : Programs) (next : OfTiers ℕ) (ws : List Want) (es : List Ending) → Every (IsWantIn m) ws → AreEndsIn m ws es
    → AreNumbersFor (length ws) next → Every (IsParkedIn m) (parks next ws es)
parks_in m next [] es k f n = tt
parks_in m next (w ∷ ws) [] k f n = absurd f
parks_in m next (w ∷ ws) (Reply text ∷ es) k f n = parks_in m next ws es k.1 f.1 (numbers_less (length ws) next n)
parks_in m next (w ∷ ws) (Call t stage text ∷ es) k f n = (
  record {
    tier = f.0.0.0;
    number = call_number (suc (length ws)) next t n;
    text = f.0.0.1.1.1;
    body = k.0.body;
    low = f.0.0.1.0;
    high = f.0.0.1.1.0;
    stage = some_there (m.table (who_wants w) w.body stage) f.0.1;
  },
  parks_in m (bump next t) ws es k.1 f.1 (numbers_bump (length ws) next t stage text n),
)

-- THE CLIENTS

last_in : (m : Programs) (ws : List Want) (last : List ℕ) → Every (IsWantIn m) ws → Every (λ (seq : ℕ). seq ≤ LAST_SEQ) last
    → Every (λ (seq : ℕ). seq ≤ LAST_SEQ) (last_after ws last)
last_in m [] last k l = l
last_in m (w ∷ ws) last k l = last_in m ws (put_at 0 last w.client w.seq) k.1
    (put_at_in (λ (seq : ℕ). seq ≤ LAST_SEQ) 0 last w.client w.seq (omega arith) l (let e = k.0.asks.seq_high in omega (arith, e)))

reply_in : (m : Programs) (w : Want) (e : Ending) → IsEndIn m w e → IfSome (kept_by e) IsText
reply_in m w (Reply text) k = k.0
reply_in m w (Call t stage text) k = tt

kept_in : (m : Programs) (ws : List Want) (es : List Ending) (kept : List (Option (List ℕ))) → AreEndsIn m ws es → Every (λ reply. IfSome reply IsText) kept
    → Every (λ reply. IfSome reply IsText) (kept_after ws es kept)
kept_in m [] es kept f l = l
kept_in m (w ∷ ws) [] kept f l = l
kept_in m (w ∷ ws) (e ∷ es) kept f l =
    kept_in m ws es (put_at None kept w.client (kept_by e)) f.1
    (put_at_in (λ reply. IfSome reply IsText) None kept w.client (kept_by e) tt l (reply_in m w e f.0))

-- THE TABLES

long_tail : {A : Type 0} (q : List (List A)) (g : List A) → 1 ≤ length q → length (tail_of q ++ g ∷ []) ≡ length q
long_tail [] g h = absurd (omega arith)
long_tail (x ∷ q) g h = omega (arith, length-append q (g ∷ []))

pub settled_in : {B : Type 0} (s : Service B) (depth a : ℕ) (T : Tables) (batch : List Entry) (o : Finish) → AreTablesIn s.programs depth a T → a < 2048
    → Every (IsWantIn s.programs) (wants s.programs T batch) → IsFinishIn s.programs (wants s.programs T batch) o
    → AreTablesIn s.programs depth (suc a) (settled T (wants s.programs T batch) o)
settled_in s depth a T batch o k small ask f =
    let ws : List Want = wants s.programs T batch in
    let few : length ws ≤ 16 = wants_few s depth a T batch k in
    let new : List Parked = parks T.next ws o.ends in
    let old : List Parked = concat (tail_of T.queue) in
    let queue : concat (tail_of T.queue ++ new ∷ []) ≡ old ++ new = concat-push (tail_of T.queue) new in
    let moved = moved_in_range (rounds_in a T) (fresh_entries s.programs T batch) o.ends k.rounds (are_fresh s a T batch) small
    (ends_length s.programs ws o.ends f.ends) in
    let one : a + 1 ≡ suc a = omega arith in
    record {
      store = f.store;
      last = last_in s.programs ws T.last ask k.last;
      kept = kept_in s.programs ws o.ends T.kept f.ends k.kept;
      depth_is = long_tail T.queue new k.rounds.deep ∙ k.depth_is;
      rounds = subst (λ (n : ℕ). IsInRange (record { next = n; queue = tail_of T.queue ++ new ∷ []; numbers = next_after T.next o.ends })) one moved;
      parked = subst (Every (IsParkedIn s.programs)) (sym queue) (every-append (IsParkedIn s.programs) old new
          (every_right (IsParkedIn s.programs) (head_of T.queue) old (subst (Every (IsParkedIn s.programs)) (concat-head T.queue) k.parked))
          (parks_in s.programs T.next ws o.ends ask f.ends (numbers_in s.programs depth a (length ws) T k small few)));
    }

-- PENDING ENTRIES

not_done_in : (n : ℕ) (o : Option Entry) → IfSome o FitsEntry → IfSome (not_done n o) FitsEntry
not_done_in n None k = k
not_done_in n (Some e) k = cond_both (nat_le e.seq n) None (Some e) (λ o. IfSome o FitsEntry) (λ t. tt) (λ t. k)

left_fit : (last : List ℕ) (pending : List (Option Entry)) → Every (λ entry. IfSome entry FitsEntry) pending
    → Every (λ entry. IfSome entry FitsEntry) (drop_done last pending)
left_fit last [] k = tt
left_fit [] (o ∷ pending) k = (not_done_in 0 o k.0, left_fit [] pending k.1)
left_fit (n ∷ last) (o ∷ pending) k = (not_done_in n o k.0, left_fit last pending k.1)

pub left_in : (last : List ℕ) (pending : List (Option Entry)) → ArePendingIn pending → ArePendingIn (drop_done last pending)
left_in last pending k = record { stand = left_stands last pending k.stand; fit = left_fit last pending k.fit }
