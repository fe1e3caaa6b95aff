-- The fresh entries of a batch, and the tables that the rounds keep.
use Rattle.std.proofs.Common.{◌≡◌, ℕ, suc, ◌+◌, ◌≤◌, ◌==◌, Bool, true, false, ◌&&◌, not, List, [], ◌∷◌, map, Option, Some, None, if◌then◌else◌, eqb-true}
use Rattle.std.proofs.Common.{refl, sym, subst, nat_le, arith}
use Rattle.std.specs.Prelude.{◌||◌}
use Rattle.std.specs.List.{All}
use Rattle.std.proofs.lemmas.Bool.Decides.{nat_tests}
use Rattle.std.proofs.lemmas.List.Elements.{All-nil, All-cons}
use Rattle.svc_api.specs.Orders.{mem}
use Rattle.log_values.specs.declared.entry.Entry.{Entry}
use Rattle.round_model.specs.Lists.{concat, is_some}
use Rattle.round_model.specs.Service.{Programs, Finish, is_request, times}
use Rattle.round_model.specs.Tables.{Parked, Tables, Want, fresh_entries, fresh_of, in_range, is_busy, is_fresh, last_of, parked_of, settled, wants, who_of}
use Rattle.pipeline.specs.States.{Keeps, RoundsState, moved_on, next_wants}
use Rattle.pipeline.specs.Jobs.{AreFresh, IsFree, client_of}

both : (a b : Bool) → (a && b) ≡ true → (a ≡ true) × (b ≡ true)
both true true h = (refl, refl)
both true false h = absurd (cc)
both false b h = absurd (cc)

idle : (o : Option Parked) → not (is_some o) ≡ true → o ≡ None
idle None h = refl
idle (Some p) h = absurd (cc)

-- an entry that is fresh is a request of a client none of whose requests waits
free : (m : Programs) (T : Tables) (e : Entry) → is_fresh m T e ≡ true → IsFree (concat T.queue) e
free m T e h =
    let range = both (in_range e) (is_request m (who_of e) e.body && ((e.seq == suc (last_of T.last e.client)) && not (is_busy T e.client))) h in
    let next = both (is_request m (who_of e) e.body) ((e.seq == suc (last_of T.last e.client)) && not (is_busy T e.client)) range.1 in
    let own = both (e.seq == suc (last_of T.last e.client)) (not (is_busy T e.client)) next.1 in
    let ends = both (nat_le 1 e.client && nat_le e.client 16) (nat_le e.seq 65536) range.0 in
    let client = both (nat_le 1 e.client) (nat_le e.client 16) ends.0 in
    let seq : e.seq ≡ suc (last_of T.last e.client) = eqb-true e.seq (suc (last_of T.last e.client)) own.0 in
    record {
      request = record {
        client_low = grind (arith, nat_tests, client.0);
        client_high = grind (arith, nat_tests, client.1);
        seq_low = omega arith;
        seq_high = grind (arith, nat_tests, ends.1);
      };
      idle = idle (parked_of e.client (concat T.queue)) own.1;
    }

-- what is left of an entry and those after it, by whether its client was seen, and whether it is fresh
abbrev chosen : Bool → Bool → Entry → List Entry → List Entry → List Entry
chosen seen fresh e others rest = if seen then others else if fresh then e ∷ rest else rest

abbrev AllFree : Tables → List Entry → Type 0
AllFree T es = All (IsFree (concat T.queue)) es

all_free : (m : Programs) (T : Tables) (seen : List ℕ) (es : List Entry) → AllFree T (fresh_of m T seen es)
all_free m T seen [] = All-nil (IsFree (concat T.queue))
all_free m T seen (e ∷ es) = at (mem e.client seen) (is_fresh m T e) refl (all_free m T seen es) (all_free m T (e.client ∷ seen) es)
  where
    at : (b d : Bool) → is_fresh m T e ≡ d → AllFree T (fresh_of m T seen es) → AllFree T (fresh_of m T (e.client ∷ seen) es)
        → AllFree T (chosen b d e (fresh_of m T seen es) (fresh_of m T (e.client ∷ seen) es))
    at true d f h k = h
    at false true f h k = All-cons (IsFree (concat T.queue)) e (fresh_of m T (e.client ∷ seen) es) (free m T e f) k
    at false false f h k = k

-- how often a client may come, once these were seen
abbrev may : ℕ → List ℕ → ℕ
may c seen = if mem c seen then 0 else 1

may_less : (c x : ℕ) (seen : List ℕ) → mem x seen ≡ false → (if x == c then 1 else 0) + may c (x ∷ seen) ≤ may c seen
may_less c x seen h = at (x == c) refl
  where
    at : (b : Bool) → (x == c) ≡ b → (if b then 1 else 0) + (if b || mem c seen then 0 else 1) ≤ (if mem c seen then 0 else 1)
    at true e =
        let same : x ≡ c = eqb-true x c e in
        let new : mem c seen ≡ false = subst (λ z. mem z seen ≡ false) same h in
        rw new (omega arith)
    at false e = omega arith

may_still : (c x : ℕ) (seen : List ℕ) → may c (x ∷ seen) ≤ may c seen
may_still c x seen = at (x == c) (mem c seen)
  where
    at : (b d : Bool) → (if b || d then 0 else 1) ≤ (if d then 0 else 1)
    at true true = omega arith
    at true false = omega arith
    at false d = omega arith

once_each : (m : Programs) (T : Tables) (c : ℕ) (seen : List ℕ) (es : List Entry) → times c (map client_of (fresh_of m T seen es)) ≤ may c seen
once_each m T c seen [] = omega arith
once_each m T c seen (e ∷ es) = at (mem e.client seen) (is_fresh m T e) refl (once_each m T c seen es) (once_each m T c (e.client ∷ seen) es)
  where
    at : (b d : Bool) → mem e.client seen ≡ b → times c (map client_of (fresh_of m T seen es)) ≤ may c seen
        → times c (map client_of (fresh_of m T (e.client ∷ seen) es)) ≤ may c (e.client ∷ seen)
        → times c (map client_of (chosen b d e (fresh_of m T seen es) (fresh_of m T (e.client ∷ seen) es))) ≤ may c seen
    at true d f h k = h
    at false true f h k = omega (arith, k, may_less c e.client seen f)
    at false false f h k = omega (arith, k, may_still c e.client seen)

pub fresh_ones : (m : Programs) (T : Tables) (s : RoundsState) (batch : List Entry) → s.queue ≡ T.queue → AreFresh s (fresh_entries m T batch)
fresh_ones m T s batch e = record {
  free = subst (λ q. All (IsFree (concat q)) (fresh_entries m T batch)) (sym e) (all_free m T [] batch);
  once = λ c. once_each m T c [] batch;
}

pub wants_are : (m : Programs) (T : Tables) (s : RoundsState) (r : ℕ) (batch : List Entry) → Keeps s r T
    → next_wants s (fresh_entries m T batch) ≡ wants m T batch
wants_are m T s r batch k = rw k.queue refl

pub keeps_on : (T : Tables) (s : RoundsState) (r : ℕ) (ws : List Want) (o : Finish) → Keeps s r T → Keeps (moved_on s ws o.ends) (suc r) (settled T ws o)
keeps_on T s r ws o k = record {
  next = omega (arith, k.next);
  queue = rw (k.queue, k.numbers) refl;
  numbers = rw k.numbers refl;
}
