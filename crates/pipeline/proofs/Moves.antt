-- A round's move keeps the rounds in range.
use Rattle.std.proofs.Common.{◌≡◌, ℕ, zero, suc, ◌<◌, ◌≤◌, List, [], ◌∷◌, ◌++◌, map, length, replicate, refl, sym, ap, ◌∙◌}
use Rattle.std.proofs.Common.{subst, length-append, arith}
use Rattle.std.specs.List.{All}
use Rattle.std.proofs.lemmas.List.Elements.{All-nil, All-cons, All-head, All-tail, All-append, filter-append}
use Rattle.aeg_base.specs.declared.names.Tier.{Tier}
use Rattle.aeg_base.specs.declared.names.Tier.TheVariants.{Mid, Inv, Pay}
use Rattle.svc_api.specs.declared.action.Ending.{Ending}
use Rattle.svc_api.specs.declared.action.Ending.TheVariants.{Reply, Call}
use Rattle.log_values.specs.declared.entry.Entry.{Entry}
use Rattle.round_model.specs.Lists.{OfTiers, of_tier, concat, head_of, tail_of}
use Rattle.round_model.specs.Service.{times}
use Rattle.round_model.specs.Tables.{Parked, Want, bump, next_after, parks}
use Rattle.pipeline.specs.States.{RoundsState, calling, to_tier, moved_on, next_wants}
use Rattle.pipeline.specs.Kept.{IsInRange, IsWaiting, Rise, owner}
use Rattle.pipeline.specs.Jobs.{AreFresh}
use Rattle.pipeline.proofs.Rising.{next_high, rise-append, rise-parks, rise_rest}
use Rattle.pipeline.proofs.Wants.{IsAsking, all_right, concat-head, concat-push, few_wants, one_each, owners, wanter, wants_ask}

-- WHAT IS PARKED

parks_wait : (next : OfTiers ℕ) (ws : List Want) (es : List Ending) → All IsAsking ws → All IsWaiting (parks next ws es)
parks_wait next [] es h = All-nil IsWaiting
parks_wait next (w ∷ ws) [] h = All-nil IsWaiting
parks_wait next (w ∷ ws) (Reply text ∷ es) h = parks_wait next ws es (All-tail IsAsking w ws h)
parks_wait next (w ∷ ws) (Call t stage text ∷ es) h =
    let rest : All IsWaiting (parks (bump next t) ws es) = parks_wait (bump next t) ws es (All-tail IsAsking w ws h) in
    All-cons IsWaiting
    (record { client = w.client; seq = w.seq; body = w.body; stage = stage; tier = t; num = of_tier next t; text = text })
    (parks (bump next t) ws es) (All-head IsAsking w ws h) rest

parks_once : (c : ℕ) (next : OfTiers ℕ) (ws : List Want) (es : List Ending) → times c (map owner (parks next ws es)) ≤ times c (map wanter ws)
parks_once c next [] es = omega arith
parks_once c next (w ∷ ws) [] = omega arith
parks_once c next (w ∷ ws) (Reply text ∷ es) = omega (arith, parks_once c next ws es)
parks_once c next (w ∷ ws) (Call t stage text ∷ es) = omega (arith, parks_once c (bump next t) ws es)

-- THE MOVE

length-tail : {A : Type 0} (q : List (List A)) (g : List A) → 1 ≤ length q → length (tail_of q ++ g ∷ []) ≡ length q
length-tail [] g h = absurd (omega arith)
length-tail (x ∷ q) g h = omega (arith, length-append q (g ∷ []))

calling-append : (t : Tier) (ps qs : List Parked) → calling t (ps ++ qs) ≡ calling t ps ++ calling t qs
calling-append t ps qs = filter-append (to_tier t) ps qs

-- the numbers of those that wait rise, past a round that leaves and one that comes
rise_moved : (t : Tier) (first mid last : ℕ) (head old new : List Parked) → Rise first mid (calling t (head ++ old))
    → Rise mid last (calling t new) → Rise first last (calling t (old ++ new))
rise_moved t first mid last head old new r n =
    let was : Rise first mid (calling t head ++ calling t old) = subst (Rise first mid) (calling-append t head old) r in
    let kept : Rise first mid (calling t old) = rise_rest first mid (calling t head) (calling t old) was in
    subst (Rise first last) (sym (calling-append t old new)) (rise-append first mid last (calling t old) (calling t new) kept n)

pub moved_in_range : (s : RoundsState) (fresh : List Entry) (es : List Ending) → IsInRange s → AreFresh s fresh → s.next < 2048
    → length es ≡ length (next_wants s fresh) → IsInRange (moved_on s (next_wants s fresh) es)
moved_in_range s fresh es k f lt each =
    let ws : List Want = next_wants s fresh in
    let new : List Parked = parks s.numbers ws es in
    let after : OfTiers ℕ = next_after s.numbers es in
    let head : List Parked = head_of s.queue in
    let old : List Parked = concat (tail_of s.queue) in
    let queue : concat (tail_of s.queue ++ new ∷ []) ≡ old ++ new = concat-push (tail_of s.queue) new in
    let all : concat s.queue ≡ head ++ old = concat-head s.queue in
    let waits : All IsWaiting old = all_right IsWaiting head old (subst (All IsWaiting) all k.requests) in
    let news : All IsWaiting new = parks_wait s.numbers ws es (wants_ask s fresh k f) in
    record {
      rounds = omega arith;
      deep = omega (arith, length-tail s.queue new k.deep, k.deep);
      requests = subst (All IsWaiting) (sym queue) (All-append IsWaiting old new waits news);
      once = λ c.
          let same : times c (map owner (concat (tail_of s.queue ++ new ∷ []))) ≡ times c (map owner (old ++ new)) =
          ap (λ ps. times c (map owner ps)) queue in
          omega (arith, owners c old new, parks_once c s.numbers ws es, one_each s fresh k f c);
      few = λ t. omega (arith, next_high s.numbers es t, few_wants s fresh k f, k.few t);
      rise = λ t.
          let first : ℕ = of_tier s.numbers t in
          let was : Rise 1 first (calling t (head ++ old)) = subst (λ ps. Rise 1 first (calling t ps)) all (k.rise t) in
          let came : Rise first (of_tier after t) (calling t new) = rise-parks s.numbers ws es t in
          subst (λ ps. Rise 1 (of_tier after t) (calling t ps)) (sym queue) (rise_moved t 1 first (of_tier after t) head old new was came);
    }

-- AT FIRST

no_lists : (n : ℕ) (q : List (List Parked)) → q ≡ replicate n [] → concat q ≡ []
no_lists zero q e = ap concat e
no_lists (suc n) q e = ap concat e ∙ no_lists n (replicate n []) refl

many_lists : (n : ℕ) (q : List (List Parked)) → q ≡ replicate n [] → length q ≡ n
many_lists zero q e = ap length e
many_lists (suc n) q e = ap length e ∙ ap suc (many_lists n (replicate n []) refl)

abbrev pub ones : OfTiers ℕ
ones = record { mid = 1; inv = 1; pay = 1 }

each_one : (numbers : OfTiers ℕ) (t : Tier) → numbers ≡ ones → of_tier numbers t ≡ 1
each_one numbers Mid e = ap (λ z. z.mid) e
each_one numbers Inv e = ap (λ z. z.inv) e
each_one numbers Pay e = ap (λ z. z.pay) e

pub first_in_range : (q : List (List Parked)) (numbers : OfTiers ℕ) (depth : ℕ) → q ≡ replicate depth [] → numbers ≡ ones → 1 ≤ depth
    → IsInRange (record { next = 0; queue = q; numbers = numbers })
first_in_range q numbers depth e n le =
    let none : concat q ≡ [] = no_lists depth q e in
    record {
      rounds = omega arith;
      deep = omega (arith, many_lists depth q e);
      requests = subst (All IsWaiting) (sym none) (All-nil IsWaiting);
      once = λ c. omega (arith, ap (λ ps. times c (map owner ps)) none);
      few = λ t. omega (arith, each_one numbers t n);
      rise = λ t.
          let start : 1 ≤ of_tier numbers t = omega (arith, each_one numbers t n) in
          subst (λ ps. Rise 1 (of_tier numbers t) (calling t ps)) (sym none) start;
    }
