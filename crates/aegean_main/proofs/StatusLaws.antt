-- An input has one status, and one text, on disks that counted no fault.
use Rattle.std.proofs.Common.{◌≡◌, ℕ, ◌≤◌, ◌⊎◌, inl, inr, true, cond, nat_le, nat_lt, List, [], ◌∷◌, ◌++◌, Option, None}
use Rattle.std.proofs.Common.{Some, IfSome, refl, sym, ap, subst, ◌∙◌, length, append-nil, arith}
use Rattle.std.proofs.lemmas.Bool.{and_parts, cond-true, cond-false, le-ltb, leb-true, lt-ltb}
use Rattle.aeg_base.specs.declared.limits.TheConstants.{INPUT_BYTES, INPUT_LINES, PACKETS_BEFORE}
use Rattle.aeg_disk.specs.Disk.{DiskState}
use Rattle.server_model.specs.Single.{lines_of}
use Rattle.run_model.specs.Script.{Script, Read, Reads, Fails, script_of}
use Rattle.run_model.specs.World.{Config, World, start}
use Rattle.run_model.specs.Runs.{run}
use Rattle.run_model.specs.Text.{after}
use Rattle.run_model.specs.Resolving.{AllSure, Goes, next}
use Rattle.run_model.specs.Standings.{keeps_limit}
use Rattle.run_model.specs.declared.trace.TraceEvent.{TraceEvent}
use Rattle.run_model.proofs.Resolved.{GoesOn, OneGoesOn, one_begins, one_run, run_begins}
use Rattle.run_model.proofs.Standing.{reaches_world}
use Rattle.aegean_main.specs.DiskFaults.{NoneRose}
use Rattle.aegean_main.specs.Replay.{IsWithin, tiers, events_text, whole_text, KeepsLimit, Ends, Overflows, Plays, Fills, Comes, IsItsOwn, IsTheStatus}
use Rattle.aegean_main.specs.declared.status.LimitKind.TheVariants as limits
use Rattle.aegean_main.specs.declared.status.Status.{Status}
use Rattle.aegean_main.specs.declared.status.Status.TheVariants.{Done, Usage, Script as BadScript, Plan, ReadFault, WriteFault, Limit, Illegal, Memory}

-- WITHOUT A FAULT A SCRIPT ENDS IN ONE WAY

-- an event that keeps the limit begins with no more packets
limit_at : {B : Type 0} (c : Config B) (w : World B) (es rest : List TraceEvent) (e : TraceEvent)
    → keeps_limit c w (es ++ e ∷ rest) ≡ true → length (run c es w).soup ≤ PACKETS_BEFORE
limit_at c w [] rest e k = leb-true (length w.soup) PACKETS_BEFORE (and_parts (nat_le (length w.soup) PACKETS_BEFORE) (keeps_limit c (after c w e) rest) k).0
limit_at c w (x ∷ es) rest e k = limit_at c (after c w x) es rest e
    (and_parts (nat_le (length w.soup) PACKETS_BEFORE) (keeps_limit c (after c w x) (es ++ e ∷ rest)) k).1

-- so a run that overflows goes on to none
goes_no_further : (script : Script) (es fs rest : List TraceEvent) → Overflows script es → KeepsLimit script fs → fs ≡ es ++ rest → fs ≡ es
goes_no_further script es fs [] o k e = e ∙ append-nil es
goes_no_further script es fs (x ∷ rest) o k e =
    let few = limit_at (tiers script) start es rest x (subst (KeepsLimit script) e k) in
    absurd (omega (arith, few, o.many, ap (λ z. length z.soup) (reaches_world (tiers script) script es o.standing o.reached)))

one_overflow : (script : Script) (es fs : List TraceEvent) → Overflows script es → AllSure es → Overflows script fs → AllSure fs → fs ≡ es
one_overflow script es fs o a p b = go (one_begins (tiers script) script es fs o.standing p.standing o.reached a p.reached b)
  where
    go : OneGoesOn (tiers script) o.standing es p.standing fs → fs ≡ es
    go (inl on) = goes_no_further script es fs on.rest o p.keeps on.whole
    go (inr on) = sym (goes_no_further script fs es on.rest p o.keeps on.whole)

-- and it comes to no end
ends_or_overflows : (script : Script) (es fs : List TraceEvent) → Ends script es → AllSure es → Overflows script fs → AllSure fs → ⊥
ends_or_overflows script es fs e a o b = go on.rest on.whole on.goes
  where
    on : GoesOn (tiers script) o.standing fs es e.0.0
    on = run_begins (tiers script) script fs es o.standing o.reached b e.0 a

    go : (rest : List TraceEvent) → es ≡ fs ++ rest → Goes (tiers script) o.standing rest e.0.0 → ⊥
    go [] f g = let none : next (tiers script) o.standing ≡ None = ap (next (tiers script)) g ∙ e.0.2 in let some = o.is_next in cc
    go (x ∷ rest) f g =
        let few = limit_at (tiers script) start fs rest x (subst (KeepsLimit script) f e.1) in
        omega (arith, few, o.many, ap (λ z. length z.soup) (reaches_world (tiers script) script fs o.standing o.reached))

-- WHAT THE INPUT ALONE DECIDES

abbrev early_by : Read Script → Option Status
early_by (Reads script) = None
early_by (Fails line row) = Some (BadScript line row)

-- the status of an input that is no script within the limits
abbrev early : List ℕ → Option Status
early input = cond (nat_lt INPUT_BYTES (length input)) (Some (Limit limits.Bytes))
    (cond (nat_lt INPUT_LINES (length (lines_of input))) (Some (Limit limits.Lines)) (early_by (script_of input)))

early-within : (input : List ℕ) → IsWithin input → early input ≡ early_by (script_of input)
early-within input w = cond-false (nat_lt INPUT_BYTES (length input)) _ _ (le-ltb INPUT_BYTES (length input) w.bytes)
    ∙ cond-false (nat_lt INPUT_LINES (length (lines_of input))) _ _ (le-ltb INPUT_LINES (length (lines_of input)) w.lines)

-- the input ends early, or it is a script that ends or overflows
abbrev Ran : List ℕ → List DiskState → List DiskState → Status → List ℕ → Type 0
Ran input before after status bytes = ((status ≡ Done) × Plays input bytes before after) ⊎ ((status ≡ Limit limits.Packets) × Fills input bytes before after)

abbrev Kind : List ℕ → List DiskState → List DiskState → Status → List ℕ → Type 0
Kind input before after status bytes = ((early input ≡ Some status) × (bytes ≡ [])) ⊎ ((early input ≡ None) × Ran input before after status bytes)

kind : (input : List ℕ) (before after : List DiskState) (status : Status) (bytes : List ℕ)
    → Comes input before after status bytes → Kind input before after status bytes
kind input before after Done bytes p = inr (early-within input p.reads.0 ∙ ap early_by p.reads.1, inl (refl, p))
kind input before after (Limit limits.Packets) bytes p = inr (early-within input p.reads.0 ∙ ap early_by p.reads.1, inr (refl, p))
kind input before after (Limit limits.Bytes) bytes p = inl (cond-true (nat_lt INPUT_BYTES (length input)) _ _ (lt-ltb INPUT_BYTES (length input) p.0), p.1)
kind input before after (Limit limits.Lines) bytes p =
    inl (
      cond-false (nat_lt INPUT_BYTES (length input)) _ _ (le-ltb INPUT_BYTES (length input) p.0)
          ∙ cond-true (nat_lt INPUT_LINES (length (lines_of input))) _ _ (lt-ltb INPUT_LINES (length (lines_of input)) p.1),
      p.2,
    )
kind input before after (BadScript line row) bytes p = inl (early-within input p.0 ∙ ap early_by p.1, p.2)
kind input before after Usage bytes p = absurd p
kind input before after (Plan row) bytes p = absurd p
kind input before after ReadFault bytes p = absurd p
kind input before after WriteFault bytes p = absurd p
kind input before after (Illegal line row) bytes p = absurd p
kind input before after Memory bytes p = absurd p

-- ONE STATUS

same_script : (o : Read Script) (s t : Script) → o ≡ Reads s → o ≡ Reads t → s ≡ t
same_script o s t e f = let both : Reads s ≡ Reads t = sym e ∙ f in cc

text_of : (P : Script → List TraceEvent → List ℕ) (s t : Script) (es fs : List TraceEvent) (a b : List ℕ) → s ≡ t → fs ≡ es → a ≡ P s es → b ≡ P t fs → a ≡ b
text_of P s t es fs a b e f g h = g ∙ ap (λ z. P z es) e ∙ ap (P t) (sym f) ∙ sym h

plays_one : (input : List ℕ) (before after later : List DiskState) (a b : List ℕ) → NoneRose before after
    → NoneRose before later → Plays input a before after → Plays input b before later → a ≡ b
plays_one input before after later a b none too p q =
    let same = same_script (script_of input) p.script q.script p.reads.1 q.reads.1 in
    let events : q.events ≡ p.events = one_run (tiers p.script) p.script p.events q.events p.ends.0 (p.leaves.sure none)
    (subst (λ z. Ends z q.events) (sym same) q.ends).0 (q.leaves.sure too) in
    text_of whole_text p.script q.script p.events q.events a b same events p.is_text q.is_text

fills_one : (input : List ℕ) (before after later : List DiskState) (a b : List ℕ) → NoneRose before after
    → NoneRose before later → Fills input a before after → Fills input b before later → a ≡ b
fills_one input before after later a b none too p q =
    let same = same_script (script_of input) p.script q.script p.reads.1 q.reads.1 in
    let events : q.events ≡ p.events = one_overflow p.script p.events q.events p.overflows (p.leaves.sure none)
    (subst (λ z. Overflows z q.events) (sym same) q.overflows) (q.leaves.sure too) in
    text_of events_text p.script q.script p.events q.events a b same events p.is_text q.is_text

plays_or_fills : (input : List ℕ) (before after later : List DiskState) (a b : List ℕ) → NoneRose before after
    → NoneRose before later → Plays input a before after → Fills input b before later → ⊥
plays_or_fills input before after later a b none too p q =
    let same = same_script (script_of input) p.script q.script p.reads.1 q.reads.1 in
    ends_or_overflows p.script p.events q.events p.ends (p.leaves.sure none) (subst (λ z. Overflows z q.events) (sym same) q.overflows) (q.leaves.sure too)

ran_one : (input : List ℕ) (before after later : List DiskState) (s t : Status) (a b : List ℕ) → NoneRose before after
    → NoneRose before later → Ran input before after s a → Ran input before later t b → (s ≡ t) × (a ≡ b)
ran_one input before after later s t a b none too (inl p) (inl q) = (p.0 ∙ sym q.0, plays_one input before after later a b none too p.1 q.1)
ran_one input before after later s t a b none too (inl p) (inr q) = absurd (plays_or_fills input before after later a b none too p.1 q.1)
ran_one input before after later s t a b none too (inr p) (inl q) = absurd (plays_or_fills input before later after b a too none q.1 p.1)
ran_one input before after later s t a b none too (inr p) (inr q) = (p.0 ∙ sym q.0, fills_one input before after later a b none too p.1 q.1)

kind_one : (input : List ℕ) (before after later : List DiskState) (s t : Status) (a b : List ℕ) → NoneRose before after
    → NoneRose before later → Kind input before after s a → Kind input before later t b → (s ≡ t) × (a ≡ b)
kind_one input before after later s t a b none too (inl p) (inl q) = (let both : Some s ≡ Some t = sym p.0 ∙ q.0 in cc, p.1 ∙ sym q.1)
kind_one input before after later s t a b none too (inl p) (inr q) = absurd (let both : Some s ≡ None = sym p.0 ∙ q.0 in cc)
kind_one input before after later s t a b none too (inr p) (inl q) = absurd (let both : Some t ≡ None = sym q.0 ∙ p.0 in cc)
kind_one input before after later s t a b none too (inr p) (inr q) = ran_one input before after later s t a b none too p.1 q.1

pub one_way : (input : List ℕ) (before after later : List DiskState) (s t : Status) (a b : List ℕ)
    → NoneRose before after → NoneRose before later → Comes input before after s a → Comes input before later t b
    → (s ≡ t) × (a ≡ b)
one_way input before after later s t a b none too p q = kind_one input before after later s t a b none too
    (kind input before after s a p) (kind input before later t b q)

-- AT THE CALL

only_own : (input : List ℕ) (before after : List DiskState) (status : Status) → IsItsOwn input before after status → IsTheStatus input before after status
only_own input before after status (inl own) none other bytes later too comes = inl
    (one_way input before after later status other own.0 bytes none too own.1 comes).0
only_own input before after status (inr memory) none other bytes later too comes = inr memory

pub the_status : (left : Option (List ℕ)) (before after : List DiskState) (status : Status)
    → IfSome left (λ input. IsItsOwn input before after status) → IfSome left (λ input. IsTheStatus input before after status)
the_status None before after status f = tt
the_status (Some input) before after status f = only_own input before after status f
