-- The answers that facts hold: of each call the oldest code.
use Rattle.std.proofs.Common.{◌≡◌, ℕ, Bool, true, false, ◌==◌, List, [], ◌∷◌, ◌++◌, map, refl, sym, ap, ◌∙◌, Option, Some, None, option_map, if◌then◌else◌}
use Rattle.aeg_base.specs.declared.names.Tier.{Tier}
use Rattle.aeg_base.specs.declared.names.Tier.TheVariants.{Mid, Inv, Pay}
use Rattle.log_model.specs.Chosen.{or_else}
use Rattle.log_model.specs.Recover.{onto, recover}
use Rattle.log_model.specs.declared.fact.Fact.{Fact as LogFact}
use Rattle.log_model.specs.declared.fact.Fact.TheVariants as logs
use Rattle.log_values.specs.declared.any_value.AnyValue.{AnyValue}
use Rattle.log_values.specs.declared.fact.Fact.{Fact}
use Rattle.log_values.specs.declared.fact.Fact.TheVariants.{Promised, Accepted, Learned, Held}
use Rattle.round_model.proofs.HeldLaws.{InOrder, in_order_takes}
use Rattle.round_model.specs.Held.{HeldState, answers_of, held_code, takes, takes_as, untold}
use Rattle.round_model.specs.Lists.{and_then}
use Rattle.round_model.specs.Numbered.{find}
use Rattle.round_model.specs.declared.answer.Answer.{Answer}
use Rattle.server_model.specs.Server.{same_tier}
use Rattle.tier_model.specs.Moves.{as_fact, log_facts, held_in}
use Rattle.recovery_laws.specs.Snapshots.{holding, held_record, log_record, snapshot_record, snapshot}
use Rattle.recovery_laws.proofs.Tables.{is_call, or_none, find_takes, same_held}

-- THE CODE OF A CALL

-- the fact's code, where it is one of this call
abbrev pub code_for : Tier → ℕ → Fact → Option ℕ
code_for s k (Promised b) = None
code_for s k (Accepted p b v) = None
code_for s k (Learned p v) = None
code_for s k (Held t n code) = if is_call t n s k then Some code else None

-- the first one, with the newest fact in front
abbrev pub oldest : Tier → ℕ → List Fact → Option ℕ
oldest s k [] = None
oldest s k (f ∷ older) = or_else (oldest s k older) (code_for s k f)

-- the first one of a record, with the oldest fact in front
abbrev pub first : Tier → ℕ → List Fact → Option ℕ
first s k [] = None
first s k (f ∷ fs) = or_else (code_for s k f) (first s k fs)

or_assoc : {A : Type 0} (a b c : Option A) → or_else (or_else a b) c ≡ or_else a (or_else b c)
or_assoc None b c = refl
or_assoc (Some x) b c = refl

oldest_onto : (s : Tier) (k : ℕ) (fs older : List Fact) → oldest s k (onto fs older) ≡ or_else (oldest s k older) (first s k fs)
oldest_onto s k [] older = sym (or_none (oldest s k older))
oldest_onto s k (f ∷ fs) older = oldest_onto s k fs (f ∷ older) ∙ or_assoc (oldest s k older) (code_for s k f) (first s k fs)

first_append : (s : Tier) (k : ℕ) (fs gs : List Fact) → first s k (fs ++ gs) ≡ or_else (first s k fs) (first s k gs)
first_append s k [] gs = refl
first_append s k (f ∷ fs) gs = ap (or_else (code_for s k f)) (first_append s k fs gs) ∙ sym (or_assoc (code_for s k f) (first s k fs) (first s k gs))

-- WHAT IS HELD

untold_or : (a b : Option ℕ) → or_else (option_map untold a) (option_map untold b) ≡ option_map untold (or_else a b)
untold_or None b = refl
untold_or (Some c) b = refl

untold_if : (b : Bool) (code : ℕ) → (if b then Some (untold code) else None) ≡ option_map untold (if b then Some code else None)
untold_if true code = refl
untold_if false code = refl

-- nobody else is known to hold it
pub found_in : (u x : ℕ) (F : List Fact) (s : Tier) (k : ℕ) → find (answers_of (held_in u x F) s) k ≡ option_map untold (oldest s k F)
found_in u x [] Mid k = refl
found_in u x [] Inv k = refl
found_in u x [] Pay k = refl
found_in u x (Promised b ∷ F) s k = found_in u x F s k ∙ ap (option_map untold) (sym (or_none (oldest s k F)))
found_in u x (Accepted p b v ∷ F) s k = found_in u x F s k ∙ ap (option_map untold) (sym (or_none (oldest s k F)))
found_in u x (Learned p v ∷ F) s k = found_in u x F s k ∙ ap (option_map untold) (sym (or_none (oldest s k F)))
found_in u x (Held t n code ∷ F) s k =
    find_takes (held_in u x F) t n code s k ∙ ap (or_else (find (answers_of (held_in u x F) s) k)) (untold_if (is_call t n s k) code)
    ∙ ap (λ o. or_else o (option_map untold (code_for s k (Held t n code)))) (found_in u x F s k) ∙ untold_or (oldest s k F) (code_for s k (Held t n code))

pub held_oldest : (u x : ℕ) (F : List Fact) (s : Tier) (k : ℕ) → held_code (held_in u x F) s k ≡ oldest s k F
held_oldest u x F s k = ap (λ o. and_then o (λ a. Some a.code)) (found_in u x F s k) ∙ back (oldest s k F)
  where
    back : (o : Option ℕ) → and_then (option_map untold o) (λ a. Some a.code) ≡ o
    back None = refl
    back (Some c) = refl

takes_place : (h : HeldState) (t : Tier) (n code : ℕ) → ((takes h t n code).faults ≡ h.faults) × ((takes h t n code).me ≡ h.me)
takes_place h t n code = go (find (answers_of h t) n)
  where
    go : (o : Option Answer) → ((takes_as h t n code o).faults ≡ h.faults) × ((takes_as h t n code o).me ≡ h.me)
    go None = (refl, refl)
    go (Some a) = (refl, refl)

held_place : (u x : ℕ) (F : List Fact) → ((held_in u x F).faults ≡ u) × ((held_in u x F).me ≡ x)
held_place u x [] = (refl, refl)
held_place u x (Promised b ∷ F) = held_place u x F
held_place u x (Accepted p b v ∷ F) = held_place u x F
held_place u x (Learned p v ∷ F) = held_place u x F
held_place u x (Held t n code ∷ F) = let p = takes_place (held_in u x F) t n code in let q = held_place u x F in (p.0 ∙ q.0, p.1 ∙ q.1)

held_in_order : (u x : ℕ) (F : List Fact) → InOrder (held_in u x F)
held_in_order u x [] = record { mid = refl; inv = refl; pay = refl }
held_in_order u x (Promised b ∷ F) = held_in_order u x F
held_in_order u x (Accepted p b v ∷ F) = held_in_order u x F
held_in_order u x (Learned p v ∷ F) = held_in_order u x F
held_in_order u x (Held t n code ∷ F) = in_order_takes (held_in u x F) t n code (held_in_order u x F)

-- the same first codes make the same answers
pub same_answers : (u x : ℕ) (F G : List Fact) → ((s : Tier) (k : ℕ) → oldest s k F ≡ oldest s k G) → held_in u x F ≡ held_in u x G
same_answers u x F G h =
    let p = held_place u x F in
    let q = held_place u x G in
    same_held (held_in u x F) (held_in u x G) (p.0 ∙ sym q.0) (p.1 ∙ sym q.1) (held_in_order u x F) (held_in_order u x G)
    (λ s k. found_in u x F s k ∙ ap (option_map untold) (h s k) ∙ sym (found_in u x G s k))

-- THE CODES OF A SNAPSHOT

first_holding : (t s : Tier) (k : ℕ) (es : List (ℕ × Answer))
    → first s k (map (holding t) es) ≡ (if same_tier t s then and_then (find es k) (λ a. Some a.code) else None)
first_holding t s k es = go (same_tier t s) refl es
  where
    go : (b : Bool) → same_tier t s ≡ b → (es : List (ℕ × Answer))
        → first s k (map (holding t) es) ≡ (if b then and_then (find es k) (λ a. Some a.code) else None)
    go true e [] = refl
    go false e [] = refl
    go true e (d ∷ es) = rw e (by (d.0 == k) (go true e es))
      where
        by : (c : Bool) → first s k (map (holding t) es) ≡ and_then (find es k) (λ a. Some a.code)
            → or_else (if c then Some d.1.code else None) (first s k (map (holding t) es)) ≡ and_then (if c then Some d.1 else find es k) (λ a. Some a.code)
        by true h = refl
        by false h = h
    go false e (d ∷ es) = rw e (go false e es)

first_of_log : (s : Tier) (k : ℕ) (fs : List (LogFact AnyValue)) → first s k (map as_fact fs) ≡ None
first_of_log s k [] = refl
first_of_log s k (logs.Promised b ∷ fs) = first_of_log s k fs
first_of_log s k (logs.Accepted p b v ∷ fs) = first_of_log s k fs
first_of_log s k (logs.Learned p v ∷ fs) = first_of_log s k fs

first_held : (h : HeldState) (s : Tier) (k : ℕ) → first s k (held_record h) ≡ held_code h s k
first_held h s k =
    first_append s k (map (holding Mid) h.answers.mid) (map (holding Inv) h.answers.inv ++ map (holding Pay) h.answers.pay)
    ∙ ap (or_else (first s k (map (holding Mid) h.answers.mid))) (first_append s k (map (holding Inv) h.answers.inv) (map (holding Pay) h.answers.pay))
    ∙ rw (first_holding Mid s k h.answers.mid) (rw (first_holding Inv s k h.answers.inv) (rw (first_holding Pay s k h.answers.pay) (by s)))
  where
    by : (s : Tier) → or_else (if same_tier Mid s then and_then (find h.answers.mid k) (λ a. Some a.code) else None)
        (or_else (if same_tier Inv s then and_then (find h.answers.inv k) (λ a. Some a.code) else None)
        (if same_tier Pay s then and_then (find h.answers.pay k) (λ a. Some a.code) else None)) ≡ held_code h s k
    by Mid = or_none (held_code h Mid k)
    by Inv = or_none (held_code h Inv k)
    by Pay = refl

pub snapshot_codes : (F : List Fact) (s : Tier) (k : ℕ) → oldest s k (snapshot F) ≡ oldest s k F
snapshot_codes F s k =
    let answers : List Fact = held_record (held_in 0 0 F) in
    let log : List (LogFact AnyValue) = log_record (recover 0 (log_facts F)) in
    oldest_onto s k (snapshot_record F) [] ∙ first_append s k answers (map as_fact log) ∙ ap (or_else (first s k answers)) (first_of_log s k log)
    ∙ or_none (first s k answers) ∙ first_held (held_in 0 0 F) s k ∙ held_oldest 0 0 F s k
