-- The grammars of the values of logs.
use Rattle.std.proofs.Common.{◌≡◌, ℕ, ◌≤◌, cond, eqb, ltb, inl, inr, List, [], ◌∷◌, ◌++◌, length, Some, None, refl, ap, subst, arith}
use Rattle.std.specs.List.{flat_map, AllByRecursion}
use Rattle.std.specs.Int.{w32, to_be_bytes}
use Rattle.std.proofs.lemmas.Bool.{eqb-true}
use Rattle.std.proofs.lemmas.Option.{none-some, same_Some}
use Rattle.aeg_wire.specs.Fields.{Read, byte_at, text, text_at}
use Rattle.aeg_wire.specs.Formats.{made, both, counted_at}
use Rattle.aeg_wire.proofs.Grammar.{IsBytes, Takes, IsGrammar, bind_some, made_some, refit, made_grammar, both_grammar}
use Rattle.aeg_wire.proofs.Numbers.{one_byte, text_grammar}
use Rattle.aeg_wire.proofs.Lists.{counted_grammar}
use Rattle.log_values.specs.declared.entry.Entry.{Entry}
use Rattle.log_values.specs.declared.mid_value.Verdict.TheVariants as verdicts
use Rattle.log_values.specs.declared.mid_value.MidValue.{MidValue}
use Rattle.log_values.specs.declared.mid_value.MidValue.TheVariants as mids
use Rattle.log_values.specs.declared.back_value.BackValue.{BackValue}
use Rattle.log_values.specs.declared.back_value.BackValue.TheVariants as backs
use Rattle.log_values.specs.declared.any_value.AnyValue.{AnyValue}
use Rattle.log_values.specs.declared.any_value.AnyValue.TheVariants as values
use Rattle.log_values.specs.declared.format.TheConstants.{ENTRIES, BATCH, COMMIT, SERIAL, CALL, SETTLE}
use Rattle.log_values.specs.Fields.{client_at, seq_at, call_number_at, floor_at, IsClient, IsSeq, IsCallNumber, IsFloor, IsText}
use Rattle.log_values.specs.Outcomes.{commit, commit_at, IsCommit}
use Rattle.log_values.specs.Values.{entry, entry_at, FitsEntry, mid_value, mid_body_at, mid_value_at, FitsMid}
use Rattle.log_values.specs.Values.{back_value, back_body_at, back_value_at, FitsBack, any_value, any_value_at, FitsAny}
use Rattle.log_values.proofs.CommitGrammar.{commit_grammar}
use Rattle.log_values.proofs.FieldGrammar.{client_grammar, seq_grammar, call_number_grammar, floor_grammar}
use Rattle.log_values.proofs.Leads.{chosen, case_of}

-- ---- entries

pub entry_grammar : IsGrammar FitsEntry entry entry_at
unfolding entry_at
entry_grammar =
    let parts = both_grammar IsClient (λ n. n ∷ []) client_at (λ _ p. IsSeq p.0
    × IsText p.1) (λ _ p. to_be_bytes w32 p.0 ++ text p.1) (λ _. both seq_at (λ _. text_at)) client_grammar
    (λ _ _. both_grammar IsSeq (λ n. to_be_bytes w32 n) seq_at (λ _ t. IsText t) (λ _ t. text t) (λ _. text_at) seq_grammar (λ _ _. text_grammar)) in
    refit (λ e. IsClient e.client × (IsSeq e.seq × IsText e.body)) FitsEntry entry entry_at
    (made_grammar (λ p. IsClient p.0 × (IsSeq p.1.0 × IsText p.1.1))
    (λ p. (p.0 ∷ []) ++ (to_be_bytes w32 p.1.0 ++ text p.1.1)) (both client_at (λ _. both seq_at (λ _. text_at)))
    entry_of parts_of (λ p. refl) (λ e. refl) parts)
    (λ e h. record { client = h.0; seq = h.1.0; body = h.1.1 }) (λ e h. (h.client, (h.seq, h.body)))
  where
    entry_of : ℕ × (ℕ × List ℕ) → Entry
    entry_of p = record { client = p.0; seq = p.1.0; body = p.1.1 }

    parts_of : Entry → ℕ × (ℕ × List ℕ)
    parts_of e = (e.client, (e.seq, e.body))

entries_grammar : IsGrammar (λ es. (length es ≤ ENTRIES) × AllByRecursion FitsEntry es) (λ es. length es ∷ flat_map entry es) (counted_at ENTRIES entry_at)
entries_grammar = counted_grammar FitsEntry entry entry_at entry_grammar ENTRIES (omega arith)

-- ---- values of the middle log

verdict_of : List ℕ × List ℕ → MidValue
verdict_of c = mids.Verdict (verdicts.Commit c.0 c.1)

mid_case : (lead : ℕ) (bytes after : List ℕ) (v : MidValue) (rest : List ℕ) → Takes bytes (lead ∷ []) after
    → mid_body_at lead after ≡ Some (v, rest) → Takes bytes (mid_value v) rest × FitsMid v
unfolding mid_body_at verdict_of
mid_case lead bytes after v rest first e =
    elim (chosen {A = Read MidValue} (eqb lead BATCH) (made mids.Batch (counted_at ENTRIES entry_at after))
    (cond (eqb lead COMMIT) (made verdict_of (commit_at after))
    (cond (eqb lead SERIAL) (Some (mids.Verdict verdicts.Serial, after)) None)) (Some (v, rest)) e) [
      | inl h ↦ case_of BATCH mids.Batch (λ es. (length es ≤ ENTRIES) × AllByRecursion FitsEntry es)
          (λ es. length es ∷ flat_map entry es) (counted_at ENTRIES entry_at) entries_grammar FitsMid mid_value
          (λ es fits. fits) (λ es. refl) bytes lead after v rest first h.0 h.1
      | inr h ↦ elim (chosen {A = Read MidValue} (eqb lead COMMIT) (made verdict_of (commit_at after))
          (cond (eqb lead SERIAL) (Some (mids.Verdict verdicts.Serial, after)) None) (Some (v, rest)) h.1) [
            | inl k ↦ case_of COMMIT verdict_of (λ c. IsCommit c.0 c.1) commit commit_at commit_grammar FitsMid mid_value
                (λ c fits. fits) (λ c. refl) bytes lead after v rest first k.0 k.1
            | inr k ↦ elim (chosen {A = Read MidValue} (eqb lead SERIAL) (Some (mids.Verdict verdicts.Serial, after)) None (Some (v, rest)) k.1) [
              | inl s ↦ subst (λ (p : MidValue × List ℕ). Takes bytes (mid_value p.0) p.1
                  × FitsMid p.0) (same_Some (mids.Verdict verdicts.Serial, after) (v, rest) s.1)
                  (subst (λ (n : ℕ). Takes bytes (n ∷ []) after) (eqb-true lead SERIAL s.0) first, tt)
              | inr s ↦ absurd (none-some (v, rest) s.1)
            ]
          ]
    ]

mid_takes : (bytes : List ℕ) (v : MidValue) (rest : List ℕ) → IsBytes bytes → mid_value_at bytes ≡ Some (v, rest) → Takes bytes (mid_value v) rest × FitsMid v
unfolding mid_value_at
mid_takes bytes v rest are e =
    let b = bind_some (byte_at bytes) (λ lead. mid_body_at lead.0 lead.1) (v, rest) e in
    let first = one_byte.takes bytes b.0.0 b.0.1 are b.1 in
    mid_case b.0.0 bytes b.0.1 v rest first.0 b.2

mid_again : (v : MidValue) (rest : List ℕ) → FitsMid v → mid_value_at (mid_value v ++ rest) ≡ Some (v, rest)
unfolding mid_value_at mid_body_at
mid_again (mids.Batch es) rest fits = ap (λ (r : Read (List Entry)). made mids.Batch r) (entries_grammar.again es rest fits)
mid_again (mids.Verdict (verdicts.Commit token order)) rest fits = ap
    (λ (r : Read (List ℕ × List ℕ)). made (λ c. mids.Verdict (verdicts.Commit c.0 c.1)) r)
    (commit_grammar.again (token, order) rest fits)
mid_again (mids.Verdict verdicts.Serial) rest fits = refl

pub mid_grammar : IsGrammar FitsMid mid_value mid_value_at
mid_grammar = record { takes = mid_takes; again = mid_again }

-- ---- values of a backend log

abbrev pub call_at : List ℕ → Read (ℕ × List ℕ)
call_at = both call_number_at (λ _. text_at)

abbrev call_of : ℕ × List ℕ → BackValue
call_of p = backs.Call p.0 p.1

pub call_grammar : IsGrammar (λ p. IsCallNumber p.0 × IsText p.1) (λ p. to_be_bytes w32 p.0 ++ text p.1) call_at
call_grammar = both_grammar IsCallNumber (λ n. to_be_bytes w32 n) call_number_at (λ _ t. IsText t) (λ _ t. text t)
    (λ _. text_at) call_number_grammar (λ _ _. text_grammar)

back_case : (lead : ℕ) (bytes after : List ℕ) (v : BackValue) (rest : List ℕ) → Takes bytes (lead ∷ []) after
    → back_body_at lead after ≡ Some (v, rest) → Takes bytes (back_value v) rest × FitsBack v
unfolding back_body_at
back_case lead bytes after v rest first e =
    elim (chosen {A = Read BackValue} (eqb lead CALL) (made call_of (call_at after))
    (cond (eqb lead SETTLE) (made backs.Settle (floor_at after)) None) (Some (v, rest)) e) [
      | inl h ↦ case_of CALL call_of (λ p. IsCallNumber p.0 × IsText p.1) (λ p. to_be_bytes w32 p.0 ++ text p.1) call_at
          call_grammar FitsBack back_value (λ p fits. fits) (λ p. refl) bytes lead after v rest first h.0 h.1
      | inr h ↦ elim (chosen {A = Read BackValue} (eqb lead SETTLE) (made backs.Settle (floor_at after)) None (Some (v, rest)) h.1) [
        | inl k ↦ case_of SETTLE backs.Settle IsFloor (λ n. to_be_bytes w32 n) floor_at floor_grammar FitsBack
            back_value (λ n fits. fits) (λ n. refl) bytes lead after v rest first k.0 k.1
        | inr k ↦ absurd (none-some (v, rest) k.1)
      ]
    ]

back_takes : (bytes : List ℕ) (v : BackValue) (rest : List ℕ) → IsBytes bytes → back_value_at bytes ≡ Some (v, rest)
    → Takes bytes (back_value v) rest × FitsBack v
unfolding back_value_at
back_takes bytes v rest are e =
    let b = bind_some (byte_at bytes) (λ lead. back_body_at lead.0 lead.1) (v, rest) e in
    let first = one_byte.takes bytes b.0.0 b.0.1 are b.1 in
    back_case b.0.0 bytes b.0.1 v rest first.0 b.2

back_again : (v : BackValue) (rest : List ℕ) → FitsBack v → back_value_at (back_value v ++ rest) ≡ Some (v, rest)
unfolding back_value_at back_body_at
back_again (backs.Call number body) rest fits = ap (λ (r : Read (ℕ × List ℕ)). made call_of r) (call_grammar.again (number, body) rest fits)
back_again (backs.Settle floor) rest fits = ap (λ (r : Read ℕ). made backs.Settle r) (floor_grammar.again floor rest fits)

pub back_grammar : IsGrammar FitsBack back_value back_value_at
back_grammar = record { takes = back_takes; again = back_again }

-- ---- values of either

any_takes : (bytes : List ℕ) (v : AnyValue) (rest : List ℕ) → IsBytes bytes → any_value_at bytes ≡ Some (v, rest) → Takes bytes (any_value v) rest × FitsAny v
unfolding any_value_at
any_takes bytes v rest are e =
    let b = bind_some (byte_at bytes)
    (λ lead. cond (ltb lead.0 CALL) (made values.Mid (mid_body_at lead.0 lead.1))
    (made values.Back (back_body_at lead.0 lead.1))) (v, rest) e in
    let first = one_byte.takes bytes b.0.0 b.0.1 are b.1 in
    elim (chosen {A = Read AnyValue} (ltb b.0.0 CALL) (made values.Mid (mid_body_at b.0.0 b.0.1))
    (made values.Back (back_body_at b.0.0 b.0.1)) (Some (v, rest)) b.2) [
      | inl h ↦
          let m = made_some values.Mid (mid_body_at b.0.0 b.0.1) (v, rest) h.1 in
          subst (λ (p : AnyValue × List ℕ). Takes bytes (any_value p.0) p.1 × FitsAny p.0) m.2 (mid_case b.0.0 bytes b.0.1 m.0.0 m.0.1 first.0 m.1)
      | inr h ↦
          let m = made_some values.Back (back_body_at b.0.0 b.0.1) (v, rest) h.1 in
          subst (λ (p : AnyValue × List ℕ). Takes bytes (any_value p.0) p.1 × FitsAny p.0) m.2 (back_case b.0.0 bytes b.0.1 m.0.0 m.0.1 first.0 m.1)
    ]

any_again : (v : AnyValue) (rest : List ℕ) → FitsAny v → any_value_at (any_value v ++ rest) ≡ Some (v, rest)
unfolding any_value_at mid_body_at back_body_at
any_again (values.Mid (mids.Batch es)) rest fits = ap (λ (r : Read (List Entry)). made values.Mid (made mids.Batch r)) (entries_grammar.again es rest fits)
any_again (values.Mid (mids.Verdict (verdicts.Commit token order))) rest fits = ap
    (λ (r : Read (List ℕ × List ℕ)). made values.Mid (made (λ c. mids.Verdict (verdicts.Commit c.0 c.1)) r))
    (commit_grammar.again (token, order) rest fits)
any_again (values.Mid (mids.Verdict verdicts.Serial)) rest fits = refl
any_again (values.Back (backs.Call number body)) rest fits = ap
    (λ (r : Read (ℕ × List ℕ)). made values.Back (made call_of r)) (call_grammar.again (number, body) rest fits)
any_again (values.Back (backs.Settle floor)) rest fits = ap (λ (r : Read ℕ). made values.Back (made backs.Settle r)) (floor_grammar.again floor rest fits)

pub any_grammar : IsGrammar FitsAny any_value any_value_at
any_grammar = record { takes = any_takes; again = any_again }
