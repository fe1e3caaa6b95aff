-- The grammar of ends and outcomes.
use Rattle.std.proofs.Common.{◌≡◌, ℕ, ◌<◌, ◌≤◌, ◌^◌, true, cond, eqb, inl, inr, List, [], ◌∷◌, ◌++◌, length, Some, None}
use Rattle.std.proofs.Common.{refl, sym, ap, subst, ◌∙◌, append_assoc, arith}
use Rattle.std.specs.Prelude.{nat_le}
use Rattle.std.specs.List.{flat_map, AllByRecursion}
use Rattle.std.specs.Int.{w16, to_be_bytes}
use Rattle.std.proofs.lemmas.Bool.{leb-true, le-leb}
use Rattle.std.proofs.lemmas.Option.{none-some}
use Rattle.aeg_base.specs.declared.limits.TheConstants.{TEXT_BYTES}
use Rattle.aeg_base.specs.declared.names.Key.{Key}
use Rattle.aeg_base.specs.declared.names.Tier.{Tier}
use Rattle.svc_api.specs.declared.action.Ending.{Ending}
use Rattle.svc_api.specs.declared.action.Ending.TheVariants as ends
use Rattle.svc_api.specs.declared.outcome.Outcome.{Outcome}
use Rattle.svc_api.specs.Plan.{IsEnding, IsBackend}
use Rattle.aeg_wire.specs.Fields.{Read, ◌>>=◌, byte_at, number_at, text, text_at}
use Rattle.aeg_wire.specs.Formats.{made, kept, both}
use Rattle.aeg_wire.proofs.Grammar.{IsBytes, Takes, Takes-then, IsGrammar, bind_some, kept_some, refit, made_grammar, both_grammar}
use Rattle.aeg_wire.proofs.Numbers.{one_byte, two_bytes, text_grammar}
use Rattle.aeg_wire.proofs.Lists.{counted_grammar}
use Rattle.log_values.specs.declared.format.TheConstants.{TOKEN_PAIRS, TOKEN_ENDS, REPLY_END, CALL_END, LAST_STAGE}
use Rattle.log_values.specs.Fields.{tier_number, backend_at, stage_at}
use Rattle.log_values.specs.Outcomes.{pair, pairs_at, rises, ending, ending_at, outcome, outcome_at, all_pairs_at, all_ends_at, FitsPair, FitsOutcome}
use Rattle.log_values.proofs.FieldGrammar.{backend_grammar, stage_grammar}
use Rattle.log_values.proofs.Leads.{chosen, case_of}
use Rattle.log_values.proofs.Pairs.{pairs_take, pairs_again}

-- ---- ends

abbrev CallFields : Type 0
CallFields = Tier × (ℕ × List ℕ)

abbrev call_fits : CallFields → Type 0
call_fits p = IsBackend p.0 × (((1 ≤ p.1.0) × (p.1.0 ≤ LAST_STAGE)) × (length p.1.1 ≤ TEXT_BYTES))

abbrev call_text : CallFields → List ℕ
call_text p = (tier_number p.0 ∷ []) ++ ((p.1.0 ∷ []) ++ text p.1.1)

abbrev call_at : List ℕ → Read CallFields
call_at = both backend_at (λ _. both stage_at (λ _. text_at))

abbrev call_of : CallFields → Ending
call_of p = ends.Call p.0 p.1.0 p.1.1

call_grammar : IsGrammar call_fits call_text call_at
call_grammar = both_grammar IsBackend (λ t. tier_number t ∷ []) backend_at
    (λ _ p. ((1 ≤ p.0) × (p.0 ≤ LAST_STAGE)) × (length p.1 ≤ TEXT_BYTES)) (λ _ p. (p.0 ∷ []) ++ text p.1) (λ _. both stage_at (λ _. text_at))
    backend_grammar
    (λ _ _. both_grammar (λ n. (1 ≤ n) × (n ≤ LAST_STAGE)) (λ n. n ∷ []) stage_at (λ _ t. length t ≤ TEXT_BYTES)
    (λ _ t. text t) (λ _. text_at) stage_grammar (λ _ _. text_grammar))

ending_case : (lead : ℕ) (bytes after : List ℕ) (v : Ending) (rest : List ℕ) → Takes bytes (lead ∷ []) after
    → cond {A = Read Ending} (eqb lead REPLY_END) (made ends.Reply (text_at after))
    (cond (eqb lead CALL_END) (made call_of (call_at after)) None) ≡ Some (v, rest)
    → Takes bytes (ending v) rest × IsEnding v
ending_case lead bytes after v rest first e =
    elim (chosen {A = Read Ending} (eqb lead REPLY_END) (made ends.Reply (text_at after))
    (cond (eqb lead CALL_END) (made call_of (call_at after)) None) (Some (v, rest)) e) [
      | inl h ↦ case_of REPLY_END ends.Reply (λ t. length t ≤ TEXT_BYTES) text text_at text_grammar IsEnding ending
          (λ t le. le) (λ t. refl) bytes lead after v rest first h.0 h.1
      | inr h ↦ elim (chosen {A = Read Ending} (eqb lead CALL_END) (made call_of (call_at after)) None (Some (v, rest)) h.1) [
        | inl k ↦ case_of CALL_END call_of call_fits call_text call_at call_grammar IsEnding ending
            (λ p fits. (fits.0, (fits.1.0.0, (fits.1.0.1, fits.1.1)))) (λ p. refl) bytes lead after v rest first k.0 k.1
        | inr k ↦ absurd (none-some (v, rest) k.1)
      ]
    ]

ending_takes : (bytes : List ℕ) (v : Ending) (rest : List ℕ) → IsBytes bytes → ending_at bytes ≡ Some (v, rest) → Takes bytes (ending v) rest × IsEnding v
unfolding ending_at
ending_takes bytes v rest are e =
    let b = bind_some (byte_at bytes)
    (λ lead. cond {A = Read Ending} (eqb lead.0 REPLY_END) (made ends.Reply (text_at lead.1))
    (cond (eqb lead.0 CALL_END) (made call_of (call_at lead.1)) None)) (v, rest) e in
    let first = one_byte.takes bytes b.0.0 b.0.1 are b.1 in
    ending_case b.0.0 bytes b.0.1 v rest first.0 b.2

ending_again : (v : Ending) (rest : List ℕ) → IsEnding v → ending_at (ending v ++ rest) ≡ Some (v, rest)
unfolding ending_at
ending_again (ends.Reply t) rest fits = ap (λ (r : Read (List ℕ)). made ends.Reply r) (text_grammar.again t rest fits)
ending_again (ends.Call tier stage body) rest fits = ap (λ (r : Read CallFields). made call_of r)
    (call_grammar.again (tier, (stage, body)) rest (fits.0, ((fits.1.0, fits.1.1.0), fits.1.1.1)))

pub ending_grammar : IsGrammar IsEnding ending ending_at
ending_grammar = record { takes = ending_takes; again = ending_again }

-- ---- outcomes

abbrev pairs_fit : List (Key × ℕ) → Type 0
pairs_fit ps = (length ps ≤ TOKEN_PAIRS) × (AllByRecursion FitsPair ps × (rises None ps ≡ true))

abbrev pairs_text : List (Key × ℕ) → List ℕ
pairs_text ps = to_be_bytes w16 (length ps) ++ flat_map pair ps

all_pairs_grammar : IsGrammar pairs_fit pairs_text all_pairs_at
unfolding all_pairs_at
all_pairs_grammar = record {
  takes = λ bytes ps rest are e.
      let b = bind_some (kept (λ n. nat_le n TOKEN_PAIRS) (number_at w16 bytes)) (λ n. pairs_at None n.0 n.1) (ps, rest) e in
      let k = kept_some (λ n. nat_le n TOKEN_PAIRS) (number_at w16 bytes) b.0 b.1 in
      let first = two_bytes.takes bytes b.0.0 b.0.1 are k.0 in
      let others = pairs_take b.0.0 None b.0.1 ps rest first.0.rest_fits b.2 in
      let all = Takes-then bytes (to_be_bytes w16 b.0.0) b.0.1 (flat_map pair ps) rest first.0 others.0 in
      let below : b.0.0 ≤ TOKEN_PAIRS = leb-true b.0.0 TOKEN_PAIRS k.1 in (
        subst (λ (n : ℕ). Takes bytes (to_be_bytes w16 n ++ flat_map pair ps) rest) (sym others.1.0) all,
        (subst (λ (n : ℕ). n ≤ TOKEN_PAIRS) (sym others.1.0) below, others.1.1),
      );
  again = λ ps rest fit.
      let small : length ps < 2 ^ 16 = omega (arith, fit.0) in
      let regrouped : pairs_text ps ++ rest ≡ to_be_bytes w16 (length ps)
      ++ (flat_map pair ps ++ rest) = append_assoc (to_be_bytes w16 (length ps)) (flat_map pair ps) rest in
      let count : kept (λ n. nat_le n TOKEN_PAIRS)
      (number_at w16 (to_be_bytes w16 (length ps) ++ (flat_map pair ps ++ rest))) ≡ Some (length ps, flat_map pair ps ++ rest)
      = rw (two_bytes.again (length ps) (flat_map pair ps ++ rest) small, le-leb (length ps) TOKEN_PAIRS fit.0) refl in
      ap all_pairs_at regrouped ∙ ap (λ (r : Read ℕ). r >>= λ n. pairs_at None n.0 n.1) count ∙ pairs_again ps None rest fit.1.0 fit.1.1;
}

ends_grammar : IsGrammar (λ es. (length es ≤ TOKEN_ENDS) × AllByRecursion IsEnding es) (λ es. length es ∷ flat_map ending es) all_ends_at
unfolding all_ends_at
ends_grammar = counted_grammar IsEnding ending ending_at ending_grammar TOKEN_ENDS (omega arith)

pub outcome_grammar : IsGrammar FitsOutcome outcome outcome_at
unfolding outcome_at
outcome_grammar =
    let parts = both_grammar pairs_fit pairs_text all_pairs_at (λ _ es. (length es ≤ TOKEN_ENDS)
    × AllByRecursion IsEnding es) (λ _ es. length es ∷ flat_map ending es) (λ _. all_ends_at) all_pairs_grammar
    (λ _ _. ends_grammar) in
    let told = made_grammar (λ p. pairs_fit p.0 × ((length p.1 ≤ TOKEN_ENDS) × AllByRecursion IsEnding p.1))
    (λ p. pairs_text p.0 ++ (length p.1 ∷ flat_map ending p.1)) (both all_pairs_at (λ _. all_ends_at))
    outcome_of parts_of (λ p. refl) (λ o. refl) parts in
    let fitted = refit (λ o. pairs_fit o.pairs × ((length o.ends ≤ TOKEN_ENDS) × AllByRecursion IsEnding o.ends))
    FitsOutcome (λ o. pairs_text o.pairs ++ (length o.ends ∷ flat_map ending o.ends)) outcome_at told
    (λ o h. record { count = h.0.0; pairs = h.0.1.0; sorted = h.0.1.1; end_count = h.1.0; ends = h.1.1 })
    (λ o h. ((h.count, (h.pairs, h.sorted)), (h.end_count, h.ends))) in
    respelled FitsOutcome (λ o. pairs_text o.pairs ++ (length o.ends ∷ flat_map ending o.ends)) outcome outcome_at fitted
    (λ o. append_assoc (to_be_bytes w16 (length o.pairs)) (flat_map pair o.pairs) (length o.ends ∷ flat_map ending o.ends))
  where
    outcome_of : List (Key × ℕ) × List Ending → Outcome
    outcome_of p = record { pairs = p.0; ends = p.1 }

    parts_of : Outcome → List (Key × ℕ) × List Ending
    parts_of o = (o.pairs, o.ends)

    respelled : {A : Type 0} (fits : A → Type 0) (old new : A → List ℕ) (read : List ℕ → Read A)
        → IsGrammar fits old read → ((x : A) → old x ≡ new x) → IsGrammar fits new read
    respelled fits old new read g same = record {
      takes = λ bytes x rest are e. let t = g.takes bytes x rest are e in (subst (λ (w : List ℕ). Takes bytes w rest) (same x) t.0, t.1);
      again = λ x rest fit. subst (λ (w : List ℕ). read (w ++ rest) ≡ Some (x, rest)) (same x) (g.again x rest fit);
    }
