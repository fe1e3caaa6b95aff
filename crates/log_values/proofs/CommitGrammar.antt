-- The grammar of a token with an order of its segments.
use Rattle.std.proofs.Common.{◌≡◌, ℕ, ◌<◌, true, List, [], ◌∷◌, ◌++◌, length, Some, refl, sym, ap, subst, ◌∙◌, append_assoc, arith}
use Rattle.std.specs.Prelude.{◌&&◌, ◌==◌}
use Rattle.std.proofs.lemmas.Bool.{eqb-true, and_parts, and_from, eq-eqb}
use Rattle.svc_api.specs.Orders.{is_order}
use Rattle.svc_api.specs.declared.outcome.Outcome.{Outcome}
use Rattle.aeg_wire.specs.Fields.{◌>>=◌, byte_at, bytes_at}
use Rattle.aeg_wire.specs.Formats.{made}
use Rattle.aeg_wire.proofs.Grammar.{IsBytes, Takes, Takes-then, IsGrammar, bind_some, made_some, kept_grammar}
use Rattle.aeg_wire.proofs.Numbers.{one_byte, bytes_take, bytes_again}
use Rattle.log_values.specs.Outcomes.{outcome, outcome_at, token_at, order_text, order_at, commit, commit_at, FitsOutcome, IsCommit}
use Rattle.log_values.proofs.OutcomeGrammar.{outcome_grammar}

numbers_grammar : IsGrammar (λ o. length o < 256) (λ o. order_text o) (λ bytes. byte_at bytes >>= λ n. bytes_at n.0 n.1)
numbers_grammar = record {
  takes = λ bytes o rest are e.
      let b = bind_some (byte_at bytes) (λ n. bytes_at n.0 n.1) (o, rest) e in
      let first = one_byte.takes bytes b.0.0 b.0.1 are b.1 in
      let second = bytes_take b.0.0 b.0.1 o rest first.0.rest_fits b.2 in
      let all = Takes-then bytes (b.0.0 ∷ []) b.0.1 o rest first.0 second.0 in
      (subst (λ (n : ℕ). Takes bytes (n ∷ o) rest) (sym second.1) all, subst (λ (n : ℕ). n < 256) (sym second.1) first.1);
  again = λ o rest small. bytes_again o rest;
}

order_grammar : (n : ℕ) → IsGrammar (λ o. (length o < 256) × (((length o == n) && is_order (length o) o) ≡ true)) (λ o. order_text o) (order_at n)
unfolding order_at
order_grammar n = kept_grammar (λ o. length o < 256) (λ o. order_text o)
    (λ bytes. byte_at bytes >>= λ k. bytes_at k.0 k.1) (λ o. (length o == n) && is_order (length o) o) numbers_grammar

commit_takes : (bytes : List ℕ) (c : List ℕ × List ℕ) (rest : List ℕ) → IsBytes bytes → commit_at bytes ≡ Some (c, rest)
    → Takes bytes (commit c) rest × IsCommit c.0 c.1
unfolding commit_at token_at
commit_takes bytes c rest are e =
    let b = bind_some (made token_of (outcome_at bytes)) (λ t. made (λ order. (t.0.0, order)) (order_at t.0.1 t.1)) (c, rest) e in
    let m = made_some token_of (outcome_at bytes) b.0 b.1 in
    let o = m.0.0 in
    let first = outcome_grammar.takes bytes m.0.0 m.0.1 are m.1 in
    let there = subst (λ (t : (List ℕ × ℕ) × List ℕ). made (λ order. (t.0.0, order)) (order_at t.0.1 t.1) ≡ Some (c, rest)) (sym m.2) b.2 in
    let k = made_some (λ order. (outcome o, order)) (order_at (length o.ends) m.0.1) (c, rest) there in
    let second = (order_grammar (length o.ends)).takes m.0.1 k.0.0 k.0.1 first.0.rest_fits k.1 in
    let tests = and_parts (length k.0.0 == length o.ends) (is_order (length k.0.0) k.0.0) second.1.1 in
    let all = Takes-then bytes (outcome o) m.0.1 (order_text k.0.0) k.0.1 first.0 second.0 in
    let is : IsCommit (outcome o) k.0.0 = record {
      told = o;
      fits = first.1;
      spelled = refl;
      count = eqb-true (length k.0.0) (length o.ends) tests.0;
      permutes = tests.1;
    } in
    subst (λ (p : (List ℕ × List ℕ) × List ℕ). Takes bytes (commit p.0) p.1 × IsCommit p.0.0 p.0.1) k.2 (all, is)
  where
    token_of : Outcome → List ℕ × ℕ
    token_of o = (outcome o, length o.ends)

commit_again_told : (o : Outcome) (order rest : List ℕ) → FitsOutcome o → length order ≡ length o.ends
    → is_order (length order) order ≡ true → commit_at (commit (outcome o, order) ++ rest) ≡ Some ((outcome o, order), rest)
unfolding commit_at token_at
commit_again_told o order rest fits count permutes =
    let small : length order < 256 = omega (arith, count, fits.end_count) in
    let regrouped : commit (outcome o, order) ++ rest ≡ outcome o ++ (order_text order ++ rest) = append_assoc (outcome o) (order_text order) rest in
    let first = outcome_grammar.again o (order_text order ++ rest) fits in
    let second = (order_grammar (length o.ends)).again order rest (
      small,
      and_from (length order == length o.ends) (is_order (length order) order)
          (eq-eqb (length order) (length o.ends) count) permutes,
    ) in
    ap (λ (w : List ℕ). commit_at w) regrouped ∙ rw (first, second) refl

commit_again : (c : List ℕ × List ℕ) (rest : List ℕ) → IsCommit c.0 c.1 → commit_at (commit c ++ rest) ≡ Some (c, rest)
commit_again c rest is =
    subst (λ (token : List ℕ). commit_at (commit (token, c.1) ++ rest) ≡ Some ((token, c.1), rest)) (sym is.spelled)
    (commit_again_told is.told c.1 rest is.fits is.count is.permutes)

pub commit_grammar : IsGrammar (λ c. IsCommit c.0 c.1) commit commit_at
commit_grammar = record { takes = commit_takes; again = commit_again }
