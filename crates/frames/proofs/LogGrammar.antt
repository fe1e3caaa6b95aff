-- The grammar of a log's messages.
use Rattle.std.proofs.Common.{◌≡◌, ℕ, ◌<◌, ◌≤◌, ◌^◌, true, cond, eqb, ltb, inl, inr, List, [], ◌∷◌, ◌++◌, Option, Some, None, refl, ap, subst, ◌∙◌, arith}
use Rattle.std.specs.Prelude.{nat_le}
use Rattle.std.specs.Int.{w16, to_be_bytes}
use Rattle.std.proofs.lemmas.Bool.{eqb-true, leb-true, le-leb, ltb-true, lt-ltb}
use Rattle.std.proofs.lemmas.Option.{none-some, same_Some}
use Rattle.aeg_base.specs.declared.limits.TheConstants.{POSITIONS}
use Rattle.aeg_base.specs.declared.names.Ballot.{Ballot}
use Rattle.aeg_base.specs.declared.names.Tier.{Tier}
use Rattle.aeg_wire.specs.Fields.{Read, byte_at, number_at}
use Rattle.aeg_wire.specs.Formats.{made, both}
use Rattle.aeg_wire.proofs.Grammar.{IsBytes, Takes, Takes-then, IsGrammar, bind_some, made_some, refit, kept_grammar, both_grammar}
use Rattle.aeg_wire.proofs.Numbers.{one_byte, two_bytes}
use Rattle.log_model.specs.declared.message.PaxMsg.{PaxMsg}
use Rattle.log_model.specs.declared.message.PaxMsg.TheVariants.{Prepare, Promise, Accept, Accepted, Ask, Learn, Behind}
use Rattle.log_values.specs.declared.any_value.AnyValue.{AnyValue}
use Rattle.log_values.specs.Fields.{ballot, ballot_at, position_at, FitsBallot}
use Rattle.log_values.specs.Values.{any_value, any_value_at, FitsAny}
use Rattle.log_values.proofs.FieldGrammar.{ballot_grammar, position_grammar}
use Rattle.log_values.proofs.Leads.{chosen}
use Rattle.log_values.proofs.ValueGrammar.{any_grammar}
use Rattle.frames.specs.LogMessages.{is_carried, carried_at, IsCarried, open_at, report, FitsReport, report_at, vote_at}
use Rattle.frames.specs.LogMessages.{log_kind, log_body, log_body_at, FitsLog}
use Rattle.frames.proofs.KindCase.{kind_case}

carried_grammar : (tier : Tier) (pos : ℕ) → IsGrammar (IsCarried tier pos) any_value (carried_at tier pos)
unfolding carried_at
carried_grammar tier pos = kept_grammar FitsAny any_value any_value_at (λ v. is_carried tier pos v) any_grammar

open_grammar : IsGrammar (λ n. n ≤ POSITIONS) (λ n. to_be_bytes w16 n) open_at
unfolding open_at
open_grammar = refit (λ n. (n < 2 ^ 16) × (nat_le n POSITIONS ≡ true)) (λ n. n ≤ POSITIONS) (λ n. to_be_bytes w16 n) open_at
    (kept_grammar (λ n. n < 2 ^ 16) (λ n. to_be_bytes w16 n) (number_at w16) (λ n. nat_le n POSITIONS) two_bytes)
    (λ n h. leb-true n POSITIONS h.1) (λ n h. (omega (arith, h), le-leb n POSITIONS h))

-- ---- reports

abbrev Report : Type 0
Report = Option (Ballot × AnyValue)

abbrev reported : Ballot × AnyValue → Report
reported r = Some r

abbrev found_at : Tier → ℕ → List ℕ → Read (Ballot × AnyValue)
found_at tier pos = both ballot_at (λ _. carried_at tier pos)

found_grammar : (tier : Tier) (pos : ℕ) → IsGrammar (λ r. FitsBallot r.0 × IsCarried tier pos r.1) (λ r. ballot r.0 ++ any_value r.1) (found_at tier pos)
found_grammar tier pos = both_grammar FitsBallot ballot ballot_at (λ _ v. IsCarried tier pos v) (λ _ v. any_value v)
    (λ _. carried_at tier pos) ballot_grammar (λ _ _. carried_grammar tier pos)

report_one : (tier : Tier) (pos lead : ℕ) (bytes after : List ℕ) (v : Report) (rest : List ℕ) → Takes bytes (lead ∷ []) after → eqb lead 1 ≡ true
    → cond {A = Read Report} (ltb pos POSITIONS) (made reported (found_at tier pos after)) None ≡ Some (v, rest)
    → Takes bytes (report v) rest × FitsReport tier pos v
report_one tier pos lead bytes after v rest first one e =
    elim (chosen {A = Read Report} (ltb pos POSITIONS) (made reported (found_at tier pos after)) None (Some (v, rest)) e) [
      | inl h ↦
          let m = made_some reported (found_at tier pos after) (v, rest) h.1 in
          let t = (found_grammar tier pos).takes after m.0.0 m.0.1 first.rest_fits m.1 in
          let all = Takes-then bytes (lead ∷ []) after (ballot m.0.0.0 ++ any_value m.0.0.1) m.0.1 first t.0 in
          let led = subst (λ (k : ℕ). Takes bytes (k ∷ (ballot m.0.0.0 ++ any_value m.0.0.1)) m.0.1) (eqb-true lead 1 one) all in
          subst (λ (p : Report × List ℕ). Takes bytes (report p.0) p.1 × FitsReport tier pos p.0) m.2 (led, (ltb-true pos POSITIONS h.0, t.1))
      | inr h ↦ absurd (none-some (v, rest) h.1)
    ]

report_case : (tier : Tier) (pos lead : ℕ) (bytes after : List ℕ) (v : Report) (rest : List ℕ) → Takes bytes (lead ∷ []) after
    → cond {A = Read Report} (eqb lead 0) (Some (None, after))
    (cond (eqb lead 1) (cond (ltb pos POSITIONS) (made reported (found_at tier pos after)) None) None)
    ≡ Some (v, rest) → Takes bytes (report v) rest × FitsReport tier pos v
report_case tier pos lead bytes after v rest first e =
    elim (chosen {A = Read Report} (eqb lead 0) (Some (None, after))
    (cond (eqb lead 1) (cond (ltb pos POSITIONS) (made reported (found_at tier pos after)) None) None) (Some (v, rest)) e) [
      | inl h ↦ subst (λ (p : Report × List ℕ). Takes bytes (report p.0) p.1 × FitsReport tier pos p.0)
          (same_Some (None, after) (v, rest) h.1) (subst (λ (k : ℕ). Takes bytes (k ∷ []) after) (eqb-true lead 0 h.0) first, tt)
      | inr h ↦ elim (chosen {A = Read Report} (eqb lead 1)
          (cond (ltb pos POSITIONS) (made reported (found_at tier pos after)) None) None (Some (v, rest)) h.1) [
            | inl k ↦ report_one tier pos lead bytes after v rest first k.0 k.1
            | inr k ↦ absurd (none-some (v, rest) k.1)
          ]
    ]

report_takes : (tier : Tier) (pos : ℕ) (bytes : List ℕ) (v : Report) (rest : List ℕ) → IsBytes bytes
    → report_at tier pos bytes ≡ Some (v, rest) → Takes bytes (report v) rest × FitsReport tier pos v
unfolding report_at
report_takes tier pos bytes v rest are e =
    let b = bind_some (byte_at bytes)
    (λ flag. cond {A = Read Report} (eqb flag.0 0) (Some (None, flag.1))
    (cond (eqb flag.0 1) (cond (ltb pos POSITIONS) (made reported (found_at tier pos flag.1)) None) None)) (v, rest) e in
    let first = one_byte.takes bytes b.0.0 b.0.1 are b.1 in
    report_case tier pos b.0.0 bytes b.0.1 v rest first.0 b.2

report_again : (tier : Tier) (pos : ℕ) (v : Report) (rest : List ℕ) → FitsReport tier pos v → report_at tier pos (report v ++ rest) ≡ Some (v, rest)
unfolding report_at
report_again tier pos None rest fits = refl
report_again tier pos (Some r) rest fits =
    let inside : cond {A = Read Report} (ltb pos POSITIONS)
    (made reported (found_at tier pos ((ballot r.0 ++ any_value r.1) ++ rest))) None
    ≡ made reported (found_at tier pos ((ballot r.0 ++ any_value r.1) ++ rest)) = rw (lt-ltb pos POSITIONS fits.0) refl in
    inside ∙ ap (λ (q : Read (Ballot × AnyValue)). made reported q) ((found_grammar tier pos).again r rest fits.1)

report_grammar : (tier : Tier) (pos : ℕ) → IsGrammar (FitsReport tier pos) report (report_at tier pos)
report_grammar tier pos = record { takes = report_takes tier pos; again = report_again tier pos }

-- ---- bodies

abbrev prepare_of : Ballot × ℕ → PaxMsg AnyValue
prepare_of p = Prepare p.0 p.1

abbrev promise_of : Ballot × (ℕ × Report) → PaxMsg AnyValue
promise_of p = Promise p.0 p.1.0 p.1.1

abbrev accept_of : Ballot × (ℕ × AnyValue) → PaxMsg AnyValue
accept_of p = Accept p.0 p.1.0 p.1.1

abbrev accepted_of : Ballot × (ℕ × AnyValue) → PaxMsg AnyValue
accepted_of p = Accepted p.0 p.1.0 p.1.1

abbrev ask_of : ℕ → PaxMsg AnyValue
ask_of p = Ask p

abbrev learn_of : ℕ × AnyValue → PaxMsg AnyValue
learn_of p = Learn p.0 p.1

abbrev behind_of : ℕ → PaxMsg AnyValue
behind_of p = Behind p

abbrev prepare_at : List ℕ → Read (Ballot × ℕ)
prepare_at = both ballot_at (λ _. open_at)

abbrev promise_at : Tier → List ℕ → Read (Ballot × (ℕ × Report))
promise_at tier = both ballot_at (λ _. both open_at (λ pos. report_at tier pos))

abbrev learn_at : Tier → List ℕ → Read (ℕ × AnyValue)
learn_at tier = both position_at (λ pos. carried_at tier pos)

prepare_grammar : IsGrammar (λ p. FitsBallot p.0 × (p.1 ≤ POSITIONS)) (λ p. ballot p.0 ++ to_be_bytes w16 p.1) prepare_at
prepare_grammar = both_grammar FitsBallot ballot ballot_at (λ _ n. n ≤ POSITIONS) (λ _ n. to_be_bytes w16 n) (λ _. open_at) ballot_grammar (λ _ _. open_grammar)

promise_grammar : (tier : Tier)
    → IsGrammar (λ p. FitsBallot p.0 × ((p.1.0 ≤ POSITIONS) × FitsReport tier p.1.0 p.1.1))
    (λ p. ballot p.0 ++ (to_be_bytes w16 p.1.0 ++ report p.1.1)) (promise_at tier)
promise_grammar tier = both_grammar FitsBallot ballot ballot_at (λ _ p. (p.0 ≤ POSITIONS) × FitsReport tier p.0 p.1)
    (λ _ p. to_be_bytes w16 p.0 ++ report p.1) (λ _. both open_at (λ pos. report_at tier pos)) ballot_grammar
    (λ _ _. both_grammar (λ n. n ≤ POSITIONS) (λ n. to_be_bytes w16 n) open_at (λ n r. FitsReport tier n r)
    (λ _ r. report r) (λ pos. report_at tier pos) open_grammar (λ n _. report_grammar tier n))

learn_grammar : (tier : Tier) → IsGrammar (λ p. (p.0 < POSITIONS) × IsCarried tier p.0 p.1) (λ p. to_be_bytes w16 p.0 ++ any_value p.1) (learn_at tier)
learn_grammar tier = both_grammar (λ n. n < POSITIONS) (λ n. to_be_bytes w16 n) position_at (λ n v. IsCarried tier n v)
    (λ _ v. any_value v) (λ pos. carried_at tier pos) position_grammar (λ n _. carried_grammar tier n)

vote_grammar : (tier : Tier)
    → IsGrammar (λ p. FitsBallot p.0 × ((p.1.0 < POSITIONS) × IsCarried tier p.1.0 p.1.1))
    (λ p. ballot p.0 ++ (to_be_bytes w16 p.1.0 ++ any_value p.1.1)) (vote_at tier)
vote_grammar tier = both_grammar FitsBallot ballot ballot_at (λ _ p. (p.0 < POSITIONS) × IsCarried tier p.0 p.1)
    (λ _ p. to_be_bytes w16 p.0 ++ any_value p.1) (λ _. both position_at (λ pos. carried_at tier pos)) ballot_grammar
    (λ _ _. learn_grammar tier)

abbrev LogRead : Type 0
LogRead = Read (PaxMsg AnyValue)

abbrev from14 : ℕ → List ℕ → LogRead
from14 kind bytes = cond {A = LogRead} (eqb kind 14) (made behind_of (open_at bytes)) None

abbrev from8 : Tier → ℕ → List ℕ → LogRead
from8 tier kind bytes = cond {A = LogRead} (eqb kind 8) (made learn_of (learn_at tier bytes)) (from14 kind bytes)

abbrev from7 : Tier → ℕ → List ℕ → LogRead
from7 tier kind bytes = cond {A = LogRead} (eqb kind 7) (made ask_of (open_at bytes)) (from8 tier kind bytes)

abbrev from6 : Tier → ℕ → List ℕ → LogRead
from6 tier kind bytes = cond {A = LogRead} (eqb kind 6) (made accepted_of (vote_at tier bytes)) (from7 tier kind bytes)

abbrev from5 : Tier → ℕ → List ℕ → LogRead
from5 tier kind bytes = cond {A = LogRead} (eqb kind 5) (made accept_of (vote_at tier bytes)) (from6 tier kind bytes)

abbrev from4 : Tier → ℕ → List ℕ → LogRead
from4 tier kind bytes = cond {A = LogRead} (eqb kind 4) (made promise_of (promise_at tier bytes)) (from5 tier kind bytes)

abbrev IsLogBody : Tier → ℕ → List ℕ → PaxMsg AnyValue → List ℕ → Type 0
IsLogBody tier kind bytes v rest = Takes bytes (log_body v) rest × (FitsLog tier v × (log_kind v ≡ kind))

case14 : (tier : Tier) (kind : ℕ) (bytes : List ℕ) (v : PaxMsg AnyValue) (rest : List ℕ) → IsBytes bytes
    → from14 kind bytes ≡ Some (v, rest) → IsLogBody tier kind bytes v rest
case14 tier kind bytes v rest are e =
    elim (chosen {A = LogRead} (eqb kind 14) (made behind_of (open_at bytes)) None (Some (v, rest)) e) [
      | inl h ↦ kind_case 14 behind_of (λ n. n ≤ POSITIONS) (λ n. to_be_bytes w16 n) open_at open_grammar (FitsLog tier)
          log_body log_kind (λ n fits. fits) (λ n. refl) (λ n. refl) bytes kind v rest are h.0 h.1
      | inr h ↦ absurd (none-some (v, rest) h.1)
    ]

case8 : (tier : Tier) (kind : ℕ) (bytes : List ℕ) (v : PaxMsg AnyValue) (rest : List ℕ) → IsBytes bytes
    → from8 tier kind bytes ≡ Some (v, rest) → IsLogBody tier kind bytes v rest
case8 tier kind bytes v rest are e =
    elim (chosen {A = LogRead} (eqb kind 8) (made learn_of (learn_at tier bytes)) (from14 kind bytes) (Some (v, rest)) e) [
      | inl h ↦ kind_case 8 learn_of (λ p. (p.0 < POSITIONS) × IsCarried tier p.0 p.1) (λ p. to_be_bytes w16 p.0
          ++ any_value p.1) (learn_at tier) (learn_grammar tier) (FitsLog tier) log_body log_kind (λ p fits. fits)
          (λ p. refl) (λ p. refl) bytes kind v rest are h.0 h.1
      | inr h ↦ case14 tier kind bytes v rest are h.1
    ]

case7 : (tier : Tier) (kind : ℕ) (bytes : List ℕ) (v : PaxMsg AnyValue) (rest : List ℕ) → IsBytes bytes
    → from7 tier kind bytes ≡ Some (v, rest) → IsLogBody tier kind bytes v rest
case7 tier kind bytes v rest are e =
    elim (chosen {A = LogRead} (eqb kind 7) (made ask_of (open_at bytes)) (from8 tier kind bytes) (Some (v, rest)) e) [
      | inl h ↦ kind_case 7 ask_of (λ n. n ≤ POSITIONS) (λ n. to_be_bytes w16 n) open_at open_grammar (FitsLog tier)
          log_body log_kind (λ n fits. fits) (λ n. refl) (λ n. refl) bytes kind v rest are h.0 h.1
      | inr h ↦ case8 tier kind bytes v rest are h.1
    ]

case6 : (tier : Tier) (kind : ℕ) (bytes : List ℕ) (v : PaxMsg AnyValue) (rest : List ℕ) → IsBytes bytes
    → from6 tier kind bytes ≡ Some (v, rest) → IsLogBody tier kind bytes v rest
case6 tier kind bytes v rest are e =
    elim (chosen {A = LogRead} (eqb kind 6) (made accepted_of (vote_at tier bytes)) (from7 tier kind bytes) (Some (v, rest)) e) [
      | inl h ↦ kind_case 6 accepted_of (λ p. FitsBallot p.0 × ((p.1.0 < POSITIONS) × IsCarried tier p.1.0 p.1.1))
          (λ p. ballot p.0 ++ (to_be_bytes w16 p.1.0 ++ any_value p.1.1)) (vote_at tier) (vote_grammar tier)
          (FitsLog tier) log_body log_kind (λ p fits. fits) (λ p. refl) (λ p. refl) bytes kind v rest are h.0 h.1
      | inr h ↦ case7 tier kind bytes v rest are h.1
    ]

case5 : (tier : Tier) (kind : ℕ) (bytes : List ℕ) (v : PaxMsg AnyValue) (rest : List ℕ) → IsBytes bytes
    → from5 tier kind bytes ≡ Some (v, rest) → IsLogBody tier kind bytes v rest
case5 tier kind bytes v rest are e =
    elim (chosen {A = LogRead} (eqb kind 5) (made accept_of (vote_at tier bytes)) (from6 tier kind bytes) (Some (v, rest)) e) [
      | inl h ↦ kind_case 5 accept_of (λ p. FitsBallot p.0 × ((p.1.0 < POSITIONS) × IsCarried tier p.1.0 p.1.1))
          (λ p. ballot p.0 ++ (to_be_bytes w16 p.1.0 ++ any_value p.1.1)) (vote_at tier) (vote_grammar tier)
          (FitsLog tier) log_body log_kind (λ p fits. fits) (λ p. refl) (λ p. refl) bytes kind v rest are h.0 h.1
      | inr h ↦ case6 tier kind bytes v rest are h.1
    ]

case4 : (tier : Tier) (kind : ℕ) (bytes : List ℕ) (v : PaxMsg AnyValue) (rest : List ℕ) → IsBytes bytes
    → from4 tier kind bytes ≡ Some (v, rest) → IsLogBody tier kind bytes v rest
case4 tier kind bytes v rest are e =
    elim (chosen {A = LogRead} (eqb kind 4) (made promise_of (promise_at tier bytes)) (from5 tier kind bytes) (Some (v, rest)) e) [
      | inl h ↦ kind_case 4 promise_of (λ p. FitsBallot p.0 × ((p.1.0 ≤ POSITIONS) × FitsReport tier p.1.0 p.1.1))
          (λ p. ballot p.0 ++ (to_be_bytes w16 p.1.0 ++ report p.1.1)) (promise_at tier) (promise_grammar tier)
          (FitsLog tier) log_body log_kind (λ p fits. fits) (λ p. refl) (λ p. refl) bytes kind v rest are h.0 h.1
      | inr h ↦ case5 tier kind bytes v rest are h.1
    ]

pub log_takes : (tier : Tier) (kind : ℕ) (bytes : List ℕ) (v : PaxMsg AnyValue) (rest : List ℕ) → IsBytes bytes → log_body_at tier kind bytes ≡ Some (v, rest)
    → Takes bytes (log_body v) rest × (FitsLog tier v × (log_kind v ≡ kind))
unfolding log_body_at
log_takes tier kind bytes v rest are e =
    elim (chosen {A = LogRead} (eqb kind 3) (made prepare_of (prepare_at bytes)) (from4 tier kind bytes) (Some (v, rest)) e) [
      | inl h ↦ kind_case 3 prepare_of (λ p. FitsBallot p.0 × (p.1 ≤ POSITIONS))
          (λ p. ballot p.0 ++ to_be_bytes w16 p.1) prepare_at prepare_grammar (FitsLog tier) log_body log_kind
          (λ p fits. fits) (λ p. refl) (λ p. refl) bytes kind v rest are h.0 h.1
      | inr h ↦ case4 tier kind bytes v rest are h.1
    ]

pub log_again : (tier : Tier) (v : PaxMsg AnyValue) (rest : List ℕ) → FitsLog tier v → log_body_at tier (log_kind v) (log_body v ++ rest) ≡ Some (v, rest)
unfolding log_body_at
log_again tier (Prepare b pos) rest fits = ap (λ (r : Read (Ballot × ℕ)). made prepare_of r) (prepare_grammar.again (b, pos) rest fits)
log_again tier (Promise b pos reports) rest fits = ap (λ (r : Read (Ballot × (ℕ × Report))). made promise_of r)
    ((promise_grammar tier).again (b, (pos, reports)) rest fits)
log_again tier (Accept b pos v) rest fits = ap (λ (r : Read (Ballot × (ℕ × AnyValue))). made accept_of r) ((vote_grammar tier).again (b, (pos, v)) rest fits)
log_again tier (Accepted b pos v) rest fits = ap (λ (r : Read (Ballot × (ℕ × AnyValue))). made accepted_of r)
    ((vote_grammar tier).again (b, (pos, v)) rest fits)
log_again tier (Ask pos) rest fits = ap (λ (r : Read ℕ). made ask_of r) (open_grammar.again pos rest fits)
log_again tier (Learn pos v) rest fits = ap (λ (r : Read (ℕ × AnyValue)). made learn_of r) ((learn_grammar tier).again (pos, v) rest fits)
log_again tier (Behind pos) rest fits = ap (λ (r : Read ℕ). made behind_of r) (open_grammar.again pos rest fits)
