-- The grammar of all messages.
use Rattle.std.proofs.Common.{◌≡◌, ℕ, ◌<◌, ◌^◌, true, cond, eqb, inl, inr, List, [], ◌∷◌, ◌++◌, Some, None, refl, ap, subst, arith}
use Rattle.std.specs.Prelude.{nat_lt}
use Rattle.std.specs.Int.{w16, w32, to_be_bytes}
use Rattle.std.proofs.lemmas.Bool.{ltb-true, lt-ltb}
use Rattle.std.proofs.lemmas.Option.{none-some}
use Rattle.aeg_base.specs.declared.limits.TheConstants.{ROUNDS}
use Rattle.aeg_base.specs.declared.names.Tier.{Tier}
use Rattle.svc_api.specs.Plan.{IsBackend}
use Rattle.aeg_wire.specs.Fields.{Read, byte_at, number_at, text, text_at}
use Rattle.aeg_wire.specs.Formats.{made, both}
use Rattle.aeg_wire.proofs.Grammar.{IsBytes, Takes, IsGrammar, made_some, refit, kept_grammar, both_grammar}
use Rattle.aeg_wire.proofs.Numbers.{one_byte, two_bytes, text_grammar}
use Rattle.log_model.specs.declared.message.PaxMsg.{PaxMsg}
use Rattle.log_model.specs.declared.message.PaxMsg.TheVariants.{Prepare, Promise, Accept, Accepted, Ask, Learn, Behind}
use Rattle.log_values.specs.declared.any_value.AnyValue.{AnyValue}
use Rattle.log_values.specs.Fields.{tier_number, backend_at, client_at, seq_at, call_number_at, floor_at, IsClient, IsSeq, IsCallNumber, IsFloor, IsText}
use Rattle.log_values.specs.Outcomes.{commit, commit_at, IsCommit}
use Rattle.log_values.proofs.CommitGrammar.{commit_grammar}
use Rattle.log_values.proofs.FieldGrammar.{backend_grammar, client_grammar, seq_grammar, call_number_grammar, floor_grammar}
use Rattle.log_values.proofs.Leads.{chosen}
use Rattle.log_values.proofs.ValueGrammar.{call_at, call_grammar}
use Rattle.frames.specs.declared.message.Msg.{Msg}
use Rattle.frames.specs.declared.message.Msg.TheVariants as msgs
use Rattle.frames.specs.LogMessages.{log_kind, log_body_at}
use Rattle.frames.specs.Messages.{kind_of, body, FitsMsg, is_of_log, round_at, other_body_at, body_at}
use Rattle.frames.proofs.KindCase.{kind_case}
use Rattle.frames.proofs.LogGrammar.{log_takes, log_again}

round_grammar : IsGrammar (λ n. n < ROUNDS) (λ n. to_be_bytes w16 n) round_at
unfolding round_at
round_grammar = refit (λ n. (n < 2 ^ 16) × (nat_lt n ROUNDS ≡ true)) (λ n. n < ROUNDS) (λ n. to_be_bytes w16 n) round_at
    (kept_grammar (λ n. n < 2 ^ 16) (λ n. to_be_bytes w16 n) (number_at w16) (λ n. nat_lt n ROUNDS) two_bytes)
    (λ n h. ltb-true n ROUNDS h.1) (λ n h. (omega (arith, h), lt-ltb n ROUNDS h))

abbrev Texted : Type 0
Texted = ℕ × List ℕ

abbrev Coded : Type 0
Coded = ℕ × ℕ

abbrev request_of : Texted → Msg
request_of p = msgs.Request p.0 p.1

abbrev reply_of : ℕ × Texted → Msg
reply_of p = msgs.Reply (record { client = p.0; seq = p.1.0 }) p.1.1

abbrev token_of : ℕ × (List ℕ × List ℕ) → Msg
token_of p = msgs.Token p.0 p.1.0 p.1.1

abbrev call_of : Texted → Msg
call_of p = msgs.Call p.0 p.1

abbrev answer_of : Coded → Msg
answer_of p = msgs.Answer p.0 p.1

abbrev have_of : Tier × Coded → Msg
have_of p = msgs.Have p.0 p.1.0 p.1.1

abbrev settle_of : ℕ → Msg
settle_of p = msgs.Settle p

abbrev request_at : List ℕ → Read Texted
request_at = both seq_at (λ _. text_at)

abbrev reply_at : List ℕ → Read (ℕ × Texted)
reply_at = both client_at (λ _. both seq_at (λ _. text_at))

abbrev token_at : List ℕ → Read (ℕ × (List ℕ × List ℕ))
token_at = both round_at (λ _. commit_at)

abbrev answer_at : List ℕ → Read Coded
answer_at = both call_number_at (λ _. byte_at)

abbrev have_at : List ℕ → Read (Tier × Coded)
have_at = both backend_at (λ _. both call_number_at (λ _. byte_at))

request_grammar : IsGrammar (λ p. IsSeq p.0 × IsText p.1) (λ p. to_be_bytes w32 p.0 ++ text p.1) request_at
request_grammar = both_grammar IsSeq (λ n. to_be_bytes w32 n) seq_at (λ _ t. IsText t) (λ _ t. text t) (λ _. text_at) seq_grammar (λ _ _. text_grammar)

reply_grammar : IsGrammar (λ p. IsClient p.0 × (IsSeq p.1.0 × IsText p.1.1)) (λ p. (p.0 ∷ []) ++ (to_be_bytes w32 p.1.0 ++ text p.1.1)) reply_at
reply_grammar = both_grammar IsClient (λ n. n ∷ []) client_at (λ _ p. IsSeq p.0
    × IsText p.1) (λ _ p. to_be_bytes w32 p.0 ++ text p.1) (λ _. both seq_at (λ _. text_at)) client_grammar (λ _ _. request_grammar)

token_grammar : IsGrammar (λ p. (p.0 < ROUNDS) × IsCommit p.1.0 p.1.1) (λ p. to_be_bytes w16 p.0 ++ commit p.1) token_at
token_grammar = both_grammar (λ n. n < ROUNDS) (λ n. to_be_bytes w16 n) round_at (λ _ c. IsCommit c.0 c.1)
    (λ _ c. commit c) (λ _. commit_at) round_grammar (λ _ _. commit_grammar)

answer_grammar : IsGrammar (λ p. IsCallNumber p.0 × (p.1 < 256)) (λ p. to_be_bytes w32 p.0 ++ (p.1 ∷ [])) answer_at
answer_grammar = both_grammar IsCallNumber (λ n. to_be_bytes w32 n) call_number_at (λ _ n. n < 256) (λ _ n. n ∷ [])
    (λ _. byte_at) call_number_grammar (λ _ _. one_byte)

have_grammar : IsGrammar (λ p. IsBackend p.0 × (IsCallNumber p.1.0 × (p.1.1 < 256))) (λ p. (tier_number p.0 ∷ [])
    ++ (to_be_bytes w32 p.1.0 ++ (p.1.1 ∷ []))) have_at
have_grammar = both_grammar IsBackend (λ t. tier_number t ∷ []) backend_at (λ _ p. IsCallNumber p.0
    × (p.1 < 256)) (λ _ p. to_be_bytes w32 p.0 ++ (p.1 ∷ [])) (λ _. both call_number_at (λ _. byte_at)) backend_grammar
    (λ _ _. answer_grammar)

abbrev MsgRead : Type 0
MsgRead = Read Msg

abbrev from13 : ℕ → List ℕ → MsgRead
from13 kind bytes = cond {A = MsgRead} (eqb kind 13) (made settle_of (floor_at bytes)) None

abbrev from12 : ℕ → List ℕ → MsgRead
from12 kind bytes = cond {A = MsgRead} (eqb kind 12) (made have_of (have_at bytes)) (from13 kind bytes)

abbrev from11 : ℕ → List ℕ → MsgRead
from11 kind bytes = cond {A = MsgRead} (eqb kind 11) (made answer_of (answer_at bytes)) (from12 kind bytes)

abbrev from10 : ℕ → List ℕ → MsgRead
from10 kind bytes = cond {A = MsgRead} (eqb kind 10) (made call_of (call_at bytes)) (from11 kind bytes)

abbrev from9 : ℕ → List ℕ → MsgRead
from9 kind bytes = cond {A = MsgRead} (eqb kind 9) (made token_of (token_at bytes)) (from10 kind bytes)

abbrev from2 : ℕ → List ℕ → MsgRead
from2 kind bytes = cond {A = MsgRead} (eqb kind 2) (made reply_of (reply_at bytes)) (from9 kind bytes)

abbrev IsBody : Tier → ℕ → List ℕ → Msg → List ℕ → Type 0
IsBody tier kind bytes v rest = Takes bytes (body v) rest × (FitsMsg tier v × (kind_of v ≡ kind))

case13 : (tier : Tier) (kind : ℕ) (bytes : List ℕ) (v : Msg) (rest : List ℕ) → IsBytes bytes
    → from13 kind bytes ≡ Some (v, rest) → IsBody tier kind bytes v rest
case13 tier kind bytes v rest are e =
    elim (chosen {A = MsgRead} (eqb kind 13) (made settle_of (floor_at bytes)) None (Some (v, rest)) e) [
      | inl h ↦ kind_case 13 settle_of IsFloor (λ n. to_be_bytes w32 n) floor_at floor_grammar (FitsMsg tier) body
          kind_of (λ n fits. fits) (λ n. refl) (λ n. refl) bytes kind v rest are h.0 h.1
      | inr h ↦ absurd (none-some (v, rest) h.1)
    ]

case12 : (tier : Tier) (kind : ℕ) (bytes : List ℕ) (v : Msg) (rest : List ℕ) → IsBytes bytes
    → from12 kind bytes ≡ Some (v, rest) → IsBody tier kind bytes v rest
case12 tier kind bytes v rest are e =
    elim (chosen {A = MsgRead} (eqb kind 12) (made have_of (have_at bytes)) (from13 kind bytes) (Some (v, rest)) e) [
      | inl h ↦ kind_case 12 have_of (λ p. IsBackend p.0 × (IsCallNumber p.1.0 × (p.1.1 < 256)))
          (λ p. (tier_number p.0 ∷ []) ++ (to_be_bytes w32 p.1.0 ++ (p.1.1 ∷ []))) have_at have_grammar (FitsMsg tier)
          body kind_of (λ p fits. fits) (λ p. refl) (λ p. refl) bytes kind v rest are h.0 h.1
      | inr h ↦ case13 tier kind bytes v rest are h.1
    ]

case11 : (tier : Tier) (kind : ℕ) (bytes : List ℕ) (v : Msg) (rest : List ℕ) → IsBytes bytes
    → from11 kind bytes ≡ Some (v, rest) → IsBody tier kind bytes v rest
case11 tier kind bytes v rest are e =
    elim (chosen {A = MsgRead} (eqb kind 11) (made answer_of (answer_at bytes)) (from12 kind bytes) (Some (v, rest)) e) [
      | inl h ↦ kind_case 11 answer_of (λ p. IsCallNumber p.0 × (p.1 < 256)) (λ p. to_be_bytes w32 p.0 ++ (p.1 ∷ []))
          answer_at answer_grammar (FitsMsg tier) body kind_of (λ p fits. fits) (λ p. refl) (λ p. refl) bytes kind v
          rest are h.0 h.1
      | inr h ↦ case12 tier kind bytes v rest are h.1
    ]

case10 : (tier : Tier) (kind : ℕ) (bytes : List ℕ) (v : Msg) (rest : List ℕ) → IsBytes bytes
    → from10 kind bytes ≡ Some (v, rest) → IsBody tier kind bytes v rest
case10 tier kind bytes v rest are e =
    elim (chosen {A = MsgRead} (eqb kind 10) (made call_of (call_at bytes)) (from11 kind bytes) (Some (v, rest)) e) [
      | inl h ↦ kind_case 10 call_of (λ p. IsCallNumber p.0 × IsText p.1) (λ p. to_be_bytes w32 p.0 ++ text p.1) call_at
          call_grammar (FitsMsg tier) body kind_of (λ p fits. fits) (λ p. refl) (λ p. refl) bytes kind v rest are h.0 h.1
      | inr h ↦ case11 tier kind bytes v rest are h.1
    ]

case9 : (tier : Tier) (kind : ℕ) (bytes : List ℕ) (v : Msg) (rest : List ℕ) → IsBytes bytes → from9 kind bytes ≡ Some (v, rest) → IsBody tier kind bytes v rest
case9 tier kind bytes v rest are e =
    elim (chosen {A = MsgRead} (eqb kind 9) (made token_of (token_at bytes)) (from10 kind bytes) (Some (v, rest)) e) [
      | inl h ↦ kind_case 9 token_of (λ p. (p.0 < ROUNDS) × IsCommit p.1.0 p.1.1) (λ p. to_be_bytes w16 p.0
          ++ commit p.1) token_at token_grammar (FitsMsg tier) body kind_of (λ p fits. fits) (λ p. refl) (λ p. refl)
          bytes kind v rest are h.0 h.1
      | inr h ↦ case10 tier kind bytes v rest are h.1
    ]

case2 : (tier : Tier) (kind : ℕ) (bytes : List ℕ) (v : Msg) (rest : List ℕ) → IsBytes bytes → from2 kind bytes ≡ Some (v, rest) → IsBody tier kind bytes v rest
case2 tier kind bytes v rest are e =
    elim (chosen {A = MsgRead} (eqb kind 2) (made reply_of (reply_at bytes)) (from9 kind bytes) (Some (v, rest)) e) [
      | inl h ↦ kind_case 2 reply_of (λ p. IsClient p.0 × (IsSeq p.1.0 × IsText p.1.1))
          (λ p. (p.0 ∷ []) ++ (to_be_bytes w32 p.1.0 ++ text p.1.1)) reply_at reply_grammar (FitsMsg tier) body kind_of
          (λ p fits. fits) (λ p. refl) (λ p. refl) bytes kind v rest are h.0 h.1
      | inr h ↦ case9 tier kind bytes v rest are h.1
    ]

other_takes : (tier : Tier) (kind : ℕ) (bytes : List ℕ) (v : Msg) (rest : List ℕ) → IsBytes bytes
    → other_body_at kind bytes ≡ Some (v, rest) → IsBody tier kind bytes v rest
unfolding other_body_at
other_takes tier kind bytes v rest are e =
    elim (chosen {A = MsgRead} (eqb kind 1) (made request_of (request_at bytes)) (from2 kind bytes) (Some (v, rest)) e) [
      | inl h ↦ kind_case 1 request_of (λ p. IsSeq p.0 × IsText p.1) (λ p. to_be_bytes w32 p.0 ++ text p.1) request_at
          request_grammar (FitsMsg tier) body kind_of (λ p fits. fits) (λ p. refl) (λ p. refl) bytes kind v rest are h.0 h.1
      | inr h ↦ case2 tier kind bytes v rest are h.1
    ]

abbrev logged : PaxMsg AnyValue → Msg
logged m = msgs.Log m

pub body_takes : (tier : Tier) (kind : ℕ) (bytes : List ℕ) (v : Msg) (rest : List ℕ) → IsBytes bytes → body_at tier kind bytes ≡ Some (v, rest)
    → Takes bytes (body v) rest × (FitsMsg tier v × (kind_of v ≡ kind))
unfolding body_at
body_takes tier kind bytes v rest are e =
    elim (chosen {A = MsgRead} (is_of_log kind) (made logged (log_body_at tier kind bytes)) (other_body_at kind bytes) (Some (v, rest)) e) [
      | inl h ↦
          let m = made_some logged (log_body_at tier kind bytes) (v, rest) h.1 in
          let t = log_takes tier kind bytes m.0.0 m.0.1 are m.1 in
          subst (λ (p : Msg × List ℕ). IsBody tier kind bytes p.0 p.1) m.2 t
      | inr h ↦ other_takes tier kind bytes v rest are h.1
    ]

is_log_kind : (m : PaxMsg AnyValue) → is_of_log (log_kind m) ≡ true
is_log_kind (Prepare b pos) = refl
is_log_kind (Promise b pos reports) = refl
is_log_kind (Accept b pos v) = refl
is_log_kind (Accepted b pos v) = refl
is_log_kind (Ask pos) = refl
is_log_kind (Learn pos v) = refl
is_log_kind (Behind pos) = refl

pub body_again : (tier : Tier) (v : Msg) (rest : List ℕ) → FitsMsg tier v → body_at tier (kind_of v) (body v ++ rest) ≡ Some (v, rest)
unfolding body_at other_body_at
body_again tier (msgs.Log m) rest fits = rw (is_log_kind m) (ap (λ (r : Read (PaxMsg AnyValue)). made logged r) (log_again tier m rest fits))
body_again tier (msgs.Request seq request) rest fits = ap (λ (r : Read Texted). made request_of r) (request_grammar.again (seq, request) rest fits)
body_again tier (msgs.Reply who reply) rest fits = ap (λ (r : Read (ℕ × Texted)). made reply_of r)
    (reply_grammar.again (who.client, (who.seq, reply)) rest fits)
body_again tier (msgs.Token round token order) rest fits = ap (λ (r : Read (ℕ × (List ℕ × List ℕ))). made token_of r)
    (token_grammar.again (round, (token, order)) rest fits)
body_again tier (msgs.Call number call) rest fits = ap (λ (r : Read Texted). made call_of r) (call_grammar.again (number, call) rest fits)
body_again tier (msgs.Answer number code) rest fits = ap (λ (r : Read Coded). made answer_of r) (answer_grammar.again (number, code) rest fits)
body_again tier (msgs.Have about number code) rest fits = ap (λ (r : Read (Tier × Coded)). made have_of r)
    (have_grammar.again (about, (number, code)) rest fits)
body_again tier (msgs.Settle floor) rest fits = ap (λ (r : Read ℕ). made settle_of r) (floor_grammar.again floor rest fits)
