-- The grammar of frames.
use Rattle.std.proofs.Common.{◌≡◌, ℕ, ◌<◌, ◌≤◌, ◌^◌, true, false, cond, eqb, ltb, inl, inr, List, [], ◌∷◌, ◌++◌, length}
use Rattle.std.proofs.Common.{Option, Some, None, Result, Ok, Err, refl, sym, ap, subst, ◌∙◌, arith}
use Rattle.std.specs.Prelude.{nat_le, not, ◌&&◌}
use Rattle.std.specs.Int.{w16, to_be_bytes}
use Rattle.std.proofs.lemmas.Bool.{eqb-true, ltb-false, not-false, le-ltb, lt-ltb}
use Rattle.std.proofs.lemmas.List.{append-nil, length-append}
use Rattle.std.specs.Prelude.{IfOk}
use Rattle.std.proofs.lemmas.Option.{none-some, same_Some}
use Rattle.aeg_base.specs.declared.limits.TheConstants.{CLIENTS, BODY_BYTES}
use Rattle.aeg_base.specs.declared.names.End.{End}
use Rattle.aeg_base.specs.declared.names.End.TheVariants.{Node, Client}
use Rattle.aeg_base.specs.declared.names.Tier.{Tier}
use Rattle.aeg_base.specs.declared.names.Tier.TheVariants.{Mid, Inv, Pay}
use Rattle.aeg_wire.specs.Fields.{Read, byte_at, number_at}
use Rattle.aeg_wire.specs.Formats.{both}
use Rattle.aeg_wire.proofs.Grammar.{IsBytes, Takes, IsGrammar, made_grammar, both_grammar, distinct}
use Rattle.aeg_wire.proofs.Numbers.{one_byte, two_bytes}
use Rattle.log_values.specs.declared.format.TheConstants.{FRAME_VERSION, LAST_KIND, LAST_INDEX}
use Rattle.log_values.specs.Fields.{tier_number}
use Rattle.log_values.specs.Reading.{whole}
use Rattle.log_values.proofs.Leads.{chosen}
use Rattle.log_values.proofs.Within.{within, is_within}
use Rattle.log_model.specs.declared.message.PaxMsg.{PaxMsg}
use Rattle.log_model.specs.declared.message.PaxMsg.TheVariants.{Prepare, Promise, Accept, Accepted, Ask, Learn, Behind}
use Rattle.log_values.specs.declared.any_value.AnyValue.{AnyValue}
use Rattle.frames.specs.LogMessages.{log_kind}
use Rattle.frames.specs.declared.header.FrameErr.{FrameErr}
use Rattle.frames.specs.declared.header.FrameErr.TheVariants as errors
use Rattle.frames.specs.declared.message.Msg.TheVariants as msgs
use Rattle.frames.specs.declared.header.Header.{Header}
use Rattle.frames.specs.declared.header.Lead.{Lead}
use Rattle.frames.specs.declared.header.Refused.{Refused}
use Rattle.frames.specs.declared.header.Refused.TheVariants as refused
use Rattle.frames.specs.declared.message.Msg.{Msg}
use Rattle.frames.specs.Headers.{node_of, end_number, end_index, sender_of, is_sent_by, lead_at, from_sender, judged}
use Rattle.frames.specs.Messages.{kind_of, body, body_at}
use Rattle.frames.specs.Frames.{tier_of, IsEnd, FitsFrame, frame, header_for, with_body, framed, framed_by, frame_of}
use Rattle.frames.specs.Frames.{refused_by, refusal, IsFrame, Decodes, GivesOrMemory}
use Rattle.frames.proofs.BodyGrammar.{body_takes, body_again}
use Rattle.frames.proofs.BodyLengths.{body_length}

-- ---- the fields

abbrev lead_text : Lead → List ℕ
lead_text l = l.version ∷ (l.kind ∷ (l.tier ∷ (l.index ∷ to_be_bytes w16 l.len)))

abbrev FitsLead : Lead → Type 0
FitsLead l = (l.version < 256) × ((l.kind < 256) × ((l.tier < 256) × ((l.index < 256) × (l.len < 2 ^ 16))))

abbrev Parts4 : Type 0
Parts4 = ℕ × ℕ

abbrev Parts3 : Type 0
Parts3 = ℕ × Parts4

abbrev Parts2 : Type 0
Parts2 = ℕ × Parts3

abbrev Parts1 : Type 0
Parts1 = ℕ × Parts2

grammar4 : IsGrammar (λ p. (p.0 < 256) × (p.1 < 2 ^ 16)) (λ p. (p.0 ∷ []) ++ to_be_bytes w16 p.1) (both byte_at (λ _. number_at w16))
grammar4 = both_grammar (λ n. n < 256) (λ n. n ∷ []) byte_at (λ _ n. n < 2 ^ 16) (λ _ n. to_be_bytes w16 n) (λ _. number_at w16) one_byte (λ _ _. two_bytes)

grammar3 : IsGrammar (λ p. (p.0 < 256) × ((p.1.0 < 256) × (p.1.1 < 2 ^ 16)))
    (λ p. (p.0 ∷ []) ++ ((p.1.0 ∷ []) ++ to_be_bytes w16 p.1.1)) (both byte_at (λ _. both byte_at (λ _. number_at w16)))
grammar3 = both_grammar (λ n. n < 256) (λ n. n ∷ []) byte_at (λ _ p. (p.0 < 256) × (p.1 < 2 ^ 16)) (λ _ p. (p.0 ∷ [])
    ++ to_be_bytes w16 p.1) (λ _. both byte_at (λ _. number_at w16)) one_byte (λ _ _. grammar4)

grammar2 : IsGrammar (λ p. (p.0 < 256) × ((p.1.0 < 256) × ((p.1.1.0 < 256) × (p.1.1.1 < 2 ^ 16))))
    (λ p. (p.0 ∷ []) ++ ((p.1.0 ∷ []) ++ ((p.1.1.0 ∷ []) ++ to_be_bytes w16 p.1.1.1)))
    (both byte_at (λ _. both byte_at (λ _. both byte_at (λ _. number_at w16))))
grammar2 = both_grammar (λ n. n < 256) (λ n. n ∷ []) byte_at (λ _ p. (p.0 < 256) × ((p.1.0 < 256) × (p.1.1 < 2 ^ 16)))
    (λ _ p. (p.0 ∷ []) ++ ((p.1.0 ∷ []) ++ to_be_bytes w16 p.1.1))
    (λ _. both byte_at (λ _. both byte_at (λ _. number_at w16))) one_byte (λ _ _. grammar3)

grammar1 : IsGrammar (λ p. (p.0 < 256)
    × ((p.1.0 < 256) × ((p.1.1.0 < 256) × ((p.1.1.1.0 < 256) × (p.1.1.1.1 < 2 ^ 16)))))
    (λ p. (p.0 ∷ []) ++ ((p.1.0 ∷ []) ++ ((p.1.1.0 ∷ []) ++ ((p.1.1.1.0 ∷ []) ++ to_be_bytes w16 p.1.1.1.1))))
    (both byte_at (λ _. both byte_at (λ _. both byte_at (λ _. both byte_at (λ _. number_at w16)))))
grammar1 = both_grammar (λ n. n < 256) (λ n. n ∷ []) byte_at (λ _ p. (p.0 < 256)
    × ((p.1.0 < 256) × ((p.1.1.0 < 256) × (p.1.1.1 < 2 ^ 16)))) (λ _ p. (p.0 ∷ [])
    ++ ((p.1.0 ∷ []) ++ ((p.1.1.0 ∷ []) ++ to_be_bytes w16 p.1.1.1)))
    (λ _. both byte_at (λ _. both byte_at (λ _. both byte_at (λ _. number_at w16)))) one_byte (λ _ _. grammar2)

lead_grammar : IsGrammar FitsLead lead_text lead_at
unfolding lead_at
lead_grammar = made_grammar (λ p. (p.0 < 256)
    × ((p.1.0 < 256) × ((p.1.1.0 < 256) × ((p.1.1.1.0 < 256) × (p.1.1.1.1 < 2 ^ 16)))))
    (λ p. (p.0 ∷ []) ++ ((p.1.0 ∷ []) ++ ((p.1.1.0 ∷ []) ++ ((p.1.1.1.0 ∷ []) ++ to_be_bytes w16 p.1.1.1.1))))
    (both byte_at (λ _. both byte_at (λ _. both byte_at (λ _. both byte_at (λ _. number_at w16)))))
    lead_of parts_of (λ p. refl) (λ l. refl) grammar1
  where
    lead_of : Parts1 → Lead
    lead_of p = record { version = p.0; kind = p.1.0; tier = p.1.1.0; index = p.1.1.1.0; len = p.1.1.1.1 }

    parts_of : Lead → Parts1
    parts_of l = (l.version, (l.kind, (l.tier, (l.index, l.len))))

-- ---- senders

abbrev SenderIs : ℕ → ℕ → End → Type 0
SenderIs tier index from = (end_number from ≡ tier) × ((end_index from ≡ index) × IsEnd from)

abbrev known : End → Option End
known from = Some from

client_case : (tier index : ℕ) (from : End) → eqb tier 3 ≡ true
    → cond {A = Option End} (nat_le 1 index && nat_le index CLIENTS) (known (Client index)) None ≡ Some from
    → SenderIs tier index from
client_case tier index from three e =
    elim (chosen {A = Option End} (nat_le 1 index && nat_le index CLIENTS) (known (Client index)) None (Some from) e) [
      | inl h ↦ subst (λ (f : End). SenderIs tier index f) (same_Some (Client index) from h.1) (sym (eqb-true tier 3 three), (refl, within 1 CLIENTS index h.0))
      | inr h ↦ absurd (none-some from h.1)
    ]

abbrev pay_or_none : ℕ → ℕ → Option End
pay_or_none tier index = cond {A = Option End} (eqb tier 2) (known (node_of Pay index)) None

abbrev inv_or : ℕ → ℕ → Option End
inv_or tier index = cond {A = Option End} (eqb tier 1) (known (node_of Inv index)) (pay_or_none tier index)

abbrev mid_or : ℕ → ℕ → Option End
mid_or tier index = cond {A = Option End} (eqb tier 0) (known (node_of Mid index)) (inv_or tier index)

node_case : (tier index : ℕ) (from : End) → index ≤ LAST_INDEX → mid_or tier index ≡ Some from → SenderIs tier index from
node_case tier index from le e =
    elim (chosen {A = Option End} (eqb tier 0) (known (node_of Mid index)) (inv_or tier index) (Some from) e) [
      | inl h ↦ subst (λ (f : End). SenderIs tier index f) (same_Some (node_of Mid index) from h.1) (sym (eqb-true tier 0 h.0), (refl, le))
      | inr h ↦ elim (chosen {A = Option End} (eqb tier 1) (known (node_of Inv index)) (pay_or_none tier index) (Some from) h.1) [
        | inl k ↦ subst (λ (f : End). SenderIs tier index f) (same_Some (node_of Inv index) from k.1) (sym (eqb-true tier 1 k.0), (refl, le))
        | inr k ↦ elim (chosen {A = Option End} (eqb tier 2) (known (node_of Pay index)) None (Some from) k.1) [
          | inl l ↦ subst (λ (f : End). SenderIs tier index f) (same_Some (node_of Pay index) from l.1) (sym (eqb-true tier 2 l.0), (refl, le))
          | inr l ↦ absurd (none-some from l.1)
        ]
      ]
    ]

sender_takes : (tier index : ℕ) (from : End) → sender_of tier index ≡ Some from → SenderIs tier index from
unfolding sender_of
sender_takes tier index from e =
    elim (chosen {A = Option End} (eqb tier 3)
    (cond (nat_le 1 index && nat_le index CLIENTS) (known (Client index)) None)
    (cond (ltb LAST_INDEX index) None (mid_or tier index)) (Some from) e) [
      | inl h ↦ client_case tier index from h.0 h.1
      | inr h ↦ elim (chosen {A = Option End} (ltb LAST_INDEX index) None (mid_or tier index) (Some from) h.1) [
        | inl k ↦ absurd (none-some from k.1)
        | inr k ↦ node_case tier index from (ltb-false LAST_INDEX index k.0) k.1
      ]
    ]

node_again : (tier : Tier) (index : ℕ) → index ≤ LAST_INDEX → sender_of (tier_number tier) index ≡ Some (node_of tier index)
unfolding sender_of
node_again Mid index le = rw (le-ltb LAST_INDEX index le) refl
node_again Inv index le = rw (le-ltb LAST_INDEX index le) refl
node_again Pay index le = rw (le-ltb LAST_INDEX index le) refl

client_again : (client : ℕ) → 1 ≤ client → client ≤ CLIENTS → sender_of 3 client ≡ Some (Client client)
unfolding sender_of
client_again client low high = rw (is_within 1 CLIENTS client low high) refl

sender_again : (from : End) → IsEnd from → sender_of (end_number from) (end_index from) ≡ Some from
sender_again (Client client) fits = client_again client fits.0 fits.1
sender_again (Node n) fits = node_again n.tier n.index fits

-- ---- headers

abbrev JudgedIs : Lead → Header → Type 0
JudgedIs l header = (l.version ≡ FRAME_VERSION)
    × ((header.kind ≡ l.kind)
    × ((header.len ≡ l.len) × ((is_sent_by header.from l.kind ≡ true) × SenderIs l.tier l.index header.from)))

abbrev HeaderRead : Type 0
HeaderRead = Result Header Refused

abbrev judged_as : Header → HeaderRead
judged_as header = Ok header

ok_is : (a b : Header) → judged_as a ≡ judged_as b → a ≡ b
ok_is a b e = cc

no_header : (r : Refused) (header : Header) → Err r ≡ judged_as header → ⊥
no_header r header e = cc

from_case : (l : Lead) (s : Option End) (header : Header) → sender_of l.tier l.index ≡ s → l.version ≡ FRAME_VERSION
    → from_sender s l ≡ Ok header → JudgedIs l header
from_case l None header found version e = absurd (no_header (refused.Row 3) header e)
from_case l (Some from) header found version e =
    elim (chosen {A = HeaderRead} (is_sent_by from l.kind)
    (cond (ltb BODY_BYTES l.len) (Err (refused.Row 4)) (Ok (record { kind = l.kind; from = from; len = l.len })))
    (Err (refused.Row 3)) (Ok header) e) [
      | inr h ↦ absurd (no_header (refused.Row 3) header h.1)
      | inl h ↦ elim (chosen {A = HeaderRead} (ltb BODY_BYTES l.len) (Err (refused.Row 4))
          (Ok (record { kind = l.kind; from = from; len = l.len })) (Ok header) h.1) [
            | inl k ↦ absurd (no_header (refused.Row 4) header k.1)
            | inr k ↦ subst (λ (d : Header). JudgedIs l d)
                (ok_is (record { kind = l.kind; from = from; len = l.len }) header k.1) (
                  version,
                  (refl, (refl, (h.0, sender_takes l.tier l.index from found))),
                )
          ]
    ]

abbrev after_kind : Lead → HeaderRead
after_kind l = from_sender (sender_of l.tier l.index) l

judged_takes : (l : Lead) (header : Header) → judged l ≡ Ok header → JudgedIs l header
unfolding judged
judged_takes l header e =
    elim (chosen {A = HeaderRead} (not (eqb l.version FRAME_VERSION)) (Err (refused.Row 1))
    (cond (ltb l.kind 1) (Err (refused.Row 2)) (cond (ltb LAST_KIND l.kind) (Err (refused.Row 2)) (after_kind l)))
    (Ok header) e) [
      | inl h ↦ absurd (no_header (refused.Row 1) header h.1)
      | inr h ↦ elim (chosen {A = HeaderRead} (ltb l.kind 1) (Err (refused.Row 2))
          (cond (ltb LAST_KIND l.kind) (Err (refused.Row 2)) (after_kind l)) (Ok header) h.1) [
            | inl k ↦ absurd (no_header (refused.Row 2) header k.1)
            | inr k ↦ elim (chosen {A = HeaderRead} (ltb LAST_KIND l.kind) (Err (refused.Row 2)) (after_kind l) (Ok header) k.1) [
              | inl m ↦ absurd (no_header (refused.Row 2) header m.1)
              | inr m ↦ from_case l (sender_of l.tier l.index) header refl (eqb-true l.version FRAME_VERSION (not-false (eqb l.version FRAME_VERSION) h.0)) m.1
            ]
          ]
    ]

-- the kinds that there are
log_kind_low : (m : PaxMsg AnyValue) → ltb (log_kind m) 1 ≡ false
log_kind_low (Prepare b pos) = refl
log_kind_low (Promise b pos reports) = refl
log_kind_low (Accept b pos v) = refl
log_kind_low (Accepted b pos v) = refl
log_kind_low (Ask pos) = refl
log_kind_low (Learn pos v) = refl
log_kind_low (Behind pos) = refl

log_kind_high : (m : PaxMsg AnyValue) → log_kind m ≤ LAST_KIND
log_kind_high (Prepare b pos) = omega arith
log_kind_high (Promise b pos reports) = omega arith
log_kind_high (Accept b pos v) = omega arith
log_kind_high (Accepted b pos v) = omega arith
log_kind_high (Ask pos) = omega arith
log_kind_high (Learn pos v) = omega arith
log_kind_high (Behind pos) = omega arith

kind_low : (msg : Msg) → ltb (kind_of msg) 1 ≡ false
kind_low (msgs.Log m) = log_kind_low m
kind_low (msgs.Request seq request) = refl
kind_low (msgs.Reply who reply) = refl
kind_low (msgs.Token round token order) = refl
kind_low (msgs.Call number call) = refl
kind_low (msgs.Answer number code) = refl
kind_low (msgs.Have about number code) = refl
kind_low (msgs.Settle floor) = refl

kind_high : (msg : Msg) → kind_of msg ≤ LAST_KIND
kind_high (msgs.Log m) = log_kind_high m
kind_high (msgs.Request seq request) = omega arith
kind_high (msgs.Reply who reply) = omega arith
kind_high (msgs.Token round token order) = omega arith
kind_high (msgs.Call number call) = omega arith
kind_high (msgs.Answer number code) = omega arith
kind_high (msgs.Have about number code) = omega arith
kind_high (msgs.Settle floor) = omega arith

tier_small : (tier : Tier) → tier_number tier < 256
tier_small Mid = omega arith
tier_small Inv = omega arith
tier_small Pay = omega arith

end_number_small : (from : End) → end_number from < 256
end_number_small (Client client) = omega arith
end_number_small (Node n) = tier_small n.tier

end_index_small : (from : End) → IsEnd from → end_index from < 256
end_index_small (Client client) fits = omega (arith, fits.1)
end_index_small (Node n) fits = omega (arith, fits)

abbrev lead_for : End → Msg → Lead
lead_for from msg = record { version = FRAME_VERSION; kind = kind_of msg; tier = end_number from; index = end_index from; len = length (body msg) }

lead_fits : (from : End) (msg : Msg) → FitsFrame from msg → FitsLead (lead_for from msg)
lead_fits from msg fits =
    let kind = kind_high msg in
    let len = body_length (tier_of from) msg fits.message in
    (omega arith, (omega (arith, kind), (end_number_small from, (end_index_small from fits.sender, omega (arith, len)))))

judged_again : (from : End) (msg : Msg) → FitsFrame from msg → judged (lead_for from msg) ≡ Ok (header_for from msg)
unfolding judged
judged_again from msg fits =
    rw (
      kind_low msg,
      le-ltb LAST_KIND (kind_of msg) (kind_high msg),
      sender_again from fits.sender,
      fits.sent,
      le-ltb BODY_BYTES (length (body msg)) (body_length (tier_of from) msg fits.message),
    ) refl

-- a header of a message, before whatever follows
headed : (from : End) (msg : Msg) (left : List ℕ) → FitsFrame from msg
    → frame_of (lead_text (lead_for from msg) ++ left) ≡ framed (Ok (header_for from msg)) left
unfolding frame_of
headed from msg left fits =
    ap (λ (r : Read Lead). framed_by r) (lead_grammar.again (lead_for from msg) left (lead_fits from msg fits))
    ∙ ap (λ (j : HeaderRead). framed j left) (judged_again from msg fits)

not_below : (n : ℕ) → ltb n n ≡ false
not_below n = grind (arith)

pub frame_again : (from : End) (msg : Msg) → FitsFrame from msg → frame_of (frame from msg) ≡ Ok (header_for from msg, msg)
frame_again from msg fits =
    let there : body_at (tier_of from) (kind_of msg) (body msg) ≡ Some (msg, []) = ap
    (λ (w : List ℕ). body_at (tier_of from) (kind_of msg) w) (sym (append-nil (body msg)))
    ∙ body_again (tier_of from) msg [] fits.message in
    headed from msg (body msg) fits ∙ rw (not_below (length (body msg)), there) refl

-- ---- what is read

abbrev Framed : Type 0
Framed = Result (Header × Msg) Refused

abbrev framed_as : Header × Msg → Framed
framed_as found = Ok found

found_is : (a b : Header × Msg) → framed_as a ≡ framed_as b → a ≡ b
found_is a b e = cc

pub no_frame : (r : Refused) (found : Header × Msg) → Err r ≡ framed_as found → ⊥
no_frame r found e = cc

whole_by : (r : Read Msg) (msg : Msg) → whole r ≡ Some msg → r ≡ Some (msg, [])
whole_by None msg e = absurd cc
whole_by (Some (m, [])) msg e = ap (λ (z : Msg). Some (z, [])) (same_Some m msg e)
whole_by (Some (m, byte ∷ rest)) msg e = absurd cc

body_case : (header : Header) (o : Option Msg) (found : Header × Msg) → with_body header o ≡ Ok found → (o ≡ Some found.1) × (header ≡ found.0)
body_case header None found e = absurd (no_frame (refused.Row 6) found e)
body_case header (Some msg) found e =
    let same = found_is (header, msg) found e in
    (ap (λ (f : Header × Msg). Some f.1) same, ap (λ (f : Header × Msg). f.0) same)

abbrev FramedIs : Header → List ℕ → Header × Msg → Type 0
FramedIs header left found = (length left ≡ header.len) × ((body_at (tier_of header.from) header.kind left ≡ Some (found.1, [])) × (header ≡ found.0))

framed_takes : (header : Header) (left : List ℕ) (found : Header × Msg) → framed (Ok header) left ≡ Ok found → FramedIs header left found
framed_takes header left found e =
    elim (chosen {A = Framed} (ltb (length left) header.len) (Err refused.Short)
    (cond (ltb header.len (length left)) (Err (refused.Row 5))
    (with_body header (whole (body_at (tier_of header.from) header.kind left)))) (Ok found) e) [
      | inl h ↦ absurd (no_frame refused.Short found h.1)
      | inr h ↦ elim (chosen {A = Framed} (ltb header.len (length left)) (Err (refused.Row 5))
          (with_body header (whole (body_at (tier_of header.from) header.kind left))) (Ok found) h.1) [
            | inl k ↦ absurd (no_frame (refused.Row 5) found k.1)
            | inr k ↦
                let b = body_case header (whole (body_at (tier_of header.from) header.kind left)) found k.1 in (
                  omega (arith, ltb-false (length left) header.len h.0, ltb-false header.len (length left) k.0),
                  (whole_by (body_at (tier_of header.from) header.kind left) found.1 b.0, b.1),
                )
          ]
    ]

abbrev FoundIs : List ℕ → Header × Msg → Type 0
FoundIs bytes found = IsFrame bytes found.0.from found.1 × (found.0 ≡ header_for found.0.from found.1)

abbrev lead_of5 : ℕ → ℕ → ℕ → ℕ → ℕ → Lead
lead_of5 version kind tier index len = record { version = version; kind = kind; tier = tier; index = index; len = len }

same_lead : (a b c d e v w x y z : ℕ) → a ≡ v → b ≡ w → c ≡ x → d ≡ y → e ≡ z → lead_of5 a b c d e ≡ lead_of5 v w x y z
same_lead a b c d e v w x y z p q r s t = cc

abbrev header_of3 : ℕ → End → ℕ → Header
header_of3 kind from len = record { kind = kind; from = from; len = len }

same_header : (from : End) (a b v w : ℕ) → a ≡ v → b ≡ w → header_of3 a from b ≡ header_of3 v from w
same_header from a b v w p q = cc

assembled : (bytes : List ℕ) (l : Lead) (left : List ℕ) (header : Header) (msg : Msg) → Takes bytes (lead_text l) left
    → JudgedIs l header → length left ≡ header.len
    → body_at (tier_of header.from) header.kind left ≡ Some (msg, []) → FoundIs bytes (header, msg)
assembled bytes l left header msg taken is size there =
    let t = body_takes (tier_of header.from) header.kind left msg [] taken.rest_fits there in
    let all : left ≡ body msg = t.0.parts ∙ append-nil (body msg) in
    let kind : header.kind ≡ kind_of msg = sym t.1.1 in
    let len : header.len ≡ length (body msg) = sym size ∙ ap length all in
    let sender = is.1.1.1.1 in
    let same : l ≡ lead_for header.from msg = same_lead l.version l.kind l.tier l.index l.len FRAME_VERSION
    (kind_of msg) (end_number header.from) (end_index header.from) (length (body msg))
    is.0 (sym is.1.0 ∙ kind) (sym sender.0) (sym sender.1.0) (sym is.1.1.0 ∙ len) in
    let parts : bytes ≡ frame header.from msg = taken.parts ∙ ap (λ (k : Lead). lead_text k ++ left) same
    ∙ ap (λ (w : List ℕ). lead_text (lead_for header.from msg) ++ w) all in
    let sent : is_sent_by header.from (kind_of msg) ≡ true = subst (λ (k : ℕ). is_sent_by header.from k ≡ true) (sym is.1.0 ∙ kind) is.1.1.1.0 in (
      record { fit = record { sender = sender.1.1; sent = sent; message = t.1.0 }; parts = parts },
      same_header header.from header.kind header.len (kind_of msg) (length (body msg)) kind len,
    )

judged_case : (bytes : List ℕ) (l : Lead) (left : List ℕ) (j : HeaderRead) (found : Header × Msg)
    → Takes bytes (lead_text l) left → judged l ≡ j → framed j left ≡ Ok found → FoundIs bytes found
judged_case bytes l left (Err r) found taken is e = absurd (no_frame r found e)
judged_case bytes l left (Ok header) found taken is e =
    let f = framed_takes header left found e in
    let here = assembled bytes l left header found.1 taken (judged_takes l header is) f.0 f.1.0 in
    subst (λ (h : Header). FoundIs bytes (h, found.1)) f.1.1 here

lead_case : (bytes : List ℕ) (r : Read Lead) (found : Header × Msg) → IsBytes bytes → lead_at bytes ≡ r → framed_by r ≡ Ok found → FoundIs bytes found
lead_case bytes None found are is e = absurd (no_frame refused.Short found e)
lead_case bytes (Some field) found are is e =
    judged_case bytes field.0 field.1 (judged field.0) found (lead_grammar.takes bytes field.0 field.1 are is).0 refl e

pub frame_takes : (bytes : List ℕ) (found : Header × Msg) → IsBytes bytes → frame_of bytes ≡ Ok found
    → IsFrame bytes found.0.from found.1 × (found.0 ≡ header_for found.0.from found.1)
unfolding frame_of
frame_takes bytes found are e = lead_case bytes (lead_at bytes) found are refl e

-- ---- the answer of decoding

pub is_found : (bytes : List ℕ) (r : Result (Header × Msg) FrameErr) → IsBytes bytes → Decodes r (frame_of bytes)
    → IfOk r (λ f. IsFrame bytes f.0.from f.1 × (f.0 ≡ header_for f.0.from f.1))
is_found bytes (Ok found) are e = frame_takes bytes found are e
is_found bytes (Err x) are e = tt

pub is_only : (bytes : List ℕ) (r : Result (Header × Msg) FrameErr) (from : End) (msg : Msg)
    → Decodes r (frame_of bytes) → IsFrame bytes from msg → GivesOrMemory r (header_for from msg, msg)
is_only bytes (Ok found) from msg e is = found_is found (header_for from msg, msg) (sym e
    ∙ ap (λ (w : List ℕ). frame_of w) is.parts ∙ frame_again from msg is.fit)
is_only bytes (Err (errors.Refused r)) from msg e is = no_frame r (header_for from msg, msg) (sym e
    ∙ ap (λ (w : List ℕ). frame_of w) is.parts ∙ frame_again from msg is.fit)
is_only bytes (Err errors.Memory) from msg e is = tt

-- ---- no frame begins another

pub frames_distinct : (a b : End) (m n : Msg) (x y : List ℕ) → FitsFrame a m → FitsFrame b n → frame a m ++ x ≡ frame b n ++ y → (a ≡ b) × ((m ≡ n) × (x ≡ y))
frames_distinct a b m n x y fa fb e =
    let d = distinct FitsLead lead_text lead_at lead_grammar (lead_for a m) (lead_for b n) (body m ++ x) (body n ++ y)
    (lead_fits a m fa) (lead_fits b n fb) e in
    let ends : a ≡ b = same_Some a b (sym (sender_again a fa.sender) ∙ ap (λ (l : Lead). sender_of l.tier l.index) d.0 ∙ sender_again b fb.sender) in
    let kinds : kind_of m ≡ kind_of n = ap (λ (l : Lead). l.kind) d.0 in
    let reads : body_at (tier_of a) (kind_of m) (body m ++ x) ≡ body_at (tier_of b) (kind_of n) (body n ++ y)
    = ap (λ (f : End). body_at (tier_of f) (kind_of m) (body m ++ x)) ends
    ∙ ap (λ (k : ℕ). body_at (tier_of b) k (body m ++ x)) kinds ∙ ap (λ (w : List ℕ). body_at (tier_of b) (kind_of n) w) d.1 in
    let same = same_Some (m, x) (n, y) (sym (body_again (tier_of a) m x fa.message) ∙ reads ∙ body_again (tier_of b) n y fb.message) in
    (ends, (ap (λ (p : Msg × List ℕ). p.0) same, ap (λ (p : Msg × List ℕ). p.1) same))

some_length : (more : List ℕ) → (more ≡ [] → ⊥) → 0 < length more
some_length [] some = absurd (some refl)
some_length (byte ∷ more) some = omega arith

pub longer : (from : End) (msg : Msg) (more : List ℕ) → FitsFrame from msg → (more ≡ [] → ⊥) → refusal (frame from msg ++ more) ≡ Some (refused.Row 5)
longer from msg more fits some =
    let above : length (body msg) < length (body msg ++ more) = omega (arith, length-append (body msg) more, some_length more some) in
    ap (λ (r : Framed). refused_by r) (headed from msg (body msg ++ more) fits)
    ∙ rw (
      le-ltb (length (body msg ++ more)) (length (body msg)) (omega (arith, above)),
      lt-ltb (length (body msg)) (length (body msg ++ more)) above,
    ) refl

shorter : (from : End) (msg : Msg) (left rest : List ℕ) → FitsFrame from msg → body msg ≡ left ++ rest → (rest ≡ [] → ⊥)
    → refusal (lead_text (lead_for from msg) ++ left) ≡ Some refused.Short
shorter from msg left rest fits parts some =
    let below : length left < length (body msg) = omega (arith, ap length parts, length-append left rest, some_length rest some) in
    ap (λ (r : Framed). refused_by r) (headed from msg left fits) ∙ rw (lt-ltb (length left) (length (body msg)) below) refl

six : (v k t i h l a b c d e f : ℕ) (all left rest : List ℕ) → v ∷ (k ∷ (t ∷ (i ∷ (h ∷ (l ∷ all))))) ≡ a ∷ (b ∷ (c ∷ (d ∷ (e ∷ (f ∷ (left ++ rest))))))
    → (v ∷ (k ∷ (t ∷ (i ∷ (h ∷ (l ∷ left))))) ≡ a ∷ (b ∷ (c ∷ (d ∷ (e ∷ (f ∷ left)))))) × (all ≡ left ++ rest)
six v k t i h l a b c d e f all left rest same = (cc, cc)

six_by : (v k t i : ℕ) (w : List ℕ) (a b c d e f : ℕ) (all left rest : List ℕ) → length w ≡ 2
    → v ∷ (k ∷ (t ∷ (i ∷ (w ++ all)))) ≡ a ∷ (b ∷ (c ∷ (d ∷ (e ∷ (f ∷ (left ++ rest))))))
    → (v ∷ (k ∷ (t ∷ (i ∷ (w ++ left)))) ≡ a ∷ (b ∷ (c ∷ (d ∷ (e ∷ (f ∷ left)))))) × (all ≡ left ++ rest)
six_by v k t i [] a b c d e f all left rest two same = absurd (omega (arith, two))
six_by v k t i (h ∷ []) a b c d e f all left rest two same = absurd (omega (arith, two))
six_by v k t i (h ∷ (l ∷ [])) a b c d e f all left rest two same = six v k t i h l a b c d e f all left rest same
six_by v k t i (h ∷ (l ∷ (z ∷ zs))) a b c d e f all left rest two same = absurd (omega (arith, two))

pub prefix : (from : End) (msg : Msg) (front rest : List ℕ) → FitsFrame from msg → frame from msg ≡ front ++ rest
    → (rest ≡ [] → ⊥) → refusal front ≡ Some refused.Short
unfolding frame_of lead_at
prefix from msg [] rest fits e some = refl
prefix from msg (a ∷ []) rest fits e some = refl
prefix from msg (a ∷ (b ∷ [])) rest fits e some = refl
prefix from msg (a ∷ (b ∷ (c ∷ []))) rest fits e some = refl
prefix from msg (a ∷ (b ∷ (c ∷ (d ∷ [])))) rest fits e some = refl
prefix from msg (a ∷ (b ∷ (c ∷ (d ∷ (x ∷ []))))) rest fits e some = refl
prefix from msg (a ∷ (b ∷ (c ∷ (d ∷ (x ∷ (y ∷ left)))))) rest fits e some =
    let s = six_by FRAME_VERSION (kind_of msg) (end_number from) (end_index from) (to_be_bytes w16 (length (body msg)))
    a b c d x y (body msg) left rest refl e in
    ap (λ (w : List ℕ). refusal w) (sym s.0) ∙ shorter from msg left rest fits s.1 some
