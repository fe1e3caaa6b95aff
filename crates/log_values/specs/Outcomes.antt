-- Tokens: the text of a job's outcome. Orders of segments.
use Rattle.std.specs.Prelude.{◌≡◌, ℕ, zero, suc, ◌<◌, ◌≤◌, ◌^◌, List, [], ◌∷◌, ◌++◌, length, Option, Some, None, Bool}
use Rattle.std.specs.Prelude.{true, nat_lt, nat_le, ◌&&◌, ◌||◌, ◌==◌, if◌then◌else◌}
use Rattle.std.specs.List.{flat_map, list_any, AllByRecursion}
use Rattle.std.specs.Int.{w16, w32, w64, to_be_bytes}
use Rattle.aeg_base.specs.declared.limits.TheConstants.{KEY_CLASSES}
use Rattle.aeg_base.specs.declared.names.Key.{Key}
use Rattle.svc_api.specs.declared.action.Ending.{Ending}
use Rattle.svc_api.specs.declared.action.Ending.TheVariants as ends
use Rattle.svc_api.specs.declared.outcome.Outcome.{Outcome}
use Rattle.svc_api.specs.Orders.{is_order}
use Rattle.svc_api.specs.Plan.{IsEnding, IsKey}
use Rattle.aeg_wire.specs.Fields.{Read, ◌>>=◌, byte_at, bytes_at, number_at, text, text_at}
use Rattle.aeg_wire.specs.Formats.{made, kept, both, counted_at}
use Rattle.log_values.specs.declared.format.TheConstants.{TOKEN_PAIRS, TOKEN_ENDS, REPLY_END, CALL_END}
use Rattle.log_values.specs.Fields.{tier_number, backend_at, stage_at}

-- ---- keys and values

-- class, id and value
abbrev pub pair : Key × ℕ → List ℕ
pair p = p.0.class ∷ (to_be_bytes w32 p.0.id ++ to_be_bytes w64 p.1)

abbrev pub is_key_below : Key → Key → Bool
is_key_below a b = nat_lt a.class b.class || ((a.class == b.class) && nat_lt a.id b.id)

-- the key comes after the last one, if there was one
abbrev pub is_after : Option Key → Key → Bool
is_after None key = true
is_after (Some last) key = is_key_below last key

-- the keys rise, from the last one on
abbrev pub rises : Option Key → List (Key × ℕ) → Bool
rises last [] = true
rises last (p ∷ pairs) = is_after last p.0 && rises (Some p.0) pairs

-- a pair whose key comes after the last one
unfoldable pub pair_at : Option Key → List ℕ → Read (Key × ℕ)
pair_at last bytes = kept (λ p. is_after last p.0) (made (λ p. (record { class = p.0; id = p.1.0 }, p.1.1))
    (both (λ b. kept (λ n. nat_lt n KEY_CLASSES) (byte_at b)) (λ _. both (number_at w32) (λ _. number_at w64)) bytes))

-- so many pairs, whose keys rise
unfoldable pub pairs_at : Option Key → ℕ → List ℕ → Read (List (Key × ℕ))
pairs_at last zero bytes = Some ([], bytes)
pairs_at last (suc n) bytes = pair_at last bytes >>= λ p. made (λ others. p.0 ∷ others) (pairs_at (Some p.0.0) n p.1)

abbrev pub FitsPair : Key × ℕ → Type 0
FitsPair p = IsKey p.0 × (p.1 < 2 ^ 64)

-- ---- ends of segments

-- 0 and a reply's text, or 1, a call's tier, the stage after it and its text
abbrev pub ending : Ending → List ℕ
ending (ends.Reply reply) = REPLY_END ∷ text reply
ending (ends.Call tier stage body) = CALL_END ∷ (tier_number tier ∷ (stage ∷ text body))

unfoldable pub ending_at : List ℕ → Read Ending
ending_at bytes = byte_at bytes >>= λ lead.
    if lead.0 == REPLY_END then made ends.Reply (text_at lead.1)
    else if lead.0 == CALL_END then made (λ p. ends.Call p.0 p.1.0 p.1.1) (both backend_at (λ _. both stage_at (λ _. text_at)) lead.1)
    else None

-- ---- outcomes

-- the count of the pairs in two bytes, the pairs, the count of the ends in a byte, the ends
abbrev pub outcome : Outcome → List ℕ
outcome o = to_be_bytes w16 (length o.pairs) ++ (flat_map pair o.pairs ++ (length o.ends ∷ flat_map ending o.ends))

-- at most 256 pairs, whose keys rise, and 32 ends
pub record FitsOutcome (o : Outcome) : Type 0 where
  pub count : length o.pairs ≤ TOKEN_PAIRS
  pub pairs : AllByRecursion FitsPair o.pairs
  pub sorted : rises None o.pairs ≡ true
  pub end_count : length o.ends ≤ TOKEN_ENDS
  pub ends : AllByRecursion IsEnding o.ends

-- the pairs behind their count
unfoldable pub all_pairs_at : List ℕ → Read (List (Key × ℕ))
all_pairs_at bytes = kept (λ n. nat_le n TOKEN_PAIRS) (number_at w16 bytes) >>= λ n. pairs_at None n.0 n.1

-- the ends behind their count
unfoldable pub all_ends_at : List ℕ → Read (List Ending)
all_ends_at bytes = counted_at TOKEN_ENDS ending_at bytes

unfoldable pub outcome_at : List ℕ → Read Outcome
outcome_at bytes = made (λ p. record { pairs = p.0; ends = p.1 }) (both all_pairs_at (λ _. all_ends_at) bytes)

-- ---- orders of segments

abbrev pub is_in : ℕ → List ℕ → Bool
is_in n numbers = list_any (λ m. m == n) numbers

-- the count in a byte, and the numbers
abbrev pub order_text : List ℕ → List ℕ
order_text order = length order ∷ order

-- an order of so many segments
unfoldable pub order_at : ℕ → List ℕ → Read (List ℕ)
order_at count bytes = kept (λ order. (length order == count) && is_order (length order) order) (byte_at bytes >>= λ n. bytes_at n.0 n.1)

-- ---- a token with an order of its segments

abbrev pub commit : List ℕ × List ℕ → List ℕ
commit c = c.0 ++ order_text c.1

-- the token is the text of an outcome, and the order has a number for each of its ends
pub record IsCommit (token order : List ℕ) : Type 0 where
  pub told : Outcome
  pub fits : FitsOutcome told
  pub spelled : token ≡ outcome told
  pub count : length order ≡ length told.ends
  pub permutes : is_order (length order) order ≡ true

-- a token, and how many ends it has
unfoldable pub token_at : List ℕ → Read (List ℕ × ℕ)
token_at bytes = made (λ o. (outcome o, length o.ends)) (outcome_at bytes)

unfoldable pub commit_at : List ℕ → Read (List ℕ × List ℕ)
commit_at bytes = token_at bytes >>= λ t. made (λ order. (t.0.0, order)) (order_at t.0.1 t.1)
