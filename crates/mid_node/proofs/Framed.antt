-- Frames that a middle node takes.
use Rattle.std.proofs.Common.{◌≡◌, ℕ, Bool, true, false, cond, List, sym, ◌∙◌, subst, Result}
use Rattle.std.specs.Prelude.{not}
use Rattle.aeg_base.specs.declared.memory.Memory.{Memory}
use Rattle.aeg_base.specs.declared.names.End.{End}
use Rattle.aeg_base.specs.declared.names.End.TheVariants.{Client}
use Rattle.aeg_base.specs.declared.names.Tier.{Tier}
use Rattle.aeg_base.specs.declared.names.Tier.TheVariants as tiers
use Rattle.frames.specs.declared.message.Msg.{Msg}
use Rattle.frames.specs.declared.message.Msg.TheVariants as msgs
use Rattle.frames.specs.Headers.{end_index}
use Rattle.round_model.specs.Service.{Programs, is_request}
use Rattle.tier_model.specs.Moves.{Move, drops, is_node_of, tier_of}
use Rattle.tier_model.specs.Mid.{Mid}
use Rattle.tier_model.specs.MidRows.{is_backend_node, on_answer, on_frame, on_have, on_request, on_token}
use Rattle.node_log.specs.declared.decided.Decided.{Decided}
use Rattle.node_log.specs.declared.member.Member.{Member}
use Rattle.node_log.specs.declared.working.Working.{Working}
use Rattle.mid_rounds.specs.declared.keeping.Keeping.{Keeping}
use Rattle.mid_rounds.specs.Deciding.{DecidesMove, mid_in}

module _ (p : Programs) (m : Member) (old new : Working Keeping) (before after : List (End × List ℕ)) (decided : Result Decided Memory) (from : End) where
  abbrev u : ℕ
  u = m.faults

  abbrev x : ℕ
  x = m.me.index

  abbrev σ : Mid
  σ = mid_in m old

  abbrev Comes : Move Mid → Type 0
  Comes move = DecidesMove p m move old new before after decided

  -- the test of a row holds
  taken : (b : Bool) (a d : Move Mid) → b ≡ true → Comes a → Comes (cond {A = Move Mid} b a d)
  taken true a d e k = k
  taken false a d e k = absurd cc

  unrefused : (b : Bool) (a d : Move Mid) → b ≡ true → Comes d → Comes (cond {A = Move Mid} (not b) a d)
  unrefused true a d e k = k
  unrefused false a d e k = absurd cc

  -- a client's request
  pub asked : (client seq : ℕ) (body : List ℕ) (is : Bool) → from ≡ Client client → is ≡ true
      → is ≡ is_request p (record { client = client; seq = seq }) body → Comes (on_request x σ client seq body)
      → Comes (on_frame u p x σ from (msgs.Request seq body))
  asked client seq body is e holds row k = subst (λ (z : End). Comes (on_frame u p x σ z (msgs.Request seq body))) (sym e)
      (unrefused (is_request p (record { client = client; seq = seq }) body) (drops σ 8) (on_request x σ client seq body) (sym row ∙ holds) k)

  -- a token of a node of the tier
  pub claimed : (message : Msg) (r index : ℕ) (token order items : List ℕ) → message ≡ msgs.Token r token order → is_node_of u tiers.Mid from ≡ true
      → index ≡ end_index from → items ≡ order
      → Comes (on_token σ (record { round = r; from = index; token = token; order = items })) → Comes (on_frame u p x σ from message)
  claimed message r index token order items e node index_is items_is k =
      subst (λ (z : Msg). Comes (on_frame u p x σ from z)) (sym e)
      (taken (is_node_of u tiers.Mid from) (on_token σ (record { round = r; from = end_index from; token = token; order = order })) (drops σ 7) node
      (subst (λ (z : ℕ). Comes (on_token σ (record { round = r; from = z; token = token; order = order }))) index_is
      (subst (λ (z : List ℕ). Comes (on_token σ (record { round = r; from = index; token = token; order = z }))) items_is k)))

  -- an answer of a backend's node
  pub answered : (message : Msg) (t : Tier) (n code : ℕ) → message ≡ msgs.Answer n code → is_backend_node u from ≡ true → t ≡ tier_of from
      → Comes (on_answer u x σ t n code) → Comes (on_frame u p x σ from message)
  answered message t n code e node tier_is k =
      subst (λ (z : Msg). Comes (on_frame u p x σ from z)) (sym e)
      (taken (is_backend_node u from) (on_answer u x σ (tier_of from) n code) (drops σ 7) node
      (subst (λ (z : Tier). Comes (on_answer u x σ z n code)) tier_is k))

  -- a node of the tier has an answer
  pub heard : (message : Msg) (index : ℕ) (t : Tier) (n code : ℕ) → message ≡ msgs.Have t n code → is_node_of u tiers.Mid from ≡ true
      → index ≡ end_index from → Comes (on_have u x σ index t n code) → Comes (on_frame u p x σ from message)
  heard message index t n code e node index_is k =
      subst (λ (z : Msg). Comes (on_frame u p x σ from z)) (sym e)
      (taken (is_node_of u tiers.Mid from) (on_have u x σ (end_index from) t n code) (drops σ 7) node
      (subst (λ (z : ℕ). Comes (on_have u x σ z t n code)) index_is k))
