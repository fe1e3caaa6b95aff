-- The states in range of a middle node.
use Rattle.std.specs.Prelude.{◌≡◌, ℕ, ◌*◌, ◌<◌, ◌≤◌, List, length, Option, IfSome, IsSome}
use Rattle.std.specs.List.{AllByRecursion}
use Rattle.aeg_base.specs.declared.limits.TheConstants.{LAST_SEQ, ROUNDS}
use Rattle.aeg_base.specs.declared.names.ReqId.{ReqId}
use Rattle.aeg_base.specs.declared.names.Tier.{Tier}
use Rattle.aeg_base.specs.declared.names.Tier.TheVariants as tiers
use Rattle.svc_api.specs.Plan.{IsBackend}
use Rattle.log_model.specs.Log.{open_at}
use Rattle.log_model.specs.Ranges.{IsLogIn}
use Rattle.log_values.specs.declared.entry.Entry.{Entry}
use Rattle.log_values.specs.Fields.{FitsBallot, IsCallNumber, IsText}
use Rattle.log_values.specs.Outcomes.{IsCommit}
use Rattle.log_values.specs.Values.{FitsEntry}
use Rattle.frames.specs.LogMessages.{IsCarried}
use Rattle.round_model.specs.declared.answer.Answer.{Answer}
use Rattle.round_model.specs.Lists.{concat}
use Rattle.round_model.specs.Service.{Programs}
use Rattle.round_model.specs.Tables.{Parked, Tables}
use Rattle.round_model.specs.Verdicts.{Claims, Vote}
use Rattle.round_model.specs.Held.{HeldState, answers_of}
use Rattle.batcher.specs.Waiting.{ArePending}
use Rattle.pipeline.specs.States.{RoundsState}
use Rattle.pipeline.specs.Kept.{IsInRange}
use Rattle.tier_laws.specs.Said.{IsStore}
use Rattle.tier_model.specs.Mid.{Mid}

-- THE TABLES OF THE ROUNDS

abbrev pub asker : Parked → ReqId
asker p = record { client = p.client; seq = p.seq }

-- It waits for a call that has a frame, and its request has a segment at the stage at which it goes on.
pub record IsParkedIn (m : Programs) (p : Parked) : Type 0 where
  pub tier : IsBackend p.tier
  pub number : IsCallNumber p.num
  pub text : IsText p.text
  pub body : IsText p.body
  pub low : 1 ≤ p.stage
  pub high : p.stage ≤ 3
  pub stage : IsSome (m.table (asker p) p.body p.stage)

-- what is kept of the rounds, once so many are applied
abbrev pub rounds_in : ℕ → Tables → RoundsState
rounds_in applied T = record { next = applied; queue = T.queue; numbers = T.next }

-- Stores, numbers and replies have a spelling. The requests that wait are of different clients, and their calls are
-- numbered in order, at most 16 in a round.
pub record AreTablesIn (m : Programs) (depth applied : ℕ) (T : Tables) : Type 0 where
  pub store : IsStore T.store
  pub last : AllByRecursion (λ seq. seq ≤ LAST_SEQ) T.last
  pub kept : AllByRecursion (λ reply. IfSome reply IsText) T.kept
  pub depth_is : length T.queue ≡ depth
  pub rounds : IsInRange (rounds_in applied T)
  pub parked : AllByRecursion (IsParkedIn m) (concat T.queue)

-- ENTRIES, CLAIMS AND ANSWERS

-- each stands at its client's place, and has a spelling
pub record ArePendingIn (pending : List (Option Entry)) : Type 0 where
  pub stand : ArePending pending
  pub fit : AllByRecursion (λ entry. IfSome entry FitsEntry) pending

-- what the nodes of a tier claim in a round
pub record AreClaimsIn (claims : Claims) : Type 0 where
  pub places : length claims ≡ 5
  pub fit : AllByRecursion (λ claim. IfSome claim (λ c. IsCommit c.token c.order)) claims

-- with the round
abbrev pub IsTallyIn : ℕ × Claims → Type 0
IsTallyIn e = (e.0 < ROUNDS) × AreClaimsIn e.1

-- the node's own run of the next round
pub record IsSpecIn (x applied : ℕ) (v : Vote) : Type 0 where
  pub own : v.from ≡ x
  pub next : v.round ≡ applied
  pub round : v.round < ROUNDS
  pub fits : IsCommit v.token v.order

-- an answer with its call's number
abbrev pub IsAnswerIn : ℕ × Answer → Type 0
IsAnswerIn e = IsCallNumber e.0 × ((e.1.code < 256) × (length e.1.noted ≡ 5))

pub record IsHeldIn (u x : ℕ) (h : HeldState) : Type 0 where
  pub faults : h.faults ≡ u
  pub me : h.me ≡ x
  pub answers : (t : Tier) → AllByRecursion IsAnswerIn (answers_of h t)

-- THE NODE

-- The node x of 2u+1, with a pipeline of this depth: its log has values that frames of the middle tier can carry, and the
-- rounds that are applied have their batches and verdicts in it.
pub record IsMidIn (m : Programs) (u depth x : ℕ) (σ : Mid) : Type 0 where
  pub log : IsLogIn (IsCarried tiers.Mid) FitsBallot σ.log
  pub applied : 2 * σ.applied ≤ open_at σ.log
  pub tables : AreTablesIn m depth σ.applied σ.tables
  pub pending : ArePendingIn σ.pending
  pub tally : AllByRecursion IsTallyIn σ.tally
  pub spec : IfSome σ.spec (IsSpecIn x σ.applied)
  pub held : IsHeldIn u x σ.held
