-- What the rounds of a node keep true.
use Rattle.std.specs.Prelude.{ℕ, suc, ◌+◌, ◌*◌, ◌≤◌, List, [], ◌∷◌, map, length}
use Rattle.std.specs.List.{All}
use Rattle.aeg_base.specs.declared.names.ReqId.{ReqId}
use Rattle.aeg_base.specs.declared.names.Tier.{Tier}
use Rattle.svc_api.specs.Requests.{IsRequest}
use Rattle.round_model.specs.Lists.{concat, of_tier}
use Rattle.round_model.specs.Service.{times}
use Rattle.round_model.specs.Tables.{Parked}
use Rattle.pipeline.specs.States.{RoundsState, calling}

-- who asked
abbrev pub asker : Parked → ReqId
asker p = record { client = p.client; seq = p.seq }

abbrev pub owner : Parked → ℕ
owner p = p.client

abbrev pub IsWaiting : Parked → Type 0
IsWaiting p = IsRequest (asker p)

-- the numbers of their calls rise, from lo on and below hi
abbrev pub Rise : ℕ → ℕ → List Parked → Type 0
Rise lo hi [] = lo ≤ hi
Rise lo hi (p ∷ ps) = (lo ≤ p.num) × Rise (suc p.num) hi ps

-- Requests of different clients wait. The calls of a tier are numbered from 1 in the order in which they wait, below the
-- next number; and a round makes at most 16 of them.
pub record IsInRange (s : RoundsState) : Type 0 where
  pub rounds : s.next ≤ 2048
  pub deep : 1 ≤ length s.queue
  pub requests : All IsWaiting (concat s.queue)
  pub once : (c : ℕ) → times c (map owner (concat s.queue)) ≤ 1
  pub few : (t : Tier) → of_tier s.numbers t ≤ 16 * s.next + 1
  pub rise : (t : Tier) → Rise 1 (of_tier s.numbers t) (calling t (concat s.queue))
