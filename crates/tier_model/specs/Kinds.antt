-- One kind of node: how a node of a tier takes frames and commands, and what a restart restores.
use Rattle.std.specs.Prelude.{ℕ, List}
use Rattle.aeg_base.specs.declared.names.Tier.{Tier}
use Rattle.aeg_base.specs.declared.names.Tier.TheVariants as tiers
use Rattle.aeg_base.specs.declared.names.End.{End}
use Rattle.log_values.specs.declared.fact.Fact.{Fact}
use Rattle.frames.specs.declared.message.Msg.{Msg}
use Rattle.round_model.specs.Service.{Programs, Backend, Service}
use Rattle.tier_model.specs.Moves.{Move}
use Rattle.tier_model.specs.Mid.{Mid}
use Rattle.tier_model.specs.MidRows as mids
use Rattle.tier_model.specs.Back.{Back}
use Rattle.tier_model.specs.BackRows as backs

-- the rows of a node with states S; the facts that a restart reads have the newest one in front
pub record Kind (S : Type 0) : Type 0 where
  pub on_frame : End → Msg → S → Move S
  pub leads : S → Move S
  pub offers : S → Move S
  pub retry : S → Move S
  pub recovered : List Fact → S

-- the middle node x of 2u+1, with a pipeline of this depth
abbrev pub mid_kind : ℕ → Programs → ℕ → ℕ → Kind Mid
mid_kind u m depth x = record {
  on_frame = λ from message σ. mids.on_frame u m x σ from message;
  leads = mids.leads u m x;
  offers = mids.offers u m x;
  retry = mids.retry u x;
  recovered = mids.recovered u m depth x;
}

-- the node x of a backend's tier
abbrev pub back_kind : {B : Type 0} → ℕ → Backend B → Tier → ℕ → Kind (Back B)
back_kind u b t x = record {
  on_frame = λ from message σ. backs.on_frame u b t x σ from message;
  leads = backs.leads u b t x;
  offers = backs.offers u b t x;
  retry = backs.retry u t x;
  recovered = backs.recovered u b;
}

-- the states of a tier's nodes
abbrev pub State : Type 0 → Tier → Type 0
State B tiers.Mid = Mid
State B tiers.Inv = Back B
State B tiers.Pay = Back B

abbrev pub kind : {B : Type 0} → ℕ → Service B → ℕ → (t : Tier) → ℕ → Kind (State B t)
kind u m depth tiers.Mid x = mid_kind u m.programs depth x
kind u m depth tiers.Inv x = back_kind u (m.backend tiers.Inv) tiers.Inv x
kind u m depth tiers.Pay x = back_kind u (m.backend tiers.Pay) tiers.Pay x
