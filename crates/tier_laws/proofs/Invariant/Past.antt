-- The past that the invariant speaks of: what nodes ever held, the chosen log, the one server, runs and requests. It only
-- grows.
use Rattle.std.proofs.Common.{◌≡◌, ℕ, Bool, true, List}
use Rattle.aeg_base.specs.declared.names.Tier.{Tier}
use Rattle.aeg_base.specs.declared.names.Tier.TheVariants.{Mid as MidTier}
use Rattle.log_values.specs.declared.any_value.AnyValue.{AnyValue}
use Rattle.log_values.specs.declared.entry.Entry.{Entry}
use Rattle.tier_laws.proofs.MidNodes.CodesOfFacts.{Code, code_of}
use Rattle.round_model.specs.Lists.{is_some}
use Rattle.round_model.specs.Verdicts.{Vote}
use Rattle.tier_laws.proofs.Rounds.AnyOrder.{Kept}
use Rattle.tier_laws.proofs.Rounds.StableRounds.{MoreLog}
use Rattle.tier_laws.proofs.Server.LookUps.{Server}

pub record Past (B : Type 0) : Type 0 where
  -- the Held facts that each node ever wrote, the oldest first
  pub codes : Tier → ℕ → List Code
  pub log : List AnyValue
  pub server : Server B
  pub runs : List Vote
  pub submitted : List Entry

-- the middle node x wrote that it holds the answer
abbrev pub holds : {B : Type 0} → Past B → Tier → ℕ → ℕ → Bool
holds P t n x = is_some (code_of (P.codes MidTier x) t n)

pub record Grows {B : Type 0} (P Q : Past B) : Type 0 where
  pub held : (x : ℕ) (t : Tier) (n : ℕ) → holds P t n x ≡ true → holds Q t n x ≡ true
  pub log : MoreLog P.log Q.log
  pub kept : Kept P.server Q.server
  pub runs : MoreLog P.runs Q.runs
  pub submitted : MoreLog P.submitted Q.submitted
