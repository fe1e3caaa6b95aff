-- A middle node's moves and restarts are right steps of a node.
use Rattle.std.proofs.Common.{◌≡◌, ℕ, ◌+◌, ◌*◌, ◌<◌, List, [], length, refl, sym, ap, ◌∙◌, subst, Option, Some, None, zero, suc}
use Rattle.std.specs.Prelude.{slice_get}
use Rattle.aeg_base.specs.declared.names.Tier.TheVariants.{Mid as MidTier}
use Rattle.log_model.specs.Log.{LogState}
use Rattle.log_model.specs.Recover.{learned_in, recover}
use Rattle.log_model.specs.declared.fact.Fact.{Fact as LogFact}
use Rattle.log_values.specs.declared.any_value.AnyValue.{AnyValue}
use Rattle.log_values.specs.declared.fact.Fact.{Fact}
use Rattle.round_model.specs.Service.{Service}
use Rattle.round_model.specs.Tables.{tables0}
use Rattle.round_model.specs.Verdicts.{Vote}
use Rattle.run_model.specs.Runs.{log_soup}
use Rattle.run_model.specs.World.{Config, World}
use Rattle.tier_laws.proofs.Rounds.DecidedRounds.{apply_ok, no_claim}
use Rattle.tier_laws.proofs.MidNodes.CodesOfFacts.{codes_in}
use Rattle.tier_laws.proofs.Events.OneNodeChanges.{Inv, UpOk, known_now, past}
use Rattle.tier_laws.proofs.MidNodes.HeldAnswers.{restored_held}
use Rattle.tier_laws.proofs.Server.GrowingHistory.{TablesOk}
use Rattle.tier_laws.proofs.Lists.ItemsByIndex.{at-replicate}
use Rattle.tier_laws.proofs.Server.LookUps.{Server}
use Rattle.tier_laws.proofs.Server.MirroredTables.{no_parked}
use Rattle.tier_laws.proofs.MidNodes.RightMoves.{Here, MoveOk}
use Rattle.tier_laws.proofs.Events.GrowingPast.{Grows, Known, MidOther, Past}
use Rattle.tier_laws.proofs.Rounds.StableRounds.{MoreLog}
use Rattle.tier_laws.proofs.Events.AtNodes.{Restores, StepOk}
use Rattle.tier_model.specs.Mid.{Mid, Ready, apply, ready}
use Rattle.tier_model.specs.MidRows.{bare, catch_up, recovered}
use Rattle.tier_model.specs.Moves.{Move, Packet, log_facts}

pub mid_step : {B : Type 0} (c : Config B) (P : Past B) (h : ℕ → List (LogFact AnyValue)) (soup : List Packet) (x : ℕ)
    (rs : List Vote) (v : Move Mid) → MoveOk c P h soup x rs v → StepOk c P MidTier h soup x rs v
mid_step c P h soup x rs v k = record {
  turn = k.turn;
  turn_ok = k.turn_ok;
  good = k.good;
  is_facts = k.is_facts;
  is_sends = k.is_sends;
  is_log = k.is_log;
  others = k.others;
  codes = k.codes;
  runs = k.runs;
  later = λ Q g kn e did. let l = k.later Q g kn e did in record { beside = l.other; sends = l.sends };
}

-- what is known where x is up
pub here : {B : Type 0} (c : Config B) (w : World B) (x : ℕ) (σ : Mid) → c.u < 128 → x < 2 * c.u + 1 → (i : Inv c w)
    → UpOk c (past c w i.codes) MidTier (i.h MidTier) (log_soup MidTier w.soup) x (w.nodes MidTier x).records σ
    → Here c (past c w i.codes) (i.h MidTier) w.soup x σ
here c w x σ few lx i up = record {
  few = few;
  inside = lx;
  laws = i.core.laws;
  history = (i.core.logs MidTier).history;
  log = up.log;
  good = (i.core.logs MidTier).good;
  complete = i.done.all MidTier;
  other = up.beside;
  known = known_now c w i.codes i.h i.core;
}

-- RESTART

pub start_tables : {B : Type 0} (D : ℕ) (O : Server B) → TablesOk O (tables0 D)
start_tables D O = record {
  kept = λ y text e. absurd (let f : None ≡ Some text = sym (at-replicate None 17 y) ∙ e in cc);
  parked = λ i p e. absurd (let f : slice_get [] i ≡ Some p = subst (λ z. slice_get z i ≡ Some p) (no_parked D) e in cc);
}

record Caught {B : Type 0} (c : Config B) (P : Past B) (x : ℕ) (s : LogState AnyValue) (σ : Mid) : Type 0 where
  other : MidOther c P x σ
  same : σ.log ≡ s

catch_up_ok : {B : Type 0} (c : Config B) (P : Past B) (x n : ℕ) (σ : Mid) → Known c P → MidOther c P x σ
    → MoreLog σ.log.learned P.log → Caught c P x σ.log (catch_up c.service.programs n σ)
catch_up_ok c P x zero σ k o pre = record { other = o; same = refl }
catch_up_ok {B} c P x (suc n) σ k o pre = go (ready c.service.programs σ) refl (λ R e. catch_up_ok c P x n (apply σ R) k (apply_ok c P x σ R k o pre e).0 pre)
  where
    go : (q : Option Ready) → ready c.service.programs σ ≡ q
        → ((R : Ready) → ready c.service.programs σ ≡ Some R → Caught c P x σ.log (catch_up c.service.programs n (apply σ R)))
        → Caught c P x σ.log (elim q [ None ↦ σ | Some R ↦ catch_up c.service.programs n (apply σ R) ])
    go None e r = record { other = o; same = refl }
    go (Some R) e r = r R e

recovered_ok : {B : Type 0} (c : Config B) (P : Past B) (x : ℕ) (F : List Fact) → Known c P
    → codes_in F ≡ P.codes MidTier x → MoreLog (learned_in (log_facts F)) P.log
    → Caught c P x (recover c.u (log_facts F)) (recovered c.u c.service.programs c.depth x F)
recovered_ok c P x F k e pre = catch_up_ok c P x (length (recover c.u (log_facts F)).learned) (bare c.u c.depth x F) k (record {
  is_after = refl;
  tables = start_tables c.depth P.server;
  pending = λ y d f. absurd (let g : None ≡ Some d = sym (at-replicate None 17 y) ∙ f in cc);
  tally = λ r y q f. absurd (no_claim 5 y q f);
  in_order = refl;
  spec = λ v f. absurd (cc);
  held = restored_held c P x F e;
}) pre

pub mid_restores : {B : Type 0} (c : Config B) (w : World B) (i : Inv c w) (x : ℕ) → Restores c w i MidTier x (recovered c.u c.service.programs c.depth x)
mid_restores c w i x = λ Q gr kn F e pre. let r = recovered_ok c Q x F kn e
    (record { at = λ p v q. gr.log.at p v (pre.at p v q) }) in record { beside = r.other; is_log = r.same }
