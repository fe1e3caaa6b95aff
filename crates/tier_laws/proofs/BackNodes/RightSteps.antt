-- A backend node's moves and restarts are right steps of a node.
use Rattle.std.proofs.Common.{◌≡◌, ℕ, ◌+◌, ◌*◌, ◌<◌, false, List, [], ◌∷◌, ◌++◌, refl, sym, subst, Some}
use Rattle.std.specs.Prelude.{slice_get}
use Rattle.aeg_base.specs.declared.names.Tier.{Tier}
use Rattle.aeg_base.specs.declared.names.Tier.TheVariants.{Mid as MidTier, Inv as InvTier, Pay as PayTier}
use Rattle.log_model.proofs.Invariant.{StateOk}
use Rattle.log_model.specs.Log.{LogState}
use Rattle.log_model.specs.Recover.{learned_in, recover}
use Rattle.log_model.specs.declared.fact.Fact.{Fact as LogFact}
use Rattle.log_values.specs.declared.any_value.AnyValue.{AnyValue}
use Rattle.log_values.specs.declared.any_value.AnyValue.TheVariants.{Back as OfBack}
use Rattle.log_values.specs.declared.back_value.BackValue.TheVariants.{Call as Called}
use Rattle.log_values.specs.declared.fact.Fact.{Fact}
use Rattle.run_model.specs.Runs.{log_soup}
use Rattle.run_model.specs.World.{Config, World}
use Rattle.server_model.specs.Server.{same_tier}
use Rattle.tier_laws.proofs.BackNodes.LogTurns.{recovered_ok}
use Rattle.tier_laws.proofs.BackNodes.RightMoves.{BackHere, BackKnown, BackMoveOk, back_other-more}
use Rattle.tier_laws.proofs.Events.OneNodeChanges.{AllCodes, AllFacts, BackBeside, Core, Inv, UpOk, back_logs, past}
use Rattle.tier_laws.proofs.Events.OneTiersLog.{meets_good}
use Rattle.tier_laws.proofs.Events.GrowingPast.{BackOk, Grows, Past, parcels-more}
use Rattle.tier_laws.proofs.Invariant.BackendNodes.{Tied}
use Rattle.tier_laws.proofs.Rounds.StableRounds.{MoreLog}
use Rattle.tier_laws.proofs.Events.AtNodes.{Restored, Restores, StepOk}
use Rattle.tier_model.specs.Back.{Back}
use Rattle.tier_model.specs.BackRows.{recovered}
use Rattle.tier_model.specs.Moves.{Move, Packet, log_facts}

-- MOVES

beside_later : {B : Type 0} (c : Config B) (P Q : Past B) (t : Tier) (h : ℕ → List (LogFact AnyValue))
    (soup : List Packet) (x : ℕ) (v : Move (Back B)) → Grows P Q → BackMoveOk c P t h soup x v → BackBeside c Q t v.state
beside_later c P Q t h soup x v g k = record { other = back_other-more c P Q t v.state g k.other; tied = k.tied }

pub inv_step : {B : Type 0} (c : Config B) (P : Past B) (h : ℕ → List (LogFact AnyValue)) (soup : List Packet) (x : ℕ)
    (v : Move (Back B)) → BackMoveOk c P InvTier h soup x v → StepOk c P InvTier h soup x [] v
inv_step c P h soup x v k = record {
  turn = k.turn;
  turn_ok = k.turn_ok;
  good = k.good;
  is_facts = k.is_facts;
  is_sends = k.is_sends;
  is_log = k.is_log;
  others = k.others;
  codes = λ i q e. absurd (let f : slice_get [] i ≡ Some q = subst (λ z. slice_get z i ≡ Some q) k.no_codes e in cc);
  runs = λ i r e. absurd (cc);
  later = λ Q g kn e did. record { beside = beside_later c P Q InvTier h soup x v g k; sends = parcels-more c P Q v.sends g k.sends };
}

pub pay_step : {B : Type 0} (c : Config B) (P : Past B) (h : ℕ → List (LogFact AnyValue)) (soup : List Packet) (x : ℕ)
    (v : Move (Back B)) → BackMoveOk c P PayTier h soup x v → StepOk c P PayTier h soup x [] v
pay_step c P h soup x v k = record {
  turn = k.turn;
  turn_ok = k.turn_ok;
  good = k.good;
  is_facts = k.is_facts;
  is_sends = k.is_sends;
  is_log = k.is_log;
  others = k.others;
  codes = λ i q e. absurd (let f : slice_get [] i ≡ Some q = subst (λ z. slice_get z i ≡ Some q) k.no_codes e in cc);
  runs = λ i r e. absurd (cc);
  later = λ Q g kn e did. record { beside = beside_later c P Q PayTier h soup x v g k; sends = parcels-more c P Q v.sends g k.sends };
}

-- what is known of the tier's log
inv_known : {B : Type 0} (c : Config B) (w : World B) (codes : AllCodes) (h : AllFacts) → Core c w codes h
    → BackKnown c (past c w codes) InvTier (w.logs InvTier)
inv_known {B} c w codes h i = record {
  served = i.ledger.served InvTier;
  settles = i.ledger.settles InvTier;
  positive = λ p n text e. (i.ledger.mirrors.calls InvTier n text
      (meets_good c.u (h InvTier) (log_soup InvTier w.soup) (w.logs InvTier) (BackOk c (past c w codes) InvTier) p
      (OfBack (Called n text)) (i.logs InvTier)
      ((i.logs InvTier).sound p (OfBack (Called n text)) e))).0;
}

pay_known : {B : Type 0} (c : Config B) (w : World B) (codes : AllCodes) (h : AllFacts) → Core c w codes h
    → BackKnown c (past c w codes) PayTier (w.logs PayTier)
pay_known {B} c w codes h i = record {
  served = i.ledger.served PayTier;
  settles = i.ledger.settles PayTier;
  positive = λ p n text e. (i.ledger.mirrors.calls PayTier n text
      (meets_good c.u (h PayTier) (log_soup PayTier w.soup) (w.logs PayTier) (BackOk c (past c w codes) PayTier) p
      (OfBack (Called n text)) (i.logs PayTier)
      ((i.logs PayTier).sound p (OfBack (Called n text)) e))).0;
}

-- what is known where x is up
pub inv_here : {B : Type 0} (c : Config B) (w : World B) (x : ℕ) (σ : Back B) → c.u < 128 → x < 2 * c.u + 1
    → (i : Inv c w) → UpOk c (past c w i.codes) InvTier (i.h InvTier) (log_soup InvTier w.soup) x (w.nodes InvTier x).records σ
    → BackHere c (past c w i.codes) InvTier (w.logs InvTier) (i.h InvTier) w.soup x σ
inv_here c w x σ few lx i up = record {
  few = few;
  backend = refl;
  inside = lx;
  history = (i.core.logs InvTier).history;
  log = up.log;
  good = (i.core.logs InvTier).good;
  complete = i.done.all InvTier;
  other = up.beside.other;
  tied = up.beside.tied;
  known = inv_known c w i.codes i.h i.core;
}

pub pay_here : {B : Type 0} (c : Config B) (w : World B) (x : ℕ) (σ : Back B) → c.u < 128 → x < 2 * c.u + 1
    → (i : Inv c w) → UpOk c (past c w i.codes) PayTier (i.h PayTier) (log_soup PayTier w.soup) x (w.nodes PayTier x).records σ
    → BackHere c (past c w i.codes) PayTier (w.logs PayTier) (i.h PayTier) w.soup x σ
pay_here c w x σ few lx i up = record {
  few = few;
  backend = refl;
  inside = lx;
  history = (i.core.logs PayTier).history;
  log = up.log;
  good = (i.core.logs PayTier).good;
  complete = i.done.all PayTier;
  other = up.beside.other;
  tied = up.beside.tied;
  known = pay_known c w i.codes i.h i.core;
}

-- RESTART

restored : {B : Type 0} (c : Config B) (P Q : Past B) (t : Tier) (vs : List AnyValue) (F : List Fact)
    → BackKnown c P t vs → Grows P Q → MoreLog (learned_in (log_facts F)) vs
    → BackBeside c Q t (recovered c.u (c.service.backend t) F) × ((recovered c.u (c.service.backend t) F).log ≡ recover c.u (log_facts F))
restored {B} c P Q t vs F k g pre =
    let r = recovered_ok c P t vs F k pre in (
      record {
        other = back_other-more c P Q t (recovered c.u (c.service.backend t) F) g r.1;
        tied = subst (λ (s : LogState AnyValue). Tied (c.service.backend t) s.learned (recovered c.u (c.service.backend t) F)) (sym r.2) r.0;
      },
      r.2,
    )

pub inv_restores : {B : Type 0} (c : Config B) (w : World B) (i : Inv c w) (x : ℕ) → Restores c w i InvTier x (recovered c.u (c.service.backend InvTier))
inv_restores c w i x = λ Q gr kn F e pre. let r = restored c (past c w i.codes) Q InvTier (w.logs InvTier) F
    (inv_known c w i.codes i.h i.core) gr pre in record { beside = r.0; is_log = r.1 }

pub pay_restores : {B : Type 0} (c : Config B) (w : World B) (i : Inv c w) (x : ℕ) → Restores c w i PayTier x (recovered c.u (c.service.backend PayTier))
pay_restores c w i x = λ Q gr kn F e pre. let r = restored c (past c w i.codes) Q PayTier (w.logs PayTier) F
    (pay_known c w i.codes i.h i.core) gr pre in record { beside = r.0; is_log = r.1 }
