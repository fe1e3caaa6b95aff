-- The invariant of the world, and what is left of it between an event and the growth of the logs.
use Rattle.std.proofs.Common.{◌≡◌, ℕ, ◌+◌, ◌*◌, ◌<◌, true, List, [], Some}
use Rattle.std.specs.Prelude.{slice_get}
use Rattle.aeg_base.specs.declared.names.ReqId.{ReqId}
use Rattle.aeg_base.specs.declared.names.Tier.{Tier}
use Rattle.aeg_base.specs.declared.names.Tier.TheVariants.{Mid as MidTier, Inv as InvTier, Pay as PayTier}
use Rattle.log_model.proofs.Basics.{Every}
use Rattle.log_model.specs.declared.fact.Fact.{Fact as LogFact}
use Rattle.log_values.specs.declared.any_value.AnyValue.{AnyValue}
use Rattle.log_values.specs.declared.entry.Entry.{Entry}
use Rattle.round_model.specs.Verdicts.{Vote}
use Rattle.run_model.specs.World.{Config, World}
use Rattle.run_model.specs.Runs.{log_soup}
use Rattle.server_model.specs.declared.history.Hist.TheVariants.{Start}
use Rattle.tier_laws.specs.Said.{Laws, is_gone}
use Rattle.tier_laws.proofs.MidNodes.CodesOfFacts.{Code}
use Rattle.tier_laws.proofs.Server.GrowingHistory.{Ledger}
use Rattle.tier_laws.proofs.Events.OneTiersLog.{Complete, LogPart, Nearly}
use Rattle.tier_laws.proofs.Server.LookUps.{server}
use Rattle.tier_laws.proofs.Invariant.NodesAreRight.{NodeOk}
use Rattle.tier_laws.proofs.Invariant.PacketsAreTrue.{SentOk}
use Rattle.tier_laws.proofs.Invariant.Past.{Past}
use Rattle.tier_laws.proofs.Invariant.ValuesAreGood.{Submitted, MidOk, ValueOk}
use Rattle.tier_laws.proofs.Invariant.VerdictsHaveCauses.{RunOk}

-- the Held facts of each node, and what each wrote for its log
abbrev pub AllCodes : Type 0
AllCodes = Tier → ℕ → List Code

abbrev pub AllFacts : Type 0
AllFacts = Tier → ℕ → List (LogFact AnyValue)

-- the logs of the backends
abbrev pub back_logs : (Tier → List AnyValue) → Tier → List AnyValue
back_logs logs MidTier = []
back_logs logs InvTier = logs InvTier
back_logs logs PayTier = logs PayTier

abbrev pub past : {B : Type 0} → Config B → World B → AllCodes → Past B
past c w codes = record { codes = codes; log = w.logs MidTier; server = server c.service w.hist; runs = w.runs; submitted = w.submitted }

pub record Core {B : Type 0} (c : Config B) (w : World B) (codes : AllCodes) (h : AllFacts) : Type 0 where
  pub laws : Laws c.service.programs
  pub logs : (t : Tier) → LogPart c.u (h t) (log_soup t w.soup) (w.logs t) (ValueOk c (past c w codes) t)
  pub ledger : Ledger c.service c.depth (w.logs MidTier) (back_logs w.logs) w.hist
  pub runs : (i : ℕ) (v : Vote) → slice_get w.runs i ≡ Some v → RunOk c (past c w codes) v
  pub right : (t : Tier) (x i : ℕ) (q : Code) → slice_get (codes t x) i ≡ Some q → (server c.service w.hist).served q.tier q.num ≡ Some q.code
  pub packets : Every (SentOk c (past c w codes)) w.soup
  pub nodes : (t : Tier) (x : ℕ) → x < 2 * c.u + 1 → NodeOk c (past c w codes) t (h t) (log_soup t w.soup) x (w.nodes t x) (w.nodes t x).mode
  pub clients : (y : ℕ) (text : List ℕ) → (w.clients y).opened ≡ Some text
      → Submitted (past c w codes) (record { client = y; seq = (w.clients y).last; body = text })
  pub starts : (i n : ℕ) (who : ReqId) (body : List ℕ) → slice_get w.hist i ≡ Some (Start who n, body)
      → Submitted (past c w codes) (record { client = who.client; seq = who.seq; body = body })
  pub told : (i : ℕ) (e : Entry) → slice_get w.told i ≡ Some e → (server c.service w.hist).replies e.client e.seq ≡ Some e.body

pub record Done {B : Type 0} (c : Config B) (w : World B) : Type 0 where
  pub all : (t : Tier) → Complete c.u (log_soup t w.soup) (w.logs t)

pub record NearlyDone {B : Type 0} (c : Config B) (w : World B) : Type 0 where
  pub all : (t : Tier) → Nearly c.u (log_soup t w.soup) (w.logs t)

pub record Inv {B : Type 0} (c : Config B) (w : World B) : Type 0 where
  pub codes : AllCodes
  pub h : AllFacts
  pub core : Core c w codes h
  pub done : Done c w

-- after an event, before the logs grow
pub record Mid_event {B : Type 0} (c : Config B) (P : Past B) (w : World B) : Type 0 where
  pub codes : AllCodes
  pub h : AllFacts
  pub core : Core c w codes h
  pub near : NearlyDone c w
  -- each value that is voted for in the middle log was good before the event
  pub before : LogPart c.u (h MidTier) (log_soup MidTier w.soup) (w.logs MidTier) (MidOk c P)
  -- a node that is gone holds what it held before
  pub gone_codes : (t : Tier) (y : ℕ) → is_gone (w.nodes t y).mode ≡ true → codes t y ≡ P.codes t y
