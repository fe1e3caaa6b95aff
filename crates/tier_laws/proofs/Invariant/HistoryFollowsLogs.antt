-- The history is legal, and comes from the chosen logs: it has the tables of the decided rounds and the backends of their logs.
use Rattle.std.proofs.Common.{◌≡◌, ℕ, ◌<◌, true, List, length, Some}
use Rattle.std.specs.Prelude.{slice_get, take}
use Rattle.aeg_base.specs.declared.names.Tier.{Tier}
use Rattle.log_values.specs.declared.any_value.AnyValue.{AnyValue}
use Rattle.log_values.specs.declared.any_value.AnyValue.TheVariants.{Back as OfBack}
use Rattle.log_values.specs.declared.back_value.BackValue.TheVariants.{Settle as Settled}
use Rattle.log_values.specs.declared.mid_value.Verdict.{Verdict}
use Rattle.round_model.specs.After.{Round, after, order_in, round, verdict_at}
use Rattle.round_model.specs.Lists.{concat, half}
use Rattle.round_model.specs.Service.{Finish, Service, finish, is_order}
use Rattle.round_model.specs.Tables.{last_of, kept_of, Parked, Tables, settled}
use Rattle.run_model.specs.Histories.{back_run}
use Rattle.server_model.specs.History.{History as History_}
use Rattle.tier_laws.proofs.Rounds.ActsByIndex.{Act, acts}
use Rattle.tier_laws.proofs.Server.MirroredTables.{Mirrors}
use Rattle.tier_laws.proofs.Rounds.AnyOrder.{ToldOne}
use Rattle.tier_laws.proofs.Server.LookUps.{Legal, Server, server}

pub record TablesOk {B : Type 0} (O : Server B) (T : Tables) : Type 0 where
  pub kept : (c : ℕ) (text : List ℕ) → kept_of T.kept c ≡ Some text → O.replies c (last_of T.last c) ≡ Some text
  pub parked : (i : ℕ) (p : Parked) → slice_get (concat T.queue) i ≡ Some p → O.calls p.tier p.num ≡ Some p.text

-- the ends of a job stand at the server
pub record ToldAll {B : Type 0} (O : Server B) (X : List Act) : Type 0 where
  pub at : (i : ℕ) (a : Act) → slice_get X i ≡ Some a → ToldOne O a.want a.num a.ending

abbrev pub ordered : Round → Verdict → List ℕ
ordered R v = order_in (length R.job) v

abbrev pub finish_in : {B : Type 0} → Service B → Round → Verdict → Finish
finish_in m R v = finish m.programs R.job (ordered R v) R.tables.store

pub record Decision {B : Type 0} (m : Service B) (D : ℕ) (L : List AnyValue) (O : Server B) (r : ℕ) : Type 0 where
  pub made : Round
  pub verdict : Verdict
  pub is_round : round m.programs D L O.served r ≡ Some made
  pub is_verdict : verdict_at L r ≡ Some verdict
  pub is_ordered : is_order (length made.job) (ordered made verdict) ≡ true
  pub told : ToldAll O (acts made.tables.next made.wants (finish_in m made verdict).ends)
  pub tables : TablesOk O (settled made.tables made.wants (finish_in m made verdict))

pub record Ledger {B : Type 0} (m : Service B) (D : ℕ) (L : List AnyValue) (K : Tier → List AnyValue) (h : History_) : Type 0 where
  pub legal : Legal m h
  pub tables : Tables
  pub is_after : after m.programs D L (server m h).served (half (length L)) ≡ Some tables
  pub mirrors : Mirrors m tables (server m h)
  pub tables_ok : TablesOk (server m h) tables
  pub decided : (r : ℕ) → r < half (length L) → Decision m D L (server m h) r
  pub served : (t : Tier) (n : ℕ) → (server m h).served t n ≡ (back_run (m.backend t) (K t)).code n
  pub backs : (t : Tier) → (server m h).backs t ≡ (back_run (m.backend t) (K t)).state
  pub settles : (t : Tier) (i g n : ℕ) → slice_get (K t) i ≡ Some (OfBack (Settled g)) → 0 < n → n < g → (code : ℕ)
      × ((back_run (m.backend t) (take i (K t))).code n ≡ Some code)
