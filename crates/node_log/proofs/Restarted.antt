-- What opening a node's journal told, and what a restart makes of it.
use Rattle.std.proofs.Common.{◌≡◌, ◌⊎◌, ℕ, List, true, refl, sym, ap, ◌∙◌, subst, [], Some, Result, Ok, Err}
use Rattle.std.specs.Prelude.{IfOk, OnOk}
use Rattle.aeg_base.specs.declared.names.Tier.{Tier}
use Rattle.aeg_disk.specs.Disk.{DiskState, Rose, Later}
use Rattle.node_journal.specs.declared.opening.OpenErr.{OpenErr}
use Rattle.node_journal.specs.declared.opening.OpenErr.TheVariants as opens
use Rattle.node_journal.specs.Append.{LeavesOnly}
use Rattle.node_journal.specs.Opening.{WasThere}
use Rattle.fact_journal.specs.Calls.{IsRefusedAt, Opened, ReadsOne}
use Rattle.fact_journal.specs.Fitting.{FactsFit, EachFits}
use Rattle.fact_journal.specs.Standing.{StandsFor}
use Rattle.fact_journal.proofs.Standing.{still_stands}
use Rattle.log_values.specs.declared.fact.Fact.{Fact}
use Rattle.tier_model.specs.declared.turn.Fault.{Fault}
use Rattle.tier_model.specs.declared.turn.Fault.TheVariants as faults
use Rattle.node_log.specs.Faults.{as_opening_fault}
use Rattle.log_model.specs.Recover.{onto}
use Rattle.node_log.specs.LogNodes.{Standing}
use Rattle.node_log.specs.Views.{View, CameUp, Restarts, seen_as}
use Rattle.node_log.specs.Restarting.{Journal, Opens, ComesUp}

-- OPENING

-- what the journal told
pub record ToldOpening (tier : Tier) (a b : DiskState) (r : Result Journal OpenErr) : Type 0 where
  pub facts : IfOk r (λ j. a.tells ≡ true → Opened tier a b j.1.items j.0)
  pub fit : IfOk r (λ j. FactsFit tier 0 j.1.items)
  pub refused : (n : ℕ) → r ≡ Err (opens.BadRecord n) → a.tells ≡ true → IsRefusedAt tier n a.bytes
  pub whole : OnOk r (a.tells ≡ true → (n : ℕ) → IsRefusedAt tier n a.bytes → ⊥)
  pub one_list : (lists : List (List (List Fact))) → StandsFor lists a → EachFits tier lists → IfOk r (λ j. ReadsOne lists b j.1.items j.0)
  pub none_refused : (lists : List (List (List Fact))) → StandsFor lists a → EachFits tier lists → (n : ℕ) → r ≡ Err (opens.BadRecord n) → ⊥
  pub any_moment : a.tells ≡ true → LeavesOnly a b (WasThere a)
  pub cause : r ≡ Err opens.Disk → (b.stopped ≡ true) ⊎ Rose a.faults b.faults
  pub later : Later a b

module _ (tier : Tier) (a b : DiskState) where
  same_lists : (r : Result Journal OpenErr) → ToldOpening tier a b r → (lists : List (List (List Fact))) → StandsFor lists a → StandsFor lists b
  same_lists r k lists stands = still_stands lists a b stands (k.any_moment stands.tells) k.later

  opened : (j : Journal) → ToldOpening tier a b (Ok j) → Opens tier a b (Ok j)
  opened j k = record {
    fits = k.fit;
    reads = k.facts;
    one_list = k.one_list;
    whole = k.whole;
    refused = λ n e. absurd cc;
    none_refused = λ lists stands fit n e. cc;
    same_lists = same_lists (Ok j) k;
    disk = λ e. absurd cc;
    never_full = λ n e. cc;
    later = k.later;
  }

  not_opened : (error : OpenErr) → ToldOpening tier a b (Err error) → Opens tier a b (Err (as_opening_fault error))
  not_opened opens.Disk k = record {
    fits = tt;
    reads = tt;
    one_list = λ lists stands fit. tt;
    whole = tt;
    refused = λ n e. absurd cc;
    none_refused = λ lists stands fit n e. cc;
    same_lists = same_lists (Err opens.Disk) k;
    disk = λ e. k.cause refl;
    never_full = λ n e. cc;
    later = k.later;
  }
  not_opened (opens.BadRecord at) k = record {
    fits = tt;
    reads = tt;
    one_list = λ lists stands fit. tt;
    whole = tt;
    refused = λ n e tells. let same : at ≡ n = cc in k.refused n (ap (λ (z : ℕ). Err (opens.BadRecord z)) same) tells;
    none_refused = λ lists stands fit n e. let same : at ≡ n = cc in k.none_refused lists stands fit n (ap (λ (z : ℕ). Err (opens.BadRecord z)) same);
    same_lists = same_lists (Err (opens.BadRecord at)) k;
    disk = λ e. absurd cc;
    never_full = λ n e. cc;
    later = k.later;
  }
  not_opened opens.Memory k = record {
    fits = tt;
    reads = tt;
    one_list = λ lists stands fit. tt;
    whole = tt;
    refused = λ n e. absurd cc;
    none_refused = λ lists stands fit n e. cc;
    same_lists = same_lists (Err opens.Memory) k;
    disk = λ e. absurd cc;
    never_full = λ n e. cc;
    later = k.later;
  }

  pub opens_ok : (r : Result Journal OpenErr) (j : Journal) → r ≡ Ok j → ToldOpening tier a b r → Opens tier a b (Ok j)
  opens_ok r j e k = opened j (subst (ToldOpening tier a b) e k)

  pub opens_err : (r : Result Journal OpenErr) (error : OpenErr) (fault : Fault) → r ≡ Err error → fault ≡ as_opening_fault error
      → ToldOpening tier a b r → Opens tier a b (Err fault)
  opens_err r error fault e f k = subst (λ (z : Fault). Opens tier a b (Err z)) (sym f) (not_opened error (subst (ToldOpening tier a b) e k))

-- RESTARTS

pub restarts : {S : Type 0} (old new : View S) (a b : DiskState) (recovered : List Fact → S) (opened : Result Journal Fault)
    (result : Result (Unit {0}) Fault) → Opens old.tier a b opened → ComesUp old new recovered opened result → Restarts old new a b recovered result
restarts old new a b recovered (Ok j) (Ok _) k c = record {
  fits = (j.1.items, k.fits, c.0);
  reads = λ tells. (j.1.items, subst (λ (z : ℕ). Opened old.tier a b j.1.items z) (sym c.1) (k.reads tells), c.0);
  one_list = λ lists stands fit. (j.1.items, subst (λ (z : ℕ). ReadsOne lists b j.1.items z) (sym c.1) (k.one_list lists stands fit), c.0);
  whole = k.whole;
  refused = λ at e. absurd cc;
  none_refused = λ lists stands fit at e. cc;
  same_lists = λ lists stands. tt;
  disk = λ e. absurd cc;
  never_full = λ size e. cc;
  down = tt;
  later = k.later;
}
restarts old new a b recovered (Ok j) (Err fault) k c = record {
  fits = tt;
  reads = tt;
  one_list = tt;
  whole = tt;
  refused = λ at e. absurd (let f = c.0 in cc);
  none_refused = λ lists stands fit at e. let f = c.0 in cc;
  same_lists = k.same_lists;
  disk = λ e. absurd (let f = c.0 in cc);
  never_full = λ size e. let f = c.0 in cc;
  down = c.1;
  later = k.later;
}
restarts old new a b recovered (Err why) (Ok _) k c = absurd c
restarts old new a b recovered (Err why) (Err fault) k c = record {
  fits = tt;
  reads = tt;
  one_list = tt;
  whole = tt;
  refused = λ at e. k.refused at (same_result at e);
  none_refused = λ lists stands fit at e. k.none_refused lists stands fit at (same_result at e);
  same_lists = k.same_lists;
  disk = λ e. k.disk (let f = c.0 in cc);
  never_full = λ size e. k.never_full size (let f = c.0 in cc);
  down = c.1;
  later = k.later;
}
  where
    same_result : (at : ℕ) → ◌≡◌ {A = Result (Unit {0}) Fault} (Err fault) (Err (faults.BadRecord at))
        → ◌≡◌ {A = Result Journal Fault} (Err why) (Err (faults.BadRecord at))
    same_result at e = let f = c.0 in cc

-- a node that came up with the log that the facts leave, and with the rest that they leave
pub came_up : {R S : Type 0} (whole : Standing R → S) (old new : View (Standing R)) (recovered : List Fact → S) (facts : List Fact)
    (standing : Standing R) (place : ℕ) → new ≡ record old { up = Some standing; place = place } → whole standing ≡ recovered (onto facts [])
    → CameUp (seen_as whole old) (seen_as whole new) recovered facts × (new.place ≡ place)
came_up {R} whole old new recovered facts standing place e f = (
  ap (seen_as whole) e
      ∙ ap (λ z. record { faults = old.faults; tier = old.tier; me = old.me; up = Some z; place = place }) f
      ∙ ap (λ (z : ℕ). record { faults = old.faults; tier = old.tier; me = old.me; up = Some (recovered (onto facts [])); place = z }) (sym same_place),
  same_place,
)
  where
    same_place : new.place ≡ place
    same_place = ap (λ (z : View (Standing R)). z.place) e
