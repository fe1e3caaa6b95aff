-- A node that made a move, or came up, may write again.
use Rattle.std.proofs.Common.{◌≡◌, ℕ, true, false, List, refl, sym, ap, ◌∙◌, subst, Option, Some, None, Result, Ok, Err}
use Rattle.std.specs.Prelude.{is_some, IfSome, OnOk}
use Rattle.aeg_base.specs.declared.names.End.{End}
use Rattle.aeg_disk.specs.Disk.{DiskState}
use Rattle.fact_journal.specs.Standing.{HasFacts}
use Rattle.log_model.specs.Nodes.{recorded}
use Rattle.log_values.specs.declared.fact.Fact.{Fact}
use Rattle.tier_model.specs.declared.turn.Turn.{Turn as Answer}
use Rattle.tier_model.specs.declared.turn.Fault.{Fault}
use Rattle.tier_model.specs.Moves.{Move}
use Rattle.node_log.specs.Views.{View, is_up, MayWrite, Moves, Restarts, Wrote}

pub moved : {S : Type 0} (row : S → Move S) (old new : View S) (a b : DiskState) (before after : List (End × List ℕ)) (result : Result Answer Fault)
    → is_up old ≡ true → MayWrite old a → Moves old new a b before after row result → OnOk result (MayWrite new b)
moved row old new a b before after (Err fault) up may moves = tt
moved {S} row old new a b before after (Ok answer) up may moves = λ tells. go old.up refl (sym moves.later.tells ∙ tells)
  where
    go : (o : Option S) → old.up ≡ o → a.tells ≡ true → (rs : List (List Fact)) × HasFacts rs b new.place
    go None none tells = absurd (let down : is_up old ≡ false = ap (λ (z : Option S). is_some z) none in cc)
    go (Some s) some tells =
        let had = may tells in
        let wrote : Wrote a b old.place new.place (row s).facts = subst (λ z. IfSome z (λ s. Wrote a b old.place new.place (row s).facts)) some moves.wrote in
        (recorded had.0 (row s).facts, wrote.records had.0 tells had.1)

pub restarted : {S : Type 0} (old new : View S) (a b : DiskState) (recovered : List Fact → S) (result : Result (Unit {0}) Fault)
    → Restarts old new a b recovered result → OnOk result (MayWrite new b)
restarted old new a b recovered (Err fault) restarts = tt
restarted old new a b recovered (Ok _) restarts = λ tells. let found = restarts.reads (sym restarts.later.tells ∙ tells) in (found.1.0, found.1.4)
