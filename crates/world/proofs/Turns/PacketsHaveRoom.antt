-- What an event sends has room where it may begin.
use Rattle.std.proofs.Common.{◌≡◌, ℕ, ◌+◌, ◌*◌, ◌≤◌, true, List, [], ◌++◌, length, map, refl, sym, ap, ◌∙◌, subst, arith, Result, Ok, Err}
use Rattle.world.proofs.Votes.PassedTests.{passes}
use Rattle.world.proofs.Calls.OnDisks.{up_state}
use Rattle.std.specs.Prelude.{slice_get, OnOk}
use Rattle.std.proofs.lemmas.List.{length-map}
use Rattle.std.proofs.lemmas.Result.{on_ok_weaker}
use Rattle.aeg_base.specs.declared.limits.TheConstants.{PACKETS, PACKETS_BEFORE}
use Rattle.aeg_base.specs.declared.names.Tier.{Tier}
use Rattle.aeg_base.specs.declared.names.End.{End}
use Rattle.aeg_disk.specs.Disk.{DiskState}
use Rattle.log_model.specs.Log.{nobody}
use Rattle.tier_model.specs.declared.turn.Turn.{Turn as Answer}
use Rattle.tier_model.specs.declared.turn.Fault.{Fault}
use Rattle.tier_model.specs.declared.turn.Fault.TheVariants as faults
use Rattle.tier_model.specs.Moves.{Move}
use Rattle.run_model.specs.World.{requests, request_to}
use Rattle.world.specs.declared.nodes.all_nodes.Nodes.{Nodes}
use Rattle.world.specs.Parts.{NodePart, shape, Makes, HaveRoom, sealed}
use Rattle.world.specs.NodeLists.{views, view_up, up_in, RowOf, MoveIn}
use Rattle.world.specs.Telling.{HadMemory}
use Rattle.world.proofs.Calls.OfOneTier.{up_is}
use Rattle.world.proofs.Turns.FewMessages.{each_few}

-- A NODE'S CALL

makes_room : {S T : Type 0} (whole : S → T) (old new : NodePart S) (after : List (End × List ℕ)) (move : Move T)
    (result : Result Answer Fault) → Makes whole old new [] after move result → OnOk result (HaveRoom move.sends)
    → HadMemory result → HaveRoom after
makes_room whole old new after move (Ok answer) k few memory = omega (arith, few, ap length k.4, length-map move.sends sealed)
makes_room whole old new after move (Err (faults.JournalFull size)) k few memory = omega (arith, ap length k.4)
makes_room whole old new after move (Err faults.Memory) k few memory = absurd memory
makes_room whole old new after move (Err faults.Disk) k few memory = omega (arith, ap length k.4)
makes_room whole old new after move (Err (faults.BadRecord at)) k few memory = absurd k

move_room : (old new : Nodes) (t : Tier) (x : ℕ) (a b : DiskState) (after : List (End × List ℕ)) (row : RowOf) (result : Result Answer Fault)
    → up_in old t x ≡ true → MoveIn old new t x a b [] after row result → HadMemory result → HaveRoom after
move_room old new t x a b after row result up k memory =
    let v = passes view_up (slice_get (views old t) x) refl (sym (up_is old t x) ∙ up) in
    let r = k.0 v.0 v.1 in
    let s = up_state v.0.part v.2 in
    makes_room ((shape t).whole v.0) v.0.part r.0.part after (row _ ((shape t).rows v.0) ((shape t).whole v.0 s.0)) result (r.2.row s.0 s.1)
    (on_ok_weaker result (λ h. h s.0 s.1) r.2.few) memory

-- AN EVENT

-- a call of a node that is up
pub nodes_fit : (old new : Nodes) (t : Tier) (x : ℕ) (a b : DiskState) (soup before after : List (End × List ℕ))
    (row : RowOf) (result : Result Answer Fault) → length soup ≤ PACKETS_BEFORE → before ≡ [] → up_in old t x ≡ true
    → MoveIn old new t x a b before after row result → HadMemory result → length soup + length after ≤ PACKETS
nodes_fit old new t x a b soup before after row result l e up k memory =
    omega (arith, l, move_room old new t x a b after row result up (subst (λ z. MoveIn old new t x a b z after row result) e k) memory)

-- nothing is sent
pub nothing_fits : (soup out : List (End × List ℕ)) → length soup ≤ PACKETS → out ≡ [] → length soup + length out ≤ PACKETS
nothing_fits soup out l e = omega (arith, l, ap length e)

-- a request to each middle node
pub requests_fit : (u client seq : ℕ) (text : List ℕ) (soup before out : List (End × List ℕ)) → u ≤ 2
    → length soup ≤ PACKETS_BEFORE → before ≡ [] → out ≡ before ++ map sealed (requests u client seq text)
    → length soup + length out ≤ PACKETS
requests_fit u client seq text soup before out few l e f =
    omega (
      arith,
      few,
      l,
      ap length (f ∙ ap (λ z. z ++ map sealed (requests u client seq text)) e),
      length-map (requests u client seq text) sealed,
      each_few (2 * u + 1) nobody (request_to client seq text),
    )
