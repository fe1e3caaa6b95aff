-- A script played to its whole text: each event's lines in turn, and the closing lines.
use Rattle.std.proofs.Common.{ℕ, zero, suc, List, ◌∷◌, ◌++◌, Option, Some, None}
use Prim.Native.String.{String}
use Rattle.std.specs.Prelude.{codes}
use Rattle.std.specs.Option.{option_map}
use Rattle.server_model.specs.Backends.{Amounts}
use Rattle.run_model.specs.Script.{Script, Read, Reads, Fails, script_of}
use Rattle.run_model.specs.World.{Config}
use Rattle.run_model.specs.Text.{event_text, text, closing}
use Rattle.run_model.specs.Runs.{world}
use Rattle.run_model.specs.Resolving.{Standing, next, stands_after, starts, first_standing}
use Rattle.run_model.specs.BookingRuns.{config}
use Rattle.worked_runs.proofs.Reading.{later_script_of}

-- TEXTS BY LINES

infixr 60 ◌↵◌
-- a line, and those behind it
abbrev pub ◌↵◌ : String → List ℕ → List ℕ
line ↵ lines = codes line ++ 10 ∷ lines

-- PLAYING

-- the text of what is left to do and the closing lines, where that is at most so many events
abbrev pub plays : ℕ → Config Amounts → Standing Amounts → Option (List ℕ)
plays zero c s = None
plays (suc n) c s =
    elim (next c s) [
      | None ↦ Some (closing s.world)
      | Some d ↦ option_map (λ rest. event_text c s.world d.event ++ rest) (plays n c (stands_after c s.world d d.event))
    ]

-- every node restarts first
abbrev pub plays_from : ℕ → Config Amounts → Script → Option (List ℕ)
plays_from n c script = option_map (λ rest. text c (starts c.u) ++ rest) (plays n c (first_standing (world c (starts c.u)) script))

abbrev pub plays_script : ℕ → Script → Option (List ℕ)
plays_script n script = plays_from n (config script.u script.depth) script

abbrev pub plays_read : ℕ → Read Script → Option (List ℕ)
plays_read n (Reads script) = plays_script n script
plays_read n (Fails line row) = None

-- an input as it is read now, and as it is read without rule 9
abbrev pub played : ℕ → List ℕ → Option (List ℕ)
played n input = plays_read n (script_of input)

abbrev pub later_played : ℕ → List ℕ → Option (List ℕ)
later_played n input = plays_read n (later_script_of input)
