-- Scripts that the definitions play to their whole text: each event's lines in turn, and the closing lines.
use Rattle.std.proofs.Common.{◌≡◌, ℕ, zero, suc, List, [], ◌∷◌, ◌++◌, refl, Some, None}
use Rattle.std.specs.Prelude.{codes}
use Rattle.std.specs.Fmt.{digits}
use Rattle.aeg_base.specs.Numbers.{checked, number_at, with_number}
use Rattle.aeg_base.specs.Locks.{no_locks}
use Rattle.aeg_base.specs.declared.names.Tier.TheVariants.{Mid}
use Rattle.server_model.specs.Backends.{Amounts}
use Rattle.exec_model.specs.Jobs.{run_job}
use Rattle.log_values.specs.Fields.{backend_at, stage_at}
use Rattle.log_values.specs.Outcomes.{outcome_at, all_pairs_at, all_ends_at, pairs_at, pair_at, ending_at}
use Rattle.aeg_wire.specs.Fields.{text_at}
use Rattle.aeg_wire.specs.Formats.{list_at}
use Rattle.run_model.specs.declared.line.Event.TheVariants.{Submit, Lead, Calm}
use Rattle.run_model.specs.Script.{Script, Read, Reads, Fails, script_of}
use Rattle.run_model.specs.Text.{event_text, closing}
use Rattle.run_model.specs.Runs.{world}
use Rattle.run_model.specs.Resolving.{Standing, next, stands_after, starts, first_standing}
use Rattle.run_model.proofs.Driving.{conf}

-- at most so many events
abbrev plays : ℕ → ℕ → Standing Amounts → List ℕ
plays zero u s = closing s.world
plays (suc n) u s = elim (next (conf u) s) [
  | None ↦ closing s.world
  | Some d ↦ event_text (conf u) s.world d.event
      ++ plays n u (stands_after (conf u) s.world d d.event)
]

abbrev plays_script : ℕ → Script → List ℕ
plays_script n script = plays n script.u (first_standing (world (conf script.u) (starts script.u)) script)

abbrev plays_read : ℕ → Read Script → List ℕ
plays_read n (Reads script) = plays_script n script
plays_read n (Fails line row) = []

-- the text of an input
abbrev played : ℕ → List ℕ → List ℕ
played n input = plays_read n (script_of input)

no_events : played 1 (codes "tiers 0 depth 1\n") ≡ codes "log mid 0\nlog inv 0\nlog pay 0\npackets 0\n"
unfolding digits checked number_at with_number
no_events = refl

frame_cut_short : played 8 (codes "tiers 1 depth 1\nlead m0\nshort 0 0\nshort 0 12\nshort 0 13\n")
    ≡ codes "drop m1 short\ndrop m1 short\nlog mid 0\nlog inv 0\nlog pay 0\npackets 3\n"
unfolding digits checked number_at with_number
frame_cut_short = refl

one_position_in_flight : played 60 (codes "tiers 1 depth 1\nlead m0\nflow\nsubmit 1 open 1 5 10 0\nflow\noffer m0\noffer m0\nflow\noffer m0\n")
    ≡ codes "idle m0 in-flight 0\nidle m0 no-tokens 0\nlog mid 1\nlog inv 0\nlog pay 0\npackets 18\n"
unfolding digits checked number_at with_number
one_position_in_flight = refl

-- with turns of calm, an executor's steps, verdicts and the history that they make
abbrev opens_and_looks : Script
opens_and_looks = record {
  u = 0;
  depth = 1;
  events = (2, Lead (record { tier = Mid; index = 0 })) ∷ (3, Submit 1 (codes "open 1 5 10 0")) ∷ (4, Calm) ∷ (5, Submit 1 (codes "look 5")) ∷ (6, Calm) ∷ [];
}

open_and_look_on_one_replica : plays_script 40 opens_and_looks
    ≡ codes "exec m0 0 steps 0x5 order 0 redo 0\nverdict 0 commit order 0\nstart 1.1 0 open 1 5 10 0\nreply 1.1 opened 1\nexec m0 1 steps 0x4 order 0 redo 0\nverdict 1 commit order 0\nstart 1.2 0 look 5\nreply 1.2 refused 9 NoBooking\nlog mid 4\nlog inv 0\nlog pay 0\npackets 8\n"
unfolding digits checked number_at with_number no_locks run_job outcome_at all_pairs_at all_ends_at pairs_at pair_at
    ending_at backend_at stage_at text_at list_at
open_and_look_on_one_replica = refl
