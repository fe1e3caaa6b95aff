-- A call that decided a move and settled it made the move.
use Rattle.std.proofs.Common.{◌≡◌, ℕ, List, ◌++◌, length, take, sym, ap, ◌∙◌, subst, Some, Result, Ok, Err}
use Rattle.std.specs.Prelude.{IfSome, IfOk, OnOk, OnErr, option_map}
use Rattle.std.proofs.Math.Seq.{take-append_seam}
use Rattle.aeg_base.specs.declared.memory.Memory.{Memory}
use Rattle.aeg_base.specs.declared.names.End.{End}
use Rattle.aeg_disk.specs.Disk.{DiskState}
use Rattle.tier_model.specs.declared.turn.Turn.{Turn as Answer}
use Rattle.tier_model.specs.declared.turn.Fault.{Fault}
use Rattle.tier_model.specs.declared.turn.Fault.TheVariants as faults
use Rattle.tier_model.specs.Moves.{Move}
use Rattle.node_log.specs.declared.decided.Decided.{Decided}
use Rattle.node_log.specs.declared.working.Working.{Working}
use Rattle.node_log.specs.Packets.{StillHas, all_sealed}
use Rattle.node_log.specs.Views.{View, seen_as, went_down, Made, Moves, Tells, Wrote, MayHaveWritten, HasCause}
use Rattle.node_log.specs.LogNodes.{Standing, standing_in, WasAtWork}
use Rattle.node_log.specs.Settling.{Decides, Records}
use Rattle.node_log.proofs.Told.{not_written}

-- what was added is taken back
pub taken_back : {A : Type 0} (before between after : List A) → StillHas before between → after ≡ take (length before) between → after ≡ before
taken_back before between after k e = e ∙ (ap (λ z. take (length before) z) k.1 ∙ take-append_seam before k.0)

module _ {R S : Type 0} (whole : Standing R → S) (row : S → Move S) (now taken new : View (Standing R)) (held next : Working R)
    (before after : List (End × List ℕ)) (was : WasAtWork now held) (left : taken ≡ went_down now) where
  abbrev state : S
  state = whole (standing_in held)

  abbrev move : Move S
  move = row state

  -- what is true of the state that it had
  of_state : (P : S → Type 0) → P state → IfSome (option_map whole now.up) P
  of_state P p = subst (λ z. IfSome z P) (sym (ap (λ z. option_map whole z) was.up)) p

  place_is : taken.place ≡ now.place
  place_is = ap (λ (z : View (Standing R)). z.place) left

  goes_down : new ≡ taken → seen_as whole new ≡ went_down (seen_as whole now)
  goes_down e = ap (seen_as whole) (e ∙ left)

  made : (answer : Answer) → new ≡ record taken { up = Some (standing_in next); place = new.place } → whole (standing_in next) ≡ move.state
      → after ≡ before ++ all_sealed move.sends → answer ≡ move.answer
      → IfSome (option_map whole now.up) (λ s. Made (seen_as whole now) (seen_as whole new) before after (row s) answer)
  made answer node decided packets same = of_state (λ s. Made (seen_as whole now) (seen_as whole new) before after (row s) answer) (record {
    node = ap (seen_as whole)
        (node ∙ ap (λ (z : View (Standing R)). record { faults = z.faults; tier = z.tier; me = z.me; up = Some (standing_in next); place = new.place }) left)
        ∙ ap (λ z. record { faults = now.faults; tier = now.tier; me = now.me; up = Some z; place = new.place }) decided;
    packets = packets;
    answer_is = same;
  })

  -- SETTLED

  module _ (a b : DiskState) (between : List (End × List ℕ)) where
    -- what settling told
    record Settles (decided : Result Decided Memory) (result : Result Answer Fault) : Type 0 where
      pub node : OnOk result (new ≡ record taken { up = Some (standing_in next); place = new.place })
      pub packets : OnOk result (after ≡ between)
      pub down : OnErr result (new ≡ taken)
      pub taken_back : OnErr result (after ≡ take (length before) between)
      pub records : Records a b taken.place new.place decided result

    settled : (decided : Result Decided Memory) (result : Result Answer Fault) → Decides whole row held next before between decided
        → Settles decided result → Moves (seen_as whole now) (seen_as whole new) a b before after row result
    settled (Ok d) (Ok answer) decides settles = record {
      made = made answer settles.node decides.state (settles.packets ∙ decides.packets) (settles.records.answer ∙ decides.answer);
      wrote = of_state (λ s. Wrote a b now.place new.place (row s).facts)
          (subst (λ (z : ℕ). Wrote a b z new.place move.facts) place_is (subst (λ z. Wrote a b taken.place new.place z) decides.facts settles.records.wrote));
      down = tt;
      nothing_sent = tt;
      may_have = tt;
      cause = λ fault e. absurd cc;
      later = settles.records.later;
    }
    settled (Ok d) (Err fault) decides settles = record {
      made = tt;
      wrote = tt;
      down = goes_down settles.down;
      nothing_sent = taken_back before between after decides.kept settles.taken_back;
      may_have = of_state (λ s. MayHaveWritten a b now.place (row s).facts)
          (subst (λ (z : ℕ). MayHaveWritten a b z move.facts) place_is (subst (λ z. MayHaveWritten a b taken.place z) decides.facts settles.records.may_have));
      cause = λ other e. of_state (λ s. HasCause a b now.place (row s).facts other)
          (subst (λ (z : ℕ). HasCause a b z move.facts other) place_is
          (subst (λ z. HasCause a b taken.place z other) decides.facts (settles.records.cause other e)));
      later = settles.records.later;
    }
    settled (Err m) (Ok answer) decides settles = absurd (let had = settles.records.had_memory in cc)
    settled (Err m) (Err fault) decides settles = record {
      made = tt;
      wrote = tt;
      down = goes_down settles.down;
      nothing_sent = taken_back before between after decides.kept settles.taken_back;
      may_have = of_state (λ s. MayHaveWritten a b now.place (row s).facts) (not_written now.place move.facts a b settles.records.untouched);
      cause = λ other e. of_state (λ s. HasCause a b now.place (row s).facts other)
          (subst (HasCause a b now.place move.facts) (sym (settles.records.memory other e)) tt);
      later = settles.records.later;
    }

    pub moves : (decided : Result Decided Memory) (result : Result Answer Fault) → Decides whole row held next before between decided
        → OnOk result (new ≡ record taken { up = Some (standing_in next); place = new.place }) → OnOk result (after ≡ between)
        → OnErr result (new ≡ taken) → OnErr result (after ≡ take (length before) between) → Records a b taken.place new.place decided result
        → Moves (seen_as whole now) (seen_as whole new) a b before after row result
    moves decided result decides node packets is_down back records = settled decided result decides
        (record { node = node; packets = packets; down = is_down; taken_back = back; records = records })

  -- PUT BACK

  pub tells : (result : Result Answer Fault) → OnOk result (whole (standing_in next) ≡ move.state) → IfOk result (λ answer. answer ≡ move.answer)
      → OnOk result (after ≡ before ++ all_sealed move.sends) → OnOk result (new ≡ record taken { up = Some (standing_in next) })
      → OnErr result (new ≡ taken) → OnErr result (after ≡ before) → ((fault : Fault) → result ≡ Err fault → fault ≡ faults.Memory)
      → Tells (seen_as whole now) (seen_as whole new) before after row result
  tells (Ok answer) decided same packets node is_down back memory =
      let place : new.place ≡ taken.place = ap (λ (z : View (Standing R)). z.place) node in
      record {
        made = made answer (node
            ∙ ap (λ (z : ℕ). record { faults = taken.faults; tier = taken.tier; me = taken.me; up = Some (standing_in next); place = z }) (sym place))
            decided packets same;
        same_place = place ∙ place_is;
        down = tt;
        nothing_sent = tt;
        memory = memory;
      }
  tells (Err fault) decided same packets node is_down back memory = record {
    made = tt;
    same_place = ap (λ (z : View (Standing R)). z.place) is_down ∙ place_is;
    down = goes_down is_down;
    nothing_sent = back;
    memory = memory;
  }
