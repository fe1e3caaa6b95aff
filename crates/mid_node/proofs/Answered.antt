-- What an answer, or what another middle node tells of one, does to the answers that are held.
use Rattle.std.proofs.Common.{◌≡◌, ℕ, Bool, true, false, cond, List, [], ◌∷◌, ◌++◌, refl, sym, ap, ◌∙◌, subst, arith, append-nil}
use Rattle.std.proofs.Common.{Option, Some, None, Result, Ok, Err}
use Rattle.std.specs.Prelude.{not, IfOk, OnOk}
use Rattle.aeg_base.specs.declared.memory.Memory.{Memory}
use Rattle.aeg_base.specs.declared.names.End.{End}
use Rattle.aeg_base.specs.declared.names.Tier.{Tier}
use Rattle.svc_api.specs.Plan.{IsBackend}
use Rattle.fact_journal.proofs.Lengths.{few_short}
use Rattle.log_values.specs.declared.fact.Fact.TheVariants as facts
use Rattle.server_shim.specs.Ranges.{IsCode}
use Rattle.round_model.specs.declared.answer.Answer.{Answer}
use Rattle.round_model.specs.Lists.{and_then, is_some}
use Rattle.round_model.specs.Numbered.{find}
use Rattle.round_model.specs.Service.{Programs}
use Rattle.round_model.specs.Held.{HeldState, answers_of, hears, held_code, is_noted, takes, takes_as}
use Rattle.tier_model.specs.declared.turn.Idle.TheVariants as why
use Rattle.tier_model.specs.declared.turn.Turn.TheVariants as answers
use Rattle.tier_model.specs.Moves.{Move, becomes, idles}
use Rattle.tier_model.specs.Mid.{Mid}
use Rattle.tier_model.specs.MidRows.{haves, holds, on_answer, on_have, takes_answer}
use Rattle.node_log.specs.declared.decided.Decided.{Decided}
use Rattle.node_log.specs.declared.member.Member.{Member}
use Rattle.node_log.specs.declared.working.Working.{Working}
use Rattle.node_log.specs.Packets.{all_sealed, StillHas}
use Rattle.node_log.specs.Settling.{CanRecord}
use Rattle.row_laws.specs.Mids.{IsHeldIn}
use Rattle.row_laws.proofs.MidParts.{hears_in, takes_in}
use Rattle.mid_rounds.specs.declared.keeping.Keeping.{Keeping}
use Rattle.mid_rounds.specs.Deciding.{DecidesMove, IsInRange, mid_in}
use Rattle.mid_rounds.proofs.DecidedMoves.{had_none, without_facts}

-- WHAT IS HELD

-- an answer that is held stays
takes_none : (h : HeldState) (t : Tier) (n code : ℕ) → is_some (held_code h t n) ≡ true → takes h t n code ≡ h
takes_none h t n code e = go (find (answers_of h t) n) e
  where
    go : (o : Option Answer) → is_some (and_then o (λ a. Some a.code)) ≡ true → takes_as h t n code o ≡ h
    go None f = absurd cc
    go (Some a) f = refl

is_held : (b : Bool) → false ≡ not b → b ≡ true
is_held true e = refl
is_held false e = absurd cc

not_held : (b : Bool) → true ≡ not b → b ≡ false
not_held true e = absurd cc
not_held false e = refl

-- with other answers
abbrev pub with_held : Working Keeping → HeldState → Working Keeping
with_held w held = record {
  log = w.log;
  journal = w.journal;
  rest = record { rounds = w.rest.rounds; pending = w.rest.pending; tallies = w.rest.tallies; held = held };
}

-- what a call told of an answer that it took
pub record Took (m : Member) (t : Tier) (n code : ℕ) (before after : List (End × List ℕ)) (decided : Result Decided Memory) : Type 0 where
  pub facts : IfOk decided (λ d. d.facts.items ≡ facts.Held t n code ∷ [])
  pub answer : IfOk decided (λ d. d.answer ≡ answers.Did)
  pub sent : OnOk decided (after ≡ before ++ all_sealed (haves m.faults m.me.index t n code))
  pub kept : StillHas before after

module _ (p : Programs) (m : Member) (old : Working Keeping) where
  abbrev σ : Mid
  σ = mid_in m old

  held_range : (held : HeldState) → IsInRange p m old → IsHeldIn m.faults m.me.index held → IsInRange p m (with_held old held)
  held_range held range k = record {
    log = range.log;
    kept = record {
      depth = range.kept.depth;
      state = record {
        log = range.kept.state.log;
        applied = range.kept.state.applied;
        tables = range.kept.state.tables;
        pending = range.kept.state.pending;
        tally = range.kept.state.tally;
        spec = range.kept.state.spec;
        held = k;
      };
      tallies = range.kept.tallies;
    };
  }

  -- an answer that wasn't held before is held from now on
  takes_it : (held : HeldState) (t : Tier) (n code : ℕ) (before after : List (End × List ℕ)) (decided : Result Decided Memory) → IsInRange p m old
      → IsHeldIn m.faults m.me.index held → IsBackend t → IsCode (n, code) → Took m t n code before after decided
      → DecidesMove p m (takes_answer m.faults m.me.index σ held t n code) old (with_held old held) before after decided
  takes_it held t n code before after (Err e) range k b c took =
      had_none p m (takes_answer m.faults m.me.index σ held t n code) old (with_held old held) before after (Err e) refl took.kept
  takes_it held t n code before after (Ok d) range k b c took = record {
    state = refl;
    facts = took.facts;
    answer = took.answer;
    packets = took.sent;
    kept = took.kept;
    can = subst CanRecord (sym took.facts)
        (record { fit = ((b, c), tt); short = few_short (facts.Held t n code ∷ []) ((b, c), tt) (omega arith) });
    journal = refl;
    range = held_range held range k;
  }

  -- ANSWERS

  abbrev answered : Tier → ℕ → ℕ → Move Mid
  answered t n code = on_answer m.faults m.me.index σ t n code

  abbrev first : HeldState → Tier → ℕ → ℕ → Move Mid
  first held t n code = takes_answer m.faults m.me.index σ held t n code

  pub answer_new : (held : HeldState) (t : Tier) (n code : ℕ) (before after : List (End × List ℕ)) (decided : Result Decided Memory) → IsInRange p m old
      → IsBackend t → IsCode (n, code) → true ≡ not (is_some (held_code old.rest.held t n)) → held ≡ takes old.rest.held t n code
      → Took m t n code before after decided
      → DecidesMove p m (on_answer m.faults m.me.index (mid_in m old) t n code) old (with_held old held) before after decided
  answer_new held t n code before after decided range b c new is took =
      let row : answered t n code ≡ first held t n code =
      ap (λ (z : Bool). cond z (idles σ why.Nothing) (first (takes old.rest.held t n code) t n code)) (not_held (is_some (held_code old.rest.held t n)) new)
      ∙ ap (λ (h : HeldState). first h t n code) (sym is) in
      subst (λ (move : Move Mid). DecidesMove p m move old (with_held old held) before after decided) (sym row)
      (takes_it held t n code before after decided range
      (subst (IsHeldIn m.faults m.me.index) (sym is) (takes_in m.faults m.me.index old.rest.held t n code range.kept.state.held c.0 c.1)) b c took)

  pub answer_again : (held : HeldState) (t : Tier) (n code : ℕ) (before : List (End × List ℕ)) (d : Decided) → IsInRange p m old
      → false ≡ not (is_some (held_code old.rest.held t n)) → held ≡ takes old.rest.held t n code → d.facts.items ≡ []
      → d.answer ≡ answers.Idle why.Nothing
      → DecidesMove p m (on_answer m.faults m.me.index (mid_in m old) t n code) old (with_held old held) before before (Ok d)
  answer_again held t n code before d range had is none idle =
      let there : is_some (held_code old.rest.held t n) ≡ true = is_held (is_some (held_code old.rest.held t n)) had in
      let same : held ≡ old.rest.held = is ∙ takes_none old.rest.held t n code there in
      let row : answered t n code ≡ idles σ why.Nothing =
      ap (λ (z : Bool). cond z (idles σ why.Nothing) (first (takes old.rest.held t n code) t n code)) there in
      subst (λ (move : Move Mid). DecidesMove p m move old (with_held old held) before before (Ok d)) (sym row)
      (without_facts p m (idles σ why.Nothing) old (with_held old held) before before d none refl idle
      (ap (λ (h : HeldState). holds σ h) same) (sym (append-nil before)) refl
      (held_range held range (subst (IsHeldIn m.faults m.me.index) (sym same) range.kept.state.held)))

  -- WHAT OTHERS HOLD

  abbrev told_of : ℕ → Tier → ℕ → ℕ → Move Mid
  told_of y t n code = on_have m.faults m.me.index σ y t n code

  abbrev after_note : Bool → ℕ → Tier → ℕ → ℕ → Move Mid
  after_note z y t n code = cond z (becomes (holds σ (hears old.rest.held y t n code))) (first (hears old.rest.held y t n code) t n code)

  have_row : (y : ℕ) (t : Tier) (n code : ℕ) (b : Bool) → is_noted old.rest.held y t n ≡ false → is_some (held_code old.rest.held t n) ≡ b
      → told_of y t n code ≡ after_note b y t n code
  have_row y t n code b e f =
      ap (λ (z : Bool). cond z (idles σ why.Nothing) (after_note (is_some (held_code old.rest.held t n)) y t n code)) e
      ∙ ap (λ (z : Bool). after_note z y t n code) f

  heard_range : (held : HeldState) (y : ℕ) (t : Tier) (n code : ℕ) → IsInRange p m old → IsCode (n, code) → held ≡ hears old.rest.held y t n code
      → IsHeldIn m.faults m.me.index held
  heard_range held y t n code range c is =
      subst (IsHeldIn m.faults m.me.index) (sym is) (hears_in m.faults m.me.index old.rest.held y t n code range.kept.state.held c.0 c.1)

  pub have_new : (held : HeldState) (y : ℕ) (t : Tier) (n code : ℕ) (before after : List (End × List ℕ)) (decided : Result Decided Memory)
      → IsInRange p m old → IsBackend t → IsCode (n, code) → is_noted old.rest.held y t n ≡ false
      → true ≡ not (is_some (held_code old.rest.held t n)) → held ≡ hears old.rest.held y t n code → Took m t n code before after decided
      → DecidesMove p m (on_have m.faults m.me.index (mid_in m old) y t n code) old (with_held old held) before after decided
  have_new held y t n code before after decided range b c noted new is took =
      subst (λ (move : Move Mid). DecidesMove p m move old (with_held old held) before after decided)
      (sym (have_row y t n code false noted (not_held (is_some (held_code old.rest.held t n)) new)
      ∙ ap (λ (h : HeldState). first h t n code) (sym is)))
      (takes_it held t n code before after decided range (heard_range held y t n code range c is) b c took)

  pub have_again : (held : HeldState) (y : ℕ) (t : Tier) (n code : ℕ) (before : List (End × List ℕ)) (d : Decided) → IsInRange p m old
      → IsCode (n, code) → is_noted old.rest.held y t n ≡ false → false ≡ not (is_some (held_code old.rest.held t n))
      → held ≡ hears old.rest.held y t n code → d.facts.items ≡ [] → d.answer ≡ answers.Did
      → DecidesMove p m (on_have m.faults m.me.index (mid_in m old) y t n code) old (with_held old held) before before (Ok d)
  have_again held y t n code before d range c noted had is none did =
      subst (λ (move : Move Mid). DecidesMove p m move old (with_held old held) before before (Ok d))
      (sym (have_row y t n code true noted (is_held (is_some (held_code old.rest.held t n)) had)))
      (without_facts p m (becomes (holds σ (hears old.rest.held y t n code))) old (with_held old held) before before d none refl did
      (ap (λ (h : HeldState). holds σ h) is) (sym (append-nil before)) refl (held_range held range (heard_range held y t n code range c is)))
