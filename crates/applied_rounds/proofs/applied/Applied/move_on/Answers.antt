use Rattle.std.proofs.Common.{◌≡◌, ◌<◌, ap, ◌∙◌, sym, subst}
use Rattle.std.specs.Prelude.{IfOk}
use Rattle.pipeline.specs.States.{next_wants}
use Rattle.row_laws.specs.Mids.{rounds_in}
use Rattle.applied_rounds.specs.States.{AppliedState, after_round}
use Rattle.applied_rounds.specs.Told.{tolds}
use Rattle.applied_rounds.proofs.MovedOn.{next_inside, on_ok, asked_now, calls_now, tolds_by, kept_on, state_on}
use Rattle.applied_rounds.proofs.applied.Applied.move_on.Goals as goal

pub end_all-requires-clause-asked : goal.end_all-requires-clause-asked
end_all-requires-clause-asked c =
    asked_now c.self.inside.rounds c.requires.next.0 c.args.job.now c.items.result.now c.self.invariant.range
    (next_inside _ c.args.self.now c.requires.next.0 c.args.job.now c.self.view_is c.requires.next.1) c.items.ensures

pub let_out-requires-clause-calls : goal.let_out-requires-clause-calls
let_out-requires-clause-calls c =
    let n = next_inside _ c.args.self.now c.requires.next.0 c.args.job.now c.self.view_is c.requires.next.1 in (
      c.self.inside.rounds.numbers,
      calls_now c.self.inside.rounds c.requires.next.0 c.args.job.now c.args.ends.now c.in_ok-calls.calls.items c.self.invariant.range
          n (c.in_ok-calls.ensures.calls c.requires.next.0 n),
    )

pub invariant_of-self-2 : goal.invariant_of-self-2
invariant_of-self-2 c =
    let n = next_inside _ c.args.self.now c.requires.next.0 c.args.job.now c.self.view_is c.requires.next.1 in
    kept_on c.self.inside.store c.self.inside.run c.self.inside.rounds c.park.new.self c.self.inside.clients c.end_all.new.clients c.requires.next.0
    c.args.job.now c.items.result.now c.args.ends.now c.in_ok-replies.replies.items c.self.inside.barrier c.let_out.new.barrier c.self.invariant
    (ap (λ (z : AppliedState). z.run) c.self.view_is ∙ c.requires.idle)
    (subst (λ (z : AppliedState). z.applied < 2048) (sym c.self.view_is) c.requires.rounds)
    (record {
      next = n;
      each = c.requires.each;
      moved = c.in_ok-calls.ensures.ok c.requires.next.0 n;
      segs_are = c.items.ensures;
      replies_are = c.in_ok-replies.ensures;
      ended = c.end_all.ensures;
    }) c.let_out.ensures.applied c.let_out.ensures.nothing

pub returns-clause-state : goal.returns-clause-state
returns-clause-state c = λ fresh k.
    let n = next_inside _ c.args.self.now fresh c.args.job.now c.self.view_is k in
    on_ok _ c.let_out.result (
    state_on c.self.inside.store c.self.inside.run c.self.inside.rounds c.park.new.self c.self.inside.clients c.end_all.new.clients fresh c.args.job.now
    c.items.result.now c.args.ends.now c.in_ok-replies.replies.items (ap (λ (z : AppliedState). z.run) c.self.view_is ∙ c.requires.idle)
    (record {
      next = n;
      each = c.requires.each;
      moved = c.in_ok-calls.ensures.ok fresh n;
      segs_are = c.items.ensures;
      replies_are = c.in_ok-replies.ensures;
      ended = c.end_all.ensures;
    })
    ∙ ap (λ (z : AppliedState). after_round z (next_wants (rounds_in z.applied z.tables) fresh) (record { store = z.tables.store; ends = c.args.ends.now }))
    c.self.view_is)

pub returns-clause-told : goal.returns-clause-told
returns-clause-told c = λ fresh k.
    let n = next_inside _ c.args.self.now fresh c.args.job.now c.self.view_is k in
    subst (λ z. IfOk c.let_out.result (λ told. told.items ≡ z))
    (tolds_by c.self.inside.rounds.numbers c.args.job.now.segs (next_wants c.self.inside.rounds fresh) c.args.ends.now n.segs
    ∙ ap (λ (z : AppliedState). tolds z.tables.next (next_wants (rounds_in z.applied z.tables) fresh) c.args.ends.now) c.self.view_is)
    (c.let_out.ensures.told c.self.inside.rounds.numbers
    (calls_now c.self.inside.rounds fresh c.args.job.now c.args.ends.now c.in_ok-calls.calls.items c.self.invariant.range n (c.in_ok-calls.ensures.calls fresh n)))
