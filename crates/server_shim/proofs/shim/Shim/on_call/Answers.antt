use Rattle.std.proofs.Common.{sym, ◌∙◌}
use Rattle.server_shim.proofs.Waiting.{counts_in, more_wait_in}
use Rattle.server_shim.proofs.shim.Shim.on_call.Goals as goal

pub note-requires-clause-stays : goal.note-requires-clause-stays
note-requires-clause-stays c none =
    counts_in _ c.args.self.now c.args.from c.args.no _ c.in_ok-copies.copies c.self.view_is
    (sym c.ignores.ensures.ignores ∙ c.if-ignores.false) c.in_ok-copies.ensures.copies none

pub invariant_of-self-2 : goal.invariant_of-self-2
invariant_of-self-2 c =
    let more = more_wait_in _ c.args.self.now c.note.new.self.copies c.args.from c.args.no c.in_ok-copies.copies c.self.view_is
    (sym c.ignores.ensures.ignores ∙ c.if-ignores.false) c.self.invariant.3 c.in_ok-note.ensures.ok in
    (c.self.invariant.0, c.self.invariant.1, c.note.ensures.ready, more)
