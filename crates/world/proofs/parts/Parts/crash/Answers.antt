use Rattle.std.proofs.Common.{rules, ◌≡◌, ◌+◌, ◌*◌, ◌<◌, true, false, [], ◌∙◌, ap, sym, subst, append-nil}
use Rattle.std.proofs.lemmas.Result.{on_ok_weaker}
use Rattle.run_model.specs.declared.trace.TraceEvent.TheVariants as events
use Rattle.world.specs.Calling.{absent_text, parts_after}
use Rattle.world.specs.NodeLists.{up_at, condition_at}
use Rattle.world.proofs.Power.Crashes.{crash_by, crash_rests}
use Rattle.world.proofs.Power.CountsOfFaults.{falls_none}
use Rattle.world.proofs.Events.WholeEvents.{made, on_ok_three}
use Rattle.world.proofs.Calls.NodesThere.{has_shown}
use Rattle.world.proofs.parts.Parts.crash.Goals as goal

pub is_up-requires : goal.is_up-requires
is_up-requires c = let r = c.requires.shown in has_shown r.0 r.1 r.2 c.args.self.now c.args.node r.3 c.requires.there

pub pass_over-requires-clause-there : goal.pass_over-requires-clause-there
pass_over-requires-clause-there c = let r = c.requires.shown in has_shown r.0 r.1 r.2 c.args.self.now c.args.node r.3 c.requires.there

pub returns-then-not-is_up : goal.returns-then-not-is_up
returns-then-not-is_up c =
    let down : up_at c.args.self.now.nodes c.args.node ≡ false = sym c.is_up.ensures ∙ search rules in
    on_ok_three c.pass_over.result c.pass_over.ensures.told c.pass_over.ensures.same c.pass_over.ensures.within
    (λ told e within disks u depth w s d. made u depth w c.args.self.now c.pass_over.new.self c.args.self.now.nodes []
    disks disks (events.Crash c.args.node)
    (absent_text c.args.node (condition_at c.args.self.now.nodes c.args.node.tier c.args.node.index))
    c.args.lines.now c.pass_over.new.lines s within
    (crash_rests u depth w c.args.self.now.nodes c.args.node disks c.args.node.tier s.few s.nodes d
    (subst (λ z. c.args.node.index < 2 * z + 1) s.size c.requires.there) down) e told (λ f. absurd (cc)) (falls_none disks) tt)

pub returns : goal.returns
returns c =
    let up : up_at c.args.self.now.nodes c.args.node ≡ true = sym c.is_up.ensures ∙ search rules in
    on_ok_weaker c.send.result
    (λ sent disks u depth w s d. made u depth w c.args.self.now c.send.new.self c.crash.new.self [] disks disks
    (events.Crash c.args.node) [] c.args.lines.now c.args.lines.now s sent.1
    (crash_by u depth w c.args.self.now.nodes c.crash.new.self c.args.node disks c.args.node.tier s.few s.nodes d
    (subst (λ z. c.args.node.index < 2 * z + 1) s.size c.requires.there) up c.crash.ensures)
    (sent.0 ∙ ap (parts_after c.args.self.now c.crash.new.self) c.new.ensures) (sym (append-nil c.args.lines.now))
    (λ f. absurd (cc)) (falls_none disks) tt) c.send.ensures
