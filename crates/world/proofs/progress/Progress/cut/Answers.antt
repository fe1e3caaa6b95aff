use Rattle.std.proofs.Common.{sym, subst}
use Rattle.std.specs.Prelude.{map}
use Rattle.std.specs.Result.{OnOk}
use Rattle.run_model.specs.declared.line.Event.TheVariants as script
use Rattle.world.specs.Going.{AddsLine}
use Rattle.world.proofs.progress.Progress.cut.Goals as goal

pub returns-in-Deliver : goal.returns-in-Deliver
returns-in-Deliver g c =
    let state = g.D.Disk.state in
    subst (λ z. OnOk c.deliver.result
    (AddsLine c.args.self.now c.deliver.new.self (map state c.args.disks.now) (map state c.deliver.new.disks)
    c.args.lines.now c.deliver.new.lines (script.Cut c.args.stop.nth c.args.stop.keep z))) (sym c.in-Deliver.is)
    c.deliver.ensures

pub returns-in-Lead : goal.returns-in-Lead
returns-in-Lead g c =
    let state = g.D.Disk.state in
    subst (λ z. OnOk c.command.result
    (AddsLine c.args.self.now c.command.new.self (map state c.args.disks.now) (map state c.command.new.disks)
    c.args.lines.now c.command.new.lines (script.Cut c.args.stop.nth c.args.stop.keep z))) (sym c.in-Lead.is) c.command.ensures

pub returns-in-Offer : goal.returns-in-Offer
returns-in-Offer g c =
    let state = g.D.Disk.state in
    subst (λ z. OnOk c.command-in-Offer.result
    (AddsLine c.args.self.now c.command-in-Offer.new.self (map state c.args.disks.now)
    (map state c.command-in-Offer.new.disks) c.args.lines.now c.command-in-Offer.new.lines
    (script.Cut c.args.stop.nth c.args.stop.keep z))) (sym c.in-Offer.is) c.command-in-Offer.ensures
