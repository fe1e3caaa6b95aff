use Rattle.std.proofs.Common.{◌∙◌, ap, sym, subst}
use Rattle.std.specs.Prelude.{map}
use Rattle.std.specs.Result.{OnOk}
use Rattle.std.proofs.lemmas.Result.{on_ok_weaker}
use Rattle.run_model.specs.declared.line.Event.TheVariants as script
use Rattle.world.specs.Going.{AddsLine}
use Rattle.world.proofs.progress.Progress.make.Goals as goal

pub returns-in-Submit : goal.returns-in-Submit
returns-in-Submit g c =
    let disks = map g.D.Disk.state c.args.disks.now in
    subst (λ z. OnOk c.submit.result
    (AddsLine c.args.self.now c.submit.new.self disks disks c.args.lines.now c.submit.new.lines z))
    (sym c.in-Submit.is) (on_ok_weaker c.submit.result (λ h. h disks c.requires.step.1) c.submit.ensures)

pub returns-in-Node : goal.returns-in-Node
returns-in-Node g c =
    let disks = map g.D.Disk.state c.args.disks.now in
    subst (λ z. OnOk c.retry.result
    (AddsLine c.args.self.now c.retry.new.self disks disks c.args.lines.now c.retry.new.lines z))
    (sym (c.in-Retry.is ∙ ap script.Retry c.in-Node.is))
    (on_ok_weaker c.retry.result (λ h. h disks c.requires.step.1) c.retry.ensures)

pub returns-in-Client : goal.returns-in-Client
returns-in-Client g c =
    let disks = map g.D.Disk.state c.args.disks.now in
    subst (λ z. OnOk c.ask_again.result
    (AddsLine c.args.self.now c.ask_again.new.self disks disks c.args.lines.now c.ask_again.new.lines z))
    (sym (c.in-Retry.is ∙ ap script.Retry c.in-Client.is))
    (on_ok_weaker c.ask_again.result (λ h. h disks c.requires.step.1) c.ask_again.ensures)

pub returns-in-Crash : goal.returns-in-Crash
returns-in-Crash g c =
    let disks = map g.D.Disk.state c.args.disks.now in
    subst (λ z. OnOk c.crash.result
    (AddsLine c.args.self.now c.crash.new.self disks disks c.args.lines.now c.crash.new.lines z))
    (sym c.in-Crash.is) (on_ok_weaker c.crash.result (λ h. h disks c.requires.step.1) c.crash.ensures)

pub returns-in-Short : goal.returns-in-Short
returns-in-Short g c =
    let state = g.D.Disk.state in
    subst (λ z. OnOk c.short.result
    (AddsLine c.args.self.now c.short.new.self (map state c.args.disks.now) (map state c.short.new.disks)
    c.args.lines.now c.short.new.lines z)) (sym c.in-Short.is) c.short.ensures

pub returns-in-Deliver : goal.returns-in-Deliver
returns-in-Deliver g c =
    let state = g.D.Disk.state in
    subst (λ z. OnOk c.deliver.result
    (AddsLine c.args.self.now c.deliver.new.self (map state c.args.disks.now) (map state c.deliver.new.disks)
    c.args.lines.now c.deliver.new.lines z)) (sym c.in-Deliver.is) c.deliver.ensures

pub returns-in-Lead : goal.returns-in-Lead
returns-in-Lead g c =
    let state = g.D.Disk.state in
    subst (λ z. OnOk c.command.result
    (AddsLine c.args.self.now c.command.new.self (map state c.args.disks.now) (map state c.command.new.disks)
    c.args.lines.now c.command.new.lines z)) (sym c.in-Lead.is) c.command.ensures

pub returns-in-Offer : goal.returns-in-Offer
returns-in-Offer g c =
    let state = g.D.Disk.state in
    subst (λ z. OnOk c.command-in-Offer.result
    (AddsLine c.args.self.now c.command-in-Offer.new.self (map state c.args.disks.now)
    (map state c.command-in-Offer.new.disks) c.args.lines.now c.command-in-Offer.new.lines z)) (sym c.in-Offer.is)
    c.command-in-Offer.ensures

pub returns-in-Restart : goal.returns-in-Restart
returns-in-Restart g c =
    let state = g.D.Disk.state in
    subst (λ z. OnOk c.restart.result
    (AddsLine c.args.self.now c.restart.new.self (map state c.args.disks.now) (map state c.restart.new.disks)
    c.args.lines.now c.restart.new.lines z)) (sym c.in-Restart.is) c.restart.ensures.adds

pub returns-in-Wipe : goal.returns-in-Wipe
returns-in-Wipe g c =
    let state = g.D.Disk.state in
    subst (λ z. OnOk c.wipe.result
    (AddsLine c.args.self.now c.wipe.new.self (map state c.args.disks.now) (map state c.wipe.new.disks)
    c.args.lines.now c.wipe.new.lines z)) (sym c.in-Wipe.is) c.wipe.ensures
