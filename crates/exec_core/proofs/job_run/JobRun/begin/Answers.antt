use Rattle.std.proofs.Common.{◌≡◌, ◌≤◌, ◌∙◌, ap, sym, subst, length, drop, List, false}
use Rattle.std.specs.List.{All}
use Rattle.aeg_base.specs.Store.{Store}
use Rattle.exec_model.specs.declared.job.Seg.{Seg}
use Rattle.exec_model.specs.Jobs.{groups_of}
use Rattle.key_mixer.specs.Lists.{lists_of}
use Rattle.exec_core.specs.Jobs.{BeginsWell}
use Rattle.exec_core.specs.Underway.{IsReached}
use Rattle.exec_core.proofs.job_run.JobRun.begin.Goals as goal

pub invariant_of-result : goal.invariant_of-result
invariant_of-result g c =
    let plan = g.S.Prog.Program.plan in
    let begins = g.S.Service.beginning c.args.svc.now in
    let segs = c.items-segs.result.now in
    let e = c.in_ok-work.ensures in
    let same : segs ≡ c.args.job.now.segs = c.items-segs.ensures in
    record {
      begin_well = subst (λ (xs : List Seg). All (BeginsWell begins) xs) (sym same) c.requires.begins;
      few = subst (λ (xs : List Seg). length xs ≤ 32) (sym same) c.requires.few;
      reached = λ no. subst (λ (s : Store). IsReached plan begins segs s c.in_ok-work.work) (sym e.start) e.reached;
      service = c.requires.service;
      job = same ∙ c.requires.job;
      start_is = e.start ∙ c.requires.start;
    }

pub returns-clause-run : goal.returns-clause-run
returns-clause-run g c =
    let w = c.in_ok-work.work in
    let e = c.in_ok-work.ensures in
    let job : c.items-segs.result.now ≡ g.T.Task.segs = c.items-segs.ensures ∙ c.requires.job in
    let left : drop w.at (lists_of w.groups.items) ≡ groups_of g.T.Task.begins g.T.Task.segs =
    ap (λ k. drop k (lists_of w.groups.items)) e.at ∙ e.reached.groups ∙ (λ k. groups_of (c.requires.service k) (job k)) in
    λ k. record { steps = e.steps k; left = left k; short = false }
