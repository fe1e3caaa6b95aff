use Rattle.round_model.proofs.HeldLaws.{told_stays}
use Rattle.resp_durable.proofs.held.Held.on_have.Goals as goal

pub note-requires : goal.note-requires
note-requires c =
    record {
      usable = told_stays c.args.self.now.faults c.args.self.now.me _ c.in-Some.answer c.told_by.result c.args.from
          c.in-Some.ensures.answer c.told_by.ensures.answer;
    }
