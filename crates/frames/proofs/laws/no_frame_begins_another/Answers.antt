use Rattle.frames.proofs.FrameGrammar.{frames_distinct, longer, prefix}
use Rattle.frames.proofs.laws.no_frame_begins_another.Goals as goal

pub returns-clause-distinct : goal.returns-clause-distinct
returns-clause-distinct c = frames_distinct

pub returns-clause-whole : goal.returns-clause-whole
returns-clause-whole c = record { prefix = prefix; longer = longer }
