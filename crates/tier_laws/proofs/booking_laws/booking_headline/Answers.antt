use Rattle.frames.specs.declared.message.Msg.TheVariants as messages
use Rattle.round_model.specs.Tables.{who_of}
use Rattle.tier_model.specs.Moves.{tier_of}
use Rattle.run_model.specs.Runs.{world}
use Rattle.tier_laws.specs.Services.{booking_run}
use Rattle.tier_laws.proofs.Lists.FewNodes.{booking_inv}
use Rattle.tier_laws.proofs.Said.FromInvariant.{legal, sent, reply_sent, has_reply, has_call, has_answer}
use Rattle.tier_laws.proofs.booking_laws.booking_headline.Goals as goal

pub returns-clause-legal : goal.returns-clause-legal
returns-clause-legal x a es l = legal (booking_run a) (world (booking_run a) es) (booking_inv a es l)

pub returns-clause-replies : goal.returns-clause-replies
returns-clause-replies x a es i k who text l e f = reply_sent (booking_run a) (world (booking_run a) es) i k who text (booking_inv a es l) e f

pub returns-clause-calls : goal.returns-clause-calls
returns-clause-calls x a es i n k text l e f = has_call (booking_run a) (world (booking_run a) es) (tier_of k.to) n text
    (booking_inv a es l) (sent (booking_run a) (world (booking_run a) es) i k (messages.Call n text) (booking_inv a es l) e f)

pub returns-clause-answers : goal.returns-clause-answers
returns-clause-answers x a es i n code k l e f = has_answer (booking_run a) (world (booking_run a) es) (tier_of k.from)
    n code (booking_inv a es l)
    (sent (booking_run a) (world (booking_run a) es) i k (messages.Answer n code) (booking_inv a es l) e f)

pub returns-clause-haves : goal.returns-clause-haves
returns-clause-haves x a es i n code t k l e f = has_answer (booking_run a) (world (booking_run a) es) t n code
    (booking_inv a es l) (sent (booking_run a) (world (booking_run a) es) i k (messages.Have t n code) (booking_inv a es l) e f).0

pub returns-clause-starts : goal.returns-clause-starts
returns-clause-starts x a es i n who body l e = (booking_inv a es l).core.starts i n who body e

pub returns-clause-told : goal.returns-clause-told
returns-clause-told x a es i e l f = has_reply (booking_run a) (world (booking_run a) es) (who_of e) e.body
    (booking_inv a es l) ((booking_inv a es l).core.told i e f)
