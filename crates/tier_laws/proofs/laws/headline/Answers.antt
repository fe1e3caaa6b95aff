use Rattle.frames.specs.declared.message.Msg.TheVariants as messages
use Rattle.round_model.specs.Tables.{who_of}
use Rattle.tier_model.specs.Moves.{tier_of}
use Rattle.run_model.specs.Runs.{world}
use Rattle.tier_laws.proofs.Lists.FewNodes.{inv}
use Rattle.tier_laws.proofs.Said.FromInvariant.{legal, sent, reply_sent, has_reply, has_call, has_answer}
use Rattle.tier_laws.proofs.laws.headline.Goals as goal

pub returns-clause-legal : goal.returns-clause-legal
returns-clause-legal g x c es l laws = legal c (world c es) (inv c es l laws)

pub returns-clause-replies : goal.returns-clause-replies
returns-clause-replies g x c es i k who text l laws e f = reply_sent c (world c es) i k who text (inv c es l laws) e f

pub returns-clause-calls : goal.returns-clause-calls
returns-clause-calls g x c es i n k text l laws e f = has_call c (world c es) (tier_of k.to) n text (inv c es l laws)
    (sent c (world c es) i k (messages.Call n text) (inv c es l laws) e f)

pub returns-clause-answers : goal.returns-clause-answers
returns-clause-answers g x c es i n code k l laws e f = has_answer c (world c es) (tier_of k.from) n code
    (inv c es l laws) (sent c (world c es) i k (messages.Answer n code) (inv c es l laws) e f)

pub returns-clause-haves : goal.returns-clause-haves
returns-clause-haves g x c es i n code t k l laws e f = has_answer c (world c es) t n code (inv c es l laws)
    (sent c (world c es) i k (messages.Have t n code) (inv c es l laws) e f).0

pub returns-clause-starts : goal.returns-clause-starts
returns-clause-starts g x c es i n who body l laws e = (inv c es l laws).core.starts i n who body e

pub returns-clause-told : goal.returns-clause-told
returns-clause-told g x c es i e l laws f = has_reply c (world c es) (who_of e) e.body (inv c es l laws) ((inv c es l laws).core.told i e f)
