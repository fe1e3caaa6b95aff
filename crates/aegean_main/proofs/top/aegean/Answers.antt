use Rattle.aegean_main.proofs.ReplayLaws.{its_own}
use Rattle.aegean_main.proofs.StatusLaws.{the_status}
use Rattle.aegean_main.proofs.TopLaws.{told_history}
use Rattle.aegean_main.proofs.top.aegean.Goals as goal

pub returns-then-is_word-clause-single_history : goal.returns-then-is_word-clause-single_history
returns-then-is_word-clause-single_history g c = λ one done. told_history _ _ _ _ c.single_call.ensures.follows done

pub returns-then-is_word-2-clause-replay_only : goal.returns-then-is_word-2-clause-replay_only
returns-then-is_word-2-clause-replay_only g c = λ one no_read no_write. the_status _ _ _ _
    (its_own _ _ _ _ _ _ _ _ no_read no_write c.replay_call.ensures.read.rose c.replay_call.ensures.write.rose
    c.replay_call.ensures.follows)
