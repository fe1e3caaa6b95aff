use Rattle.fact_journal.proofs.Standing.{having_stands, blank_stands, erased_stands, same_stands, same_facts}
use Rattle.fact_journal.proofs.laws.standing_disks.Goals as goal

pub returns-clause-alone : goal.returns-clause-alone
returns-clause-alone c = having_stands

pub returns-clause-blank : goal.returns-clause-blank
returns-clause-blank c = blank_stands

pub returns-clause-erased : goal.returns-clause-erased
returns-clause-erased c = erased_stands

pub returns-clause-same_lists : goal.returns-clause-same_lists
returns-clause-same_lists c = same_stands

pub returns-clause-same_facts : goal.returns-clause-same_facts
returns-clause-same_facts c = same_facts
