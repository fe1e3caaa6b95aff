use Rattle.fact_journal.proofs.Standing.{blank_stands}
use Rattle.tier_nodes.proofs.Fates.{fate_is}
use Rattle.tier_nodes.proofs.laws.nodes_in_worlds.Goals as goal

pub returns-clause-fates : goal.returns-clause-fates
returns-clause-fates g c d fared records facts long = fate_is d fared records facts long

pub returns-clause-blank : goal.returns-clause-blank
returns-clause-blank g c disk blank rest = record { rest = rest; lists = blank_stands disk blank; ready = tt }
