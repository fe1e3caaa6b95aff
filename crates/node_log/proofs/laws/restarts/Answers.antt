use Rattle.node_log.proofs.Restarted.{came_up, restarts}
use Rattle.node_log.proofs.laws.restarts.Goals as goal

pub returns-clause-came_up : goal.returns-clause-came_up
returns-clause-came_up g c = came_up

pub returns-clause-restarts : goal.returns-clause-restarts
returns-clause-restarts g c = restarts
