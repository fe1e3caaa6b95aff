use Rattle.backend_node.proofs.Decided.{all_fit}
use Rattle.backend_node.proofs.back_node.BackNode.come_up.Goals as goal

pub serve_again-requires-clause-fit : goal.serve_again-requires-clause-fit
serve_again-requires-clause-fit g c = all_fit c.member-member.result c.in_ok-log.log c.in_ok-log.ensures.own
