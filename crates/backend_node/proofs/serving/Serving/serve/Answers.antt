use Rattle.std.proofs.Common.{rules, ◌<◌, subst, sym}
use Rattle.server_shim.specs.Ranges.{IsShimIn}
use Rattle.server_shim.proofs.Ranged.{serves_in}
use Rattle.backend_node.proofs.serving.Serving.serve.Goals as goal

pub returns-clause-range : goal.returns-clause-range
returns-clause-range g c u range =
    let byte : c.in_ok-code.code < 256 = search rules in
    subst (IsShimIn u) (sym c.in_ok-served.ensures.ok) (serves_in u c.args.self.now.shim c.args.no c.in_ok-code.code range (c.requires.number, byte))
