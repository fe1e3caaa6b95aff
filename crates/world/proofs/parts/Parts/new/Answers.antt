use Rattle.std.proofs.Common.{refl}
use Rattle.world.proofs.Events.BeforeTheFirst.{begins}
use Rattle.world.proofs.parts.Parts.new.Goals as goal

pub returns : goal.returns
returns c =
    begins c.args.u c.args.depth (record {
      alloc = c.args.alloc;
      u = c.args.u;
      nodes = c.in_ok-nodes.nodes;
      clients = c.in_ok-clients.clients;
      soup = c.new-2.result;
      watch = c.new-3.result;
    })
    c.requires refl c.in_ok-nodes.ensures c.in_ok-clients.ensures c.new-2.ensures c.new-3.ensures
