use Rattle.std.proofs.Common.{◌≡◌, drop}
use Rattle.world.proofs.Events.NextPacket.{first_in}
use Rattle.world.proofs.parts.Parts.next.Given as goal

-- the first of those that are left is the first of all
abbrev pub invariant-loop-packet : goal.invariant-loop-packet
invariant-loop-packet l = first_in l.self.nodes l.packet (drop l.packet l.self.soup) ≡ first_in l.self.nodes l.cursor (drop l.cursor l.self.soup)
