use Rattle.std.proofs.Common.{rules, ◌≡◌, ◌∙◌, sym, true, false, arith}
use Rattle.std.specs.Prelude.{slice_get}
use Rattle.world.specs.Packets.{is_taken_in}
use Rattle.world.proofs.Events.NextPacket.{first_found, first_passed, first_none, next_is}
use Rattle.world.proofs.parts.Parts.next.Goals as goal

pub returns-then-is_taken-clause-is : goal.returns-then-is_taken-clause-is
returns-then-is_taken-clause-is c = λ u depth w s.
    let taken : is_taken_in c.args.self.now.nodes (slice_get c.args.self.now.soup c.loop-packet.packet) ≡ true = sym c.is_taken.ensures ∙ c.if-is_taken.true in
    sym (first_found c.args.self.now.nodes c.loop-packet.packet c.loop-packet.packet c.args.self.now.soup
    (omega (arith, c.loop-packet-test.true, c.len-packet-end.ensures.is)) taken) ∙ c.loop-packet.invariant
    ∙ next_is u depth w c.args.self.now c.args.cursor s

pub loop-packet-preserved : goal.loop-packet-preserved
loop-packet-preserved c =
    let passed : is_taken_in c.args.self.now.nodes (slice_get c.args.self.now.soup c.loop-packet.packet) ≡ false = sym c.is_taken.ensures ∙ search rules in
    first_passed c.args.self.now.nodes c.loop-packet.packet c.loop-packet.packet c.args.self.now.soup
    (omega (arith, c.loop-packet-test.true, c.len-packet-end.ensures.is)) passed ∙ c.loop-packet.invariant

pub returns-clause-is : goal.returns-clause-is
returns-clause-is c = λ u depth w s.
    sym (first_none c.args.self.now.nodes c.loop-packet.packet c.loop-packet.packet c.args.self.now.soup
    (omega (arith, c.loop-packet-test.false, c.len-packet-end.ensures.is))) ∙ c.loop-packet.invariant
    ∙ next_is u depth w c.args.self.now c.args.cursor s
