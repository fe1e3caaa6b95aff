use Rattle.std.proofs.Common.{◌≡◌, ◌++◌, take}
use Rattle.std.specs.List.{flat_map}
use Rattle.tier_model.specs.MidRows.{haves}
use Rattle.node_log.specs.Packets.{all_sealed}
use Rattle.mid_rounds.proofs.telling_again.have_all_again.Given as goal

abbrev pub invariant-loop-code : goal.invariant-loop-code
invariant-loop-code l =
    l.out ≡ l.fn.out ++ flat_map (λ e. all_sealed (haves l.fn.member.faults l.fn.member.me.index l.fn.tier e.0 e.1)) (take l.code-index l.codes)
