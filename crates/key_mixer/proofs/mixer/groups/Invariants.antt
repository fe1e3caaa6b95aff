use Rattle.std.proofs.Common.{◌≡◌, ◌<◌, length}
use Rattle.std.specs.List.{All}
use Rattle.exec_model.specs.Groups.{mix}
use Rattle.key_mixer.specs.Lists.{lists_of, set_at}
use Rattle.key_mixer.proofs.mixer.groups.Given as goal

abbrev pub invariant-segments : goal.invariant-segments
invariant-segments l = record {
  mixed : lists_of l.groups.items ≡ mix (set_at l.sets) l.i;
  members : All (λ g. All (λ j. j < length l.sets) g.items) l.groups.items;
}
