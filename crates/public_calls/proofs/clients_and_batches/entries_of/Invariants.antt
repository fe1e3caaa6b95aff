use Rattle.std.specs.List.{All}
use Rattle.log_values.specs.Fields.{IsClient}
use Rattle.public_calls.proofs.clients_and_batches.entries_of.Given as goal

abbrev pub invariant-loop-row : goal.invariant-loop-row
invariant-loop-row l = All (λ e. IsClient e.client) l.entries.items
