use Rattle.kv_store.proofs.Writes.{no_pairs, all_empty, no_columns}
use Rattle.kv_store.proofs.store.Store.new.Goals as goal

pub invariant_of-result : goal.invariant_of-result
invariant_of-result c = no_columns c.empty_columns.result c.empty_columns.ensures.empty c.empty_columns.ensures.eight

pub returns-clause-map : goal.returns-clause-map
returns-clause-map c = no_pairs c.empty_columns.result (all_empty c.empty_columns.result c.empty_columns.ensures.empty)
