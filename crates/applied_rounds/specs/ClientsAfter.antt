-- The clients' table after a round.
use Rattle.std.specs.Prelude.{List, [], ◌∷◌, ℕ, Option, Some, None}
use Rattle.aeg_base.specs.declared.names.ReqId.{ReqId}
use Rattle.exec_model.specs.declared.job.Seg.{Seg}
use Rattle.batcher.specs.Clients.{ClientTable, starts, replies}

-- a segment of the request ended, with its reply or none
abbrev pub ended : ClientTable → ReqId → Option (List ℕ) → ClientTable
ended t who None = starts t who
ended t who (Some text) = replies (starts t who) who text

-- so did each of these, in their order
abbrev pub all_ended : ClientTable → List Seg → List (Option (List ℕ)) → ClientTable
all_ended t [] rs = t
all_ended t (j ∷ js) [] = t
all_ended t (j ∷ js) (r ∷ rs) = all_ended (ended t j.who r) js rs
