-- An end of a segment, from its kind and its text.
use Rattle.std.specs.Prelude.{ℕ, List}
use Rattle.svc_api.specs.declared.action.Ending.{Ending}
use Rattle.svc_api.specs.declared.action.Ending.TheVariants as ends
use Rattle.log_values.specs.declared.end_text.EndKind.{EndKind}
use Rattle.log_values.specs.declared.end_text.EndKind.TheVariants as kinds

abbrev pub ending_of : EndKind → List ℕ → Ending
ending_of kinds.Reply body = ends.Reply body
ending_of (kinds.Call tier stage) body = ends.Call tier stage body
