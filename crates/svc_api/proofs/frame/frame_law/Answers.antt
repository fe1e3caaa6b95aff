use Rattle.svc_api.proofs.Touched.{ending_same, keys_same, changes_same, elsewhere_same}
use Rattle.svc_api.proofs.frame.frame_law.Goals as goal

pub returns : goal.returns
returns c = record {
  ending = ending_same;
  keys = keys_same;
  changes = changes_same;
  elsewhere = elsewhere_same;
}
