-- A disk that was armed holds what it held.
use Rattle.std.proofs.Common.{◌≡◌, ℕ, Bool, ap}
use Rattle.aeg_disk.specs.Disk.{DiskState, SameContent}

-- arming a disk changes no content
pub armed_same : (a b : DiskState) (nth : ℕ) (keep : Bool) → b ≡ record a { armed = nth; keep = keep } → SameContent a b × (b.tells ≡ a.tells)
armed_same a b nth keep e = (
  record {
    bytes = ap (λ (s : DiskState). s.bytes) e;
    kept = ap (λ (s : DiskState). s.kept) e;
    ranges = ap (λ (s : DiskState). s.ranges) e;
    past = ap (λ (s : DiskState). s.past) e;
  },
  ap (λ (s : DiskState). s.tells) e,
)
