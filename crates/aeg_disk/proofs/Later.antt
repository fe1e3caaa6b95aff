-- What each call of a disk keeps, whatever it answers.
use Rattle.std.proofs.Common.{◌≡◌, inl, inr, ℕ, ◌≤◌, List, Result, Ok, Err, refl, sym, ◌∙◌, ap, subst, arith}
use Rattle.aeg_disk.specs.declared.disk.DiskErr.{DiskErr}
use Rattle.aeg_disk.specs.declared.disk.DiskErr.TheVariants.{Failed, Memory}
use Rattle.aeg_disk.specs.Disk.{DiskState, Passed, Stop, Missed, Writes, Syncs, Looks, Later}

pub same_later : (a b : DiskState) → b ≡ a → Later a b
same_later a b e = subst (λ (s : DiskState). Later a s) (sym e) (record { faults = omega arith; tells = refl; free = λ h g. (h, g); stands = λ h. h })

passed_later : (a b : DiskState) → a.faults ≤ b.faults → Passed a b → Later a b
passed_later a b le p = record {
  faults = le;
  tells = p.tells;
  free = λ h g. (omega (arith, h, p.armed), p.runs);
  stands = λ h. let e = p.ran in cc;
}

stop_later : (a b : DiskState) (left : List ℕ) → Stop a b left → Later a b
stop_later a b left s = record {
  faults = omega (arith, s.faults);
  tells = s.tells;
  free = λ h g. absurd (omega (arith, h, s.met));
  stands = λ h. s.stopped;
}

missed_later : (a b : DiskState) → Missed a b → Later a b
missed_later a b m = record {
  faults = m.later;
  tells = ap (λ (s : DiskState). s.tells) m.same;
  free = λ h g. (ap (λ (s : DiskState). s.armed) m.same ∙ h, ap (λ (s : DiskState). s.stopped) m.same ∙ g);
  stands = λ h. let e = m.ran in cc;
}

pub write_later : (at : ℕ) (piece : List ℕ) (a b : DiskState) (r : Result (Unit {0}) DiskErr) → Writes at piece a b r → Later a b
write_later at piece a b (Ok u) w = passed_later a b (omega (arith, w.faults)) w.passed
write_later at piece a b (Err Memory) w = same_later a b w
write_later at piece a b (Err Failed) (inl w) = same_later a b w.same
write_later at piece a b (Err Failed) (inr (inl w)) = stop_later a b _ w
write_later at piece a b (Err Failed) (inr (inr w)) = passed_later a b w.later w.passed

pub sync_later : (a b : DiskState) (r : Result (Unit {0}) DiskErr) → Syncs a b r → Later a b
sync_later a b (Ok u) w = passed_later a b (omega (arith, w.faults)) w.passed
sync_later a b (Err Memory) w = same_later a b w
sync_later a b (Err Failed) (inl w) = same_later a b w.same
sync_later a b (Err Failed) (inr (inl w)) = stop_later a b _ w
sync_later a b (Err Failed) (inr (inr w)) = passed_later a b w.later w.passed

pub look_later : {T : Type 0} → (a b : DiskState) (r : Result T DiskErr) → Looks a b r → Later a b
look_later a b (Ok u) w = same_later a b w.1
look_later a b (Err Memory) w = same_later a b w
look_later a b (Err Failed) (inl w) = same_later a b w.same
look_later a b (Err Failed) (inr w) = missed_later a b w

-- one call after another
pub later_still : (a b c : DiskState) → Later a b → Later b c → Later a c
later_still a b c p q = record {
  faults = omega (arith, p.faults, q.faults);
  tells = q.tells ∙ p.tells;
  free = λ h g. let f = p.free h g in q.free f.0 f.1;
  stands = λ h. q.stands (p.stands h);
}
