-- How what a crash leaves goes on from call to call.
use Rattle.std.proofs.Common.{◌≡◌, inl, inr, ℕ, List, [], ◌∷◌, length, Bool, true, false, cond, Err, refl, sym, ◌∙◌, ap, subst}
use Rattle.aeg_disk.specs.declared.disk.DiskErr.{DiskErr}
use Rattle.aeg_disk.specs.declared.disk.DiskErr.TheVariants.{Failed, Memory}
use Rattle.aeg_disk.specs.Disk.{DiskState, Moment, Image, now, Torn, Put, Settled, SameContent, Lost, Writes, Syncs, written}
use Rattle.aeg_disk.proofs.Images.{kept_image, image_put, image_spoilt, image_same, image_settled, image_lost}
use Rattle.node_journal.specs.Append.{LeavesOnly}

pub either : (P : List ℕ → Type 0) (k : Bool) (x y : List ℕ) → P x → P y → P (cond k x y)
either P true x y p q = p
either P false x y p q = q

module _ (a : DiskState) (P : List ℕ → Type 0) where
  pub started : ((c : List ℕ) → Image a c → P c) → LeavesOnly a a P
  started here = record { since = ([], refl, tt); here = here }

  pub moves : (s z : DiskState) → LeavesOnly a s P → z.past ≡ now z ∷ s.past → ((c : List ℕ) → Image z c → P c) → LeavesOnly a z P
  moves s z so past here = record {
    since = (now z ∷ so.since.0, past ∙ ap (λ (l : List Moment). now z ∷ l) so.since.1, (here, so.since.2));
    here = here;
  }

  pub stays : (s z : DiskState) → LeavesOnly a s P → z ≡ s → LeavesOnly a z P
  stays s z so same = subst (λ (d : DiskState). LeavesOnly a d P) (sym same) so

  -- only the faults has changed
  pub counts : (s z : DiskState) → LeavesOnly a s P → z ≡ record s { faults = z.faults } → LeavesOnly a z P
  counts s z so same = subst (λ (d : DiskState). LeavesOnly a d P) (sym same) (record { since = so.since; here = so.here })

  pub rests : (s z : DiskState) → LeavesOnly a s P → SameContent s z → LeavesOnly a z P
  rests s z so same = record {
    since = (so.since.0, same.past ∙ so.since.1, so.since.2);
    here = λ c h. so.here c (image_same s z c same h);
  }

  pub kept_has : (s : DiskState) → LeavesOnly a s P → P s.kept
  kept_has s so = so.here s.kept (kept_image s.kept s.ranges)

  lost : (left : List ℕ) (s z : DiskState) → LeavesOnly a s P → P left → Lost left s z → LeavesOnly a z P
  lost left s z so p l = moves s z so l.past (λ c h. subst P (sym (image_lost left s z c l h)) (either P s.keep left s.kept p (kept_has s so)))

  pub write_done : (at : ℕ) (piece : List ℕ) (s z : DiskState) → LeavesOnly a s P
      → ((c d : List ℕ) → Image s c → Torn at (length piece) c d → P d) → Put at piece s z → LeavesOnly a z P
  write_done at piece s z so torn put = moves s z so put.past (λ c h. let from = image_put at piece s z c put h in torn from.0 c from.1 from.2)

  pub sync_done : (s z : DiskState) → LeavesOnly a s P → P s.bytes → Settled s z → LeavesOnly a z P
  sync_done s z so p settled = moves s z so settled.past (λ c h. subst P (sym (image_settled s z c settled h)) p)

  pub write_failed : (at : ℕ) (piece : List ℕ) (s z : DiskState) (e : DiskErr) → s.tells ≡ true → LeavesOnly a s P
      → ((c d : List ℕ) → Image s c → Torn at (length piece) c d → P d) → P (written at piece s.bytes)
      → Writes at piece s z (Err e) → LeavesOnly a z P
  write_failed at piece s z Memory tells so torn p same = stays s z so same
  write_failed at piece s z Failed tells so torn p (inl stood) = stays s z so stood.same
  write_failed at piece s z Failed tells so torn p (inr (inl stop)) = lost (written at piece s.bytes) s z so p (stop.content tells)
  write_failed at piece s z Failed tells so torn p (inr (inr fault)) = elim (fault.content tells) [
    | inl spoilt ↦ moves s z so spoilt.past (λ c h. let from = image_spoilt at (length piece) s z c spoilt h in torn from.0 c from.1 from.2)
    | inr same ↦ rests s z so same
  ]

  pub sync_failed : (s z : DiskState) (e : DiskErr) → s.tells ≡ true → LeavesOnly a s P → P s.bytes → Syncs s z (Err e) → LeavesOnly a z P
  sync_failed s z Memory tells so p same = stays s z so same
  sync_failed s z Failed tells so p (inl stood) = stays s z so stood.same
  sync_failed s z Failed tells so p (inr (inl stop)) = lost s.bytes s z so p (stop.content tells)
  sync_failed s z Failed tells so p (inr (inr fault)) = rests s z so (fault.content tells)
