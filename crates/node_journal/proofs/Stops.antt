-- Where an armed stop is met in an append, and what it leaves.
use Rattle.std.proofs.Common.{◌≡◌, ◌⊎◌, inl, inr, ℕ, ◌+◌, ◌-◌, ◌<◌, ◌≤◌, List, [], ◌∷◌, ◌++◌, length, Bool, true, false}
use Rattle.std.proofs.Common.{cond, Result, Ok, Err, refl, sym, ◌∙◌, ap, subst, arith}
use Rattle.aeg_disk.specs.declared.disk.DiskErr.{DiskErr}
use Rattle.aeg_disk.specs.declared.disk.DiskErr.TheVariants.{Failed, Memory}
use Rattle.aeg_disk.specs.Disk.{DiskState, Image, Lost, Stop, Passed, Writes, Syncs, written, Rose}
use Rattle.aeg_disk.proofs.Images.{image_lost, kept_image}
use Rattle.aeg_base.specs.declared.limits.TheConstants.{RECORD_BYTES}
use Rattle.node_journal.specs.Journal.{Ends, entry}
use Rattle.node_journal.specs.Append.{Ran, Holds, StopMet, is_kept}
use Rattle.node_journal.proofs.Crash.{Staged, staged_ends}
use Rattle.node_journal.proofs.Leaves.{either}
use Rattle.node_journal.proofs.Runs.{First, Second, Third, first, second, third, stage, gate}

by_keep : (rs1 rs : List (List ℕ)) (at1 at : ℕ) (k : Bool) (x y : List ℕ) → Ends rs1 at1 x → Ends rs at y → Ends (cond k rs1 rs) (cond k at1 at) (cond k x y)
by_keep rs1 rs at1 at true x y p q = p
by_keep rs1 rs at1 at false x y p q = q

-- what a stop leaves at one of the first two calls, and at one of the last two
early : (rs : List (List ℕ)) (at : ℕ) (left : List ℕ) (s z : DiskState) → Lost left s z → Ends rs at left → Ends rs at s.kept → Holds rs at z
early rs at left s z l p q x h = subst (Ends rs at) (sym (image_lost left s z x l h)) (either (Ends rs at) s.keep left s.kept p q)

late : (rs1 rs : List (List ℕ)) (at1 at : ℕ) (left : List ℕ) (s z : DiskState) (keep : Bool) → s.keep ≡ keep
    → Lost left s z → Ends rs1 at1 left → Ends rs at s.kept
    → Holds (cond keep rs1 rs) (cond keep at1 at) z
late rs1 rs at1 at left s z keep k l p q = subst (λ (b : Bool). Holds (cond b rs1 rs) (cond b at1 at) z) k
    (λ x h. subst (Ends (cond s.keep rs1 rs) (cond s.keep at1 at)) (sym (image_lost left s z x l h)) (by_keep rs1 rs at1 at s.keep left s.kept p q))

-- the list that is there after a stop at this call
abbrev Left : List (List ℕ) → ℕ → List ℕ → Bool → DiskState → ℕ → Type 0
Left rs at body keep z nth = Holds (cond (is_kept nth keep) (rs ++ body ∷ []) rs) (cond (is_kept nth keep) (at + 5 + length body) at) z

met : (rs : List (List ℕ)) (at : ℕ) (body : List ℕ) (a z : DiskState) (nth : ℕ) → a.armed ≡ nth → 1 ≤ nth → nth ≤ 4
    → z.faults ≡ a.faults → (a.tells ≡ true → Left rs at body a.keep z nth) → StopMet rs at body a z
met rs at body a z nth is low high faults left = record {
  first = omega (arith, is);
  last = omega (arith, is);
  faults = faults;
  left = λ t. subst (Left rs at body a.keep z) (sym is) (left t);
}

module _ (body : List ℕ) (low : 0 < length body) (high : length body ≤ RECORD_BYTES) (rs : List (List ℕ)) (at : ℕ) (a : DiskState) (ran : a.stopped ≡ false)
    (holds : a.tells ≡ true → Holds rs at a) (reads : a.tells ≡ true → Image a a.bytes) where
  abbrev S : DiskState → Type 0
  S z = z.stopped ≡ true → StopMet rs at body a z

  stopped_write : (n : ℕ) (piece : List ℕ) (s z : DiskState) (e : DiskErr) → s.stopped ≡ false
      → (Stop s z (written n piece s.bytes) → StopMet rs at body a z) → Writes n piece s z (Err e) → S z
  stopped_write n piece s z Memory run stop same stands = cc
  stopped_write n piece s z Failed run stop (inl stood) stands = let e = stood.stopped in cc
  stopped_write n piece s z Failed run stop (inr (inl met)) stands = stop met
  stopped_write n piece s z Failed run stop (inr (inr fault)) stands = let e = fault.passed.runs in cc

  stopped_sync : (s z : DiskState) (e : DiskErr) → s.stopped ≡ false → (Stop s z s.bytes → StopMet rs at body a z) → Syncs s z (Err e) → S z
  stopped_sync s z Memory run stop same stands = cc
  stopped_sync s z Failed run stop (inl stood) stands = let e = stood.stopped in cc
  stopped_sync s z Failed run stop (inr (inl met)) stands = stop met
  stopped_sync s z Failed run stop (inr (inr fault)) stands = let e = fault.passed.runs in cc

  -- after so many calls that were done
  pub record Far (n : ℕ) (s : DiskState) : Type 0 where
    pub armed : s.armed ≡ a.armed - n
    pub unmet : a.armed ≤ n → a.armed ≡ 0
    pub faults : s.faults ≡ a.faults
    pub keep : s.keep ≡ a.keep
    pub tells : s.tells ≡ a.tells
    pub run : s.stopped ≡ false

  pub far0 : Far 0 a
  far0 = record { armed = omega arith; unmet = λ h. omega arith; faults = refl; keep = refl; tells = refl; run = ran }

  pub far_more : (n : ℕ) (s b : DiskState) → Far n s → Passed s b → b.faults ≡ s.faults → Far (n + 1) b
  far_more n s b f p faults = record {
    armed = omega (arith, p.armed, f.armed);
    unmet = λ h. let u = p.unmet in let g = f.unmet in let e = f.armed in omega arith;
    faults = faults ∙ f.faults;
    keep = p.keep ∙ f.keep;
    tells = p.tells ∙ f.tells;
    run = p.runs;
  }

  stop_at : (n : ℕ) (s z : DiskState) (left : List ℕ) → Far n s → Stop s z left → n < 4
      → (a.tells ≡ true → s.tells ≡ true → Lost left s z → Left rs at body a.keep z (n + 1)) → StopMet rs at body a z
  stop_at n s z left f stop le after =
      let is : a.armed ≡ n + 1 = omega (arith, stop.met, f.armed) in
      met rs at body a z (n + 1) is (omega arith) (omega arith) (stop.faults ∙ f.faults) (λ t. after t (f.tells ∙ t) (stop.content (f.tells ∙ t)))

  module _ (t : a.tells ≡ true) where
    F : (b : DiskState) → Writes (at + 1) (entry body) a b (Ok tt) → First body low high rs at a t (holds t) (reads t) b
    F b w = first body low high rs at a t (holds t) (reads t) b w

    G : (b c : DiskState) → Writes (at + 1) (entry body) a b (Ok tt) → Syncs b c (Ok tt) → Second body low high rs at a t (holds t) (reads t) c
    G b c w s = second body low high rs at a t (holds t) (reads t) b c (F b w) s

    H : (b c d : DiskState) → Writes (at + 1) (entry body) a b (Ok tt) → Syncs b c (Ok tt)
        → Writes at (1 ∷ []) c d (Ok tt) → Third body low high rs at a t (holds t) (reads t) d
    H b c d w s v = third body low high rs at a t (holds t) (reads t) c d (G b c w s) v

  pub stops : (z : DiskState) (r : Result (Unit {0}) DiskErr) → Ran at (entry body) a z r → S z
  stops z (Ok u) run = λ stands. let e = run.6.passed.runs in cc
  stops z (Err e) (inl w) = stopped_write (at + 1) (entry body) a z e ran
      (λ stop. stop_at 0 a z (written (at + 1) (entry body) a.bytes) far0 stop (omega arith)
      (λ t st lost. early rs at (written (at + 1) (entry body) a.bytes) a z lost
      (staged_ends body low high rs at (written (at + 1) (entry body) a.bytes) (stage body low high rs at a t (holds t) (reads t)))
      (holds t a.kept (kept_image a.kept a.ranges)))) w
  stops z (Err e) (inr (inl w)) =
      let f1 = far_more 0 a w.0 far0 w.1.passed w.1.faults in
      stopped_sync w.0 z e f1.run
      (λ stop. stop_at 1 w.0 z w.0.bytes f1 stop (omega arith)
      (λ t st lost. let f = F t w.0 w.1 in early rs at w.0.bytes w.0 z lost (staged_ends body low high rs at w.0.bytes f.staged) f.kept)) w.2
  stops z (Err e) (inr (inr (inl w))) =
      let f1 = far_more 0 a w.0 far0 w.2.passed w.2.faults in
      let f2 = far_more 1 w.0 w.1 f1 w.3.passed w.3.faults in
      stopped_write at (1 ∷ []) w.1 z e f2.run
      (λ stop. stop_at 2 w.1 z (written at (1 ∷ []) w.1.bytes) f2 stop (omega arith)
      (λ t st lost. let g = G t w.0 w.1 w.2 w.3 in
      late (rs ++ body ∷ []) rs (at + 5 + length body) at (written at (1 ∷ []) w.1.bytes) w.1 z a.keep f2.keep lost
      (gate body low high rs at a t (holds t) (reads t) w.1 g)
      (staged_ends body low high rs at w.1.kept (subst (λ (l : List ℕ). Staged body low high rs at l) (sym g.kept) g.staged)))) w.4
  stops z (Err e) (inr (inr (inr w))) =
      let f1 = far_more 0 a w.0 far0 w.3.passed w.3.faults in
      let f2 = far_more 1 w.0 w.1 f1 w.4.passed w.4.faults in
      let f3 = far_more 2 w.1 w.2 f2 w.5.passed w.5.faults in
      stopped_sync w.2 z e f3.run
      (λ stop. stop_at 3 w.2 z w.2.bytes f3 stop (omega arith)
      (λ t st lost. let h = H t w.0 w.1 w.2 w.3 w.4 w.5 in
      late (rs ++ body ∷ []) rs (at + 5 + length body) at w.2.bytes w.2 z a.keep f3.keep lost h.new
      (staged_ends body low high rs at w.2.kept h.kept))) w.6

  risen : (s z : DiskState) → s.faults ≡ a.faults → Rose s.faults z.faults → Rose a.faults z.faults
  risen s z e h = subst (λ (n : ℕ). Rose n z.faults) e h

  after_write : (n : ℕ) (piece : List ℕ) (s z : DiskState) → s.stopped ≡ false → s.faults ≡ a.faults
      → Writes n piece s z (Err Failed) → (z.stopped ≡ true) ⊎ Rose a.faults z.faults
  after_write n piece s z run e (inl stood) = let y = stood.stopped in cc
  after_write n piece s z run e (inr (inl stop)) = inl stop.stopped
  after_write n piece s z run e (inr (inr fault)) = inr (risen s z e fault.faults)

  after_sync : (s z : DiskState) → s.stopped ≡ false → s.faults ≡ a.faults → Syncs s z (Err Failed) → (z.stopped ≡ true) ⊎ Rose a.faults z.faults
  after_sync s z run e (inl stood) = let y = stood.stopped in cc
  after_sync s z run e (inr (inl stop)) = inl stop.stopped
  after_sync s z run e (inr (inr fault)) = inr (risen s z e fault.faults)

  pub failed : (z : DiskState) → Ran at (entry body) a z (Err Failed) → (z.stopped ≡ true) ⊎ Rose a.faults z.faults
  failed z (inl w) = after_write (at + 1) (entry body) a z ran refl w
  failed z (inr (inl w)) = let f1 = far_more 0 a w.0 far0 w.1.passed w.1.faults in after_sync w.0 z f1.run f1.faults w.2
  failed z (inr (inr (inl w))) =
      let f1 = far_more 0 a w.0 far0 w.2.passed w.2.faults in
      let f2 = far_more 1 w.0 w.1 f1 w.3.passed w.3.faults in
      after_write at (1 ∷ []) w.1 z f2.run f2.faults w.4
  failed z (inr (inr (inr w))) =
      let f1 = far_more 0 a w.0 far0 w.3.passed w.3.faults in
      let f2 = far_more 1 w.0 w.1 f1 w.4.passed w.4.faults in
      let f3 = far_more 2 w.1 w.2 f2 w.5.passed w.5.faults in
      after_sync w.2 z f3.run f3.faults w.6

  -- no call of a disk that was armed for one of the four is acknowledged
  pub unarmed : (z : DiskState) → Ran at (entry body) a z (Ok tt) → a.armed ≤ 4 → a.armed ≡ 0
  unarmed z w h =
      let f1 = far_more 0 a w.0 far0 w.3.passed w.3.faults in
      let f2 = far_more 1 w.0 w.1 f1 w.4.passed w.4.faults in
      let f3 = far_more 2 w.1 w.2 f2 w.5.passed w.5.faults in
      let f4 = far_more 3 w.2 z f3 w.6.passed w.6.faults in
      f4.unmet h

stood_writes : (n : ℕ) (piece : List ℕ) (s z : DiskState) → s.stopped ≡ true → Writes n piece s z (Err Failed) → z ≡ s
stood_writes n piece s z h (inl stood) = stood.same
stood_writes n piece s z h (inr (inl stop)) = let e = stop.ran in cc
stood_writes n piece s z h (inr (inr fault)) = let e = fault.passed.ran in cc

-- a disk that stands stopped stays so
pub stood : (at : ℕ) (piece : List ℕ) (a z : DiskState) → a.stopped ≡ true → Ran at piece a z (Err Failed) → z.stopped ≡ true
stood at piece a z h (inl w) = let e = stood_writes (at + 1) piece a z h w in ap (λ (s : DiskState). s.stopped) e ∙ h
stood at piece a z h (inr (inl w)) = let e = w.1.passed.ran in cc
stood at piece a z h (inr (inr (inl w))) = let e = w.2.passed.ran in cc
stood at piece a z h (inr (inr (inr w))) = let e = w.3.passed.ran in cc
