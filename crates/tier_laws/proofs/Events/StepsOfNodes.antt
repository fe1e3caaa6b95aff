-- The steps of a node, whatever it is: M is known of a node in a mode, and E is shown with a node in the place of this one.
use Rattle.std.proofs.Common.{◌≡◌, ℕ, Bool, true, false, cond, List, [], ◌∷◌, ◌++◌, refl, sym, ap, ◌∙◌, subst, inl, inr, Option, Some, None, zero, suc}
use Rattle.std.specs.Prelude.{slice_get}
use Rattle.log_model.specs.Recover.{newest, onto}
use Rattle.log_model.specs.Nodes.{Device, Mode, Node, is_well, or_written, failed, moved, sent, recorded, stands, crashed, found_at, restarted, up_as, up_from}
use Rattle.log_model.specs.Nodes.Device.{Fine, CutKeep, CutDrop, Fault}
use Rattle.log_model.specs.Nodes.Mode.{Down, Gone, Up}
use Rattle.log_model.specs.declared.fact.Fact.{Fact as LogFact}
use Rattle.log_model.proofs.History.{newest-push}
use Rattle.log_values.specs.declared.any_value.AnyValue.{AnyValue}
use Rattle.log_values.specs.declared.fact.Fact.{Fact}
use Rattle.tier_laws.proofs.MidNodes.CodesOfFacts.{Code, codes_in, codes_in-onto, helds}
use Rattle.tier_model.proofs.Facts.{log_facts-onto}
use Rattle.tier_laws.specs.Said.{StandsFor}
use Rattle.tier_model.specs.Moves.{Move, Packet, log_facts}

-- ONE MORE RECORD

pub newest_log : (R : List (List Fact)) (fs : List Fact) (new old : List (LogFact AnyValue)) → log_facts fs ≡ new
    → log_facts (newest R) ≡ old → log_facts (newest (recorded R fs)) ≡ onto new old
newest_log R fs new old e f = ap log_facts (newest-push R fs []) ∙ log_facts-onto fs (newest R) ∙ ap (λ z. onto z (log_facts (newest R))) e ∙ ap (onto new) f

pub newest_held : (R : List (List Fact)) (fs : List Fact) (old : List Code) → codes_in (newest R) ≡ old → codes_in (newest (recorded R fs)) ≡ old ++ helds fs
newest_held R fs old f = ap codes_in (newest-push R fs []) ∙ codes_in-onto fs (newest R) ∙ ap (λ z. z ++ helds fs) f

-- A MOVE

pub record AtMove {S : Type 0} (M : Node S Fact → Mode S → Type 0) (E : Node S Fact → List Packet → Type 0) (node : Node S Fact) (v : Move S) : Type 0 where
  pub well : E (stands (Up v.state) (recorded node.records v.facts)) v.sends
  pub quiet : (n : Node S Fact) → M n n.mode → E n []
  pub kept : E (stands Down (recorded node.records v.facts)) []
  pub dropped : M (stands Down node.records) Down
  pub left_open : M (record { mode = Down; records = node.records; others = or_written node.records v.facts }) Down

failed_ok : {S : Type 0} (M : Node S Fact → Mode S → Type 0) (E : Node S Fact → List Packet → Type 0) (node : Node S Fact) (v : Move S) (d : Device)
    → AtMove M E node v → is_well d v.facts ≡ false → E (failed node v.facts d) []
failed_ok M E node v Fine k e = absurd (cc)
failed_ok M E node v CutKeep k e = k.kept
failed_ok M E node v CutDrop k e = k.quiet (failed node v.facts CutDrop) k.dropped
failed_ok M E node v Fault k e = k.quiet (failed node v.facts Fault) k.left_open

pub moved_ok : {S : Type 0} (M : Node S Fact → Mode S → Type 0) (E : Node S Fact → List Packet → Type 0) (node : Node S Fact) (v : Move S) (d : Device)
    → AtMove M E node v → E (moved node d v.state v.facts) (sent d v.facts v.sends)
moved_ok M E node v d k = go (is_well d v.facts) refl
  where
    go : (b : Bool) → is_well d v.facts ≡ b → E (cond b (stands (Up v.state) (recorded node.records v.facts)) (failed node v.facts d)) (cond b v.sends [])
    go true e = k.well
    go false e = failed_ok M E node v d k e

-- what may have been written
pub or_written_ok : (G : List (List Fact) → Type 0) (records : List (List Fact)) (facts fs : List Fact) → fs ≡ facts → G (recorded records facts)
    → (n : ℕ) (R : List (List Fact)) → slice_get (or_written records fs) n ≡ Some R → G R
or_written_ok G records facts [] e k n R f = absurd (cc)
or_written_ok G records facts (x ∷ xs) e k zero R f = let s : recorded records (x ∷ xs) ≡ R = cc in subst G s (subst (λ z. G (recorded records z)) (sym e) k)
or_written_ok G records facts (x ∷ xs) e k (suc n) R f = absurd (cc)

-- CRASH AND RESTART

pub crash_ok : {S : Type 0} (M : Node S Fact → Mode S → Type 0) (node : Node S Fact) (m : Mode S)
    → ((σ : S) → M node (Up σ) → M (stands Down node.records) Down) → M node m → M node node.mode
    → M (crashed node m) (crashed node m).mode
crash_ok M node (Up σ) f k l = f σ k
crash_ok M node Down f k l = l
crash_ok M node Gone f k l = l

pub record AtRestart {S : Type 0} (M : Node S Fact → Mode S → Type 0) (E : Node S Fact → Type 0) (recover : List Fact → S) (node : Node S Fact) : Type 0 where
  pub same : E node
  pub first : M node Down → E (up_from recover node.records)
  pub other : M node Down → (n : ℕ) (R : List (List Fact)) → slice_get node.others n ≡ Some R → E (up_from recover R)

found_ok : {S : Type 0} (M : Node S Fact → Mode S → Type 0) (E : Node S Fact → Type 0) (recover : List Fact
    → S) (node : Node S Fact) (n : ℕ) → AtRestart M E recover node → M node Down → E (found_at recover node n)
found_ok M E recover node zero k m = k.first m
found_ok M E recover node (suc n) k m = go (slice_get node.others n) refl
  where
    go : (o : Option (List (List Fact))) → slice_get node.others n ≡ o → E (up_as recover node o)
    go None e = k.same
    go (Some R) e = k.other m n R e

pub restart_ok : {S : Type 0} (M : Node S Fact → Mode S → Type 0) (E : Node S Fact → Type 0) (recover : List Fact
    → S) (node : Node S Fact) (found : Option ℕ) (m : Mode S) → AtRestart M E recover node → M node m
    → E (restarted recover node found m)
restart_ok M E recover node (Some n) Down k l = found_ok M E recover node n k l
restart_ok M E recover node None Down k l = k.same
restart_ok M E recover node (Some n) (Up σ) k l = k.same
restart_ok M E recover node None (Up σ) k l = k.same
restart_ok M E recover node (Some n) Gone k l = k.same
restart_ok M E recover node None Gone k l = k.same

-- WHAT A DISK STANDS FOR

-- G holds of each list that the disk may stand for
pub disk_of : {S : Type 0} (M : Node S Fact → Mode S → Type 0) (G : List (List Fact) → Type 0) (node : Node S Fact)
    (m : Mode S) (R : List (List Fact)) → ((σ : S) → M node (Up σ) → G node.records) → (M node Down → G node.records)
    → (M node Down → (n : ℕ) (Q : List (List Fact)) → slice_get node.others n ≡ Some Q → G Q) → M node m → StandsFor node m R → G R
disk_of M G node (Up σ) R up down other k s = subst G s (up σ k)
disk_of M G node Down R up down other k (inl s) = subst G s (down k)
disk_of M G node Down R up down other k (inr s) = other k s.0 R s.1
disk_of M G node Gone R up down other k s = absurd s
