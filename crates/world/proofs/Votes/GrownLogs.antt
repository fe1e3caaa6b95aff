-- What is chosen leaves the nodes and their disks.
use Rattle.std.proofs.Common.{◌≡◌, refl, ◌∙◌, subst, sym, ℕ, Option, Some, None, List}
use Rattle.aeg_base.specs.declared.names.Tier.{Tier}
use Rattle.aeg_base.specs.declared.names.Tier.TheVariants.{Mid, Inv, Pay}
use Rattle.aeg_disk.specs.Disk.{DiskState}
use Rattle.log_values.specs.declared.any_value.AnyValue.{AnyValue}
use Rattle.run_model.specs.Runs.{grown, chosen_next, grows_at, grows}
use Rattle.run_model.specs.BookingRuns.{config, BookingWorld}
use Rattle.world.specs.Disks.{AreDisks, AreDisksOf, first_of}

at_same : (u depth : ℕ) (w : BookingWorld) (t : Tier) (o : Option AnyValue) → (grown (config u depth) w t o).nodes ≡ w.nodes
at_same u depth w t None = refl
at_same u depth w t (Some v) = refl

tier_same : (u depth : ℕ) (w : BookingWorld) (t : Tier) → (grows_at (config u depth) t w).nodes ≡ w.nodes
tier_same u depth w t = at_same u depth w t (chosen_next (config u depth) w t)

grown_same : (u depth : ℕ) (w : BookingWorld) → (grows (config u depth) w).nodes ≡ w.nodes
grown_same u depth w =
    let a = grows_at (config u depth) Mid w in
    let b = grows_at (config u depth) Inv a in
    tier_same u depth b Pay ∙ tier_same u depth a Inv ∙ tier_same u depth w Mid

-- they stay the disks of a world with the same nodes
pub same_disks : (v w : BookingWorld) (disks : List DiskState) → v.nodes ≡ w.nodes → AreDisks w disks → AreDisks v disks
same_disks v w disks s k = record { all = k.all; at = λ t. subst (λ f. AreDisksOf (f t) (first_of t) disks) (sym s) (k.at t) }

pub grown_disks : (u depth : ℕ) (w : BookingWorld) (disks : List DiskState) → AreDisks w disks → AreDisks (grows (config u depth) w) disks
grown_disks u depth w disks k = same_disks (grows (config u depth) w) w disks (grown_same u depth w) k
