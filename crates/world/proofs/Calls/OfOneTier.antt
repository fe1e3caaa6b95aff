-- What is said of the nodes of one tier, whatever tier that is, and the tiers that stay when one changes.
use Rattle.std.proofs.Common.{◌≡◌, ℕ, ◌+◌, ◌<◌, Bool, true, false, List, refl, sym, ◌∙◌, subst, Some, arith}
use Rattle.std.specs.Prelude.{slice_get, slice_set}
use Rattle.aeg_base.specs.declared.names.Tier.{Tier}
use Rattle.aeg_base.specs.declared.names.Tier.TheVariants.{Mid, Inv, Pay}
use Rattle.aeg_disk.specs.Disk.{DiskState}
use Rattle.server_model.specs.Server.{same_tier}
use Rattle.log_model.specs.Nodes.{Node as NodeOf}
use Rattle.log_values.specs.declared.fact.Fact.{Fact}
use Rattle.tier_model.specs.Kinds.{State}
use Rattle.run_model.specs.World.{Nodes as WorldNodes, put_nodes}
use Rattle.world.specs.declared.nodes.all_nodes.Nodes.{Nodes}
use Rattle.world.specs.Calling.{IsSureIf}
use Rattle.world.specs.Disks.{first_of}
use Rattle.world.specs.Parts.{NodePart, View, PartOf, MayWrite, view_with}
use Rattle.world.specs.NodeLists.{views, view_up, up_in, view_down, down_in, view_condition, condition_at, KeepsElse, MayWriteIn, ChangedIn}

-- THE OTHER TIERS

pub keeps_refl : (t : Tier) (old : Nodes) → KeepsElse t old old
keeps_refl Mid old = (refl, refl)
keeps_refl Inv old = (refl, refl)
keeps_refl Pay old = (refl, refl)

pub keeps_then : (t : Tier) (old between new : Nodes) → KeepsElse t old between → KeepsElse t between new → KeepsElse t old new
keeps_then Mid old between new h k = (k.0 ∙ h.0, k.1 ∙ h.1)
keeps_then Inv old between new h k = (k.0 ∙ h.0, k.1 ∙ h.1)
keeps_then Pay old between new h k = (k.0 ∙ h.0, k.1 ∙ h.1)

pub keeps_views : (t v : Tier) (old new : Nodes) → same_tier v t ≡ false → KeepsElse t old new → views new v ≡ views old v
keeps_views Mid Mid old new e h = absurd (cc)
keeps_views Mid Inv old new e h = h.0
keeps_views Mid Pay old new e h = h.1
keeps_views Inv Mid old new e h = h.0
keeps_views Inv Inv old new e h = absurd (cc)
keeps_views Inv Pay old new e h = h.1
keeps_views Pay Mid old new e h = h.0
keeps_views Pay Inv old new e h = h.1
keeps_views Pay Pay old new e h = absurd (cc)

-- what holds of the tier that is put and of each other one as it was holds of all
pub put_both : {B : Type 0} (f : WorldNodes B) (t : Tier) (g : ℕ → NodeOf (State B t) Fact) (P : (v : Tier) → (ℕ → NodeOf (State B v) Fact) → Type 0)
    → P t g → ((v : Tier) → same_tier v t ≡ false → P v (f v)) → (v : Tier) → P v (put_nodes f t g v)
put_both f Mid g P h k Mid = h
put_both f Mid g P h k Inv = k Inv refl
put_both f Mid g P h k Pay = k Pay refl
put_both f Inv g P h k Mid = k Mid refl
put_both f Inv g P h k Inv = h
put_both f Inv g P h k Pay = k Pay refl
put_both f Pay g P h k Mid = k Mid refl
put_both f Pay g P h k Inv = k Inv refl
put_both f Pay g P h k Pay = h

-- the disks of two tiers are apart
pub apart : (v t : Tier) (x : ℕ) → x < 5 → same_tier v t ≡ false → (y : ℕ) → y < 5 → first_of v + y ≡ first_of t + x → ⊥
apart Mid Mid x l e y m f = cc
apart Mid Inv x l e y m f = omega (arith, l, m, f)
apart Mid Pay x l e y m f = omega (arith, l, m, f)
apart Inv Mid x l e y m f = omega (arith, l, m, f)
apart Inv Inv x l e y m f = cc
apart Inv Pay x l e y m f = omega (arith, l, m, f)
apart Pay Mid x l e y m f = omega (arith, l, m, f)
apart Pay Inv x l e y m f = omega (arith, l, m, f)
apart Pay Pay x l e y m f = cc

-- A NODE OF THE TIER

pub up_is : (nodes : Nodes) (t : Tier) (x : ℕ) → up_in nodes t x ≡ view_up (slice_get (views nodes t) x)
up_is nodes Mid x = refl
up_is nodes Inv x = refl
up_is nodes Pay x = refl

pub down_is : (nodes : Nodes) (t : Tier) (x : ℕ) → down_in nodes t x ≡ view_down (slice_get (views nodes t) x)
down_is nodes Mid x = refl
down_is nodes Inv x = refl
down_is nodes Pay x = refl

pub condition_is : (nodes : Nodes) (t : Tier) (x : ℕ) → condition_at nodes t x ≡ view_condition (slice_get (views nodes t) x)
condition_is nodes Mid x = refl
condition_is nodes Inv x = refl
condition_is nodes Pay x = refl

pub may_write_in : (nodes : Nodes) (t : Tier) (x : ℕ) (disk : DiskState)
    → ((v : View (PartOf t)) → slice_get (views nodes t) x ≡ Some v → MayWrite v.part disk) → MayWriteIn nodes t x disk
may_write_in nodes Mid x disk h = h
may_write_in nodes Inv x disk h = h
may_write_in nodes Pay x disk h = h

-- its part is changed so
abbrev pub ViewsChange : (t : Tier) → List (View (PartOf t)) → List (View (PartOf t)) → ℕ → (NodePart (PartOf t) → NodePart (PartOf t)) → Type 0
ViewsChange t old new x change = (v : View (PartOf t)) → slice_get old x ≡ Some v → new ≡ slice_set old x (view_with change v)

pub changed : (t : Tier) (old new : Nodes) (x : ℕ) (change : (S : Type 0) → NodePart S → NodePart S) → ChangedIn old new t x change
    → ViewsChange t (views old t) (views new t) x (change (PartOf t)) × KeepsElse t old new
changed Mid old new x change h = h
changed Inv old new x change h = h
changed Pay old new x change h = h

-- the power is put back
pub keeps_sure : (t : Tier) (met : Bool) (old new : Nodes) (x : ℕ) → IsSureIf met old new t x → KeepsElse t old new
keeps_sure Mid true old new x k = k.1
keeps_sure Inv true old new x k = k.1
keeps_sure Pay true old new x k = k.1
keeps_sure t false old new x k = subst (KeepsElse t old) (sym k) (keeps_refl t old)
