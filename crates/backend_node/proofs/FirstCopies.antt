-- A copy of a call that counts.
use Rattle.std.proofs.Common.{◌≡◌, ℕ, Bool, true, false, ◌||◌, cond, List, [], not, refl, sym, ap, ◌∙◌, subst, append-nil, Ok}
use Rattle.aeg_base.specs.declared.names.End.{End}
use Rattle.log_values.specs.Fields.{IsCallNumber, IsText}
use Rattle.tier_model.specs.declared.turn.Turn.TheVariants.{Did}
use Rattle.tier_model.specs.declared.turn.Idle.TheVariants as why
use Rattle.round_model.specs.Lists.{is_some}
use Rattle.round_model.specs.Shims.{ShimState, copies_at, copy_of, ignores, is_done, notes, takes_copy}
use Rattle.server_shim.specs.Ranges.{IsShimIn}
use Rattle.server_shim.proofs.Ranged.{notes_in}
use Rattle.tier_model.specs.Moves.{Move, becomes, idles}
use Rattle.tier_model.specs.Back.{Back}
use Rattle.tier_model.specs.BackRows.{copied, notes_copy}
use Rattle.node_log.specs.declared.decided.Decided.{Decided}
use Rattle.node_log.specs.declared.working.Working.{Working}
use Rattle.node_log.specs.declared.member.Member.{Member}
use Rattle.backend_node.specs.declared.serving.Serving.{Serving}
use Rattle.backend_node.specs.Deciding.{DecidesMove, IsInRange, back_in}
use Rattle.backend_node.proofs.Decided.{without_facts}

not_true : (b : Bool) → true ≡ not b → b ≡ false
not_true true e = absurd cc
not_true false e = refl

module _ {B : Type 0} (m : Member) (old : Working (Serving B)) (shim : ShimState) (s n : ℕ) (text : List ℕ) (counts : Bool) where
  abbrev σ : Back B
  σ = back_in old

  abbrev new : Working (Serving B)
  new = record { log = old.log; journal = old.journal; rest = record { backend = old.rest.backend; shim = shim } }

  heard : counts ≡ true → counts ≡ not (ignores old.rest.shim s n) → ignores old.rest.shim s n ≡ false
  heard is_so is = not_true (ignores old.rest.shim s n) (sym is_so ∙ is)

  first : is_done old.rest.shim n ≡ false → ignores old.rest.shim s n ≡ false → is_some (copy_of (copies_at old.rest.shim n) s) ≡ false
  first undone free = sym (ap (λ (z : Bool). z || is_some (copy_of (copies_at old.rest.shim n) s)) undone) ∙ free

  row : is_some (copy_of (copies_at old.rest.shim n) s) ≡ false → notes_copy σ s n text ≡ becomes (copied σ s n text)
  row e = ap (λ (z : Bool). cond {A = Move (Back B)} z (idles σ why.Nothing) (becomes (copied σ s n text))) e

  shim_is : shim ≡ takes_copy old.rest.shim s n text → ignores old.rest.shim s n ≡ false → shim ≡ notes old.rest.shim s n text
  shim_is after free = after ∙ ap (λ (z : Bool). cond {A = ShimState} z old.rest.shim (notes old.rest.shim s n text)) free

  -- the first copy of a sender counts
  pub noted : (d : Decided) (out : List (End × List ℕ)) → IsInRange m old → IsCallNumber n → IsText text → is_done old.rest.shim n ≡ false
      → counts ≡ true → counts ≡ not (ignores old.rest.shim s n) → shim ≡ takes_copy old.rest.shim s n text → d.facts.items ≡ [] → d.answer ≡ Did
      → DecidesMove m (notes_copy (back_in old) s n text) old new out out (Ok d)
  noted d out range number fits undone is_so is after none did =
      let free = heard is_so is in
      let noted_is = shim_is after free in
      subst (λ (z : Move (Back B)). DecidesMove m z old new out out (Ok d)) (sym (row (first undone free)))
      (without_facts m (becomes (copied σ s n text)) old new out out d none refl did (ap (λ z. record σ { shim = z }) noted_is) (sym (append-nil out)) refl
      (record { log = range.log; shim = subst (IsShimIn m.faults) (sym noted_is) (notes_in m.faults old.rest.shim s n text range.shim number fits) }))
