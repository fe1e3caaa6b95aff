use Rattle.std.proofs.Common.{◌≡◌, ◌∙◌, ap, subst, ℕ, List, IfOk}
use Rattle.aeg_base.specs.declared.names.Key.{Key}
use Rattle.aeg_base.specs.Store.{Store, pairs_of, empty}
use Rattle.kv_store.specs.Stores.{unwound, touched}
use Rattle.kv_store.specs.Changes.{picked}
use Rattle.kv_store.proofs.Differences.{picked_changes}
use Rattle.kv_store.proofs.store.Store.changed.Goals as goal

pub returns : goal.returns
returns c =
    let es = c.args.list.now.entries in
    let now = c.args.self.now.map in
    let back : c.rewind.new.store.map ≡ unwound es empty = c.in_ok-rewind.ensures ∙ ap (unwound es) c.new-before.ensures.map in
    let keys : c.touch.new.store.map ≡ touched es empty = c.in_ok-touch.ensures ∙ ap (touched es) c.new-touched.ensures.map in
    let listed : c.deref.result.now ≡ pairs_of (touched es empty) = c.deref.ensures.value ∙ c.in_ok-pairs.ensures ∙ ap pairs_of keys in
    let same = ap (λ (s : Store). picked s now c.deref.result.now) back ∙ ap (picked (unwound es empty) now) listed ∙ picked_changes es now in
    subst (λ (xs : List (Key × ℕ)). IfOk c.pick.result (λ pairs. pairs.items ≡ xs)) same c.pick.ensures
