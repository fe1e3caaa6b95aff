use Rattle.std.proofs.Common.{◌≡◌, ℕ, List, length, take, drop, [], ◌∷◌, sym, ap, subst, ◌∙◌, refl, le_trans}
use Rattle.std.proofs.lemmas.List.{take_at, drop_at}
use Rattle.aeg_base.specs.declared.names.Key.{Key}
use Rattle.aeg_base.specs.Store.{Store, written}
use Rattle.kv_store.specs.Stores.{unwound, StaysWithin}
use Rattle.kv_store.proofs.Unwinding.{stays_before, stays_last}
use Rattle.kv_store.proofs.store.Store.take_back.Goals as goal

pub write-requires-clause-room : goal.write-requires-clause-room
write-requires-clause-room c =
    le_trans (stays_last _ _ c.newest-value.result c.args.self.now.map
    (subst (λ (es : List (Key × ℕ)). StaysWithin c.args.list.now.top es c.args.self.now.map)
    c.newest-value.ensures.entries c.requires.left)) c.requires.room

pub returns-clause-map : goal.returns-clause-map
returns-clause-map c =
    let es = c.newest-value.new.self.entries in
    c.write.ensures.map ∙ sym
    (ap (λ (es : List (Key × ℕ)). unwound es c.args.self.now.map)
    (ap (drop (length es)) c.newest-value.ensures.entries ∙ drop_at es (c.newest-value.result ∷ []) (length es) refl))

pub returns-clause-entries : goal.returns-clause-entries
returns-clause-entries c =
    let es = c.newest-value.new.self.entries in
    subst (λ (all : List (Key × ℕ)). es ≡ take (length es) all) (sym c.newest-value.ensures.entries)
    (sym (take_at es (c.newest-value.result ∷ []) (length es) refl))

pub returns-clause-left : goal.returns-clause-left
returns-clause-left c =
    let es = c.newest-value.new.self.entries in
    let old = stays_before c.args.list.now.top es c.newest-value.result c.args.self.now.map
    (subst (λ (all : List (Key × ℕ)). StaysWithin c.args.list.now.top all c.args.self.now.map)
    c.newest-value.ensures.entries c.requires.left) in
    subst (λ (s : Store). StaysWithin c.newest-value.new.self.top es s) (sym c.write.ensures.map)
    (subst (λ n. StaysWithin n es (written c.args.self.now.map c.newest-value.result.0 c.newest-value.result.1))
    (sym c.newest-value.ensures.top) old)
