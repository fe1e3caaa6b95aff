-- Puts that are taken back to a mark.
use Rattle.std.proofs.Common.{◌≡◌, ℕ, ◌≤◌, List, [], ◌∷◌, ◌++◌, length, take, drop, sym, ap, ◌∙◌, take-append-drop}
use Rattle.std.proofs.lemmas.List.{drop-append-le}
use Rattle.aeg_base.specs.declared.names.Key.{Key}
use Rattle.aeg_base.specs.Store.{Store, value_at, written}
use Rattle.kv_store.specs.Stores.{unwound}
use Rattle.kv_store.proofs.Unwinding.{start_kept, unwound-append}

-- a put after the mark leaves what the mark found
pub base_kept : (es es' : List (Key × ℕ)) (mark : ℕ) (s s' : Store) (k : Key) (v : ℕ) → mark ≤ length es
    → es' ≡ es ++ (k, value_at s k) ∷ [] → s' ≡ written s k v → unwound (drop mark es') s' ≡ unwound (drop mark es) s
base_kept es es' mark s s' k v le log put =
    ap (λ xs. unwound (drop mark xs) s') log ∙ ap (unwound (drop mark (es ++ (k, value_at s k) ∷ []))) put
    ∙ ap (λ xs. unwound xs (written s k v)) (drop-append-le mark es ((k, value_at s k) ∷ []) le)
    ∙ start_kept (drop mark es) s k v

-- what is taken back to a mark, and then before it, is all
pub start_of_mark : (es es' : List (Key × ℕ)) (mark : ℕ) (s s' : Store) → es' ≡ take mark es → s' ≡ unwound (drop mark es) s → unwound es' s' ≡ unwound es s
start_of_mark es es' mark s s' front back =
    ap (λ xs. unwound xs s') front ∙ ap (unwound (take mark es)) back
    ∙ sym (unwound-append (take mark es) (drop mark es) s) ∙ ap (λ xs. unwound xs s) (take-append-drop mark es)
