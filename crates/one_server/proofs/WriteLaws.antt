-- What a store holds after the writes of a segment.
use Rattle.std.proofs.Common.{◌≡◌, ℕ, ◌+◌, ◌<◌, List, [], ◌∷◌, ◌++◌, if◌then◌else◌, take, length, get_or, ap, sym, ◌∙◌, cond, true, false, refl}
use Rattle.std.proofs.lemmas.List.{take_more}
use Rattle.aeg_base.specs.Store.{Store, written, value_at, same_key}
use Rattle.aeg_base.specs.declared.names.Key.{Key}
use Rattle.aeg_base.proofs.StoreLaws.{value_at-written}
use Rattle.one_server.specs.Writes.{after}
use Rattle.one_server.specs.declared.write.Write.{Write}

pub after-append : (s : Store) (ws : List Write) (w : Write) → after s (ws ++ w ∷ []) ≡ written (after s ws) w.key w.value
after-append s [] w = refl
after-append s (x ∷ ws) w = after-append (written s x.key x.value) ws w

after_more : (s : Store) (ws : List Write) (i : ℕ) (d : Write) (q : Key) → i < length ws
    → value_at (after s (take (i + 1) ws)) q
    ≡ (if same_key q (get_or ws i d).key then (get_or ws i d).value else value_at (after s (take i ws)) q)
after_more s ws i d q h =
    ap (λ (xs : List Write). value_at (after s xs) q) (take_more ws i d h)
    ∙ ap (λ (t : Store). value_at t q) (after-append s (take i ws) (get_or ws i d))
    ∙ value_at-written (after s (take i ws)) (get_or ws i d).key (get_or ws i d).value q

-- a write to the key is the newest so far
pub newest_here : (s : Store) (ws : List Write) (i : ℕ) (w : Write) (q : Key) → i < length ws → w ≡ get_or ws i w
    → same_key q w.key ≡ true → value_at (after s (take (i + 1) ws)) q ≡ w.value
newest_here s ws i w q h is same =
    after_more s ws i w q h ∙ ap (λ (x : Write). cond (same_key q x.key) x.value (value_at (after s (take i ws)) q)) (sym is)
    ∙ ap (λ b. cond b w.value (value_at (after s (take i ws)) q)) same

-- a write to another key changes nothing
pub newest_before : (s : Store) (ws : List Write) (i : ℕ) (w : Write) (q : Key) → i < length ws → w ≡ get_or ws i w
    → same_key q w.key ≡ false → value_at (after s (take (i + 1) ws)) q ≡ value_at (after s (take i ws)) q
newest_before s ws i w q h is other =
    after_more s ws i w q h ∙ ap (λ (x : Write). cond (same_key q x.key) x.value (value_at (after s (take i ws)) q)) (sym is)
    ∙ ap (λ b. cond b w.value (value_at (after s (take i ws)) q)) other

-- one more of the writes is made
pub one_more : (s : Store) (ws : List Write) (i : ℕ) (w : Write) → i < length ws → w ≡ get_or ws i w
    → written (after s (take i ws)) w.key w.value ≡ after s (take (i + 1) ws)
one_more s ws i w h is =
    ap (λ (x : Write). written (after s (take i ws)) x.key x.value) is
    ∙ sym (after-append s (take i ws) (get_or ws i w))
    ∙ ap (λ (xs : List Write). after s xs) (sym (take_more ws i w h))
