-- Senders that stand in a list once: how many there are.
use Rattle.std.proofs.Common.{◌≡◌, ℕ, ◌+◌, ◌<◌, Bool, true, false, cond, List, [], ◌∷◌, ◌++◌, refl, sym, ap, ◌∙◌, subst, inl, inr, length, arith, zero, suc}
use Rattle.std.specs.Prelude.{◌==◌, ◌||◌, ◌⊎◌}
use Rattle.std.proofs.lemmas.Bool.{cond_both, cases_Bool, eqb-true}
use Rattle.log_model.specs.Log.{count_below}
use Rattle.log_model.proofs.Basics.{count-one, length_push}
use Rattle.svc_api.specs.Orders.{mem}
use Rattle.world.specs.Tallies.{with_sender}

count-same : (n : ℕ) (f g : ℕ → Bool) → ((y : ℕ) → f y ≡ g y) → count_below n f ≡ count_below n g
count-same zero f g h = refl
count-same (suc n) f g h = ap (λ z. cond z 1 0 + count_below n f) (h n) ∙ ap (λ z. cond (g n) 1 0 + z) (count-same n f g h)

pub count-none : (n : ℕ) → count_below n (λ y. false) ≡ 0
count-none zero = refl
count-none (suc n) = let h : count_below n (λ y. false) ≡ 0 = count-none n in omega (arith, h)

or_swap : (a b c : Bool) → (a || (b || c)) ≡ (b || (a || c))
or_swap true true c = refl
or_swap true false c = refl
or_swap false b c = refl

mem-last : (s : List ℕ) (x y : ℕ) → mem y (s ++ x ∷ []) ≡ ((x == y) || mem y s)
mem-last [] x y = refl
mem-last (j ∷ s) x y = ap (λ z. (j == y) || z) (mem-last s x y) ∙ or_swap (j == y) (x == y) (mem y s)

mem-there : (s : List ℕ) (x y : ℕ) → mem x s ≡ true → mem y s ≡ ((x == y) || mem y s)
mem-there s x y e = go (cases_Bool (x == y))
  where
    go : ((x == y) ≡ true) ⊎ ((x == y) ≡ false) → mem y s ≡ ((x == y) || mem y s)
    go (inl f) = let g : mem y s ≡ true = subst (λ z. mem z s ≡ true) (eqb-true x y f) e in rw f g
    go (inr f) = rw f refl

pub with_mem : (s : List ℕ) (x y : ℕ) → mem y (with_sender s x) ≡ ((x == y) || mem y s)
with_mem s x y = cond_both (mem x s) s (s ++ x ∷ []) (λ r. mem y r ≡ ((x == y) || mem y s)) (λ e. mem-there s x y e) (λ e. mem-last s x y)

-- as many as the numbers below n that are among them
pub with_size : (n : ℕ) (s : List ℕ) (x : ℕ) → x < n → length s ≡ count_below n (λ y. mem y s)
    → length (with_sender s x) ≡ count_below n (λ y. mem y (with_sender s x))
with_size n s x l h = cond_both (mem x s) s (s ++ x ∷ []) (λ r. length r ≡ count_below n (λ y. mem y r)) (λ e. h)
    (λ e. length_push s x ∙ ap suc h
    ∙ sym (count-same n (λ y. mem y (s ++ x ∷ [])) (λ y. (x == y) || mem y s) (mem-last s x)
    ∙ count-one n x (λ y. mem y s) l e))
