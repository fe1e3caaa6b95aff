use Rattle.std.proofs.Common.{rules, ◌≡◌, ℕ, ◌<◌, true, List, [], ◌∷◌, ◌++◌, sym, ap, ◌∙◌, subst, length, take, drop, set, get_or, arith, zero, suc}
use Rattle.std.proofs.lemmas.Bool.{cond-true}
use Rattle.std.proofs.lemmas.Result.{on_ok_weaker}
use Rattle.aeg_base.specs.declared.names.Ballot.{Ballot}
use Rattle.world.specs.Tallies.{Tally, is_of, adds, counted}
use Rattle.world.proofs.observer.count.Goals as goal

-- the first tally of the ballot at the position gets the sender
here : (ts : List Tally) (i : ℕ) (t u v : Tally) (p : ℕ) (b : Ballot) (x : ℕ) → i < length ts → t ≡ get_or ts i t
    → u ≡ get_or ts i u → is_of t p b ≡ true → v ≡ adds u x → set ts i v ≡ take i ts ++ counted (drop i ts) p b x
here [] i t u v p b x l e f g h = absurd (omega arith)
here (s ∷ ts) zero t u v p b x l e f g h = ap (λ z. z ∷ ts) (h ∙ ap (λ z. adds z x) f)
    ∙ sym (cond-true (is_of s p b) (adds s x ∷ ts) (s ∷ counted ts p b x) (subst (λ z. is_of z p b ≡ true) e g))
here (s ∷ ts) (suc i) t u v p b x l e f g h = ap (λ z. s ∷ z) (here ts i t u v p b x (omega arith) e f g h)

pub returns-then-is_of : goal.returns-then-is_of
returns-then-is_of c = on_ok_weaker c.add.result
    (λ h. here c.loop-i.tallies.items c.loop-i.i c.index.result.now c.index_mut.result.now c.add.new.self c.args.pos
    c.args.ballot c.args.from (omega arith) (search rules) c.index_mut.ensures.value (sym c.is_of.ensures ∙ c.if-is_of.true) h
    ∙ c.loop-i.invariant.others ∙ ap (λ z. counted z c.args.pos c.args.ballot c.args.from) c.loop-i.invariant.same)
    c.add.ensures
