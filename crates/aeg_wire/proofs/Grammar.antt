-- A grammar both ways: what is read was spelled so, and what is spelled so is read, whatever follows.
use Rattle.std.proofs.Common.{◌≡◌, ℕ, suc, ◌+◌, ◌<◌, Bool, true, List, ◌∷◌, ◌++◌, get_or, take, drop, Some, None, refl}
use Rattle.std.proofs.Common.{sym, ap, subst, ◌∙◌, append_assoc, arith, inl, inr}
use Rattle.std.proofs.lemmas.Bool.{cases_lt}
use Rattle.std.proofs.lemmas.List.{length-take, get_or-drop, get_or-take, get_or_past}
use Rattle.std.proofs.lemmas.Option.{same_Some, cond_some}
use Rattle.aeg_wire.specs.Fields.{Read, ◌>>=◌}
use Rattle.aeg_wire.specs.Formats.{made, kept, both}

abbrev pub IsBytes : List ℕ → Type 0
IsBytes bytes = (i : ℕ) → get_or bytes i 0 < 256

pub IsBytes-drop : (n : ℕ) (bytes : List ℕ) → IsBytes bytes → IsBytes (drop n bytes)
IsBytes-drop n bytes h i = rw get_or-drop (h (n + i))

pub IsBytes-take : (n : ℕ) (bytes : List ℕ) → IsBytes bytes → IsBytes (take n bytes)
IsBytes-take n bytes h i =
    elim (cases_lt i n) [
      | inl lt ↦ rw (get_or-take n bytes i 0 lt) (h i)
      | inr le ↦ rw (get_or_past (take n bytes) i 0 (omega (arith, length-take n bytes))) (omega arith)
    ]

pub IsBytes-rest : (b : ℕ) (bytes : List ℕ) → IsBytes (b ∷ bytes) → IsBytes bytes
IsBytes-rest b bytes h i = h (suc i)

-- what a reader took from the front
pub record Takes (bytes text rest : List ℕ) : Type 0 where
  pub parts : bytes ≡ text ++ rest
  pub rest_fits : IsBytes rest

pub Takes-then : (a x b y c : List ℕ) → Takes a x b → Takes b y c → Takes a (x ++ y) c
Takes-then a x b y c p q = record { parts = p.parts ∙ ap (λ (t : List ℕ). x ++ t) q.parts ∙ sym (append_assoc x y c); rest_fits = q.rest_fits }

pub record IsGrammar {A : Type 0} (fits : A → Type 0) (spelling : A → List ℕ) (read : List ℕ → Read A) : Type 0 where
  pub takes : (bytes : List ℕ) (x : A) (rest : List ℕ) → IsBytes bytes → read bytes ≡ Some (x, rest) → Takes bytes (spelling x) rest × fits x
  pub again : (x : A) (rest : List ℕ) → fits x → read (spelling x ++ rest) ≡ Some (x, rest)

-- ---- steps that gave something

pub bind_some : {A B : Type 0} (r : Read A) (next : A × List ℕ → Read B) (y : B × List ℕ) → (r >>= next) ≡ Some y
    → (x : A × List ℕ) × (r ≡ Some x) × (next x ≡ Some y)
bind_some (Some x) next y e = (x, refl, e)
bind_some None next y e = absurd cc

pub made_some : {A B : Type 0} (f : A → B) (r : Read A) (y : B × List ℕ) → made f r ≡ Some y → (x : A × List ℕ) × (r ≡ Some x) × ((f x.0, x.1) ≡ y)
made_some f (Some x) y e = (x, refl, same_Some (f x.0, x.1) y e)
made_some f None y e = absurd cc

pub kept_some : {A : Type 0} (test : A → Bool) (r : Read A) (y : A × List ℕ) → kept test r ≡ Some y → (r ≡ Some y) × (test y.0 ≡ true)
kept_some test (Some x) y e =
    let b = cond_some (test x.0) x y e in
    (ap (λ (z : _ × List ℕ). Some z) b.1, subst (λ (z : _ × List ℕ). test z.0 ≡ true) b.1 b.0)
kept_some test None y e = absurd cc

-- ---- grammars put together

pub refit : {A : Type 0} (old new : A → Type 0) (spelling : A → List ℕ) (read : List ℕ → Read A)
    → IsGrammar old spelling read → ((x : A) → old x → new x) → ((x : A) → new x → old x) → IsGrammar new spelling read
refit old new spelling read g there back = record {
  takes = λ bytes x rest fits e. let t = g.takes bytes x rest fits e in (t.0, there x t.1);
  again = λ x rest fits. g.again x rest (back x fits);
}

pub kept_grammar : {A : Type 0} (fits : A → Type 0) (spelling : A → List ℕ) (read : List ℕ → Read A) (test : A → Bool)
    → IsGrammar fits spelling read → IsGrammar (λ x. fits x × (test x ≡ true)) spelling (λ bytes. kept test (read bytes))
kept_grammar fits spelling read test g = record {
  takes = λ bytes x rest are e.
      let k = kept_some test (read bytes) (x, rest) e in
      let t = g.takes bytes x rest are k.0 in
      (t.0, (t.1, k.1));
  again = λ x rest h. rw (g.again x rest h.0, h.1) refl;
}

pub made_grammar : {A B : Type 0} (fits : A → Type 0) (spelling : A → List ℕ) (read : List ℕ → Read A) (f : A → B) (back : B → A)
    → ((x : A) → back (f x) ≡ x) → ((y : B) → f (back y) ≡ y)
    → IsGrammar fits spelling read → IsGrammar (λ y. fits (back y)) (λ y. spelling (back y)) (λ bytes. made f (read bytes))
made_grammar fits spelling read f back one two g = record {
  takes = λ bytes y rest are e.
      let m = made_some f (read bytes) (y, rest) e in
      let t = g.takes bytes m.0.0 m.0.1 are m.1 in
      let here = subst (λ (z : _). Takes bytes (spelling z) m.0.1 × fits z) (sym (one m.0.0)) t in
      subst (λ (q : _ × List ℕ). Takes bytes (spelling (back q.0)) q.1 × fits (back q.0)) m.2 here;
  again = λ y rest h. rw (g.again (back y) rest h) (ap (λ v. Some (v, rest)) (two y));
}

pub both_grammar : {A B : Type 0} (fits : A → Type 0) (spelling : A → List ℕ) (read : List ℕ → Read A)
    (fits2 : A → B → Type 0) (spelling2 : A → B → List ℕ) (read2 : A → List ℕ → Read B)
    → IsGrammar fits spelling read → ((x : A) → fits x → IsGrammar (fits2 x) (spelling2 x) (read2 x))
    → IsGrammar (λ p. fits p.0 × fits2 p.0 p.1) (λ p. spelling p.0 ++ spelling2 p.0 p.1) (both read read2)
both_grammar fits spelling read fits2 spelling2 read2 g h = record {
  takes = λ bytes p rest are e.
      let b = bind_some (read bytes) (λ x. made (λ y. (x.0, y)) (read2 x.0 x.1)) (p, rest) e in
      let m = made_some (λ y. (b.0.0, y)) (read2 b.0.0 b.0.1) (p, rest) b.2 in
      let first = g.takes bytes b.0.0 b.0.1 are b.1 in
      let second = (h b.0.0 first.1).takes b.0.1 m.0.0 m.0.1 first.0.rest_fits m.1 in
      let both_taken = Takes-then bytes (spelling b.0.0) b.0.1 (spelling2 b.0.0 m.0.0) m.0.1 first.0 second.0 in
      subst (λ (q : (_ × _) × List ℕ). Takes bytes (spelling q.0.0 ++ spelling2 q.0.0 q.0.1) q.1
      × (fits q.0.0 × fits2 q.0.0 q.0.1)) m.2 (both_taken, (first.1, second.1));
  again = λ p rest fit. rw (
    append_assoc (spelling p.0) (spelling2 p.0 p.1) rest,
    g.again p.0 (spelling2 p.0 p.1 ++ rest) fit.0,
    (h p.0 fit.0).again p.1 rest fit.1,
  ) refl;
}

-- No spelling begins another.
pub distinct : {A : Type 0} (fits : A → Type 0) (spelling : A → List ℕ) (read : List ℕ → Read A)
    → IsGrammar fits spelling read → (a b : A) (x y : List ℕ) → fits a → fits b → spelling a ++ x ≡ spelling b ++ y → (a ≡ b) × (x ≡ y)
distinct fits spelling read g a b x y fa fb e =
    let same = same_Some (a, x) (b, y) (sym (g.again a x fa) ∙ ap read e ∙ g.again b y fb) in
    (ap (λ (p : _ × List ℕ). p.0) same, ap (λ (p : _ × List ℕ). p.1) same)
