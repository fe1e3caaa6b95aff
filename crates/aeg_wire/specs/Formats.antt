-- Fields put together: what is read from fields one after the other.
use Rattle.std.specs.Prelude.{ℕ, zero, suc, List, [], ◌∷◌, Some, None, Bool, nat_le, if◌then◌else◌}
use Rattle.aeg_wire.specs.Fields.{Read, ◌>>=◌, byte_at}

-- the value that is made of a field
abbrev pub made : {A B : Type 0} → (A → B) → Read A → Read B
made f None = None
made f (Some field) = Some (f field.0, field.1)

-- the field, where its value passes a test
abbrev pub kept : {A : Type 0} → (A → Bool) → Read A → Read A
kept test None = None
kept test (Some field) = if test field.0 then Some field else None

-- a field and then another, which may depend on the first's value
abbrev pub both : {A B : Type 0} → (List ℕ → Read A) → (A → List ℕ → Read B) → List ℕ → Read (A × B)
both first second bytes = first bytes >>= λ x. made (λ y. (x.0, y)) (second x.0 x.1)

-- so many fields of one kind
unfoldable pub list_at : {A : Type 0} → (List ℕ → Read A) → ℕ → List ℕ → Read (List A)
list_at one zero bytes = Some ([], bytes)
list_at one (suc n) bytes = one bytes >>= λ x. made (λ others. x.0 ∷ others) (list_at one n x.1)

-- a count in a byte, and so many fields, up to a limit
abbrev pub counted_at : {A : Type 0} → ℕ → (List ℕ → Read A) → List ℕ → Read (List A)
counted_at limit one bytes = kept (λ n. nat_le n limit) (byte_at bytes) >>= λ n. list_at one n.0 n.1
