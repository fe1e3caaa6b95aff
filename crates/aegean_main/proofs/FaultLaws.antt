-- When a count of faults stays, and when it rises.
use Rattle.std.proofs.Common.{◌≡◌, ℕ, Err, subst}
use Rattle.std.specs.Prelude.{IsErrOf}
use Rattle.aeg_io.specs.Causes.{Rose}
use Rattle.aegean_main.specs.Faults.{IsCounted}
use Rattle.aegean_main.specs.declared.playing.Halt.{Halt}
use Rattle.aegean_main.specs.declared.playing.Halt.TheVariants.{Write}

-- the call answered something else, and the count is as it was
pub other : (F : Type 0) (before now : ℕ) → (F → ⊥) → now ≡ before → IsCounted F before now
other F before now none same = record { rose = λ f. absurd (none f); kept = λ n. same }

-- the call answered a fault, and the count rose
pub fault : (F : Type 0) (before now : ℕ) → F → Rose before now → IsCounted F before now
fault F before now f rose = record { rose = λ g. rose; kept = λ n. absurd (n f) }

-- calls before it counted none
pub after : (F : Type 0) (first before now : ℕ) → before ≡ first → IsCounted F before now → IsCounted F first now
after F first before now same counted = subst (λ z. IsCounted F z now) same counted

-- WHY A RUN GOES NO FURTHER

halt_of : (A : Type 0) (halt : Halt) → IsErrOf {T = A} {E = Halt} (Err halt) Write → halt ≡ Write
halt_of A halt e = cc

err_of : (A : Type 0) (halt : Halt) → halt ≡ Write → IsErrOf {T = A} {E = Halt} (Err halt) Write
err_of A halt e = cc

-- the same halt, as the answer of another call
pub carried : (A B : Type 0) (halt : Halt) (before now : ℕ)
    → IsCounted (IsErrOf {T = A} {E = Halt} (Err halt) Write) before now
    → IsCounted (IsErrOf {T = B} {E = Halt} (Err halt) Write) before now
carried A B halt before now k = record { rose = λ e. k.rose (err_of A halt (halt_of B halt e)); kept = λ n. k.kept (λ e. n (err_of B halt (halt_of A halt e))) }
