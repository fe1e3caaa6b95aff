-- A batch, client by client.
use Rattle.std.proofs.Common.{◌≡◌, ℕ, ◌+◌, ◌<◌, ◌≤◌, Bool, List, [], ◌∷◌, ◌++◌, length, take, refl, sym, ap, ◌∙◌, arith}
use Rattle.std.proofs.Common.{Option, Some, None, zero, suc, get_or, Result, Ok, Err}
use Rattle.std.specs.Prelude.{IfOk, IfSome, if◌then◌else◌}
use Rattle.std.specs.declared.vec.Vec.{Vec}
use Rattle.std.specs.declared.alloc.Global.{Global}
use Rattle.aeg_base.specs.declared.memory.Memory.{Memory}
use Rattle.log_values.specs.declared.entry.Entry.{Entry}
use Rattle.log_values.specs.Fields.{IsClient}
use Rattle.round_model.specs.Service.{Table, Programs}
use Rattle.round_model.specs.Tables.{Tables, if_fresh, fresh_pending, batch_of, pending_of}
use Rattle.batcher.specs.Clients.{ClientTable, Agrees}
use Rattle.batcher.specs.Tabled.{is_fresh_by, if_passes, passing}
use Rattle.batcher.specs.Waiting.{ArePending}
use Rattle.batcher.proofs.FreshOnes.{fresh_is}
use Rattle.batcher.proofs.Places.{read}

take_again : {A : Type 0} (n : ℕ) (xs ys : List A) → take n (take n xs ++ ys) ≡ take n (xs ++ ys)
take_again zero xs ys = refl
take_again (suc n) [] ys = refl
take_again (suc n) (x ∷ xs) ys = ap (λ zs. x ∷ zs) (take_again n xs ys)

pub take_full : {A : Type 0} (n : ℕ) (xs ys : List A) → length xs ≡ n → xs ≡ take n (xs ++ ys)
take_full zero [] ys e = refl
take_full zero (x ∷ xs) ys e = absurd (omega (arith, e))
take_full (suc n) [] ys e = absurd (omega (arith, e))
take_full (suc n) (x ∷ xs) ys e = ap (λ zs. x ∷ zs) (take_full n xs ys (omega (arith, e)))

pub few : {A : Type 0} (n : ℕ) (xs ys : List A) → xs ≡ take n ys → length xs ≤ n
few zero xs ys e = omega (arith, ap length e)
few (suc n) xs [] e = omega (arith, ap length e)
few (suc n) xs (y ∷ ys) e = omega (arith, ap length e, few n (take n ys) ys refl)

-- one client more
pub next_client : (test : Entry → Bool) (pending : List (Option Entry)) (c i : ℕ) (o : Option Entry) (old new : List Entry) → length pending ≡ 17
    → c < 16 → i ≡ c → o ≡ get_or pending (i + 1) o → old ≡ take 8 (passing test pending c)
    → new ≡ take 8 (old ++ if_passes test o) → new ≡ take 8 (passing test pending (c + 1))
next_client test pending c i o old new l less s h e f =
    let one : c + 1 ≡ suc c = omega arith in
    let place : i + 1 ≡ suc c = omega (arith, s) in
    f ∙ (ap (λ z. take 8 (old ++ if_passes test z)) (h ∙ read None o pending pending (i + 1) (suc c) refl l place (omega arith))
    ∙ (ap (λ z. take 8 (z ++ if_passes test (pending_of pending (suc c)))) e
    ∙ (take_again 8 (passing test pending c) (if_passes test (pending_of pending (suc c)))
    ∙ sym (ap (λ z. take 8 (passing test pending z)) one))))

-- what stands at a place is of a client
pub of_client : (pending : List (Option Entry)) (c i : ℕ) (o : Option Entry) → ArePending pending → c < 16 → i ≡ c → o ≡ get_or pending (i + 1) o
    → IfSome o (λ e. IsClient e.client)
of_client pending c i o k less s h = go o (sym (h ∙ read None o pending pending (i + 1) (suc c) refl k.places (omega (arith, s)) (omega arith)))
  where
    go : (o : Option Entry) → pending_of pending (suc c) ≡ o → IfSome o (λ e. IsClient e.client)
    go None f = tt
    go (Some e) f = (k.stand (suc c) e f).client

-- what passes is fresh by the tables that agree
if_passes_is : (table : Table) (m : Programs) (t : ClientTable) (T : Tables) (o : Option Entry) → m.table ≡ table → Agrees t T
    → ((e : Entry) → o ≡ Some e → IsClient e.client) → if_passes (is_fresh_by table t) o ≡ if_fresh m T o
if_passes_is table m t T None s k own = refl
if_passes_is table m t T (Some e) s k own = ap (λ b. if b then e ∷ [] else []) (fresh_is table m t T e s k (own e refl))

passing_is : (table : Table) (m : Programs) (t : ClientTable) (T : Tables) (pending : List (Option Entry)) (n : ℕ) → m.table ≡ table → Agrees t T
    → ArePending pending → passing (is_fresh_by table t) pending n ≡ fresh_pending m T pending n
passing_is table m t T pending zero s k p = refl
passing_is table m t T pending (suc n) s k p =
    ap (λ xs. xs ++ if_passes (is_fresh_by table t) (pending_of pending (suc n))) (passing_is table m t T pending n s k p)
    ∙ ap (λ ys. fresh_pending m T pending n ++ ys) (if_passes_is table m t T (pending_of pending (suc n)) s k (λ e f. (p.stand (suc n) e f).client))

pub batch_is : (table : Table) (m : Programs) (t : ClientTable) (T : Tables) (pending now : List (Option Entry))
    (r : Result (Vec Entry Global) Memory) → ArePending pending → pending ≡ now → m.table ≡ table → Agrees t T
    → IfOk r (λ v. v.items ≡ take 8 (passing (is_fresh_by table t) pending 16))
    → IfOk r (λ v. v.items ≡ batch_of m T now)
batch_is table m t T pending now (Err f) p h s k e = tt
batch_is table m t T pending now (Ok v) p h s k e = e ∙ (ap (λ xs. take 8 xs) (passing_is table m t T pending 16 s k p) ∙ ap (λ z. batch_of m T z) h)
