-- The first entries of clients, by flags and by a list of the clients that were seen.
use Rattle.std.proofs.Common.{◌≡◌, ℕ, ◌≤◌, Bool, true, false, List, [], ◌∷◌, length, refl, sym, ◌∙◌, subst, arith, zero, suc, get_or, Result, Ok, Err}
use Rattle.std.specs.Prelude.{slice_set, replicate, ◌==◌, ◌||◌, IfOk, if◌then◌else◌}
use Rattle.std.specs.declared.vec.Vec.{Vec}
use Rattle.std.specs.declared.alloc.Global.{Global}
use Rattle.aeg_base.specs.declared.memory.Memory.{Memory}
use Rattle.std.specs.List.{All}
use Rattle.std.proofs.lemmas.List.{length-set, get_or-set_other, get_or-set_same}
use Rattle.std.proofs.lemmas.Bool.{eqb-true, eqb-false}
use Rattle.std.proofs.lemmas.List.Elements.{All-head, All-tail}
use Rattle.svc_api.specs.Orders.{mem}
use Rattle.log_values.specs.declared.entry.Entry.{Entry}
use Rattle.log_values.specs.Fields.{IsClient}
use Rattle.round_model.specs.Service.{Table, Programs}
use Rattle.round_model.specs.Tables.{Tables, is_fresh, fresh_of, fresh_entries}
use Rattle.batcher.specs.Clients.{ClientTable, Agrees}
use Rattle.batcher.specs.Tabled.{is_fresh_by, picked}
use Rattle.batcher.proofs.FreshOnes.{fresh_is}

-- the flags are set for just the clients in the list
pub record Matches (flags : List Bool) (seen : List ℕ) : Type 0 where
  pub places : length flags ≡ 17
  pub same : (c : ℕ) → c ≤ 16 → get_or flags c false ≡ mem c seen

one_more : (flags : List Bool) (seen : List ℕ) (c : ℕ) → c ≤ 16 → Matches flags seen → Matches (slice_set flags c true) (c ∷ seen)
one_more flags seen c small m = record { places = length-set flags c true ∙ m.places; same = λ d l. go d l (c == d) refl }
  where
    go : (d : ℕ) → d ≤ 16 → (b : Bool) → (c == d) ≡ b → get_or (slice_set flags c true) d false ≡ (b || mem d seen)
    go d l true e =
        subst (λ z. get_or (slice_set flags c true) z false ≡ true) (eqb-true c d e) (get_or-set_same flags c true false (omega (arith, small, m.places)))
    go d l false e = get_or-set_other flags c d true false (λ f. eqb-false c d e (sym f)) ∙ m.same d l

pub picked_is : (table : Table) (m : Programs) (t : ClientTable) (T : Tables) (flags : List Bool) (seen : List ℕ) (es : List Entry) → m.table ≡ table
    → Agrees t T → Matches flags seen → All (λ e. IsClient e.client) es
    → picked (is_fresh_by table t) flags es ≡ fresh_of m T seen es
picked_is table m t T flags seen [] s k q all = refl
picked_is table m t T flags seen (e ∷ es) s k q all =
    let own : IsClient e.client = All-head (λ (g : Entry). IsClient g.client) e es all in
    let rest : All (λ (g : Entry). IsClient g.client) es = All-tail (λ (g : Entry). IsClient g.client) e es all in
    let flag : get_or flags e.client false ≡ mem e.client seen = q.same e.client own.1 in
    let test : is_fresh_by table t e ≡ is_fresh m T e = fresh_is table m t T e s k own in
    let skipped : picked (is_fresh_by table t) flags es ≡ fresh_of m T seen es = picked_is table m t T flags seen es s k q rest in
    let taken : picked (is_fresh_by table t) (slice_set flags e.client true) es ≡ fresh_of m T (e.client ∷ seen) es =
    picked_is table m t T (slice_set flags e.client true) (e.client ∷ seen) es s k (one_more flags seen e.client own.1 q) rest in
    same_ifs e _ _ _ _ _ _ _ _ flag test skipped taken
  where
    same_ifs : (e : Entry) (a b x y : Bool) (p q r s : List Entry) → a ≡ b → x ≡ y → p ≡ q → r ≡ s
        → (if a then p else if x then e ∷ r else r) ≡ (if b then q else if y then e ∷ s else s)
    same_ifs e a b x y p q r s f g h i = cc

nobody_seen : Matches (replicate 17 false) []
nobody_seen = record { places = refl; same = λ c l. none 17 c }
  where
    none : (n c : ℕ) → get_or (replicate n false) c false ≡ false
    none zero c = refl
    none (suc n) zero = refl
    none (suc n) (suc c) = none n c

pub each_fresh : (table : Table) (m : Programs) (t : ClientTable) (T : Tables) (es : List Entry) (r : Result (Vec Entry Global) Memory)
    → All (λ e. IsClient e.client) es → m.table ≡ table → Agrees t T → IfOk r (λ v. v.items ≡ picked (is_fresh_by table t) (replicate 17 false) es)
    → IfOk r (λ v. v.items ≡ fresh_entries m T es)
each_fresh table m t T es (Err f) all s k e = tt
each_fresh table m t T es (Ok v) all s k e = e ∙ picked_is table m t T (replicate 17 false) [] es s k nobody_seen all
