-- Fresh entries, by the tables of the rounds and by a client table that agrees with them.
use Rattle.std.proofs.Common.{◌≡◌, ℕ, Bool, true, false, [], refl, sym, ap, ◌∙◌, zero, suc}
use Rattle.std.specs.Prelude.{replicate, ◌&&◌, ◌==◌, not}
use Rattle.log_values.specs.declared.entry.Entry.{Entry}
use Rattle.log_values.specs.Fields.{IsClient}
use Rattle.round_model.specs.Lists.{is_some, concat}
use Rattle.round_model.specs.Service.{Table, Programs, is_request}
use Rattle.round_model.specs.Tables.{Tables, tables0, parked_of, Parked, is_busy, who_of, in_range, last_of, is_fresh}
use Rattle.batcher.specs.Clients.{ClientTable, busy_of, Agrees}
use Rattle.batcher.specs.Tabled.{is_next, is_fresh_by}
use Rattle.batcher.proofs.Places.{at-false}

nothing_parked : (depth : ℕ) → concat {A = Parked} (replicate depth []) ≡ []
nothing_parked zero = refl
nothing_parked (suc n) = nothing_parked n

pub nobody_busy : (depth client : ℕ) → is_busy (tables0 depth) client ≡ busy_of (replicate 17 false) client
nobody_busy depth client = ap (λ q. is_some (parked_of client q)) (nothing_parked depth) ∙ sym (at-false 17 client)

-- the tables that agree say the same of an entry
pub fresh_is : (table : Table) (m : Programs) (t : ClientTable) (T : Tables) (e : Entry) → m.table ≡ table → Agrees t T → IsClient e.client
    → is_fresh_by table t e ≡ is_fresh m T e
fresh_is table m t T e s k c =
    let n : last_of T.last e.client ≡ last_of t.last e.client = ap (λ z. last_of z e.client) k.last in
    let b : is_busy T e.client ≡ busy_of t.busy e.client = k.busy e.client c.0 c.1 in
    ap (λ (z : Table). is_fresh_by z t e) (sym s)
    ∙ (ap (λ (z : Bool). in_range e && (is_request m (who_of e) e.body && ((e.seq == suc (last_of t.last e.client)) && not z))) (sym b)
    ∙ ap (λ (z : ℕ). in_range e && (is_request m (who_of e) e.body && ((e.seq == suc z) && not (is_busy T e.client)))) (sym n))

-- an entry that isn't next is not fresh; of one that is, its text decides
not_fresh : (r q n : Bool) → (r && n) ≡ false → (r && (q && n)) ≡ false
not_fresh true true n e = e
not_fresh true false n e = refl
not_fresh false q n e = refl

text_decides : (r q n : Bool) → (r && n) ≡ true → (r && (q && n)) ≡ q
text_decides true true n e = e
text_decides true false n e = refl
text_decides false q n e = absurd (cc)

pub passed_over : (table : Table) (t : ClientTable) (e : Entry) (next : Bool) → next ≡ is_next t e → next ≡ false → is_fresh_by table t e ≡ false
passed_over table t e next k f = not_fresh (in_range e) (is_some (table (who_of e) e.body 0))
    ((e.seq == suc (last_of t.last e.client)) && not (busy_of t.busy e.client)) (sym k ∙ f)

pub by_its_text : (table : Table) (t : ClientTable) (e : Entry) (next : Bool) → next ≡ is_next t e → next ≡ true
    → is_fresh_by table t e ≡ is_some (table (who_of e) e.body 0)
by_its_text table t e next k f = text_decides (in_range e) (is_some (table (who_of e) e.body 0))
    ((e.seq == suc (last_of t.last e.client)) && not (busy_of t.busy e.client)) (sym k ∙ f)
