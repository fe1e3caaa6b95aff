-- A segment over what a store answers at each key, in place of the store.
use Rattle.std.proofs.Common.{◌≡◌, ℕ, if◌then◌else◌, refl, ap, ◌∙◌, arith}
use Rattle.std.proofs.lemmas.Bool.Decides.{nat_tests}
use Rattle.aeg_base.specs.declared.names.Key.{Key}
use Rattle.aeg_base.specs.Store.{Store, same_key, value_at, written}
use Rattle.aeg_base.proofs.StoreLaws.{value_at-written, same_store as same_by_values}
use Rattle.svc_api.specs.Plan.{Plan, Reads, Writes, Ends, store_after, ending_of}
use Rattle.svc_api.specs.declared.action.Ending.{Ending}

abbrev pub Lookup : Type 0
Lookup = Key → ℕ

abbrev pub put : Lookup → Key → ℕ → Lookup
put f k v = λ j. if same_key k j then v else f j

abbrev pub after : Plan → Lookup → Lookup
after (Reads k rest) f = after (rest (f k)) f
after (Writes k v rest) f = after rest (put f k v)
after (Ends e) f = f

abbrev pub end_with : Plan → Lookup → Ending
end_with (Reads k rest) f = end_with (rest (f k)) f
end_with (Writes k v rest) f = end_with rest (put f k v)
end_with (Ends e) f = e

abbrev pub looks : Store → Lookup
looks s = λ k. value_at s k

pub same_store : (s t : Store) → looks s ≡ looks t → s ≡ t
same_store s t e = same_by_values s t (λ q. ap (λ (f : Lookup). f q) e)

turned : (a b : Key) → same_key b a ≡ same_key a b
turned a b = grind (arith, nat_tests)

pub looks-written : (s : Store) (k : Key) (v : ℕ) → looks (written s k v) ≡ put (looks s) k v
looks-written s k v = λ i q. (value_at-written s k v q ∙ ap (λ b. if b then v else value_at s q) (turned k q)) i

pub looks-after : (p : Plan) (s : Store) → looks (store_after p s) ≡ after p (looks s)
looks-after (Reads k rest) s = looks-after (rest (value_at s k)) s
looks-after (Writes k v rest) s = looks-after rest (written s k v) ∙ ap (after rest) (looks-written s k v)
looks-after (Ends e) s = refl

pub end_with-looks : (p : Plan) (s : Store) → ending_of p s ≡ end_with p (looks s)
end_with-looks (Reads k rest) s = end_with-looks (rest (value_at s k)) s
end_with-looks (Writes k v rest) s = end_with-looks rest (written s k v) ∙ ap (end_with rest) (looks-written s k v)
end_with-looks (Ends e) s = refl
