-- What a middle node tells again.
use Rattle.std.proofs.Common.{◌≡◌, ℕ, suc, Bool, true, false, cond, List, [], ◌∷◌, ◌++◌, map, not, refl, sym, ap, ◌∙◌, arith, append_assoc}
use Rattle.std.specs.Prelude.{◌&&◌, nat_lt}
use Rattle.std.specs.List.{flat_map}
use Rattle.std.proofs.lemmas.Bool.{cond_both}
use Rattle.std.proofs.lemmas.Bool.Decides.{nat_tests}
use Rattle.std.proofs.lemmas.List.{map-append}
use Rattle.aeg_base.specs.declared.names.End.{End}
use Rattle.aeg_base.specs.declared.names.Tier.{Tier}
use Rattle.aeg_base.specs.declared.names.Tier.TheVariants.{Mid as InMid, Inv, Pay}
use Rattle.server_model.specs.Server.{same_tier}
use Rattle.svc_api.specs.Plan.{IsBackend}
use Rattle.log_model.proofs.Basics.{Every, every-append}
use Rattle.pipeline.specs.States.{by_tier, call_of, calling, numbered}
use Rattle.round_model.specs.Held.{HeldState, held_code}
use Rattle.round_model.specs.Lists.{is_some}
use Rattle.round_model.specs.Numbered.{rises}
use Rattle.round_model.specs.Tables.{Parked}
use Rattle.round_model.proofs.NumberedLaws.{risen, rise, rises_lower}
use Rattle.row_laws.proofs.Lists.{map_in}
use Rattle.tier_model.specs.Moves.{Packet}
use Rattle.tier_model.specs.Mid.{calls_to}
use Rattle.tier_model.specs.MidRows.{by_number, calls_again, haves, haves_again, open_calls, put_parked}
use Rattle.node_log.specs.Packets.{sealed, all_sealed}
use Rattle.mid_rounds.specs.Telling.{IsCallIn, IsWaiting, call_unless_held}

pub haves_sealed : (u x : ℕ) (t : Tier) (es : List (ℕ × ℕ))
    → flat_map (λ e. all_sealed (haves u x t e.0 e.1)) es ≡ all_sealed (haves_again u x t es)
haves_sealed u x t [] = refl
haves_sealed u x t (e ∷ es) =
    ap (λ (z : List (End × List ℕ)). all_sealed (haves u x t e.0 e.1) ++ z) (haves_sealed u x t es)
    ∙ sym (map-append sealed (haves u x t e.0 e.1) (haves_again u x t es))

-- BY NUMBER

-- the numbers of the calls that are open rise as those of all that wait
open_rise : (h : HeldState) (t : Tier) (m : ℕ) (ps : List Parked) → rises m (numbered (calling t ps)) ≡ true → rises m (numbered (open_calls h t ps)) ≡ true
open_rise h t m [] e = refl
open_rise h t m (p ∷ ps) e = go (same_tier p.tier t) (is_some (held_code h p.tier p.num)) e
    (λ k f. open_rise h t k ps f)
  where
    go : (b c : Bool) → rises m (numbered (cond b (p ∷ calling t ps) (calling t ps))) ≡ true
        → ((k : ℕ) → rises k (numbered (calling t ps)) ≡ true → rises k (numbered (open_calls h t ps)) ≡ true)
        → rises m (numbered (cond (b && not c) (p ∷ open_calls h t ps) (open_calls h t ps))) ≡ true
    go true true f rest =
        let r = risen m (p.num, p) (numbered (calling t ps)) f in
        rises_lower m (suc p.num) (numbered (open_calls h t ps)) (omega (arith, r.least)) (rest (suc p.num) r.rest)
    go true false f rest =
        let r = risen m (p.num, p) (numbered (calling t ps)) f in
        rise m (p.num, p) (numbered (open_calls h t ps)) r.least (rest (suc p.num) r.rest)
    go false c f rest = rest m f

put_lowest : (p : Parked) (qs : List Parked) → rises (suc p.num) (numbered qs) ≡ true → put_parked p qs ≡ p ∷ qs
put_lowest p [] e = refl
put_lowest p (q ∷ qs) e =
    let r = risen (suc p.num) (q.num, q) (numbered qs) e in
    let above : nat_lt q.num p.num ≡ false = grind (arith, nat_tests, r.least) in
    ap (λ (b : Bool). cond b (q ∷ put_parked p qs) (p ∷ q ∷ qs)) above

-- they are by number already
sorted : (m : ℕ) (ps : List Parked) → rises m (numbered ps) ≡ true → by_number ps ≡ ps
sorted m [] e = refl
sorted m (p ∷ ps) e =
    let r = risen m (p.num, p) (numbered ps) e in
    ap (put_parked p) (sorted (suc p.num) ps r.rest) ∙ put_lowest p ps r.rest

-- CALLS

module _ (u x : ℕ) (h : HeldState) where
  abbrev sealed_call : Tier × ℕ × List ℕ → List (End × List ℕ)
  sealed_call call = all_sealed (call_unless_held u x h call)

  -- those of a tier
  calls_sealed : (t : Tier) (ps : List Parked) → flat_map sealed_call (map call_of (calling t ps)) ≡ all_sealed (calls_again u x (open_calls h t ps))
  calls_sealed t [] = refl
  calls_sealed t (p ∷ ps) = go (same_tier p.tier t) (is_some (held_code h p.tier p.num)) refl (calls_sealed t ps)
    where
      rest : List Packet
      rest = calls_again u x (open_calls h t ps)

      go : (b c : Bool) → is_some (held_code h p.tier p.num) ≡ c
          → flat_map sealed_call (map call_of (calling t ps)) ≡ all_sealed (calls_again u x (open_calls h t ps))
          → flat_map sealed_call (map call_of (cond b (p ∷ calling t ps) (calling t ps)))
          ≡ all_sealed (calls_again u x (cond (b && not c) (p ∷ open_calls h t ps) (open_calls h t ps)))
      go true true e f = ap (λ (b : Bool). all_sealed (cond b [] (calls_to u x p.tier p.num p.text)) ++ flat_map sealed_call (map call_of (calling t ps))) e ∙ f
      go true false e f =
          ap (λ (b : Bool). all_sealed (cond b [] (calls_to u x p.tier p.num p.text)) ++ flat_map sealed_call (map call_of (calling t ps))) e
          ∙ ap (λ (z : List (End × List ℕ)). all_sealed (calls_to u x p.tier p.num p.text) ++ z) f
          ∙ sym (map-append sealed (calls_to u x p.tier p.num p.text) (calls_again u x (open_calls h t ps)))
      go false c e f = f

  -- none is to the middle tier
  none_inside : (ps : List Parked) → Every IsWaiting ps → calling InMid ps ≡ []
  none_inside [] k = refl
  none_inside (p ∷ ps) k = go p.tier k.0.0 (none_inside ps k.1)
    where
      go : (t : Tier) → IsBackend t → calling InMid ps ≡ [] → cond (same_tier t InMid) (p ∷ calling InMid ps) (calling InMid ps) ≡ []
      go InMid b e = absurd b
      go Inv b e = e
      go Pay b e = e

  sealed_both : (first more : List (Tier × ℕ × List ℕ)) → flat_map sealed_call (first ++ more) ≡ flat_map sealed_call first ++ flat_map sealed_call more
  sealed_both [] more = refl
  sealed_both (a ∷ first) more =
      ap (λ (z : List (End × List ℕ)). sealed_call a ++ z) (sealed_both first more)
      ∙ sym (append_assoc (sealed_call a) (flat_map sealed_call first) (flat_map sealed_call more))

  pub waiting_sealed : (ps : List Parked) → Every IsWaiting ps → ((t : Tier) → rises 1 (numbered (calling t ps)) ≡ true)
      → flat_map sealed_call (map call_of (by_tier ps))
      ≡ all_sealed (calls_again u x (by_number (open_calls h Inv ps)) ++ calls_again u x (by_number (open_calls h Pay ps)))
  waiting_sealed ps k r =
      let sorted_one : (t : Tier) → open_calls h t ps ≡ by_number (open_calls h t ps) =
      λ t. sym (sorted 1 (open_calls h t ps) (open_rise h t 1 ps (r t))) in
      ap (λ (z : List Parked). flat_map sealed_call (map call_of (z ++ (calling Inv ps ++ calling Pay ps)))) (none_inside ps k)
      ∙ ap (flat_map sealed_call) (map-append call_of (calling Inv ps) (calling Pay ps))
      ∙ sealed_both (map call_of (calling Inv ps)) (map call_of (calling Pay ps))
      ∙ ap (λ (z : List (End × List ℕ)). z ++ flat_map sealed_call (map call_of (calling Pay ps)))
      (calls_sealed Inv ps ∙ ap (λ (z : List Parked). all_sealed (calls_again u x z)) (sorted_one Inv))
      ∙ ap (λ (z : List (End × List ℕ)). all_sealed (calls_again u x (by_number (open_calls h Inv ps))) ++ z)
      (calls_sealed Pay ps ∙ ap (λ (z : List Parked). all_sealed (calls_again u x z)) (sorted_one Pay))
      ∙ sym (map-append sealed (calls_again u x (by_number (open_calls h Inv ps))) (calls_again u x (by_number (open_calls h Pay ps))))

-- the calls of those that wait have frames
pub waiting_fit : (ps : List Parked) → Every IsWaiting ps → Every IsCallIn (map call_of (by_tier ps))
waiting_fit ps k =
    map_in IsCallIn call_of (by_tier ps)
    (every-append IsWaiting (calling InMid ps) (calling Inv ps ++ calling Pay ps) (part InMid ps k)
    (every-append IsWaiting (calling Inv ps) (calling Pay ps) (part Inv ps k) (part Pay ps k)))
  where
    part : (t : Tier) (ps : List Parked) → Every IsWaiting ps → Every IsWaiting (calling t ps)
    part t [] k = tt
    part t (p ∷ ps) k = cond_both (same_tier p.tier t) _ _ (Every IsWaiting) (λ e. (k.0, part t ps k.1)) (λ e. part t ps k.1)
