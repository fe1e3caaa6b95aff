-- What the chosen logs gain where the middle log carries batches alone and the others carry nothing.
use Rattle.std.proofs.Common.{◌≡◌, ℕ, ◌+◌, ◌*◌, Bool, true, false, cond, List, [], ◌∷◌, ◌++◌, refl, sym, ap, ◌∙◌, subst}
use Rattle.std.proofs.Common.{length, drop, append-nil, Option, Some, None, length-append}
use Rattle.std.proofs.Math.Seq.{drop-append_seam, drop-length}
use Rattle.std.specs.Prelude.{◌==◌, ◌&&◌}
use Rattle.aeg_base.specs.declared.names.Tier.{Tier}
use Rattle.aeg_base.specs.declared.names.Tier.TheVariants.{Mid, Inv, Pay}
use Rattle.log_model.specs.declared.message.PaxMsg.{PaxMsg}
use Rattle.log_model.specs.declared.message.PaxMsg.TheVariants.{Prepare, Promise, Accept, Accepted, Ask, Learn, Behind}
use Rattle.log_model.specs.World.{Packet as LogPacket}
use Rattle.log_model.specs.Chosen.{is_reached, reached_by, or_else, chosen_among}
use Rattle.log_model.proofs.Basics.{Every}
use Rattle.log_values.specs.declared.any_value.AnyValue.{AnyValue}
use Rattle.log_values.specs.declared.any_value.AnyValue.TheVariants as values
use Rattle.log_values.specs.declared.mid_value.MidValue.TheVariants.{Batch, Verdict as Decided}
use Rattle.run_model.specs.World.{Config, World, put_tier}
use Rattle.run_model.specs.Runs.{log_soup, grown as lengthened, chosen_next, grows_at, grows}
use Rattle.run_model.specs.Text.{chosen_text, history_text, growth_text}
use Rattle.world.specs.Tallies.{tallied, is_chosen, seen_of, grown}
use Rattle.world.specs.Watching.{all_grown, seen_in}
use Rattle.world.proofs.Votes.Tallies.{AreFrom, counted_is_chosen, chosen_is_counted}
use Rattle.world.proofs.Votes.TalliesAreEnough.{grows_by_one, grows_by_none}

-- WHAT IS ACCEPTED

abbrev pub IsBatch : AnyValue → Type 0
IsBatch (values.Mid (Batch entries)) = Unit {0}
IsBatch (values.Mid (Decided v)) = ⊥
IsBatch (values.Back v) = ⊥

abbrev pub IsNothing : AnyValue → Type 0
IsNothing v = ⊥

-- the value of an Accepted is such a value
abbrev pub VotesAre : (AnyValue → Type 0) → PaxMsg AnyValue → Type 0
VotesAre Q (Accepted b p v) = Q v
VotesAre Q (Prepare b p) = Unit {0}
VotesAre Q (Promise b p a) = Unit {0}
VotesAre Q (Accept b p v) = Unit {0}
VotesAre Q (Ask p) = Unit {0}
VotesAre Q (Learn p v) = Unit {0}
VotesAre Q (Behind p) = Unit {0}

abbrev pub AllVotes : (AnyValue → Type 0) → List (LogPacket AnyValue) → Type 0
AllVotes Q ks = Every (λ k. VotesAre Q k.msg) ks

reached_value : (Q : AnyValue → Type 0) (u : ℕ) (soup : List (LogPacket AnyValue)) (p : ℕ) (m : PaxMsg AnyValue)
    (v : AnyValue) → VotesAre Q m → reached_by u soup p m ≡ Some v → Q v
reached_value Q u soup p (Accepted b q w) v k e = go (q == p && is_reached u soup p b) e
  where
    go : (a : Bool) → cond a (Some w) None ≡ Some v → Q v
    go true f = let same : w ≡ v = cc in subst Q same k
    go false f = absurd (cc)
reached_value Q u soup p (Prepare b q) v k e = absurd (cc)
reached_value Q u soup p (Promise b q a) v k e = absurd (cc)
reached_value Q u soup p (Accept b q w) v k e = absurd (cc)
reached_value Q u soup p (Ask q) v k e = absurd (cc)
reached_value Q u soup p (Learn q w) v k e = absurd (cc)
reached_value Q u soup p (Behind q) v k e = absurd (cc)

-- what is chosen is such a value
chosen_value : (Q : AnyValue → Type 0) (u : ℕ) (soup : List (LogPacket AnyValue)) (p : ℕ)
    (ks : List (LogPacket AnyValue)) (v : AnyValue) → AllVotes Q ks → chosen_among u soup p ks ≡ Some v → Q v
chosen_value Q u soup p [] v a e = absurd (cc)
chosen_value Q u soup p (k ∷ ks) v a e = go (reached_by u soup p k.msg) refl e (chosen_value Q u soup p ks v a.1)
  where
    go : (o : Option AnyValue) → reached_by u soup p k.msg ≡ o → or_else o (chosen_among u soup p ks) ≡ Some v → (chosen_among u soup p ks ≡ Some v → Q v) → Q v
    go None f g rec = rec g
    go (Some w) f g rec = reached_value Q u soup p k.msg v a.0 (f ∙ g)

none_chosen : (u : ℕ) (soup : List (LogPacket AnyValue)) (p : ℕ) (ks : List (LogPacket AnyValue)) → AllVotes IsNothing ks → chosen_among u soup p ks ≡ None
none_chosen u soup p ks a = go (chosen_among u soup p ks) refl
  where
    go : (o : Option AnyValue) → chosen_among u soup p ks ≡ o → chosen_among u soup p ks ≡ None
    go None e = e
    go (Some v) e = absurd (chosen_value IsNothing u soup p ks v a e)

-- THE LOGS

-- what the packets of the logs carry
pub record Carry {B : Type 0} (c : Config B) (w : World B) : Type 0 where
  pub mid_from : AreFrom (2 * c.u + 1) (log_soup Mid w.soup)
  pub inv_from : AreFrom (2 * c.u + 1) (log_soup Inv w.soup)
  pub pay_from : AreFrom (2 * c.u + 1) (log_soup Pay w.soup)
  pub batches : AllVotes IsBatch (log_soup Mid w.soup)
  pub no_calls : AllVotes IsNothing (log_soup Inv w.soup)
  pub no_charges : AllVotes IsNothing (log_soup Pay w.soup)

-- what the middle log gains
abbrev gained : Option AnyValue → List AnyValue
gained None = []
gained (Some v) = v ∷ []

-- the logs with it
abbrev logs_with : {B : Type 0} → World B → Option AnyValue → Tier → List AnyValue
logs_with w None = w.logs
logs_with w (Some v) = put_tier w.logs Mid (w.logs Mid ++ v ∷ [])

logs_at : {B : Type 0} (w : World B) (o : Option AnyValue)
    → (logs_with w o Mid ≡ w.logs Mid ++ gained o) × ((logs_with w o Inv ≡ w.logs Inv) × (logs_with w o Pay ≡ w.logs Pay))
logs_at w None = (sym (append-nil (w.logs Mid)), (refl, refl))
logs_at w (Some v) = (refl, (refl, refl))

with_logs : {B : Type 0} → World B → (Tier → List AnyValue) → World B
with_logs w logs = record w { logs = logs }

batch_steps : {B : Type 0} (c : Config B) (w : World B) (v : AnyValue) → IsBatch v → lengthened c w Mid (Some v) ≡ with_logs w (logs_with w (Some v))
unfolding with_logs
batch_steps {B} c w (values.Mid (Batch es)) b = ap (λ z. record w { logs = logs_with w (Some (values.Mid (Batch es))); hist = z }) (append-nil w.hist)
batch_steps c w (values.Mid (Decided v)) b = absurd b
batch_steps c w (values.Back v) b = absurd b

mid_part : {B : Type 0} (c : Config B) (w : World B) (o : Option AnyValue) → ((v : AnyValue) → o ≡ Some v → IsBatch v)
    → lengthened c w Mid o ≡ with_logs w (logs_with w o)
unfolding with_logs
mid_part c w None b = refl
mid_part c w (Some v) b = batch_steps c w v (b v refl)

same_back : {B : Type 0} (c : Config B) (t : Tier) (w : World B) → AllVotes IsNothing (log_soup t w.soup) → grows_at c t w ≡ w
same_back c t w a = ap (lengthened c w t) (none_chosen c.u (log_soup t w.soup) (length (w.logs t)) (log_soup t w.soup) a)

grown_world : {B : Type 0} (c : Config B) (w : World B) → Carry c w → grows c w ≡ with_logs w (logs_with w (chosen_next c w Mid))
unfolding with_logs
grown_world {B} c w k =
    let now = with_logs w (logs_with w (chosen_next c w Mid)) in
    let first : grows_at c Mid w ≡ now = mid_part c w (chosen_next c w Mid)
    (λ v e. chosen_value IsBatch c.u (log_soup Mid w.soup) (length (w.logs Mid)) (log_soup Mid w.soup) v k.batches e) in
    ap (λ z. grows_at c Pay (grows_at c Inv z)) first ∙ ap (grows_at c Pay) (same_back c Inv now k.no_calls) ∙ same_back c Pay now k.no_charges

-- the logs go on, and all else stays
pub grown_is : {B : Type 0} (c : Config B) (w : World B) → Carry c w → (logs : Tier → List AnyValue) × (grows c w ≡ record w { logs = logs })
unfolding with_logs
grown_is c w k = (logs_with w (chosen_next c w Mid), grown_world c w k)

-- TEXT

batch_text : (p : ℕ) (v : AnyValue) → IsBatch v → chosen_text p (v ∷ []) ≡ []
batch_text p (values.Mid (Batch es)) b = refl
batch_text p (values.Mid (Decided v)) b = absurd b
batch_text p (values.Back v) b = absurd b

gained_text : (p : ℕ) (o : Option AnyValue) → ((v : AnyValue) → o ≡ Some v → IsBatch v) → chosen_text p (gained o) ≡ []
gained_text p None b = refl
gained_text p (Some v) b = batch_text p v (b v refl)

-- what is chosen now prints nothing
pub growth_is_silent : {B : Type 0} (c : Config B) (old w : World B) → Carry c w → w.logs ≡ old.logs → w.hist ≡ old.hist → growth_text old (grows c w) ≡ []
unfolding with_logs
growth_is_silent {B} c old w k e f =
    let o = chosen_next c w Mid in
    let n = length (old.logs Mid) in
    ap (growth_text old) (grown_world c w k)
    ∙ ap (λ z. chosen_text n (drop n z) ++ history_text (drop (length old.hist) w.hist)) ((logs_at w o).0 ∙ ap (λ z. z Mid ++ gained o) e)
    ∙ ap (λ z. chosen_text n (drop n (old.logs Mid ++ gained o)) ++ history_text (drop (length old.hist) z)) f
    ∙ ap (λ z. chosen_text n z ++ history_text (drop (length old.hist) old.hist)) (drop-append_seam (old.logs Mid) (gained o))
    ∙ ap (λ z. chosen_text n (gained o) ++ history_text z) (drop-length old.hist)
    ∙ ap (λ z. z ++ []) (gained_text n o
    (λ v g. chosen_value IsBatch c.u (log_soup Mid w.soup) (length (w.logs Mid)) (log_soup Mid w.soup) v k.batches g))

-- COUNTS

false_if : (b : Bool) → (b ≡ true → b ≡ false) → b ≡ false
false_if true f = f refl
false_if false f = refl

seen_grows : (u : ℕ) (soup : List (LogPacket AnyValue)) (n : ℕ) (o : Option AnyValue) → AreFrom (2 * u + 1) soup
    → chosen_among u soup n soup ≡ o → (log : List AnyValue) → length log ≡ n
    → grown (seen_of u soup n) ≡ seen_of u soup (length (log ++ gained o))
seen_grows u soup n None l e log h = grows_by_none u soup n
    (false_if (is_chosen u (tallied soup) n) (λ f. let s = counted_is_chosen u soup n l f in let g : None
    ≡ Some s.0 = sym e ∙ s.1 in absurd (cc)))
    ∙ ap (seen_of u soup) (sym h ∙ sym (ap length (append-nil log)))
seen_grows u soup n (Some v) l e log h = grows_by_one u soup n (chosen_is_counted u soup n v l e)
    ∙ ap (seen_of u soup) (ap (λ z. z + 1) (sym h) ∙ sym (length-append log (v ∷ [])))

seen_stays : (u : ℕ) (soup : List (LogPacket AnyValue)) (n : ℕ) → AreFrom (2 * u + 1) soup → AllVotes IsNothing soup
    → grown (seen_of u soup n) ≡ seen_of u soup n
seen_stays u soup n l a = grows_by_none u soup n
    (false_if (is_chosen u (tallied soup) n) (λ f. let s = counted_is_chosen u soup n l f in let g : None
    ≡ Some s.0 = sym (none_chosen u soup n soup a) ∙ s.1 in absurd (cc)))

-- an observer that goes on is one of the world whose logs have grown
pub watch_grows : {B : Type 0} (c : Config B) (w : World B) → Carry c w → all_grown (seen_in c w) ≡ seen_in c (grows c w)
unfolding with_logs
watch_grows {B} c w k =
    let o = chosen_next c w Mid in
    let logs = logs_at w o in
    let mid = seen_grows c.u (log_soup Mid w.soup) (length (w.logs Mid)) o k.mid_from refl (w.logs Mid) refl
    ∙ ap (λ z. seen_of c.u (log_soup Mid w.soup) (length z)) (sym logs.0) in
    let inv = seen_stays c.u (log_soup Inv w.soup) (length (w.logs Inv)) k.inv_from k.no_calls
    ∙ ap (λ z. seen_of c.u (log_soup Inv w.soup) (length z)) (sym logs.1.0) in
    let pay = seen_stays c.u (log_soup Pay w.soup) (length (w.logs Pay)) k.pay_from k.no_charges
    ∙ ap (λ z. seen_of c.u (log_soup Pay w.soup) (length z)) (sym logs.1.1) in
    (λ i. record { mid = mid i; inv = inv i; pay = pay i }) ∙ sym (ap (seen_in c) (grown_world c w k))
