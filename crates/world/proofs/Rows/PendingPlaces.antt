-- The places of pending entries, and the batch that they make.
use Rattle.std.proofs.Common.{◌≡◌, ℕ, ◌+◌, ◌<◌, ◌≤◌, true, false, List, [], ◌∷◌, ◌++◌, length, take, refl, sym, ap, ◌∙◌}
use Rattle.std.proofs.Common.{subst, inl, inr, arith, Option, Some, None, Result, Ok, Err, zero, suc, get_or}
use Rattle.std.proofs.Math.Seq.{take-append_seam}
use Rattle.std.specs.Prelude.{slice_set, replicate, ◌⊎◌, ◌==◌, nat_le}
use Rattle.std.specs.List.{AllByRecursion}
use Rattle.std.proofs.lemmas.List.{length-set, length-take}
use Rattle.std.proofs.lemmas.Bool.{le-leb}
use Rattle.aeg_base.specs.declared.names.ReqId.{ReqId}
use Rattle.server_model.specs.Requests.{request_of}
use Rattle.server_model.specs.Booking.{stages_in}
use Rattle.server_model.specs.declared.request.Request.{Request}
use Rattle.server_model.proofs.TextLengths.{text_short}
use Rattle.log_values.specs.declared.entry.Entry.{Entry}
use Rattle.log_values.specs.declared.mid_value.MidValue.TheVariants.{Batch}
use Rattle.log_values.specs.Values.{FitsEntry, FitsMid}
use Rattle.round_model.specs.Lists.{is_some, at, put_at, concat}
use Rattle.round_model.specs.Service.{is_request}
use Rattle.round_model.specs.Tables.{tables0, last_of, parked_of, Parked, is_busy, who_of, in_range, is_fresh, pending_of, if_fresh, fresh_pending, batch_of}
use Rattle.tier_model.specs.MidRows.{has_seq}
use Rattle.run_model.specs.BookingRuns.{booking_service}
use Rattle.world.specs.PendingEntries.{IsFirst, ArePending, listed}

-- PLACES

pub at_is : {A : Type 0} (d e : A) (xs : List A) (i : ℕ) → i < length xs → get_or xs i e ≡ at d xs i
at_is d e [] i l = absurd (omega arith)
at_is d e (x ∷ xs) zero l = refl
at_is d e (x ∷ xs) (suc i) l = at_is d e xs i (omega arith)

pub put_is : {A : Type 0} (d : A) (xs : List A) (i : ℕ) (a : A) → i < length xs → slice_set xs i a ≡ put_at d xs i a
put_is d [] i a l = absurd (omega arith)
put_is d (x ∷ xs) zero a l = refl
put_is d (x ∷ xs) (suc i) a l = ap (λ ys. x ∷ ys) (put_is d xs i a (omega arith))

at_cases : {A : Type 0} (d : A) (xs : List A) (i : ℕ) (a : A) (j : ℕ) → i < length xs
    → ((j ≡ i) × (at d (put_at d xs i a) j ≡ a)) ⊎ (at d (put_at d xs i a) j ≡ at d xs j)
at_cases d [] i a j l = absurd (omega arith)
at_cases d (x ∷ xs) zero a zero l = inl (refl, refl)
at_cases d (x ∷ xs) zero a (suc j) l = inr refl
at_cases d (x ∷ xs) (suc i) a zero l = inr refl
at_cases {A} d (x ∷ xs) (suc i) a (suc j) l = go (at_cases d xs i a j (omega arith))
  where
    go : ((j ≡ i) × (at d (put_at d xs i a) j ≡ a)) ⊎ (at d (put_at d xs i a) j ≡ at d xs j)
        → ((suc j ≡ suc i) × (at d (put_at d xs i a) j ≡ a)) ⊎ (at d (put_at d xs i a) j ≡ at d xs j)
    go (inl e) = inl (ap suc e.0, e.1)
    go (inr e) = inr e

pub at-none : {A : Type 0} (n i : ℕ) → at {A = Option A} None (replicate n None) i ≡ None
at-none zero i = refl
at-none (suc n) zero = refl
at-none {A} (suc n) (suc i) = at-none {A = A} n i

pub at-zero : (n i : ℕ) → ◌≡◌ {A = ℕ} (at 0 (replicate n 0) i) 0
at-zero zero i = refl
at-zero (suc n) zero = refl
at-zero (suc n) (suc i) = at-zero n i

-- an entry at its client's place
pub set_pending : (xs : List (Option Entry)) (i : ℕ) (e : Entry) → ArePending xs → IsFirst e → i ≡ e.client → ArePending (slice_set xs i (Some e))
set_pending xs i e k f s = subst ArePending (sym (put_is None xs i (Some e) inside))
    (record {
      places = ap length (sym (put_is None xs i (Some e) inside)) ∙ (length-set xs i (Some e) ∙ k.places);
      first = λ c g h. (at c g h).0;
      own = λ c g h. (at c g h).1;
    })
  where
    inside : i < length xs
    inside = let l = f.client in omega (arith, k.places, s)

    at : (c : ℕ) (g : Entry) → pending_of (put_at None xs i (Some e)) c ≡ Some g → IsFirst g × (g.client ≡ c)
    at c g h = go (at_cases None xs i (Some e) c inside)
      where
        go : ((c ≡ i) × (pending_of (put_at None xs i (Some e)) c ≡ Some e))
            ⊎ (pending_of (put_at None xs i (Some e)) c ≡ pending_of xs c) → IsFirst g × (g.client ≡ c)
        go (inl a) = let same : e ≡ g = cc in (subst IsFirst same f, subst (λ (z : Entry). z.client ≡ c) same (sym s ∙ sym a.0))
        go (inr a) = (k.first c g (sym a ∙ h), k.own c g (sym a ∙ h))

-- the places of the clients
pub set_is : (xs : List (Option Entry)) (i : ℕ) (e : Entry) → ArePending xs → IsFirst e → i ≡ e.client
    → slice_set xs i (Some e) ≡ put_at None xs e.client (Some e)
set_is xs i e k f s = let l = f.client in subst (λ z. slice_set xs i (Some e) ≡ put_at None xs z (Some e)) s
    (put_is None xs i (Some e) (omega (arith, k.places, s)))

pub has_is : (xs now : List (Option Entry)) (i c : ℕ) (d o : Option Entry) (s : ℕ) → xs ≡ now → length xs ≡ 17 → i ≡ c
    → c ≤ 16 → get_or xs i d ≡ o → has_seq o s ≡ has_seq (pending_of now c) s
has_is xs now i c d o s v n e l f = ap (λ z. has_seq z s) (sym f
    ∙ (at_is None d xs i (omega (arith, n, e)) ∙ (ap (λ z. pending_of xs z) e ∙ ap (λ z. pending_of z c) v)))

-- REQUESTS

pub request_short : (who : ReqId) (body : List ℕ) → is_request booking_service.programs who body ≡ true → length body ≤ 48
request_short who body e = go (request_of body) refl e
  where
    go : (r : Result Request ℕ) → request_of body ≡ r → is_some (stages_in who 0 r) ≡ true → length body ≤ 48
    go (Ok q) f g = text_short body q f
    go (Err n) f g = absurd (cc)

fits_first : (e : Entry) → IsFirst e → FitsEntry e
fits_first e k = record { client = k.client; seq = (omega (arith, k.seq), omega (arith, k.seq)); body = request_short (who_of e) e.body k.request }

-- BATCHES

-- the pending entries of the clients up to this one
abbrev pub joined : List (Option Entry) → ℕ → List Entry
joined pending zero = []
joined pending (suc c) = joined pending c ++ listed (pending_of pending (suc c))

nothing_parked : (depth : ℕ) → concat {A = Parked} (replicate depth []) ≡ []
nothing_parked zero = refl
nothing_parked (suc n) = nothing_parked n

pub no_queue : (depth : ℕ) → concat (tables0 depth).queue ≡ []
no_queue depth = nothing_parked depth

none_busy : (depth c : ℕ) → is_busy (tables0 depth) c ≡ false
none_busy depth c = ap (λ q. is_some (parked_of c q)) (nothing_parked depth)

first_range : (e : Entry) → IsFirst e → in_range e ≡ true
first_range e k =
    let a : nat_le 1 e.client ≡ true = le-leb 1 e.client k.client.0 in
    let b : nat_le e.client 16 ≡ true = le-leb e.client 16 k.client.1 in
    let c : nat_le e.seq 65536 ≡ true = le-leb e.seq 65536 (omega (arith, k.seq)) in
    rw (a, b, c) refl

first_next : (e : Entry) (depth : ℕ) → IsFirst e → (e.seq == suc (last_of (tables0 depth).last e.client)) ≡ true
first_next e depth k = rw (k.seq, at-zero 17 e.client) refl

fresh_first : (depth : ℕ) (e : Entry) → IsFirst e → is_fresh booking_service.programs (tables0 depth) e ≡ true
fresh_first depth e k = rw (first_range e k, k.request, first_next e depth k, none_busy depth e.client) refl

if_fresh_is : (depth : ℕ) (o : Option Entry) → ((e : Entry) → o ≡ Some e → IsFirst e) → if_fresh booking_service.programs (tables0 depth) o ≡ listed o
if_fresh_is depth None k = refl
if_fresh_is depth (Some e) k = rw (fresh_first depth e (k e refl)) refl

fresh_joined : (depth : ℕ) (pending : List (Option Entry)) (n : ℕ) → ArePending pending
    → fresh_pending booking_service.programs (tables0 depth) pending n ≡ joined pending n
fresh_joined depth pending zero k = refl
fresh_joined depth pending (suc n) k =
    ap (λ xs. xs ++ if_fresh booking_service.programs (tables0 depth) (pending_of pending (suc n))) (fresh_joined depth pending n k)
    ∙ ap (λ ys. joined pending n ++ ys) (if_fresh_is depth (pending_of pending (suc n)) (k.first (suc n)))

pub batch_is : (depth : ℕ) (pending : List (Option Entry)) → ArePending pending
    → take 8 (joined pending 16) ≡ batch_of booking_service.programs (tables0 depth) pending
batch_is depth pending k = ap (λ xs. take 8 xs) (sym (fresh_joined depth pending 16 k))

pub take_again : {A : Type 0} (n : ℕ) (xs ys : List A) → take n (take n xs ++ ys) ≡ take n (xs ++ ys)
take_again zero xs ys = refl
take_again (suc n) [] ys = refl
take_again (suc n) (x ∷ xs) ys = ap (λ zs. x ∷ zs) (take_again n xs ys)

-- one client more
batch_more : (pending : List (Option Entry)) (c : ℕ) (old new : List Entry) (d : Option Entry) → length pending ≡ 17
    → c < 16 → old ≡ take 8 (joined pending c) → new ≡ take 8 (old ++ listed (get_or pending (suc c) d))
    → new ≡ take 8 (joined pending (suc c))
batch_more pending c old new d n l e g =
    g ∙ (ap (λ z. take 8 (z ++ listed (get_or pending (suc c) d))) e
    ∙ (take_again 8 (joined pending c) (listed (get_or pending (suc c) d))
    ∙ ap (λ z. take 8 (joined pending c ++ listed z)) (at_is None d pending (suc c) (omega (arith, n)))))

pub batch_next : (pending : List (Option Entry)) (c n : ℕ) (old new : List Entry) (d : Option Entry)
    → length pending ≡ 17 → c < 16 → old ≡ take 8 (joined pending c) → n ≡ c
    → new ≡ take 8 (old ++ listed (get_or pending (n + 1) d)) → new ≡ take 8 (joined pending (c + 1))
batch_next pending c n old new d k l e s g =
    let a : n + 1 ≡ suc c = omega arith in
    let b : c + 1 ≡ suc c = omega arith in
    subst (λ z. new ≡ take 8 (joined pending z)) (sym b)
    (batch_more pending c old new d k l e (subst (λ z. new ≡ take 8 (old ++ listed (get_or pending z d))) a g))

pub batch_made : (depth c : ℕ) (xs now : List (Option Entry)) (batch : List Entry) → ArePending xs → xs ≡ now → c ≡ 16
    → batch ≡ take 8 (joined xs c) → batch ≡ batch_of booking_service.programs (tables0 depth) now
batch_made depth c xs now batch k v n e = e
    ∙ (ap (λ z. take 8 (joined xs z)) n ∙ (batch_is depth xs k ∙ ap (λ z. batch_of booking_service.programs (tables0 depth) z) v))

all-take : {A : Type 0} (P : A → Type 0) (n : ℕ) (xs : List A) → AllByRecursion P xs → AllByRecursion P (take n xs)
all-take P zero xs k = tt
all-take P (suc n) [] k = tt
all-take P (suc n) (x ∷ xs) k = (k.0, all-take P n xs k.1)

pub all-both : {A : Type 0} (P : A → Type 0) (xs ys : List A) → AllByRecursion P xs → AllByRecursion P ys → AllByRecursion P (xs ++ ys)
all-both P [] ys a b = b
all-both P (x ∷ xs) ys a b = (a.0, all-both P xs ys a.1 b)

listed_fit : (o : Option Entry) → ((e : Entry) → o ≡ Some e → IsFirst e) → AllByRecursion FitsEntry (listed o)
listed_fit None k = tt
listed_fit (Some e) k = (fits_first e (k e refl), tt)

joined_fit : (pending : List (Option Entry)) (n : ℕ) → ArePending pending → AllByRecursion FitsEntry (joined pending n)
joined_fit pending zero k = tt
joined_fit pending (suc n) k = all-both FitsEntry (joined pending n) (listed (pending_of pending (suc n)))
    (joined_fit pending n k) (listed_fit (pending_of pending (suc n)) (k.first (suc n)))

pub batch_fits : (pending : List (Option Entry)) (c : ℕ) (batch : List Entry) → ArePending pending → batch ≡ take 8 (joined pending c) → FitsMid (Batch batch)
batch_fits pending c batch k e = subst (λ z. FitsMid (Batch z)) (sym e)
    (omega (arith, length-take 8 (joined pending c)), all-take FitsEntry 8 (joined pending c) (joined_fit pending c k))

-- a full list takes no more
pub take_full : {A : Type 0} (n : ℕ) (xs ys : List A) → length xs ≡ n → xs ≡ take n (xs ++ ys)
take_full n xs ys e = sym (subst (λ z. take z (xs ++ ys) ≡ xs) e (take-append_seam xs ys))

-- the batch that can be offered fits
pub batch_stands : (depth : ℕ) (xs now : List (Option Entry)) → ArePending xs → xs ≡ now
    → FitsMid (Batch (batch_of booking_service.programs (tables0 depth) now))
batch_stands depth xs now k v = batch_fits xs 16 (batch_of booking_service.programs (tables0 depth) now) k
    (sym (batch_made depth 16 xs now (take 8 (joined xs 16)) k v refl refl))
