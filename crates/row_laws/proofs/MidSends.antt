-- The packets of a middle node that aren't its log's: they are taken, have frames, and are few.
use Rattle.std.proofs.Common.{◌≡◌, ℕ, suc, ◌+◌, ◌*◌, ◌<◌, ◌≤◌, ◌^◌, false, List, [], ◌∷◌, length, length-append, refl, arith, Option, Some, None}
use Rattle.std.specs.Prelude.{nat_lt, ◌||◌}
use Rattle.std.proofs.lemmas.Bool.{eq-eqb, lt-ltb, ltb-true, cond_both}
use Rattle.aeg_base.specs.declared.names.Tier.{Tier}
use Rattle.aeg_base.specs.declared.names.Tier.TheVariants.{Mid as InMid, Inv, Pay}
use Rattle.svc_api.specs.Plan.{IsBackend}
use Rattle.svc_api.specs.declared.action.Ending.{Ending}
use Rattle.svc_api.specs.declared.action.Ending.TheVariants.{Reply, Call}
use Rattle.log_model.specs.Log.{nobody, is, open_at}
use Rattle.log_model.proofs.Basics.{Every}
use Rattle.log_values.specs.Fields.{IsCallNumber, IsText, IsClient, IsSeq}
use Rattle.log_values.specs.Outcomes.{IsCommit}
use Rattle.frames.specs.declared.message.Msg.TheVariants as msgs
use Rattle.round_model.specs.Lists.{OfTiers, of_tier, is_some, each}
use Rattle.round_model.specs.Numbered.{find}
use Rattle.round_model.specs.Service.{Service}
use Rattle.round_model.specs.Tables.{Parked, Want, bump}
use Rattle.round_model.specs.Held.{held_code, is_noted}
use Rattle.round_model.specs.Shims.{copy_of, copies_at, rises_to}
use Rattle.round_model.specs.Verdicts.{Vote}
use Rattle.tier_model.specs.Moves.{node, Packet}
use Rattle.tier_model.specs.Mid.{reply_to, call_to, calls_to, tells}
use Rattle.tier_model.specs.MidRows.{is_in, have_to, haves, token_to, calls_again, haves_again, settle_at, settle_to}
use Rattle.tier_model.specs.Back.{Back}
use Rattle.tier_model.specs.BackRows.{call_as}
use Rattle.server_shim.specs.Ranges.{IsCode}
use Rattle.row_laws.specs.Mids.{IsParkedIn}
use Rattle.row_laws.specs.Moves.{is_dropped, Takes, IsTaken, IsSealable}
use Rattle.row_laws.proofs.Lists.{each_few, each_less}
use Rattle.row_laws.proofs.LogTurns.{taken_if, taken_either, AreGood, none_good, both_good, each_good}
use Rattle.row_laws.proofs.Wanted.{IsWantIn}
use Rattle.row_laws.proofs.Finishes.{AreEndsIn}
use Rattle.row_laws.proofs.Applied.{AreNumbersFor, numbers_bump, numbers_less, call_number}

-- CALLS

call_as_taken : {B : Type 0} (t : Tier) (x : ℕ) (σ : Back B) (y n : ℕ) (text : List ℕ) (o : Option ℕ) → is_dropped (call_as t x σ y n text o).answer ≡ false
call_as_taken t x σ y n text None = taken_either (is_some (copy_of (copies_at σ.shim n) y)) _ _ refl refl
call_as_taken t x σ y n text (Some code) = refl

call_taken : {B : Type 0} (s : Service B) (u depth : ℕ) (t : Tier) (x y n : ℕ) (text : List ℕ) → IsBackend t → x < 2 * u + 1 → y < 2 * u + 1
    → Takes s u depth (node t y) (node InMid x) (msgs.Call n text)
call_taken s u depth InMid x y n text b l m = absurd b
call_taken s u depth Inv x y n text b l m =
    (m, λ σ. taken_if _ _ _ (lt-ltb x (2 * u + 1) l) (taken_either (nat_lt n σ.shim.floor) _ _ refl (call_as_taken Inv y σ x n text (find σ.shim.kept n))))
call_taken s u depth Pay x y n text b l m =
    (m, λ σ. taken_if _ _ _ (lt-ltb x (2 * u + 1) l) (taken_either (nat_lt n σ.shim.floor) _ _ refl (call_as_taken Pay y σ x n text (find σ.shim.kept n))))

pub calls_good : {B : Type 0} (s : Service B) (u depth x : ℕ) (t : Tier) (n : ℕ) (text : List ℕ) → IsBackend t → u ≤ 2 → x < 2 * u + 1 → IsCallNumber n
    → IsText text → AreGood s u depth InMid x (calls_to u x t n text)
calls_good s u depth x t n text b small l c f =
    each_good s u depth InMid x (2 * u + 1) nobody (call_to x t n text) (λ y m. call_taken s u depth t x y n text b l m)
    (λ y m. record { own = refl; fits = record { sender = omega (arith, small, l); sent = refl; message = (c, f) } })

pub calls_few : (u x : ℕ) (t : Tier) (n : ℕ) (text : List ℕ) → length (calls_to u x t n text) ≤ 2 * u + 1
calls_few u x t n text = each_few (2 * u + 1) nobody (call_to x t n text)

-- REPLIES

pub reply_taken : {B : Type 0} (s : Service B) (u depth x c seq : ℕ) (text : List ℕ) → IsTaken s u depth (reply_to x c seq text)
reply_taken s u depth x c seq text = refl

pub reply_sealed : (u x c seq : ℕ) (text : List ℕ) → u ≤ 2 → x < 2 * u + 1 → IsClient c → IsSeq seq → IsText text
    → IsSealable (node InMid x) (reply_to x c seq text)
reply_sealed u x c seq text small l k n f = record { own = refl; fits = record { sender = omega (arith, small, l); sent = refl; message = (k, (n, f)) } }

-- what a round tells
pub tells_good : {B : Type 0} (s : Service B) (u depth x : ℕ) (next : OfTiers ℕ) (ws : List Want) (es : List Ending) → u ≤ 2 → x < 2 * u + 1
    → Every (IsWantIn s.programs) ws → AreEndsIn s.programs ws es → AreNumbersFor (length ws) next
    → AreGood s u depth InMid x (tells u x next ws es)
tells_good s u depth x next [] es small l k f n = none_good s u depth InMid x
tells_good s u depth x next (w ∷ ws) [] small l k f n = absurd f
tells_good s u depth x next (w ∷ ws) (Reply text ∷ es) small l k f n =
    both_good s u depth InMid x (reply_to x w.client w.seq text ∷ []) (tells u x next ws es) (
      (reply_taken s u depth x w.client w.seq text, tt),
      (
        reply_sealed u x w.client w.seq text small l (k.0.asks.client_low, k.0.asks.client_high)
            (k.0.asks.seq_low, k.0.asks.seq_high) f.0.0,
        tt,
      ),
    )
    (tells_good s u depth x next ws es small l k.1 f.1 (numbers_less (length ws) next n))
tells_good s u depth x next (w ∷ ws) (Call t stage text ∷ es) small l k f n =
    both_good s u depth InMid x (calls_to u x t (of_tier next t) text) (tells u x (bump next t) ws es)
    (calls_good s u depth x t (of_tier next t) text f.0.0.0 small l (call_number (suc (length ws)) next t n) f.0.0.1.1.1)
    (tells_good s u depth x (bump next t) ws es small l k.1 f.1 (numbers_bump (length ws) next t stage text n))

pub tells_few : (u x : ℕ) (next : OfTiers ℕ) (ws : List Want) (es : List Ending) → u ≤ 2 → length (tells u x next ws es) ≤ 5 * length ws
tells_few u x next [] es small = omega arith
tells_few u x next (w ∷ ws) [] small = omega arith
tells_few u x next (w ∷ ws) (Reply text ∷ es) small = omega (arith, tells_few u x next ws es small)
tells_few u x next (w ∷ ws) (Call t stage text ∷ es) small =
    omega (
      arith,
      small,
      length-append (calls_to u x t (of_tier next t) text) (tells u x (bump next t) ws es),
      calls_few u x t
          (of_tier next t) text,
      tells_few u x (bump next t) ws es small,
    )

-- HAVES

have_taken : {B : Type 0} (s : Service B) (u depth x y : ℕ) (t : Tier) (n code : ℕ) → x < 2 * u + 1 → y < 2 * u + 1
    → Takes s u depth (node InMid y) (node InMid x) (msgs.Have t n code)
have_taken s u depth x y t n code l m = (
  m,
  λ σ. taken_if _ _ _ (lt-ltb x (2 * u + 1) l) (taken_either (is_noted σ.held x t n) _ _ refl
      (taken_either (is_some (held_code σ.held t n)) _ _ refl refl)),
)

pub haves_good : {B : Type 0} (s : Service B) (u depth x : ℕ) (t : Tier) (n code : ℕ) → IsBackend t → u ≤ 2 → x < 2 * u + 1 → IsCode (n, code)
    → AreGood s u depth InMid x (haves u x t n code)
haves_good s u depth x t n code b small l c =
    each_good s u depth InMid x (2 * u + 1) (is x) (have_to x t n code) (λ y m. have_taken s u depth x y t n code l m)
    (λ y m. record { own = refl; fits = record { sender = omega (arith, small, l); sent = refl; message = (b, c) } })

pub haves_few : (u x : ℕ) (t : Tier) (n code : ℕ) → x < 2 * u + 1 → length (haves u x t n code) ≤ 2 * u
haves_few u x t n code l = let e = each_less (2 * u + 1) (is x) (have_to x t n code) x l (eq-eqb x x refl) in omega (arith, e)

-- TOKENS

token_taken : {B : Type 0} (s : Service B) (u depth x y r : ℕ) (token order : List ℕ) → x < 2 * u + 1 → y < 2 * u + 1
    → Takes s u depth (node InMid y) (node InMid x) (msgs.Token r token order)
token_taken s u depth x y r token order l m = (
  m,
  λ σ. taken_if _ _ _ (lt-ltb x (2 * u + 1) l)
      (taken_either (nat_lt (2 * r + 1) (open_at σ.log) || is_in σ.tally (record { round = r; from = x; token = token; order = order })) _ _ refl refl),
)

pub tokens_good : {B : Type 0} (s : Service B) (u depth x : ℕ) (v : Vote) → u ≤ 2 → x < 2 * u + 1 → v.round < 2048 → IsCommit v.token v.order
    → AreGood s u depth InMid x (each (2 * u + 1) (is x) (token_to x v))
tokens_good s u depth x v small l r c =
    each_good s u depth InMid x (2 * u + 1) (is x) (token_to x v) (λ y m. token_taken s u depth x y v.round v.token v.order l m)
    (λ y m. record { own = refl; fits = record { sender = omega (arith, small, l); sent = refl; message = (r, c) } })

-- WHAT IS TOLD AGAIN

pub calls_again_good : {B : Type 0} (s : Service B) (u depth x : ℕ) (ps : List Parked) → u ≤ 2 → x < 2 * u + 1 → Every (IsParkedIn s.programs) ps
    → AreGood s u depth InMid x (calls_again u x ps)
calls_again_good s u depth x [] small l k = none_good s u depth InMid x
calls_again_good s u depth x (p ∷ ps) small l k = both_good s u depth InMid x (calls_to u x p.tier p.num p.text) (calls_again u x ps)
    (calls_good s u depth x p.tier p.num p.text k.0.tier small l k.0.number k.0.text) (calls_again_good s u depth x ps small l k.1)

pub calls_again_few : (u x : ℕ) (ps : List Parked) → u ≤ 2 → length (calls_again u x ps) ≤ 5 * length ps
calls_again_few u x [] small = omega arith
calls_again_few u x (p ∷ ps) small =
    omega (
      arith,
      small,
      length-append (calls_to u x p.tier p.num p.text)
          (calls_again u x ps),
      calls_few u x p.tier p.num p.text,
      calls_again_few u x ps small,
    )

pub haves_again_good : {B : Type 0} (s : Service B) (u depth x : ℕ) (t : Tier) (es : List (ℕ × ℕ)) → IsBackend t → u ≤ 2 → x < 2 * u + 1 → Every IsCode es
    → AreGood s u depth InMid x (haves_again u x t es)
haves_again_good s u depth x t [] b small l k = none_good s u depth InMid x
haves_again_good s u depth x t (e ∷ es) b small l k =
    both_good s u depth InMid x (haves u x t e.0 e.1) (haves_again u x t es) (haves_good s u depth x t e.0 e.1 b small l k.0)
    (haves_again_good s u depth x t es b small l k.1)

pub haves_again_few : (u x : ℕ) (t : Tier) (es : List (ℕ × ℕ)) → u ≤ 2 → x < 2 * u + 1 → length (haves_again u x t es) ≤ 4 * length es
haves_again_few u x t [] small l = omega arith
haves_again_few u x t (e ∷ es) small l =
    omega (arith, small, length-append (haves u x t e.0 e.1) (haves_again u x t es), haves_few u x t e.0 e.1 l, haves_again_few u x t es small l)

-- FLOORS

settle_taken : {B : Type 0} (s : Service B) (u depth : ℕ) (t : Tier) (x y g : ℕ) → IsBackend t → x < 2 * u + 1 → y < 2 * u + 1
    → Takes s u depth (node t y) (node InMid x) (msgs.Settle g)
settle_taken s u depth InMid x y g b l m = absurd b
settle_taken s u depth Inv x y g b l m = (m, λ σ. taken_if _ _ _ (lt-ltb x (2 * u + 1) l) (taken_either (rises_to σ.shim x g) _ _ refl refl))
settle_taken s u depth Pay x y g b l m = (m, λ σ. taken_if _ _ _ (lt-ltb x (2 * u + 1) l) (taken_either (rises_to σ.shim x g) _ _ refl refl))

pub settles_good : {B : Type 0} (s : Service B) (u depth x : ℕ) (t : Tier) (g : ℕ) → IsBackend t → u ≤ 2 → x < 2 * u + 1 → g < 2 ^ 32
    → AreGood s u depth InMid x (settle_to u x t g)
settles_good s u depth x t g b small l high = cond_both (nat_lt 1 g) _ _ (AreGood s u depth InMid x) (λ e.
    let low : 1 < g = ltb-true 1 g e in
    each_good s u depth InMid x (2 * u + 1) nobody (settle_at x t g) (λ y m. settle_taken s u depth t x y g b l m)
    (λ y m. record { own = refl; fits = record { sender = omega (arith, small, l); sent = refl; message = (omega (arith, low), high) } }))
    (λ e. none_good s u depth InMid x)

pub settles_few : (u x : ℕ) (t : Tier) (g : ℕ) → length (settle_to u x t g) ≤ 2 * u + 1
settles_few u x t g = cond_both (nat_lt 1 g) _ _ (λ (z : List Packet). length z ≤ 2 * u + 1) (λ e. each_few (2 * u + 1) nobody (settle_at x t g))
    (λ e. omega arith)
