-- A turn that is right by itself keeps the invariant.
use Rattle.std.proofs.Common.{◌≡◌, ℕ, ◌+◌, ◌*◌, ◌<◌, Bool, true, false, cond, List, [], ◌++◌, refl, sym, ap, ◌∙◌, subst, Some}
use Rattle.std.specs.Prelude.{slice_get, ◌==◌}
use Rattle.std.proofs.lemmas.Bool.{eq-eqb, eqb-true, cond-true, cond-false}
use Rattle.aeg_base.specs.declared.names.Ballot.{Ballot}
use Rattle.log_model.specs.declared.fact.Fact.{Fact}
use Rattle.log_model.specs.Log.{LogState, Turn}
use Rattle.log_model.specs.Recover.{onto, newest, learned_in, recover}
use Rattle.log_model.specs.World.{Packet, packets_of, Mode, LogNode, World, put, with_node, turned, recorded, stands}
use Rattle.log_model.specs.Nodes.Mode.{Up, Down, Gone}
use Rattle.log_model.specs.Chosen.{Meets}
use Rattle.log_model.proofs.Basics.{Every, every-append, every-weaker, nothing_seen}
use Rattle.log_model.proofs.History.{DidVote, Orderly, Grew, grew-refl, grew-onto, newest-push}
use Rattle.log_model.proofs.Invariant.{StateOk, VoteOk, PacketOk, sends-grew, posted, History, ModeOk, IsPending, Rest}
use Rattle.log_model.proofs.Invariant.{TurnOk, turn-grew, all_same, Inv, AllGrew, SoupGrew, soup-append, soup-refl}
use Rattle.log_model.proofs.Invariant.{vote-grew, packets-grew, state-grew}

pub put_same : {A : Type 0} (f : ℕ → A) (x : ℕ) (a : A) → put f x a x ≡ a
put_same f x a = cond-true (x == x) a (f x) (eq-eqb x x refl)

pub put_other : {A : Type 0} (f : ℕ → A) (x : ℕ) (a : A) (y : ℕ) → (y == x) ≡ false → put f x a y ≡ f y
put_other f x a y e = cond-false (y == x) a (f y) e

pub put_each : {A : Type 0} (P : ℕ → A → Type 0) (f : ℕ → A) (x : ℕ) (a : A) → P x a → ((y : ℕ) → (y == x) ≡ false → P y (f y)) → (y : ℕ) → P y (put f x a y)
put_each P f x a here there y = go (y == x) refl
  where
    go : (t : Bool) → (y == x) ≡ t → P y (cond t a (f y))
    go true e = subst (λ z. P z a) (sym (eqb-true y x e)) here
    go false e = there y e

pub grown : {V : Type 0} (h : ℕ → List (Fact V)) (x : ℕ) (fs : List (Fact V)) → Orderly (onto fs (h x)) → AllGrew h (put h x (onto fs (h x)))
grown h x fs o = record { at = put_each (λ y F. Grew (h y) F) h x (onto fs (h x)) (grew-onto fs (h x) o) (λ y e. grew-refl (h y)) }

-- what the nodes have written, after a turn at x whose facts are kept
abbrev pub wrote : {V : Type 0} → (ℕ → List (Fact V)) → ℕ → Turn V → ℕ → List (Fact V)
wrote h x t = put h x (onto t.facts (h x))

pub turn_rest : {V : Type 0} (u : ℕ) (h : ℕ → List (Fact V)) (soup : List (Packet V)) (x : ℕ) (t : Turn V)
    → TurnOk u h soup x t → Rest u (wrote h x t) (onto t.facts (h x)) soup x t
turn_rest u h soup x t k = k.rest (wrote h x t) (put_same h x (onto t.facts (h x))) (grown h x t.facts k.orderly)

histories : {V : Type 0} (u : ℕ) (h : ℕ → List (Fact V)) (soup ys : List (Packet V)) (x : ℕ) (t : Turn V)
    → History u h soup → TurnOk u h soup x t → SoupGrew u soup ys → Every (PacketOk u (wrote h x t) ys) ys
    → History u (wrote h x t) ys
histories {V} u h soup ys x t k ok s e = record {
  orderly = put_each (λ y F. y < 2 * u + 1 → Orderly F) h x (onto t.facts (h x)) (λ l. ok.orderly) (λ y n l. k.orderly y l);
  votes = put_each (λ y F. y < 2 * u + 1 → (p : ℕ) (b : Ballot) (v : V) → DidVote F p b v → VoteOk u (wrote h x t) p b v) h x (onto t.facts (h x))
      (λ l p b v d. r.votes p b v d)
      (λ y n l p b v d. vote-grew u h (wrote h x t) p b v (grown h x t.facts ok.orderly) (k.votes y l p b v d));
  learned = put_each (λ y F. y < 2 * u + 1 → (p : ℕ) (v : V) → slice_get (learned_in F) p ≡ Some v → Meets u ys p v) h x (onto t.facts (h x))
      (λ l p v q. s.meets p v (r.learned p v q))
      (λ y n l p v q. s.meets p v (k.learned y l p v q));
  packets = e;
}
  where
    r : Rest u (wrote h x t) (onto t.facts (h x)) soup x t
    r = turn_rest u h soup x t ok

-- the packets of the turn are sent
pub turn_history : {V : Type 0} (u : ℕ) (h : ℕ → List (Fact V)) (soup : List (Packet V)) (x : ℕ) (t : Turn V)
    → History u h soup → TurnOk u h soup x t → History u (wrote h x t) (soup ++ packets_of x t.sends)
turn_history {V} u h soup x t k ok = histories u h soup ys x t k ok s
    (every-append (PacketOk u (wrote h x t) ys) soup (packets_of x t.sends)
    (packets-grew u h (wrote h x t) soup ys soup (grown h x t.facts ok.orderly) s k.packets)
    (posted u (wrote h x t) ys x t.sends
    (sends-grew u (wrote h x t) (wrote h x t) soup ys x t.sends (all_same (wrote h x t)) s (turn_rest u h soup x t ok).sends)))
  where
    ys : List (Packet V)
    ys = soup ++ packets_of x t.sends

    s : SoupGrew u soup ys
    s = soup-append u soup (packets_of x t.sends)

-- nothing is sent
pub write_history : {V : Type 0} (u : ℕ) (h : ℕ → List (Fact V)) (soup : List (Packet V)) (x : ℕ) (t : Turn V)
    → History u h soup → TurnOk u h soup x t → History u (wrote h x t) soup
write_history u h soup x t k ok = histories u h soup soup x t k ok (soup-refl u soup)
    (packets-grew u h (wrote h x t) soup soup soup (grown h x t.facts ok.orderly) (soup-refl u soup) k.packets)

-- the state of x after the turn
pub turn_state : {V : Type 0} (u : ℕ) (h : ℕ → List (Fact V)) (soup : List (Packet V)) (x : ℕ) (t : Turn V)
    → TurnOk u h soup x t → StateOk u (wrote h x t) (wrote h x t x) (soup ++ packets_of x t.sends) x t.state
turn_state u h soup x t ok = rw (put_same h x (onto t.facts (h x)))
    (state-grew u (wrote h x t) (wrote h x t) (onto t.facts (h x)) soup (soup ++ packets_of x t.sends) x t.state
    (all_same (wrote h x t)) (soup-append u soup (packets_of x t.sends)) (turn_rest u h soup x t ok).state)

-- the state of x after a restart that reads the facts F
pub restored : {V : Type 0} (u : ℕ) (h : ℕ → List (Fact V)) (soup : List (Packet V)) (x : ℕ) (F : List (Fact V)) → StateOk u h F soup x (recover u F)
restored u h soup x F = record { promised = refl; accepted = refl; learned = refl; seen = λ y b e. absurd (nothing_seen (2 * u + 1) y b e); leader = tt }

pending-grew : {V : Type 0} (u : ℕ) (h g : ℕ → List (Fact V)) (xs ys : List (Packet V)) (x : ℕ)
    (R : List (List (Fact V))) → AllGrew h g → SoupGrew u xs ys → g x ≡ h x → IsPending u h xs x R → IsPending u g ys x R
pending-grew u h g xs ys x R m s e k = record { turn = k.turn; is = k.is ∙ ap (onto k.turn.facts) (sym e); ok = turn-grew u h g xs ys x k.turn m s e k.ok }

-- another node
other_mode : {V : Type 0} (u : ℕ) (h g : ℕ → List (Fact V)) (xs ys : List (Packet V)) (y : ℕ) (node : LogNode V)
    (m : Mode (LogState V)) → AllGrew h g → SoupGrew u xs ys → g y ≡ h y → ModeOk u h xs y node m → ModeOk u g ys y node m
other_mode u h g xs ys y node (Up log) m s e k = (k.0 ∙ sym e, rw e (state-grew u h g (h y) xs ys y log m s k.1))
other_mode u h g xs ys y node Down m s e k = (
  k.0 ∙ sym e,
  every-weaker (IsPending u h xs y) (IsPending u g ys y) (λ R p. pending-grew u h g xs ys y R m s e p) node.others k.1,
)
other_mode u h g xs ys y node Gone m s e k = tt

-- an event that leaves all that was written and sent, and changes the node x alone
pub quiet_node : {V : Type 0} (u : ℕ) (w : World V) (x : ℕ) (node : LogNode V) (i : Inv u w)
    → (x < 2 * u + 1 → ModeOk u i.h w.soup x node node.mode) → Inv u (with_node w x node)
quiet_node u w x node i k = record {
  h = i.h;
  history = i.history;
  nodes = put_each (λ y n. y < 2 * u + 1 → ModeOk u i.h w.soup y n n.mode) w.nodes x node k (λ y e l. i.nodes y l);
}

-- The facts of a turn at x are kept, and these packets sent: all of the turn's, or none.
kept : {V : Type 0} (u : ℕ) (w : World V) (x : ℕ) (t : Turn V) (ys : List (Packet V)) (node : LogNode V) (i : Inv u w)
    → TurnOk u i.h w.soup x t → SoupGrew u w.soup ys → History u (wrote i.h x t) ys
    → ModeOk u (wrote i.h x t) ys x node node.mode → Inv u (record { nodes = put w.nodes x node; soup = ys })
kept u w x t ys node i k s history mode = record {
  h = wrote i.h x t;
  history = history;
  nodes = put_each (λ y n. y < 2 * u + 1 → ModeOk u (wrote i.h x t) ys y n n.mode) w.nodes x node (λ l. mode)
      (λ y e l. other_mode u i.h (wrote i.h x t) w.soup ys y (w.nodes y) (w.nodes y).mode
      (grown i.h x t.facts k.orderly) s (put_other i.h x (onto t.facts (i.h x)) y e) (i.nodes y l));
}

pub turn_kept : {V : Type 0} (u : ℕ) (w : World V) (x : ℕ) (t : Turn V) (i : Inv u w)
    → newest (w.nodes x).records ≡ i.h x → TurnOk u i.h w.soup x t → Inv u (turned w x t)
turn_kept u w x t i same k = kept u w x t (w.soup ++ packets_of x t.sends)
    (stands (Up t.state) (recorded (w.nodes x).records t.facts)) i k (soup-append u w.soup (packets_of x t.sends))
    (turn_history u i.h w.soup x t i.history k)
    (newest-push (w.nodes x).records t.facts [] ∙ ap (onto t.facts) same ∙ sym (put_same i.h x (onto t.facts (i.h x))), turn_state u i.h w.soup x t k)

-- the record of the turn is kept, and nothing is sent
pub write_kept : {V : Type 0} (u : ℕ) (w : World V) (x : ℕ) (t : Turn V) (node : LogNode V) (i : Inv u w) → TurnOk u i.h w.soup x t
    → ((g : ℕ → List (Fact V)) → g x ≡ onto t.facts (i.h x) → ModeOk u g w.soup x node node.mode) → Inv u (with_node w x node)
write_kept u w x t node i k new = kept u w x t w.soup node i k (soup-refl u w.soup)
    (write_history u i.h w.soup x t i.history k) (new (wrote i.h x t) (put_same i.h x (onto t.facts (i.h x))))
