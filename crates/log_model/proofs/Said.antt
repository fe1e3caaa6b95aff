-- What the packets of a run say of each other, and of their senders' disks.
use Rattle.std.proofs.Common.{◌≡◌, ℕ, ◌+◌, ◌*◌, ◌<◌, ◌≤◌, List, subst, inl, inr, arith, Option, Some, None, suc}
use Rattle.std.specs.Prelude.{slice_get, ◌⊎◌, IfSome, IsTrue}
use Rattle.std.proofs.lemmas.Bool.{cases_lt}
use Rattle.aeg_base.specs.Ballots.{is_at_most}
use Rattle.aeg_base.specs.declared.names.Ballot.{Ballot}
use Rattle.log_model.specs.declared.fact.Fact.{Fact}
use Rattle.log_model.specs.declared.message.PaxMsg.{PaxMsg}
use Rattle.log_model.specs.declared.message.PaxMsg.TheVariants.{Prepare, Promise, Accept, Accepted, Ask, Learn, Behind}
use Rattle.log_model.specs.Log.{LogState}
use Rattle.log_model.specs.Recover.{newest, promised_in, learned_in, accepted_in, recover}
use Rattle.log_model.specs.World.{Packet, Mode, LogNode, Event, start, run}
use Rattle.log_model.specs.Nodes.Mode.{Up, Down, Gone}
use Rattle.log_model.specs.Chosen.{chosen, Meets, Carries, Binds, StandsFor, HasFrom, KeepsVote}
use Rattle.log_model.proofs.Ballots.{key, limit, at_most_key, key_at_most}
use Rattle.log_model.proofs.Basics.{every-get, get_within}
use Rattle.log_model.proofs.History.{opening, DidVote, Orderly, small_node, vote_is_small, accepted_voted, Grew}
use Rattle.log_model.proofs.History.{grew-refl, grew-onto, votes_below, vote_is_low, promises_below}
use Rattle.log_model.proofs.Invariant.{VoteOk, History, PacketOk, MsgOk, ModeOk, IsPending, Inv}
use Rattle.log_model.proofs.Agree.{one_ballot, higher_agrees, meets_voted}
use Rattle.log_model.proofs.Events.{start_ok, run_ok}
use Rattle.log_model.proofs.Step.{turn_rest}
use Rattle.log_model.proofs.Chosen.{meets_chosen, chosen_meets}

VotedBy : {V : Type 0} → ℕ → (ℕ → List (Fact V)) → ℕ → Ballot → V → Type 0
VotedBy u h p b v = (y : ℕ) × (y < 2 * u + 1) × DidVote (h y) p b v

carried : {V : Type 0} (u : ℕ) (h : ℕ → List (Fact V)) (soup : List (Packet V)) (from : ℕ) (m : PaxMsg V) (b : Ballot)
    (p : ℕ) (v : V) → MsgOk u h soup from m → Carries m b p v → VotedBy u h p b v
unfolding VotedBy
carried u h soup from (Accept c q w) b p v k e = (c.node, k.0, rw (← e.0, ← e.1, ← e.2) k.1)
carried u h soup from (Accepted c q w) b p v k e = (from, k.0, rw (← e.0, ← e.1, ← e.2) k.1)
carried u h soup from (Prepare c q) b p v k e = absurd e
carried u h soup from (Promise c q a) b p v k e = absurd e
carried u h soup from (Learn q w) b p v k e = absurd e
carried u h soup from (Ask q) b p v k e = absurd e
carried u h soup from (Behind q) b p v k e = absurd e

-- two packets with one ballot and position carry one value
pub one_value : {V : Type 0} (u : ℕ) (es : List (Event V)) (i j : ℕ) (k l : Packet V) (b : Ballot) (p : ℕ) (v w : V)
    → u < 128 → slice_get (run u es start).soup i ≡ Some k → slice_get (run u es start).soup j ≡ Some l
    → Carries k.msg b p v → Carries l.msg b p w → v ≡ w
unfolding VotedBy
one_value {V} u es i j k l b p v w few ei ej cv cw = one_ballot u n.h soup n.history p b a.0 c.0 v w a.1 c.1 a.2 c.2
  where
    n : Inv u (run u es start)
    n = run_ok u es start few (start_ok u)

    soup : List (Packet V)
    soup = (run u es start).soup

    a : VotedBy u n.h p b v
    a = carried u n.h soup k.from k.msg b p v (every-get (PacketOk u n.h soup) soup i k n.history.packets ei) cv

    c : VotedBy u n.h p b w
    c = carried u n.h soup l.from l.msg b p w (every-get (PacketOk u n.h soup) soup j l n.history.packets ej) cw

-- a value chosen at a ballot is the value of each Accept and Accepted at a higher one
pub higher_value : {V : Type 0} (u : ℕ) (es : List (Event V)) (j : ℕ) (l : Packet V) (c : Ballot) (p : ℕ) (v w : V)
    (m : Meets u (run u es start).soup p v) → u < 128 → slice_get (run u es start).soup j ≡ Some l
    → Carries l.msg c p w → IsTrue (is_at_most m.ballot c) → w ≡ v
unfolding VotedBy
higher_value {V} u es j l c p v w m few ej cw le = higher_agrees (suc (key c)) u n.h soup few n.history p m.ballot v
    m.is_reached_by a.0 a.1 a.2 c w d.0 d.1 (omega arith) (at_most_key m.ballot c (omega (arith, ok.owner_in)) le) d.2
  where
    n : Inv u (run u es start)
    n = run_ok u es start few (start_ok u)

    soup : List (Packet V)
    soup = (run u es start).soup

    a : VotedBy u n.h p m.ballot v
    a = meets_voted u n.h soup n.history p v m

    ok : VoteOk u n.h p m.ballot v
    ok = n.history.votes a.0 a.1 p m.ballot v a.2

    d : VotedBy u n.h p c w
    d = carried u n.h soup l.from l.msg c p w (every-get (PacketOk u n.h soup) soup j l n.history.packets ej) cw

-- whichever list its disk stands for goes on from what the node has written
stood : {V : Type 0} (u : ℕ) (h : ℕ → List (Fact V)) (soup : List (Packet V)) (x : ℕ) (node : LogNode V)
    (m : Mode (LogState V)) (R : List (List (Fact V))) → Orderly (h x) → ModeOk u h soup x node m → StandsFor node m R
    → Grew (h x) (newest R) × Orderly (newest R)
stood u h soup x node (Up log) R o k s = rw (← s, k.0) (grew-refl (h x), o)
stood u h soup x node Down R o k (inl s) = rw (← s, k.0) (grew-refl (h x), o)
stood {V} u h soup x node Down R o k (inr s) = rw p.is (grew-onto p.turn.facts (h x) p.ok.orderly, p.ok.orderly)
  where
    p : IsPending u h soup x R
    p = every-get (IsPending u h soup x) node.others s.0 R k.1 s.1
stood u h soup x node Gone R o k s = absurd s

bound_by : {V : Type 0} (u : ℕ) (h : ℕ → List (Fact V)) (soup : List (Packet V)) (x : ℕ) (m : PaxMsg V) (b : Ballot)
    → Orderly (h x) → MsgOk u h soup x m → Binds m b → key b ≤ key (promised_in (h x))
bound_by u h soup x (Prepare c q) b o k e = (promises_below (h x) b q o (rw (k.2, ← e) k.1)).1
bound_by u h soup x (Promise c q a) b o k e = rw (← e) k.report.top
bound_by u h soup x (Accepted c q w) b o k e = (votes_below (h x) q b w o (rw (← e) k.1)).1
bound_by u h soup x (Accept c q w) b o k e = absurd e
bound_by u h soup x (Learn q w) b o k e = absurd e
bound_by u h soup x (Ask q) b o k e = absurd e
bound_by u h soup x (Behind q) b o k e = absurd e

-- Unless its sender is gone, each list that the sender's disk stands for has promised at least the ballot of a Prepare, Promise or Accepted
pub promised_kept : {V : Type 0} (u : ℕ) (es : List (Event V)) (i : ℕ) (k : Packet V) (b : Ballot)
    (R : List (List (Fact V))) → u < 128 → k.from < 2 * u + 1 → slice_get (run u es start).soup i ≡ Some k → Binds k.msg b
    → StandsFor ((run u es start).nodes k.from) ((run u es start).nodes k.from).mode R → IsTrue (is_at_most b (recover u (newest R)).promised)
promised_kept {V} u es i k b R few lx ei e s =
    let n : Inv u (run u es start) = run_ok u es start few (start_ok u) in
    let o : Orderly (n.h k.from) = n.history.orderly k.from lx in
    let t : Grew (n.h k.from) (newest R) × Orderly (newest R) = stood u n.h (run u es start).soup k.from
    ((run u es start).nodes k.from) ((run u es start).nodes k.from).mode R o (n.nodes k.from lx) s in
    let ok : MsgOk u n.h (run u es start).soup k.from k.msg = every-get (PacketOk u n.h (run u es start).soup) (run u es start).soup i k n.history.packets ei in
    key_at_most b (promised_in (newest R)) (small_node (newest R) t.1) (omega (arith, t.0.top, bound_by u n.h (run u es start).soup k.from k.msg b o ok e))

voted_by_sender : {V : Type 0} (u : ℕ) (h : ℕ → List (Fact V)) (soup : List (Packet V)) (x : ℕ) (m : PaxMsg V)
    (b : Ballot) (p : ℕ) (v : V) → MsgOk u h soup x m → Carries m b p v → DidVote (h x) p b v
voted_by_sender u h soup x (Accept c q w) b p v k e = rw (k.2, ← e.0, ← e.1, ← e.2) k.1
voted_by_sender u h soup x (Accepted c q w) b p v k e = rw (← e.0, ← e.1, ← e.2) k.1
voted_by_sender u h soup x (Prepare c q) b p v k e = absurd e
voted_by_sender u h soup x (Promise c q a) b p v k e = absurd e
voted_by_sender u h soup x (Learn q w) b p v k e = absurd e
voted_by_sender u h soup x (Ask q) b p v k e = absurd e
voted_by_sender u h soup x (Behind q) b p v k e = absurd e

-- what was accepted is from b on
has_from : {V : Type 0} (F : List (Fact V)) (p : ℕ) (b : Ballot) → Orderly F → suc (key b) ≤ limit (accepted_in p F) → HasFrom b (accepted_in p F)
has_from {V} F p b o l = go (accepted_in p F) (accepted_voted F p) l
  where
    go : (a : Option (Ballot × V)) → IfSome a (λ c. DidVote F p c.0 c.1) → suc (key b) ≤ limit a → HasFrom b a
    go None d l = absurd (omega arith)
    go (Some a) d l = key_at_most b a.0 (vote_is_small F p a.0 a.1 o d) (omega arith)

-- and has learned, or accepted with that ballot or above, where the packet is an Accept or an Accepted
pub vote_kept : {V : Type 0} (u : ℕ) (es : List (Event V)) (i : ℕ) (k : Packet V) (b : Ballot) (p : ℕ) (v : V)
    (R : List (List (Fact V))) → u < 128 → k.from < 2 * u + 1 → slice_get (run u es start).soup i ≡ Some k → Carries k.msg b p v
    → StandsFor ((run u es start).nodes k.from) ((run u es start).nodes k.from).mode R → KeepsVote (recover u (newest R)) p b
vote_kept {V} u es i k b p v R few lx ei e s = go (cases_lt p (opening (newest R)))
  where
    n : Inv u (run u es start)
    n = run_ok u es start few (start_ok u)

    t : Grew (n.h k.from) (newest R) × Orderly (newest R)
    t = stood u n.h (run u es start).soup k.from ((run u es start).nodes k.from) ((run u es start).nodes k.from).mode R
        (n.history.orderly k.from lx) (n.nodes k.from lx) s

    d : DidVote (newest R) p b v
    d = t.0.votes p b v (voted_by_sender u n.h (run u es start).soup k.from k.msg b p v
        (every-get (PacketOk u n.h (run u es start).soup) (run u es start).soup i k n.history.packets ei) e)

    go : (p < opening (newest R)) ⊎ (opening (newest R) ≤ p) → KeepsVote (recover u (newest R)) p b
    go (inl l) = inl l
    go (inr l) =
        let e : p ≡ opening (newest R) = omega (arith, (votes_below (newest R) p b v t.1 d).0) in
        inr (e, rw (← e) (has_from (newest R) p b t.1 (vote_is_low (newest R) p b v t.1 d)))

-- the value of each Learn is chosen at its position
pub learn_chosen : {V : Type 0} (u : ℕ) (es : List (Event V)) (i : ℕ) (k : Packet V) (p : ℕ) (v : V) → u < 128
    → slice_get (run u es start).soup i ≡ Some k → k.msg ≡ Learn p v → chosen u es p ≡ Some v
learn_chosen u es i k p v few ei e =
    let n : Inv u (run u es start) = run_ok u es start few (start_ok u) in
    let ok : MsgOk u n.h (run u es start).soup k.from k.msg = every-get (PacketOk u n.h (run u es start).soup) (run u es start).soup i k n.history.packets ei in
    meets_chosen u es p v few (subst (MsgOk u n.h (run u es start).soup k.from) e ok)

-- a position is chosen only after the one before it
pub no_gap : {V : Type 0} (u : ℕ) (es : List (Event V)) (p : ℕ) (v : V) → u < 128 → chosen u es (suc p) ≡ Some v → (w : V) × (chosen u es p ≡ Some w)
unfolding VotedBy
no_gap {V} u es p v few e =
    let n : Inv u (run u es start) = run_ok u es start few (start_ok u) in
    let m : Meets u (run u es start).soup (suc p) v = chosen_meets u es start (suc p) v e in
    let a : VotedBy u n.h (suc p) m.ballot v = meets_voted u n.h (run u es start).soup n.history (suc p) v m in
    let below : suc p ≤ opening (n.h a.0) = (votes_below (n.h a.0) (suc p) m.ballot v (n.history.orderly a.0 a.1) a.2).0 in
    let r : (w : V) × (slice_get (learned_in (n.h a.0)) p ≡ Some w) = get_within (learned_in (n.h a.0)) p below in
    (r.0, meets_chosen u es p r.0 few (n.history.learned a.0 a.1 p r.0 r.1))

-- what the disk of a node has learned meets the condition, whichever list it stands for
disk_meets : {V : Type 0} (u : ℕ) (h : ℕ → List (Fact V)) (soup : List (Packet V)) (x : ℕ) (node : LogNode V)
    (m : Mode (LogState V)) (R : List (List (Fact V))) (p : ℕ) (v : V) → History u h soup → x < 2 * u + 1
    → ModeOk u h soup x node m → StandsFor node m R
    → slice_get (learned_in (newest R)) p ≡ Some v → Meets u soup p v
disk_meets u h soup x node (Up log) R p v n lx k s e = n.learned x lx p v (rw (← s, k.0) at e)
disk_meets u h soup x node Down R p v n lx k (inl s) e = n.learned x lx p v (rw (← s, k.0) at e)
disk_meets {V} u h soup x node Down R p v n lx k (inr s) e =
    (turn_rest u h soup x j.turn j.ok).learned p v (rw j.is at e)
  where
    j : IsPending u h soup x R
    j = every-get (IsPending u h soup x) node.others s.0 R k.1 s.1
disk_meets u h soup x node Gone R p v n lx k s e = absurd s

pub disk_chosen : {V : Type 0} (u : ℕ) (es : List (Event V)) (x p : ℕ) (v : V) (R : List (List (Fact V))) → u < 128
    → x < 2 * u + 1 → StandsFor ((run u es start).nodes x) ((run u es start).nodes x).mode R
    → slice_get (recover u (newest R)).learned p ≡ Some v
    → chosen u es p ≡ Some v
disk_chosen u es x p v R few lx s e =
    let n : Inv u (run u es start) = run_ok u es start few (start_ok u) in
    meets_chosen u es p v few
    (disk_meets u n.h (run u es start).soup x ((run u es start).nodes x) ((run u es start).nodes x).mode R p v
    n.history lx (n.nodes x lx) s e)
