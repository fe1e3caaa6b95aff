-- A node's log makes its turns: from a log in hand to the node's part.
use Rattle.std.proofs.Common.{◌≡◌, ◌⊎◌, ℕ, ◌+◌, ◌-◌, ◌*◌, ◌^◌, ◌<◌, ◌≤◌, Bool, true, false, List, [], ◌∷◌, ◌++◌, length}
use Rattle.std.proofs.Common.{take, min, map, zero, suc, refl, sym, ap, ◌∙◌, subst, inl, inr, arith, Option, Some, None}
use Rattle.std.proofs.Common.{Result, Ok, Err}
use Rattle.std.proofs.Math.Seq.{take-append_seam}
use Rattle.std.specs.Prelude.{IfSome, OnOk}
use Rattle.std.specs.declared.alloc.Global.{Global}
use Rattle.std.specs.declared.boxed.Box.{Box}
use Rattle.std.specs.List.{AllByRecursion}
use Rattle.std.proofs.lemmas.Bool.{cond_both, false_from_ne_true}
use Rattle.std.proofs.lemmas.List.{length-map}
use Rattle.aeg_base.specs.declared.limits.TheConstants.{RECORD_BYTES}
use Rattle.aeg_base.specs.declared.names.End.{End}
use Rattle.aeg_base.specs.declared.names.NodeId.{NodeId}
use Rattle.aeg_base.specs.declared.names.Tier.{Tier}
use Rattle.aeg_disk.specs.Disk.{DiskState, Rose, Later}
use Rattle.aeg_disk.proofs.Later.{same_later}
use Rattle.node_journal.specs.declared.journal.AppendErr.{AppendErr}
use Rattle.node_journal.specs.declared.journal.AppendErr.TheVariants as appends
use Rattle.fact_journal.specs.Calls.{length_with, is_past, Appended, IsCut}
use Rattle.fact_journal.specs.Standing.{HasFacts}
use Rattle.fact_journal.proofs.Lengths.{few_short}
use Rattle.log_model.specs.declared.message.PaxMsg.{PaxMsg}
use Rattle.log_model.specs.declared.message.PaxMsg.TheVariants.{Ask}
use Rattle.log_model.specs.declared.turn.LogTurn.{LogTurn}
use Rattle.log_model.specs.Log.{LogState, Turn, told, open_at, is}
use Rattle.log_model.specs.Rows.{lead, offer, on_msg}
use Rattle.log_model.specs.Ranges.{IsLogIn, IsTurnIn, IsOwnIn}
use Rattle.log_model.specs.Nodes.{Mode, writes}
use Rattle.log_model.specs.Nodes.Mode.{Up, Down}
use Rattle.log_model.proofs.Ranged.{msg_in, lead_in, offer_in}
use Rattle.log_values.specs.declared.any_value.AnyValue.{AnyValue}
use Rattle.log_values.specs.declared.fact.Fact.{Fact}
use Rattle.log_values.specs.Fields.{FitsBallot}
use Rattle.log_values.specs.Records.{record_text, FitsFact}
use Rattle.frames.specs.LogMessages.{FitsLog}
use Rattle.round_model.specs.Lists.{each}
use Rattle.tier_model.specs.declared.turn.Turn.{Turn as Answer}
use Rattle.tier_model.specs.declared.turn.Fault.{Fault}
use Rattle.tier_model.specs.declared.turn.Fault.TheVariants as faults
use Rattle.paxos_log.specs.TierLog.{NodeLog, with_state}
use Rattle.tier_model.specs.Moves.{Move, log_packets, as_fact, log_answer, asks}
use Rattle.world.specs.declared.nodes.working.Working.{Working}
use Rattle.world.specs.Parts.{CanStand, IsLogMessage, NodePart, Makes, Wrote, MayWrite, goes_down, sealed}
use Rattle.world.specs.Restoring.{as_fault, leaves_doubt}
use Rattle.world.specs.LogNodes.{LogView, mode_of, place_by, IsOwnLog, IsAtWork, IsLogNode, WasAtWork, without_log}
use Rattle.world.specs.LogNodes.{whole_turn, log_move, log_itself, MakesTurn, WritesTurn, IsSameNode, Turns}
use Rattle.world.proofs.Turns.FewMessages.{IsFew, few_facts}
use Rattle.world.proofs.Turns.SentAndWritten.{are_fit, facts_fit, sends_fit, may_raise}
use Rattle.world.proofs.Rows.PendingPlaces.{all-both}

-- what contracts see of a node with these fields
abbrev pub seen : ℕ → NodeId → ℕ → Bool → Bool → Option (Box Working Global) → LogView
seen u me known doubt gone o = record {
  faults = u;
  tier = me.tier;
  me = me.index;
  part = record { mode = mode_of o gone; place = place_by o known; doubt = doubt };
}

pub up_same : (s t : LogState AnyValue) → ◌≡◌ {A = Mode (LogState AnyValue)} (Up s) (Up t) → s ≡ t
up_same s t e = cc

pub small : (u : ℕ) (me : NodeId) (known : ℕ) (doubt gone : Bool) (o : Option (Box Working Global)) (now : LogView)
    → seen u me known doubt gone o ≡ now → IsLogNode u me.tier me.index gone doubt o → now.me ≤ 4
small u me known doubt gone o now v k = subst (λ (z : LogView). z.me ≤ 4) v (omega (arith, k.few, k.node))

-- THE LOG IS TAKEN

at_work : (u : ℕ) (t : Tier) (x : ℕ) (gone doubt : Bool) (o : Option (Box Working Global)) (up : Box Working Global)
    → IsLogNode u t x gone doubt o → o ≡ Some up → IsAtWork u t x gone doubt up.value
at_work u t x gone doubt o up k e = subst (λ (z : Option (Box Working Global)). IfSome z (λ w. IsAtWork u t x gone doubt w.value)) e k.own

pub was_at_work : (u : ℕ) (me : NodeId) (known : ℕ) (doubt gone : Bool) (o : Option (Box Working Global))
    (up : Box Working Global) (now : LogView) → seen u me known doubt gone o ≡ now
    → IsLogNode u me.tier me.index gone doubt o → o ≡ Some up → WasAtWork now up.value
was_at_work u me known doubt gone o up now v k e =
    let own = at_work u me.tier me.index gone doubt o up k e in
    subst (λ z. WasAtWork z up.value) v
    (subst (λ z. WasAtWork (seen u me known doubt gone z) up.value) (sym e)
    (record { few = k.few; node = k.node; mode = refl; place = refl; sure = own.sure; log = own.log }))

pub is_without : (u : ℕ) (me : NodeId) (known place : ℕ) (doubt gone : Bool) (o p : Option (Box Working Global))
    (up : Box Working Global) (now : LogView) → seen u me known doubt gone o ≡ now
    → IsLogNode u me.tier me.index gone doubt o → o ≡ Some up → p ≡ None → place ≡ up.value.journal
    → seen u me place doubt gone p ≡ without_log now
is_without u me known place doubt gone o p up now v k e f g =
    let own = at_work u me.tier me.index gone doubt o up k e in
    subst (λ (z : LogView). seen u me place doubt gone p ≡ without_log z) v (
    ap (λ z. seen u me place doubt gone z) f
    ∙ ap (λ z. record { faults = u; tier = me.tier; me = me.index; part = record { mode = mode_of None z; place = place; doubt = doubt } }) own.here
    ∙ ap (λ z. record {
      faults = u;
      tier = me.tier;
      me = me.index;
      part = record { mode = Down; place = z; doubt = doubt };
    }) (g
    ∙ ap (λ (z : Option (Box Working Global)). place_by z known) (sym e))
    )

pub down_here : (o : Option (Box Working Global)) (gone : Bool) → mode_of o gone ≡ Down → gone ≡ false
down_here (Some up) gone e = absurd (cc)
down_here None true e = absurd (cc)
down_here None false e = refl

-- they are put back in their next state
pub put_back : (u : ℕ) (me : NodeId) (known : ℕ) (doubt gone : Bool) (o : Option (Box Working Global)) (now : LogView)
    → seen u me known doubt gone o ≡ now → IsLogNode u me.tier me.index gone doubt o → now.part.mode ≡ Down → now.part.doubt ≡ false
    → (up : Working) (journal : ℕ) → (up.log.faults ≡ now.faults) × (up.log.me ≡ now.me)
    → IsLogIn (CanStand now.tier) FitsBallot up.log.state → (at_work : Box Working Global)
    → at_work.value ≡ record { log = up.log; journal = journal } → IsLogNode u me.tier me.index gone doubt (Some at_work)
put_back u me known doubt gone o now v k down sure up journal own range at_work e = record {
  few = k.few;
  node = k.node;
  own = record {
    here = down_here o gone (ap (λ (z : LogView). z.part.mode) v ∙ down);
    sure = ap (λ (z : LogView). z.part.doubt) v ∙ sure;
    log = subst (λ (z : Working). IsOwnLog u me.tier me.index z.log) (sym e)
        (subst (λ (z : LogView). IsOwnLog z.faults z.tier z.me up.log) (sym v)
        (record { faults = own.0; me = own.1; range = range }));
  };
}

-- SETTLING

-- what a call of the journal told
pub record Told (at next : ℕ) (facts : List Fact) (a b : DiskState) (r : Result (Unit {0}) AppendErr) : Type 0 where
  pub idle : writes facts ≡ false → (r ≡ Ok tt) × ((b ≡ a) × (next ≡ at))
  pub full : (n : ℕ) → r ≡ Err (appends.Full n) → (is_past (at + 1) facts ≡ true) × (n ≡ min (length_with (at + 1) facts) (2 ^ 64 - 1))
  pub past : is_past (at + 1) facts ≡ true → (r ≡ Err (appends.Full (min (length_with (at + 1) facts) (2 ^ 64 - 1)))) ⊎ (r ≡ Err appends.Memory)
  pub nothing_written : (n : ℕ) → r ≡ Err (appends.Full n) → b ≡ a
  pub place : OnOk r (next + 1 ≡ length_with (at + 1) facts)
  pub leaves : (rs : List (List Fact)) → a.tells ≡ true → HasFacts rs a at → Appended rs facts b next r
  pub stopped : a.stopped ≡ false → b.stopped ≡ true → (rs : List (List Fact)) → a.tells ≡ true → HasFacts rs a at → IsCut rs facts a b
  pub unmet : OnOk r (writes facts ≡ true → a.armed ≤ 4 → a.armed ≡ 0)
  pub cause : r ≡ Err appends.Disk → (b.stopped ≡ true) ⊎ Rose a.faults b.faults

pub told_at : (up held : Working) (next : ℕ) (facts : List Fact) (a b : DiskState) (r : Result (Unit {0}) AppendErr)
    → up ≡ held → Told up.journal next facts a b r → Told held.journal next facts a b r
told_at up held next facts a b r e k = subst (λ (w : Working). Told w.journal next facts a b r) e k

-- the facts of the turn were handed to the journal of the node
pub told_of : (at next place : ℕ) (facts : List Fact) (turn : LogTurn AnyValue) (a b : DiskState)
    (r s : Result (Unit {0}) AppendErr) → Told at next facts a b r → at ≡ place → facts ≡ map as_fact turn.facts → r ≡ s
    → Told place next (map as_fact turn.facts) a b s
told_of at next place facts turn a b r s k e f g = subst (λ z. Told z next (map as_fact turn.facts) a b s) e
    (subst (λ z. Told at next z a b s) f (subst (λ z. Told at next facts a b z) g k))

past_at_ok : (at next : ℕ) (facts : List Fact) (a b : DiskState) → Told at next facts a b (Ok tt) → is_past (at + 1) facts ≡ false
past_at_ok at next facts a b k = false_from_ne_true (is_past (at + 1) facts) (λ e. go (k.past e))
  where
    go : (◌≡◌ {A = Result (Unit {0}) AppendErr} (Ok tt)
        (Err (appends.Full (min (length_with (at + 1) facts) (2 ^ 64 - 1)))))
        ⊎ (◌≡◌ {A = Result (Unit {0}) AppendErr} (Ok tt) (Err appends.Memory)) → ⊥
    go (inl e) = absurd (cc)
    go (inr e) = absurd (cc)

past_at_fault : (at next : ℕ) (facts : List Fact) (a b : DiskState) → Told at next facts a b (Err appends.Disk) → is_past (at + 1) facts ≡ false
past_at_fault at next facts a b k = false_from_ne_true (is_past (at + 1) facts) (λ e. go (k.past e))
  where
    go : (◌≡◌ {A = Result (Unit {0}) AppendErr} (Err appends.Disk)
        (Err (appends.Full (min (length_with (at + 1) facts) (2 ^ 64 - 1)))))
        ⊎ (◌≡◌ {A = Result (Unit {0}) AppendErr} (Err appends.Disk) (Err appends.Memory)) → ⊥
    go (inl e) = absurd (cc)
    go (inr e) = absurd (cc)

wrote_at_fault : (at next : ℕ) (facts : List Fact) (a b : DiskState) → Told at next facts a b (Err appends.Disk) → writes facts ≡ true
wrote_at_fault at next facts a b k = go (writes facts) refl
  where
    go : (w : Bool) → writes facts ≡ w → w ≡ true
    go true e = refl
    go false e = absurd (let f = (k.idle e).0 in cc)

-- facts are written, packets are out, and the log stands in its next state
pub settled : (view now : LogView) (up : Working) (turn : LogTurn AnyValue) (next : ℕ) (facts : List Fact)
    (a b : DiskState) (before after : List (End × List ℕ)) (answer : Answer) (r : Result (Unit {0}) AppendErr)
    → view ≡ now → now.me ≤ 4
    → IsTurnIn now.faults (CanStand now.tier) FitsBallot (whole_turn up.log.state turn) → up.journal ≡ now.part.place
    → facts ≡ map as_fact turn.facts → Told up.journal next facts a b r → r ≡ Ok tt
    → after ≡ before ++ map sealed (log_packets view.tier view.me turn.sends) → answer ≡ log_answer turn.idle
    → Makes log_itself now.part (record { mode = Up up.log.state; place = next; doubt = view.part.doubt }) before after
    (log_move now.tier now.me (whole_turn up.log.state turn)) (Ok answer)
settled view now up turn next facts a b before after answer r v small k e f told ok g h =
    let here = told_of up.journal next now.part.place facts turn a b r (Ok tt) told e f ok in (
      past_at_ok now.part.place next (map as_fact turn.facts) a b here,
      (up.log.state, refl, refl),
      here.place,
      ap (λ (z : LogView). z.part.doubt) v,
      g ∙ ap (λ (z : LogView). before ++ map sealed (log_packets z.tier z.me turn.sends)) v,
      are_fit now.tier now.me turn.sends small (sends_fit now.faults now.tier turn.sends k.sends),
      h,
    )

-- and the disk has them
pub written_down : (now : LogView) (up : Working) (turn : LogTurn AnyValue) (next : ℕ) (facts : List Fact)
    (a b : DiskState) (answer : Answer) (r : Result (Unit {0}) AppendErr) → up.journal ≡ now.part.place
    → facts ≡ map as_fact turn.facts → Told up.journal next facts a b r → r ≡ Ok tt
    → Wrote a b now.part.place next (map as_fact turn.facts) (Ok answer)
written_down now up turn next facts a b answer r e f told ok =
    let here = told_of up.journal next now.part.place facts turn a b r (Ok tt) told e f ok in
    (here.leaves, here.unmet, λ w. (here.idle w).1.0)

-- the node goes down, and what was to be sent is dropped
pub failed : (view now : LogView) (up : Working) (turn : LogTurn AnyValue) (next : ℕ) (facts : List Fact)
    (a b : DiskState) (before after : List (End × List ℕ)) (r : Result (Unit {0}) AppendErr) (error : AppendErr)
    (doubt : Bool) (fault : Fault) → view ≡ now → now.part.mode ≡ Down → now.part.doubt ≡ false
    → up.journal ≡ now.part.place → facts ≡ map as_fact turn.facts → Told up.journal next facts a b r → r ≡ Err error
    → doubt ≡ leaves_doubt error → fault ≡ as_fault error → after ≡ before
    → Makes log_itself now.part (record { mode = view.part.mode; place = view.part.place; doubt = doubt }) before after
    (log_move now.tier now.me (whole_turn up.log.state turn)) (Err fault)
failed view now up turn next facts a b before after r error doubt fault v down sure e f told err d g h = subst
    (λ y. Makes log_itself now.part (record { mode = view.part.mode; place = view.part.place; doubt = y }) before after
    (log_move now.tier now.me (whole_turn up.log.state turn)) (Err fault)) (sym d)
    (subst (λ z. Makes log_itself now.part
    (record { mode = view.part.mode; place = view.part.place; doubt = leaves_doubt error }) before after
    (log_move now.tier now.me (whole_turn up.log.state turn)) (Err z)) (sym g)
    (go error (told_of up.journal next now.part.place facts turn a b r (Err error) told e f err)))
  where
    mode : view.part.mode ≡ Down
    mode = ap (λ (z : LogView). z.part.mode) v ∙ down

    place : view.part.place ≡ now.part.place
    place = ap (λ (z : LogView). z.part.place) v

    go : (error : AppendErr) → Told now.part.place next (map as_fact turn.facts) a b (Err error)
        → Makes log_itself now.part
        (record { mode = view.part.mode; place = view.part.place; doubt = leaves_doubt error }) before after
        (log_move now.tier now.me (whole_turn up.log.state turn)) (Err (as_fault error))
    go appends.Disk k = (past_at_fault now.part.place next (map as_fact turn.facts) a b k, mode, place, refl, h)
    go (appends.Full n) k = ((k.full n refl).0, mode, place, sym sure, h)
    go appends.Memory k = tt

-- and the disk is as the journal left it
pub not_written : (now : LogView) (up : Working) (turn : LogTurn AnyValue) (next place : ℕ) (facts : List Fact)
    (a b : DiskState) (r : Result (Unit {0}) AppendErr) (error : AppendErr) (fault : Fault)
    → up.journal ≡ now.part.place → facts ≡ map as_fact turn.facts → Told up.journal next facts a b r → r ≡ Err error
    → fault ≡ as_fault error
    → Wrote a b now.part.place place (map as_fact turn.facts) (Err fault)
not_written now up turn next place facts a b r error fault e f told err g = subst
    (λ z. Wrote a b now.part.place place (map as_fact turn.facts) (Err z)) (sym g)
    (go error (told_of up.journal next now.part.place facts turn a b r (Err error) told e f err))
  where
    go : (error : AppendErr) → Told now.part.place next (map as_fact turn.facts) a b (Err error)
        → Wrote a b now.part.place place (map as_fact turn.facts) (Err (as_fault error))
    go appends.Disk k = (
      wrote_at_fault now.part.place next (map as_fact turn.facts) a b k,
      k.cause refl,
      λ rs t has. (k.leaves rs t has, λ s z. k.stopped s z rs t has),
    )
    go (appends.Full n) k = k.nothing_written n refl
    go appends.Memory k = tt

-- what was added is dropped
pub sent_none : (before more all after : List (End × List ℕ)) (n : ℕ) → all ≡ before ++ more → n ≡ length before → after ≡ take n all → after ≡ before
sent_none before more all after n e f g = g ∙ (ap (λ z. take n z) e ∙ (ap (λ (z : ℕ). take z (before ++ more)) f ∙ take-append_seam before more))

-- TURNS

whole_is : (l log : NodeLog AnyValue) (t : Turn AnyValue) (turn : LogTurn AnyValue) → turn ≡ told t → log ≡ with_state l t.state → whole_turn log.state turn ≡ t
whole_is l log t turn f g = ap (λ z. whole_turn log.state z) f ∙ ap (λ (z : NodeLog AnyValue). whole_turn z.state (told t)) g

-- the turn of the log in hand is the node's
turn_is : (now : LogView) (up : Working) (log : NodeLog AnyValue) (t : ℕ → ℕ → LogState AnyValue
    → Turn AnyValue) (turn : LogTurn AnyValue) (s : LogState AnyValue)
    → WasAtWork now up → turn ≡ told (t up.log.faults up.log.me up.log.state)
    → log ≡ with_state up.log (t up.log.faults up.log.me up.log.state).state → now.part.mode ≡ Up s
    → whole_turn log.state turn ≡ t now.faults now.me s
turn_is now up log t turn s k f g q =
    whole_is up.log log (t up.log.faults up.log.me up.log.state) turn f g
    ∙ (ap (λ z. t z up.log.me up.log.state) k.log.faults
    ∙ (ap (λ z. t now.faults z up.log.state) k.log.me
    ∙ ap (λ z. t now.faults now.me z) (up_same up.log.state s (sym k.mode ∙ q))))

-- a move asks of the part before nothing but its place and its doubt
makes_up : {S T : Type 0} (whole : S → T) (old new : NodePart S) (before after : List (End × List ℕ)) (move : Move T)
    (result : Result Answer Fault) → Makes whole (goes_down old) new before after move result
    → Makes whole old new before after move result
makes_up whole old new before after move (Ok answer) k = k
makes_up whole old new before after move (Err (faults.JournalFull n)) k = k
makes_up whole old new before after move (Err faults.Memory) k = k
makes_up whole old new before after move (Err faults.Disk) k = k
makes_up whole old new before after move (Err (faults.BadRecord n)) k = k

-- what a turn does to a node that is up
abbrev pub IsTurnOf : LogView → (ℕ → ℕ → LogState AnyValue → Turn AnyValue) → Type 0
IsTurnOf now t = (s : LogState AnyValue) → now.part.mode ≡ Up s → IsTurnIn now.faults (CanStand now.tier) FitsBallot (t now.faults now.me s)

-- a call that made the turn on the log in hand and settled it
pub turns_are : (now down new : LogView) (up : Working) (log : NodeLog AnyValue) (a b : DiskState)
    (before after : List (End × List ℕ)) (t : ℕ → ℕ → LogState AnyValue → Turn AnyValue) (turn : LogTurn AnyValue)
    (result : Result Answer Fault)
    → WasAtWork now up → down ≡ without_log now → turn ≡ told (t up.log.faults up.log.me up.log.state)
    → log ≡ with_state up.log (t up.log.faults up.log.me up.log.state).state → IsTurnOf now t
    → MakesTurn down new before after (whole_turn log.state turn) result
    → WritesTurn down new a b (whole_turn log.state turn) result → Later a b → IsSameNode down new
    → Turns now new a b before after (t now.faults now.me) result
turns_are now down new up log a b before after t turn result k d f g range makes wrote later same = record {
  row = λ s q. makes_up log_itself now.part new.part before after (log_move now.tier now.me (t now.faults now.me s)) result
      (subst (λ (z : LogView). MakesTurn z new before after (t now.faults now.me s) result) d
      (subst (λ z. MakesTurn down new before after z result) (turn_is now up log t turn s k f g q) makes));
  disk = λ s q. subst (λ (z : LogView). WritesTurn z new a b (t now.faults now.me s) result) d
      (subst (λ z. WritesTurn down new a b z result) (turn_is now up log t turn s k f g q) wrote);
  later = later;
  range = range;
  same = subst (λ (z : LogView). IsSameNode z new) d same;
}

-- a call that ran out of memory before it settled anything
pub turns_none : (now new : LogView) (a : DiskState) (out : List (End × List ℕ)) (t : ℕ → ℕ → LogState AnyValue
    → Turn AnyValue) (result : Result Answer Fault) → IsTurnOf now t → new ≡ without_log now
    → result ≡ Err faults.Memory → Turns now new a a out out (t now.faults now.me) result
turns_none now new a out t result range d e = subst (λ r. Turns now new a a out out (t now.faults now.me) r) (sym e) (record {
  row = λ s m. tt;
  disk = λ s m. tt;
  later = same_later a a refl;
  range = range;
  same = subst (λ (z : LogView). IsSameNode now z) (sym d) (refl, (refl, refl));
})

-- the log in hand is in range after its turn
pub turn_range : (now down : LogView) (up : Working) (log : NodeLog AnyValue) (t : ℕ → ℕ → LogState AnyValue → Turn AnyValue) (turn : LogTurn AnyValue)
    → WasAtWork now up → down ≡ without_log now → turn ≡ told (t up.log.faults up.log.me up.log.state)
    → log ≡ with_state up.log (t up.log.faults up.log.me up.log.state).state → IsTurnOf now t
    → IsTurnIn down.faults (CanStand down.tier) FitsBallot (whole_turn log.state turn)
turn_range now down up log t turn k d f g range = subst (λ (z : LogView). IsTurnIn z.faults (CanStand z.tier) FitsBallot (whole_turn log.state turn)) (sym d)
    (subst (λ z. IsTurnIn now.faults (CanStand now.tier) FitsBallot z) (sym (turn_is now up log t turn up.log.state k f g k.mode)) (range up.log.state k.mode))

-- it writes at most one fact
pub turn_short : (u : ℕ) (log : LogState AnyValue) (t : Turn AnyValue) (turn : LogTurn AnyValue) → turn ≡ told t → IsFew u log t → length turn.facts ≤ 1
turn_short u log t turn f k = subst (λ (z : LogTurn AnyValue). length z.facts ≤ 1) (sym f) (few_facts (open_at log) (open_at t.state) t.facts k.written)

pub may_write : (now down : LogView) (a : DiskState) → down ≡ without_log now → MayWrite now.part a → MayWrite down.part a
may_write now down a d k = subst (λ (z : LogView). MayWrite z.part a) (sym d) k

pub own_log : (now down : LogView) (up : Working) (log : NodeLog AnyValue) (s : LogState AnyValue) → WasAtWork now up
    → down ≡ without_log now → log ≡ with_state up.log s → (log.faults ≡ down.faults) × (log.me ≡ down.me)
own_log now down up log s k d g = (
  ap (λ (z : NodeLog AnyValue). z.faults) g ∙ (k.log.faults ∙ ap (λ (z : LogView). z.faults) (sym d)),
  ap (λ (z : NodeLog AnyValue). z.me) g ∙ (k.log.me ∙ ap (λ (z : LogView). z.me) (sym d)),
)

pub sure_now : (now down : LogView) (up : Working) → WasAtWork now up → down ≡ without_log now → down.part.doubt ≡ false
sure_now now down up k d = ap (λ (z : LogView). z.part.doubt) d ∙ k.sure

pub place_now : (now down : LogView) (up : Working) → WasAtWork now up → down ≡ without_log now → up.journal ≡ down.part.place
place_now now down up k d = sym (ap (λ (z : LogView). z.part.place) d ∙ k.place)

-- what is asked of the log by the node's part is asked of the log in hand
pub of_log : (now : LogView) (up : Working) (P : ℕ → LogState AnyValue → Type 0) → WasAtWork now up
    → ((s : LogState AnyValue) → now.part.mode ≡ Up s → P now.faults s) → P up.log.faults up.log.state
of_log now up P k f = subst (λ z. P z up.log.state) (sym k.log.faults) (f up.log.state k.mode)

-- the messages of a turn in range fit, by the node's own tier
pub sends_at : (view now : LogView) (turn : Turn AnyValue) → view ≡ now
    → IsTurnIn now.faults (CanStand now.tier) FitsBallot turn
    → AllByRecursion {X = ℕ × PaxMsg AnyValue} (λ send. FitsLog view.tier send.1) turn.sends
sends_at view now turn v k = subst
    (λ (z : LogView). AllByRecursion {X = ℕ × PaxMsg AnyValue} (λ send. FitsLog z.tier send.1) turn.sends) (sym v)
    (sends_fit now.faults now.tier turn.sends k.sends)

pub facts_at : (now : LogView) (turn : Turn AnyValue) (facts : List Fact) → facts ≡ map as_fact turn.facts
    → IsTurnIn now.faults (CanStand now.tier) FitsBallot turn → AllByRecursion FitsFact facts
facts_at now turn facts e k = subst (λ z. AllByRecursion FitsFact z) (sym e) (facts_fit now.tier turn.facts k.facts)

pub facts_short : (now : LogView) (turn : Turn AnyValue) (facts : List Fact) → facts ≡ map as_fact turn.facts
    → IsTurnIn now.faults (CanStand now.tier) FitsBallot turn → length turn.facts ≤ 1 → length (record_text facts) ≤ RECORD_BYTES
facts_short now turn facts e k l = few_short facts (facts_at now turn facts e k) (let n = ap length e in omega (arith, n, length-map turn.facts as_fact, l))

-- ASKS

asks_fit : (t : Tier) (n : ℕ) (skip : ℕ → Bool) (p : ℕ) → p ≤ 4096
    → AllByRecursion {X = ℕ × PaxMsg AnyValue} (λ send. FitsLog t send.1) (each n skip (λ y. (y, Ask p)))
asks_fit t zero skip p l = tt
asks_fit t (suc n) skip p l = all-both {A = ℕ × PaxMsg AnyValue} (λ send. FitsLog t send.1) (each n skip (λ y. (y, Ask p))) _ (asks_fit t n skip p l)
    (cond_both (skip n) [] ((n, Ask p) ∷ []) (AllByRecursion {X = ℕ × PaxMsg AnyValue} (λ send. FitsLog t send.1)) (λ e. tt) (λ e. (l, tt)))

pub asks_at : (t : Tier) (now : LogView) (p : ℕ) (list : List (ℕ × PaxMsg AnyValue)) → list ≡ asks now.faults now.me p
    → p ≤ 4096 → AllByRecursion {X = ℕ × PaxMsg AnyValue} (λ send. FitsLog t send.1) list
asks_at t now p list e l = subst (λ z. AllByRecursion {X = ℕ × PaxMsg AnyValue} (λ send. FitsLog t send.1) z) (sym e)
    (asks_fit t (2 * now.faults + 1) (is now.me) p l)

-- THE TURNS ARE IN RANGE

range_at : (now : LogView) (up : Working) (s : LogState AnyValue) → WasAtWork now up → now.part.mode ≡ Up s → IsLogIn (CanStand now.tier) FitsBallot s
range_at now up s k e = subst (λ z. IsLogIn (CanStand now.tier) FitsBallot z) (up_same up.log.state s (sym k.mode ∙ e)) k.log.range

pub msg_range : (now : LogView) (up : Working) (from : ℕ) (m : PaxMsg AnyValue) → WasAtWork now up
    → from < 2 * now.faults + 1 → IsLogMessage now.tier m → IsTurnOf now (λ u x log. on_msg u log from m)
msg_range now up from m k l n s e = msg_in now.faults (CanStand now.tier) FitsBallot s from m l (range_at now up s k e) n

pub lead_range : (now : LogView) (up : Working) → WasAtWork now up → IsTurnOf now (λ u x log. lead u x log)
lead_range now up k s e = lead_in now.faults (CanStand now.tier) FitsBallot now.me s (may_raise now.me (omega (arith, k.few, k.node))) (range_at now up s k e)

pub offer_range : (now : LogView) (up : Working) (own : Option AnyValue) → WasAtWork now up
    → ((s : LogState AnyValue) → now.part.mode ≡ Up s → IsOwnIn (CanStand now.tier) (open_at s) own)
    → IsTurnOf now (λ u x log. offer u x log own)
offer_range now up own k q s e = offer_in now.faults (CanStand now.tier) FitsBallot now.me s own (range_at now up s k e) (q s e)
