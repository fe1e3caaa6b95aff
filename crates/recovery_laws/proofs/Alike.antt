-- Lists of facts from which a restart recovers the same.
use Rattle.std.proofs.Common.{◌≡◌, ℕ, ◌+◌, ◌≤◌, ◌<◌, ◌⊎◌, List, [], ◌∷◌, ◌++◌, ◌∙◌, if◌then◌else◌, ◌==◌}
use Rattle.std.proofs.Common.{map, length, length-append, append-nil, eq-or-lt_of_le, replicate, refl, sym, ap, ap₂, subst, inl, inr, arith, Some, None}
use Rattle.std.proofs.lemmas.List.{length-map}
use Rattle.aeg_base.specs.declared.names.Tier.{Tier}
use Rattle.aeg_base.specs.declared.names.Tier.TheVariants.{Mid, Inv, Pay}
use Rattle.log_model.specs.Chosen.{or_else}
use Rattle.log_model.specs.Recover.{onto, newest_onto, newest, higher, promised_in, learned_in, accepted_in, recover}
use Rattle.log_model.specs.declared.fact.Fact.{Fact as LogFact}
use Rattle.log_model.specs.declared.fact.Fact.TheVariants as logs
use Rattle.log_model.proofs.Basics.{length_push}
use Rattle.log_values.specs.declared.any_value.AnyValue.{AnyValue}
use Rattle.log_values.specs.declared.fact.Fact.{Fact}
use Rattle.log_values.specs.declared.fact.Fact.TheVariants.{Promised, Accepted, Learned, Held}
use Rattle.round_model.specs.Held.{HeldState, held_code}
use Rattle.round_model.specs.Service.{Backend}
use Rattle.round_model.specs.Shims.{new_shim}
use Rattle.round_model.specs.Tables.{tables0}
use Rattle.round_model.specs.declared.answer.Answer.{Answer}
use Rattle.tier_model.specs.Moves.{as_fact, log_facts, held_in}
use Rattle.tier_model.specs.Kinds.{kind}
use Rattle.tier_model.specs.MidRows as mids
use Rattle.tier_model.specs.BackRows as backs
use Rattle.tier_model.proofs.Facts.{log_facts-onto}
use Rattle.recovery_laws.specs.Snapshots.{AreAlike, LearnedInOrder, NoneAhead, RecoverSame}
use Rattle.recovery_laws.specs.Snapshots.{holding, held_record, held_count, log_record, snapshot_record, snapshot}
use Rattle.recovery_laws.proofs.Logs.{log_snapshot, snapshot_leaves, snapshot_log, same_log, none_past, newest_before, length_log_record}
use Rattle.recovery_laws.proofs.Codes.{code_for, held_oldest, same_answers, snapshot_codes}

-- THE FACTS OF THE LOG

log_facts-append : (fs gs : List Fact) → log_facts (fs ++ gs) ≡ log_facts fs ++ log_facts gs
log_facts-append [] gs = refl
log_facts-append (Promised b ∷ fs) gs = ap (λ z. logs.Promised b ∷ z) (log_facts-append fs gs)
log_facts-append (Accepted p b v ∷ fs) gs = ap (λ z. logs.Accepted p b v ∷ z) (log_facts-append fs gs)
log_facts-append (Learned p v ∷ fs) gs = ap (λ z. logs.Learned p v ∷ z) (log_facts-append fs gs)
log_facts-append (Held t n code ∷ fs) gs = log_facts-append fs gs

-- answers are none of them
no_log : (t : Tier) (es : List (ℕ × Answer)) (fs : List Fact) → log_facts (map (holding t) es ++ fs) ≡ log_facts fs
no_log t [] fs = refl
no_log t (e ∷ es) fs = no_log t es fs

log_facts_of : (fs : List (LogFact AnyValue)) → log_facts (map as_fact fs) ≡ fs
log_facts_of [] = refl
log_facts_of (logs.Promised b ∷ fs) = ap (λ z. logs.Promised b ∷ z) (log_facts_of fs)
log_facts_of (logs.Accepted p b v ∷ fs) = ap (λ z. logs.Accepted p b v ∷ z) (log_facts_of fs)
log_facts_of (logs.Learned p v ∷ fs) = ap (λ z. logs.Learned p v ∷ z) (log_facts_of fs)

snapshot_facts : (F : List Fact) → log_facts (snapshot F) ≡ log_snapshot (log_facts F)
snapshot_facts F =
    let log : List (LogFact AnyValue) = log_record (recover 0 (log_facts F)) in
    log_facts-onto (snapshot_record F) []
    ∙ ap (λ z. onto z []) (log_facts-append (held_record (held_in 0 0 F)) (map as_fact log)
    ∙ ap (λ z. z ++ log_facts (map as_fact log)) (none (held_in 0 0 F)) ∙ log_facts_of log)
  where
    none : (h : HeldState) → log_facts (held_record h) ≡ []
    none h =
        no_log Mid h.answers.mid (map (holding Inv) h.answers.inv ++ map (holding Pay) h.answers.pay)
        ∙ no_log Inv h.answers.inv (map (holding Pay) h.answers.pay)
        ∙ ap log_facts (sym (append-nil (map (holding Pay) h.answers.pay))) ∙ no_log Pay h.answers.pay []

-- WHAT A RESTART RECOVERS

-- The same log, and the same answers.
pub record AreSame (F G : List Fact) : Type 0 where
  pub log : (u : ℕ) → recover u (log_facts F) ≡ recover u (log_facts G)
  pub held : (u x : ℕ) → held_in u x F ≡ held_in u x G

pub snapshot_same : (F : List Fact) → AreSame (snapshot F) F
snapshot_same F = record {
  log = λ u. ap (recover u) (snapshot_facts F) ∙ snapshot_log u (log_facts F);
  held = λ u x. same_answers u x (snapshot F) F (snapshot_codes F);
}

pub alike_same : (F G : List Fact) → AreAlike F G → AreSame F G
alike_same F G a = record {
  log = λ u. same_log u (log_facts F) (log_facts G) a.promised a.learned
      (a.accepted (length (learned_in (log_facts F))) (omega arith) ∙ ap (λ vs. accepted_in (length vs) (log_facts G)) a.learned);
  held = λ u x. same_answers u x F G (λ s k. sym (held_oldest 0 0 F s k) ∙ a.codes 0 0 s k ∙ held_oldest 0 0 G s k);
}

-- a backend's node
back_recovers : {B : Type 0} (u : ℕ) (b : Backend B) (F G : List Fact) → AreSame F G → backs.recovered u b F ≡ backs.recovered u b G
back_recovers u b F G s = ap (λ log. backs.after_values b (record { log = log; state = b.opening; shim = new_shim u }) log.learned) (s.log u)

pub same_recovers : (B : Type 0) (F G : List Fact) → AreSame F G → RecoverSame B F G
same_recovers B F G s u x depth m Mid =
    ap₂ (λ log held. mids.catch_up m.programs (length log.learned)
    (record { log = log; applied = 0; tables = tables0 depth; pending = replicate 17 None; tally = []; spec = None; held = held })) (s.log u) (s.held u x)
same_recovers B F G s u x depth m Inv = back_recovers u (m.backend Inv) F G s
same_recovers B F G s u x depth m Pay = back_recovers u (m.backend Pay) F G s

pub same_snapshot : (F G : List Fact) → AreSame F G → snapshot F ≡ snapshot G
same_snapshot F G s = ap₂ (λ held log. onto (held_record held ++ map as_fact (log_record log)) []) (s.held 0 0) (s.log 0)

-- NEWER FACTS

one_newer : (f : Fact) (F G : List Fact) → AreAlike F G → AreAlike (f ∷ F) (f ∷ G)
one_newer f F G a = go f
  where
    codes : (f : Fact) (u x : ℕ) (t : Tier) (n : ℕ) → held_code (held_in u x (f ∷ F)) t n ≡ held_code (held_in u x (f ∷ G)) t n
    codes f u x t n =
        held_oldest u x (f ∷ F) t n ∙ ap (λ o. or_else o (code_for t n f)) (sym (held_oldest u x F t n) ∙ a.codes u x t n ∙ held_oldest u x G t n)
        ∙ sym (held_oldest u x (f ∷ G) t n)

    go : (f : Fact) → AreAlike (f ∷ F) (f ∷ G)
    go (Promised b) = record { promised = ap (λ c. higher c b) a.promised; learned = a.learned; accepted = a.accepted; codes = codes (Promised b) }
    go (Accepted q b v) = record {
      promised = ap (λ c. higher c b) a.promised;
      learned = a.learned;
      accepted = λ p l. ap (λ o. if q == p then Some (b, v) else o) (a.accepted p l);
      codes = codes (Accepted q b v);
    }
    go (Learned q v) = record {
      promised = a.promised;
      learned = ap (λ vs. vs ++ v ∷ []) a.learned;
      accepted = λ p l. a.accepted p (omega (arith, l, length_push (learned_in (log_facts F)) v));
      codes = codes (Learned q v);
    }
    go (Held t n code) = record { promised = a.promised; learned = a.learned; accepted = a.accepted; codes = codes (Held t n code) }

pub newer_alike : (new F G : List Fact) → AreAlike F G → AreAlike (new ++ F) (new ++ G)
newer_alike [] F G a = a
newer_alike (f ∷ fs) F G a = one_newer f (fs ++ F) (fs ++ G) (newer_alike fs F G a)

-- WHERE NOTHING WAS ACCEPTED AHEAD

pub snapshot_alike : (F : List Fact) → NoneAhead (log_facts F) → AreAlike F (snapshot F)
snapshot_alike F h =
    let L : List (LogFact AnyValue) = log_facts F in
    let s = snapshot_leaves L in
    let e : log_facts (snapshot F) ≡ log_snapshot L = snapshot_facts F in
    record {
      promised = sym (ap promised_in e ∙ s.promised);
      learned = sym (ap learned_in e ∙ s.learned);
      accepted = λ p l. at p (eq-or-lt_of_le l) ∙ sym (ap (accepted_in p) e);
      codes = λ u x t n. held_oldest u x F t n ∙ sym (snapshot_codes F t n) ∙ sym (held_oldest u x (snapshot F) t n);
    }
  where
    at : (p : ℕ) → (length (learned_in (log_facts F)) ≡ p) ⊎ (length (learned_in (log_facts F)) < p)
        → accepted_in p (log_facts F) ≡ accepted_in p (log_snapshot (log_facts F))
    at p (inl e) = subst (λ q. accepted_in q (log_facts F) ≡ accepted_in q (log_snapshot (log_facts F))) e (sym (snapshot_leaves (log_facts F)).accepted)
    at p (inr l) = none_past (log_facts F) p h l ∙ sym ((snapshot_leaves (log_facts F)).past p l)

pub newer_recovers : (B : Type 0) (new F : List Fact) → NoneAhead (log_facts F) → RecoverSame B (new ++ snapshot F) (new ++ F)
newer_recovers B new F h u x depth m t =
    let alike : AreAlike (new ++ F) (new ++ snapshot F) = newer_alike new F (snapshot F) (snapshot_alike F h) in
    sym (same_recovers B (new ++ F) (new ++ snapshot F) (alike_same (new ++ F) (new ++ snapshot F) alike) u x depth m t)

pub records_recover : (B : Type 0) (new : List (List Fact)) (F : List Fact) → NoneAhead (log_facts F)
    → RecoverSame B (newest_onto new (snapshot F)) (newest_onto new F)
records_recover B new F h u x depth m t =
    ap (kind u m depth t x).recovered (newest_before new (snapshot F)) ∙ newer_recovers B (newest new) F h u x depth m t
    ∙ ap (kind u m depth t x).recovered (sym (newest_before new F))

learned_on : (new F G : List (LogFact AnyValue)) → learned_in F ≡ learned_in G → learned_in (new ++ F) ≡ learned_in (new ++ G)
learned_on [] F G e = e
learned_on (logs.Promised b ∷ new) F G e = learned_on new F G e
learned_on (logs.Accepted p b v ∷ new) F G e = learned_on new F G e
learned_on (logs.Learned p v ∷ new) F G e = ap (λ vs. vs ++ v ∷ []) (learned_on new F G e)

-- the older facts are seen by their learned values alone
none_ahead_on : (new F G : List (LogFact AnyValue)) → learned_in F ≡ learned_in G → NoneAhead G → NoneAhead (new ++ F) → NoneAhead (new ++ G)
none_ahead_on [] F G e g h = g
none_ahead_on (logs.Promised b ∷ new) F G e g h = none_ahead_on new F G e g h
none_ahead_on (logs.Accepted p b v ∷ new) F G e g h = (subst (λ vs. p ≤ length vs) (learned_on new F G e) h.0, none_ahead_on new F G e g h.1)
none_ahead_on (logs.Learned p v ∷ new) F G e g h = none_ahead_on new F G e g h

in_order_on : (new F G : List (LogFact AnyValue)) → learned_in F ≡ learned_in G → LearnedInOrder G → LearnedInOrder (new ++ F) → LearnedInOrder (new ++ G)
in_order_on [] F G e g h = g
in_order_on (logs.Promised b ∷ new) F G e g h = in_order_on new F G e g h
in_order_on (logs.Accepted p b v ∷ new) F G e g h = in_order_on new F G e g h
in_order_on (logs.Learned p v ∷ new) F G e g h = (h.0 ∙ ap length (learned_on new F G e), in_order_on new F G e g h.1)

-- the facts of the log, where older ones are cut
cut_facts : (new F : List Fact) → log_facts (new ++ snapshot F) ≡ log_facts new ++ log_snapshot (log_facts F)
cut_facts new F = log_facts-append new (snapshot F) ∙ ap (λ z. log_facts new ++ z) (snapshot_facts F)

pub none_ahead_cut : (new F : List Fact) → NoneAhead (log_facts (new ++ F)) → NoneAhead (log_facts (new ++ snapshot F))
none_ahead_cut new F h =
    let s = snapshot_leaves (log_facts F) in
    let all : NoneAhead (log_facts new ++ log_facts F) = subst NoneAhead (log_facts-append new F) h in
    subst NoneAhead (sym (cut_facts new F)) (none_ahead_on (log_facts new) (log_facts F) (log_snapshot (log_facts F)) (sym s.learned) s.none_ahead all)

pub in_order_cut : (new F : List Fact) → LearnedInOrder (log_facts (new ++ F)) → LearnedInOrder (log_facts (new ++ snapshot F))
in_order_cut new F h =
    let s = snapshot_leaves (log_facts F) in
    let all : LearnedInOrder (log_facts new ++ log_facts F) = subst LearnedInOrder (log_facts-append new F) h in
    subst LearnedInOrder (sym (cut_facts new F)) (in_order_on (log_facts new) (log_facts F) (log_snapshot (log_facts F)) (sym s.learned) s.in_order all)

-- LENGTH

length_onto : {A : Type 0} (xs ys : List A) → length (onto xs ys) ≡ length xs + length ys
length_onto [] ys = omega arith
length_onto (x ∷ xs) ys = omega (arith, length_onto xs (x ∷ ys))

length_held : (h : HeldState) → length (held_record h) ≡ held_count h
length_held h =
    omega (
      arith,
      length-append (map (holding Mid) h.answers.mid) (map (holding Inv) h.answers.inv ++ map (holding Pay) h.answers.pay),
      length-append (map (holding Inv) h.answers.inv) (map (holding Pay) h.answers.pay),
      length-map h.answers.mid (holding Mid),
      length-map h.answers.inv (holding Inv),
      length-map h.answers.pay (holding Pay),
    )

pub snapshot_short : (F : List Fact) → length (snapshot F) ≤ length (learned_in (log_facts F)) + held_count (held_in 0 0 F) + 2
snapshot_short F =
    omega (
      arith,
      length_onto (snapshot_record F) [],
      length-append (held_record (held_in 0 0 F)) (map as_fact (log_record (recover 0 (log_facts F)))),
      length_held (held_in 0 0 F),
      length-map (log_record (recover 0 (log_facts F))) as_fact,
      length_log_record (recover 0 (log_facts F)),
    )
