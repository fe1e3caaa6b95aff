-- What a client's request does to what a middle node keeps.
use Rattle.std.proofs.Common.{◌≡◌, ℕ, suc, ◌==◌, Bool, true, false, cond, List, [], refl, sym, ap, ◌∙◌, subst, arith, Option, Some, None, Ok, append-nil}
use Rattle.std.specs.Prelude.{◌&&◌, ◌||◌, not, if◌then◌else◌, IfSome}
use Rattle.std.proofs.lemmas.Bool.Decides.{nat_tests}
use Rattle.aeg_base.specs.declared.names.End.{End}
use Rattle.aeg_base.specs.declared.names.ReqId.{ReqId}
use Rattle.batcher.specs.Clients.{Agrees, ClientTable}
use Rattle.batcher.specs.Waiting.{entry_of}
use Rattle.log_values.specs.declared.entry.Entry.{Entry}
use Rattle.log_values.specs.Fields.{IsClient, IsSeq, IsText}
use Rattle.round_model.specs.Lists.{is_some, put_at}
use Rattle.round_model.specs.Service.{Programs}
use Rattle.round_model.specs.Tables.{kept_of, last_of, pending_of}
use Rattle.tier_model.specs.declared.turn.Idle.TheVariants as why
use Rattle.tier_model.specs.declared.turn.Turn.TheVariants as answers
use Rattle.tier_model.specs.Moves.{Move, becomes, idles, says}
use Rattle.tier_model.specs.Mid.{Mid}
use Rattle.tier_model.specs.MidRows.{has_seq, on_request, pends, tells_again}
use Rattle.node_log.specs.declared.decided.Decided.{Decided}
use Rattle.node_log.specs.declared.member.Member.{Member}
use Rattle.node_log.specs.declared.working.Working.{Working}
use Rattle.row_laws.specs.Mids.{ArePendingIn}
use Rattle.row_laws.proofs.Lists.{at_in}
use Rattle.row_laws.proofs.MidParts.{pending_in}
use Rattle.mid_rounds.specs.declared.keeping.Keeping.{Keeping}
use Rattle.mid_rounds.specs.Deciding.{DecidesMove, IsInRange, mid_in}
use Rattle.mid_rounds.proofs.DecidedMoves.{without_facts}

-- THE ROW

-- the client's next number isn't its last
not_last : (s n : ℕ) → (s == suc n) ≡ true → (s == n) ≡ false
not_last s n e = grind (arith, nat_tests)

both_true : (a b : Bool) → (a && b) ≡ true → (a ≡ true) × (b ≡ true)
both_true true true e = (refl, refl)
both_true true false e = absurd cc
both_true false b e = absurd cc

not_true : (b : Bool) → not b ≡ true → b ≡ false
not_true true e = absurd cc
not_true false e = refl

-- the client's next request, which doesn't wait yet, waits from now on
row_is : (x : ℕ) (σ : Mid) (c s : ℕ) (body : List ℕ) → (s == suc (last_of σ.tables.last c)) ≡ true → has_seq (pending_of σ.pending c) s ≡ false
    → on_request x σ c s body ≡ becomes (pends σ (record { client = c; seq = s; body = body }))
row_is x σ c s body e f =
    ap (λ (b : Bool). cond (b && is_some (kept_of σ.tables.kept c)) (says σ (tells_again x c s (kept_of σ.tables.kept c))) other)
    (not_last s (last_of σ.tables.last c) e)
    ∙ ap (λ (b : Bool). cond (not b || has_seq (pending_of σ.pending c) s) (idles σ why.Nothing) waiting) e
    ∙ ap (λ (b : Bool). cond b (idles σ why.Nothing) waiting) f
  where
    waiting : Move Mid
    waiting = becomes (pends σ (record { client = c; seq = s; body = body }))

    other : Move Mid
    other = cond (not (s == suc (last_of σ.tables.last c)) || has_seq (pending_of σ.pending c) s) (idles σ why.Nothing) waiting

-- WHAT IS KEPT

-- with other requests that wait
abbrev pub with_pending : Working Keeping → List (Option Entry) → Working Keeping
with_pending w pending = record {
  log = w.log;
  journal = w.journal;
  rest = record { rounds = w.rest.rounds; pending = pending; tallies = w.rest.tallies; held = w.rest.held };
}

module _ (p : Programs) (m : Member) (old : Working Keeping) where
  abbrev σ : Mid
  σ = mid_in m old

  pending_range : (pending : List (Option Entry)) → IsInRange p m old → ArePendingIn pending → IsInRange p m (with_pending old pending)
  pending_range pending range k = record {
    log = range.log;
    kept = record {
      depth = range.kept.depth;
      state = record {
        log = range.kept.state.log;
        applied = range.kept.state.applied;
        tables = range.kept.state.tables;
        pending = k;
        tally = range.kept.state.tally;
        spec = range.kept.state.spec;
        held = range.kept.state.held;
      };
      tallies = range.kept.tallies;
    };
  }

  -- the reply that is kept has a frame
  pub kept_text : (table : ClientTable) (who : ReqId) (text : List ℕ) → IsInRange p m old → Agrees table old.rest.rounds.tables
      → Some text ≡ (if who.seq == last_of table.last who.client then kept_of table.kept who.client else None) → IsText text
  kept_text table who text range agrees e = go (who.seq == last_of table.last who.client) e
    where
      fits : IfSome (kept_of table.kept who.client) IsText
      fits = subst (λ (z : List (Option (List ℕ))). IfSome (kept_of z who.client) IsText) agrees.kept
          (at_in (λ (o : Option (List ℕ)). IfSome o IsText) old.rest.rounds.tables.kept who.client tt range.kept.state.tables.kept)

      go : (b : Bool) → Some text ≡ cond b (kept_of table.kept who.client) None → IsText text
      go true f = subst (λ (o : Option (List ℕ)). IfSome o IsText) (sym f) fits
      go false f = absurd cc

  -- the client's next request waits from now on
  pub waits : (table : ClientTable) (who : ReqId) (text body : List ℕ) (pending : List (Option Entry)) (before : List (End × List ℕ)) (d : Decided)
      → IsInRange p m old → IsClient who.client → IsSeq who.seq → IsText text → Agrees table old.rest.rounds.tables
      → ((who.seq == suc (last_of table.last who.client)) && not (has_seq (pending_of old.rest.pending who.client) who.seq)) ≡ true
      → body ≡ text → pending ≡ put_at None old.rest.pending who.client (Some (entry_of who body)) → d.facts.items ≡ [] → d.answer ≡ answers.Did
      → DecidesMove p m (on_request m.me.index (mid_in m old) who.client who.seq text) old (with_pending old pending) before before (Ok d)
  waits table who text body pending before d range client number fits agrees e same put none did =
      let new = both_true (who.seq == suc (last_of table.last who.client)) (not (has_seq (pending_of old.rest.pending who.client) who.seq)) e in
      let entry : Entry = entry_of who text in
      let is : pending ≡ put_at None old.rest.pending who.client (Some entry) =
      put ∙ ap (λ (z : List ℕ). put_at None old.rest.pending who.client (Some (entry_of who z))) same in
      subst (λ (move : Move Mid). DecidesMove p m move old (with_pending old pending) before before (Ok d))
      (sym (row_is m.me.index σ who.client who.seq text
      (ap (λ (z : List ℕ). who.seq == suc (last_of z who.client)) agrees.last ∙ new.0)
      (not_true (has_seq (pending_of old.rest.pending who.client) who.seq) new.1)))
      (without_facts p m (becomes (pends σ entry)) old (with_pending old pending) before before d none refl did
      (ap (λ (z : List (Option Entry)). mid_in m (with_pending old z)) is) (sym (append-nil before)) refl
      (pending_range pending range
      (subst ArePendingIn (sym is) (pending_in old.rest.pending entry range.kept.state.pending (record { client = client; seq = number; body = fits })))))
