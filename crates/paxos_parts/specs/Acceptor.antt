-- What an acceptor answers and keeps.
use Rattle.std.specs.Prelude.{ℕ, ◌==◌, if◌then◌else◌, Option, Some, None}
use Rattle.aeg_base.specs.Ballots.{no_ballot, is_below, is_at_most}
use Rattle.aeg_base.specs.declared.names.Ballot.{Ballot}
use Rattle.log_model.specs.Log.{has_ballot}
use Rattle.paxos_parts.specs.declared.vote.Vote.{Vote}
use Rattle.paxos_parts.specs.declared.answers.Prepared.{Prepared}
use Rattle.paxos_parts.specs.declared.answers.Prepared.TheVariants.{Promised, Stale}
use Rattle.paxos_parts.specs.declared.answers.Acceptance.{Acceptance}
use Rattle.paxos_parts.specs.declared.answers.Acceptance.TheVariants.{Accepted, Again, Stale as IsStale}

-- the promised ballot, and what was last accepted
pub record AcceptorState (V : Type 0) : Type 0 where
  pub promised : Ballot
  pub vote : Option (Vote V)

-- nothing is promised or accepted
abbrev pub no_promise : {V : Type 0} → AcceptorState V
no_promise = record { promised = no_ballot; vote = None }

-- what was accepted at p
abbrev pub voted_at : {V : Type 0} → Option (Vote V) → ℕ → Option (Ballot × V)
voted_at None p = None
voted_at (Some vote) p = if vote.at == p then Some (vote.ballot, vote.value) else None

-- the answer to Prepare(b, p)
abbrev pub prepared : {V : Type 0} → AcceptorState V → Ballot → ℕ → Prepared V
prepared s b p = if is_at_most b s.promised then Stale s.promised else Promised (voted_at s.vote p)

-- b is promised
abbrev pub raised : {V : Type 0} → AcceptorState V → Ballot → AcceptorState V
raised s b = record { promised = b; vote = s.vote }

-- the acceptor after Prepare(b, p)
abbrev pub after_prepare : {V : Type 0} → AcceptorState V → Ballot → AcceptorState V
after_prepare s b = if is_at_most b s.promised then s else raised s b

-- the answer to Accept(b, p, v)
abbrev pub weighed : {V : Type 0} → AcceptorState V → Ballot → ℕ → Acceptance
weighed s b p = if is_below b s.promised then IsStale s.promised else if has_ballot b (voted_at s.vote p) then Again else Accepted

-- v is accepted at p with b
abbrev pub voted : {V : Type 0} → Ballot → ℕ → V → AcceptorState V
voted b p v = record { promised = b; vote = Some (record { at = p; ballot = b; value = v }) }

-- the acceptor after Accept(b, p, v)
abbrev pub after_accept : {V : Type 0} → AcceptorState V → Ballot → ℕ → V → AcceptorState V
after_accept s b p v = if is_below b s.promised then s else if has_ballot b (voted_at s.vote p) then s else voted b p v
