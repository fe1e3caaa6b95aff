-- The rows of a middle node, and what a restart restores. The cases of a row are tried in the order in which they stand.
use Rattle.std.specs.Prelude.{ℕ, zero, suc, ◌+◌, ◌*◌, Bool, false, ◌&&◌, ◌||◌, not, ◌==◌, nat_lt, List, [], ◌∷◌, ◌++◌}
use Rattle.std.specs.Prelude.{length, replicate, Option, Some, None, if◌then◌else◌}
use Rattle.aeg_base.specs.declared.names.Tier.{Tier}
use Rattle.aeg_base.specs.declared.names.Tier.TheVariants as tiers
use Rattle.aeg_base.specs.declared.names.End.{End}
use Rattle.server_model.specs.Server.{same_tier}
use Rattle.exec_model.specs.Jobs.{Run, run_job}
use Rattle.exec_model.specs.Outcomes as changes
use Rattle.log_model.specs.declared.turn.Offering.{Offering}
use Rattle.log_model.specs.declared.turn.Offering.TheVariants.{NotLeader, NoPromises, InFlight, LogFull, Taken, Free}
use Rattle.log_model.specs.Log.{is, nobody, open_at}
use Rattle.log_model.specs.Rows.{lead, offer, wants as log_wants, on_msg}
use Rattle.log_model.specs.Recover.{recover}
use Rattle.log_values.specs.declared.any_value.AnyValue.{AnyValue}
use Rattle.log_values.specs.declared.any_value.AnyValue.TheVariants.{Mid as InMid}
use Rattle.log_values.specs.declared.mid_value.MidValue.TheVariants.{Batch, Verdict as Decided}
use Rattle.log_values.specs.declared.entry.Entry.{Entry}
use Rattle.log_values.specs.declared.fact.Fact.{Fact}
use Rattle.log_values.specs.declared.fact.Fact.TheVariants.{Held}
use Rattle.frames.specs.declared.message.Msg.{Msg}
use Rattle.frames.specs.declared.message.Msg.TheVariants as msgs
use Rattle.tier_model.specs.declared.turn.Turn.TheVariants.{Did, Ran}
use Rattle.tier_model.specs.declared.turn.RunNote.{RunNote}
use Rattle.tier_model.specs.declared.turn.Idle.{Idle}
use Rattle.tier_model.specs.declared.turn.Idle.TheVariants as why
use Rattle.round_model.specs.Lists.{is_some, and_then, is_nil, put_at, concat, each, odd, half}
use Rattle.round_model.specs.Service.{Programs, is_request}
use Rattle.round_model.specs.Tables.{Parked, tables0, last_of, kept_of, fresh_pending, pending_of, batch_of, wants, job_of, first_missing}
use Rattle.round_model.specs.After.{batch_at, verdict_at}
use Rattle.round_model.specs.Numbered.{put}
use Rattle.round_model.specs.Verdicts.{Claims, Vote, claim, claim_of, with_claim, claims_in, how_many, verdict}
use Rattle.round_model.specs.Held.{HeldState, held_code, is_noted, takes, hears, usable, floor, highest}
use Rattle.tier_model.specs.Moves.{node, tier_of, is_client, is_node_of, Packet, Move, idles, drops, says, becomes, log_packets, asks, log_facts, held_in}
use Rattle.frames.specs.Headers.{end_index}
use Rattle.tier_model.specs.Mid.{Mid, in_log, ready, apply, applies, reply_to, calls_to, missing}

-- REQUESTS

abbrev pub has_seq : Option Entry → ℕ → Bool
has_seq None s = false
has_seq (Some e) s = e.seq == s

abbrev pub pends : Mid → Entry → Mid
pends σ e = record σ { pending = put_at None σ.pending e.client (Some e) }

abbrev pub tells_again : ℕ → ℕ → ℕ → Option (List ℕ) → List Packet
tells_again x c s None = []
tells_again x c s (Some text) = reply_to x c s text ∷ []

-- The client's last request has its reply told again. One that isn't the next, or that is pending, is passed over.
abbrev pub on_request : ℕ → Mid → ℕ → ℕ → List ℕ → Move Mid
on_request x σ c s body =
    if (s == last_of σ.tables.last c) && is_some (kept_of σ.tables.kept c) then says σ (tells_again x c s (kept_of σ.tables.kept c))
    else if not (s == suc (last_of σ.tables.last c)) || has_seq (pending_of σ.pending c) s then idles σ why.Nothing
    else becomes (pends σ (record { client = c; seq = s; body = body }))

-- TOKENS

-- the vote is in
abbrev pub is_in : List (ℕ × Claims) → Vote → Bool
is_in tally v = is_some (claim_of (claims_in tally v.round) v.from)

abbrev pub with_vote : List (ℕ × Claims) → Vote → List (ℕ × Claims)
with_vote tally v = put tally v.round (with_claim (claims_in tally v.round) v.from (claim v))

abbrev pub tallied : Mid → Vote → Mid
tallied σ v = record σ { tally = with_vote σ.tally v }

-- a token counts once, and until its round's verdict is learned
abbrev pub on_token : Mid → Vote → Move Mid
on_token σ v =
    if nat_lt (2 * v.round + 1) (open_at σ.log) || is_in σ.tally v then idles σ why.Nothing
    else becomes (tallied σ v)

-- ANSWERS

abbrev pub holds : Mid → HeldState → Mid
holds σ held = record σ { held = held }

abbrev pub have_to : ℕ → Tier → ℕ → ℕ → ℕ → Packet
have_to x t n code y = record { from = node tiers.Mid x; to = node tiers.Mid y; message = msgs.Have t n code }

-- the others are told that the answer is held
abbrev pub haves : ℕ → ℕ → Tier → ℕ → ℕ → List Packet
haves u x t n code = each (2 * u + 1) (is x) (have_to x t n code)

-- an answer that wasn't held before
abbrev pub takes_answer : ℕ → ℕ → Mid → HeldState → Tier → ℕ → ℕ → Move Mid
takes_answer u x σ held t n code = record {
  state = holds σ held;
  facts = Held t n code ∷ [];
  sends = haves u x t n code;
  answer = Did;
}

abbrev pub on_answer : ℕ → ℕ → Mid → Tier → ℕ → ℕ → Move Mid
on_answer u x σ t n code = if is_some (held_code σ.held t n) then idles σ why.Nothing else takes_answer u x σ (takes σ.held t n code) t n code

-- each node's first Have of an answer is noted; one of an answer that isn't held brings it, too
abbrev pub on_have : ℕ → ℕ → Mid → ℕ → Tier → ℕ → ℕ → Move Mid
on_have u x σ s t n code =
    if is_noted σ.held s t n then idles σ why.Nothing
    else if is_some (held_code σ.held t n) then becomes (holds σ (hears σ.held s t n code))
    else takes_answer u x σ (hears σ.held s t n code) t n code

-- FRAMES

-- a node of a tier that is called
abbrev pub is_backend_node : ℕ → End → Bool
is_backend_node u from = is_node_of u tiers.Inv from || is_node_of u tiers.Pay from

-- a kind that it doesn't take, or not from there, is refused by rule 7, and a request that is none by rule 8
abbrev pub on_frame : ℕ → Programs → ℕ → Mid → End → Msg → Move Mid
on_frame u m x σ from (msgs.Log p) = if is_node_of u tiers.Mid from then in_log u m x σ (on_msg u σ.log (end_index from) p) else drops σ 7
on_frame u m x σ from (msgs.Request seq body) =
    if not (is_client from) then drops σ 7
    else if not (is_request m (record { client = end_index from; seq = seq }) body) then drops σ 8
    else on_request x σ (end_index from) seq body
on_frame u m x σ from (msgs.Token r token order) =
    if is_node_of u tiers.Mid from then on_token σ (record { round = r; from = end_index from; token = token; order = order }) else drops σ 7
on_frame u m x σ from (msgs.Answer n code) = if is_backend_node u from then on_answer u x σ (tier_of from) n code else drops σ 7
on_frame u m x σ from (msgs.Have t n code) = if is_node_of u tiers.Mid from then on_have u x σ (end_index from) t n code else drops σ 7
on_frame u m x σ from (msgs.Reply who body) = drops σ 7
on_frame u m x σ from (msgs.Call n body) = drops σ 7
on_frame u m x σ from (msgs.Settle g) = drops σ 7

-- LEADING AND OFFERING

abbrev pub leads : ℕ → Programs → ℕ → Mid → Move Mid
leads u m x σ = in_log u m x σ (lead u x σ.log)

-- a batch is offered once the rounds before are applied, where an entry is fresh or a request is parked
abbrev pub own_batch : Programs → Mid → ℕ → Option AnyValue
own_batch m σ r =
    if nat_lt σ.applied r then None
    else if is_nil (fresh_pending m σ.tables σ.pending 16) && is_nil (concat σ.tables.queue) then None
    else Some (InMid (Batch (batch_of m σ.tables σ.pending)))

abbrev pub own_verdict : ℕ → Mid → ℕ → Option AnyValue
own_verdict u σ r = and_then (verdict u (claims_in σ.tally r)) (λ v. Some (InMid (Decided v)))

-- the node's own value for the first open position
abbrev pub own_value : ℕ → Programs → Mid → Option AnyValue
own_value u m σ = if odd (open_at σ.log) then own_verdict u σ (half (open_at σ.log)) else own_batch m σ (half (open_at σ.log))

-- why there is none
abbrev pub own_cause : ℕ → Mid → Idle
own_cause u σ =
    if odd (open_at σ.log) then why.NoTokens (how_many u (claims_in σ.tally (half (open_at σ.log))))
    else if nat_lt σ.applied (half (open_at σ.log)) then why.Unapplied σ.applied
    else why.Nothing

abbrev pub offers_as : ℕ → Programs → ℕ → Mid → Offering → Move Mid
offers_as u m x σ NotLeader = idles σ why.NotLeader
offers_as u m x σ (NoPromises have) = idles σ (why.NoPromises have)
offers_as u m x σ (InFlight p) = idles σ (why.InFlight p)
offers_as u m x σ LogFull = idles σ why.LogFull
offers_as u m x σ Taken = in_log u m x σ (offer u x σ.log (own_value u m σ))
offers_as u m x σ (Free p) = if is_some (own_value u m σ) then in_log u m x σ (offer u x σ.log (own_value u m σ)) else idles σ (own_cause u σ)

abbrev pub offers : ℕ → Programs → ℕ → Mid → Move Mid
offers u m x σ = offers_as u m x σ (log_wants u σ.log)

-- WORK

-- the own vote joins the tally where none of its own is in
abbrev pub with_own : List (ℕ × Claims) → Vote → List (ℕ × Claims)
with_own tally v = if is_in tally v then tally else with_vote tally v

-- a run of a job: the vote, and what is told of it
pub record Running : Type 0 where
  pub vote : Vote
  pub note : RunNote

abbrev pub running : Programs → ℕ → Mid → Run → Running
running m x σ ran = record {
  vote = record { round = σ.applied; from = x; token = m.spell (changes.outcome σ.tables.store ran.store ran.ends); order = ran.order };
  note = record { round = σ.applied; steps = ran.steps; order = ran.order; redo = ran.redo };
}

abbrev pub token_to : ℕ → Vote → ℕ → Packet
token_to x v y = record { from = node tiers.Mid x; to = node tiers.Mid y; message = msgs.Token v.round v.token v.order }

abbrev pub runs : ℕ → ℕ → Mid → Running → Move Mid
runs u x σ r = record {
  state = record σ { tally = with_own σ.tally r.vote; spec = Some r.vote };
  facts = [];
  sends = each (2 * u + 1) (is x) (token_to x r.vote);
  answer = Ran r.note;
}

-- the run of the next round by a schedule, where it can be run
abbrev pub to_run : ℕ → Programs → ℕ → Mid → List ℕ → Option Running
to_run u m x σ schedule =
    if is_some σ.spec then None
    else and_then (batch_at σ.log.learned σ.applied)
    (λ es. and_then (job_of (usable σ.held) (wants m σ.tables es))
    (λ J. Some (running m x σ (run_job m.begins J σ.tables.store schedule))))

-- why it can't
abbrev pub not_run : ℕ → Programs → ℕ → Mid → Option (List Entry) → Idle
not_run u m x σ None = why.NoBatch
not_run u m x σ (Some es) = if is_some σ.spec then why.Nothing else missing (first_missing (usable σ.held) (wants m σ.tables es))

abbrev pub runs_or_not : ℕ → Programs → ℕ → Mid → Option Running → Move Mid
runs_or_not u m x σ None = idles σ (not_run u m x σ (batch_at σ.log.learned σ.applied))
runs_or_not u m x σ (Some r) = runs u x σ r

-- the next round is applied where its verdict is learned, and else is run
abbrev pub work : ℕ → Programs → ℕ → Mid → List ℕ → Move Mid
work u m x σ schedule =
    if is_some (verdict_at σ.log.learned σ.applied) then applies u m x σ (ready m σ)
    else runs_or_not u m x σ (to_run u m x σ schedule)

-- the run that a work makes
abbrev pub work_run : ℕ → Programs → ℕ → Mid → List ℕ → Option Running
work_run u m x σ schedule = if is_some (verdict_at σ.log.learned σ.applied) then None else to_run u m x σ schedule

-- RETRY

-- the parked calls of the tier whose answers aren't held
abbrev pub open_calls : HeldState → Tier → List Parked → List Parked
open_calls held t [] = []
open_calls held t (p ∷ ps) = if same_tier p.tier t && not (is_some (held_code held p.tier p.num)) then p ∷ open_calls held t ps else open_calls held t ps

abbrev pub put_parked : Parked → List Parked → List Parked
put_parked p [] = p ∷ []
put_parked p (q ∷ qs) = if nat_lt q.num p.num then q ∷ put_parked p qs else p ∷ q ∷ qs

-- by ascending number
abbrev pub by_number : List Parked → List Parked
by_number [] = []
by_number (p ∷ ps) = put_parked p (by_number ps)

abbrev pub calls_again : ℕ → ℕ → List Parked → List Packet
calls_again u x [] = []
calls_again u x (p ∷ ps) = calls_to u x p.tier p.num p.text ++ calls_again u x ps

-- the others are told again of these answers of the tier, by number
abbrev pub haves_again : ℕ → ℕ → Tier → List (ℕ × ℕ) → List Packet
haves_again u x t [] = []
haves_again u x t (e ∷ es) = haves u x t e.0 e.1 ++ haves_again u x t es

abbrev pub settle_at : ℕ → Tier → ℕ → ℕ → Packet
settle_at x t g y = record { from = node tiers.Mid x; to = node t y; message = msgs.Settle g }

abbrev pub settle_to : ℕ → ℕ → Tier → ℕ → List Packet
settle_to u x t g = if nat_lt 1 g then each (2 * u + 1) nobody (settle_at x t g) else []

-- what a retry sends besides its Asks: the calls, the Haves and the floors
abbrev pub again : ℕ → ℕ → Mid → List Packet
again u x σ = calls_again u x (by_number (open_calls σ.held tiers.Inv (concat σ.tables.queue)))
    ++ (calls_again u x (by_number (open_calls σ.held tiers.Pay (concat σ.tables.queue)))
    ++ (haves_again u x tiers.Inv (highest σ.held tiers.Inv) ++ (haves_again u x tiers.Pay (highest σ.held tiers.Pay)
    ++ (settle_to u x tiers.Inv (floor σ.held tiers.Inv) ++ settle_to u x tiers.Pay (floor σ.held tiers.Pay)))))

abbrev pub retry : ℕ → ℕ → Mid → Move Mid
retry u x σ = says σ (log_packets tiers.Mid x (asks u x (open_at σ.log)) ++ again u x σ)

-- RESTART

-- rounds are applied while they can be
abbrev pub catch_up : Programs → ℕ → Mid → Mid
catch_up m zero σ = σ
catch_up m (suc n) σ = elim (ready m σ) [ None ↦ σ | Some R ↦ catch_up m n (apply σ R) ]

-- what the facts restore before that: log and held answers. The newest fact stands in front.
abbrev pub bare : ℕ → ℕ → ℕ → List Fact → Mid
bare u depth x facts = record {
  log = recover u (log_facts facts);
  applied = 0;
  tables = tables0 depth;
  pending = replicate 17 None;
  tally = [];
  spec = None;
  held = held_in u x facts;
}

abbrev pub recovered : ℕ → Programs → ℕ → ℕ → List Fact → Mid
recovered u m depth x facts = catch_up m (length (recover u (log_facts facts)).learned) (bare u depth x facts)
