-- The tables of the rounds: the clients, the requests that wait for their calls, the next numbers of calls. The job of a
-- round, and what it makes of the tables.
use Rattle.std.specs.Prelude.{ℕ, zero, suc, Bool, false, ◌&&◌, not, ◌==◌, nat_le, List, [], ◌∷◌, ◌++◌, map, replicate, take, Option, Some, None, if◌then◌else◌}
use Rattle.aeg_base.specs.Store.{Store, empty}
use Rattle.aeg_base.specs.declared.names.ReqId.{ReqId}
use Rattle.aeg_base.specs.declared.names.Tier.{Tier}
use Rattle.svc_api.specs.declared.action.Ending.{Ending}
use Rattle.svc_api.specs.declared.action.Ending.TheVariants.{Reply, Call}
use Rattle.exec_model.specs.declared.job.Seg.{Seg}
use Rattle.log_values.specs.declared.entry.Entry.{Entry}
use Rattle.round_model.specs.Lists.{is_some, and_then, at, put_at, concat, head_of, tail_of, OfTiers, of_tier, with_tier}
use Rattle.svc_api.specs.Orders.{mem}
use Rattle.round_model.specs.Service.{Programs, is_request, Finish}

-- a request that waits for the answer of its call, and the stage at which it goes on
pub record Parked : Type 0 where
  pub client : ℕ
  pub seq : ℕ
  pub body : List ℕ
  pub stage : ℕ
  pub tier : Tier
  pub num : ℕ
  pub text : List ℕ

-- The last number and the kept reply of each client; the requests parked in the last rounds, as many as the depth, the
-- oldest round first; and the next number of a call to each tier, where none goes to the middle one.
pub record Tables : Type 0 where
  pub store : Store
  pub last : List ℕ
  pub kept : List (Option (List ℕ))
  pub queue : List (List Parked)
  pub next : OfTiers ℕ

abbrev pub tables0 : ℕ → Tables
tables0 depth = record {
  store = empty;
  last = replicate 17 0;
  kept = replicate 17 None;
  queue = replicate depth [];
  next = record { mid = 1; inv = 1; pay = 1 };
}

abbrev pub last_of : List ℕ → ℕ → ℕ
last_of last client = at 0 last client

abbrev pub kept_of : List (Option (List ℕ)) → ℕ → Option (List ℕ)
kept_of kept client = at None kept client

-- FRESH ENTRIES AND BATCHES

abbrev pub parked_of : ℕ → List Parked → Option Parked
parked_of c [] = None
parked_of c (p ∷ ps) = if p.client == c then Some p else parked_of c ps

-- the client has a request in progress
abbrev pub is_busy : Tables → ℕ → Bool
is_busy T c = is_some (parked_of c (concat T.queue))

abbrev pub who_of : Entry → ReqId
who_of e = record { client = e.client; seq = e.seq }

-- clients are numbered from 1 to 16, and their requests to 65,536
abbrev pub in_range : Entry → Bool
in_range e = (nat_le 1 e.client && nat_le e.client 16) && nat_le e.seq 65536

-- it is a request, the client's next, and the client has none in progress
abbrev pub is_fresh : Programs → Tables → Entry → Bool
is_fresh m T e = in_range e && (is_request m (who_of e) e.body && ((e.seq == suc (last_of T.last e.client)) && not (is_busy T e.client)))

-- of a batch; only the first entry of each client is looked at
abbrev pub fresh_of : Programs → Tables → List ℕ → List Entry → List Entry
fresh_of m T seen [] = []
fresh_of m T seen (e ∷ es) =
    if mem e.client seen then fresh_of m T seen es
    else if is_fresh m T e then e ∷ fresh_of m T (e.client ∷ seen) es
    else fresh_of m T (e.client ∷ seen) es

abbrev pub fresh_entries : Programs → Tables → List Entry → List Entry
fresh_entries m T batch = fresh_of m T [] batch

abbrev pub pending_of : List (Option Entry) → ℕ → Option Entry
pending_of pending client = at None pending client

abbrev pub if_fresh : Programs → Tables → Option Entry → List Entry
if_fresh m T None = []
if_fresh m T (Some e) = if is_fresh m T e then e ∷ [] else []

-- the fresh ones among the pending entries of the clients up to this one
abbrev pub fresh_pending : Programs → Tables → List (Option Entry) → ℕ → List Entry
fresh_pending m T pending zero = []
fresh_pending m T pending (suc c) = fresh_pending m T pending c ++ if_fresh m T (pending_of pending (suc c))

-- those of the lowest eight clients that have one
abbrev pub batch_of : Programs → Tables → List (Option Entry) → List Entry
batch_of m T pending = take 8 (fresh_pending m T pending 16)

-- what is left of a pending entry, once the client's last number is this one
abbrev pub not_done : ℕ → Option Entry → Option Entry
not_done last None = None
not_done last (Some e) = if nat_le e.seq last then None else Some e

-- pending entries up to the clients' last numbers are dropped
abbrev pub drop_done : List ℕ → List (Option Entry) → List (Option Entry)
drop_done last [] = []
drop_done [] (o ∷ pending) = not_done 0 o ∷ drop_done [] pending
drop_done (n ∷ last) (o ∷ pending) = not_done n o ∷ drop_done last pending

-- THE JOB OF A ROUND

-- the number of a call of a tier
pub record Number : Type 0 where
  pub tier : Tier
  pub num : ℕ

-- a segment of a job, whose answer is that of the call, or none where it starts its request
pub record Want : Type 0 where
  pub client : ℕ
  pub seq : ℕ
  pub body : List ℕ
  pub stage : ℕ
  pub call : Option Number

abbrev pub resumed : Parked → Want
resumed p = record { client = p.client; seq = p.seq; body = p.body; stage = p.stage; call = Some (record { tier = p.tier; num = p.num }) }

abbrev pub started : Entry → Want
started e = record { client = e.client; seq = e.seq; body = e.body; stage = 0; call = None }

-- the requests that were parked so many rounds ago, then the fresh entries
abbrev pub wants : Programs → Tables → List Entry → List Want
wants m T batch = map resumed (head_of T.queue) ++ map started (fresh_entries m T batch)

-- the code of each call, where there is one
abbrev pub Codes : Type 0
Codes = Tier → ℕ → Option ℕ

abbrev pub as_seg : Want → Option ℕ → Seg
as_seg w answer = record { who = record { client = w.client; seq = w.seq }; body = w.body; stage = w.stage; answer = answer }

abbrev pub answered : Codes → Want → Option Number → Option Seg
answered A w None = Some (as_seg w None)
answered A w (Some k) = and_then (A k.tier k.num) (λ code. Some (as_seg w (Some code)))

-- the job, where each answer is there
abbrev pub job_of : Codes → List Want → Option (List Seg)
job_of A [] = Some []
job_of A (w ∷ ws) = and_then (answered A w w.call) (λ j. and_then (job_of A ws) (λ js. Some (j ∷ js)))

abbrev pub is_missing : Codes → Option Number → Bool
is_missing A None = false
is_missing A (Some k) = not (is_some (A k.tier k.num))

-- the call of the first segment whose answer isn't there
abbrev pub first_missing : Codes → List Want → Option Number
first_missing A [] = None
first_missing A (w ∷ ws) = if is_missing A w.call then w.call else first_missing A ws

-- THE TABLES CHANGE, IN JOB ORDER

abbrev pub bump : OfTiers ℕ → Tier → OfTiers ℕ
bump next t = with_tier next t (suc (of_tier next t))

-- the number of each segment's call, 0 where it replies
abbrev pub numbers : OfTiers ℕ → List Ending → List ℕ
numbers next [] = []
numbers next (Reply text ∷ es) = 0 ∷ numbers next es
numbers next (Call t stage text ∷ es) = of_tier next t ∷ numbers (bump next t) es

-- the requests whose segments called
abbrev pub parks : OfTiers ℕ → List Want → List Ending → List Parked
parks next [] es = []
parks next (w ∷ ws) [] = []
parks next (w ∷ ws) (Reply text ∷ es) = parks next ws es
parks next (w ∷ ws) (Call t stage text ∷ es) = record {
  client = w.client;
  seq = w.seq;
  body = w.body;
  stage = stage;
  tier = t;
  num = of_tier next t;
  text = text;
} ∷ parks (bump next t) ws es

abbrev pub next_after : OfTiers ℕ → List Ending → OfTiers ℕ
next_after next [] = next
next_after next (Reply text ∷ es) = next_after next es
next_after next (Call t stage text ∷ es) = next_after (bump next t) es

abbrev pub last_after : List Want → List ℕ → List ℕ
last_after [] last = last
last_after (w ∷ ws) last = last_after ws (put_at 0 last w.client w.seq)

abbrev pub kept_by : Ending → Option (List ℕ)
kept_by (Reply text) = Some text
kept_by (Call t stage text) = None

abbrev pub kept_after : List Want → List Ending → List (Option (List ℕ)) → List (Option (List ℕ))
kept_after [] es kept = kept
kept_after (w ∷ ws) [] kept = kept
kept_after (w ∷ ws) (e ∷ es) kept = kept_after ws es (put_at None kept w.client (kept_by e))

-- the tables after a round with these segments, which came to this
abbrev pub settled : Tables → List Want → Finish → Tables
settled T ws o = record {
  store = o.store;
  last = last_after ws T.last;
  kept = kept_after ws o.ends T.kept;
  queue = tail_of T.queue ++ parks T.next ws o.ends ∷ [];
  next = next_after T.next o.ends;
}
