-- The one server with look-up functions in place of its lists: what it has is easier to compare after other steps.
use Rattle.std.specs.Prelude.{ℕ, suc, not, ◌==◌, nat_lt, List, [], ◌∷◌, Option, Some, None, if◌then◌else◌}
use Rattle.aeg_base.specs.Store.{Store, empty}
use Rattle.aeg_base.specs.declared.names.Tier.{Tier}
use Rattle.aeg_base.specs.declared.names.Tier.TheVariants.{Mid}
use Rattle.svc_api.specs.declared.action.Ending.{Ending}
use Rattle.svc_api.specs.declared.action.Ending.TheVariants.{Reply, Call}
use Rattle.server_model.specs.Backends.{Served}
use Rattle.server_model.specs.History.{History}
use Rattle.server_model.specs.declared.history.Hist.{Hist}
use Rattle.server_model.specs.declared.history.Hist.TheVariants.{Start, Serve, Resume}
use Rattle.exec_model.specs.declared.job.Seg.{Seg}
use Rattle.round_model.specs.Lists.{is_some}
use Rattle.round_model.specs.Service.{Service, is_request, run, meaning}
use Rattle.run_model.specs.World.{put_tier}
use Rattle.run_model.specs.Histories.{put, HistoryStep}

pub record Progress : Type 0 where
  pub seq : ℕ
  pub body : List ℕ
  pub stage : ℕ
  pub tier : Tier
  pub num : ℕ

pub record Server (B : Type 0) : Type 0 where
  pub store : Store
  pub last : ℕ → ℕ
  pub progress : ℕ → Option Progress
  pub calls : Tier → ℕ → Option (List ℕ)
  pub served : Tier → ℕ → Option ℕ
  pub backs : Tier → B
  pub replies : ℕ → ℕ → Option (List ℕ)

pub data Result (A : Type 0) : Type 0 where
  Refused : ℕ → Result A
  Done : A → Result A

abbrev pub put_number : {A : Type 0} → (Tier → ℕ → A) → Tier → ℕ → A → Tier → ℕ → A
put_number f t n a = put_tier f t (put (f t) n a)

abbrev pub replied : {B : Type 0} → Server B → ℕ → ℕ → Store → List ℕ → Server B
replied O c s store text = record O {
  store = store;
  last = put O.last c s;
  progress = put O.progress c None;
  replies = put O.replies c (put (O.replies c) s (Some text));
}

abbrev pub called : {B : Type 0} → Server B → ℕ → ℕ → List ℕ → ℕ → Store → Tier → ℕ → List ℕ → Server B
called O c s body num store t stage text = record O {
  store = store;
  last = put O.last c s;
  progress = put O.progress c (Some (record { seq = s; body = body; stage = stage; tier = t; num = num }));
  calls = put_number O.calls t num (Some text);
}

-- a segment of the request c.s ran whole and at once
abbrev pub ran : {B : Type 0} → Server B → ℕ → ℕ → List ℕ → ℕ → Store → Ending → Result (Server B)
ran O c s body num store (Reply text) = if num == 0 then Done (replied O c s store text) else Refused 7
ran O c s body num store (Call t stage text) = if num == 0 then Refused 7 else if is_some (O.calls t num) then Refused
    8 else Done (called O c s body num store t stage text)

abbrev pub first_seg : ℕ → ℕ → List ℕ → Seg
first_seg c s body = record { who = record { client = c; seq = s }; body = body; stage = 0; answer = None }

abbrev pub next_seg : ℕ → Progress → ℕ → Seg
next_seg c g code = record { who = record { client = c; seq = g.seq }; body = g.body; stage = g.stage; answer = Some code }

abbrev pub coded : {B : Type 0} → Server B → Tier → ℕ → Served B → Server B
coded O t n b = record O { served = put_number O.served t n (Some b.code); backs = put_tier O.backs t b.state }

abbrev pub serves : {B : Type 0} → Service B → Server B → Tier → ℕ → Option (List ℕ) → Option ℕ → Result (Server B)
serves m O Mid n text code = Refused 4
serves m O t n None code = Refused 4
serves m O t n (Some text) (Some code) = Refused 4
serves m O t n (Some text) None = Done (coded O t n ((m.backend t).serve (O.backs t) text))

abbrev pub resumes : {B : Type 0} → Service B → Server B → ℕ → ℕ → ℕ → Progress → Option ℕ → Result (Server B)
resumes m O c s num g None = Refused 6
resumes m O c s num g (Some code) = ran O c s g.body num (run m.programs (next_seg c g code) O.store).store (run m.programs (next_seg c g code) O.store).ending

abbrev pub resume : {B : Type 0} → Service B → Server B → ℕ → ℕ → ℕ → Option Progress → Result (Server B)
resume m O c s num None = Refused 5
resume m O c s num (Some g) = if g.seq == s then resumes m O c s num g (O.served g.tier g.num) else Refused 5

-- a client beyond the last can't start
abbrev pub start_at : {B : Type 0} → Service B → Server B → ℕ → ℕ → ℕ → List ℕ → Result (Server B)
start_at m O c s num body =
    if not (nat_lt c 17) then Refused 0
    else if not (s == suc (O.last c)) then Refused 1
    else if is_some (O.progress c) then Refused 2
    else if not (is_request m.programs (record { client = c; seq = s }) body) then Refused 3
    else ran O c s body num (run m.programs (first_seg c s body) O.store).store (run m.programs (first_seg c s body) O.store).ending

abbrev pub step_as : {B : Type 0} → Service B → Server B → Hist → List ℕ → Result (Server B)
step_as m O (Start who num) body = start_at m O who.client who.seq num body
step_as m O (Serve t n) body = serves m O t n (O.calls t n) (O.served t n)
step_as m O (Resume who num) body = resume m O who.client who.seq num (O.progress who.client)

abbrev pub step : {B : Type 0} → Service B → Server B → HistoryStep → Result (Server B)
step m O k = step_as m O k.0 k.1

abbrev pub empty_server : {B : Type 0} → Service B → Server B
empty_server m = record {
  store = empty;
  last = λ c. 0;
  progress = λ c. None;
  calls = λ t n. None;
  served = λ t n. None;
  backs = (meaning m).opening;
  replies = λ c s. None;
}

-- a refused step changes nothing
abbrev pub result_or : {A : Type 0} → A → Result A → A
result_or a (Refused row) = a
result_or a (Done b) = b

abbrev pub IsDone : {A : Type 0} → Result A → Type 0
IsDone (Refused row) = ⊥
IsDone (Done a) = Unit {0}

abbrev pub server_from : {B : Type 0} → Service B → Server B → History → Server B
server_from m O [] = O
server_from m O (k ∷ ks) = server_from m (result_or O (step m O k)) ks

abbrev pub server : {B : Type 0} → Service B → History → Server B
server m h = server_from m (empty_server m) h

abbrev pub LegalFrom : {B : Type 0} → Service B → Server B → History → Type 0
LegalFrom m O [] = Unit {0}
LegalFrom m O (k ∷ ks) = IsDone (step m O k) × LegalFrom m (result_or O (step m O k)) ks

abbrev pub Legal : {B : Type 0} → Service B → History → Type 0
Legal m h = LegalFrom m (empty_server m) h
