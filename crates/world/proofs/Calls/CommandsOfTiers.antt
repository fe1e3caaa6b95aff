-- Each command at a node of any tier.
use Rattle.std.proofs.Common.{◌≡◌, ℕ, ◌+◌, ◌*◌, ◌<◌, Bool, true, false, List, [], refl, sym, ap, ◌∙◌, subst, append-nil, Option, Result, Ok, Err}
use Rattle.std.specs.Prelude.{nat_lt, slice_set}
use Rattle.std.proofs.lemmas.Bool.{cond_both}
use Rattle.aeg_base.specs.declared.names.Tier.{Tier}
use Rattle.aeg_base.specs.declared.names.Tier.TheVariants.{Mid as MidTier, Inv, Pay}
use Rattle.aeg_base.specs.declared.names.NodeId.{NodeId}
use Rattle.aeg_base.specs.declared.names.End.{End}
use Rattle.aeg_disk.specs.Disk.{DiskState}
use Rattle.fact_journal.specs.Calls.{is_past}
use Rattle.server_model.specs.Backends.{Amounts}
use Rattle.log_model.specs.declared.turn.Offering.{Offering}
use Rattle.log_model.specs.declared.turn.Offering.TheVariants.{NotLeader, NoPromises, InFlight, LogFull, Taken, Free}
use Rattle.log_model.specs.Rows.{lead, offer, wants}
use Rattle.log_model.specs.Nodes.{Mode, Node as NodeOf, is_well}
use Rattle.log_model.specs.Nodes.Mode.{Up, Down, Gone}
use Rattle.log_values.specs.declared.fact.Fact.{Fact}
use Rattle.tier_model.specs.declared.turn.Turn.{Turn as Answer}
use Rattle.tier_model.specs.declared.turn.Fault.{Fault}
use Rattle.tier_model.specs.declared.turn.Fault.TheVariants as faults
use Rattle.round_model.specs.Lists.{is_some}
use Rattle.round_model.specs.Service.{Backend}
use Rattle.tier_model.specs.Moves.{Move}
use Rattle.tier_model.specs.Kinds.{State}
use Rattle.tier_model.specs.Mid.{Mid}
use Rattle.tier_model.specs.MidRows as mids
use Rattle.tier_model.specs.Back.{Back}
use Rattle.tier_model.specs.BackRows as backs
use Rattle.run_model.specs.declared.trace.Fared.{Fared}
use Rattle.run_model.specs.declared.trace.Fared.TheVariants.{Fine}
use Rattle.run_model.specs.World as worlds
use Rattle.run_model.specs.World.{Fate, fate, unwritten, kind_at, moves}
use Rattle.run_model.specs.Resolving as resolving
use Rattle.run_model.specs.Text as texts
use Rattle.run_model.specs.BookingRuns.{config, booking_service, BookingWorld}
use Rattle.world.specs.declared.nodes.all_nodes.Nodes.{Nodes}
use Rattle.world.specs.declared.nodes.command.Command.{Command}
use Rattle.world.specs.declared.nodes.command.Command.TheVariants.{Lead, Offer}
use Rattle.world.specs.declared.parts.arming.StopAt.{StopAt}
use Rattle.world.specs.Arming.{CanStop, asked_of, fared_by}
use Rattle.world.specs.Calling.{Called, absent_text}
use Rattle.world.specs.Commands.{row_of}
use Rattle.world.specs.Disks.{AreDisks, first_of}
use Rattle.world.specs.NodeLists.{up_in, MoveIn, condition_in, condition_at}
use Rattle.world.specs.Telling.{told_command, HadMemory}
use Rattle.world.specs.Standing.{journal_of, AreNodes}
use Rattle.world.proofs.Calls.InWorlds.{CameOut, Faring}
use Rattle.world.proofs.Calls.CommandsInWorlds.{NotRan, moves_told, log_not_ran, Commanded, UpAt, node_by, node_still}
use Rattle.world.proofs.Calls.NodesThere.{node_up, node_condition}

-- COMMANDS

-- a command runs no job
mid_offer_not_ran : (u x : ℕ) (σ : Mid) (o : Offering) → NotRan (mids.offers_as u booking_service.programs x σ o).answer
mid_offer_not_ran u x σ NotLeader = tt
mid_offer_not_ran u x σ (NoPromises have) = tt
mid_offer_not_ran u x σ (InFlight p) = tt
mid_offer_not_ran u x σ LogFull = tt
mid_offer_not_ran u x σ Taken = log_not_ran (offer u x σ.log (mids.own_value u booking_service.programs σ)).idle
mid_offer_not_ran u x σ (Free p) = cond_both (is_some (mids.own_value u booking_service.programs σ)) _ _ (λ (v : Move Mid). NotRan v.answer)
    (λ e. log_not_ran (offer u x σ.log (mids.own_value u booking_service.programs σ)).idle) (λ e. tt)

back_offer_not_ran : (u : ℕ) (b : Backend Amounts) (t : Tier) (x : ℕ) (σ : Back Amounts) (o : Offering) → NotRan (backs.offers_as u b t x σ o).answer
back_offer_not_ran u b t x σ NotLeader = tt
back_offer_not_ran u b t x σ (NoPromises have) = tt
back_offer_not_ran u b t x σ (InFlight p) = tt
back_offer_not_ran u b t x σ LogFull = tt
back_offer_not_ran u b t x σ Taken = log_not_ran (offer u x σ.log (backs.own_value σ)).idle
back_offer_not_ran u b t x σ (Free p) = cond_both (is_some (backs.own_value σ)) _ _ (λ (v : Move (Back Amounts)). NotRan v.answer)
    (λ e. log_not_ran (offer u x σ.log (backs.own_value σ)).idle) (λ e. tt)

not_ran : (command : Command) (u depth : ℕ) (t : Tier) (x : ℕ) (σ : State Amounts t) → NotRan (row_of command (kind_at (config u depth) t x) σ).answer
not_ran Lead u depth MidTier x σ = log_not_ran (lead u x σ.log).idle
not_ran Lead u depth Inv x σ = log_not_ran (lead u x σ.log).idle
not_ran Lead u depth Pay x σ = log_not_ran (lead u x σ.log).idle
not_ran Offer u depth MidTier x σ = mid_offer_not_ran u x σ (wants u σ.log)
not_ran Offer u depth Inv x σ = back_offer_not_ran u (booking_service.backend Inv) Inv x σ (wants u σ.log)
not_ran Offer u depth Pay x σ = back_offer_not_ran u (booking_service.backend Pay) Pay x σ (wants u σ.log)

-- what the command makes of the world, and what it prints
abbrev pub world_by : ℕ → ℕ → BookingWorld → Command → Fared → NodeId → Tier → BookingWorld
world_by u depth w command fared n t =
    moves (config u depth) w t n.index (fate (config u depth) fared) (row_of command (kind_at (config u depth) t n.index))

abbrev pub text_by : ℕ → ℕ → BookingWorld → Command → Fared → NodeId → Tier → List ℕ
text_by u depth w command fared n t =
    texts.commands_text (config u depth) n fared (w.nodes t n.index) (row_of command (kind_at (config u depth) t n.index)) (w.nodes t n.index).mode

pub command_by : (u depth : ℕ) (w : BookingWorld) (old new : Nodes) (n : NodeId) (command : Command) (stop : Option StopAt) (disks : List DiskState)
    (disk disk_after : DiskState) (after : List (End × List ℕ)) (result : Result Answer Fault) (met : Bool) (t : Tier)
    → UpAt u depth w old t n.index disks disk → CanStop stop → HadMemory result
    → Called old new t n.index stop disk disk_after [] after (λ S k. row_of command k) result met
    → Commanded u depth w (world_by u depth w command (fared_by stop met result) n t) new (slice_set disks (first_of t + n.index) disk_after) after
    (text_by u depth w command (fared_by stop met result) n t) (told_command n met result)
    × Faring (asked_of stop) (fared_by stop met result) disk disk_after
command_by u depth w old new n command stop disks disk disk_after after result met t k stops memory c =
    let row : State Amounts t → Move (State Amounts t) = row_of command (kind_at (config u depth) t n.index) in
    let fared = fared_by stop met result in
    node_by u depth w old new t n.index stop disks disk disk_after after (λ S z. row_of command z) result met
    (texts.commands_text (config u depth) n fared (w.nodes t n.index) row) (told_command n met result) k stops memory c
    (λ σ h. moves_told u depth n (w.nodes t n.index).records fared met (row σ) result (not_ran command u depth t n.index σ) h)

-- RETRY

-- what writes nothing comes out as if a device were met
unwritten_out : {T : Type 0} (u depth : ℕ) (past : Bool) (records : List (List Fact)) (v : Move T) (result : Result Answer Fault) → v.facts ≡ []
    → CameOut result false (is_well (unwritten records v.facts) v.facts) Fine past v
    → CameOut result false (is_well (fate (config u depth) Fine records v.facts) v.facts) Fine past v
unwritten_out u depth past records v (Ok answer) e h = (ap (λ z. is_well (fate (config u depth) Fine records z) z) e, h.1)
unwritten_out u depth past records v (Err (faults.JournalFull size)) e h = absurd (let g : true ≡ false = h.0 in cc)
unwritten_out u depth past records v (Err faults.Memory) e h = absurd h
unwritten_out u depth past records v (Err faults.Disk) e h = absurd (let g : true ≡ false = h.0 in cc)
unwritten_out u depth past records v (Err (faults.BadRecord at)) e h = absurd h

silent_retry : (u depth : ℕ) (t : Tier) (x : ℕ) (σ : State Amounts t) → ((kind_at (config u depth) t x).retry σ).facts ≡ []
silent_retry u depth MidTier x σ = refl
silent_retry u depth Inv x σ = refl
silent_retry u depth Pay x σ = refl

retry_not_ran : (u depth : ℕ) (t : Tier) (x : ℕ) (σ : State Amounts t) → NotRan ((kind_at (config u depth) t x).retry σ).answer
retry_not_ran u depth MidTier x σ = tt
retry_not_ran u depth Inv x σ = tt
retry_not_ran u depth Pay x σ = tt

pub retry_by : (u depth : ℕ) (w : BookingWorld) (old new : Nodes) (n : NodeId) (disks : List DiskState) (disk : DiskState) (after : List (End × List ℕ))
    (result : Result Answer Fault) (t : Tier) → UpAt u depth w old t n.index disks disk → HadMemory result
    → MoveIn old new t n.index disk disk [] after (λ S k. k.retry) result
    → Commanded u depth w (worlds.node_retries (config u depth) w t n.index) new disks after (texts.node_retries_text (config u depth) w n t)
    (told_command n false result)
retry_by u depth w old new n disks disk after result t k memory move =
    let row : State Amounts t → Move (State Amounts t) = (kind_at (config u depth) t n.index).retry in
    node_still u depth w old new t n.index disks disk after (λ S z. z.retry) result
    (texts.commands_text (config u depth) n Fine (w.nodes t n.index) row) (told_command n false result) k memory
    (silent_retry u depth t n.index) move
    (λ σ h. moves_told u depth n (w.nodes t n.index).records Fine false (row σ) result (retry_not_ran u depth t n.index σ)
    (unwritten_out u depth (is_past (journal_of (w.nodes t n.index).records) (row σ).facts) (w.nodes t n.index).records (row σ) result
    (silent_retry u depth t n.index σ) h))

-- A NODE THAT ISN'T UP

-- what a command prints there
refused : {S : Type 0} (u depth : ℕ) (n : NodeId) (fared : Fared) (node : NodeOf S Fact) (row : S → Move S) (m : Mode S)
    → resolving.is_up m ≡ false → texts.commands_text (config u depth) n fared node row m ≡ absent_text n (condition_in m)
refused u depth n fared node row (Up s) e = absurd (cc)
refused u depth n fared node row Down e = refl
refused u depth n fared node row Gone e = refl

-- nothing happens
pub rests : (u depth : ℕ) (w : BookingWorld) (nodes : Nodes) (disks : List DiskState) (text told : List ℕ)
    → AreNodes u depth w nodes → AreDisks w disks → text ≡ told → Commanded u depth w w nodes disks [] text told
rests u depth w nodes disks text told k d e = record {
  packets = [];
  sends = refl;
  leads = record { are = k; soup = sym (append-nil w.soup); logs = refl; hist = refl; fit = λ i p f. absurd (cc); reach = λ i p f. absurd (cc) };
  on = d;
  clients = refl;
  text_is = e;
}

pub node_stays : (u depth : ℕ) (w : BookingWorld) (t : Tier) (x : ℕ) (d : Fate) (row : State Amounts t → Move (State Amounts t))
    → resolving.is_up (w.nodes t x).mode ≡ false → moves (config u depth) w t x d row ≡ w
node_stays u depth w t x d row e =
    cond_both (nat_lt x (2 * u + 1)) (worlds.node_up w t x d row (λ σ. []) (w.nodes t x).mode) w (λ z. z ≡ w) (λ f. go (w.nodes t x).mode e) (λ f. refl)
  where
    go : (m : Mode (State Amounts t)) → resolving.is_up m ≡ false → worlds.node_up w t x d row (λ σ. []) m ≡ w
    go (Up s) e = absurd (cc)
    go Down e = refl
    go Gone e = refl

node_rests : (u depth : ℕ) (w : BookingWorld) (nodes : Nodes) (n : NodeId) (disks : List DiskState) (fared : Fared) (d : Fate) (t : Tier)
    (row : State Amounts t → Move (State Amounts t)) → AreNodes u depth w nodes → AreDisks w disks → n.index < 2 * u + 1 → up_in nodes t n.index ≡ false
    → Commanded u depth w (moves (config u depth) w t n.index d row) nodes disks []
    (texts.commands_text (config u depth) n fared (w.nodes t n.index) row (w.nodes t n.index).mode) (absent_text n (condition_at nodes t n.index))
node_rests u depth w nodes n disks fared d t row k on l e =
    let absent : resolving.is_up (w.nodes t n.index).mode ≡ false = sym (node_up u depth w nodes t n.index k l) ∙ e in
    let text = texts.commands_text (config u depth) n fared (w.nodes t n.index) row (w.nodes t n.index).mode in
    subst (λ z. Commanded u depth w z nodes disks [] text (absent_text n (condition_at nodes t n.index))) (sym (node_stays u depth w t n.index d row absent))
    (rests u depth w nodes disks _ _ k on (refused u depth n fared (w.nodes t n.index) row (w.nodes t n.index).mode absent
    ∙ ap (absent_text n) (sym (node_condition u depth w nodes t n.index k l))))

pub command_rests : (u depth : ℕ) (w : BookingWorld) (nodes : Nodes) (n : NodeId) (command : Command) (disks : List DiskState) (fared : Fared) (t : Tier)
    → AreNodes u depth w nodes → AreDisks w disks → n.index < 2 * u + 1 → up_in nodes t n.index ≡ false
    → Commanded u depth w (world_by u depth w command fared n t) nodes disks [] (text_by u depth w command fared n t)
    (absent_text n (condition_at nodes t n.index))
command_rests u depth w nodes n command disks fared t k on l e =
    node_rests u depth w nodes n disks fared (fate (config u depth) fared) t (row_of command (kind_at (config u depth) t n.index)) k on l e

pub retry_rests : (u depth : ℕ) (w : BookingWorld) (nodes : Nodes) (n : NodeId) (disks : List DiskState) (t : Tier) → AreNodes u depth w nodes
    → AreDisks w disks → n.index < 2 * u + 1 → up_in nodes t n.index ≡ false
    → Commanded u depth w (worlds.node_retries (config u depth) w t n.index) nodes disks [] (texts.node_retries_text (config u depth) w n t)
    (absent_text n (condition_at nodes t n.index))
retry_rests u depth w nodes n disks t k on l e =
    node_rests u depth w nodes n disks Fine unwritten t (kind_at (config u depth) t n.index).retry k on l e
