-- What the statuses of `replay` say, case by case.
use Rattle.std.proofs.Common.{◌≡◌, ℕ, ◌<◌, inl, inr, List, [], Option, None, Some, IfSome, Ok, Err, refl, ap, subst, length, length-append, arith}
use Rattle.std.specs.Io.KnownBytes.{Consumes}
use Rattle.aeg_base.specs.declared.limits.TheConstants.{INPUT_BYTES}
use Rattle.aeg_disk.specs.Disk.{DiskState}
use Rattle.aeg_io.proofs.Gained.{Gains-nil}
use Rattle.run_model.specs.Script.{Script}
use Rattle.run_model.specs.declared.trace.TraceEvent.{TraceEvent}
use Rattle.aegean_main.specs.Headline.{Keeps}
use Rattle.run_model.proofs.Resolved.{run_begins, one_run}
use Rattle.aegean_main.specs.Replay.{tiers, Ends, Overflows, IsOnlyRun, BeginsRun, ReadsAs, Answers, PlaysOut, IsItsOwn}
use Rattle.aegean_main.specs.Playing.{EndsOr}
use Rattle.aegean_main.specs.declared.playing.Halt.TheVariants as halts
use Rattle.aegean_main.specs.declared.status.LimitKind.TheVariants as limits
use Rattle.aegean_main.specs.declared.status.Status.{Status}
use Rattle.aegean_main.specs.declared.status.Status.TheVariants.{Done, Usage, Script as BadScript, Plan, ReadFault, WriteFault, Limit, Illegal, Memory}

-- FROM A SCRIPT'S RUN

-- every run of the script's tiers keeps what the laws say
abbrev pub AllKeep : Script → Type 0
AllKeep script = (es : List TraceEvent) → Keeps script.u script.depth es

only : (script : Script) (es : List TraceEvent) → Ends script es → IsOnlyRun script es
only script es e sure others r all = one_run (tiers script) script es others e.0 sure r all

begins : (script : Script) (es : List TraceEvent) → Overflows script es → BeginsRun script es
begins script es o sure others r all = let on = run_begins (tiers script) script es others o.standing o.reached sure r all in (on.rest, on.whole)

pub answers_end : (script : Script) (input : List ℕ) (before after : List DiskState) (old new : Option (List ℕ))
    → AllKeep script → EndsOr script before after old new (Ok tt) → ReadsAs input script → Answers input before after old new Done
answers_end script input before after old new all e r =
    (_, record { script = script; events = e.0; reads = r; ends = e.1; is_text = refl; keeps = all e.0; leaves = e.2; only = only script e.0 e.1 }, e.3)

pub answers_limit : (script : Script) (input : List ℕ) (before after : List DiskState) (old new : Option (List ℕ))
    → AllKeep script → EndsOr script before after old new (Err halts.Limit) → ReadsAs input script
    → Answers input before after old new (Limit limits.Packets)
answers_limit script input before after old new all e r = (
  _,
  record {
    script = script;
    events = e.0;
    reads = r;
    overflows = e.1;
    is_text = refl;
    keeps = all e.0;
    leaves = e.2;
    begins = begins script e.0 e.1;
  },
  e.3,
)

pub answers_write : (script : Script) (input : List ℕ) (before after : List DiskState) (old new : Option (List ℕ))
    → AllKeep script → EndsOr script before after old new (Err halts.Write) → ReadsAs input script
    → Answers input before after old new WriteFault
answers_write script input before after old new all e r = record {
  run = record {
    script = script;
    reads = r;
    breaks = e.0;
    keeps = all e.0.events;
  };
  leaves = e.1;
}

pub answers_memory : (script : Script) (input : List ℕ) (before after : List DiskState) (old new : Option (List ℕ))
    → AllKeep script → EndsOr script before after old new (Err halts.Memory) → ReadsAs input script
    → Answers input before after old new Memory
answers_memory script input before after old new all e r = inl (record { script = script; reads = r; breaks = e; keeps = all e.events })

-- FROM THE SOURCE

pub replay_too_long : (left rest : Option (List ℕ)) (before after : List DiskState) (out : Option (List ℕ))
    (came : List ℕ) → Consumes left rest came → INPUT_BYTES < length came
    → IfSome left (λ input. Answers input before after out out (Limit limits.Bytes))
replay_too_long None rest before after out came c h = tt
replay_too_long (Some input) None before after out came c h = absurd c
replay_too_long (Some input) (Some behind) before after out came c h =
    let long : INPUT_BYTES < length input = omega (arith, ap length c, length-append came behind, h) in
    ([], (long, refl), Gains-nil out)

-- AT THE END

pub plays_out : (before after : List DiskState) (left old new : Option (List ℕ)) (status : Status)
    → IfSome left (λ input. Answers input before after old new status) → status ≡ Done
    → IfSome left (λ input. PlaysOut input before after old new)
plays_out before after None old new status f e = tt
plays_out before after (Some input) old new status f e = let P : Status → Type 0 = λ z. Answers input before after old new z in subst P e f

-- WITHOUT A FAULT

own_or_memory : (input : List ℕ) (before after : List DiskState) (old new : Option (List ℕ)) (F G : Type 0)
    (status : Status) → (F → ⊥) → (G → ⊥) → (status ≡ ReadFault → F) → (status ≡ WriteFault → G)
    → Answers input before after old new status → IsItsOwn input before after status
own_or_memory input before after old new F G ReadFault no_read no_write read write f = absurd (no_read (read refl))
own_or_memory input before after old new F G WriteFault no_read no_write read write f = absurd (no_write (write refl))
own_or_memory input before after old new F G Memory no_read no_write read write f = inr refl
own_or_memory input before after old new F G Done no_read no_write read write f = inl (f.0, f.1)
own_or_memory input before after old new F G Usage no_read no_write read write f = inl (f.0, f.1)
own_or_memory input before after old new F G (BadScript line row) no_read no_write read write f = inl (f.0, f.1)
own_or_memory input before after old new F G (Plan row) no_read no_write read write f = inl (f.0, f.1)
own_or_memory input before after old new F G (Limit kind) no_read no_write read write f = inl (f.0, f.1)
own_or_memory input before after old new F G (Illegal line row) no_read no_write read write f = inl (f.0, f.1)

pub its_own : (before after : List DiskState) (left old new : Option (List ℕ)) (F G : Type 0) (status : Status)
    → (F → ⊥) → (G → ⊥) → (status ≡ ReadFault → F) → (status ≡ WriteFault → G)
    → IfSome left (λ input. Answers input before after old new status) → IfSome left (λ input. IsItsOwn input before after status)
its_own before after None old new F G status no_read no_write read write f = tt
its_own before after (Some input) old new F G status no_read no_write read write f = own_or_memory input before after
    old new F G status no_read no_write read write f
