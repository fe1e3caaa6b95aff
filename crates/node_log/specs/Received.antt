-- Bytes that come in: the frame that they spell, or none.
use Rattle.std.specs.Prelude.{ℕ, List, [], Result, Ok, Err}
use Rattle.aeg_base.specs.declared.names.End.{End}
use Rattle.frames.specs.declared.header.Header.{Header}
use Rattle.frames.specs.declared.header.Refused.{Refused}
use Rattle.frames.specs.declared.message.Msg.{Msg}
use Rattle.tier_model.specs.declared.turn.Turn.TheVariants.{Dropped}
use Rattle.frames.specs.Frames.{frame_of}
use Rattle.tier_model.specs.Moves.{Move}

-- nothing happens: the bytes are dropped with what refuses them
abbrev pub refuses : {S : Type 0} → S → Refused → Move S
refuses s refused = record { state = s; facts = []; sends = []; answer = Dropped refused }

-- what a row makes of what was read
abbrev pub on_read : {S : Type 0} → (End → Msg → S → Move S) → Result (Header × Msg) Refused → S → Move S
on_read row (Ok found) s = row found.0.from found.1 s
on_read row (Err refused) s = refuses s refused

-- a frame is taken by its row, and bytes that are none are dropped
abbrev pub on_bytes : {S : Type 0} → (End → Msg → S → Move S) → List ℕ → S → Move S
on_bytes row bytes s = on_read row (frame_of bytes) s
