-- Packets whose bytes stand in one run.
use Rattle.std.specs.Prelude.{◌≡◌, ℕ, ◌≤◌, List, ◌++◌, length, map}
use Rattle.std.specs.List.{slice_range}
use Rattle.aeg_base.specs.declared.names.End.{End}
use Rattle.net_script.specs.declared.soup.Sent.{Sent}

-- whom it goes to, and its bytes
abbrev pub packet_of : List ℕ → Sent → End × List ℕ
packet_of run sent = (sent.to, slice_range run sent.from sent.until)

abbrev pub packets_of : List ℕ → List Sent → List (End × List ℕ)
packets_of run sents = map (packet_of run) sents

-- its bytes are in the run
abbrev pub IsIn : List ℕ → Sent → Type 0
IsIn run sent = (sent.from ≤ sent.until) × (sent.until ≤ length run)

-- more may stand behind it
abbrev pub HasGrown : List ℕ → List ℕ → Type 0
HasGrown old new = (more : List ℕ) × (new ≡ old ++ more)
