-- What a line was read as.
use Rattle.std.specs.Prelude.{[], Option, None, Some}
use Rattle.server_model.specs.declared.history.Hist.{Hist}
use Rattle.server_model.specs.Single as single
use Rattle.one_server.specs.Steps.{IsNamed}
use Rattle.aegean_main.specs.declared.reading.Reading.{Reading}
use Rattle.aegean_main.specs.declared.reading.Reading.TheVariants.{Skips, Bad, Steps}

-- the definition's line
abbrev pub line_read : Reading → single.Line
line_read Skips = single.Skips
line_read (Bad row) = single.Bad row
line_read (Steps hist body) = single.Steps hist body.now

-- a step without a text, or a line whose words are wrong
abbrev pub step_read : Option Hist → single.Line
step_read None = single.Bad 3
step_read (Some hist) = single.Steps hist []

-- a step names a client and a request that there are
abbrev pub IsNamedReading : Reading → Type 0
IsNamedReading Skips = Unit {0}
IsNamedReading (Bad row) = Unit {0}
IsNamedReading (Steps hist body) = IsNamed hist
