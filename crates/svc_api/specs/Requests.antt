-- Requests of clients.
use Rattle.std.specs.Prelude.{◌≤◌}
use Rattle.aeg_base.specs.declared.names.ReqId.{ReqId}

-- a client is 1 to 16, and numbers its requests from 1 to 65,536
pub record IsRequest (who : ReqId) : Type 0 where
  pub client_low : 1 ≤ who.client
  pub client_high : who.client ≤ 16
  pub seq_low : 1 ≤ who.seq
  pub seq_high : who.seq ≤ 65536
