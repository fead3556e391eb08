-- How far a connection has come, before each read.
use Rattle.std.proofs.Common.{◌≡◌, ℕ, ◌+◌, ◌-◌, ◌*◌, ◌^◌, min, ◌⊎◌, ◌<◌, ◌≤◌, false, List, ◌++◌, length}
use Rattle.std.specs.Prelude.{Option}
use Rattle.std.specs.Io.KnownBytes.{Consumes, Appends}
use Rattle.ns_types.specs.Wire.Http.{Asked, IsPartial}
use Rattle.ns_types.specs.declared.reply.Rendered.{Rendered}
use Rattle.ns_types.specs.Wire.Responses.{Exchange, wires}
use Rattle.ns_http.specs.declared.counting.Counts.{Counts}
use Rattle.ns_http.specs.Counts.{IsOpen, HasGrown}
use Rattle.ns_http.specs.Conversation.{Serves}

pub record Progress
    {S : Type 0} (answers : S → Asked → Rendered → S → Type 0) (old new : S)
    (remaining remaining' contents contents' : Option (List ℕ))
    (unread : List ℕ) (wanted answered reads : ℕ) (reader reader' writer writer' : Counts) : Type 0 where
  pub read : List ℕ
  pub exchanges : List Exchange
  pub consumes : Consumes remaining remaining' read
  pub serves : Serves answers old new read exchanges false unread
  pub writes : Appends contents contents' (wires exchanges)
  pub count : answered ≡ length exchanges
  pub few : answered ≤ reads * 1130496
  pub partial : 0 < length unread → IsPartial unread
  pub room : length unread < 1064960
  pub stays : (more : List ℕ) → length (unread ++ more) < wanted → IsPartial (unread ++ more)
  pub wanted_fits : wanted ≤ 1064960
  pub calls_most : reader'.calls ≤ reader.calls + reads
  pub calls_least : (reader.calls + reads ≤ reader'.calls) ⊎ (reader'.calls ≡ 2 ^ 64 - 1)
  pub read_faults : reader.faults ≤ reader'.faults
  pub room_given : min reader.least_room 65536 ≤ reader'.least_room
  pub writer_grows : HasGrown writer writer'
  pub keeps_open : IsOpen reader → IsOpen reader'
  pub writer_keeps_open : IsOpen writer → IsOpen writer'
