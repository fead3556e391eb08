-- How a connection ended whose log is written in place of its replies.
use Rattle.std.specs.Prelude.{◌≡◌, ◌⊎◌, ℕ, List, Option}
use Rattle.ns_types.specs.State.Names.{Name}
use Rattle.ns_types.specs.Wire.Http.{End}
use Rattle.ns_json.specs.Logs.{log_text}
use Rattle.ns_work_log.specs.Logs.{AreNoted, History}
use Rattle.ns_http.specs.Conversation.{EndsWell, IsReadFault, streams_between}
use Rattle.ns_http.specs.Counts.{IsWriteFault}
use Rattle.ns_http.specs.Output.{WritesAll}
use Rattle.ns_http.specs.declared.counting.Counted.{Counted}
use Rattle.ns_api.specs.Answering.{Holding}
use Rattle.ns_api.specs.Cores.{ServedByHeld, history_of}
use Rattle.ns_api.specs.Following.{driver_of}
use Rattle.ns_api.specs.declared.following.Driven.{Driven}
use Rattle.ns_api.specs.declared.following.Driver.{Driver}
use Rattle.ns_pipe.specs.Readable.{AreAsRead, IsReadBack}
use Rattle.ns_pipe.specs.Ending.{IsEnd}
use Rattle.ns_faults.specs.Lines.{FailsToWrite}
use Rattle.ns_pipe.specs.declared.logging.TheConstants.{LOG_LIMIT}
use Rattle.ns_faults.specs.declared.status.TheConstants.{SERVED, READ_FAULT, WRITE_FAULT, OUT_OF_MEMORY}

-- a new server with a log, which drives the worker that `driven` names
abbrev pub opened_log : {D : Type 0} → Name → D → Driven → Holding History D Driver
opened_log secret draws driven =
    record { taker = history_of secret LOG_LIMIT; draws = draws; follower = driver_of driven }

-- the writer of the replies failed, and no log was written
abbrev pub LogsNothing : {V W : Type 0} → Counted V → Counted V → Counted W → Counted W → Type 0
LogsNothing replies replies' writer writer' = IsWriteFault replies.counts replies'.counts × (writer' ≡ writer)

module _ {D R W V : Type 0} (draws : D → List ℕ → D → Type 0) (remaining : R → Option (List ℕ))
    (contents : W → Option (List ℕ)) (replied : V → Option (List ℕ)) where
  -- The requests were served, beginning with `old`. The log has the steps that they made, with all that followed them, each
  -- with its answer as bytes, in their order, and nothing else.
  pub record IsLogged (old last : Holding History D Driver) (reader reader' : Counted R) (replies replies' : Counted V)
      (end : End) : Type 0 where
    pub served : ServedByHeld draws old last (streams_between remaining replied reader reader' replies replies') end
    pub noted : AreNoted old.taker served.made.steps served.made.answers last.taker

  -- for that server: the reader and the writer of the replies, each before and after
  module _ (old : Holding History D Driver) (reader reader' : Counted R) (replies replies' : Counted V) where
    -- The text of the last log is read back as that log, and so has no bad line, if each policy that the first log put has the
    -- rules that its text says. A new server's log is empty.
    abbrev pub HasGoodLines : Name → Holding History D Driver → Type 0
    HasGoodLines secret last = AreAsRead old.taker.log → IsReadBack secret last.taker.log

    -- the connection was served to its end, and the log was written
    abbrev pub LogsServed : Name → Counted W → Counted W → Type 0
    LogsServed secret writer writer' = (end : End) × (last : Holding History D Driver)
        × IsLogged old last reader reader' replies replies' end
        × EndsWell end (remaining reader'.inner) reader'.counts
        × WritesAll contents writer writer' (log_text secret last.taker.log) × HasGoodLines secret last

    -- the connection was served up to a fault of the reader, and the log was written
    abbrev pub LogsToReadFault : Name → Counted W → Counted W → Type 0
    LogsToReadFault secret writer writer' = (end : End) × (last : Holding History D Driver)
        × IsLogged old last reader reader' replies replies' end
        × IsReadFault end (remaining reader'.inner) reader.counts reader'.counts
        × WritesAll contents writer writer' (log_text secret last.taker.log) × HasGoodLines secret last

    -- a first part of the log was written, and then the writer failed
    abbrev pub LogsInPart : Name → Counted W → Counted W → Type 0
    LogsInPart secret writer writer' = (end : End) × (last : Holding History D Driver)
        × IsLogged old last reader reader' replies replies' end
        × FailsToWrite contents writer writer' (log_text secret last.taker.log)

    -- a connection whose log is written ended with this status
    pub record EndsLogged (secret : Name) (status : ℕ) (writer writer' : Counted W) : Type 0 where
      pub is_end : IsEnd status
      pub served : status ≡ SERVED → LogsServed secret writer writer'
      pub read_fault : status ≡ READ_FAULT → LogsToReadFault secret writer writer'
      pub write_fault : status ≡ WRITE_FAULT →
          LogsInPart secret writer writer' ⊎ LogsNothing replies replies' writer writer'
      pub out_of_memory : status ≡ OUT_OF_MEMORY → writer' ≡ writer
