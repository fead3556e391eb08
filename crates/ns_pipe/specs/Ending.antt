-- How a connection ended, over what its reader has left and what its writer holds.
use Rattle.std.specs.Prelude.{◌≡◌, ◌+◌, ◌≤◌, ◌⊎◌, ℕ, false, min, List, Option}
use Rattle.ns_types.specs.State.Names.{Name}
use Rattle.ns_types.specs.State.Rows.{State}
use Rattle.ns_types.specs.Steps.{opening}
use Rattle.ns_types.specs.Wire.Http.{End}
use Rattle.ns_http.specs.Conversation.{EndsWell, IsReadFault, streams_between}
use Rattle.ns_http.specs.Counts.{IsOpen, IsWriteFault, no_counts}
use Rattle.ns_http.specs.declared.counting.Counted.{Counted}
use Rattle.ns_http.specs.declared.counting.Counts.{Counts}
use Rattle.ns_http.specs.declared.engine.TheConstants.{READ_LIMIT}
use Rattle.ns_http.specs.declared.input.TheConstants.{READ_ROOM}
use Rattle.ns_api.specs.Answering.{Holding}
use Rattle.ns_api.specs.Cores.{ServedByCore, ServedByCoreInPart}
use Rattle.ns_api.specs.Following.{driver_of}
use Rattle.ns_api.specs.declared.following.Driven.{Driven}
use Rattle.ns_api.specs.declared.following.Driver.{Driver}
use Rattle.ns_faults.specs.declared.status.TheConstants.{SERVED, READ_FAULT, WRITE_FAULT, OUT_OF_MEMORY}

-- the exit status of a connection
abbrev pub IsEnd : ℕ → Type 0
IsEnd status = (status ≡ SERVED) ⊎ (status ≡ READ_FAULT) ⊎ (status ≡ WRITE_FAULT) ⊎ (status ≡ OUT_OF_MEMORY)

-- a reader or a writer of which nothing was counted yet
abbrev pub uncounted : {T : Type 0} → T → Counted T
uncounted inner = record { inner = inner; counts = no_counts }

-- no call follows one that failed otherwise than by interruption, or that found the end
abbrev pub StopsInTime : Counts → Counts → Type 0
StopsInTime old new = IsOpen old → new.went_on ≡ false

-- the reader stops in time; it is read at most `READ_LIMIT` times, with room for at least `READ_ROOM` bytes each time
pub record ReadsWithin (old new : Counts) : Type 0 where
  pub stops : StopsInTime old new
  pub few : new.calls ≤ old.calls + READ_LIMIT
  pub wide : min old.least_room READ_ROOM ≤ new.least_room

-- a new server, which drives the worker that `driven` names
abbrev pub opened : {D : Type 0} → Name → D → Driven → Holding State D Driver
opened secret draws driven = record { taker = opening secret; draws = draws; follower = driver_of driven }

module _ {D R W : Type 0} (draws : D → List ℕ → D → Type 0) (remaining : R → Option (List ℕ))
    (contents : W → Option (List ℕ)) where
  -- the connection was served to its end, beginning with `old`
  abbrev pub EndsServed : Holding State D Driver → Counted R → Counted R → Counted W → Counted W → Type 0
  EndsServed old reader reader' writer writer' = (end : End) × (last : Holding State D Driver)
      × ServedByCore draws old last (streams_between remaining contents reader reader' writer writer') end
      × EndsWell end (remaining reader'.inner) reader'.counts

  -- the connection was served up to a fault of the reader
  abbrev pub EndsByReader : Holding State D Driver → Counted R → Counted R → Counted W → Counted W → Type 0
  EndsByReader old reader reader' writer writer' = (end : End) × (last : Holding State D Driver)
      × ServedByCore draws old last (streams_between remaining contents reader reader' writer writer') end
      × IsReadFault end (remaining reader'.inner) reader.counts reader'.counts

  -- the connection was served up to a fault of the writer, which failed or was interrupted too often
  abbrev pub EndsByWriter : Holding State D Driver → Counted R → Counted R → Counted W → Counted W → Type 0
  EndsByWriter old reader reader' writer writer' = (last : Holding State D Driver)
      × ServedByCoreInPart draws old last (streams_between remaining contents reader reader' writer writer')
      × IsWriteFault writer.counts writer'.counts

  -- a connection ended with this status
  pub record Ends (old : Holding State D Driver) (status : ℕ) (reader reader' : Counted R)
      (writer writer' : Counted W) : Type 0 where
    pub is_end : IsEnd status
    pub served : status ≡ SERVED → EndsServed old reader reader' writer writer'
    pub read_fault : status ≡ READ_FAULT → EndsByReader old reader reader' writer writer'
    pub write_fault : status ≡ WRITE_FAULT → EndsByWriter old reader reader' writer writer'
    pub out_of_memory : status ≡ OUT_OF_MEMORY → (reader' ≡ reader) × (writer' ≡ writer)
