-- What is read and written for a replay.
use Rattle.std.specs.Prelude.{◌≡◌, ◌<◌, ◌≤◌, ℕ, List, Option}
use Rattle.ns_types.specs.State.Names.{Name}
use Rattle.ns_http.specs.Output.{WritesAll}
use Rattle.ns_http.specs.Whole.{FailsToRead, ReadsAll}
use Rattle.ns_http.specs.declared.counting.Counted.{Counted}
use Rattle.ns_faults.specs.Lines.{FailsToWrite}
use Rattle.ns_faults.specs.declared.status.TheConstants.{READ_FAULT, WRITE_FAULT, OUT_OF_MEMORY}
use Rattle.ns_pipe.specs.Outcome.{IsPrintout}
use Rattle.ns_pipe.specs.declared.replay.replay.Replay.{Replay}

module _ {R W : Type 0} (remaining : R → Option (List ℕ)) (contents : W → Option (List ℕ)) where
  -- all of the input was read, and the text of its replay was written
  pub record Prints
      (replay : Replay) (reader reader' : Counted R) (writer writer' : Counted W) (status : ℕ) : Type 0 where
    pub bytes : Name
    pub text : Name
    pub reads : ReadsAll remaining reader reader' bytes
    pub is_printout : IsPrintout bytes replay text status
    pub writes : WritesAll contents writer writer' text

  -- all of the input was read, and the text of its replay was written up to a fault of the writer
  pub record PrintsPart
      (replay : Replay) (reader reader' : Counted R) (writer writer' : Counted W) : Type 0 where
    pub bytes : Name
    pub text : Name
    pub status : ℕ
    pub reads : ReadsAll remaining reader reader' bytes
    pub is_printout : IsPrintout bytes replay text status
    pub writes : FailsToWrite contents writer writer' text

  -- A replay ended with this status. A fault of the reader, or want of memory, leaves the writer as it was.
  pub record EndsAlone
      (replay : Replay) (status : ℕ) (reader reader' : Counted R) (writer writer' : Counted W) : Type 0 where
    pub is_end : status ≤ OUT_OF_MEMORY
    pub printed : status < READ_FAULT → Prints replay reader reader' writer writer' status
    pub read_fault : status ≡ READ_FAULT → FailsToRead reader.counts reader'.counts
    pub unread : status ≡ READ_FAULT → writer' ≡ writer
    pub write_fault : status ≡ WRITE_FAULT → PrintsPart replay reader reader' writer writer'
    pub out_of_memory : status ≡ OUT_OF_MEMORY → writer' ≡ writer
