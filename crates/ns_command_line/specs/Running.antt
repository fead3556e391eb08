-- How a run of the command line ended: what its reader has left, and what its writer and its errors hold.
use Rattle.std.specs.Prelude.{◌≡◌, ◌⊎◌, ℕ, List, Option}
use Rattle.clap.specs.Words.{Text}
use Rattle.ns_api.specs.declared.following.Driven.{Driven}
use Rattle.ns_http.specs.Output.{WritesAll}
use Rattle.ns_http.specs.declared.counting.Counted.{Counted}
use Rattle.ns_faults.specs.Lines.{FailsToWrite, TriesToWrite}
use Rattle.ns_faults.specs.declared.status.TheConstants.{SERVED, BAD_WORDS, WRITE_FAULT, OUT_OF_MEMORY}
use Rattle.ns_pipe.specs.Ending.{uncounted}
use Rattle.ns_pipe.specs.Printing.{EndsPrinted}
use Rattle.ns_pipe.specs.declared.printed.Printed.{Printed}
use Rattle.ns_pipe.specs.declared.running.EndedRun.{EndedRun}
use Rattle.ns_pipe.specs.ReplayPrinting.{EndsAlone}
use Rattle.ns_pipe.specs.declared.replay.replay.Replay.{Replay}
use Rattle.ns_listener.specs.declared.service.Service.{Service}
use Rattle.ns_command_line.specs.Words.{Asks, AsksAlone, AsksServe}

-- a connection with a new server, opened by this secret, was served
abbrev pub EndsPiped : {D R W : Type 0} → (D → List ℕ → D → Type 0) → (R → Option (List ℕ)) → (W → Option (List ℕ)) →
    Text → Driven → Printed → D → R → W → EndedRun R W → Type 0
EndsPiped draws remaining contents secret driven printed drawer reader writer ended =
    EndsPrinted draws remaining contents printed secret drawer driven ended.status
    (uncounted reader) ended.reader ended.unprinted (uncounted writer) ended.writer

-- this replay was made
abbrev pub EndsReplayed : {R W : Type 0} → (R → Option (List ℕ)) → (W → Option (List ℕ)) →
    Replay → R → W → EndedRun R W → Type 0
EndsReplayed remaining contents replay reader writer ended =
    EndsAlone remaining contents replay ended.status
    (uncounted reader) ended.reader (uncounted writer) ended.writer

-- nothing was read and nothing was written, for want of memory
pub record EndsUnserved {R W : Type 0} (reader : R) (writer : W) (ended : EndedRun R W) : Type 0 where
  pub status : ended.status ≡ OUT_OF_MEMORY
  pub unread : ended.reader ≡ uncounted reader
  pub unwritten : ended.writer ≡ uncounted writer

-- the text of a mistake was written to the errors; nothing was read, and nothing was written to the output
pub record EndsRefused {R W E : Type 0} (error_text : E → Option (List ℕ)) (reader : R) (writer : W)
    (errors errors' : Counted E) (ended : EndedRun R W) : Type 0 where
  pub text : Text
  pub status : ended.status ≡ BAD_WORDS
  pub unread : ended.reader ≡ uncounted reader
  pub unwritten : ended.writer ≡ uncounted writer
  pub line : TriesToWrite error_text errors errors' text

-- nothing was read, and help was written; or a first part of it was, and then the output failed
pub record EndsHelped {R W : Type 0} (contents : W → Option (List ℕ)) (reader : R) (writer : W) (ended : EndedRun R W) : Type 0 where
  pub help : Text
  pub unread : ended.reader ≡ uncounted reader
  pub written : ((ended.status ≡ SERVED) × WritesAll contents (uncounted writer) ended.writer help)
      ⊎ ((ended.status ≡ WRITE_FAULT) × FailsToWrite contents (uncounted writer) ended.writer help)

-- the run ended so, or nothing was read and nothing was written, for want of memory
abbrev pub OrUnserved : {R W : Type 0} → R → W → (EndedRun R W → Type 0) → EndedRun R W → Type 0
OrUnserved reader writer HasEnded ended = HasEnded ended ⊎ EndsUnserved reader writer ended

module _ {D R W E : Type 0} (draws : D → List ℕ → D → Type 0) (remaining : R → Option (List ℕ))
    (contents : W → Option (List ℕ)) (error_text : E → Option (List ℕ)) (words : List Text) (drawer : D) (reader : R)
    (writer : W) (errors errors' : Counted E) where
  -- what the words ask for was done, or help or a mistake was written, or there was no memory
  abbrev pub DoesAsked : EndedRun R W → Type 0
  DoesAsked ended =
      ((secret : Text) × (driven : Driven) × (printed : Printed) × Asks words secret driven printed
      × EndsPiped draws remaining contents secret driven printed drawer reader writer ended)
      ⊎ ((replay : Replay) × AsksAlone words replay
      × EndsReplayed remaining contents replay reader writer ended)
      ⊎ EndsHelped contents reader writer ended
      ⊎ EndsRefused error_text reader writer errors errors' ended
      ⊎ EndsUnserved reader writer ended

-- the words ask for a server with these settings; nothing was read, or written to the output or to the errors
pub record IsHandedOn {R W E : Type 0} (words : List Text) (reader : R) (writer : W) (errors errors' : Counted E)
    (service : Service) (reader' : R) (writer' : W) : Type 0 where
  pub asks : AsksServe words service
  pub unread : reader' ≡ reader
  pub unwritten : writer' ≡ writer
  pub silent : errors' ≡ errors
