-- Statements about how a run of the command line ends.
use Rattle.ns_pipe.specs.declared.running.EndedRun.{EndedRun}
use Rattle.ns_listener.specs.declared.service.Service.{Service}
use Rattle.ns_command_line.specs.declared.outcome.RunEnd.{RunEnd}

module _ {R W : Type 0} where
  -- if the run has ended, the first statement holds of its end; if a server has to be run, the second holds of its settings,
  -- the reader and the writer
  abbrev pub MatchOutcome : RunEnd R W → (EndedRun R W → Type 0) → (Service → R → W → Type 0) → Type 0
  MatchOutcome (RunEnd.Ended ended) HasEnded IsToServe = HasEnded ended
  MatchOutcome (RunEnd.Serve service reader writer) HasEnded IsToServe = IsToServe service reader writer

  -- the run has ended, and this holds of its end
  abbrev pub IsEnded : RunEnd R W → (EndedRun R W → Type 0) → Type 0
  IsEnded outcome HasEnded = MatchOutcome outcome HasEnded (λ _ _ _. ⊥)

  -- if the run has ended, this holds of its end
  abbrev pub IfEnded : RunEnd R W → (EndedRun R W → Type 0) → Type 0
  IfEnded outcome HasEnded = MatchOutcome outcome HasEnded (λ _ _ _. Unit {0})

  -- if a server has to be run, this holds of its settings
  abbrev pub IfServe : RunEnd R W → (Service → Type 0) → Type 0
  IfServe outcome IsToServe = MatchOutcome outcome (λ _. Unit {0}) (λ service _ _. IsToServe service)
