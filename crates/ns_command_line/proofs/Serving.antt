-- The numbers of a server that is to be run.
use Rattle.std.proofs.Common.{◌≡◌, ◌≤◌, ℕ, List, Option, Some, None, arith, codes}
use Rattle.clap.specs.Words.{Text, subcommand_of}
use Rattle.ns_http.specs.declared.counting.Counted.{Counted}
use Rattle.ns_pipe.specs.declared.running.EndedRun.{EndedRun}
use Rattle.ns_arguments.specs.Values.{number_by}
use Rattle.ns_command_line.specs.Outcome.{IfServe, MatchOutcome}
use Rattle.ns_command_line.specs.Running.{IsHandedOn}
use Rattle.ns_command_line.specs.Serve.{of_serve}
use Rattle.ns_command_line.specs.Words.{program_words}
use Rattle.ns_command_line.specs.declared.outcome.RunEnd.{RunEnd}

-- a number that is given, or the default, is at most the last
at_most : (default first last n : ℕ) (given : Option Text) → default ≤ last → number_by default first last given ≡ Some n → n ≤ last
at_most default first last n None fits e = grind arith
at_most default first last n (Some text) fits e = grind arith

-- a server that the words ask for serves 64 connections at once at most
pub few_connections : {R W E : Type 0} (words : List Text) (reader : R) (writer : W) (errors errors' : Counted E) (outcome : RunEnd R W)
    (HasEnded : EndedRun R W → Type 0) → MatchOutcome outcome HasEnded (IsHandedOn words reader writer errors errors') →
    IfServe outcome (λ service. service.connections ≤ 64)
few_connections words reader writer errors errors' (RunEnd.Ended ended) HasEnded h = tt
few_connections words reader writer errors errors' (RunEnd.Serve service reader' writer') HasEnded h =
    at_most 4 1 64 service.connections (of_serve (codes "connections") (subcommand_of program_words words)) (grind arith)
    h.asks.gives.connects
