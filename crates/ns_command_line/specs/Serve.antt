-- The words of `serve`.
use Rattle.std.specs.Prelude.{◌≡◌, List, [], ◌∷◌, Option, Some, true, codes, fold}
use Rattle.std.specs.Net.Grammar.{IsSocketText}
use Rattle.clap.specs.Words.{App, Rule, Text, new_app, new_rule, with_rule}
use Rattle.ns_listener.specs.declared.service.Service.{Service}
use Rattle.ns_arguments.specs.Values.{accept_by, connections_by, idle_by, log_limit_by, rotate_by, rotate_bytes_by, secret_by, workers_by}
use Rattle.ns_command_line.specs.Given.{Named, given_for}

-- `--listen ADDR`, which has to be there
abbrev pub listen_rule : Rule
listen_rule =
    record (new_rule (codes "listen")) { long = Some (codes "listen"); value_names = 1; required = true }

-- an option with a value, which may be left out
abbrev pub option_rule : Text → Rule
option_rule name = record (new_rule name) { long = Some name; value_names = 1 }

abbrev pub serve_rules : List Rule
serve_rules =
    listen_rule ∷ option_rule (codes "bootstrap") ∷ option_rule (codes "workers")
    ∷ option_rule (codes "connections") ∷ option_rule (codes "accept") ∷ option_rule (codes "idle")
    ∷ option_rule (codes "log-limit") ∷ option_rule (codes "rotate") ∷ option_rule (codes "rotate-bytes") ∷ []

abbrev pub serve_words : App
serve_words = fold with_rule (new_app (codes "serve")) serve_rules

-- the value of this argument of `serve`
abbrev pub of_serve : Text → Named → Option Text
of_serve = given_for (codes "serve")

-- the arguments of `serve` give these settings
pub record IsServe (named : Named) (service : Service) : Type 0 where
  pub address : Text
  pub given : of_serve (codes "listen") named ≡ Some address
  pub listens : IsSocketText address service.address
  pub starts : secret_by (of_serve (codes "bootstrap") named) ≡ Some service.bootstrap
  pub works : workers_by (of_serve (codes "workers") named) ≡ Some service.workers
  pub connects : connections_by (of_serve (codes "connections") named) ≡ Some service.connections
  pub ends : accept_by (of_serve (codes "accept") named) ≡ Some service.accept
  pub waits : idle_by (of_serve (codes "idle") named) ≡ Some service.idle
  pub keeps : log_limit_by (of_serve (codes "log-limit") named) ≡ Some service.log_limit
  pub rotates : rotate_by service.log_limit (of_serve (codes "rotate") named) ≡ Some service.rotate
  pub weighs : rotate_bytes_by service.rotate (of_serve (codes "rotate-bytes") named) ≡ Some service.rotate_bytes
