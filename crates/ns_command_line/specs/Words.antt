-- The words that the program takes, as `clap` reads them.
use Rattle.std.specs.Prelude.{◌≡◌, ◌⊎◌, List, [], ◌∷◌, Option, Some, None, codes, fold, true, if◌then◌else◌}
use Rattle.std.specs.Str.{bytes_eq}
use Rattle.clap.specs.Simple.{on_top}
use Rattle.clap.specs.Words.{App, Rule, Text}
use Rattle.clap.specs.Words.{IsAmong, fault_of, kind_of, new_app, new_rule, subcommand_of, with_rule, with_subcommand}
use Rattle.clap.specs.declared.builder.action.ArgAction.TheVariants.{Append, SetTrue}
use Rattle.clap.specs.declared.error.Error.{Error}
use Rattle.clap.specs.declared.error.kind.ErrorKind.{ErrorKind}
use Rattle.ns_api.specs.declared.following.Driven.{Driven}
use Rattle.ns_pipe.specs.declared.asked.WordsRead.{WordsRead}
use Rattle.ns_pipe.specs.declared.printed.Printed.{Printed}
use Rattle.ns_pipe.specs.declared.replay.replay.Replay.{Replay}
use Rattle.ns_listener.specs.declared.service.Service.{Service}
use Rattle.ns_types.specs.declared.name.NameKind.TheVariants as NameKind
use Rattle.ns_types.specs.State.Name.{is_name}
use Rattle.ns_command_line.specs.declared.wanted.Invocation.{Invocation}
use Rattle.ns_arguments.specs.Values.{count_by, names_by}
use Rattle.ns_command_line.specs.Given.{Named, all_given_for, given_for}
use Rattle.ns_command_line.specs.Serve.{IsServe, serve_words}

-- `--bootstrap SECRET`, which has to be there
abbrev pub bootstrap_rule : Rule
bootstrap_rule =
    record (new_rule (codes "bootstrap")) { long = Some (codes "bootstrap"); value_names = 1; required = true }

-- `--drive`, which has no value
abbrev pub drive_rule : Rule
drive_rule = record (new_rule (codes "drive")) { long = Some (codes "drive"); action = Some SetTrue }

-- `--print WHAT`
abbrev pub print_rule : Rule
print_rule = record (new_rule (codes "print")) { long = Some (codes "print"); value_names = 1 }

abbrev pub pipe_rules : List Rule
pipe_rules = bootstrap_rule ∷ drive_rule ∷ print_rule ∷ []

abbrev pub pipe_words : App
pipe_words = fold with_rule (new_app (codes "pipe")) pipe_rules

-- the namespace, which has to be there
abbrev pub namespace_rule : Rule
namespace_rule = record (new_rule (codes "namespace")) { value_names = 1; required = true }

-- `--from COUNT`
abbrev pub from_rule : Rule
from_rule = record (new_rule (codes "from")) { long = Some (codes "from"); value_names = 1 }

-- `--pool NAME`, any number of times
abbrev pub pool_rule : Rule
pool_rule = record (new_rule (codes "pool")) { long = Some (codes "pool"); value_names = 1; action = Some Append }

-- `--quota NAME`, any number of times
abbrev pub quota_rule : Rule
quota_rule = record (new_rule (codes "quota")) { long = Some (codes "quota"); value_names = 1; action = Some Append }

abbrev pub alone_rules : List Rule
alone_rules = namespace_rule ∷ from_rule ∷ pool_rule ∷ quota_rule ∷ []

abbrev pub alone_words : App
alone_words = fold with_rule (new_app (codes "alone")) alone_rules

-- the program without its subcommands, one of which has to be named
abbrev pub bare_words : App
bare_words = on_top (λ top. record top { subcommand_required = true }) (new_app (codes "nsd"))

abbrev pub subcommands : List App
subcommands = pipe_words ∷ serve_words ∷ alone_words ∷ []

-- the program with this subcommand added
abbrev pub with_app : App → App → App
with_app program command = with_subcommand program command.top

abbrev pub program_words : App
program_words = fold with_app bare_words subcommands

-- ---- what `clap` finds in the words

-- `clap` finds no fault in the words
abbrev pub AreTaken : List Text → Type 0
AreTaken words = fault_of program_words words ≡ []

-- the fault is a request for help, or for the version
abbrev pub IsWish : ErrorKind → Type 0
IsWish kind = (kind ≡ ErrorKind.DisplayHelp) ⊎ (kind ≡ ErrorKind.DisplayVersion)

-- the only fault is a request for help
abbrev pub AskHelp : List Text → Type 0
AskHelp words = fault_of program_words words ≡ ErrorKind.DisplayHelp ∷ []

-- `clap` finds a fault in the words, and no request for help or for the version
pub record AreRefused (words : List Text) : Type 0 where
  pub faulty : AreTaken words → ⊥
  pub no_wish : (kind : ErrorKind) → IsAmong kind (fault_of program_words words) → IsWish kind → ⊥

-- ---- `pipe`

-- whether a worker is driven: a flag that is given has the value `true`
abbrev pub driven_by : Option Text → Driven
driven_by None = Driven.Nobody
driven_by (Some text) = if bytes_eq text (codes "true") then Driven.Worker else Driven.Nobody

-- what is printed: the replies, if nothing is given
abbrev pub printed_by : Option Text → Option Printed
printed_by None = Some Printed.Replies
printed_by (Some text) =
    if bytes_eq text (codes "replies") then Some Printed.Replies
    else if bytes_eq text (codes "log") then Some Printed.Log else None

-- the arguments of `pipe` give this secret, which is a valid one, and say whether a worker is driven and what is printed
pub record IsPipe (named : Named) (secret : Text) (driven : Driven) (printed : Printed) : Type 0 where
  pub given : given_for (codes "pipe") (codes "bootstrap") named ≡ Some secret
  pub is_secret : is_name NameKind.Secret secret ≡ true
  pub drives : driven_by (given_for (codes "pipe") (codes "drive") named) ≡ driven
  pub prints : printed_by (given_for (codes "pipe") (codes "print") named) ≡ Some printed

abbrev pub Gives : List Text → Text → Driven → Printed → Type 0
Gives words = IsPipe (subcommand_of program_words words)

-- good words: `clap` takes them, and they give this secret and say whether a worker is driven and what is printed
pub record Asks (words : List Text) (secret : Text) (driven : Driven) (printed : Printed) : Type 0 where
  pub taken : AreTaken words
  pub gives : Gives words secret driven printed

-- ---- `alone`

-- the arguments of `alone` give this replay: the namespace, the count of entries, and all pools and all quotas in order; each
-- name is a valid one
pub record IsAlone (named : Named) (replay : Replay) : Type 0 where
  pub given : given_for (codes "alone") (codes "namespace") named ≡ Some replay.namespace
  pub is_namespace : is_name NameKind.Namespace replay.namespace ≡ true
  pub begins : count_by (given_for (codes "alone") (codes "from") named) ≡ Some replay.from
  pub its_pools : names_by NameKind.Pool (all_given_for (codes "alone") (codes "pool") named) ≡ Some replay.pools
  pub its_quotas : names_by NameKind.Quota (all_given_for (codes "alone") (codes "quota") named) ≡ Some replay.quotas

abbrev pub GivesAlone : List Text → Replay → Type 0
GivesAlone words = IsAlone (subcommand_of program_words words)

-- good words: `clap` takes them, and they ask for this replay
pub record AsksAlone (words : List Text) (replay : Replay) : Type 0 where
  pub taken : AreTaken words
  pub gives : GivesAlone words replay

-- ---- `serve`

abbrev pub GivesServe : List Text → Service → Type 0
GivesServe words = IsServe (subcommand_of program_words words)

-- good words: `clap` takes them, and they ask for a server with these settings
pub record AsksServe (words : List Text) (service : Service) : Type 0 where
  pub taken : AreTaken words
  pub gives : GivesServe words service

-- ---- all of them

-- the arguments of the named subcommand ask for this
abbrev pub IsWanted : Named → Invocation → Type 0
IsWanted named (Invocation.Serve service) = IsServe named service
IsWanted named (Invocation.Run (WordsRead.Pipe secret driven printed)) = IsPipe named secret driven printed
IsWanted named (Invocation.Run (WordsRead.Alone replay)) = IsAlone named replay
IsWanted named (Invocation.Run (WordsRead.Help help)) = ⊥
IsWanted named (Invocation.Run (WordsRead.Mistake reason)) = ⊥
IsWanted named (Invocation.Run WordsRead.NoMemory) = ⊥

-- ---- bad words

-- `clap` takes the words, and a value among them is not what it has to be
pub record IsMisgiven (words : List Text) : Type 0 where
  pub taken : AreTaken words
  pub no_pipe : (secret : Text) (driven : Driven) (printed : Printed) → Gives words secret driven printed → ⊥
  pub no_alone : (replay : Replay) → GivesAlone words replay → ⊥
  pub no_serve : (service : Service) → GivesServe words service → ⊥

-- `clap` refuses the words, or a value among them is bad
abbrev pub AreBad : List Text → Type 0
AreBad words = AreRefused words ⊎ IsMisgiven words

-- a value is refused, or there was no memory to say so
abbrev pub IsRefusal : Error → Type 0
IsRefusal error = (kind_of error ≡ ErrorKind.ValueValidation) ⊎ (kind_of error ≡ ErrorKind.OutOfMemory)
