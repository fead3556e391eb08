-- The arguments that the words give to the subcommand that they name.
use Rattle.std.specs.Prelude.{List, [], Option, None, option_and_then, unwrap_or, if◌then◌else◌}
use Rattle.std.specs.Str.{bytes_eq}
use Rattle.clap.specs.Words.{Row, Text, all_of, first_of}

-- the subcommand that the words name, and its arguments
abbrev pub Named : Type 0
Named = Option (Text × List Row)

-- the value of this argument of this subcommand, if the words name the subcommand and give the argument
abbrev pub given_for : Text → Text → Named → Option Text
given_for command id named =
    option_and_then (λ p. if bytes_eq p.0 command then first_of id p.1 else None) named

-- all values of this argument of this subcommand, in order; empty, if the words name another one or give no value
abbrev pub all_given_for : Text → Text → Named → List Text
all_given_for command id named =
    unwrap_or (option_and_then (λ p. if bytes_eq p.0 command then all_of id p.1 else None) named) []
