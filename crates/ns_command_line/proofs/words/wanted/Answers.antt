use Rattle.clap.specs.Words.{subcommand_rows_of}
use Rattle.ns_command_line.specs.declared.wanted.Invocation.{Invocation}
use Rattle.ns_command_line.proofs.Wanting.{wanted_unique}
use Rattle.ns_command_line.proofs.words.wanted.Goals as goal

pub returns-in-Some-given-clause-good : goal.returns-in-Some-given-clause-good
returns-in-Some-given-clause-good c = λ wanted is.
    (wanted_unique (subcommand_rows_of c.args.matches.now) (Invocation.Serve c.in_ok-serve_given.field-0) wanted c.in_ok-serve_given.ensures.gives is, tt)
