use Rattle.std.proofs.Common.{◌∙◌, refl, sym}
use Rattle.clap.specs.Words.{first_of, found_of, rows_of}
use Rattle.clap.proofs.WalkLemmas.{first_value-rows}
use Rattle.ns_command_line.proofs.Given.{of_named}
use Rattle.ns_command_line.proofs.words.value.given.Goals as goal

pub returns : goal.returns
returns c =
    let found = found_of c.in_ok-matches.matches.now in
    let rows = of_named (first_of c.args.id.now) c.args.command.now c.args.matches.now (rows_of found)
    (c.in_ok-matches.ensures.found.0 refl) c.in_ok-matches.ensures.rows in
    c.get_str.ensures ∙ (first_value-rows found c.args.id.now ∙ sym rows)
