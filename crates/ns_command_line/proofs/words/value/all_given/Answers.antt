use Rattle.std.proofs.Common.{◌∙◌, [], ap, refl, sym, unwrap_or}
use Rattle.clap.specs.Words.{all_of, found_of, rows_of}
use Rattle.clap.proofs.WalkLemmas.{raw_values-rows}
use Rattle.ns_command_line.proofs.Given.{of_named}
use Rattle.ns_command_line.proofs.words.value.all_given.Goals as goal

pub returns : goal.returns
returns c =
    let found = found_of c.in_ok-matches.matches.now in
    let rows = of_named (all_of c.args.id.now) c.args.command.now c.args.matches.now (rows_of found)
    (c.in_ok-matches.ensures.found.0 refl) c.in_ok-matches.ensures.rows in
    ap (λ all. unwrap_or all []) (c.get_strs.ensures ∙ (raw_values-rows found c.args.id.now ∙ sym rows))
