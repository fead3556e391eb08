use Rattle.std.proofs.Common.{◌∙◌, ap, true}
use Rattle.clap.specs.Simple.{app_of_fields, on_top}
use Rattle.clap.specs.Words.{App}
use Rattle.ns_command_line.proofs.command.bare.Goals as goal

-- a subcommand has to be there
abbrev required : App → App
required a = on_top (λ top. record top { subcommand_required = true }) a

pub returns : goal.returns
returns c = ap app_of_fields c.subcommand_required.ensures ∙ ap required c.bare.ensures.shape
