use Rattle.std.proofs.Common.{◌∙◌, ap}
use Rattle.clap.specs.Simple.{app_of_fields}
use Rattle.ns_command_line.proofs.command.options.bare.Goals as goal

pub returns-clause-shape : goal.returns-clause-shape
returns-clause-shape c = ap app_of_fields c.after_help.ensures ∙ (ap app_of_fields c.about.ensures ∙ c.new.ensures.app)
