use Rattle.std.proofs.Common.{ap, sym, ◌∙◌}
use Rattle.std.specs.Option.{option_copied}
use Rattle.std.specs.Prelude.{is_some}
use Rattle.ns_tables.proofs.World.{quota_there}
use Rattle.ns_tables.proofs.tables.Tables.has_quota.Goals as goal

pub returns-in-Some : goal.returns-in-Some
returns-in-Some c = sym (quota_there c.args.self.now c.args.name.now ∙ ap is_some (sym c.get.ensures ∙ ap option_copied c.in-Some.is))

pub returns-in-None : goal.returns-in-None
returns-in-None c = sym (quota_there c.args.self.now c.args.name.now ∙ ap is_some (sym c.get.ensures ∙ ap option_copied c.in-None.is))
