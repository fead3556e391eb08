use Rattle.std.specs.Prelude.{Some, None}
use Rattle.std.proofs.Common.{sym, ap, ◌∙◌}
use Rattle.std.specs.Option.{option_copied}
use Rattle.ns_admin.proofs.World.{pool_there}
use Rattle.ns_admin.proofs.looking.has_pool.Goals as goal

pub returns-in-Some : goal.returns-in-Some
returns-in-Some c = sym (pool_there c.args.tables.now c.args.name.now (Some _) (sym c.get.ensures ∙ ap option_copied c.in-Some.is))

pub returns-in-None : goal.returns-in-None
returns-in-None c = sym (pool_there c.args.tables.now c.args.name.now None (sym c.get.ensures ∙ ap option_copied c.in-None.is))
