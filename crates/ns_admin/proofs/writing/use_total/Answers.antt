use Rattle.std.proofs.Common.{ap, sym, ◌∙◌}
use Rattle.std.specs.Option.{option_copied}
use Rattle.ns_admin.proofs.Naming.{used_nowhere, used_there}
use Rattle.ns_admin.proofs.writing.use_total.Goals as goal

pub returns-in-Some : goal.returns-in-Some
returns-in-Some c = used_there c.args.tables.now c.args.name.now c.in-Some.tenant.now (sym c.get.ensures ∙ ap option_copied c.in-Some.is) c.live_total.result
    c.live_total.ensures

pub returns-in-None : goal.returns-in-None
returns-in-None c = used_nowhere c.args.tables.now c.args.name.now (sym c.get.ensures ∙ ap option_copied c.in-None.is) c.none.result c.none.ensures
