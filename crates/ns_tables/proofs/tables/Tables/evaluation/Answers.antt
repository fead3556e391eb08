use Rattle.std.proofs.Common.{ap, sym, ◌∙◌}
use Rattle.std.specs.Option.{option_copied}
use Rattle.keyed.specs.Table.{row_at}
use Rattle.ns_tables.proofs.World.{evaluation_nowhere, evaluation_there}
use Rattle.ns_tables.proofs.tables.Tables.evaluation.Goals as goal

pub returns-in-Some : goal.returns-in-Some
returns-in-Some c = c.get-in-Some.ensures ∙ ap (λ m. row_at m c.args.number) c.rows.ensures
    ∙ sym (evaluation_there c.args.self.now c.args.namespace.now c.args.number c.in-Some.tenant.now
    (sym c.get.ensures ∙ ap option_copied c.in-Some.is))

pub returns-in-None : goal.returns-in-None
returns-in-None c = sym (evaluation_nowhere c.args.self.now c.args.namespace.now c.args.number (sym c.get.ensures ∙ ap option_copied c.in-None.is))
