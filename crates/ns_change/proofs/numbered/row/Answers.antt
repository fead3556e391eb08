use Rattle.std.proofs.Common.{ap, sym, ◌∙◌}
use Rattle.std.specs.Option.{option_copied, option_and_then}
use Rattle.std.specs.FinMap.{get}
use Rattle.keyed.proofs.Tables.{get-rows}
use Rattle.keyed.specs.Over.{over}
use Rattle.ns_types.proofs.Named.{numbers}
use Rattle.ns_types.specs.State.Rows.{Tenant}
use Rattle.ns_tables.specs.World.{tenant_of}
use Rattle.ns_change.proofs.Seen.{changed_seen, kept_seen, none_seen}
use Rattle.ns_change.proofs.numbered.row.Goals as goal

pub returns-in_default : goal.returns-in_default
returns-in_default g c = sym (ap (option_and_then (λ (t : Tenant). get (g.R.NumberedRow.rows_of t) c.args.number))
    (none_seen c.args.tables.now c.args.change.now c.args.namespace.now (sym c.get.ensures ∙ ap option_copied c.in_default.is)))

pub returns-in-Some-get : goal.returns-in-Some-get
returns-in-Some-get g c = c.get_over.ensures ∙ ap (λ m. get (over m c.changed.result.now) c.args.number) c.stored.ensures
    ∙ ap (λ m. get m c.args.number) (c.changed.ensures (tenant_of c.in-Some.tenant.now))
    ∙ sym (ap (option_and_then (λ (t : Tenant). get (g.R.NumberedRow.rows_of t) c.args.number))
    (changed_seen c.args.tables.now c.args.change.now c.args.namespace.now _ _ (sym c.get.ensures ∙ ap option_copied c.in-Some.is)
    (sym c.get-2.ensures ∙ ap option_copied c.in-Some-get.is)))

pub returns-in-None : goal.returns-in-None
returns-in-None g c = c.get-in-None.ensures ∙ sym (get-rows numbers c.stored-in-None.result.now c.args.number)
    ∙ ap (λ m. get m c.args.number) c.stored-in-None.ensures
    ∙ sym (ap (option_and_then (λ (t : Tenant). get (g.R.NumberedRow.rows_of t) c.args.number))
    (kept_seen c.args.tables.now c.args.change.now c.args.namespace.now _ (sym c.get.ensures ∙ ap option_copied c.in-Some.is)
    (sym c.get-2.ensures ∙ ap option_copied c.in-None.is)))
