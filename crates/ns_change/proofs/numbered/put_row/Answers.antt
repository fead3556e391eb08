use Rattle.std.proofs.Common.{ap, sym, ◌∙◌, subst}
use Rattle.std.specs.Option.{option_copied_mut}
use Rattle.ns_types.proofs.Results.{on_ok}
use Rattle.ns_change.specs.Changed.{view}
use Rattle.ns_change.specs.Opened.{Opened}
use Rattle.ns_change.proofs.Opening.{put_in_place, put_open}
use Rattle.ns_change.proofs.numbered.put_row.Goals as goal

pub returns : goal.returns
returns g c = on_ok c.put-put.result
    (λ law. ap (λ m. view c.args.tables.now (record c.open.new.change { tenants = m })) c.set.ensures
    ∙ put_open c.args.tables.now c.args.change.now c.open.new.change c.args.namespace.now (g.R.NumberedRow.put_in c.args.number c.args.row) c.in-Some-2.changed
    c.put-put.new.changed
    (subst (λ x. Opened c.args.tables.now c.args.change.now c.args.namespace.now x c.open.new.change) c.in-Some-2.is c.in_ok-changed.ensures)
    law)
    c.put-put.ensures

pub returns-in-Some : goal.returns-in-Some
returns-in-Some g c = on_ok c.put.result
    (put_in_place c.args.tables.now c.args.change.now c.args.namespace.now (g.R.NumberedRow.put_in c.args.number c.args.row) c.in-Some.changed.now
    c.put.new.changed (sym c.get_mut.ensures.value ∙ ap option_copied_mut c.in-Some.is))
    c.put.ensures
