use Rattle.std.proofs.Common.{ap, sym, ◌∙◌, rules, ◌+◌, ◌<◌, ◌^◌}
use Rattle.std.specs.Option.{option_copied, option_copied_mut}
use Rattle.ns_types.proofs.Named.{names, one_name}
use Rattle.ns_types.proofs.Tables.{insert_same}
use Rattle.ns_change.proofs.Counted.{counted_again, node_again, slot_of_row}
use Rattle.ns_change.proofs.placing.count_again.Goals as goal

pub returns-in_default-get_mut-2-clause-same : goal.returns-in_default-get_mut-2-clause-same
returns-in_default-get_mut-2-clause-same c is = λ i. record c.args.change.now {
  pools = insert_same names one_name c.args.change.now.pools c.args.pool.now _
      (slot_of_row c.args.change.now.pools c.args.pool.now _ (sym c.get_mut.ensures.value ∙ ap option_copied_mut c.in-Some-get_mut.is)) i;
}

pub overflow_add-row : goal.overflow_add-row
overflow_add-row c = let left : c.in-Some-get_mut-2.row.now.places + 1 < 2 ^ 64 = c.requires c.in-Some-get_mut-2.row.now
    (node_again c.args.tables.now c.args.change.now c.args.pool.now c.args.name.now c.in-Some._stored.now c.in-Some-get_mut.changed.now
    c.in-Some-get_mut-2.row.now (sym c.get.ensures ∙ ap option_copied c.in-Some.is)
    (sym c.get_mut.ensures.value ∙ ap option_copied_mut c.in-Some-get_mut.is)
    (sym c.get_mut-2.ensures.value ∙ ap option_copied_mut c.in-Some-get_mut-2.is)) in search rules

pub returns-clause-counted : goal.returns-clause-counted
returns-clause-counted c is =
    counted_again c.args.tables.now c.args.change.now c.args.pool.now c.args.name.now c.in-Some._stored.now c.in-Some-get_mut.changed.now
    c.in-Some-get_mut-2.row.now (sym c.get.ensures ∙ ap option_copied c.in-Some.is)
    (sym c.get_mut.ensures.value ∙ ap option_copied_mut c.in-Some-get_mut.is)
    (sym c.get_mut-2.ensures.value ∙ ap option_copied_mut c.in-Some-get_mut-2.is)
