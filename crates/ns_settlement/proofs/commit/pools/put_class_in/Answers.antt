use Rattle.std.proofs.Common.{ap, sym, ◌∙◌, ◌≡◌}
use Rattle.std.specs.Option.{option_copied_mut}
use Rattle.keyed.proofs.AtBound.{none-insert}
use Rattle.ns_tables.specs.Bound.{is_at_bound}
use Rattle.ns_types.proofs.Lists.{left_none, right_none}
use Rattle.ns_settlement.specs.Committed.{ClassPut}
use Rattle.ns_settlement.proofs.Owned.{in_place}
use Rattle.ns_settlement.proofs.commit.pools.put_class_in.Goals as goal

pub note-requires-2 : goal.note-requires-2
note-requires-2 c below = none-insert (λ p. is_at_bound p.release) c.args.table.now (c.may_be_at_bound-before.ensures (left_none _ _ below))
    c.args.name.now _ (sym c.is_at_bound-at_bound.ensures ∙ right_none _ _ below)

pub returns : goal.returns
returns c = in_place c.args.name.now c.args.table.now c.note-2.new.self c.put_class.new.pool c.note-2.ensures (ClassPut c.args.class)
    c.in-Some.pool.now (sym c.get_mut.ensures.value ∙ ap option_copied_mut c.in-Some.is) c.put_class.ensures
