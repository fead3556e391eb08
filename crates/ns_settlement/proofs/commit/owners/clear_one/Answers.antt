use Rattle.std.proofs.Common.{ap, refl, sym, ◌∙◌, ◌≡◌}
use Rattle.std.specs.Option.{option_copied_mut}
use Rattle.keyed.proofs.AtBound.{none-insert}
use Rattle.ns_types.proofs.Lists.{left_none, right_none}
use Rattle.ns_settlement.proofs.Owned.{in_place, row_in_place}
use Rattle.ns_settlement.proofs.commit.owners.clear_one.Goals as goal

pub note-requires-2 : goal.note-requires-2
note-requires-2 g c below = none-insert g.Row.Bounded.at_bound c.args.table.now (c.may_be_at_bound-before.ensures (left_none _ _ below))
    c.args.name.now c.clear.new.self (sym c.is_at_bound-at_bound.ensures ∙ right_none _ _ below)

pub returns-clause-rows : goal.returns-clause-rows
returns-clause-rows g c = in_place c.args.name.now c.args.table.now c.note-2.new.self c.clear.new.self c.note-2.ensures
    (λ a b. g.Row.Owner.seen b ≡ g.Row.Owner.seen a) c.in-Some.row.now (sym c.get_mut.ensures.value ∙ ap option_copied_mut c.in-Some.is) c.clear.ensures.rows

pub returns-clause-cleared : goal.returns-clause-cleared
returns-clause-cleared g c = row_in_place c.args.name.now c.args.table.now c.note-2.new.self c.clear.new.self c.note-2.ensures
    (g.Row.Owner.IsCleared c.args.change.now) c.clear.ensures.cleared
