use Rattle.std.proofs.Common.{ap, refl, sym, ◌∙◌, ◌≡◌}
use Rattle.std.specs.Option.{option_copied_mut}
use Rattle.std.specs.Prelude.{true}
use Rattle.keyed.proofs.AtBound.{none-insert}
use Rattle.ns_tables.specs.Bound.{is_at_bound}
use Rattle.ns_types.proofs.Lists.{left_none, right_none}
use Rattle.ns_settlement.specs.Committed.{raised_pool}
use Rattle.ns_settlement.proofs.Owned.{in_place}
use Rattle.ns_settlement.proofs.commit.pools.raise_pool.Goals as goal

pub note-requires-2 : goal.note-requires-2
note-requires-2 c below = none-insert (λ p. is_at_bound p.release) c.args.table.now (c.may_be_at_bound-before.ensures (left_none _ _ below))
    c.args.name.now _ (sym c.is_at_bound-at_bound.ensures ∙ right_none _ _ below)

pub returns : goal.returns
returns c = in_place c.args.name.now c.args.table.now c.note-2.new.self _ c.note-2.ensures (λ a b. b ≡ raised_pool true a) c.in-Some.pool.now
    (sym c.get_mut.ensures.value ∙ ap option_copied_mut c.in-Some.is) refl
