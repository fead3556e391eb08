use Rattle.std.proofs.Common.{sym, ◌∙◌}
use Rattle.keyed.proofs.AtBound.{none-insert}
use Rattle.ns_tables.specs.Bound.{is_at_bound}
use Rattle.ns_types.proofs.Lists.{left_none, right_none}
use Rattle.ns_tests.proofs.state.bounds.indexed.Goals as goal

pub note-requires : goal.note-requires
note-requires g c below = none-insert (λ t. is_at_bound t.index) c.args.tenants.now (c.may_be_at_bound-before.ensures (left_none _ _ below))
    c.text-name.result _ (sym c.is_at_bound-at_bound.ensures ∙ right_none _ _ below)
