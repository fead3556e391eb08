use Rattle.std.proofs.Common.{◌≡◌, ◌++◌, not, filter, drop}
use Rattle.ns_types.specs.State.Rows.{is_unique}
use Rattle.ns_equality.proofs.offers.shared_attributes.Given as goal

abbrev pub invariant-loop-attribute : goal.invariant-loop-attribute
invariant-loop-attribute l = l.rows ++ filter (λ a. not (is_unique a.key)) (drop l.attribute-index l.attributes) ≡ filter (λ a. not (is_unique a.key))
    l.attributes
