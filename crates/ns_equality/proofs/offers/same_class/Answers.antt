use Rattle.std.proofs.Common.{ap, sym, ◌∙◌}
use Rattle.std.specs.Prelude.{◌&&◌}
use Rattle.std.specs.Cmp.Lexicographic.{pointwise}
use Rattle.std.specs.Ordering.{eq_by_cmp}
use Rattle.ns_types.specs.State.Names.{attribute_cmp}
use Rattle.ns_equality.proofs.Classes.{class_ties}
use Rattle.ns_equality.proofs.offers.same_class.Goals as goal

pub returns-then-same_text : goal.returns-then-same_text
returns-then-same_text c =
    let whole = pointwise (eq_by_cmp attribute_cmp) c.args.a.now.attributes c.args.b.now.attributes in
    c.same_attributes.ensures ∙ (λ i. pointwise (eq_by_cmp attribute_cmp) (c.as_slice.ensures i) (c.as_slice-then-same_text.ensures i))
    ∙ ap (λ b. b && whole) (sym c.if-same_text.true ∙ c.same_text.ensures) ∙ class_ties c.args.a.now c.args.b.now
