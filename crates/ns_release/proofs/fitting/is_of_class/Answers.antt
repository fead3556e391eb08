use Rattle.std.proofs.Common.{ap, sym, ◌∙◌, not, filter}
use Rattle.std.specs.Prelude.{◌&&◌}
use Rattle.std.specs.Cmp.Lexicographic.{pointwise}
use Rattle.std.specs.Ordering.{eq_by_cmp}
use Rattle.ns_types.specs.State.Names.{attribute_cmp}
use Rattle.ns_types.specs.State.Rows.{is_unique, offered_class}
use Rattle.ns_equality.proofs.Classes.{class_ties}
use Rattle.ns_release.proofs.fitting.is_of_class.Goals as goal

pub returns-then-same_text : goal.returns-then-same_text
returns-then-same_text c =
    let whole = pointwise (eq_by_cmp attribute_cmp) (offered_class c.args.offer.now).attributes c.args.class.now.attributes in
    c.are_shared.ensures ∙ (λ i. pointwise (eq_by_cmp attribute_cmp) (filter (λ a. not (is_unique a.key)) (c.as_slice.ensures i))
    (c.as_slice-then-same_text.ensures i))
    ∙ ap (λ b. b && whole) (sym c.if-same_text.true ∙ c.same_text.ensures) ∙ class_ties (offered_class c.args.offer.now) c.args.class.now
