-- Attributes and classes are ordered whole.
use Rattle.std.specs.Prelude.{◌≡◌, T}
use Rattle.std.proofs.Common.{refl, sym, subst}
use Rattle.std.specs.Cmp.{IsTotalOrder, then_total, on_total}
use Rattle.std.specs.Cmp.Lexicographic.{slice_cmp, lists_total}
use Rattle.std.specs.declared.cmp.Ordering.{Ordering}
use Rattle.std.specs.declared.cmp.Ordering.TheVariants.{Less, Equal, Greater}
use Rattle.std.specs.FinMap.{IsAntisymmetric, slice_cmp-IsAntisymmetric}
use Rattle.std.specs.Ordering.{is_eq, ordering_then}
use Rattle.ns_types.specs.declared.node.Attribute.{Attribute}
use Rattle.ns_types.specs.declared.node.Class.{Class}
use Rattle.ns_types.specs.State.Names.{name_cmp, attribute_cmp, class_cmp}
use Rattle.ns_types.proofs.Named.{names, one_name}

-- where one order after another ties, both tie
pub both_equal : (r s : Ordering) → ordering_then r s ≡ Equal → (r ≡ Equal) × (s ≡ Equal)
both_equal Less s e = absurd (subst (λ r. T (is_eq r)) (sym e) tt)
both_equal Equal s e = (refl, e)
both_equal Greater s e = absurd (subst (λ r. T (is_eq r)) (sym e) tt)

pub one_attribute : IsAntisymmetric attribute_cmp
one_attribute a b e = let t = both_equal (name_cmp a.key b.key) (name_cmp a.value b.value) e in
    λ i. record { key = one_name a.key b.key t.0 i; value = one_name a.value b.value t.1 i }

pub by_class : IsTotalOrder class_cmp
by_class = then_total (on_total (λ (c : Class). c.name) names)
    (on_total (λ (c : Class). c.attributes) (lists_total
    (then_total (on_total (λ (a : Attribute). a.key) names) (on_total (λ (a : Attribute). a.value) names))))

pub one_class : IsAntisymmetric class_cmp
one_class a b e =
    let t = both_equal (name_cmp a.name b.name) (slice_cmp attribute_cmp a.attributes b.attributes) e in
    λ i. record { name = one_name a.name b.name t.0 i; attributes = slice_cmp-IsAntisymmetric one_attribute a.attributes b.attributes t.1 i }
