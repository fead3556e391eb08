-- Equality of attributes and classes, as the program tests it and as the model says it.
use Rattle.std.specs.Prelude.{◌≡◌, List, [], ◌∷◌, ◌&&◌}
use Rattle.std.proofs.Common.{refl, ap, ◌∙◌, Ordering}
use Rattle.std.specs.Cmp.{tied_then}
use Rattle.std.specs.Cmp.Lexicographic.{pointwise, slice_cmp}
use Rattle.std.specs.Ordering.{eq_by_cmp}
use Rattle.ns_types.specs.declared.node.Attribute.{Attribute}
use Rattle.ns_types.specs.declared.node.Class.{Class}
use Rattle.ns_types.specs.State.Names.{attribute_cmp, name_cmp, same_class, same_name}

pub attribute_ties : (a b : Attribute) → (same_name a.key b.key && same_name a.value b.value) ≡ eq_by_cmp attribute_cmp a b
attribute_ties a b = tied_then (name_cmp a.key b.key) (name_cmp a.value b.value)

slice_ties : {A : Type 0} (cmp : A → A → Ordering) (xs ys : List A) → pointwise (eq_by_cmp cmp) xs ys ≡ eq_by_cmp (slice_cmp cmp) xs ys
slice_ties cmp [] [] = refl
slice_ties cmp [] (y ∷ ys) = refl
slice_ties cmp (x ∷ xs) [] = refl
slice_ties cmp (x ∷ xs) (y ∷ ys) = ap (λ b. eq_by_cmp cmp x y && b) (slice_ties cmp xs ys) ∙ tied_then (cmp x y) (slice_cmp cmp xs ys)

pub class_ties : (a b : Class) → (same_name a.name b.name && pointwise (eq_by_cmp attribute_cmp) a.attributes b.attributes) ≡ same_class a b
class_ties a b = ap (λ r. same_name a.name b.name && r) (slice_ties attribute_cmp a.attributes b.attributes) ∙
    tied_then (name_cmp a.name b.name) (slice_cmp attribute_cmp a.attributes b.attributes)
