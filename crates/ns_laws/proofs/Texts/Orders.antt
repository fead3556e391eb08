-- The orders of attributes and of classes.
use Rattle.std.specs.Prelude.{◌≡◌, ◌≢◌, ◌⊎◌, true}
use Rattle.std.specs.Cmp.{IsTotalOrder, on_total, then_total, tied_itself}
use Rattle.std.specs.FinMap.{IsAntisymmetric}
use Rattle.std.specs.Ordering.{eq_by_cmp, is_eq, is_lt, ordering_reverse}
use Rattle.std.proofs.Common.{Ordering, Equal, Greater, Less, inl, inr, refl, ap, subst, ◌∙◌}
use Rattle.ns_types.specs.declared.node.Attribute.{Attribute}
use Rattle.ns_types.specs.State.Names.{attribute_cmp, class_cmp}
use Rattle.ns_types.proofs.Classes.{by_class, one_attribute, one_class}
use Rattle.ns_types.proofs.Lists.{not_both}
use Rattle.ns_types.proofs.Named.{names}
use Rattle.ns_types.proofs.Tables.{tied}
use Rattle.ns_laws.specs.Names as law
use Rattle.ns_laws.specs.Names.{IsOrder}

is_less : (r : Ordering) → is_lt r ≡ true → r ≡ Less
is_less Less e = refl
is_less Equal e = not_both e refl
is_less Greater e = not_both e refl

module _ {A : Type 0} (R : A → A → Ordering) (total : IsTotalOrder R) (one : IsAntisymmetric R) where
  reversed : (a b : A) (r : Ordering) → R a b ≡ r → R b a ≡ ordering_reverse r
  reversed a b r is = total.antisymm b a ∙ ap ordering_reverse is

  either : (a b : A) (r : Ordering) → R a b ≡ r → a ≢ b → (is_lt (R a b) ≡ true) ⊎ (is_lt (R b a) ≡ true)
  either a b Less is differ = inl (ap is_lt is)
  either a b Equal is differ = absurd (differ (one a b is))
  either a b Greater is differ = inr (ap is_lt (reversed a b Greater is))

  ordered : IsOrder R
  ordered = record {
    same = λ a b. (tied one a b, (λ same. subst (λ c. eq_by_cmp R a c ≡ true) same (ap is_eq (tied_itself total a))));
    either = λ a b differ. either a b (R a b) refl differ;
    one_way = λ a b e. ap is_lt (reversed a b Less (is_less (R a b) e));
    onward = λ a b c e f. ap is_lt (total.trans a b c (is_less (R a b) e) (is_less (R b c) f));
  }

by_attribute : IsTotalOrder attribute_cmp
by_attribute = then_total (on_total (λ (a : Attribute). a.key) names) (on_total (λ (a : Attribute). a.value) names)

pub attributes_are_ordered : law.AttributesAreOrdered
attributes_are_ordered = ordered attribute_cmp by_attribute one_attribute

pub classes_are_ordered : law.ClassesAreOrdered
classes_are_ordered = ordered class_cmp by_class one_class
