use Rattle.std.proofs.Common.{◌≡◌, ◌∙◌, subst, sym, ap, arith}
use Rattle.std.specs.List.{remove}
use Rattle.keyed.specs.Slots.{Knows, without}
use Rattle.keyed.proofs.Known.{known_removed}
use Rattle.keyed.proofs.Places.{inside_stands}
use Rattle.keyed.proofs.Counted.{size, size_none, size_some, left_sorted, left_counted}
use Rattle.keyed.proofs.slots.Slots.remove.Goals as goal

pub overflow_sub-self : goal.overflow_sub-self
overflow_sub-self g c =
    let law = left_counted g.K.Ord.cmp g.met.K.Ord.total c.args.key.now c.self.inside.slots.items c.in-Some.i
    (inside_stands g.K.Ord.cmp c.args.key.now _ _ c.in-Some.i c.self.view_is c.in-Some.ensures)
    c.remove-slot.result c.remove-slot.ensures.value c.self.inside.filled c.self.invariant.0.0 c.self.invariant.0.1 in
    let held : size c.remove-slot.result.1 ≡ 1 = size_some _ (sym c.if-is_some.ensures) in
    omega arith

pub invariant_of-self : goal.invariant_of-self
invariant_of-self g c =
    let law = left_counted g.K.Ord.cmp g.met.K.Ord.total c.args.key.now c.self.inside.slots.items c.in-Some.i
    (inside_stands g.K.Ord.cmp c.args.key.now _ _ c.in-Some.i c.self.view_is c.in-Some.ensures)
    c.remove-slot.result c.remove-slot.ensures.value c.self.inside.filled c.self.invariant.0.0 c.self.invariant.0.1 in
    let held : size c.remove-slot.result.1 ≡ 1 = size_some _ (sym c.if-is_some.ensures) in
    rw c.remove-slot.ensures.items (
      (
        left_sorted g.K.Ord.cmp g.met.K.Ord.total c.args.key.now c.self.inside.slots.items c.in-Some.i
            (inside_stands g.K.Ord.cmp c.args.key.now _ _ c.in-Some.i c.self.view_is c.in-Some.ensures)
            c.remove-slot.result c.remove-slot.ensures.value c.self.inside.filled c.self.invariant.0.0 c.self.invariant.0.1,
        omega arith,
      ),
      subst (λ known. Knows known (remove c.self.inside.slots.items c.in-Some.i)) (sym c.remove.ensures)
          (known_removed c.self.inside.index c.self.inside.slots.items c.in-Some.i c.self.invariant.1),
    )

pub invariant_of-self-else-is_some : goal.invariant_of-self-else-is_some
invariant_of-self-else-is_some g c =
    let law = left_counted g.K.Ord.cmp g.met.K.Ord.total c.args.key.now c.self.inside.slots.items c.in-Some.i
    (inside_stands g.K.Ord.cmp c.args.key.now _ _ c.in-Some.i c.self.view_is c.in-Some.ensures)
    c.remove-slot.result c.remove-slot.ensures.value c.self.inside.filled c.self.invariant.0.0 c.self.invariant.0.1 in
    let held : size c.remove-slot.result.1 ≡ 0 = size_none _ (sym c.if-is_some.ensures) in
    rw c.remove-slot.ensures.items (
      (
        left_sorted g.K.Ord.cmp g.met.K.Ord.total c.args.key.now c.self.inside.slots.items c.in-Some.i
            (inside_stands g.K.Ord.cmp c.args.key.now _ _ c.in-Some.i c.self.view_is c.in-Some.ensures)
            c.remove-slot.result c.remove-slot.ensures.value c.self.inside.filled c.self.invariant.0.0 c.self.invariant.0.1,
        omega arith,
      ),
      subst (λ known. Knows known (remove c.self.inside.slots.items c.in-Some.i)) (sym c.remove.ensures)
          (known_removed c.self.inside.index c.self.inside.slots.items c.in-Some.i c.self.invariant.1),
    )

pub returns-then-is_some : goal.returns-then-is_some
returns-then-is_some g c =
    c.remove-slot.ensures.items ∙ (inside_stands g.K.Ord.cmp c.args.key.now _ _ c.in-Some.i c.self.view_is c.in-Some.ensures).without_is ∙
    ap (without g.K.Ord.cmp c.args.key.now) c.self.view_is

pub returns-in-Some : goal.returns-in-Some
returns-in-Some g c =
    c.remove-slot.ensures.items ∙ (inside_stands g.K.Ord.cmp c.args.key.now _ _ c.in-Some.i c.self.view_is c.in-Some.ensures).without_is ∙
    ap (without g.K.Ord.cmp c.args.key.now) c.self.view_is

pub returns : goal.returns
returns g c = sym c.in_default.ensures.without_is
