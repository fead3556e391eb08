use Rattle.std.proofs.Common.{◌≡◌, ◌∙◌, None, cond, sym, ap, arith, set}
use Rattle.std.specs.Prelude.{is_some}
use Rattle.std.specs.FinMap.Entries.{find, put}
use Rattle.keyed.specs.Table.{flat}
use Rattle.keyed.proofs.Known.{known_set}
use Rattle.keyed.proofs.Places.{inside_stands}
use Rattle.keyed.proofs.Counted.{size, size_none, size_some, at_key, set_is_put, set_sorted, set_counted}
use Rattle.keyed.proofs.slots.Slots.take.Goals as goal

pub overflow_sub-self : goal.overflow_sub-self
overflow_sub-self g c =
    let law = set_counted g.K.Ord.cmp g.met.K.Ord.total c.args.key.now c.self.inside.slots.items c.in-Some.i
    (inside_stands g.K.Ord.cmp c.args.key.now _ _ c.in-Some.i c.self.view_is c.in-Some.ensures)
    c.index_mut.result.now c.index_mut.ensures.value c.self.inside.filled c.self.invariant.0.0 c.self.invariant.0.1 None in
    let held : size c.index_mut.result.now.1 ≡ 1 = ap size (sym c.take-row.ensures.value) ∙ size_some _ (sym c.if-is_some.ensures) in
    omega arith

pub invariant_of-self : goal.invariant_of-self
invariant_of-self g c =
    let law = set_counted g.K.Ord.cmp g.met.K.Ord.total c.args.key.now c.self.inside.slots.items c.in-Some.i
    (inside_stands g.K.Ord.cmp c.args.key.now _ _ c.in-Some.i c.self.view_is c.in-Some.ensures)
    c.index_mut.result.now c.index_mut.ensures.value c.self.inside.filled c.self.invariant.0.0 c.self.invariant.0.1 None in
    let held : size c.index_mut.result.now.1 ≡ 1 = ap size (sym c.take-row.ensures.value) ∙ size_some _ (sym c.if-is_some.ensures) in
    rw c.take-row.ensures.after (
      (
        set_sorted g.K.Ord.cmp g.met.K.Ord.total c.args.key.now c.self.inside.slots.items c.in-Some.i
            (inside_stands g.K.Ord.cmp c.args.key.now _ _ c.in-Some.i c.self.view_is c.in-Some.ensures)
            c.index_mut.result.now c.index_mut.ensures.value c.self.inside.filled c.self.invariant.0.0 c.self.invariant.0.1 None,
        omega arith,
      ),
      known_set c.self.inside.index c.self.inside.slots.items c.in-Some.i c.index_mut.result.now (None)
          (inside_stands g.K.Ord.cmp c.args.key.now _ _ c.in-Some.i c.self.view_is c.in-Some.ensures).within c.index_mut.ensures.value c.self.invariant.1,
    )

pub invariant_of-self-else-is_some : goal.invariant_of-self-else-is_some
invariant_of-self-else-is_some g c =
    let law = set_counted g.K.Ord.cmp g.met.K.Ord.total c.args.key.now c.self.inside.slots.items c.in-Some.i
    (inside_stands g.K.Ord.cmp c.args.key.now _ _ c.in-Some.i c.self.view_is c.in-Some.ensures)
    c.index_mut.result.now c.index_mut.ensures.value c.self.inside.filled c.self.invariant.0.0 c.self.invariant.0.1 None in
    let held : size c.index_mut.result.now.1 ≡ 0 = ap size (sym c.take-row.ensures.value) ∙ size_none _ (sym c.if-is_some.ensures) in
    rw c.take-row.ensures.after (
      (
        set_sorted g.K.Ord.cmp g.met.K.Ord.total c.args.key.now c.self.inside.slots.items c.in-Some.i
            (inside_stands g.K.Ord.cmp c.args.key.now _ _ c.in-Some.i c.self.view_is c.in-Some.ensures)
            c.index_mut.result.now c.index_mut.ensures.value c.self.inside.filled c.self.invariant.0.0 c.self.invariant.0.1 None,
        omega arith,
      ),
      known_set c.self.inside.index c.self.inside.slots.items c.in-Some.i c.index_mut.result.now (None)
          (inside_stands g.K.Ord.cmp c.args.key.now _ _ c.in-Some.i c.self.view_is c.in-Some.ensures).within c.index_mut.ensures.value c.self.invariant.1,
    )

pub returns-then-is_some-clause-slots : goal.returns-then-is_some-clause-slots
returns-then-is_some-clause-slots g c =
    ap (λ x. set c.self.inside.slots.items c.in-Some.i (c.index_mut.result.now.0, x)) c.take-row.ensures.after
    ∙ set_is_put g.K.Ord.cmp g.met.K.Ord.total c.args.key.now c.self.inside.slots.items c.in-Some.i
    (inside_stands g.K.Ord.cmp c.args.key.now _ _ c.in-Some.i c.self.view_is c.in-Some.ensures)
    c.index_mut.result.now c.index_mut.ensures.value c.self.inside.filled c.self.invariant.0.0 c.self.invariant.0.1 None ∙
    ap (put g.K.Ord.cmp c.args.key.now None) c.self.view_is
    ∙ sym (ap (λ x. cond (is_some x) (put g.K.Ord.cmp c.args.key.now None c.args.self.now) c.args.self.now) (c.in-Some.ensures.find_is c.index_mut.result.now))

pub returns-else-is_some-clause-slots : goal.returns-else-is_some-clause-slots
returns-else-is_some-clause-slots g c =
    ap (λ x. set c.self.inside.slots.items c.in-Some.i (c.index_mut.result.now.0, x)) c.take-row.ensures.after
    ∙ set_is_put g.K.Ord.cmp g.met.K.Ord.total c.args.key.now c.self.inside.slots.items c.in-Some.i
    (inside_stands g.K.Ord.cmp c.args.key.now _ _ c.in-Some.i c.self.view_is c.in-Some.ensures)
    c.index_mut.result.now c.index_mut.ensures.value c.self.inside.filled c.self.invariant.0.0 c.self.invariant.0.1 None ∙
    ap (put g.K.Ord.cmp c.args.key.now None) c.self.view_is
    ∙ sym (ap (λ x. cond (is_some x) (put g.K.Ord.cmp c.args.key.now None c.args.self.now) c.args.self.now) (c.in-Some.ensures.find_is c.index_mut.result.now))

pub returns-then-is_some-clause-row : goal.returns-then-is_some-clause-row
returns-then-is_some-clause-row g c =
    c.take-row.ensures.value ∙ sym (at_key g.K.Ord.cmp g.met.K.Ord.total c.args.key.now c.self.inside.slots.items c.in-Some.i
    (inside_stands g.K.Ord.cmp c.args.key.now _ _ c.in-Some.i c.self.view_is c.in-Some.ensures)
    c.index_mut.result.now c.index_mut.ensures.value c.self.inside.filled c.self.invariant.0.0 c.self.invariant.0.1) ∙
    ap (λ es. flat (find g.K.Ord.cmp c.args.key.now es)) c.self.view_is

pub returns-else-is_some-clause-row : goal.returns-else-is_some-clause-row
returns-else-is_some-clause-row g c =
    c.take-row.ensures.value ∙ sym (at_key g.K.Ord.cmp g.met.K.Ord.total c.args.key.now c.self.inside.slots.items c.in-Some.i
    (inside_stands g.K.Ord.cmp c.args.key.now _ _ c.in-Some.i c.self.view_is c.in-Some.ensures)
    c.index_mut.result.now c.index_mut.ensures.value c.self.inside.filled c.self.invariant.0.0 c.self.invariant.0.1) ∙
    ap (λ es. flat (find g.K.Ord.cmp c.args.key.now es)) c.self.view_is
