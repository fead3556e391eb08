use Rattle.std.proofs.Common.{◌≡◌, ◌∙◌, Some, sym, ap, arith, set}
use Rattle.std.specs.FinMap.Entries.{put}
use Rattle.keyed.proofs.Known.{known_set}
use Rattle.keyed.proofs.Places.{inside_stands}
use Rattle.keyed.proofs.Counted.{size, size_none, size_some, set_is_put, set_sorted, set_counted, rows_at_most}
use Rattle.std.proofs.lemmas.List.{length-set}
use Rattle.keyed.proofs.slots.Slots.set.Goals as goal

pub overflow_add-self : goal.overflow_add-self
overflow_add-self g c =
    let law = set_counted g.K.Ord.cmp g.met.K.Ord.total c.args.key.now c.self.inside.slots.items c.in-Some.i
    (inside_stands g.K.Ord.cmp c.args.key.now _ _ c.in-Some.i c.self.view_is c.in-Some.ensures)
    c.index_mut.result.now c.index_mut.ensures.value c.self.inside.filled c.self.invariant.0.0 c.self.invariant.0.1 (Some c.args.row) in
    let held : size c.index_mut.result.now.1 ≡ 0 = ap size (sym c.replace-earlier.ensures.value) ∙ size_none _ (c.if-is_none.ensures) in
    let most = rows_at_most (set c.self.inside.slots.items c.in-Some.i (c.index_mut.result.now.0, Some c.args.row)) in
    let long = length-set c.self.inside.slots.items c.in-Some.i (c.index_mut.result.now.0, Some c.args.row) in
    omega (arith, c.self.inside.slots.ok.0, c.self.inside.slots.ok.1, c.self.inside.slots.small)

pub invariant_of-self : goal.invariant_of-self
invariant_of-self g c =
    let law = set_counted g.K.Ord.cmp g.met.K.Ord.total c.args.key.now c.self.inside.slots.items c.in-Some.i
    (inside_stands g.K.Ord.cmp c.args.key.now _ _ c.in-Some.i c.self.view_is c.in-Some.ensures)
    c.index_mut.result.now c.index_mut.ensures.value c.self.inside.filled c.self.invariant.0.0 c.self.invariant.0.1 (Some c.args.row) in
    let held : size c.index_mut.result.now.1 ≡ 0 = ap size (sym c.replace-earlier.ensures.value) ∙ size_none _ (c.if-is_none.ensures) in
    rw c.replace-earlier.ensures.after (
      (
        set_sorted g.K.Ord.cmp g.met.K.Ord.total c.args.key.now c.self.inside.slots.items c.in-Some.i
            (inside_stands g.K.Ord.cmp c.args.key.now _ _ c.in-Some.i c.self.view_is c.in-Some.ensures)
            c.index_mut.result.now c.index_mut.ensures.value c.self.inside.filled c.self.invariant.0.0 c.self.invariant.0.1 (Some c.args.row),
        omega arith,
      ),
      known_set c.self.inside.index c.self.inside.slots.items c.in-Some.i c.index_mut.result.now (Some c.args.row)
          (inside_stands g.K.Ord.cmp c.args.key.now _ _ c.in-Some.i c.self.view_is c.in-Some.ensures).within c.index_mut.ensures.value c.self.invariant.1,
    )

pub returns-then-is_none : goal.returns-then-is_none
returns-then-is_none g c =
    ap (λ x. set c.self.inside.slots.items c.in-Some.i (c.index_mut.result.now.0, x)) c.replace-earlier.ensures.after
    ∙ set_is_put g.K.Ord.cmp g.met.K.Ord.total c.args.key.now c.self.inside.slots.items c.in-Some.i
    (inside_stands g.K.Ord.cmp c.args.key.now _ _ c.in-Some.i c.self.view_is c.in-Some.ensures)
    c.index_mut.result.now c.index_mut.ensures.value c.self.inside.filled c.self.invariant.0.0 c.self.invariant.0.1 (Some c.args.row) ∙
    ap (put g.K.Ord.cmp c.args.key.now (Some c.args.row)) c.self.view_is

pub invariant_of-self-else-is_none : goal.invariant_of-self-else-is_none
invariant_of-self-else-is_none g c =
    let law = set_counted g.K.Ord.cmp g.met.K.Ord.total c.args.key.now c.self.inside.slots.items c.in-Some.i
    (inside_stands g.K.Ord.cmp c.args.key.now _ _ c.in-Some.i c.self.view_is c.in-Some.ensures)
    c.index_mut.result.now c.index_mut.ensures.value c.self.inside.filled c.self.invariant.0.0 c.self.invariant.0.1 (Some c.args.row) in
    let held : size c.index_mut.result.now.1 ≡ 1 = ap size (sym c.replace-earlier.ensures.value) ∙ size_some _ c.if-is_none.ensures in
    rw c.replace-earlier.ensures.after (
      (
        set_sorted g.K.Ord.cmp g.met.K.Ord.total c.args.key.now c.self.inside.slots.items c.in-Some.i
            (inside_stands g.K.Ord.cmp c.args.key.now _ _ c.in-Some.i c.self.view_is c.in-Some.ensures)
            c.index_mut.result.now c.index_mut.ensures.value c.self.inside.filled c.self.invariant.0.0 c.self.invariant.0.1 (Some c.args.row),
        omega arith,
      ),
      known_set c.self.inside.index c.self.inside.slots.items c.in-Some.i c.index_mut.result.now (Some c.args.row)
          (inside_stands g.K.Ord.cmp c.args.key.now _ _ c.in-Some.i c.self.view_is c.in-Some.ensures).within c.index_mut.ensures.value c.self.invariant.1,
    )

pub returns-in-Some : goal.returns-in-Some
returns-in-Some g c =
    ap (λ x. set c.self.inside.slots.items c.in-Some.i (c.index_mut.result.now.0, x)) c.replace-earlier.ensures.after
    ∙ set_is_put g.K.Ord.cmp g.met.K.Ord.total c.args.key.now c.self.inside.slots.items c.in-Some.i
    (inside_stands g.K.Ord.cmp c.args.key.now _ _ c.in-Some.i c.self.view_is c.in-Some.ensures)
    c.index_mut.result.now c.index_mut.ensures.value c.self.inside.filled c.self.invariant.0.0 c.self.invariant.0.1 (Some c.args.row) ∙
    ap (put g.K.Ord.cmp c.args.key.now (Some c.args.row)) c.self.view_is
