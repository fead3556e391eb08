use Rattle.std.proofs.Common.{◌∙◌, IsTrue, Some, sym, ap, subst, arith, refl}
use Rattle.std.specs.Prelude.{is_some}
use Rattle.std.specs.List.{remove}
use Rattle.keyed.specs.Slots.{Knows}
use Rattle.keyed.proofs.Known.{remove_insert}
use Rattle.keyed.proofs.Places.{inside_belongs}
use Rattle.keyed.proofs.Counted.{added_counted, inserted_sorted, rows_at_most}
use Rattle.keyed.proofs.slots.Slots.add.Goals as goal

pub overflow_add-self : goal.overflow_add-self
overflow_add-self g c =
    let most = rows_at_most c.self.inside.slots.items in
    omega (arith, c.self.invariant.0.1, c.self.inside.slots.ok.0, c.self.inside.slots.ok.1, c.self.inside.slots.small)

pub note_slot-requires-clause-known : goal.note_slot-requires-clause-known
note_slot-requires-clause-known g c =
    let p = inside_belongs g.K.Ord.cmp c.args.key _ _ c.in-Err.i c.self.view_is c.in-Err.ensures in
    subst (λ es. Knows c.self.inside.index es)
    (sym (ap (λ es. remove es c.in-Err.i) c.in_ok-insert.ensures.items
    ∙ remove_insert c.self.inside.slots.items c.in-Err.i (c.args.key, Some c.args.row) p.within)) c.self.invariant.1

pub invariant_of-self-in-Err : goal.invariant_of-self-in-Err
invariant_of-self-in-Err g c =
    let p = inside_belongs g.K.Ord.cmp c.args.key _ _ c.in-Err.i c.self.view_is c.in-Err.ensures in
    let sorted = inserted_sorted g.K.Ord.cmp g.met.K.Ord.total c.args.key c.self.inside.slots.items c.in-Err.i p c.self.inside.filled c.self.invariant.0.0
    c.self.invariant.0.1 (Some c.args.row) in
    let counted = added_counted g.K.Ord.cmp g.met.K.Ord.total c.args.key c.self.inside.slots.items c.in-Err.i p c.self.inside.filled c.self.invariant.0.0
    c.self.invariant.0.1 c.args.row in
    (rw c.in_ok-insert.ensures.items (sorted, counted), c.note_slot.ensures)

pub set-requires : goal.set-requires
set-requires g c = subst (λ x. IsTrue (is_some x)) (sym (c.in_default.ensures.find_is (c.args.key, Some c.args.row))) refl
