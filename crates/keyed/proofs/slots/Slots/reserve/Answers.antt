use Rattle.std.proofs.Common.{◌∙◌, None, sym, ap, subst, cond}
use Rattle.std.specs.Prelude.{is_some}
use Rattle.std.specs.FinMap.Entries.{put}
use Rattle.std.specs.List.{remove}
use Rattle.keyed.specs.Slots.{Knows}
use Rattle.keyed.proofs.Known.{remove_insert}
use Rattle.keyed.proofs.Places.{inside_belongs}
use Rattle.keyed.proofs.Counted.{inserted_sorted, inserted_counted}
use Rattle.keyed.proofs.slots.Slots.reserve.Goals as goal

pub note_slot-requires-clause-known : goal.note_slot-requires-clause-known
note_slot-requires-clause-known g c =
    let p = inside_belongs g.K.Ord.cmp c.args.key _ _ c.in-Err.i c.self.view_is c.in-Err.ensures in
    subst (λ es. Knows c.self.inside.index es)
    (sym (ap (λ es. remove es c.in-Err.i) c.in_ok-insert.ensures.items ∙ remove_insert c.self.inside.slots.items c.in-Err.i (c.args.key, None) p.within))
    c.self.invariant.1

pub invariant_of-self-in-Err : goal.invariant_of-self-in-Err
invariant_of-self-in-Err g c =
    let p = inside_belongs g.K.Ord.cmp c.args.key _ _ c.in-Err.i c.self.view_is c.in-Err.ensures in
    let sorted = inserted_sorted g.K.Ord.cmp g.met.K.Ord.total c.args.key c.self.inside.slots.items c.in-Err.i p c.self.inside.filled c.self.invariant.0.0
    c.self.invariant.0.1 None in
    let counted = inserted_counted g.K.Ord.cmp g.met.K.Ord.total c.args.key c.self.inside.slots.items c.in-Err.i p c.self.inside.filled c.self.invariant.0.0
    c.self.invariant.0.1 in
    (rw c.in_ok-insert.ensures.items (sorted, counted), c.note_slot.ensures)

pub returns-in_ok-insert-clause-ok : goal.returns-in_ok-insert-clause-ok
returns-in_ok-insert-clause-ok g c =
    let p = inside_belongs g.K.Ord.cmp c.args.key _ _ c.in-Err.i c.self.view_is c.in-Err.ensures in
    c.in_ok-insert.ensures.items ∙ p.put_is None ∙ ap (λ es. put g.K.Ord.cmp c.args.key None es) c.self.view_is
    ∙ sym (ap (λ x. cond (is_some x) c.args.self.now (put g.K.Ord.cmp c.args.key None c.args.self.now)) c.in-Err.ensures.find_is)

pub returns-in_default-clause-ok : goal.returns-in_default-clause-ok
returns-in_default-clause-ok g c =
    sym (ap (λ x. cond (is_some x) c.args.self.now (put g.K.Ord.cmp c.args.key None c.args.self.now)) (c.in_default.ensures.find_is (c.args.key, None)))
