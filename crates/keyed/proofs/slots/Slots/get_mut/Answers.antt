use mathlib.Core.Logic.{inr}
use Rattle.std.proofs.Common.{◌≡◌, ◌∙◌, Some, sym, ap, arith, set}
use Rattle.std.specs.Prelude.{is_some}
use Rattle.std.specs.FinMap.Entries.{find, put}
use Rattle.keyed.specs.Table.{flat}
use Rattle.keyed.proofs.Known.{known_set}
use Rattle.keyed.proofs.Counted.{size, size_some, at_key, set_is_put, set_sorted, set_counted}
use Rattle.keyed.proofs.Levels.{none_there}
use Rattle.std.proofs.lemmas.List.{get_or_default, set-get_or}
use borrow.Follows.Closed.{read_of}
use Rattle.std.specs.Option.{ghost_name_of}
use Rattle.keyed.proofs.slots.Slots.get_mut.Goals as goal

pub returns-then-is_none : goal.returns-then-is_none
returns-then-is_none g c =
    let looked : is_some (flat (find g.K.Ord.cmp c.args.key.now c.args.self.now)) ≡ is_some c.index.result.now.1 =
    sym (ap (λ es. is_some (flat (find g.K.Ord.cmp c.args.key.now es))) c.self.view_is) ∙
    ap (λ x. is_some (flat x)) (c.in-Some.ensures.find_is c.index.result.now) ∙ sym (ap (λ e. is_some e.1) c.index.ensures) in
    (ap inr c.self.view_is, record { writes_back = tt; value = sym (none_there _ (looked ∙ c.if-is_none.ensures)) })

pub invariant_of-self-lent : goal.invariant_of-self-lent
invariant_of-self-lent g c r =
    let within = c.in-Some.ensures.within in
    let one : c.index.result.now ≡ c.index_mut-slot.result.now = c.index.ensures ∙
    get_or_default c.self.inside.slots.items c.in-Some.i c.index.result.now c.index_mut-slot.result.now within ∙ sym c.index_mut-slot.ensures.value in
    let held : size c.index_mut-slot.result.now.1 ≡ 1 = ap (λ e. size e.1) (sym one) ∙ size_some _ c.if-is_none.ensures in (
      (λ w. let law = set_counted g.K.Ord.cmp g.met.K.Ord.total c.args.key.now c.self.inside.slots.items c.in-Some.i c.in-Some.ensures
          c.index_mut-slot.result.now c.index_mut-slot.ensures.value c.self.inside.filled c.self.invariant.0.0 c.self.invariant.0.1 (Some w) in (
            (
              set_sorted g.K.Ord.cmp g.met.K.Ord.total c.args.key.now c.self.inside.slots.items c.in-Some.i c.in-Some.ensures c.index_mut-slot.result.now
                  c.index_mut-slot.ensures.value c.self.inside.filled c.self.invariant.0.0 c.self.invariant.0.1 (Some w),
              omega arith,
            ),
            known_set c.self.inside.index c.self.inside.slots.items c.in-Some.i c.index_mut-slot.result.now (Some w) within
                c.index_mut-slot.ensures.value c.self.invariant.1,
          )),
      (let law = set_counted g.K.Ord.cmp g.met.K.Ord.total c.args.key.now c.self.inside.slots.items c.in-Some.i c.in-Some.ensures c.index_mut-slot.result.now
          c.index_mut-slot.ensures.value c.self.inside.filled c.self.invariant.0.0 c.self.invariant.0.1 c.index_mut-slot.result.now.1 in (
            (
              set_sorted g.K.Ord.cmp g.met.K.Ord.total c.args.key.now c.self.inside.slots.items c.in-Some.i c.in-Some.ensures c.index_mut-slot.result.now
                  c.index_mut-slot.ensures.value c.self.inside.filled c.self.invariant.0.0 c.self.invariant.0.1 c.index_mut-slot.result.now.1,
              omega arith,
            ),
            known_set c.self.inside.index c.self.inside.slots.items c.in-Some.i c.index_mut-slot.result.now c.index_mut-slot.result.now.1 within
                c.index_mut-slot.ensures.value c.self.invariant.1,
          )),
    )

pub returns : goal.returns
returns g c =
    let written = λ (w : g.row.V.Denot). set_is_put g.K.Ord.cmp g.met.K.Ord.total c.args.key.now c.self.inside.slots.items c.in-Some.i c.in-Some.ensures
    c.index_mut-slot.result.now c.index_mut-slot.ensures.value c.self.inside.filled c.self.invariant.0.0 c.self.invariant.0.1 (Some w) ∙
    ap (put g.K.Ord.cmp c.args.key.now (Some w)) c.self.view_is in
    let left : set c.self.inside.slots.items c.in-Some.i c.index_mut-slot.result.now ≡ c.args.self.now =
    ap (set c.self.inside.slots.items c.in-Some.i) c.index_mut-slot.ensures.value ∙
    set-get_or c.self.inside.slots.items c.in-Some.i c.index_mut-slot.result.now ∙ c.self.view_is in (
      λ t. read_of (ghost_name_of c.as_mut.result) (λ (w : g.row.V.Denot). written w t) (left t),
      record {
        writes_back = tt;
        value = c.as_mut.ensures.value ∙ sym (at_key g.K.Ord.cmp g.met.K.Ord.total c.args.key.now c.self.inside.slots.items c.in-Some.i c.in-Some.ensures
            c.index_mut-slot.result.now c.index_mut-slot.ensures.value c.self.inside.filled c.self.invariant.0.0 c.self.invariant.0.1) ∙
            ap (λ es. flat (find g.K.Ord.cmp c.args.key.now es)) c.self.view_is;
      },
    )
