use Rattle.std.specs.Prelude.{◌≡◌, false, not}
use Rattle.std.proofs.Common.{subst, sym, ◌∙◌}
use Rattle.keyed.specs.Queue.{IsPlaceOf, has_row}
use Rattle.keyed.proofs.RoomLeft.{is_there, none_taken, not_other, taken_has}
use Rattle.ns_types.specs.State.Names.{same_key}
use Rattle.keyed.proofs.queue.Queue.take_key.Goals as goal

pub loop-place-preserved : goal.loop-place-preserved
loop-place-preserved g c =
    let found = subst (IsPlaceOf g.R.Keyed.key_of (c.namespace.result.now, c.number.result) c.loop-place.self) c.in-Some.is c.place_of.ensures in
    let has = taken_has g.R.Keyed.key_of c.args.key.now _ c.take_at.result _ (λ i. (c.namespace.ensures i, c.number.ensures i)) c.take_at.ensures.row
    found.1 in (
      c.take_at.ensures.items (λ row. not (same_key (g.R.Keyed.key_of row) c.args.key.now))
          (not_other g.R.Keyed.key_of c.args.key.now c.take_at.result has)
          ∙ c.loop-place.invariant.0,
      λ more can. c.take_at.ensures.room more (c.loop-place.invariant.1 more can),
    )

pub loop-place-preserved-in-Some : goal.loop-place-preserved-in-Some
loop-place-preserved-in-Some g c =
    let found = subst (IsPlaceOf g.R.Keyed.key_of (c.namespace.result.now, c.number.result) c.loop-place.self) c.in-Some.is c.place_of.ensures in
    let has = taken_has g.R.Keyed.key_of c.args.key.now _ c.take_at.result _ (λ i. (c.namespace.ensures i, c.number.ensures i)) c.take_at.ensures.row
    found.1 in (
      c.take_at.ensures.items (λ row. not (same_key (g.R.Keyed.key_of row) c.args.key.now))
          (not_other g.R.Keyed.key_of c.args.key.now c.take_at.result has)
          ∙ c.loop-place.invariant.0,
      λ more can. c.take_at.ensures.room more (c.loop-place.invariant.1 more can),
    )

pub loop-place-smaller : goal.loop-place-smaller
loop-place-smaller g c =
    let found = subst (IsPlaceOf g.R.Keyed.key_of (c.namespace.result.now, c.number.result) c.loop-place.self) c.in-Some.is c.place_of.ensures in
    let has = taken_has g.R.Keyed.key_of c.args.key.now _ c.take_at.result _ (λ i. (c.namespace.ensures i, c.number.ensures i)) c.take_at.ensures.row
    found.1 in
    c.take_at.ensures.fewer (is_there g.R.Keyed.key_of c.args.key.now c.take_at.result has)

pub returns-clause-items : goal.returns-clause-items
returns-clause-items g c =
    let none : has_row g.R.Keyed.key_of c.loop-place.self.items c.args.key.now ≡ false =
    subst (λ key. has_row g.R.Keyed.key_of c.loop-place.self.items key ≡ false) (λ i. (c.namespace.ensures i, c.number.ensures i))
    (subst (IsPlaceOf g.R.Keyed.key_of (c.namespace.result.now, c.number.result) c.loop-place.self) c.in_default.is c.place_of.ensures) in
    sym (none_taken g.R.Keyed.key_of c.args.key.now c.loop-place.self.items none) ∙ c.loop-place.invariant.0
