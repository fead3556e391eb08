use Rattle.std.proofs.Common.{arith, sym, subst, ◌∙◌}
use Rattle.ns_blocked.specs.Waking.{AreKeysAt}
use Rattle.ns_blocked.proofs.Places.{has_a_key, one_taken, taking_none}
use Rattle.ns_blocked.proofs.Passing.{all_gone, all_keys, nothing_left}
use Rattle.ns_blocked.proofs.list.BlockedList.take_places.Goals as goal

pub loop-place-init : goal.loop-place-init
loop-place-init c = record {
  taking = taking_none c.args.self.now c.args.places.keys _ c.in_ok-keys.ensures.items c.requires;
  room = omega (arith, c.in_ok-keys.ensures.len, c.in_ok-keys.ensures.capacity);
}

pub loop-place-preserved : goal.loop-place-preserved
loop-place-preserved c = has_a_key c.args.self.now c.loop-place.self c.loop-place.self c.args.places.keys _ _ c.in-Some.place _
    c.loop-place.invariant.taking c.in-Some.ensures.removal (sym c.in_default-take_at.is ∙ c.take_at.ensures.key)

pub loop-place-preserved-in-Some-take_at : goal.loop-place-preserved-in-Some-take_at
loop-place-preserved-in-Some-take_at c = record {
  taking = one_taken c.args.self.now c.loop-place.self c.take_at.new.self c.args.places.keys _ _ c.in-Some.place _ c.loop-place.invariant.taking
      c.in-Some.ensures.removal c.in-Some.ensures.updates.1 c.take_at.ensures.entry c.take_at.ensures.room c.in-Some-take_at.key _
      (sym c.in-Some-take_at.is ∙ c.take_at.ensures.key) c.push_reserved.ensures.items;
  room = omega (arith, c.in-Some.ensures.len, c.loop-place.invariant.room, c.push_reserved.ensures.len, c.push_reserved.ensures.capacity);
}

pub returns-clause-woken : goal.returns-clause-woken
returns-clause-woken c = subst (λ keys. AreKeysAt c.args.places.keys c.args.self.now keys) (sym c.reverse.ensures.items)
    (all_keys c.args.self.now c.loop-place.self c.args.places.keys c.loop-place.places.keys c.loop-place.keys.items c.loop-place.invariant.taking
    (nothing_left c.loop-place.places.keys c.in_default.ensures.variant.1) c.len.ensures.ordered)

pub returns-clause-rest : goal.returns-clause-rest
returns-clause-rest c = all_gone c.args.self.now c.loop-place.self c.args.places.keys c.loop-place.places.keys c.loop-place.keys.items
    c.loop-place.invariant.taking (nothing_left c.loop-place.places.keys c.in_default.ensures.variant.1)

pub returns-clause-room : goal.returns-clause-room
returns-clause-room c = c.loop-place.invariant.taking.room
