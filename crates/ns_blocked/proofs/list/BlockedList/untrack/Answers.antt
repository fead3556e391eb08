use Rattle.std.proofs.Common.{subst, sym, ◌∙◌}
use Rattle.keyed.specs.Queue.{IsPlaceOf}
use Rattle.ns_blocked.specs.declared.entry.BlockedEvaluation.{BlockedEvaluation}
use Rattle.ns_blocked.specs.Blocked.{BlockedList}
use Rattle.ns_blocked.proofs.Listed.{key_nowhere, key_there, one_fewer, others_stay}
use Rattle.ns_blocked.proofs.list.BlockedList.untrack.Goals as goal

pub loop-place-preserved-in-Some : goal.loop-place-preserved-in-Some
loop-place-preserved-in-Some c =
    let there = key_there c.loop-place.self c.args.key.now (c.namespace.result.now, c.number.result) c.place_of.result c.in-Some.place
    (λ i. (c.namespace.ensures i, c.number.ensures i)) c.in-Some.is
    (subst (λ (b : BlockedList). IsPlaceOf (λ (e : BlockedEvaluation). e.key) (c.namespace.result.now, c.number.result) b.queue c.place_of.result)
    c.self.view_is c.place_of.ensures) in (
      others_stay c.loop-place.self c.take_at.new.self c.in-Some.place c.args.key.now there c.take_at.ensures.entry ∙ c.loop-place.invariant.0,
      λ es can. c.take_at.ensures.room es (c.loop-place.invariant.1 es can),
    )

pub loop-place-smaller-in-Some : goal.loop-place-smaller-in-Some
loop-place-smaller-in-Some c = one_fewer c.loop-place.self c.take_at.new.self c.in-Some.place c.args.key.now
    (key_there c.loop-place.self c.args.key.now (c.namespace.result.now, c.number.result) c.place_of.result c.in-Some.place
    (λ i. (c.namespace.ensures i, c.number.ensures i)) c.in-Some.is
    (subst (λ (b : BlockedList). IsPlaceOf (λ (e : BlockedEvaluation). e.key) (c.namespace.result.now, c.number.result) b.queue c.place_of.result)
    c.self.view_is c.place_of.ensures)) c.take_at.ensures.entry

pub returns-clause-entries : goal.returns-clause-entries
returns-clause-entries c = sym (key_nowhere c.loop-place.self c.args.key.now (c.namespace.result.now, c.number.result) c.place_of.result
    (λ i. (c.namespace.ensures i, c.number.ensures i)) c.in_default.is
    (subst (λ (b : BlockedList). IsPlaceOf (λ (e : BlockedEvaluation). e.key) (c.namespace.result.now, c.number.result) b.queue c.place_of.result)
    c.self.view_is c.place_of.ensures)) ∙ c.loop-place.invariant.0
