use Rattle.std.specs.Prelude.{ℕ, None}
use Rattle.std.proofs.Common.{ap, get_or, refl, sym, ◌∙◌}
use Rattle.std.proofs.lemmas.List.{get_or_default}
use Rattle.std.specs.BTreeSet.{BTreeSet}
use Rattle.ns_types.specs.State.Names.{has_number}
use Rattle.ns_blocked.specs.declared.entry.Waits.TheVariants.{Quota}
use Rattle.ns_blocked.proofs.Places.{adds_next, group_found, slot_added, slot_passed, stands_at}
use Rattle.ns_blocked.proofs.finding.add_quota.Goals as goal
use Rattle.ns_blocked.proofs.finding.add_quota.Goals.{then-is_some+in_ok-insert, else-is_some}

pub loop-slot-preserved : goal.loop-slot-preserved
loop-slot-preserved c =
    let slot = get_or c.of_quota-slot-items.result.now c.loop-slot.slot-index (0, None) in
    adds_next (stands_at (λ _ there. there)) c.of_quota-slot-items.result.now c.loop-slot.slot-index slot
    c.args.places.now.keys c.loop-slot.places.keys c.if-is_some.places.keys c.loop-slot-test.true
    (get_or_default c.of_quota-slot-items.result.now c.loop-slot.slot-index (0, None) slot c.loop-slot-test.true) c.loop-slot.invariant
    (elim c.if-is_some.branch [
      | then-is_some+in_ok-insert w ↦ slot_added (λ _ there. there) slot c.loop-slot.places.keys c.if-is_some.places.keys
          (sym c.is_some.ensures ∙ w.if-is_some.true)
          (λ n. ap (λ (s : BTreeSet ℕ). has_number s.keys n) w.places-is ∙ w.in_ok-insert.ensures.updates.0 n)
      | else-is_some w ↦ λ n. ap (λ (s : BTreeSet ℕ). has_number s.keys n) w.places-is
          ∙ slot_passed (λ _ there. there) slot c.loop-slot.places.keys (sym c.is_some.ensures ∙ w.if-is_some.false) n
    ])

pub returns : goal.returns
returns c = group_found c.args.groups.now (Quota c.args.quota.now) c.of_quota-slot-items.result.now c.loop-slot.slot-index (λ _ there. there) (λ _. refl)
    c.of_quota-slot-items.ensures c.loop-slot-test.false _ _ c.loop-slot.invariant
