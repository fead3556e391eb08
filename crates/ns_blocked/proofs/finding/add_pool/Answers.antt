use Rattle.std.specs.Prelude.{ℕ, Bool, ◌&&◌, None}
use Rattle.std.proofs.Common.{ap, get_or, refl, sym, ◌∙◌}
use Rattle.std.proofs.lemmas.List.{get_or_default}
use Rattle.std.specs.BTreeSet.{BTreeSet}
use Rattle.keyed.specs.Table.{row_at}
use Rattle.ns_types.specs.State.Names.{has_number}
use Rattle.ns_blocked.specs.declared.entry.Waits.TheVariants.{Pool}
use Rattle.ns_blocked.specs.Waking.{is_usable}
use Rattle.ns_blocked.proofs.Places.{adds_next, group_found, slot_added, slot_passed, stands_at}
use Rattle.ns_blocked.proofs.finding.add_pool.Goals as goal
use Rattle.ns_blocked.proofs.finding.add_pool.Goals.{then-is_usable_at+in_ok-insert, else-is_usable_at}

pub loop-slot-preserved : goal.loop-slot-preserved
loop-slot-preserved c =
    let slot = get_or c.of_pool-slot-items.result.now c.loop-slot.slot-index (0, None) in
    let wants = λ (k : ℕ) (there : Bool). there && is_usable c.args.classes.now (row_at c.args.queue.now.placed.rows k) in
    adds_next (stands_at wants) c.of_pool-slot-items.result.now c.loop-slot.slot-index slot
    c.args.places.now.keys c.loop-slot.places.keys c.if-is_usable_at.places.keys c.loop-slot-test.true
    (get_or_default c.of_pool-slot-items.result.now c.loop-slot.slot-index (0, None) slot c.loop-slot-test.true) c.loop-slot.invariant
    (elim c.if-is_usable_at.branch [
      | then-is_usable_at+in_ok-insert w ↦ slot_added wants slot c.loop-slot.places.keys c.if-is_usable_at.places.keys
          (sym c.is_usable_at.ensures ∙ w.if-is_usable_at.true)
          (λ n. ap (λ (s : BTreeSet ℕ). has_number s.keys n) w.places-is ∙ w.in_ok-insert.ensures.updates.0 n)
      | else-is_usable_at w ↦ λ n. ap (λ (s : BTreeSet ℕ). has_number s.keys n) w.places-is
          ∙ slot_passed wants slot c.loop-slot.places.keys (sym c.is_usable_at.ensures ∙ w.if-is_usable_at.false) n
    ])

pub returns : goal.returns
returns c = group_found c.args.groups.now (Pool c.args.pool.now) c.of_pool-slot-items.result.now c.loop-slot.slot-index
    (λ k there. there && is_usable c.args.classes.now (row_at c.args.queue.now.placed.rows k)) (λ _. refl)
    c.of_pool-slot-items.ensures c.loop-slot-test.false _ _ c.loop-slot.invariant
