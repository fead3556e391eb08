-- The orders by which nodes are chosen: of those with room, and of those with victims.
use Rattle.std.specs.Prelude.{◌-◌, [], length, unwrap_or}
use Rattle.std.specs.Cmp.{IsStrictWeakOrder, IsTotalOrder}
use Rattle.std.proofs.lemmas.Cmp.{nat_cmp_total, on_total, then_total}
use Rattle.std.proofs.lemmas.List.MinMax.{ranks_by}
use Rattle.ns_types.specs.declared.resources.Resources.{Resources}
use Rattle.ns_types.specs.Placing.Placement.{Candidate, better, compare_left}
use Rattle.ns_types.specs.Placing.Preemption.{cheaper, highest_priority, victims}
use Rattle.ns_types.specs.State.Resources.{quantity}
use Rattle.ns_types.proofs.Named.{names}
use Rattle.ns_types.proofs.Amounts.{by_each_total}

pub left_total : (size : Resources) → IsTotalOrder (compare_left size)
left_total size =
    then_total (by_each_total (λ r (c : Candidate). quantity r c.left - quantity r size)) (on_total (λ (c : Candidate). c.name) names)

pub better_order : (size : Resources) → IsStrictWeakOrder (better size)
better_order size = ranks_by (left_total size) (λ (c : Candidate). c)

pub cheaper_order : (size : Resources) → IsStrictWeakOrder (cheaper size)
cheaper_order size =
    ranks_by
    (then_total (on_total (λ (c : Candidate). highest_priority (unwrap_or (victims size c) [])) nat_cmp_total)
    (then_total (on_total (λ (c : Candidate). length (unwrap_or (victims size c) [])) nat_cmp_total) (on_total (λ (c : Candidate). c.name) names)))
    (λ (c : Candidate). c)
