use Rattle.std.proofs.Common.{◌≡◌, ◌∙◌, Bor, List, [], ap, map, sym}
use Rattle.ns_types.specs.declared.snapshot.LiveAllocation.{LiveAllocation}
use Rattle.ns_types.specs.declared.snapshot.OwnAllocation.{OwnAllocation}
use Rattle.ns_types.specs.Placing.Plan.{staying}
use Rattle.ns_types.specs.State.Resources.{minus, total}
use Rattle.ns_schedule.proofs.Stays.{all_stay, empty_is}
use Rattle.ns_schedule.proofs.opening.left_of.Goals as goal

pub returns-in-Some : goal.returns-in-Some
returns-in-Some c =
    let stops = c.as_slice.result.now in
    let none : c.args.stops.now ≡ [] = sym c.as_slice.ensures ∙ ap (map (λ (a : Bor OwnAllocation). a.now)) (empty_is stops c.if-is_empty.ensures) in
    c.less.ensures ∙ ap (minus c.args.capacity) (c.in-Some.ensures.1
    ∙ ap (total (λ (a : LiveAllocation). a.size)) (sym (all_stay c.args.namespace.now c.args.live.now)
    ∙ ap (λ (stops : List OwnAllocation). staying c.args.namespace.now stops c.args.live.now) (sym none)))
