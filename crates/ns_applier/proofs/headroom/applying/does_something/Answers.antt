use Rattle.std.proofs.Common.{ap, sym, ◌∙◌, ◌||◌, ℕ}
use Rattle.std.specs.List.{list_any}
use Rattle.ns_types.specs.declared.plan.Placement.{Placement}
use Rattle.ns_types.specs.State.Names.{has_number}
use Rattle.ns_types.specs.Working.Parts.{lives_at}
use Rattle.ns_applier.proofs.headroom.applying.does_something.Goals as goal
use Rattle.ns_types.proofs.Lists.{any_is}

pub returns-then-any_live : goal.returns-then-any_live
returns-then-any_live c =
    let live = λ (n : ℕ). lives_at c.args.headroom.now (c.args.snapshot.now.namespace, n) in
    let placed = λ (p : Placement). has_number c.args.committed.now p.node in
    c.if-any_live.true ∙ sym ((λ i. sym (any_is live c.args.plan.now.stops) i || sym (any_is placed c.args.plan.now.placing.placements) i)
    ∙ ap (λ b. b || list_any placed c.args.plan.now.placing.placements)
    (ap (list_any live) (sym c.as_slice.ensures) ∙ sym c.any_live.ensures ∙ c.if-any_live.true))

pub returns-else-any_live : goal.returns-else-any_live
returns-else-any_live c =
    let live = λ (n : ℕ). lives_at c.args.headroom.now (c.args.snapshot.now.namespace, n) in
    let placed = λ (p : Placement). has_number c.args.committed.now p.node in
    c.any_placed.ensures ∙ ap (list_any placed) c.as_slice-else-any_live.ensures
    ∙ sym ((λ i. sym (any_is live c.args.plan.now.stops) i || sym (any_is placed c.args.plan.now.placing.placements) i)
    ∙ ap (λ b. b || list_any placed c.args.plan.now.placing.placements)
    (ap (list_any live) (sym c.as_slice.ensures) ∙ sym c.any_live.ensures ∙ c.if-any_live.false))
