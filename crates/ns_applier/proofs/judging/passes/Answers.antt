use Rattle.std.proofs.Common.{ap, sym, ◌∙◌, ◌||◌}
use Rattle.ns_applier.proofs.Victims.{passes_are}
use Rattle.ns_applier.specs.Judging.{lost_part_passes, own_part_passes}
use Rattle.ns_tables.specs.World.{world_of}
use Rattle.ns_applier.proofs.judging.passes.Goals as goal

pub returns-then-evaluations_pass : goal.returns-then-evaluations_pass
returns-then-evaluations_pass c =
    let w = world_of c.args.tables.now in
    let kept = c.args.snapshot.now in
    let p = c.args.plan.now in
    let nodes = c.args.nodes.now in
    sym (passes_are w kept p nodes c.requires.few
    ∙ ap (λ b. (b || own_part_passes w kept p nodes) || lost_part_passes w kept p nodes) (sym c.evaluations_pass.ensures ∙ c.if-evaluations_pass.true))

pub returns-then-own_part_passes : goal.returns-then-own_part_passes
returns-then-own_part_passes c =
    let w = world_of c.args.tables.now in
    let kept = c.args.snapshot.now in
    let p = c.args.plan.now in
    let nodes = c.args.nodes.now in
    let few = sym c.evaluations_pass.ensures ∙ c.if-evaluations_pass.false in
    let own = ap (λ h. own_part_passes h kept p nodes) (sym c.new-headroom.ensures) ∙ sym c.own_part_passes.ensures ∙ c.if-own_part_passes.true in
    sym (passes_are w kept p nodes c.requires.few ∙ (λ i. (few i || own i) || lost_part_passes w kept p nodes))

pub returns : goal.returns
returns c =
    let w = world_of c.args.tables.now in
    let kept = c.args.snapshot.now in
    let p = c.args.plan.now in
    let nodes = c.args.nodes.now in
    let few = sym c.evaluations_pass.ensures ∙ c.if-evaluations_pass.false in
    let own = ap (λ h. own_part_passes h kept p nodes) (sym c.new-headroom.ensures) ∙ sym c.own_part_passes.ensures ∙ c.if-own_part_passes.false in
    c.lost_part_passes.ensures ∙ ap (λ h. lost_part_passes h kept p nodes) c.new-headroom.ensures
    ∙ sym (passes_are w kept p nodes c.requires.few ∙ (λ i. (few i || own i) || lost_part_passes w kept p nodes))
