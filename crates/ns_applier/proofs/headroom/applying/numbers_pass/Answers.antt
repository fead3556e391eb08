use Rattle.std.proofs.Common.{sym, ◌∙◌, length}
use Rattle.ns_types.specs.Working.Parts.{placed_on}
use Rattle.ns_applier.proofs.HeadroomCounting.{few_placed, fewer_allocations}
use Rattle.ns_applier.proofs.headroom.applying.numbers_pass.Goals as goal

pub returns-else-allocations_pass : goal.returns-else-allocations_pass
returns-else-allocations_pass c = c.if-allocations_pass.false ∙ sym (fewer_allocations c.args.headroom.now c.args.namespace.now
    (length (placed_on c.args.committed.now c.args.placements.now)) (length c.args.placements.now) (few_placed c.args.committed.now c.args.placements.now)
    (sym c.allocations_pass.ensures ∙ c.if-allocations_pass.false))
