use Rattle.std.proofs.Common.{sym, arith, ◌∙◌}
use Rattle.ns_types.proofs.TableRows.{no_entries}
use Rattle.ns_nodes.proofs.Losses.{all_numbers, next_number, no_number, same_number}
use Rattle.ns_nodes.proofs.losing.numbers_pass_at.Goals as goal
use Rattle.ns_tables.specs.World.{tenant_of}

pub returns-then-number : goal.returns-then-number
returns-then-number c = no_number c.args.pool.now c.args.node.now (tenant_of c.args.tenant.now) c.args.slots.now c.loop-slot.number
    c.loop-slot.rest.now c.loop-slot.invariant c.in-Some.slot.now c.in-Some.later.now c.in-Some.ensures.cases.0
    (sym c.is_last_of_job.ensures ∙ c.if-is_last_of_job.true) c.if-number.true

pub loop-slot-preserved-else-number : goal.loop-slot-preserved-else-number
loop-slot-preserved-else-number c = next_number c.args.pool.now c.args.node.now (tenant_of c.args.tenant.now) c.args.slots.now c.loop-slot.number
    c.loop-slot.rest.now c.loop-slot.invariant c.in-Some.slot.now c.in-Some.later.now c.in-Some.ensures.cases.0
    (sym c.is_last_of_job.ensures ∙ c.if-is_last_of_job.true)

pub loop-slot-preserved : goal.loop-slot-preserved
loop-slot-preserved c = same_number c.args.pool.now c.args.node.now (tenant_of c.args.tenant.now) c.args.slots.now c.loop-slot.number
    c.loop-slot.rest.now c.loop-slot.invariant c.in-Some.slot.now c.in-Some.later.now c.in-Some.ensures.cases.0
    (sym c.is_last_of_job.ensures ∙ c.if-is_last_of_job.false)

pub returns : goal.returns
returns c = all_numbers c.args.pool.now c.args.node.now (tenant_of c.args.tenant.now) c.args.slots.now c.loop-slot.number
    c.loop-slot.rest.now c.loop-slot.invariant (no_entries c.loop-slot.rest.now c.in_default.ensures.cases) (omega arith)
