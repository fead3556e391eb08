use Rattle.std.proofs.Common.{ap, ◌∙◌}
use Rattle.keyed.proofs.Tables.{rows-without_vacant}
use Rattle.keyed.specs.Table.{rows}
use Rattle.ns_types.proofs.Named.{numbers, one_number}
use Rattle.ns_tables.proofs.Totals.{still_kept}
use Rattle.ns_tables.proofs.allocations.AllocationTable.clear_slot.Goals as goal

pub invariant_of-self : goal.invariant_of-self
invariant_of-self c = still_kept c.self.inside.jobs c.clear.new.numbers c.self.inside.live c.self.inside.slots c.clear_slot.new.self c.self.invariant
    c.clear.ensures (ap rows c.clear_slot.ensures ∙ rows-without_vacant numbers one_number c.self.inside.slots c.args.slot.now.0)
