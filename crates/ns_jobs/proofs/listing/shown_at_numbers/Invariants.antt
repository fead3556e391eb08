use Rattle.std.proofs.Common.{◌≡◌, ◌++◌, drop}
use Rattle.ns_jobs.specs.Read.{rows_shown}
use Rattle.ns_jobs.proofs.listing.shown_at_numbers.Given as goal
use Rattle.ns_tables.specs.Filing.{slots_at}

abbrev pub invariant-loop-slot : goal.invariant-loop-slot
invariant-loop-slot g l =
    let listed = rows_shown g.V.Listed.as_shown g.V.Listed.is_listed l.namespace l.command in
    l.listed ++ listed (slots_at l.rows (drop l.slot-index l.slots)) ≡ listed (slots_at l.rows l.slots)
