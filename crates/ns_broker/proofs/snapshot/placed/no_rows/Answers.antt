use Rattle.std.proofs.Common.{T, ap, subst, sym, ◌∙◌}
use Rattle.std.specs.FinMap.{from_sorted}
use Rattle.std.specs.FinMap.Entries.{is_sorted}
use Rattle.std.specs.Ordering.{nat_cmp}
use Rattle.keyed.proofs.Tables.{empty_table}
use Rattle.ns_broker.proofs.snapshot.placed.no_rows.Goals as goal

pub from_slots-requires : goal.from_slots-requires
from_slots-requires c = subst (λ es. T (is_sorted nat_cmp es)) (sym c.in_ok-slots.ensures.items) tt

pub returns : goal.returns
returns c = c.from_slots.ensures ∙ ap from_sorted c.in_ok-slots.ensures.items ∙ empty_table
