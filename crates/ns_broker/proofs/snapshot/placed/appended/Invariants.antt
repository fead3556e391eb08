use Rattle.std.proofs.Common.{◌≡◌, ◌++◌, map}
use Rattle.keyed.specs.Table.{row_list}
use Rattle.ns_live_index.specs.Until.{last_number}
use Rattle.ns_broker.proofs.snapshot.placed.appended.Given as goal

abbrev pub invariant-loop-number : goal.invariant-loop-number
invariant-loop-number l = record {
  rows : l.shown ++ map (λ e. e.1) (row_list l.number-iterator.rest.items) ≡ l.fn.rows ++ map (λ e. e.1) (row_list l.fn.slots.items);
  last : last_number l.place (row_list l.number-iterator.rest.items) ≡ last_number l.fn.last (row_list l.fn.slots.items);
}
