use Rattle.std.specs.Prelude.{fold}
use Rattle.std.specs.FinMap.{entries}
use Rattle.ns_types.proofs.Named.{numbers, one_number}
use Rattle.keyed.specs.Over.{put_in}
use Rattle.keyed.specs.Table.{rows}
use Rattle.keyed.proofs.Applying.{IsLeft}
use Rattle.keyed.proofs.numbers.NumberTable.apply.Given as goal

abbrev pub invariant-loop-key : goal.invariant-loop-key
invariant-loop-key g l = IsLeft numbers one_number l.self l.key-iterator.rest.items (fold put_in (rows l.initial.self) (entries l.fn.changes))
