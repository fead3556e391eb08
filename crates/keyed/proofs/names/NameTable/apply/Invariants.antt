use Rattle.std.specs.Prelude.{fold}
use Rattle.std.specs.FinMap.{entries}
use Rattle.ns_types.proofs.Named.{names, one_name}
use Rattle.keyed.specs.Over.{put_in}
use Rattle.keyed.specs.Table.{rows}
use Rattle.keyed.proofs.Applying.{IsLeft}
use Rattle.keyed.proofs.names.NameTable.apply.Given as goal

abbrev pub invariant-loop-key : goal.invariant-loop-key
invariant-loop-key g l = IsLeft names one_name l.self l.key-iterator.rest.items (fold put_in (rows l.initial.self) (entries l.fn.changes))
