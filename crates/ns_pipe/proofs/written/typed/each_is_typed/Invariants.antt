use Rattle.std.proofs.Common.{take}
use Rattle.ns_types.specs.State.Lists.{Each}
use Rattle.ns_pipe.specs.Readable.{IsTyped}
use Rattle.ns_pipe.proofs.written.typed.each_is_typed.Given as goal

-- the entries so far
abbrev pub invariant-loop-entry : goal.invariant-loop-entry
invariant-loop-entry l = Each IsTyped (take l.entry-index l.entries)
