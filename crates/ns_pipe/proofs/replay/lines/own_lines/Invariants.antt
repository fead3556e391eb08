use Rattle.std.proofs.Common.{◌≡◌, ◌+◌, ◌++◌, drop, string_bytes}
use Rattle.ns_types.specs.Isolation.{part_of}
use Rattle.ns_pipe.specs.Text.{own_lines}
use Rattle.ns_pipe.proofs.replay.lines.own_lines.Given as goal

abbrev pub invariant-loop-index : goal.invariant-loop-index
invariant-loop-index l =
    string_bytes l.text ++ own_lines (part_of l.namespace l.pools l.quotas) (l.first + l.index) (drop l.index l.entries) ≡
    own_lines (part_of l.namespace l.pools l.quotas) l.first l.entries
