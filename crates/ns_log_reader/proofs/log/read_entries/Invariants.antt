use Rattle.std.proofs.Common.{◌+◌, ◌≤◌, length}
use Rattle.ns_log_reader.specs.Reading.{HasSoFar}
use Rattle.ns_log_reader.proofs.log.read_entries.Given as goal

abbrev pub invariant-loop-rest : goal.invariant-loop-rest
invariant-loop-rest l = record {
  so_far : HasSoFar l.fn.text l.fn.secret l.rest l.entries l.number;
  number : l.number + length l.rest ≤ length l.fn.text + 2;
  few : length l.entries ≤ length l.fn.text;
}

abbrev pub decreases-loop-rest : goal.decreases-loop-rest
decreases-loop-rest l = length l.rest
