use Rattle.std.proofs.Common.{◌≡◌, ◌+◌, ◌-◌, ◌≤◌, ◌++◌, List, ℕ, length}
use Rattle.std.specs.Io.KnownBytes.{Appends}
use Rattle.ns_http.specs.Counts.{HasGrown, IsOpen}
use Rattle.ns_http.proofs.CountsLemmas.{AreInterrupted}
use Rattle.ns_http.proofs.output.write_all.Given as goal

abbrev pub invariant-loop-rest : goal.invariant-loop-rest
invariant-loop-rest g l =
    (written : List ℕ) × (l.bytes ≡ written ++ l.rest)
    × Appends (g.W.Write.contents l.fn.writer.inner) (g.W.Write.contents l.writer.inner) written
    × HasGrown l.fn.writer.counts l.writer.counts
    × (IsOpen l.fn.writer.counts → IsOpen l.writer.counts)
    × (l.tries ≤ 65536)
    × AreInterrupted l.fn.writer.counts l.writer.counts (65536 - l.tries)

abbrev pub decreases-loop-rest : goal.decreases-loop-rest
decreases-loop-rest g l = length l.rest + l.tries
