use Rattle.std.proofs.Common.{◌+◌, ◌≤◌, false, List, [], length}
use Rattle.ns_types.specs.Wire.Responses.{Exchange}
use Rattle.ns_http.specs.Input.{unread}
use Rattle.ns_http.specs.Waiting.{waiting}
use Rattle.ns_http.specs.Steps.{Queued}
use Rattle.ns_http.specs.Counts.{HasGrown, IsOpen}
use Rattle.ns_http.proofs.engine.Connection.advance.Given as goal

abbrev pub invariant-loop-self : goal.invariant-loop-self
invariant-loop-self g l =
    (exchanges : List Exchange)
    × Queued g.H.Answer.answers l.fn.handler l.handler (unread l.fn.self.input) (unread l.self.input) (g.W.Write.contents l.fn.writer.inner)
    (g.W.Write.contents l.writer.inner) [] (waiting l.self.output) l.fn.self.answered l.self.answered exchanges false
    × (l.self.answered + length (unread l.self.input) ≤ l.fn.self.answered + length (unread l.fn.self.input))
    × HasGrown l.fn.writer.counts l.writer.counts
    × (IsOpen l.fn.writer.counts → IsOpen l.writer.counts)

abbrev pub decreases-loop-self : goal.decreases-loop-self
decreases-loop-self g l = length (unread l.self.input)
