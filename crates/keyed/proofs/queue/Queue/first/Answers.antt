use Rattle.std.specs.Prelude.{slice_get}
use Rattle.std.proofs.Common.{ap, ◌∙◌}
use Rattle.keyed.specs.Queue.{Queue}
use Rattle.keyed.proofs.Queued.{first_is}
use Rattle.keyed.proofs.queue.Queue.first.Goals as goal

pub returns : goal.returns
returns g c = c.get.ensures ∙ first_is g.R.Keyed.key_of c.self.inside.first c.self.inside.next c.self.inside.placed c.self.invariant
    ∙ ap (λ (q : Queue _). slice_get q.items 0) c.self.view_is
