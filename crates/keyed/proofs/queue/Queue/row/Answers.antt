use Rattle.std.proofs.Common.{ap, ◌∙◌}
use Rattle.keyed.specs.Queue.{Queue}
use Rattle.keyed.specs.Table.{row_at}
use Rattle.keyed.proofs.queue.Queue.row.Goals as goal

pub returns : goal.returns
returns g c = c.get.ensures ∙ ap (λ (q : Queue _). row_at q.placed.rows c.args.place) c.self.view_is
