use Rattle.std.proofs.Common.{ap, length, sym, ◌∙◌}
use Rattle.keyed.specs.Queue.{Queue}
use Rattle.keyed.proofs.Queued.{length_items}
use Rattle.keyed.proofs.queue.Queue.len.Goals as goal

pub returns : goal.returns
returns g c = c.len.ensures ∙ sym (length_items c.self.inside.placed.rows) ∙ ap (λ (q : Queue _). length q.items) c.self.view_is
