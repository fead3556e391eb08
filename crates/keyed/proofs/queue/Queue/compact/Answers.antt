use Rattle.std.proofs.Common.{ap, refl, subst, ◌∙◌}
use Rattle.keyed.specs.Levels.{holds_place}
use Rattle.keyed.specs.Queue.{KeepsPlaces, Queue, at, queue_of}
use Rattle.keyed.proofs.Queued.{same_items, still_placed}
use Rattle.keyed.proofs.queue.Queue.compact.Goals as goal

pub invariant_of-self : goal.invariant_of-self
invariant_of-self g c = still_placed g.R.Keyed.key_of c.self.inside.first c.self.inside.next c.self.inside.placed c.self.invariant c.compact.new.self
    c.compact.ensures.rows (λ q n. ap (λ s. holds_place s (at q n)) c.compact.ensures.places)

pub returns-clause-items : goal.returns-clause-items
returns-clause-items g c = same_items c.self.inside.placed.rows c.compact.new.self.rows c.compact.ensures.rows
    ∙ ap (λ (q : Queue _). q.items) c.self.view_is

pub returns-clause-places : goal.returns-clause-places
returns-clause-places g c = subst (λ (q : Queue _). KeepsPlaces q (queue_of c.self.inside.next c.compact.new.self)) c.self.view_is
    (record { rows = c.compact.ensures.rows; next = refl })
