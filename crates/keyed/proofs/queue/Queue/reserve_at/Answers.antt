use Rattle.std.proofs.Common.{ap, refl, subst, ◌∙◌}
use Rattle.keyed.specs.Queue.{KeepsPlaces, KeepsRoom, Queue, at, queue_of}
use Rattle.keyed.proofs.Queued.{same_items, still_placed}
use Rattle.keyed.proofs.queue.Queue.reserve_at.Goals as goal

pub invariant_of-self : goal.invariant_of-self
invariant_of-self g c = still_placed g.R.Keyed.key_of c.self.inside.first c.self.inside.next c.self.inside.placed c.self.invariant c.reserve.new.self
    c.reserve.ensures.same.rows (λ q n. c.reserve.ensures.same.places.held (at q n))

pub returns-clause-items : goal.returns-clause-items
returns-clause-items g c = same_items c.self.inside.placed.rows c.reserve.new.self.rows c.reserve.ensures.same.rows
    ∙ ap (λ (q : Queue _). q.items) c.self.view_is

pub returns-clause-places : goal.returns-clause-places
returns-clause-places g c = subst (λ (q : Queue _). KeepsPlaces q (queue_of c.self.inside.next c.reserve.new.self)) c.self.view_is
    (record { rows = c.reserve.ensures.same.rows; next = refl })

pub returns-clause-room : goal.returns-clause-room
returns-clause-room g c = subst (λ (q : Queue _). KeepsRoom q.placed c.reserve.new.self) c.self.view_is
    (record { slots = c.reserve.ensures.same.slots; places = λ key n. c.reserve.ensures.same.places.room (at key n) })
