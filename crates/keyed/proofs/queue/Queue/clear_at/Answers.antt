use Rattle.std.specs.Prelude.{◌≤◌}
use Rattle.std.proofs.Common.{ap, refl, subst, sym, ◌∙◌}
use Rattle.keyed.specs.Queue.{KeepsPlaces, Queue, queue_of}
use Rattle.keyed.proofs.Queued.{cleared_placed, same_items}
use Rattle.keyed.proofs.queue.Queue.clear_at.Goals as goal

pub invariant_of-self : goal.invariant_of-self
invariant_of-self g c = cleared_placed g.R.Keyed.key_of c.self.inside.first c.self.inside.next c.self.inside.placed c.self.invariant c.clear.new.self
    c.args.place c.args.row.now (subst (λ (q : Queue _). q.next ≤ c.args.place) (sym c.self.view_is) c.requires) c.clear.ensures

pub returns-clause-items : goal.returns-clause-items
returns-clause-items g c = same_items c.self.inside.placed.rows c.clear.new.self.rows c.clear.ensures.rows
    ∙ ap (λ (q : Queue _). q.items) c.self.view_is

pub returns-clause-places : goal.returns-clause-places
returns-clause-places g c = subst (λ (q : Queue _). KeepsPlaces q (queue_of c.self.inside.next c.clear.new.self)) c.self.view_is
    (record { rows = c.clear.ensures.rows; next = refl })
