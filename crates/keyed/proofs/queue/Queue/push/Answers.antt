use Rattle.std.proofs.Common.{◌≡◌, ℕ, cond, Some, ◌++◌, ◌∷◌, [], ap, subst, sym, ◌∙◌}
use Rattle.keyed.specs.Queue.{CanAddRows, Queue}
use Rattle.keyed.specs.Table.{row_at}
use Rattle.keyed.proofs.Queued.{items_pushed, pushed_placed}
use Rattle.keyed.proofs.RoomLeft.{room_put}
use Rattle.ns_types.specs.State.Names.{same_number}
use Rattle.keyed.proofs.queue.Queue.push.Goals as goal

pub invariant_of-self : goal.invariant_of-self
invariant_of-self g c = pushed_placed g.R.Keyed.key_of c.self.inside.first c.self.inside.next c.self.inside.placed c.self.invariant
    c.put.new.self c.args.row c.put.ensures

pub returns-clause-items : goal.returns-clause-items
returns-clause-items g c = items_pushed c.self.inside.placed.rows c.put.new.self.rows c.self.inside.next c.args.row c.self.invariant.behind
    c.put.ensures.rows
    ∙ ap (λ (q : Queue _). q.items ++ c.args.row ∷ []) c.self.view_is

pub returns-clause-rows : goal.returns-clause-rows
returns-clause-rows g c =
    subst (λ (q : Queue _). (n : ℕ) → row_at c.put.new.self.rows n ≡ cond (same_number n q.next) (Some c.args.row) (row_at q.placed.rows n))
    c.self.view_is c.put.ensures.rows

pub returns-clause-room : goal.returns-clause-room
returns-clause-room g c more can = room_put g.R.Keyed.key_of c.self.inside.placed c.put.new.self c.self.inside.next c.args.row c.put.ensures more
    (subst (λ (q : Queue _). CanAddRows g.R.Keyed.key_of (c.args.row ∷ more) q) (sym c.self.view_is) can)
