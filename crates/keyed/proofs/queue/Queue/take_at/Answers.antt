use Rattle.std.proofs.Common.{subst, sym}
use Rattle.keyed.specs.Queue.{IsPlaced}
use Rattle.keyed.proofs.Queued.{taken_behind, taken_first}
use Rattle.keyed.proofs.Taken.{fewer_left, items_left, room_left, rows_left, taken_before, taken_row}
use Rattle.keyed.proofs.queue.Queue.take_at.Goals as goal

pub invariant_of-self : goal.invariant_of-self
invariant_of-self g c = subst (λ first. IsPlaced g.R.Keyed.key_of first c.self.inside.next c.take-taken.new.self)
    (sym c.unwrap_or-self-inside.ensures)
    (taken_first g.R.Keyed.key_of c.self.inside.first c.self.inside.next c.self.inside.placed c.self.invariant c.take-taken.new.self
    c.args.place c.take-taken.result (sym c.take-taken.ensures.row) c.take-taken.ensures.left c.if-place-self.true c.next_row.result c.next_row.ensures)

pub invariant_of-self-else-place-self : goal.invariant_of-self-else-place-self
invariant_of-self-else-place-self g c = taken_behind g.R.Keyed.key_of c.self.inside.first c.self.inside.next c.self.inside.placed c.self.invariant
    c.take-taken.new.self c.args.place c.take-taken.result (sym c.take-taken.ensures.row) c.take-taken.ensures.left c.if-place-self.false

pub returns-then-place-self-clause-row : goal.returns-then-place-self-clause-row
returns-then-place-self-clause-row g c =
    taken_row g.R.Keyed.key_of c.self.inside.first c.self.inside.next c.self.inside.placed c.take-taken.new.self c.self.invariant _
    c.self.view_is c.args.place c.take-taken.result c.take-taken.ensures.row c.take-taken.ensures.left

pub returns-else-place-self-clause-row : goal.returns-else-place-self-clause-row
returns-else-place-self-clause-row g c =
    taken_row g.R.Keyed.key_of c.self.inside.first c.self.inside.next c.self.inside.placed c.take-taken.new.self c.self.invariant _
    c.self.view_is c.args.place c.take-taken.result c.take-taken.ensures.row c.take-taken.ensures.left

pub returns-then-place-self-clause-rows : goal.returns-then-place-self-clause-rows
returns-then-place-self-clause-rows g c =
    rows_left g.R.Keyed.key_of c.self.inside.first c.self.inside.next c.self.inside.placed c.take-taken.new.self c.self.invariant _
    c.self.view_is c.args.place c.take-taken.result c.take-taken.ensures.row c.take-taken.ensures.left

pub returns-else-place-self-clause-rows : goal.returns-else-place-self-clause-rows
returns-else-place-self-clause-rows g c =
    rows_left g.R.Keyed.key_of c.self.inside.first c.self.inside.next c.self.inside.placed c.take-taken.new.self c.self.invariant _
    c.self.view_is c.args.place c.take-taken.result c.take-taken.ensures.row c.take-taken.ensures.left

pub returns-then-place-self-clause-items : goal.returns-then-place-self-clause-items
returns-then-place-self-clause-items g c =
    items_left g.R.Keyed.key_of c.self.inside.first c.self.inside.next c.self.inside.placed c.take-taken.new.self c.self.invariant _
    c.self.view_is c.args.place c.take-taken.result c.take-taken.ensures.row c.take-taken.ensures.left

pub returns-else-place-self-clause-items : goal.returns-else-place-self-clause-items
returns-else-place-self-clause-items g c =
    items_left g.R.Keyed.key_of c.self.inside.first c.self.inside.next c.self.inside.placed c.take-taken.new.self c.self.invariant _
    c.self.view_is c.args.place c.take-taken.result c.take-taken.ensures.row c.take-taken.ensures.left

pub returns-then-place-self-clause-fewer : goal.returns-then-place-self-clause-fewer
returns-then-place-self-clause-fewer g c =
    fewer_left g.R.Keyed.key_of c.self.inside.first c.self.inside.next c.self.inside.placed c.take-taken.new.self c.self.invariant _
    c.self.view_is c.args.place c.take-taken.result c.take-taken.ensures.row c.take-taken.ensures.left

pub returns-else-place-self-clause-fewer : goal.returns-else-place-self-clause-fewer
returns-else-place-self-clause-fewer g c =
    fewer_left g.R.Keyed.key_of c.self.inside.first c.self.inside.next c.self.inside.placed c.take-taken.new.self c.self.invariant _
    c.self.view_is c.args.place c.take-taken.result c.take-taken.ensures.row c.take-taken.ensures.left

pub returns-then-place-self-clause-room : goal.returns-then-place-self-clause-room
returns-then-place-self-clause-room g c =
    room_left g.R.Keyed.key_of c.self.inside.first c.self.inside.next c.self.inside.placed c.take-taken.new.self c.self.invariant _
    c.self.view_is c.args.place c.take-taken.result c.take-taken.ensures.row c.take-taken.ensures.left

pub returns-else-place-self-clause-room : goal.returns-else-place-self-clause-room
returns-else-place-self-clause-room g c =
    room_left g.R.Keyed.key_of c.self.inside.first c.self.inside.next c.self.inside.placed c.take-taken.new.self c.self.invariant _
    c.self.view_is c.args.place c.take-taken.result c.take-taken.ensures.row c.take-taken.ensures.left

pub returns-then-place-self-clause-before : goal.returns-then-place-self-clause-before
returns-then-place-self-clause-before g c =
    taken_before g.R.Keyed.key_of c.self.inside.first c.self.inside.next c.self.inside.placed c.take-taken.new.self c.self.invariant _
    c.self.view_is c.args.place c.take-taken.result c.take-taken.ensures.row c.take-taken.ensures.left

pub returns-else-place-self-clause-before : goal.returns-else-place-self-clause-before
returns-else-place-self-clause-before g c =
    taken_before g.R.Keyed.key_of c.self.inside.first c.self.inside.next c.self.inside.placed c.take-taken.new.self c.self.invariant _
    c.self.view_is c.args.place c.take-taken.result c.take-taken.ensures.row c.take-taken.ensures.left
