use Rattle.std.specs.Prelude.{ℕ, ◌+◌, ◌<◌, ◌^◌, ◌++◌, ◌∷◌, [], IsTrue}
use Rattle.std.proofs.Common.{ap, arith, subst, sym, ◌∙◌}
use Rattle.keyed.specs.Levels.{Adds}
use Rattle.keyed.specs.Queue.{HasRoomAt}
use Rattle.ns_blocked.specs.declared.entry.BlockedEvaluation.{BlockedEvaluation}
use Rattle.ns_blocked.specs.Blocked.{BlockedList, CanAdd, entries_of}
use Rattle.ns_blocked.specs.Groups.{HasGroupRoom, has_waiting_room, holds_waiting, same_waiting}
use Rattle.ns_blocked.proofs.Listed.{put_grouped}
use Rattle.ns_blocked.proofs.Rooms.{group_room}
use Rattle.ns_blocked.proofs.list.BlockedList.block.Goals as goal

pub insert-requires : goal.insert-requires
insert-requires c = subst (λ (n : ℕ). IsTrue (has_waiting_room c.self.inside.groups (c.args.entry.waits, n))) (sym c.next_place-place.ensures.next)
    (subst (λ (b : BlockedList). IsTrue (has_waiting_room b.groups (c.args.entry.waits, b.queue.next))) (sym c.self.view_is) c.requires.1.0)

pub push-requires-clause-places : goal.push-requires-clause-places
push-requires-clause-places c = subst (λ (b : BlockedList). b.queue.next + 1 < 2 ^ 64) (sym c.self.view_is) c.requires.0.0

pub push-requires-clause-room : goal.push-requires-clause-room
push-requires-clause-room c = subst (λ (b : BlockedList). HasRoomAt (λ (e : BlockedEvaluation). e.key) b.queue.next c.args.entry b.queue.placed)
    (sym c.self.view_is) c.requires.0.1

pub invariant_of-self : goal.invariant_of-self
invariant_of-self c = put_grouped c.self.inside.queue.placed.rows c.push.new.self.placed.rows c.self.inside.groups c.insert.new.self c.self.invariant
    c.self.inside.queue.next c.args.entry (c.next_place-place.ensures.behind c.self.inside.queue.next (omega arith)) c.push.ensures.rows
    (subst (λ (n : ℕ). Adds holds_waiting has_waiting_room same_waiting (c.args.entry.waits, n) c.self.inside.groups c.insert.new.self)
    c.next_place-place.ensures.next c.insert.ensures)

pub returns-clause-entries : goal.returns-clause-entries
returns-clause-entries c = c.push.ensures.items ∙ ap (λ (b : BlockedList). entries_of b ++ c.args.entry ∷ []) c.self.view_is

pub returns-clause-room : goal.returns-clause-room
returns-clause-room c es can =
    let was = subst (λ (b : BlockedList). CanAdd (c.args.entry ∷ es) b) (sym c.self.view_is) can in (
      c.push.ensures.room es was.0,
      subst (λ (n : ℕ). HasGroupRoom n es c.insert.new.self) (sym c.push.ensures.next)
          (group_room c.self.inside.groups c.insert.new.self c.insert.ensures.room (c.self.inside.queue.next + 1) es was.1.1),
    )
