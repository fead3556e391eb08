use Rattle.std.specs.Prelude.{ℕ, None, cond, is_some, option_map}
use Rattle.std.proofs.Common.{ap, refl, subst, sym, ◌∙◌}
use Rattle.ns_types.specs.State.Names.{same_number}
use Rattle.ns_blocked.specs.declared.entry.BlockedEvaluation.{BlockedEvaluation}
use Rattle.ns_blocked.specs.Blocked.{BlockedList, CanAdd, entry_at}
use Rattle.ns_blocked.specs.Groups.{HasGroupRoom}
use Rattle.ns_blocked.proofs.Listed.{nothing_taken, still_grouped, take_grouped}
use Rattle.ns_blocked.proofs.Rooms.{room_behind}
use Rattle.ns_blocked.proofs.list.BlockedList.take_at.Goals as goal

pub invariant_of-self : goal.invariant_of-self
invariant_of-self c = still_grouped c.self.inside.queue.placed.rows c.take_at.new.self.placed.rows c.self.inside.groups c.self.inside.groups
    c.self.invariant (nothing_taken c.self.inside.queue.placed.rows c.take_at.new.self.placed.rows c.args.place
    (sym c.take_at.ensures.row ∙ c.in_default.is) c.take_at.ensures.rows) (λ waits n. refl)

pub returns-in_default-clause-key : goal.returns-in_default-clause-key
returns-in_default-clause-key c = ap (option_map (λ (e : BlockedEvaluation). e.key)) (sym c.in_default.is ∙ c.take_at.ensures.row)
    ∙ ap (λ (b : BlockedList). option_map (λ (e : BlockedEvaluation). e.key) (entry_at b c.args.place)) c.self.view_is

pub returns-in_default-clause-entry : goal.returns-in_default-clause-entry
returns-in_default-clause-entry c n = c.take_at.ensures.rows n
    ∙ ap (λ (b : BlockedList). cond (same_number n c.args.place) None (entry_at b n)) c.self.view_is

pub returns-in_default-clause-room : goal.returns-in_default-clause-room
returns-in_default-clause-room c es can =
    let was = subst (λ (b : BlockedList). CanAdd es b) (sym c.self.view_is) can in (
      c.take_at.ensures.room es was.0,
      subst (λ (n : ℕ). HasGroupRoom n es c.self.inside.groups) (sym c.take_at.ensures.next) was.1,
    )

pub invariant_of-self-2 : goal.invariant_of-self-2
invariant_of-self-2 c = take_grouped c.self.inside.queue.placed.rows c.take_at.new.self.placed.rows c.self.inside.groups c.remove.new.self c.self.invariant
    c.args.place c.in-Some.entry (sym c.take_at.ensures.row ∙ c.in-Some.is) c.take_at.ensures.rows c.remove.ensures

pub returns-clause-key : goal.returns-clause-key
returns-clause-key c = ap (option_map (λ (e : BlockedEvaluation). e.key)) (sym c.in-Some.is ∙ c.take_at.ensures.row)
    ∙ ap (λ (b : BlockedList). option_map (λ (e : BlockedEvaluation). e.key) (entry_at b c.args.place)) c.self.view_is

pub returns-clause-entry : goal.returns-clause-entry
returns-clause-entry c n = c.take_at.ensures.rows n
    ∙ ap (λ (b : BlockedList). cond (same_number n c.args.place) None (entry_at b n)) c.self.view_is

pub returns-clause-room : goal.returns-clause-room
returns-clause-room c es can =
    let was = subst (λ (b : BlockedList). CanAdd es b) (sym c.self.view_is) can in (
      c.take_at.ensures.room es was.0,
      subst (λ (n : ℕ). HasGroupRoom n es c.remove.new.self) (sym c.take_at.ensures.next)
          (room_behind c.self.inside.groups c.remove.new.self c.in-Some.entry.waits c.args.place c.remove.ensures c.self.inside.queue.next es
          (c.take_at.ensures.before (ap is_some c.in-Some.is)) was.1),
    )
