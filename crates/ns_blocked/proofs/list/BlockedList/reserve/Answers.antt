use Rattle.std.specs.Prelude.{ℕ}
use Rattle.std.proofs.Common.{ap, refl, subst, sym, ◌∙◌}
use Rattle.ns_types.proofs.Results.{on_ok}
use Rattle.ns_blocked.specs.Blocked.{entries_of}
use Rattle.ns_blocked.specs.Groups.{HasGroupRoom}
use Rattle.ns_blocked.proofs.Listed.{still_grouped}
use Rattle.ns_blocked.proofs.list.BlockedList.reserve.Goals as goal

pub invariant_of-self : goal.invariant_of-self
invariant_of-self c = still_grouped c.self.inside.queue.placed.rows c.self.inside.queue.placed.rows c.self.inside.groups
    c.reserve_from.new.self c.self.invariant (λ n. refl) (λ waits n. c.reserve_from.ensures.same.held (waits, n))

pub invariant_of-self-2 : goal.invariant_of-self-2
invariant_of-self-2 c = still_grouped c.self.inside.queue.placed.rows c.reserve.new.self.placed.rows c.self.inside.groups
    c.reserve_from.new.self c.self.invariant c.reserve.ensures.places.rows (λ waits n. c.reserve_from.ensures.same.held (waits, n))

pub returns-in_err-reserve_from-clause-entries : goal.returns-in_err-reserve_from-clause-entries
returns-in_err-reserve_from-clause-entries c = ap entries_of c.self.view_is

pub returns-clause-entries : goal.returns-clause-entries
returns-clause-entries c = c.reserve.ensures.items ∙ ap entries_of c.self.view_is

pub returns-clause-ok : goal.returns-clause-ok
returns-clause-ok c = on_ok c.reserve.result (λ can. (
  can,
  subst (λ (n : ℕ). HasGroupRoom n c.args.entries.now c.reserve_from.new.self) (c.next_place-first.ensures.next ∙ sym c.reserve.ensures.places.next)
      c.in_ok-reserve_from.ensures.ok,
)) c.reserve.ensures.ok
