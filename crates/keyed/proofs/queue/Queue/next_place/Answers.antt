use Rattle.std.specs.Prelude.{◌≡◌, ℕ, ◌≤◌, None}
use Rattle.std.proofs.Common.{ap, subst}
use Rattle.keyed.specs.Queue.{Queue}
use Rattle.keyed.specs.Table.{row_at}
use Rattle.keyed.proofs.queue.Queue.next_place.Goals as goal

pub returns-clause-next : goal.returns-clause-next
returns-clause-next g c = ap (λ (q : Queue _). q.next) c.self.view_is

pub returns-clause-behind : goal.returns-clause-behind
returns-clause-behind g c = subst (λ (q : Queue _). (n : ℕ) → q.next ≤ n → row_at q.placed.rows n ≡ None) c.self.view_is c.self.invariant.behind
