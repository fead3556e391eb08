use Rattle.std.proofs.Common.{◌≡◌, ◌+◌, length, map, sum_by, vec_items}
use Rattle.ns_work_lock.proofs.settling.take_in.Given as goal

-- the shares of the seats so far are taken in, and their receipts are in the lists
abbrev pub invariant-loop-seat : goal.invariant-loop-seat
invariant-loop-seat g l =
    (goal.iterator-loop-seat g).can_next l.seat-iterator
    × (goal.iterator-loop-seat g).is_finite l.seat-iterator
    × (l.rest.parts ≡ l.initial.rest.parts + length l.yielded)
    × (l.rest.amount ≡ l.initial.rest.amount + sum_by (λ receipts. length receipts) l.yielded)
    × (map vec_items l.lists.items ≡ l.yielded)
