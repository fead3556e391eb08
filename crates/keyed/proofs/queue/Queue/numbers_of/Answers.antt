use Rattle.std.proofs.Common.{refl, subst, IsTrue, Bool, true, false, None, ◌≡◌, ℕ}
use Rattle.keyed.specs.Queue.{Queue, has_row, queue_of, stands_in}
use Rattle.keyed.proofs.Queued.{place_found}
use Rattle.ns_types.proofs.Lists.{not_both}
use Rattle.keyed.proofs.queue.Queue.numbers_of.Goals as goal

pub returns : goal.returns
returns g c = subst (λ (q : Queue _). (n : ℕ) → IsTrue (has_row g.R.Keyed.key_of q.items (c.args.namespace.now, n))
    → IsTrue (stands_in n c.numbers_of.result.now)) c.self.view_is (λ n has. by n has (stands_in n c.numbers_of.result.now) refl)
  where
    by : (n : ℕ) → IsTrue (has_row g.R.Keyed.key_of (queue_of c.self.inside.next c.self.inside.placed).items (c.args.namespace.now, n)) → (b : Bool) →
        stands_in n c.numbers_of.result.now ≡ b → stands_in n c.numbers_of.result.now ≡ true
    by n has true e = e
    by n has false e = not_both has (place_found g.R.Keyed.key_of c.self.inside.first c.self.inside.next c.self.inside.placed c.self.invariant
        (c.args.namespace.now, n) None (λ place. c.numbers_of.ensures n place e))
