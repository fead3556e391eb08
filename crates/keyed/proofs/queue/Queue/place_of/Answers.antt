use Rattle.std.proofs.Common.{subst}
use Rattle.keyed.specs.Queue.{IsPlaceOf, Queue}
use Rattle.keyed.proofs.Queued.{place_found}
use Rattle.keyed.proofs.queue.Queue.place_of.Goals as goal

pub returns : goal.returns
returns g c = subst (λ (q : Queue _). IsPlaceOf g.R.Keyed.key_of (c.args.namespace.now, c.args.number) q c.first_of.result) c.self.view_is
    (place_found g.R.Keyed.key_of c.self.inside.first c.self.inside.next c.self.inside.placed c.self.invariant
    (c.args.namespace.now, c.args.number) c.first_of.result c.first_of.ensures)
