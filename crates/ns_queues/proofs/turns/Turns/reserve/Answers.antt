use Rattle.std.proofs.Common.{refl}
use Rattle.ns_queues.proofs.Together.{right_kept}
use Rattle.ns_queues.proofs.turns.Turns.reserve.Goals as goal

pub returns-in_err-reserve-clause-same : goal.returns-in_err-reserve-clause-same
returns-in_err-reserve-clause-same c = right_kept c.args.self.now _ refl c.reserve.ensures.same (λ priority. refl) refl

pub returns-in_err-ready-clause-same : goal.returns-in_err-ready-clause-same
returns-in_err-ready-clause-same c = right_kept c.args.self.now _ refl c.reserve.ensures.same c.reserve-2.ensures.same refl

pub returns-in_err-blocked-clause-same : goal.returns-in_err-blocked-clause-same
returns-in_err-blocked-clause-same c = right_kept c.args.self.now _ refl c.reserve.ensures.same c.reserve-2.ensures.same c.reserve-3.ensures.same

pub returns-clause-same : goal.returns-clause-same
returns-clause-same c = right_kept c.args.self.now _ refl c.reserve.ensures.same c.reserve-2.ensures.same c.reserve-3.ensures.same
