use Rattle.std.proofs.Common.{Global, subst}
use Rattle.ns_work_lock.specs.Receiving.{Asks}
use Rattle.ns_listener.proofs.Gaining.{not_taken, taken}
use Rattle.ns_listener.proofs.clients.shared_seat.SharedSeatTakes.respond.Goals as goal

pub returns-in-Ok : goal.returns-in-Ok
returns-in-Ok g c = taken c.args.step c.args.self.now.seat c.take.new.seat c.in-Ok.response
    (subst (λ r. Asks c.args.step c.args.self.now.seat r c.take.new.seat) c.in-Ok.is c.take.ensures)

pub returns-in-Err : goal.returns-in-Err
returns-in-Err g c = not_taken Global c.args.step c.args.self.now.seat c.take.new.seat c.in-Err.refusal
    (subst (λ r. Asks c.args.step c.args.self.now.seat r c.take.new.seat) c.in-Err.is c.take.ensures)
