use Rattle.std.proofs.Common.{List, subst, sym}
use Rattle.std.proofs.lemmas.Result.{IfOk-weaker}
use Rattle.ns_log.specs.declared.receipts.receipt.Receipt.{Receipt}
use Rattle.ns_workers.specs.Growing.{Grows}
use Rattle.ns_listener.specs.Duties.{IsRequested}
use Rattle.ns_listener.proofs.Requests.{in_each_case, made_grows}
use Rattle.ns_listener.proofs.connections.answer.Goals as goal
use Rattle.ns_workers.proofs.Growing.{grows_same}

pub returns : goal.returns
returns g c =
    let requested = IsRequested g.D.Draws.draws in
    let before = c.args.client.now.taker.seat in
    let after = c.serve.new.client.taker.seat in
    let old : List Receipt × g.row.D.Denot = (before, c.args.client.now.router.draws) in
    let new : List Receipt × g.row.D.Denot = (after, c.serve.new.client.router.draws) in
    in_each_case {G = Grows requested before after} c.serve.result
    (IfOk-weaker c.serve.result _ _ (λ count p. made_grows g.D.Draws.draws old p.1.conversation.exchanges new p.1.made) c.serve.ensures.ok)
    (λ is. let p = c.serve.ensures.read is in made_grows g.D.Draws.draws old p.1.conversation.exchanges new p.1.made)
    (λ is. let p = c.serve.ensures.write is in made_grows g.D.Draws.draws old p.0.conversation.exchanges new p.0.made)
    (λ is. let p = c.serve.ensures.memory is in
    subst (λ client. Grows requested before client.taker.seat) (sym p.2) (grows_same requested before))
