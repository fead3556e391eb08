use Rattle.ns_api.specs.Serving.{holding}
use Rattle.ns_listener.proofs.Gaining.{served, served_in_part}
use Rattle.ns_listener.proofs.clients.serving.serve.Goals as goal
use Rattle.ns_types.proofs.Results.{if_ok}

pub returns-clause-ok : goal.returns-clause-ok
returns-clause-ok g c =
    if_ok c.serve.result _ _ (λ count p. (
      p.0,
      served (λ s. s.seat) g.D.Draws.draws (holding c.args.client.now) (holding c.serve.new.api) _ p.0 p.1,
      p.2,
      p.3,
    )) c.serve.ensures.ok

pub returns-clause-read : goal.returns-clause-read
returns-clause-read g c = λ e.
    let p = c.serve.ensures.read e in (
      p.0,
      served (λ s. s.seat) g.D.Draws.draws (holding c.args.client.now) (holding c.serve.new.api) _ p.0 p.1,
      p.2,
    )

pub returns-clause-write : goal.returns-clause-write
returns-clause-write g c = λ e.
    let p = c.serve.ensures.write e in (
      served_in_part (λ s. s.seat) g.D.Draws.draws (holding c.args.client.now) (holding c.serve.new.api) _ p.0,
      p.1,
    )
