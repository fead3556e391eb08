use Rattle.ns_api.proofs.Connections.{held_conversation, held_in_part}
use Rattle.ns_api.proofs.serving.serve.Goals as goal
use Rattle.ns_types.proofs.Results.{if_ok}

pub returns-clause-ok : goal.returns-clause-ok
returns-clause-ok g c =
    if_ok c.serve.result _ _ (λ count p. (
      p.0,
      held_conversation g.T.Takes.takes g.D.Draws.draws g.F.Follows.follows c.args.api.now c.serve.new.handler _ p.0 p.1,
      p.2,
      p.3,
    )) c.serve.ensures.ok

pub returns-clause-read : goal.returns-clause-read
returns-clause-read g c = λ e.
    let p = c.serve.ensures.read e in (
      p.0,
      held_conversation g.T.Takes.takes g.D.Draws.draws g.F.Follows.follows c.args.api.now c.serve.new.handler _ p.0 p.1,
      p.2,
    )

pub returns-clause-write : goal.returns-clause-write
returns-clause-write g c = λ e.
    let p = c.serve.ensures.write e in (
      held_in_part g.T.Takes.takes g.D.Draws.draws g.F.Follows.follows c.args.api.now c.serve.new.handler _ p.0,
      p.1,
    )
