use Rattle.ns_api.proofs.Connections.{with_following}
use Rattle.ns_api.proofs.answering.ApiAnswer.answer.Goals as goal

pub returns : goal.returns
returns g c =
    let own = c.request-response.ensures in
    with_following g.T.Takes.takes g.D.Draws.draws g.F.Follows.follows _ _ _ _ _ _ own.answered own.not_yet c.follow.ensures
