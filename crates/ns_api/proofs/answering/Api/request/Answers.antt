use Rattle.ns_http.specs.Head
use Rattle.ns_api.proofs.Answered.{found_answers, none_answers}
use Rattle.ns_api.proofs.answering.Api.request.Goals as goal

pub returns-in-Ok-clause-answered : goal.returns-in-Ok-clause-answered
returns-in-Ok-clause-answered g c = found_answers g.T.Takes.takes g.D.Draws.draws (Head.asked c.args.request.now)
    c.in-Ok.step (c.args.self.now.taker, c.args.self.now.router.draws) (c.respond.new.self, c.step.new.self.draws) _ c.in-Ok.ensures.found c.respond.ensures

pub returns-in-Err-clause-answered : goal.returns-in-Err-clause-answered
returns-in-Err-clause-answered g c = none_answers g.T.Takes.takes g.D.Draws.draws (Head.asked c.args.request.now)
    c.in-Err.refusal c.args.self.now.taker c.args.self.now.router.draws c.step.new.self.draws c.in-Err.ensures.none
