use Rattle.std.proofs.Common.{◌∙◌, ap, sym, subst}
use Rattle.ns_http.specs.Head.{asked}
use Rattle.ns_request.specs.Judging.{judged, named_in}
use Rattle.ns_request.specs.Gives.{Refuses}
use Rattle.ns_request.specs.Targets.{query_in}
use Rattle.ns_request.proofs.Targets.{found_at-good}
use Rattle.ns_request.proofs.finding.RequestTarget.at.Goals as goal

pub returns-in-Err-clause-found : goal.returns-in-Err-clause-found
returns-in-Err-clause-found c =
    let a = asked c.args.request.now in
    let endpoint = c.args.endpoint in
    let refusal = c.in-Err.refusal in
    let named = ap (named_in endpoint) (sym c.requires.path) ∙ sym c.in_ok-named.ensures ∙ c.in-Some.is in
    subst (Refuses refusal) (found_at-good endpoint a c.in-Some.named named c.if-named.false)
    (subst (λ method. Refuses refusal (judged endpoint method (query_in a.target))) c.read-2.ensures
    (subst (λ query. Refuses refusal (judged endpoint c.read-2.result query)) (c.in_ok-query.ensures ∙ c.requires.query) c.in-Err.ensures))
