use Rattle.ns_request.proofs.Routing.{built-none, built-next, same_place, built_all}
use Rattle.ns_request.proofs.routes.Routes.new.Goals as goal

pub loop-endpoint-init : goal.loop-endpoint-init
loop-endpoint-init c = built-none c.new-router.result c.new-router.ensures

pub loop-endpoint-preserved : goal.loop-endpoint-preserved
loop-endpoint-preserved c =
    built-next _ c.insert.new.self c.loop-endpoint.endpoint-index _ _ c.insert.result c.in-Ok.field-0 c.insert.ensures c.pattern.ensures c.in-Ok.is
    c.loop-endpoint-test.true
    (same_place c.loop-endpoint.endpoint-index c.loop-endpoint-test.true) c.loop-endpoint.invariant

pub invariant_of-result : goal.invariant_of-result
invariant_of-result c = built_all c.loop-endpoint.router c.loop-endpoint.endpoint-index c.loop-endpoint-test.false c.loop-endpoint.invariant
