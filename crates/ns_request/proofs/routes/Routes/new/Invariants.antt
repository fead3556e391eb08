use Rattle.std.proofs.Common.{take}
use Rattle.ns_request.specs.Endpoints.{every_endpoint}
use Rattle.ns_request.proofs.Routing.{IsBuilt}
use Rattle.ns_request.proofs.routes.Routes.new.Given as goal

abbrev pub invariant-loop-endpoint : goal.invariant-loop-endpoint
invariant-loop-endpoint l = IsBuilt l.router (take l.endpoint-index every_endpoint)
