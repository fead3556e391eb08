-- The endpoint and the method that the head of a request names, or the refusal that the head alone decides.
use Rattle.std.specs.Prelude.{Option, Some, None, Result, Ok, Err, if◌then◌else◌, not}
use Rattle.ns_types.specs.declared.refusal.Refusal.{Refusal}
use Rattle.ns_types.specs.Wire.Http.{Asked}
use Rattle.ns_request.specs.declared.endpoint.Endpoint.{Endpoint}
use Rattle.ns_request.specs.declared.finding.RequestTarget.{RequestTarget}
use Rattle.ns_request.specs.declared.method.Method.{Method}
use Rattle.ns_request.specs.Endpoints.{endpoint_of, methods_of}
use Rattle.ns_request.specs.Methods.{method_of, has_method}
use Rattle.ns_request.specs.Queries.{is_unserved}
use Rattle.ns_request.specs.Targets.{path_in, query_in, has_good_parts, names_every_pool}

abbrev pub place_of : RequestTarget → Endpoint × Method
place_of target = (target.endpoint, target.method)

abbrev pub found_by : Endpoint → Option Method → Result (Endpoint × Method) Refusal
found_by endpoint None = Err Refusal.BadMethod
found_by endpoint (Some method) =
    if has_method (methods_of endpoint) method then Ok (endpoint, method) else Err Refusal.BadMethod

unfoldable pub found_at : Endpoint → Asked → Result (Endpoint × Method) Refusal
found_at endpoint a =
    if not (has_good_parts endpoint (path_in a.target)) then Err Refusal.NotFound
    else if names_every_pool endpoint (path_in a.target) then Err Refusal.NotServed
    else if is_unserved endpoint (method_of a.method) (query_in a.target) then Err Refusal.NotServed
    else found_by endpoint (method_of a.method)

unfoldable pub found : Asked → Result (Endpoint × Method) Refusal
found a = elim (endpoint_of (path_in a.target)) [ None ↦ Err Refusal.NotFound | Some endpoint ↦ found_at endpoint a ]
