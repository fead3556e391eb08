-- What a router of the table finds.
use Rattle.std.specs.Prelude.{◌≡◌, ℕ, List, option_map}
use Rattle.matchit.specs.Rows.{RowsOf}
use Rattle.matchit.specs.Router.{RouteOf}
use Rattle.matchit.specs.Seek.{first}
use Rattle.ns_request.specs.declared.endpoint.Endpoint.{Endpoint}
use Rattle.ns_request.specs.Endpoints.{endpoint_of}

-- the router finds the endpoint of each path, and nothing where the path has none
abbrev pub Serves : RowsOf (RouteOf Endpoint) → Type 0
Serves rows = (path : List ℕ) → option_map (λ route. route.value) (first rows path) ≡ endpoint_of path
