-- The paths that the server knows, with their methods and their parts.
use Rattle.std.specs.Prelude.{ℕ, ◌==◌, Bool, true, false, List, [], ◌∷◌, Option, length, nat_lt, codes, bytes_eq, find}
use Rattle.std.specs.Prelude.{if◌then◌else◌}
use Rattle.std.specs.Cmp.Lexicographic.{pointwise}
use Rattle.ns_types.specs.declared.id.IdKind.TheVariants as IdKind
use Rattle.ns_types.specs.declared.name.NameKind.TheVariants as NameKind
use Rattle.ns_request.specs.declared.endpoint.Endpoint.{Endpoint}
use Rattle.ns_request.specs.declared.endpoint.Placed.{Placed}
use Rattle.ns_request.specs.declared.method.Methods.{Methods}
use Rattle.ns_request.specs.declared.part.PathPart.TheVariants as PathPart
use Rattle.ns_request.specs.Parts.{segments_of}

-- ---- the table

-- the pattern of the path, in which a word in braces stands for a part
abbrev pub pattern_of : Endpoint → List ℕ
pattern_of Endpoint.Jobs = codes "/v1/jobs"
pattern_of Endpoint.Job = codes "/v1/job/{id}"
pattern_of Endpoint.JobAllocations = codes "/v1/job/{id}/allocations"
pattern_of Endpoint.JobEvaluations = codes "/v1/job/{id}/evaluations"
pattern_of Endpoint.Evaluations = codes "/v1/evaluations"
pattern_of Endpoint.Evaluation = codes "/v1/evaluation/{id}"
pattern_of Endpoint.Allocations = codes "/v1/allocations"
pattern_of Endpoint.Allocation = codes "/v1/allocation/{id}"
pattern_of Endpoint.AllocationStop = codes "/v1/allocation/{id}/stop"
pattern_of Endpoint.Namespaces = codes "/v1/namespaces"
pattern_of Endpoint.NewNamespace = codes "/v1/namespace"
pattern_of Endpoint.Namespace = codes "/v1/namespace/{name}"
pattern_of Endpoint.Quotas = codes "/v1/quotas"
pattern_of Endpoint.NewQuota = codes "/v1/quota"
pattern_of Endpoint.Quota = codes "/v1/quota/{name}"
pattern_of Endpoint.QuotaUsage = codes "/v1/quota/usage/{name}"
pattern_of Endpoint.EventStream = codes "/v1/event/stream"
pattern_of Endpoint.Pools = codes "/v1/node/pools"
pattern_of Endpoint.Pool = codes "/v1/node/pool/{name}"
pattern_of Endpoint.PoolNodes = codes "/v1/node/pool/{name}/nodes"
pattern_of Endpoint.Node = codes "/v1/node/pool/{name}/node/{node}"
pattern_of Endpoint.NodeStatus = codes "/v1/node/pool/{name}/node/{node}/status"
pattern_of Endpoint.NodeEligibility = codes "/v1/node/pool/{name}/node/{node}/eligibility"
pattern_of Endpoint.NodeReport = codes "/v1/node/pool/{name}/node/{node}/report"
pattern_of Endpoint.Policy = codes "/v1/acl/policy/{name}"
pattern_of Endpoint.NewToken = codes "/v1/acl/token"
pattern_of Endpoint.Token = codes "/v1/acl/token/{accessor}"

abbrev pub every_endpoint : List Endpoint
every_endpoint =
    Endpoint.Jobs ∷ Endpoint.Job ∷ Endpoint.JobAllocations ∷ Endpoint.JobEvaluations ∷ Endpoint.Evaluations ∷
    Endpoint.Evaluation ∷
    Endpoint.Allocations ∷ Endpoint.Allocation ∷ Endpoint.AllocationStop ∷ Endpoint.Namespaces ∷ Endpoint.NewNamespace ∷
    Endpoint.Namespace ∷
    Endpoint.Quotas ∷ Endpoint.NewQuota ∷ Endpoint.Quota ∷ Endpoint.QuotaUsage ∷ Endpoint.EventStream ∷ Endpoint.Pools ∷
    Endpoint.Pool ∷ Endpoint.PoolNodes ∷ Endpoint.Node ∷ Endpoint.NodeStatus ∷ Endpoint.NodeEligibility ∷
    Endpoint.NodeReport ∷
    Endpoint.Policy ∷ Endpoint.NewToken ∷ Endpoint.Token ∷ []

abbrev pub read : Methods
read = record { get = true; write = false; delete = false }

abbrev pub write : Methods
write = record { get = false; write = true; delete = false }

abbrev pub delete : Methods
delete = record { get = false; write = false; delete = true }

abbrev pub read_or_write : Methods
read_or_write = record { get = true; write = true; delete = false }

abbrev pub read_or_delete : Methods
read_or_delete = record { get = true; write = false; delete = true }

abbrev pub write_or_delete : Methods
write_or_delete = record { get = false; write = true; delete = true }

abbrev pub any_of_them : Methods
any_of_them = record { get = true; write = true; delete = true }

abbrev pub methods_of : Endpoint → Methods
methods_of Endpoint.Jobs = read_or_write
methods_of Endpoint.Job = read_or_delete
methods_of Endpoint.JobAllocations = read
methods_of Endpoint.JobEvaluations = read
methods_of Endpoint.Evaluations = read
methods_of Endpoint.Evaluation = read
methods_of Endpoint.Allocations = read
methods_of Endpoint.Allocation = read
methods_of Endpoint.AllocationStop = write
methods_of Endpoint.Namespaces = read
methods_of Endpoint.NewNamespace = write
methods_of Endpoint.Namespace = any_of_them
methods_of Endpoint.Quotas = read
methods_of Endpoint.NewQuota = write
methods_of Endpoint.Quota = any_of_them
methods_of Endpoint.QuotaUsage = read
methods_of Endpoint.EventStream = read
methods_of Endpoint.Pools = read_or_write
methods_of Endpoint.Pool = any_of_them
methods_of Endpoint.PoolNodes = read
methods_of Endpoint.Node = write_or_delete
methods_of Endpoint.NodeStatus = write
methods_of Endpoint.NodeEligibility = write
methods_of Endpoint.NodeReport = write
methods_of Endpoint.Policy = any_of_them
methods_of Endpoint.NewToken = write
methods_of Endpoint.Token = delete

-- ---- parts, by the places of their segments

abbrev pub job : Placed
job = record { place = 3; part = PathPart.Name NameKind.Job }

abbrev pub evaluation : Placed
evaluation = record { place = 3; part = PathPart.Id IdKind.Evaluation }

abbrev pub allocation : Placed
allocation = record { place = 3; part = PathPart.Id IdKind.Allocation }

abbrev pub namespace : Placed
namespace = record { place = 3; part = PathPart.Name NameKind.Namespace }

abbrev pub quota : Placed
quota = record { place = 3; part = PathPart.Name NameKind.Quota }

abbrev pub used_quota : Placed
used_quota = record { place = 4; part = PathPart.Name NameKind.Quota }

abbrev pub pool : Placed
pool = record { place = 4; part = PathPart.Name NameKind.Pool }

abbrev pub node : Placed
node = record { place = 6; part = PathPart.Name NameKind.Node }

abbrev pub policy : Placed
policy = record { place = 4; part = PathPart.Name NameKind.Policy }

abbrev pub accessor : Placed
accessor = record { place = 4; part = PathPart.Accessor }

abbrev pub parts_of : Endpoint → List Placed
parts_of Endpoint.Jobs = []
parts_of Endpoint.Job = job ∷ []
parts_of Endpoint.JobAllocations = job ∷ []
parts_of Endpoint.JobEvaluations = job ∷ []
parts_of Endpoint.Evaluations = []
parts_of Endpoint.Evaluation = evaluation ∷ []
parts_of Endpoint.Allocations = []
parts_of Endpoint.Allocation = allocation ∷ []
parts_of Endpoint.AllocationStop = allocation ∷ []
parts_of Endpoint.Namespaces = []
parts_of Endpoint.NewNamespace = []
parts_of Endpoint.Namespace = namespace ∷ []
parts_of Endpoint.Quotas = []
parts_of Endpoint.NewQuota = []
parts_of Endpoint.Quota = quota ∷ []
parts_of Endpoint.QuotaUsage = used_quota ∷ []
parts_of Endpoint.EventStream = []
parts_of Endpoint.Pools = []
parts_of Endpoint.Pool = pool ∷ []
parts_of Endpoint.PoolNodes = pool ∷ []
parts_of Endpoint.Node = pool ∷ node ∷ []
parts_of Endpoint.NodeStatus = pool ∷ node ∷ []
parts_of Endpoint.NodeEligibility = pool ∷ node ∷ []
parts_of Endpoint.NodeReport = pool ∷ node ∷ []
parts_of Endpoint.Policy = policy ∷ []
parts_of Endpoint.NewToken = []
parts_of Endpoint.Token = accessor ∷ []

-- ---- the endpoint of a path

-- the segment is the word; for a word in braces it is any segment that is not empty
abbrev pub fits : List ℕ → List ℕ → Bool
fits [] segment = length segment == 0
fits (b ∷ word) segment = if b == 123 then nat_lt 0 (length segment) else bytes_eq segment (b ∷ word)

-- each segment of the path fits the pattern's
abbrev pub is_spelled : List ℕ → List ℕ → Bool
is_spelled pattern path = pointwise fits (segments_of pattern) (segments_of path)

unfoldable pub endpoint_of : List ℕ → Option Endpoint
endpoint_of path = find (λ endpoint. is_spelled (pattern_of endpoint) path) every_endpoint
