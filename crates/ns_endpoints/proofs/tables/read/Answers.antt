use Rattle.std.proofs.Common.{[], refl}
use Rattle.ns_types.specs.declared.id.IdKind.TheVariants as IdKind
use Rattle.ns_http.specs.Head.{asked}
use Rattle.ns_request.specs.declared.endpoint.Endpoint.TheVariants as Endpoint
use Rattle.ns_request.specs.Targets.{path_in}
use Rattle.ns_request.proofs.Rules.{first_is_id}
use Rattle.ns_endpoints.proofs.Steps.{read_elsewhere}
use Rattle.ns_endpoints.proofs.tables.read.Goals as goal

pub returns-in_default-clause-wanted : goal.returns-in_default-clause-wanted
returns-in_default-clause-wanted c =
    let h = c.in_default in
    let endpoint = c.args.target.now.endpoint in
    read_elsewhere endpoint _ h.not-Jobs h.not-Job h.not-JobAllocations h.not-JobEvaluations h.not-Evaluations h.not-Evaluation h.not-Allocations
    h.not-Allocation h.not-Namespaces h.not-Namespace h.not-Quotas h.not-Quota h.not-QuotaUsage h.not-EventStream h.not-Pools h.not-Pool
    h.not-PoolNodes h.not-Policy

pub number-requires : goal.number-requires
number-requires c =
    let target = c.args.target.now in
    first_is_id IdKind.Evaluation 3 target.endpoint Endpoint.Evaluation [] (path_in (asked target.request).target) target.name c.in-Evaluation.is refl
    target.parts target.name_is

pub number-requires-in-Allocation : goal.number-requires-in-Allocation
number-requires-in-Allocation c =
    let target = c.args.target.now in
    first_is_id IdKind.Allocation 3 target.endpoint Endpoint.Allocation [] (path_in (asked target.request).target) target.name c.in-Allocation.is refl
    target.parts target.name_is
