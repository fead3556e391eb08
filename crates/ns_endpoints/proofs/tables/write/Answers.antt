use Rattle.std.proofs.Common.{[], refl}
use Rattle.ns_types.specs.declared.id.IdKind.TheVariants as IdKind
use Rattle.ns_types.specs.declared.name.NameKind.TheVariants as NameKind
use Rattle.ns_http.specs.Head.{asked}
use Rattle.ns_request.specs.declared.endpoint.Endpoint.TheVariants as Endpoint
use Rattle.ns_request.specs.Targets.{path_in}
use Rattle.ns_request.proofs.Rules.{first_is_id, first_is_name, second_is_name}
use Rattle.ns_endpoints.proofs.Steps.{write_elsewhere}
use Rattle.ns_endpoints.proofs.tables.write.Goals as goal

pub returns-in_default-clause-wanted : goal.returns-in_default-clause-wanted
returns-in_default-clause-wanted c =
    let h = c.in_default in
    let endpoint = c.args.target.now.endpoint in
    write_elsewhere endpoint _ h.not-Jobs h.not-NewNamespace h.not-Namespace h.not-NewQuota h.not-Quota h.not-Pools h.not-Pool h.not-AllocationStop
    h.not-Node h.not-NodeStatus h.not-NodeEligibility h.not-NodeReport h.not-Policy h.not-NewToken

pub put_namespace-requires-in-Namespace : goal.put_namespace-requires-in-Namespace
put_namespace-requires-in-Namespace c =
    let target = c.args.target.now in
    first_is_name NameKind.Namespace 3 target.endpoint Endpoint.Namespace [] (path_in (asked target.request).target) target.name c.in-Namespace.is refl
    target.parts target.name_is

pub put_quota-requires-in-Quota : goal.put_quota-requires-in-Quota
put_quota-requires-in-Quota c =
    let target = c.args.target.now in
    first_is_name NameKind.Quota 3 target.endpoint Endpoint.Quota [] (path_in (asked target.request).target) target.name c.in-Quota.is refl
    target.parts target.name_is

pub put_pool-requires-in-Pool : goal.put_pool-requires-in-Pool
put_pool-requires-in-Pool c =
    let target = c.args.target.now in
    first_is_name NameKind.Pool 4 target.endpoint Endpoint.Pool [] (path_in (asked target.request).target) target.name c.in-Pool.is refl
    target.parts target.name_is

pub put_policy-requires-clause-named : goal.put_policy-requires-clause-named
put_policy-requires-clause-named c =
    let target = c.args.target.now in
    first_is_name NameKind.Policy 4 target.endpoint Endpoint.Policy [] (path_in (asked target.request).target) target.name c.in-Policy.is refl
    target.parts target.name_is

pub number-requires : goal.number-requires
number-requires c =
    let target = c.args.target.now in
    first_is_id IdKind.Allocation 3 target.endpoint Endpoint.AllocationStop [] (path_in (asked target.request).target) target.name c.in-AllocationStop.is
    refl target.parts target.name_is

pub put_node-requires-clause-named : goal.put_node-requires-clause-named
put_node-requires-clause-named c =
    let target = c.args.target.now in
    second_is_name NameKind.Node 6 target.endpoint Endpoint.Node _ [] (path_in (asked target.request).target) target.node c.in-Node.is refl
    target.parts target.node_is
