use Rattle.ns_http.specs.Head.{asked}
use Rattle.ns_request.specs.Targets.{path_in}
use Rattle.ns_request.proofs.Targets.{token_parsed}
use Rattle.ns_endpoints.proofs.Steps.{delete_elsewhere}
use Rattle.ns_endpoints.proofs.tables.delete.Goals as goal

pub returns-in_default-clause-wanted : goal.returns-in_default-clause-wanted
returns-in_default-clause-wanted c =
    let h = c.in_default in
    delete_elsewhere c.args.target.now.endpoint _ h.not-Job h.not-Namespace h.not-Quota h.not-Pool h.not-Node h.not-Policy h.not-Token

pub canonical-requires : goal.canonical-requires
canonical-requires c =
    let target = c.args.target.now in
    token_parsed target.endpoint (path_in (asked target.request).target) target.name c.as_str.result.now c.in-Token.is target.parts target.name_is
    c.as_str.ensures
