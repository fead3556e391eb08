use Rattle.std.proofs.Common.{◌≡◌, ◌<◌, ◌^◌, Some, None, true, rules, arith, ap, refl, ◌∙◌}
use Rattle.std.specs.Prelude.{is_some, unwrap_or}
use Rattle.ns_types.proofs.Lists.{not_both}
use Rattle.ns_json.specs.Ids.{id_of}
use Rattle.ns_json.proofs.Ids.{id_of-read}
use Rattle.ns_endpoints.proofs.tables.number.Goals as goal

pub unreachable-requires : goal.unreachable-requires
unreachable-requires c =
    let none : None ≡ id_of c.args.kind c.as_str.result.now =
    id_of-read c.args.kind c.as_str.result.now None tt tt c.in_default.ensures.none in
    let some : is_some (id_of c.args.kind c.as_str.result.now) ≡ true = ap (λ t. is_some (id_of c.args.kind t)) c.as_str.ensures ∙ c.requires in
    not_both (ap is_some none ∙ some) refl

pub returns : goal.returns
returns c =
    let small : c.in-Some.number < 2 ^ 64 = search (rules, arith) in
    let read : Some c.in-Some.number ≡ id_of c.args.kind c.as_str.result.now =
    id_of-read c.args.kind c.as_str.result.now (Some c.in-Some.number) c.in-Some.ensures.found small tt in
    ap (λ o. unwrap_or o 0) read ∙ ap (λ t. unwrap_or (id_of c.args.kind t) 0) c.as_str.ensures
