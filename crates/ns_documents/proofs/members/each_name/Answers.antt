use Rattle.std.proofs.lemmas.Result.{err_from_is_err_and}
use Rattle.ns_documents.specs.Members.{listed_name}
use Rattle.ns_json.proofs.Items.{goes_on, ends, is_done}
use Rattle.ns_documents.proofs.members.each_name.Goals as goal

pub returns-in_err-name : goal.returns-in_err-name
returns-in_err-name c =
    let p = err_from_is_err_and c.from_residual.result c.from_residual.ensures.1 in
    rw (p.1, p.2) (ends (listed_name c.args.member c.args.kind) _ c.loop-value.names c.args.values.now c.loop-value.value-index c.value-item.result _
    c.loop-value-test.true c.value-item.is (rw c.as_slice.ensures at c.in_err-name.ensures) c.loop-value.invariant)

pub loop-value-preserved : goal.loop-value-preserved
loop-value-preserved c =
    rw c.in_ok-push.ensures.ok (goes_on (listed_name c.args.member c.args.kind)
    c.loop-value.names c.args.values.now c.loop-value.value-index c.value-item.result c.in_ok-name.name _ c.loop-value-test.true c.value-item.is
    (rw c.as_slice.ensures at c.in_ok-name.ensures) c.loop-value.invariant)

pub returns : goal.returns
returns c = is_done (listed_name c.args.member c.args.kind) c.loop-value.names c.args.values.now c.loop-value.value-index _ c.loop-value-test.false
    c.loop-value.invariant
