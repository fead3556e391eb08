use Rattle.std.proofs.Common.{[]}
use Rattle.std.proofs.lemmas.Result.{err_from_is_err_and}
use Rattle.ns_documents.proofs.Attributes.{goes_on, ends, is_done, texts_ascend, stand_by_key}
use Rattle.ns_documents.proofs.node.each_attribute.Goals as goal

pub returns-in_err-attributes-clause-value : goal.returns-in_err-attributes-clause-value
returns-in_err-attributes-clause-value c =
    let p = err_from_is_err_and c.from_residual.result c.from_residual.ensures.1 in
    rw (p.1, p.2) (ends _ c.loop-key.attributes c.loop-key.key-iterator c.next.new.self (c.in-Some.key.now, c.in-Some.value.now) _ c.in-Some.ensures.steps
    (rw c.as_str.ensures.value at c.in_err-attributes.ensures) c.loop-key.invariant)

pub loop-key-preserved : goal.loop-key-preserved
loop-key-preserved c =
    goes_on c.loop-key.attributes _ c.loop-key.key-iterator c.next.new.self (c.in-Some.key.now, c.in-Some.value.now) _ c.in-Some.ensures.steps
    (rw c.as_str.ensures.value at c.in_ok-attributes.ensures) c.loop-key.invariant

pub returns-clause-value : goal.returns-clause-value
returns-clause-value c = is_done c.loop-key.attributes c.loop-key.key-iterator _ c.in-None.ensures.steps.0 c.loop-key.invariant

pub returns-clause-in_order : goal.returns-clause-in_order
returns-clause-in_order c =
    stand_by_key [] c.args.members.now.entries c.loop-key.attributes (texts_ascend c.args.members.now.entries c.iter-key-items.ensures.ordered)
    (is_done c.loop-key.attributes c.loop-key.key-iterator _ c.in-None.ensures.steps.0 c.loop-key.invariant)
