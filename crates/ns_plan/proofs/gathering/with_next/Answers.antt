use Rattle.std.proofs.Common.{◌∙◌, ap, sym}
use Rattle.ns_types.specs.State.Resources.{added}
use Rattle.ns_plan.proofs.Gathered.{evicts_again, evicts_first, evicts_nothing, nothing_in}
use Rattle.ns_plan.proofs.gathering.with_next.Goals as goal

pub returns-then-is_empty : goal.returns-then-is_empty
returns-then-is_empty c = λ before at is. evicts_nothing before c.args.placement.now c.args.part is c.add-size.result
    (c.add-size.ensures ∙ ap (added c.args.part.size) c.amount_of.ensures)
    (sym c.as_slice.ensures ∙ nothing_in c.as_slice.result.now (sym c.is_empty.ensures ∙ c.if-is_empty.true))

pub returns-then-part-eq0 : goal.returns-then-part-eq0
returns-then-part-eq0 c = λ before at is. evicts_first before c.args.placement.now c.args.part is c.add-size.result
    (c.add-size.ensures ∙ ap (added c.args.part.size) c.amount_of.ensures) c.args.end at c.if-part-eq0.true

pub returns-else-part-eq0 : goal.returns-else-part-eq0
returns-else-part-eq0 c = λ before at is. evicts_again before c.args.placement.now c.args.part is c.add-size.result
    (c.add-size.ensures ∙ ap (added c.args.part.size) c.amount_of.ensures) c.args.end at
