use Rattle.std.proofs.Common.{Option, SomeIff, sym, subst, ◌∙◌}
use Rattle.ns_types.specs.declared.resources.Resources.{Resources}
use Rattle.ns_types.specs.Placing.Wanted.{missing, group_size}
use Rattle.ns_types.specs.State.Resources.{IsCounted, plus}
use Rattle.ns_types.specs.State.Resources.{times}
use Rattle.ns_types.proofs.Amounts.{one_counted}
use Rattle.ns_schedule.proofs.sums.checked_missing.Goals as goal

pub returns-in_err-size : goal.returns-in_err-size
returns-in_err-size c =
    let n = missing c.args.job.now c.args.own.now c.args.group.now in
    let size = group_size c.args.group.now in
    let all = plus c.args.sum (times n size) in
    subst (λ (o : Option Resources). SomeIff o (IsCounted all) all) (sym c.from_residual.ensures)
    (λ counted. c.in_err-size.ensures (one_counted c.args.sum size n (λ none. c.if-count-eq0.false (c.missing-count.ensures ∙ none)) counted))
