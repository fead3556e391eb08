use Rattle.std.proofs.Common.{◌≡◌, ◌∙◌, Bool, ap, false, not, sym, true}
use Rattle.ns_types.specs.Working.Commit.{still_stands}
use Rattle.ns_plan.specs.Looks.{decision_of}
use Rattle.ns_plan.proofs.Parts.{checked_is, done_is}
use Rattle.ns_plan.proofs.checking.check.Goals as goal

is_not : (b c : Bool) → not b ≡ c → b ≡ not c
is_not true c e = ap not e
is_not false c e = ap not e

pub returns-then-outcome : goal.returns-then-outcome
returns-then-outcome g c = λ t is.
    let kept = c.args.snapshot.now in
    let p = c.args.plan.now in
    let w = g.V.View.world c.args.view.now in
    let same = (λ i. still_stands (sym c.as_ref.ensures.value i) (sym c.job-job.ensures i)) ∙ sym c.stands.ensures
    ∙ is_not c.stands.result true c.if-outcome.true in
    (λ i. record { is_refused = c.if-outcome.true i; committed = c.undecided.ensures.committed_is i; dropped = c.list_nodes.ensures i })
    ∙ sym (ap decision_of (checked_is kept p w t is false same))

pub returns-else-outcome : goal.returns-else-outcome
returns-else-outcome g c = λ t is.
    let kept = c.args.snapshot.now in
    let p = c.args.plan.now in
    let w = g.V.View.world c.args.view.now in
    let committed = c.decide_all.new.so_far.committed.items in
    let dropped = c.decide_all.new.so_far.dropped.items in
    let same = (λ i. still_stands (sym c.as_ref.ensures.value i) (sym c.job-job.ensures i)) ∙ sym c.stands.ensures
    ∙ is_not c.stands.result false c.if-outcome.false in
    (λ i. record { is_refused = c.if-outcome.false i; committed = committed; dropped = dropped })
    ∙ done_is kept p w t is committed dropped c.decide_all.ensures
    ∙ sym (ap decision_of (checked_is kept p w t is true same))
