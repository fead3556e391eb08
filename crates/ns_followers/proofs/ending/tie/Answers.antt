use Rattle.std.proofs.Common.{subst, sym, ◌∙◌}
use Rattle.ns_types.specs.Settling.Making.{change_tenant, with_evaluation}
use Rattle.ns_types.specs.State.Rows.{World}
use Rattle.ns_types.specs.Working.Work.{tied_to}
use Rattle.ns_change.specs.Changed.{HasEvaluationLeft, view}
use Rattle.ns_change.proofs.Twice.{changed_twice}
use Rattle.ns_followers.proofs.Numbered.{left_still}
use Rattle.ns_followers.proofs.ending.tie.Goals as goal

pub add_evaluation-requires : goal.add_evaluation-requires
add_evaluation-requires c =
    let w = view c.args.tables.now c.args.change.now in
    let left : HasEvaluationLeft (view c.args.tables.now c.set_follower.new.change) c.args.key.now.0 =
    subst (λ (w : World). HasEvaluationLeft w c.args.key.now.0) (sym c.in_ok-set_follower.ensures)
    (left_still w c.args.key.now.0 c.args.key.now.1 c.args.number c.requires) in
    subst (HasEvaluationLeft (view c.args.tables.now c.set_follower.new.change)) (sym c.namespace.ensures) left

pub returns : goal.returns
returns c =
    let w = view c.args.tables.now c.args.change.now in
    let ns = c.args.key.now.0 in
    c.in_ok-add_evaluation.ensures.made
    ∙ (λ i. change_tenant (c.namespace.ensures i) (with_evaluation c.args.row) (c.in_ok-set_follower.ensures i))
    ∙ changed_twice ns (with_evaluation c.args.row) (tied_to c.args.key.now.1 c.args.number) w
