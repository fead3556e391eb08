use Rattle.std.proofs.Common.{◌∙◌}
use Rattle.std.specs.Prelude.{◌&&◌}
use Rattle.ns_equality.proofs.Alike.{shown_alike}
use Rattle.ns_equality.proofs.rows.same_with_status.Goals as goal

pub returns : goal.returns
returns c = (λ i. c.same_cause-cause.ensures i && c.same_course-course.ensures i)
    ∙ shown_alike c.args.a.now (record c.args.b.now { status = c.args.status })
