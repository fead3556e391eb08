use Rattle.std.proofs.Common.{subst, sym}
use Rattle.ns_types.specs.State.Rows.{World}
use Rattle.ns_change.specs.Changed.{HasEvaluationLeft, view}
use Rattle.ns_followers.proofs.Numbered.{left_at_end}
use Rattle.ns_followers.specs.Ending.{ended_of}
use Rattle.ns_followers.proofs.ending.end_followed.Goals as goal

pub follow-requires : goal.follow-requires
follow-requires c =
    let ns = c.args.ending.now.key.now.0 in
    subst (λ (w : World). HasEvaluationLeft w ns) (sym c.in_ok-end.ensures)
    (left_at_end (view c.args.tables.now c.args.change.now) (ended_of c.args.ending.now) c.requires)
