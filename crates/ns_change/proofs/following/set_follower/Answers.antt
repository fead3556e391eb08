use Rattle.std.proofs.Common.{ap, sym, ◌∙◌}
use Rattle.std.specs.Option.{option_copied}
use Rattle.std.specs.Prelude.{Some}
use Rattle.ns_types.specs.State.Rows.{evaluation_at}
use Rattle.ns_change.specs.Changed.{put_evaluation, view}
use Rattle.ns_types.specs.declared.evaluation.Evaluation.{Evaluation}
use Rattle.ns_types.specs.State.Rows.{Tenant}
use Rattle.ns_change.proofs.NumberedRows.{row_nowhere}
use Rattle.ns_change.proofs.following.set_follower.Goals as goal

pub returns-in_default : goal.returns-in_default
returns-in_default c = row_nowhere (λ (t : Tenant). t.evaluations) put_evaluation c.args.key.now.1
    (λ (e : Evaluation). record e { follower = Some c.args.follower }) (view c.args.tables.now c.args.change.now) c.args.key.now.0
    (ap (evaluation_at (view c.args.tables.now c.args.change.now)) (λ i. (sym c.namespace.ensures i, sym c.number.ensures i)) ∙ sym c.evaluation.ensures ∙
    ap option_copied c.in_default.is)
