use Rattle.std.proofs.Common.{ap, sym, ◌∙◌}
use Rattle.std.specs.Option.{option_copied}
use Rattle.ns_replay.proofs.Planning.{fitting, idle_submits, late_submits, plans_submit}
use Rattle.ns_replay.proofs.model_run.planned.to_submit.Goals as goal

pub returns-in_default : goal.returns-in_default
returns-in_default c = idle_submits c.args.core.now c.args.worker c.args.namespace.now (sym c.worker_at.ensures ∙ ap option_copied c.in_default.is)

pub returns-then-not-is_snapped : goal.returns-then-not-is_snapped
returns-then-not-is_snapped c = late_submits c.args.core.now c.args.worker c.args.namespace.now c.in-Some.row.now
    (sym c.worker_at.ensures ∙ ap option_copied c.in-Some.is) (sym c.is_snapped.ensures ∙ c.if-not-is_snapped.true)

pub plan_of-requires : goal.plan_of-requires
plan_of-requires c = fitting c.args.core.now c.args.worker c.args.namespace.now c.in-Some.row.now c.is_valid.ensures
    (sym c.worker_at.ensures ∙ ap option_copied c.in-Some.is)

pub returns : goal.returns
returns c = plans_submit c.args.core.now c.args.worker c.args.namespace.now c.in-Some.row.now
    (sym c.worker_at.ensures ∙ ap option_copied c.in-Some.is) (sym c.is_snapped.ensures ∙ c.if-not-is_snapped.false)
    c.plan_of.result c.plan_of.ensures
