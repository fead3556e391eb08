use Rattle.std.proofs.Common.{ap, sym, ◌∙◌}
use Rattle.std.specs.Option.{option_copied}
use Rattle.ns_replay.proofs.Planning.{fitting, idle_finishes, late_finishes, plans_finish}
use Rattle.ns_replay.proofs.model_run.planned.to_finish.Goals as goal

pub returns-in_default : goal.returns-in_default
returns-in_default c = idle_finishes c.args.core.now c.args.worker c.args.namespace.now (sym c.worker_at.ensures ∙ ap option_copied c.in_default.is)

pub returns-then-not-is_ending : goal.returns-then-not-is_ending
returns-then-not-is_ending c = late_finishes c.args.core.now c.args.worker c.args.namespace.now c.in-Some.row.now
    (sym c.worker_at.ensures ∙ ap option_copied c.in-Some.is) (sym c.is_ending.ensures ∙ c.if-not-is_ending.true)

pub plan_of-requires : goal.plan_of-requires
plan_of-requires c = fitting c.args.core.now c.args.worker c.args.namespace.now c.in-Some.row.now c.is_valid.ensures
    (sym c.worker_at.ensures ∙ ap option_copied c.in-Some.is)

pub returns : goal.returns
returns c = plans_finish c.args.core.now c.args.worker c.args.namespace.now c.in-Some.row.now
    (sym c.worker_at.ensures ∙ ap option_copied c.in-Some.is) (sym c.is_ending.ensures ∙ c.if-not-is_ending.false)
    c.plan_of.result c.plan_of.ensures
