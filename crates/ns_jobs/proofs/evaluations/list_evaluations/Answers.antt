use Rattle.std.specs.Prelude.{filter, map}
use Rattle.std.proofs.Common.{ap, sym, ◌∙◌}
use Rattle.keyed.proofs.Tables.{entries-rows}
use Rattle.ns_types.specs.declared.reply.Content.TheVariants as Content
use Rattle.ns_jobs.specs.Read.{evaluation_shown, lists_evaluation}
use Rattle.ns_jobs.proofs.evaluations.list_evaluations.Goals as goal

pub returns : goal.returns
returns c = ap Content.Evaluations (c.in_ok-shown.ensures
    ∙ ap (λ es. filter (lists_evaluation c.args.command.now) (map (λ e. evaluation_shown c.args.namespace.now e.0 e.1) es))
    (sym (entries-rows c.args.tenant.now.evaluations.slots)))
