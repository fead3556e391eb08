use Rattle.std.proofs.Common.{ap, sym, ◌∙◌}
use Rattle.std.specs.Option.{option_copied, option_map_or}
use Rattle.keyed.proofs.Tables.{get-rows}
use Rattle.ns_types.specs.declared.job.Document.{Document}
use Rattle.ns_types.specs.declared.job.Job.{Job}
use Rattle.ns_types.specs.declared.job.JobKind.TheVariants as JobKind
use Rattle.ns_types.specs.Settling.Making.{evaluation_of, new_evaluation}
use Rattle.ns_types.proofs.Named.{names}
use Rattle.ns_types.proofs.Results.{if_ok}
use Rattle.ns_change.proofs.renewing.evaluation_for.Goals as goal

pub returns-in-Some : goal.returns-in-Some
returns-in-Some c =
    let ended = c.args.ended.now in
    if_ok c.new_evaluation.result _ _ (λ e is. is
    ∙ ap (λ (d : Document). evaluation_of ended.job d c.args.trigger) c.get-document.ensures
    ∙ sym (ap (λ o. option_map_or (λ (job : Job). evaluation_of ended.job job.document c.args.trigger) o
    (new_evaluation ended.job JobKind.Service ended.priority ended.pool c.args.trigger))
    (get-rows names c.args.tenant.now.jobs ended.job ∙ sym c.get.ensures ∙ ap option_copied c.in-Some.is)))
    c.new_evaluation.ensures

pub returns-in-None : goal.returns-in-None
returns-in-None c =
    let ended = c.args.ended.now in
    if_ok c.new_evaluation-in-None.result _ _ (λ e is. is
    ∙ sym (ap (λ o. option_map_or (λ (job : Job). evaluation_of ended.job job.document c.args.trigger) o
    (new_evaluation ended.job JobKind.Service ended.priority ended.pool c.args.trigger))
    (get-rows names c.args.tenant.now.jobs ended.job ∙ sym c.get.ensures ∙ ap option_copied c.in-None.is)))
    c.new_evaluation-in-None.ensures
