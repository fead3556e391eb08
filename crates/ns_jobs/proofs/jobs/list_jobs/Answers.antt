use Rattle.std.specs.Prelude.{filter, map}
use Rattle.std.proofs.Common.{ap, sym, ◌∙◌}
use Rattle.keyed.proofs.Tables.{entries-rows}
use Rattle.ns_types.specs.declared.reply.Content.TheVariants as Content
use Rattle.ns_types.specs.Asking.Reads.{job_shown}
use Rattle.ns_types.specs.Settling.Outcome.{Done}
use Rattle.ns_types.specs.State.Names.{begins_with}
use Rattle.ns_tables.specs.World.{tenant_of}
use Rattle.ns_jobs.specs.Read.{jobs_shown}
use Rattle.ns_jobs.proofs.jobs.list_jobs.Goals as goal

pub returns : goal.returns
returns c = λ w.
    let ns = c.args.namespace.now in
    let x = c.args.tenant.now in
    let prefix = c.args.prefix.now in
    ap (λ shown. Done (Content.Jobs shown) w) (sym (c.in_ok-jobs.ensures ∙ ap (jobs_shown ns prefix (tenant_of x)) c.as_slice.ensures
    ∙ ap (λ es. map (λ e. job_shown ns (tenant_of x) e.0 e.1) (filter (λ e. begins_with prefix e.0) es)) (sym (entries-rows x.jobs))))
