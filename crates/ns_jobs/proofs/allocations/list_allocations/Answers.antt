use Rattle.std.specs.Prelude.{filter, map}
use Rattle.std.proofs.Common.{ap, sym, ◌∙◌}
use Rattle.keyed.proofs.Tables.{entries-rows}
use Rattle.ns_types.specs.declared.reply.Content.TheVariants as Content
use Rattle.ns_jobs.specs.Read.{allocation_shown, lists_allocation}
use Rattle.ns_jobs.proofs.allocations.list_allocations.Goals as goal

pub returns : goal.returns
returns c = ap Content.Allocations (c.in_ok-shown.ensures
    ∙ ap (λ es. filter (lists_allocation c.args.command.now) (map (λ e. allocation_shown c.args.namespace.now e.0 e.1) es))
    (sym (entries-rows c.args.tenant.now.allocations.slots)))
