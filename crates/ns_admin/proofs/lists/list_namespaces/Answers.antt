use Rattle.std.specs.Prelude.{filter, map}
use Rattle.std.proofs.Common.{sym, ap, ◌∙◌}
use Rattle.keyed.specs.Table.{row_list}
use Rattle.ns_types.specs.declared.reply.Content.TheVariants as Content
use Rattle.ns_admin.specs.Viewed.{namespace_shown}
use Rattle.ns_admin.proofs.Shown.{tenants_shown}
use Rattle.ns_admin.proofs.lists.list_namespaces.Goals as goal

pub returns : goal.returns
returns g c passes shows = ap Content.Namespaces
    (c.in_ok-shown.ensures passes shows ∙ ap (λ es. map namespace_shown (filter (λ e. passes e.0) (row_list es))) c.as_slice.ensures
    ∙ sym (tenants_shown c.args.tables.now passes (λ e. record { name = e.0; row = e.1.namespace })))
