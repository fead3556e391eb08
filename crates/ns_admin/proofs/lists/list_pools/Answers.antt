use Rattle.std.specs.Prelude.{filter, map}
use Rattle.std.proofs.Common.{sym, ap, ◌∙◌}
use Rattle.keyed.specs.Table.{row_list}
use Rattle.ns_types.specs.declared.reply.Content.TheVariants as Content
use Rattle.ns_admin.specs.Viewed.{pool_shown}
use Rattle.ns_admin.proofs.Shown.{pools_shown}
use Rattle.ns_admin.proofs.lists.list_pools.Goals as goal

pub returns : goal.returns
returns g c passes shows = ap Content.Pools
    (c.in_ok-shown.ensures passes shows ∙ ap (λ es. map pool_shown (filter (λ e. passes e.0) (row_list es))) c.as_slice.ensures
    ∙ sym (pools_shown c.args.tables.now passes (λ e. record { name = e.0; row = e.1.pool })))
