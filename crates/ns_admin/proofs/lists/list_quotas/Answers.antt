use Rattle.std.specs.Prelude.{map}
use Rattle.std.proofs.Common.{sym, ap, ◌∙◌}
use Rattle.keyed.specs.Table.{row_list}
use Rattle.ns_types.specs.declared.reply.Content.TheVariants as Content
use Rattle.ns_admin.specs.Viewed.{quota_shown}
use Rattle.ns_admin.proofs.Shown.{quotas_shown}
use Rattle.ns_admin.proofs.lists.list_quotas.Goals as goal

pub returns : goal.returns
returns c = ap Content.Quotas (c.in_ok-shown.ensures ∙ ap (λ es. map quota_shown (row_list es)) c.as_slice.ensures
    ∙ sym (quotas_shown c.args.tables.now (λ e. record { name = e.0; row = e.1.quota })))
