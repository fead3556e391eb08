use Rattle.std.specs.Prelude.{true, Some, None}
use Rattle.std.proofs.Common.{not, ◌||◌, sym, ap, ◌∙◌}
use Rattle.std.specs.List.{list_any}
use Rattle.std.specs.Option.{option_copied, option_map_or}
use Rattle.keyed.specs.Table.{at_slot}
use Rattle.ns_types.specs.Access.Sharing.{shares, shares_with_any}
use Rattle.ns_admin.specs.Viewed.{overlaps_other}
use Rattle.ns_admin.proofs.World.{tenant_is}
use Rattle.ns_admin.proofs.Sharers.{others, others_are}
use Rattle.ns_tables.specs.World.{world_of}
use Rattle.ns_admin.proofs.looking.shares.Goals as goal

pub returns-in_default : goal.returns-in_default
unfolding shares
returns-in_default c =
    let w = world_of c.args.tables.now in
    sym (ap (λ x. option_map_or (shares_with_any w c.args.name.now) x true)
    (tenant_is c.args.tables.now c.args.name.now None (sym c.get.ensures ∙ ap option_copied c.in_default.is)))

pub returns-then-not-is_confined : goal.returns-then-not-is_confined
unfolding shares
returns-then-not-is_confined c =
    let t = c.args.tables.now in
    let ns = c.args.name.now in
    let x = c.in-Some.tenant.now in
    ap not c.if-not-is_confined.true ∙ sym (ap (λ b. not b || others t ns x.namespace) (sym c.is_confined.ensures ∙ c.if-not-is_confined.true))
    ∙ sym (ap (λ x. option_map_or (shares_with_any (world_of t) ns) x true) (tenant_is t ns (Some x) (sym c.get.ensures ∙ ap option_copied c.in-Some.is)))

pub returns-else-not-is_confined : goal.returns-else-not-is_confined
unfolding shares
returns-else-not-is_confined c =
    let t = c.args.tables.now in
    let ns = c.args.name.now in
    let x = c.in-Some.tenant.now in
    c.overlaps_any.ensures ∙ ap (list_any (at_slot (overlaps_other ns x.namespace))) c.as_slice.ensures
    ∙ sym (others_are t ns x.namespace)
    ∙ sym (ap (λ b. not b || others t ns x.namespace) (sym c.is_confined.ensures ∙ c.if-not-is_confined.false))
    ∙ sym (ap (λ x. option_map_or (shares_with_any (world_of t) ns) x true) (tenant_is t ns (Some x) (sym c.get.ensures ∙ ap option_copied c.in-Some.is)))
