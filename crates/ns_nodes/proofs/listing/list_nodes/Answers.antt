use Rattle.std.proofs.Common.{refl, ap, sym, ◌∙◌, ◌++◌}
use Rattle.std.specs.Prelude.{flat_map}
use Rattle.std.specs.Option.{option_copied}
use Rattle.ns_types.proofs.Outcomes.{memory_last}
use Rattle.ns_types.specs.declared.reply.Content.TheVariants as Content
use Rattle.ns_types.specs.Settling.Outcome.{Done, is_done}
use Rattle.ns_nodes.proofs.Listed.{list_nowhere, listed}
use Rattle.ns_nodes.proofs.listing.list_nodes.Goals as goal
use Rattle.ns_nodes.specs.Listed.{shown_at}
use Rattle.ns_tables.specs.World.{world_of}

pub returns-in_default : goal.returns-in_default
returns-in_default c = (list_nowhere c.args.tables.now c.args.pool.now (sym c.get.ensures ∙ ap option_copied c.in_default.is), refl)

pub returns-in_err-add_all_shown : goal.returns-in_err-add_all_shown
returns-in_err-add_all_shown c = memory_last _ (world_of c.args.tables.now) (world_of c.args.tables.now) c.from_residual.result c.from_residual.ensures.1
    (ap is_done (listed c.args.tables.now c.args.pool.now c.in-Some.stored.now (sym c.get.ensures ∙ ap option_copied c.in-Some.is))) refl

pub returns : goal.returns
returns c =
    let w = world_of c.args.tables.now in
    listed c.args.tables.now c.args.pool.now c.in-Some.stored.now (sym c.get.ensures ∙ ap option_copied c.in-Some.is)
    ∙ ap (λ l. Done (Content.Nodes l) w) (sym (c.in_ok-add_all_shown.ensures w c.requires.right c.requires.fits ∙
    (λ i. c.new-shown.ensures i ++ flat_map (shown_at w c.args.pool.now) (c.as_slice.ensures i))))
