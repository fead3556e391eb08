use Rattle.std.proofs.Common.{List, ap, sym, ◌∙◌}
use Rattle.std.specs.Prelude.{ℕ, ◌||◌, not, option_map}
use Rattle.ns_types.specs.declared.reply.Content.TheVariants as Content
use Rattle.ns_types.specs.Settling.Outcome.{Done}
use Rattle.ns_types.specs.State.Lists.{is_empty}
use Rattle.ns_types.specs.State.Rows.{World}
use Rattle.ns_types.specs.Working.Commit.{done, live_stops, names_in, numbers_after}
use Rattle.ns_tables.proofs.World.{tenant_at}
use Rattle.ns_tables.specs.World.{tenant_of, world_of}
use Rattle.ns_plan_result.specs.Answering.{IsEffect, marked}
use Rattle.ns_plan_result.specs.declared.answering.Effect.{Effect}
use Rattle.ns_types.specs.Working.Parts.{placed_on}
use Rattle.ns_plan_result.proofs.applying.write_told.Goals as goal

pub numbers_made-requires : goal.numbers_made-requires
numbers_made-requires c =
    let committed = c.args.committed.now in
    c.requires.can.place.numbers (tenant_of c.args.tenant.now)
    (tenant_at committed.tables.now committed.snapshot.now.namespace ∙ ap (option_map tenant_of) c.requires.tenant)

pub returns : goal.returns
returns c =
    let committed = c.args.committed.now in
    let kept = committed.snapshot.now in
    let p = committed.plan.now in
    let ps = p.placing.placements in
    let w = world_of committed.tables.now in
    let t = tenant_of c.args.tenant.now in
    let turn = c.args.turn.now in
    let a = done kept p w t in
    let is = c.requires.can.committed in
    let told = c.effect_of-effect.ensures in
    let effect : IsEffect a c.effect_of-effect.result = record {
      committed = ap (λ l. not (is_empty (live_stops t p.stops)) || not (is_empty (placed_on l ps))) (sym is) ∙ sym (ap (λ (e : Effect). e.has_committed) told);
      dropped = ap (λ (l : List ℕ). not (is_empty l)) (sym c.requires.dropped) ∙ sym (ap (λ (e : Effect). e.has_dropped) told);
    } in
    let made = c.in_ok-numbers.ensures ∙ ap (λ l. numbers_after t.allocation_number (placed_on l ps)) is in
    let names = c.in_ok-names.ensures ∙ ap (names_in kept) c.requires.dropped in
    let world = c.in_ok-mark.ensures a effect ∙ ap (marked turn.number kept.namespace turn.worker.now turn.evaluation.now a)
    (c.in_ok-write.ensures ∙ ap (λ (x : World). (done kept p x t).world) c.requires.nothing) in
    λ i. Done (Content.Applied (sym made i) (sym names i)) (sym world i)
