use Rattle.std.proofs.Common.{ap, refl, sym, ◌∙◌}
use Rattle.ns_types.specs.declared.reply.Content.TheVariants as Content
use Rattle.ns_types.specs.Settling.Outcome.{Done}
use Rattle.ns_types.specs.Working.Commit.{names_in, refused_whole}
use Rattle.ns_tables.specs.World.{world_of}
use Rattle.ns_plan_result.specs.Answering.{marked}
use Rattle.ns_plan_result.proofs.applying.mark_told.Goals as goal

pub returns : goal.returns
returns c = λ p is.
    let kept = c.args.snapshot.now in
    let turn = c.args.turn.now in
    let a = refused_whole kept p (world_of c.args.tables.now) in
    let names = c.in_ok-names.ensures ∙ ap (names_in kept) is in
    let world = c.in_ok-mark.ensures a (record { committed = refl; dropped = refl })
    ∙ ap (marked turn.number kept.namespace turn.worker.now turn.evaluation.now a) c.requires.nothing in
    λ i. Done (Content.Applied (sym c.new.ensures i) (sym names i)) (sym world i)
