use Rattle.std.proofs.Common.{sym, ap, subst, ◌∙◌}
use Rattle.ns_types.specs.declared.reply.Content.TheVariants as Content
use Rattle.ns_types.specs.Settling.Outcome.{Done, is_done}
use Rattle.ns_types.proofs.Outcomes.{memory_last}
use Rattle.ns_admin.specs.Recorded.{PreparesRecord}
use Rattle.ns_tables.specs.World.{world_of}
use Rattle.ns_core.proofs.administration.record.Goals as goal

pub returns-clause-written : goal.returns-clause-written
returns-clause-written c = λ command prepares. subst (PreparesRecord command c.args.tables.now) c.in_ok-change.was prepares
    ∙ ap (Done Content.Written) (sym c.in_ok-write.ensures.written)

pub returns-in_err-write-clause-written : goal.returns-in_err-write-clause-written
returns-in_err-write-clause-written c = λ command prepares.
    let w = world_of c.args.tables.now in
    memory_last (command w) w (world_of c.write.new.tables) c.from_residual-in_err-write.result c.from_residual-in_err-write.ensures.1
    (ap is_done (subst (PreparesRecord command c.args.tables.now) c.in_ok-change.was prepares)) (ap world_of c.in_err-write.ensures.refused)
