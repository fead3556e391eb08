use Rattle.std.proofs.Common.{subst, sym, ◌∙◌, ◌≡◌}
use Rattle.ns_workers.specs.Growing.{IsApply}
use Rattle.ns_workers.specs.Keeping.{TakesSome}
use Rattle.ns_workers.proofs.Growing.{grows_then}
use Rattle.ns_workers.proofs.Keeping.{takes_then}
use Rattle.ns_workers.proofs.applying.applier.Goals as goal
use Rattle.ns_workers.proofs.applying.applier.Goals.{in-None, in-Some+then-not-step}

pub loop-preserved : goal.loop-preserved
loop-preserved g c = (
  grows_then IsApply c.args.seat.now c.loop.seat c.step.new.seat c.loop.invariant.0 c.step.ensures.grows,
  takes_then g.K.Keep.takes c.args.keeper.now c.loop.keeper c.step.new.keeper c.loop.invariant.1 c.step.ensures.takes,
  λ never. c.step.ensures.never never ∙ c.loop.invariant.2 never,
)

pub returns-clause-takes : goal.returns-clause-takes
returns-clause-takes g c =
    let so : (k : _) → c.match-next.keeper ≡ k → TakesSome g.K.Keep.takes c.args.keeper.now k → TakesSome g.K.Keep.takes c.args.keeper.now c.match-next.keeper =
    λ k is t. subst (TakesSome g.K.Keep.takes c.args.keeper.now) (sym is) t in
    elim c.match-next.branch [
      | in-None w ↦ so _ w.keeper-is c.loop.invariant.1
      | in-Some+then-not-step w ↦ so _ w.keeper-is
          (takes_then g.K.Keep.takes c.args.keeper.now c.loop.keeper w.step.new.keeper c.loop.invariant.1 w.step.ensures.takes)
    ]
