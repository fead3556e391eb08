use Rattle.std.proofs.Common.{Bor, ap, map, ◌∙◌}
use Rattle.ns_types.specs.declared.snapshot.OwnAllocation.{OwnAllocation}
use Rattle.ns_types.specs.Placing.Plan.{is_among}
use Rattle.ns_types.specs.State.Names.{has_number}
use Rattle.ns_schedule.proofs.Among.{among}
use Rattle.ns_schedule.proofs.stops.Stops.has.Goals as goal

pub returns : goal.returns
returns c =
    let n = c.args.number in
    c.has.ensures ∙ ap (λ l. has_number l n) c.self.invariant ∙ among (map (λ (a : Bor OwnAllocation). a.now) c.self.inside.own.now) n
    ∙ ap (λ l. is_among l n) c.self.view_is
