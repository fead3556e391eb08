use Rattle.std.proofs.Common.{Bor, List, map, ap, ◌∙◌}
use Rattle.ns_types.specs.declared.snapshot.OwnAllocation.{OwnAllocation}
use Rattle.ns_types.specs.Placing.Plan.{placing_of}
use Rattle.ns_types.specs.Placing.Wanted.{stopping}
use Rattle.ns_schedule.proofs.Plans.{plan_is}
use Rattle.ns_schedule.proofs.planned.plan_of.Goals as goal

pub returns : goal.returns
returns c =
    let s = c.args.snapshot.now in
    let seen = λ (a : Bor OwnAllocation). a.now in
    plan_is s (map seen c.in_ok-stopping.stopping.items) c.in_ok-stops.stops c.in_ok-placing.placing
    (c.in_ok-stopping.ensures ∙ ap (stopping s.job) c.as_slice.ensures)
    (c.in_ok-stops.ensures ∙ ap (λ (ys : List (Bor OwnAllocation)). map (λ a. a.number) (map seen ys)) c.deref.ensures.value)
    (c.in_ok-placing.ensures ∙ ap (placing_of s s.job) c.new.ensures ∙
    ap (λ (ys : List (Bor OwnAllocation)). placing_of s s.job (map seen ys)) c.deref-2.ensures.value)
