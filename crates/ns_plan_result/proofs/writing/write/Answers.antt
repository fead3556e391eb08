use Rattle.std.proofs.Common.{List, ap, map, subst, sym, ◌∙◌}
use Rattle.ns_types.specs.declared.plan.Eviction.{Eviction}
use Rattle.ns_types.specs.State.Rows.{World}
use Rattle.ns_types.specs.Working.Commit.{done, make_up, place_all}
use Rattle.ns_change.proofs.Prepares.{done_as}
use Rattle.ns_change.specs.Changed.{view}
use Rattle.ns_renewal.specs.Losing.{CanMakeUp, victims_at}
use Rattle.ns_renewal.specs.Renewing.{SameJobs}
use Rattle.ns_tables.specs.World.{tenant_of, world_of}
use Rattle.ns_types.specs.Working.Parts.{placed_on}
use Rattle.ns_plan_result.proofs.Together.{jobs_stay, make_up_still, place_still, written}
use Rattle.ns_plan_result.proofs.writing.write.Goals as goal

pub place-requires : goal.place-requires
place-requires c =
    let committed = c.args.committed.now in
    place_still committed.snapshot.now committed.plan.now (world_of committed.tables.now) (tenant_of c.args.tenant.now) committed.nodes.now c.requires.can
    (map (λ e. e.now) c.in_ok-victims.victims.items) (view committed.tables.now c.clear.new.change) c.in_ok-victims.ensures

pub make_up-requires-clause-jobs : goal.make_up-requires-clause-jobs
make_up-requires-clause-jobs c =
    let committed = c.args.committed.now in
    let w = world_of committed.tables.now in
    subst (SameJobs w) (sym c.in_ok-place.ensures)
    (jobs_stay committed.snapshot.now committed.plan.now w (tenant_of c.args.tenant.now) committed.nodes.now c.requires.can
    (map (λ e. e.now) c.in_ok-victims.victims.items) (view committed.tables.now c.clear.new.change) c.in_ok-victims.ensures)

pub make_up-requires-clause-numbers : goal.make_up-requires-clause-numbers
make_up-requires-clause-numbers c =
    let committed = c.args.committed.now in
    let w = world_of committed.tables.now in
    subst (λ (x : World). CanMakeUp (victims_at w (map (λ e. e.now) c.deref.result.now)) x) (sym c.in_ok-place.ensures)
    (subst (λ (l : List Eviction). CanMakeUp (victims_at w l) (place_all committed.snapshot.now (view committed.tables.now c.clear.new.change)
    (placed_on committed.nodes.now committed.plan.now.placing.placements))) (sym (ap (map (λ e. e.now)) c.deref.ensures.value))
    (make_up_still committed.snapshot.now committed.plan.now w (tenant_of c.args.tenant.now) committed.nodes.now c.requires.can
    (map (λ e. e.now) c.in_ok-victims.victims.items) (view committed.tables.now c.clear.new.change) c.in_ok-victims.ensures))

pub returns : goal.returns
returns c =
    let committed = c.args.committed.now in
    let w = world_of committed.tables.now in
    let t = tenant_of c.args.tenant.now in
    done_as c.make_up.result committed.tables.now c.make_up.new.change _ _
    ((λ i. make_up (victims_at w (map (λ e. e.now) (c.deref.ensures.value i))) (c.in_ok-place.ensures i))
    ∙ written committed.snapshot.now committed.plan.now w t committed.nodes.now c.requires.can
    (map (λ e. e.now) c.in_ok-victims.victims.items) (view committed.tables.now c.clear.new.change) c.in_ok-victims.ensures
    ∙ ap (λ (x : World). (done committed.snapshot.now committed.plan.now x t).world) (sym c.requires.nothing))
    c.make_up.ensures
