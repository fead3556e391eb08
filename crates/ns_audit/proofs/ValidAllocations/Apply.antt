-- Apply: allocations stay sound, each in a place of its own, and within what the nodes have.
use Rattle.std.specs.Prelude.{◌≡◌, ℕ, ◌≤◌, Bool, true, false, cond, not, T, List, [], ◌∷◌, Option, Some, None, ◌&&◌, IsTrue, fold, is_some, option_map}
use Rattle.std.proofs.Common.{refl, sym, ap, subst, ◌∙◌}
use Rattle.std.specs.FinMap.{contains_key, get}
use Rattle.ns_types.specs.Access.Sharing.{namespace_at}
use Rattle.ns_types.specs.declared.allocation.DesiredStatus.TheVariants as DesiredStatus
use Rattle.ns_types.specs.declared.evaluation.Evaluation.{Evaluation}
use Rattle.ns_types.specs.declared.evaluation.Trigger.TheVariants as Trigger
use Rattle.ns_types.specs.declared.job.Job.{Job}
use Rattle.ns_types.specs.declared.name.NameKind.TheVariants as NameKind
use Rattle.ns_types.specs.declared.node.Node.{Node}
use Rattle.ns_types.specs.declared.plan.Placement.{Placement}
use Rattle.ns_types.specs.declared.snapshot.Snapshot.{Snapshot}
use Rattle.ns_types.specs.Working.Worker.{Worker}
use Rattle.ns_types.specs.Working.Commit.{still_stands, has_ended, same_version, live_stops, stop_all, node_name, nodes_in, Commit, begun, decide}
use Rattle.ns_types.specs.Working.Commit.{committed_placements, place_all, evicted_rows, Victim, same_victim_job, least_of_job, make_up, Applied, refused_whole}
use Rattle.ns_types.specs.Working.Commit.{done, commit, applied_worker, applied, apply_for, apply}
use Rattle.ns_types.specs.State.Limits.{is_pool_name}
use Rattle.ns_types.specs.State.Lists.{Each, first_each}
use Rattle.ns_types.specs.Settling.Making.{change_tenant, with_desired, evaluation_for, make}
use Rattle.ns_types.specs.State.Name.{is_name}
use Rattle.ns_types.specs.State.Names.{Name, has_number}
use Rattle.ns_types.specs.Settling.Outcome.{NotEnabled}
use Rattle.ns_types.specs.Placing.Plan.{plan}
use Rattle.ns_types.specs.Working.Queue.{is_served}
use Rattle.ns_types.specs.State.Rows.{World, Tenant, PoolRows, node_at}
use Rattle.ns_types.specs.Validity.{IsSound, IsSoundEvaluation, IsSoundSnapshot}
use Rattle.ns_types.specs.Working.Work.{with_worker, without_key, is_submitted}
use Rattle.ns_types.proofs.Named.{one_number, first_of_both, second_of_both}
use Rattle.ns_types.proofs.Tables.{tied}
use Rattle.ns_types.proofs.Tests.{not_Some, same_Some}
use Rattle.ns_types.proofs.Elements.{each_of, each_kept}
use Rattle.ns_audit.proofs.ValidAllocations.Statement.{IsAllocated}
use Rattle.ns_audit.proofs.Alone.Naming.{named_change, named_decided, stops_same}
use Rattle.ns_types.proofs.Leads.{Leads, leads_if, leads_keeping}
use Rattle.ns_audit.proofs.ValidAllocations.Sound.{itself, node_row}
use Rattle.ns_audit.proofs.ValidAllocations.Going.{Onward, onward_same, onward_then, Lasts, lasts_still, lasts_then, Goes, goes_still, goes_then, goes_quiet}
use Rattle.ns_audit.proofs.ValidAllocations.Going.{goes_lasts, same_index, Allocates}
use Rattle.ns_audit.proofs.ValidAllocations.Nodes.{continues_each, continues_make, continues_change}
use Rattle.ns_audit.proofs.ValidAllocations.Placing.{Suits, suits_last, IsPlaceable, IsReserved, all_reserved, none_placed, all_placed_last}
use Rattle.ns_audit.proofs.ValidAllocations.Plan.{IsPartOf, plan_parts, good_priority}
use Rattle.ns_audit.proofs.ValidAllocations.Room.{Stands, Decided, begun_decided, all_decided, each_has}
use Rattle.ns_audit.proofs.ValidAllocations.Work.{Continues, continues_allocates, goes_desired}

-- ---- what a sound world says

pub sound_allocated : (w : World) → IsSound w → IsAllocated w
sound_allocated w v = record {
  allocation = λ ns t n a is at. (v.tenant ns t is).allocation n a at;
  one_place = v.one_place;
  within = λ pool name node at. let r = node_row w pool name node at in ((v.pool pool r.0 r.1).node name node r.2).within;
}

node_named : (w : World) → IsSound w → (pool name : Name) (node : Node) → node_at w pool name ≡ Some node → IsTrue (is_name NameKind.Node name)
node_named w v pool name node at = let r = node_row w pool name node at in ((v.pool pool r.0 r.1).node name node r.2).named

-- an unstopped job is still as it was planned for
as_planned : (j : Job) (present : Option Job) → j.stop ≡ false → still_stands (Some j) present ≡ true → (i : Job) × (present ≡ Some i) ×
    (j.modify_index ≡ i.modify_index)
as_planned j present running stands = by present refl
    (ap (λ b. cond b (has_ended present) (not (has_ended present) && same_version (Some j) present)) (sym running) ∙ stands)
  where
    by : (o : Option Job) → present ≡ o → (not (has_ended o) && same_version (Some j) o) ≡ true → (i : Job) × (present ≡ Some i) ×
        (j.modify_index ≡ i.modify_index)
    by None is e = absurd (subst T (sym e) tt)
    by (Some i) is e = (i, is, tied one_number j.modify_index i.modify_index (second_of_both (not i.stop) _ e))

module _ (w : World) (v : IsSound w) (ns : Name) (t : Tenant) (is : get w.tenants ns ≡ Some t) (worker : Worker) (kept : Snapshot)
    (k : IsSoundSnapshot w ns t worker kept) where
  pool_named : IsTrue (is_pool_name kept.pool)
  pool_named = by (get w.pools kept.pool) refl k.allowed.exists
    where
      by : (o : Option PoolRows) → get w.pools kept.pool ≡ o → contains_key w.pools kept.pool ≡ true → IsTrue (is_pool_name kept.pool)
      by None none has = absurd (subst T (sym has ∙ ap (λ (o : Option PoolRows). is_some o) none) tt)
      by (Some p) at has = (v.pool kept.pool p at).named

  its_evaluation : IsSoundEvaluation w t worker.evaluation kept.evaluation
  its_evaluation = (v.tenant ns t is).evaluation worker.evaluation kept.evaluation k.row

  suits : (j : Job) → kept.job ≡ Some j → still_stands kept.job (get t.jobs kept.evaluation.job) ≡ true → Suits kept j t
  suits j has stands = record {
    job_named = first_of_both (is_name NameKind.Job kept.evaluation.job) _ its_evaluation.named;
    pool_named = pool_named;
    priority = good_priority j (k.job_good j has);
    permitted = k.allowed.permitted;
    made_by = subst (λ n. n ≤ t.evaluation_number) (sym k.number) its_evaluation.below;
    made_for = λ running.
        let i = as_planned j (get t.jobs kept.evaluation.job) running (ap (λ o. still_stands o (get t.jobs kept.evaluation.job)) (sym has) ∙ stands) in
        subst (λ n. n ≤ t.index) (sym i.2) ((v.tenant ns t is).job kept.evaluation.job i.0 i.1).modified;
  }

-- ---- stops, and evaluations of those that lost an allocation

stops_go : (stops : List ℕ) (t : Tenant) → Goes t (fold (λ x n. with_desired n DesiredStatus.Stop x) t stops)
stops_go [] t = goes_still t
stops_go (n ∷ stops) t = goes_then t (with_desired n DesiredStatus.Stop t)
    (fold (λ x n. with_desired n DesiredStatus.Stop x) (with_desired n DesiredStatus.Stop t) stops) (goes_desired n DesiredStatus.Stop refl t)
    (stops_go stops (with_desired n DesiredStatus.Stop t))

stopped_continues : (ns : Name) (stops : List ℕ) (w : World) → Continues w (stop_all ns stops w)
stopped_continues ns stops w = continues_change w ns (λ t. fold (λ x n. with_desired n DesiredStatus.Stop x) t stops) (λ t _. stops_go stops t)

made_up_continues : (victims : List Victim) (w : World) → Continues w (make_up victims w)
unfolding make_up
made_up_continues victims w = continues_each (λ x v. make v.0 (λ t. evaluation_for t (least_of_job victims v) Trigger.Preemption) x)
    (λ x v. continues_make v.0 _ x) (first_each same_victim_job victims) w

-- ---- the whole

-- sound allocations, in namespaces that lasted
pub record Commits (w x : World) : Type 0 where
  pub allocated : IsAllocated x
  pub lasts : Onward Lasts w x

commits_on : (w x y : World) → Commits w x → Continues x y → Commits w y
commits_on w x y c on = record {
  allocated = (continues_allocates x y c.allocated on).allocated;
  lasts =
      onward_then Lasts lasts_still lasts_then w x y c.lasts (goes_lasts x y on.goes);
}

module _ (w : World) (v : IsSound w) (ns : Name) (t : Tenant) (is : get w.tenants ns ≡ Some t) (worker : Worker) (kept : Snapshot)
    (k : IsSoundSnapshot w ns t worker kept) where
  abbrev ps : List Placement
  ps = (plan kept).placing.placements

  abbrev stops : List ℕ
  stops = live_stops t (plan kept).stops

  abbrev stopped : World
  stopped = stop_all kept.namespace stops w

  stopped_on : Continues w stopped
  stopped_on = stopped_continues kept.namespace stops w

  stopped_allocated : IsAllocated stopped
  stopped_allocated = (continues_allocates w stopped (sound_allocated w v) stopped_on).allocated

  abbrev decided : Commit
  decided = fold (decide kept ps) (begun stopped) (nodes_in ps)

  stopped_named : (name : Name) (node : Node) → node_at stopped kept.pool name ≡ Some node → IsTrue (is_name NameKind.Node name)
  stopped_named name node at = node_named w v kept.pool name node (sym (stopped_on.nodes kept.pool name) ∙ at)

  is_decided : Decided kept ps stopped decided
  is_decided = all_decided kept ps stopped stopped_allocated k.nodes_once stopped_named (nodes_in ps) (begun stopped)
      (begun_decided kept ps stopped stopped_allocated k.nodes_once stopped_named)

  abbrev placed : List Placement
  placed = committed_placements decided ps

  decided_allocated : IsAllocated decided.world
  decided_allocated = (continues_allocates stopped decided.world stopped_allocated is_decided.goes).allocated

  decided_on : Onward Goes w decided.world
  decided_on = onward_then Goes goes_still goes_then w stopped decided.world stopped_on.goes is_decided.goes.goes

  -- the namespace is there still
  its_tenant : (u : Tenant) × (get decided.world.tenants kept.namespace ≡ Some u) × Lasts t u
  its_tenant = by (get decided.world.tenants kept.namespace) refl
    where
      named : namespace_at decided.world kept.namespace ≡ Some t.namespace
      named = named_decided kept ps (nodes_in ps) (begun stopped) kept.namespace ∙
          named_change kept.namespace (λ t. fold (λ x n. with_desired n DesiredStatus.Stop x) t stops) (stops_same stops) w kept.namespace
          ∙ ap (option_map (λ (t : Tenant). t.namespace)) (ap (get w.tenants) k.namespace ∙ is)

      by : (o : Option Tenant) → get decided.world.tenants kept.namespace ≡ o → (u : Tenant) × (get decided.world.tenants kept.namespace ≡ Some u) × Lasts t u
      by None none = absurd (not_Some _ (sym (ap (option_map (λ (t : Tenant). t.namespace)) none) ∙ named))
      by (Some u) there = let g = decided_on kept.namespace u there in
          (u, there, subst (λ t. Lasts t u) (same_Some g.0 t (sym g.1 ∙ ap (get w.tenants) k.namespace ∙ is)) g.2.lasts)

  module _ (stands : still_stands kept.job (get t.jobs kept.evaluation.job) ≡ true) where
    placeable : (j : Job) → kept.job ≡ Some j → Each (IsPlaceable kept j stopped) placed
    placeable j has = each_of (λ (p : Placement). IsPartOf j p.group p.size × (has_number decided.committed p.node ≡ true)) (IsPlaceable kept j stopped) (λ p h.
        let s = each_has (Stands kept stopped) decided.committed is_decided.standing p.node h.1 in
        record { part = h.0; named = stopped_named (node_name kept p.node) s.row s.is_row; row = s.row; is_row = s.is_row; ready = s.ready }) placed
        (each_kept (λ (p : Placement). IsPartOf j p.group p.size) (λ p. has_number decided.committed p.node) ps (plan_parts kept j has (k.job_good j has)))

    reserved : (j : Job) → kept.job ≡ Some j → IsReserved kept j stopped decided.world placed
    reserved j has = record {
      allocated = decided_allocated;
      tenant = its_tenant.0;
      is_tenant = its_tenant.1;
      suits = suits_last kept j t its_tenant.0 its_tenant.2 (suits w v ns t is worker kept k j has stands);
      nodes = λ pool name node at. (node, sym (is_decided.goes.nodes pool name) ∙ at, refl, refl);
      room = λ pool name node at. is_decided.room pool name node (sym (is_decided.goes.nodes pool name) ∙ at);
    }

    placed_allocated : IsAllocated (place_all kept decided.world placed)
    placed_allocated = by kept.job refl
      where
        by : (o : Option Job) → kept.job ≡ o → IsAllocated (place_all kept decided.world placed)
        by None none = subst IsAllocated (sym (none_placed kept none placed decided.world)) decided_allocated
        by (Some j) has = (all_reserved kept j has stopped placed decided.world (placeable j has) (reserved j has)).allocated

    done_commits : Commits w (done kept (plan kept) w t).world
    done_commits = commits_on w (place_all kept decided.world placed) (make_up (evicted_rows stopped kept placed) (place_all kept decided.world placed))
        (record {
          allocated = placed_allocated;
          lasts = onward_then Lasts lasts_still lasts_then w decided.world (place_all kept decided.world placed) (goes_lasts w decided.world decided_on)
              (all_placed_last kept placed decided.world);
        }) (made_up_continues (evicted_rows stopped kept placed) (place_all kept decided.world placed))

  commit_commits : Commits w (commit kept (plan kept) w t).world
  unfolding commit
  commit_commits = by (still_stands kept.job (get t.jobs kept.evaluation.job)) refl
    where
      by : (b : Bool) → still_stands kept.job (get t.jobs kept.evaluation.job) ≡ b →
          Commits w (cond b (done kept (plan kept) w t) (refused_whole kept (plan kept) w)).world
      by true stands = done_commits stands
      by false _ = record { allocated = sound_allocated w v; lasts = onward_same Lasts lasts_still w w refl }

pub apply_allocates : (w : World) → IsSound w → (ns : Name) (number : ℕ) → Leads (Allocates w) (apply number ns w)
unfolding apply
apply_allocates w v ns number = leads_keeping (Allocates w) number ns w (apply_for number ns w) (λ t worker e kept is has at keeps.
    leads_if (Allocates w) (is_submitted worker.phase && is_served w w.plans (ns, worker.evaluation)) (applied number ns worker e (commit kept (plan kept) w t))
    NotEnabled
    (λ _. by worker e (commit kept (plan kept) w t)
    (commit_commits w v ns t is worker kept (((v.tenant ns t is).worker number worker has).snapshot kept keeps))) (λ _. tt))
  where
    by : (worker : Worker) (e : Evaluation) (a : Applied) → Commits w a.world → Leads (Allocates w) (applied number ns worker e a)
    by worker e a c = let d = commits_on w a.world x c on in record { allocated = d.allocated; index = same_index w x d.lasts }
      where
        x : World
        x = record (change_tenant ns (with_worker number (applied_worker a worker e)) a.world) { plans = without_key (ns, worker.evaluation) a.world.plans }

        changed : Continues a.world (change_tenant ns (with_worker number (applied_worker a worker e)) a.world)
        changed = continues_change a.world ns (with_worker number (applied_worker a worker e))
            (λ t _. goes_quiet t (with_worker number (applied_worker a worker e) t) (lasts_rows t) refl refl)
          where
            lasts_rows : (t : Tenant) → Lasts t (with_worker number (applied_worker a worker e) t)
            lasts_rows t = record { namespace = refl; index = refl; evaluations = itself t.evaluation_number }

        on : Continues a.world x
        on = record { goes = changed.goes; nodes = changed.nodes }
