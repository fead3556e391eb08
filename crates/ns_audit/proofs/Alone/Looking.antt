-- A worker of a chosen namespace looks at the same, and misses the same, among the chosen owners alone.
use Rattle.std.specs.Prelude.{◌≡◌, ℕ, Bool, true, false, cond, [], map, Option, Some, None, ◌&&◌, filter, nat_lt, option_map}
use Rattle.std.proofs.Common.{refl, sym, ap, ◌∙◌}
use Rattle.std.specs.Option.{option_map_or, option_and_then}
use Rattle.std.specs.FinMap.{get, entries}
use Rattle.ns_types.specs.declared.evaluation.Evaluation.{Evaluation}
use Rattle.ns_types.specs.declared.job.Job.{Job}
use Rattle.ns_types.specs.declared.snapshot.Snapshot.{Snapshot}
use Rattle.ns_types.specs.Working.Worker.{Worker}
use Rattle.ns_types.specs.Isolation.{Part, alone_in}
use Rattle.ns_types.specs.State.Lists.{by_number}
use Rattle.ns_types.specs.State.Names.{Name}
use Rattle.ns_types.specs.Placing.Plan.{plan}
use Rattle.ns_types.specs.Settling.Releases.{can_use, missed, wakes_by, released_since}
use Rattle.ns_types.specs.State.Resources.{limits_in}
use Rattle.ns_types.specs.State.Rows.{World, Tenant, is_live_on}
use Rattle.ns_types.specs.Working.Snapshot.{seen_live, live_on, nodes_of, namespaces_naming, quota_seen, pool_for, snapshot_in, snapshot_of}
use Rattle.ns_types.specs.State.Sums.{names_quota}
use Rattle.ns_types.specs.State.Tables.{any_row}
use Rattle.ns_types.specs.Working.Work.{has_failed, follower_of}
use Rattle.ns_types.proofs.Lists.{filter_none}
use Rattle.ns_types.proofs.Named.{names, one_name, numbers, one_number}
use Rattle.ns_types.proofs.Tables.{each_row, filter-retain, flat_map-retain}
use Rattle.ns_types.proofs.Tests.{not_Some}
use Rattle.ns_audit.specs.Apart.{IsKeptWith, IsApart}
use Rattle.ns_audit.proofs.Alone.Chosen.{pool_alone, quota_alone}
use Rattle.ns_audit.proofs.Alone.Summing.{names_none, on_none, quota_use_alone}

module _ (part : Part) (w : World) (apart : IsApart part w) where
  live_on_alone : (pool node : Name) → part.pools pool ≡ true → live_on w pool node ≡ live_on (alone_in part w) pool node
  unfolding live_on
  live_on_alone pool node mine = ap (λ xs. map seen_live (by_number (λ a. a.1.1.place) xs))
      (flat_map-retain names one_name (λ ns t. map (λ a. (ns, a)) (filter (λ a. is_live_on pool node a.1) (entries t.allocations))) w.tenants part.spaces
      (λ k t is other. ap (map (λ a. (k, a))) (filter_none _ (entries t.allocations)
      (each_row numbers one_number (λ n a. is_live_on pool node a ≡ false) t.allocations
      (λ n a at. on_none part w apart.allocation pool node k t n a mine is other at)))))

  nodes_of_alone : (pool : Name) → part.pools pool ≡ true → nodes_of w pool ≡ nodes_of (alone_in part w) pool
  nodes_of_alone pool mine = λ i. option_map_or (λ p. map (λ n. record { name = n.0; row = n.1; live = live_on_alone pool n.0 mine i }) (entries p.nodes))
      (sym (pool_alone part w pool mine) i) []

  naming_alone : (q : Name) → part.quotas q ≡ true → namespaces_naming w q ≡ namespaces_naming (alone_in part w) q
  unfolding namespaces_naming
  naming_alone q mine = ap (map (λ t. t.0)) (filter-retain names one_name (λ ns t. names_quota q t.namespace) w.tenants part.spaces
      (λ k t is other. names_none part w apart.quota q k t mine is other))

  quota_seen_alone : (q : Name) → part.quotas q ≡ true → quota_seen w q ≡ quota_seen (alone_in part w) q
  quota_seen_alone q mine = λ i. option_map (λ quota. record {
    name = q;
    limits = limits_in quota.quota.limits;
    used = sym (quota_use_alone part w apart.quota q mine) i;
    release = quota.release;
    namespaces = naming_alone q mine i;
  }) (sym (quota_alone part w q mine) i)

  snapshot_in_alone : (ns : Name) (t : Tenant) (n : ℕ) (e : Evaluation) (pool : Name) → part.spaces ns ≡ true → get w.tenants ns ≡ Some t →
      part.pools pool ≡ true
      → snapshot_in w ns t n e pool ≡ snapshot_in (alone_in part w) ns t n e pool
  snapshot_in_alone ns t n e pool own is mine = λ i. record (snapshot_in w ns t n e pool) {
    nodes = nodes_of_alone pool mine i;
    release = option_map_or (λ p. p.release) (sym (pool_alone part w pool mine) i) 0;
    quota = seen t.namespace.quota refl i;
  }
    where
      seen : (q : Option Name) → t.namespace.quota ≡ q → option_and_then (quota_seen w) q ≡ option_and_then (quota_seen (alone_in part w)) q
      seen None at = refl
      seen (Some q) at = quota_seen_alone q (apart.quota ns t q is at ∙ own)

  -- the pool that is looked at
  its_pool : (ns : Name) (t : Tenant) (number : ℕ) (worker : Worker) (e : Evaluation) → get w.tenants ns ≡ Some t → get t.workers number ≡ Some worker
      → get t.evaluations worker.evaluation ≡ Some e → (j : Option Job) → get t.jobs e.job ≡ j → part.pools (pool_for e j) ≡ part.spaces ns
  its_pool ns t number worker e is at row None _ = apart.held ns t number worker e is at row
  its_pool ns t number worker e is at row (Some j) found = apart.job ns t e.job j is found

  pub snapshot_alone : (ns : Name) (t : Tenant) (number : ℕ) (worker : Worker) (e : Evaluation) → part.spaces ns ≡ true → get w.tenants ns ≡ Some t →
      get t.workers number ≡ Some worker
      → get t.evaluations worker.evaluation ≡ Some e → snapshot_of w ns t worker.evaluation e ≡ snapshot_of (alone_in part w) ns t worker.evaluation e
  snapshot_alone ns t number worker e own is at row = snapshot_in_alone ns t worker.evaluation e (pool_for e (get t.jobs e.job)) own is
      (its_pool ns t number worker e is at row (get t.jobs e.job) refl ∙ own)

-- ---- missed releases

-- the quota that limits a follower is the kept one
pub limits_by : (e : Evaluation) (worker : Worker) (kept : Snapshot) (q : Name) → (follower_of e worker kept).quota ≡ Some q →
    option_map (λ q. q.name) kept.quota ≡ Some q
limits_by e worker kept q = by (has_failed worker) (plan kept).placing.quota_limited
  where
    by : (a b : Bool) → cond a None (cond b (option_map (λ q. q.name) kept.quota) None) ≡ Some q → option_map (λ q. q.name) kept.quota ≡ Some q
    by true b at = absurd (not_Some _ at)
    by false true at = at
    by false false at = absurd (not_Some _ at)

pub missed_alone : (part : Part) (w : World) (ns : Name) (e : Evaluation) (worker : Worker) (kept : Snapshot) → part.spaces ns ≡ true → IsKeptWith part ns kept
    → missed (alone_in part w) kept (follower_of e worker kept) ≡ missed w kept (follower_of e worker kept)
unfolding missed
missed_alone part w ns e worker kept own side = by (follower_of e worker kept).quota refl
  where
    by : (q : Option Name) → (follower_of e worker kept).quota ≡ q → wakes_by (released_since (alone_in part w) kept)
        (follower_of e worker kept) q ≡ wakes_by (released_since w kept)
        (follower_of e worker kept) q
    by None at = ap (λ p. option_map_or (λ pool. any_row (λ class number. nat_lt kept.release number && can_use (follower_of e worker kept) class) pool.classes)
        p false) (pool_alone part w kept.pool (side.with.pool_with ∙ own))
    by (Some q) at = ap (λ x. nat_lt (option_map_or (λ q. q.release) kept.quota 0) (option_map_or (λ q. q.release) x 0))
        (quota_alone part w q (side.with.quota_with q (limits_by e worker kept q at) ∙ own))
