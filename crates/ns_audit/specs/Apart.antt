-- A choice of owners, which are namespaces, pools and quotas, such that no namespace reaches over its border; and what
-- a step's own change may do to it.
use Rattle.std.specs.Prelude.{◌≡◌, ℕ, true, not, Option, Some, option_map}
use Rattle.std.specs.FinMap.{get}
use Rattle.ns_types.specs.declared.allocation.Allocation.{Allocation}
use Rattle.ns_types.specs.declared.evaluation.Evaluation.{Evaluation}
use Rattle.ns_types.specs.declared.job.Job.{Job}
use Rattle.ns_types.specs.declared.snapshot.Snapshot.{Snapshot}
use Rattle.ns_types.specs.Working.Worker.{Worker}
use Rattle.ns_types.specs.Isolation.{Part, alone_in}
use Rattle.ns_types.specs.State.Lists.{Each}
use Rattle.ns_types.specs.State.Names.{Name}
use Rattle.ns_types.specs.Settling.Outcome.{Outcome, NotEnabled, Refused, Done}
use Rattle.ns_types.specs.State.Rows.{World, Tenant, is_live, is_held, evaluation_at}
use Rattle.ns_types.specs.Access.Sharing.{permits}

-- the owners that are not chosen
abbrev pub rest : Part → Part
rest part = record {
  spaces = λ ns. not (part.spaces ns);
  pools = λ pool. not (part.pools pool);
  quotas =
      λ quota. not (part.quotas quota);
}

-- the pool is chosen exactly if the namespace is, and so is the quota, if there is one
pub record IsWith (part : Part) (ns pool : Name) (quota : Option Name) : Type 0 where
  pub pool_with : part.pools pool ≡ part.spaces ns
  pub quota_with : (q : Name) → quota ≡ Some q → part.quotas q ≡ part.spaces ns

-- a kept snapshot is of its namespace, and its pool and its quota are chosen exactly if the namespace is
pub record IsKeptWith (part : Part) (ns : Name) (kept : Snapshot) : Type 0 where
  pub namespace : kept.namespace ≡ ns
  pub with : IsWith part ns kept.pool (option_map (λ q. q.name) kept.quota)

-- No namespace reaches over the border of the choice: a chosen namespace may use chosen pools alone and names a chosen
-- quota or none; any other namespace may use no chosen pool and names no chosen quota. The same holds of the pools and
-- quotas that their blocked evaluations, live allocations, jobs, workers' evaluations and kept snapshots name.
pub record IsApart (part : Part) (w : World) : Type 0 where
  pub quota : (ns : Name) (t : Tenant) (q : Name) → get w.tenants ns ≡ Some t → t.namespace.quota ≡ Some q →
      part.quotas q ≡ part.spaces ns
  pub pool : (ns : Name) (t : Tenant) (p : Name) → get w.tenants ns ≡ Some t → permits t.namespace p ≡ true →
      part.pools p ≡ part.spaces ns
  pub blocked : Each (λ key. (e : Evaluation) → evaluation_at w key ≡ Some e → IsWith part key.0 e.pool e.quota)
      w.blocked
  pub allocation : (ns : Name) (t : Tenant) (n : ℕ) (a : Allocation) → get w.tenants ns ≡ Some t →
      get t.allocations n ≡ Some a → is_live a ≡ true
      → part.pools a.pool ≡ part.spaces ns
  pub job : (ns : Name) (t : Tenant) (id : Name) (j : Job) → get w.tenants ns ≡ Some t → get t.jobs id ≡ Some j →
      part.pools j.document.pool ≡ part.spaces ns
  pub held : (ns : Name) (t : Tenant) (n : ℕ) (worker : Worker) (e : Evaluation) → get w.tenants ns ≡ Some t →
      get t.workers n ≡ Some worker
      → get t.evaluations worker.evaluation ≡ Some e → part.pools e.pool ≡ part.spaces ns
  pub kept : (ns : Name) (t : Tenant) (n : ℕ) (worker : Worker) (kept : Snapshot) → get w.tenants ns ≡ Some t →
      get t.workers n ≡ Some worker
      → worker.kept ≡ Some kept → IsKeptWith part ns kept

-- each allocation of a chosen namespace whose client status is `pending` or `running` is in a chosen pool, whatever its
-- desired status
abbrev pub IsAtHome : Part → World → Type 0
IsAtHome part w = (ns : Name) (t : Tenant) (n : ℕ) (a : Allocation) → get w.tenants ns ≡ Some t →
    get t.allocations n ≡ Some a → is_held a.client ≡ true
    → part.spaces ns ≡ true → part.pools a.pool ≡ true

-- ---- what a step's own change may do

-- the step's own change leaves the chosen owners as they were
unfoldable pub Leaves : Part → World → Outcome World → Type 0
Leaves part w (NotEnabled) = Unit {0}
Leaves part w (Refused refusal) = Unit {0}
Leaves part w (Done content w') = alone_in part w' ≡ alone_in part w

-- wherever the step is enabled on the whole server, it does the same where the chosen owners are alone: it gets the
-- same refusal, or the same content with the same change to them
unfoldable pub Follows : Part → Outcome World → Outcome World → Type 0
Follows part NotEnabled o = Unit {0}
Follows part (Refused refusal) o = o ≡ Refused refusal
Follows part (Done content w') o = o ≡ Done content (alone_in part w')
