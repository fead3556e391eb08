-- Laws of blocked evaluations: one sleeps on only where nothing gave it room, releases are numbered, and none is blocked
-- over a missed release.
use Rattle.std.specs.Prelude.{◌≡◌, ◌≢◌, ◌≤◌, ◌⊎◌, ◌+◌, ℕ, true, Some, None, Ok, IsTrue}
use Rattle.std.specs.FinMap.{get}
use Rattle.ns_types.specs.declared.allocation.Allocation.{Allocation}
use Rattle.ns_types.specs.declared.evaluation.Evaluation.{Evaluation}
use Rattle.ns_types.specs.declared.evaluation.Status.{Status}
use Rattle.ns_types.specs.declared.node.Class.{Class}
use Rattle.ns_types.specs.declared.node.Node.{Node}
use Rattle.ns_types.specs.declared.node.NodeStatus.TheVariants as NodeStatus
use Rattle.ns_types.specs.declared.reply.Content.TheVariants as Content
use Rattle.ns_types.specs.declared.reply.Reply.{Reply}
use Rattle.ns_types.specs.declared.snapshot.QuotaSeen.{QuotaSeen}
use Rattle.ns_types.specs.declared.snapshot.Snapshot.{Snapshot}
use Rattle.ns_types.specs.declared.step.Step.{Step}
use Rattle.ns_types.specs.Settling.Settle.{settle}
use Rattle.ns_types.specs.Steps.{after, said}
use Rattle.ns_types.specs.State.Lists.{Each}
use Rattle.ns_types.specs.State.Names.{Key, Name, has_key}
use Rattle.ns_types.specs.State.Resources.{limits_in}
use Rattle.ns_types.specs.State.Rows.{State, World, Tenant, PoolRows, QuotaRows, evaluation_at, node_at}
use Rattle.ns_types.specs.State.Rows.{class_of, is_live}
use Rattle.ns_types.specs.Validity.{IsLiveAt}
use Rattle.ns_types.specs.Working.Worker.{Worker}
use Rattle.ns_types.specs.Working.Looks.{worker_at}

-- ---- an evaluation that sleeps through a step

-- it is in `blocked` before the step and after it
abbrev pub SleepsThrough : World → World → Key → Type 0
SleepsThrough w x key = IsTrue (has_key w.blocked key) × IsTrue (has_key x.blocked key)

-- the evaluation escapes classes, or the class is none of those that it found infeasible
abbrev pub MayUse : Evaluation → Class → Type 0
MayUse e class = IsTrue e.escapes ⊎ Each (λ other. other ≢ class) e.infeasible

-- the node is ready and eligible
abbrev pub IsOpen : Node → Type 0
IsOpen node = (node.status ≡ NodeStatus.Ready) × (node.eligible ≡ true)

-- the allocation is there, and live
abbrev pub StillLives : World → Key → Type 0
StillLives x key = (a : Allocation) × IsLiveAt x key a

-- the node was ready and eligible before, with the same offer, and each allocation that was live on it is live still
pub record GotNoRoom (w x : World) (pool name : Name) (row : Node) : Type 0 where
  pub old : Node
  pub there : node_at w pool name ≡ Some old
  pub took : IsOpen old
  pub offer : old.offer ≡ row.offer
  pub lasting : (key : Key) (a : Allocation) → IsLiveAt w key a → a.pool ≡ pool → a.node ≡ name → StillLives x key

-- An evaluation that no quota limits sleeps through a step. Then no node of its pool got room in the step: each one that is
-- ready and eligible after the step, and of a class that the evaluation may use, was so before, with the same offer, and
-- no live allocation on it ended.
abbrev pub NoneSleepsOverRoom : Type 0
NoneSleepsOverRoom = (step : Step) (s t : State) (reply : Reply) (key : Key) (e : Evaluation) (name : Name) (row : Node) →
    after step s ≡ said (Ok reply) t → SleepsThrough s.world t.world key →
    evaluation_at s.world key ≡ Some e → e.quota ≡ None →
    node_at t.world e.pool name ≡ Some row → IsOpen row → MayUse e (class_of row) →
    GotNoRoom s.world t.world e.pool name row

-- the quota limits what it limited before, and each live allocation of a namespace that named it is live still
pub record GotNoQuota (w x : World) (quota : Name) (old new : QuotaRows) : Type 0 where
  pub limits : limits_in old.quota.limits ≡ limits_in new.quota.limits
  pub lasting : (ns : Name) (t : Tenant) (n : ℕ) (a : Allocation) → get w.tenants ns ≡ Some t →
      t.namespace.quota ≡ Some quota → get t.allocations n ≡ Some a → IsTrue (is_live a) → StillLives x (ns, n)

-- An evaluation that a quota limits sleeps through a step, and the quota is there before and after it. Then the quota got
-- no room in the step: its limits are the same, and no live allocation that counted in it ended.
abbrev pub NoneSleepsOverQuota : Type 0
NoneSleepsOverQuota = (step : Step) (s t : State) (reply : Reply) (key : Key) (e : Evaluation) (quota : Name)
    (old new : QuotaRows) →
    after step s ≡ said (Ok reply) t → SleepsThrough s.world t.world key →
    evaluation_at s.world key ≡ Some e → e.quota ≡ Some quota →
    get s.world.quotas quota ≡ Some old → get t.world.quotas quota ≡ Some new →
    GotNoQuota s.world t.world quota old new

-- ---- release numbers

-- The world x is what a step's own change makes of w, before releases are numbered. A node that is ready and eligible after
-- the step either got no room in it, or its pool has one more release than in x, and that number is now the one of the
-- node's class.
abbrev pub RoomIsNumbered : Type 0
RoomIsNumbered = (w x : World) (pool name : Name) (own later : PoolRows) (row : Node) →
    get x.pools pool ≡ Some own → get (settle w x).pools pool ≡ Some later → get later.nodes name ≡ Some row → IsOpen row →
    GotNoRoom w (settle w x) pool name row
    ⊎ ((later.release ≡ own.release + 1) × (get later.classes (class_of row) ≡ Some later.release))

-- The same of a quota: either it got no room in the step, or it has one more release than in x.
abbrev pub QuotaRoomIsNumbered : Type 0
QuotaRoomIsNumbered = (w x : World) (quota : Name) (old own later : QuotaRows) →
    get w.quotas quota ≡ Some old → get x.quotas quota ≡ Some own → get (settle w x).quotas quota ≡ Some later →
    GotNoQuota w (settle w x) quota old later ⊎ (later.release ≡ own.release + 1)

-- ---- an evaluation that is blocked at Finish

-- since the snapshot, nothing was released that the evaluation could use: no class of its pool, or not its quota
pub record MissedNothing (w : World) (kept : Snapshot) (e : Evaluation) : Type 0 where
  pub classes : e.quota ≡ None → (pool : PoolRows) (class : Class) (number : ℕ) → get w.pools e.pool ≡ Some pool →
      get pool.classes class ≡ Some number → MayUse e class → number ≤ kept.release
  pub quota : (quota : Name) (seen : QuotaSeen) (rows : QuotaRows) → e.quota ≡ Some quota → kept.quota ≡ Some seen →
      get w.quotas quota ≡ Some rows → rows.release ≤ seen.release

-- A worker ends its evaluation with a follower that is blocked. Then the follower missed no release: the last release of
-- each class of its pool that it may use, or of the quota that limits it, came before the snapshot that the worker kept.
abbrev pub FollowerMissedNothing : Type 0
FollowerMissedNothing = (s t : State) (worker : ℕ) (ns : Name) (row : Worker) (kept : Snapshot) (reply : Reply)
    (status : Status) (n : ℕ) (e : Evaluation) →
    worker_at s.world worker ns ≡ Some row → row.kept ≡ Some kept →
    after (Step.Finish worker ns) s ≡ said (Ok reply) t → reply.content ≡ Content.Finished status (Some n) →
    evaluation_at t.world (ns, n) ≡ Some e → e.status ≡ Status.Blocked → MissedNothing s.world kept e
