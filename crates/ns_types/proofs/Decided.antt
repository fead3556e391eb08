-- What is decided of a plan, by what holds of each world on the way, and the rows of those who are evicted.
use Rattle.std.specs.Prelude.{◌≡◌, ℕ, true, false, cond, List, [], ◌∷◌, ◌++◌, Option, Some, None, filter, filter_map, fold, option_map}
use Rattle.std.proofs.Common.{refl}
use Rattle.std.specs.List.{cons_option}
use Rattle.ns_types.specs.declared.allocation.Allocation.{Allocation}
use Rattle.ns_types.specs.declared.plan.Eviction.{Eviction}
use Rattle.ns_types.specs.declared.plan.Placement.{Placement}
use Rattle.ns_types.specs.declared.snapshot.Snapshot.{Snapshot}
use Rattle.ns_types.specs.State.Lists.{Each}
use Rattle.ns_types.specs.State.Names.{Name}
use Rattle.ns_types.specs.State.Resources.{plus}
use Rattle.ns_types.specs.State.Rows.{World, allocation_at}
use Rattle.ns_types.specs.Working.Commit.{Commit, Victim, accepts_at, counts, decide, evict_all, evicted_rows, node_name, part_of, size_of, victim_at}
use Rattle.ns_types.specs.Working.Commit.{victims_in, victims_of}
use Rattle.ns_types.proofs.Elements.{each_flat_map, each_of, each_passes}

-- ---- node by node: a node's victims go where it does its part, and nothing where it does not

pub decide_world : (P : World → Type 0) (kept : Snapshot) (ps : List Placement) (c : Commit) (k : ℕ) →
    P (evict_all c.world (victims_of c.world kept (part_of k ps))) → P c.world → P (decide kept ps c k).world
unfolding decide
decide_world P kept ps c k evicted left =
    elim (accepts_at kept (evict_all c.world (victims_of c.world kept (part_of k ps))) (node_name kept k) (part_of k ps) c.placed) as
    (λ b. P (cond b (record {
      world = evict_all c.world (victims_of c.world kept (part_of k ps));
      placed = plus c.placed (size_of (part_of k ps));
      committed = c.committed ++ k ∷ [];
      dropped = c.dropped;
    }) (record c { dropped = c.dropped ++ k ∷ [] })).world) [ true ↦ evicted | false ↦ left ]

-- what evictions keep holds of all that is decided
pub decided_world : (P : World → Type 0) → ((vs : List Eviction) (w : World) → P w → P (evict_all w vs)) → (kept : Snapshot) (ps : List Placement)
    (ks : List ℕ) (c : Commit) → P c.world → P (fold (decide kept ps) c ks).world
decided_world P keeps kept ps [] c h = h
decided_world P keeps kept ps (k ∷ ks) c h = decided_world P keeps kept ps ks (decide kept ps c k)
    (decide_world P kept ps c k (keeps (victims_of c.world kept (part_of k ps)) c.world h) h)

-- ---- the rows of victims

-- the eviction is of an allocation of which this holds, if of any
abbrev pub HoldsOfItsRow : (Victim → Type 0) → World → Eviction → Type 0
HoldsOfItsRow P w e = (a : Allocation) → allocation_at w (e.namespace, e.number) ≡ Some a → P (e.namespace, (e.number, a))

module _ (P : Victim → Type 0) (w : World) where
  pub victims_are : (vs : List Eviction) → Each (HoldsOfItsRow P w) vs → Each P (filter_map (victim_at w) vs)
  victims_are [] h = tt
  victims_are (e ∷ vs) h = by (victims_are vs h.1) (allocation_at w (e.namespace, e.number)) refl
    where
      by : Each P (filter_map (victim_at w) vs) → (o : Option Allocation) → allocation_at w (e.namespace, e.number) ≡ o →
          Each P (cons_option {X = Victim} (option_map (λ a. (e.namespace, (e.number, a))) o) (filter_map (victim_at w) vs))
      by rest None at = rest
      by rest (Some a) at = (h.0 a at, rest)

  -- where it holds of the allocation of each eviction that counts, it holds of all who are evicted
  pub evicted_are : (kept : Snapshot) → ((node : Name) (e : Eviction) → counts w kept.pool node e ≡ true → HoldsOfItsRow P w e) → (ps : List Placement) →
      Each P (evicted_rows w kept ps)
  evicted_are kept named ps = victims_are (victims_of w kept ps) (each_flat_map (HoldsOfItsRow P w) (victims_in w kept)
      (λ p. each_of (λ e. counts w kept.pool (node_name kept p.node) e ≡ true) (HoldsOfItsRow P w) (named (node_name kept p.node))
      (filter (counts w kept.pool (node_name kept p.node)) p.evictions) (each_passes (counts w kept.pool (node_name kept p.node)) p.evictions)) ps)
