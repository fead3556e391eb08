-- A step that releases something only by the live allocations that it ends.
use Rattle.std.specs.Prelude.{◌≡◌, ℕ, Bool, true, false, not, ◌&&◌, ◌||◌, List, Option, Some, option_map}
use Rattle.std.specs.Option.{option_map_or}
use Rattle.std.specs.FinMap.{get}
use Rattle.ns_types.specs.declared.node.Node.{Node}
use Rattle.ns_types.specs.Settling.Releases.{same_offer}
use Rattle.ns_types.specs.State.Names.{Name, Key, has_key}
use Rattle.ns_types.specs.State.Rows.{World, evaluation_at, is_free, node_at}
use Rattle.ns_types.specs.Working.Parts.{lives_at}

-- the allocation is live before the step, and not after it
abbrev pub ends_at : World → World → Key → Bool
ends_at w x key = lives_at w key && not (lives_at x key)

-- the node is free, and it is new, became free or offers something else than before
abbrev pub opens : World → Name → Name → Node → Bool
opens w pool name node = is_free node
    && option_map_or (λ old. not (is_free old) || not (same_offer old.offer node.offer)) (node_at w pool name) true

abbrev pub index_at : World → Name → Option ℕ
index_at w ns = option_map (λ t. t.index) (get w.tenants ns)

abbrev pub release_at : World → Name → Option ℕ
release_at w pool = option_map (λ p. p.release) (get w.pools pool)

-- The step led from w to x, and has not settled yet. It may make evaluations and allocations, count places, and change
-- rows of every kind.
pub record EndsAlone (w x : World) (keys : List Key) : Type 0 where
  -- the allocations at the keys end, and no other
  pub ended : (key : Key) → has_key keys key ≡ ends_at w x key
  -- the namespaces and the pools stay, and so do their counters that settling raises
  pub indexes : (ns : Name) → index_at x ns ≡ index_at w ns
  pub releases : (pool : Name) → release_at x pool ≡ release_at w pool
  -- no node gives room by itself, and no quota has other limits
  pub nodes : (pool name : Name) (node : Node) → node_at x pool name ≡ Some node → opens w pool name node ≡ false
  pub quotas : x.quotas ≡ w.quotas
  -- the same evaluations are blocked, each as it was
  pub blocked : x.blocked ≡ w.blocked
  pub asleep : (key : Key) → has_key w.blocked key ≡ true → evaluation_at x key ≡ evaluation_at w key
