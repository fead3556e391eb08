-- The nodes of a pool as replies show them.
use Rattle.std.specs.Prelude.{List, [], ◌∷◌, Option, Some, None}
use Rattle.ns_types.specs.declared.node.Node.{Node}
use Rattle.ns_types.specs.declared.reply.NodeShown.{NodeShown}
use Rattle.ns_types.specs.State.Names.{Name}
use Rattle.ns_types.specs.State.Resources.{IsCounted}
use Rattle.ns_types.specs.State.Rows.{World}
use Rattle.ns_types.specs.State.Sums.{node_load}

-- a node with what the live allocations on it take
abbrev pub node_shown : World → Name → Name × Node → NodeShown
node_shown w pool e = record { pool = pool; name = e.0; row = e.1; used = node_load w pool e.0 }

-- the node of a slot as replies show it; a vacant slot shows nothing
abbrev pub shown_at : World → Name → Name × Option Node → List NodeShown
shown_at w pool (name, None) = []
shown_at w pool (name, Some node) = node_shown w pool (name, node) ∷ []

-- what the live allocations on each node of the pool take together fits 64 bits
abbrev pub LoadsFit : World → Name → Type 0
LoadsFit w pool = (name : Name) → IsCounted (node_load w pool name)
