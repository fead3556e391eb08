-- The nodes of a pool, slot by slot.
use Rattle.std.specs.Prelude.{◌≡◌, List, [], ◌∷◌, Option, Some, None, flat_map, map, option_map}
use Rattle.std.proofs.Common.{refl, sym, ap, ◌∙◌}
use Rattle.std.specs.FinMap.{entries}
use Rattle.keyed.specs.Table.{row_at, row_list}
use Rattle.keyed.proofs.Tables.{entries-rows}
use Rattle.ns_types.specs.declared.node.Node.{Node}
use Rattle.ns_types.specs.declared.refusal.Refusal.{Refusal}
use Rattle.ns_types.specs.declared.reply.Content.{Content}
use Rattle.ns_types.specs.declared.step.NodeCommand.TheVariants as NodeCommand
use Rattle.ns_types.specs.Asking.Nodes.{ask_pool, asked_in_pool}
use Rattle.ns_types.specs.Settling.Outcome.{Done, Refused, found}
use Rattle.ns_types.specs.State.Names.{Name}
use Rattle.ns_types.specs.State.Rows.{World}
use Rattle.ns_nodes.specs.Listed.{node_shown, shown_at}
use Rattle.ns_tables.specs.declared.tables.PoolRows.{PoolRows as StoredPool}
use Rattle.ns_tables.specs.declared.tables.Tables.{Tables}
use Rattle.ns_tables.specs.World.{pool_of, world_of}
use Rattle.ns_tables.proofs.World.{pool_at}

by_slots : (w : World) (pool : Name) (slots : List (Name × Option Node)) → flat_map (shown_at w pool) slots ≡ map (node_shown w pool) (row_list slots)
by_slots w pool [] = refl
by_slots w pool ((name, None) ∷ slots) = by_slots w pool slots
by_slots w pool ((name, Some node) ∷ slots) = ap (λ l. node_shown w pool (name, node) ∷ l) (by_slots w pool slots)

module _ (t : Tables) (pool : Name) where
  pub list_nowhere : row_at t.pools pool ≡ None → ask_pool pool NodeCommand.ListNodes (world_of t) ≡ Refused Refusal.NotFound
  unfolding ask_pool
  list_nowhere is = ap (λ o. found o (asked_in_pool pool NodeCommand.ListNodes (world_of t))) (pool_at t pool ∙ ap (option_map pool_of) is)

  pub listed : (x : StoredPool) → row_at t.pools pool ≡ Some x → ask_pool pool NodeCommand.ListNodes (world_of t)
      ≡ Done (Content.Nodes (flat_map (shown_at (world_of t) pool) (entries x.nodes))) (world_of t)
  unfolding ask_pool
  listed x is = ap (λ o. found o (asked_in_pool pool NodeCommand.ListNodes (world_of t))) (pool_at t pool ∙ ap (option_map pool_of) is)
      ∙ ap (λ l. Done (Content.Nodes l) (world_of t))
      (ap (map (node_shown (world_of t) pool)) (entries-rows x.nodes) ∙ sym (by_slots (world_of t) pool (entries x.nodes)))
