-- What it comes to that a node goes down.
use Rattle.std.specs.Prelude.{◌≡◌, Option, Some, None, is_some}
use Rattle.std.proofs.Common.{refl, ap}
use Rattle.std.specs.Option.{option_and_then, option_map_or}
use Rattle.std.specs.FinMap.{get}
use Rattle.ns_types.specs.declared.node.Node.{Node}
use Rattle.ns_types.specs.declared.node.NodeStatus.TheVariants as NodeStatus
use Rattle.ns_types.specs.declared.refusal.Refusal.{Refusal}
use Rattle.ns_types.specs.declared.reply.Content.{Content}
use Rattle.ns_types.specs.declared.step.NodeCommand.TheVariants as NodeCommand
use Rattle.ns_types.specs.Asking.Nodes.{ask_pool, go_down}
use Rattle.ns_types.specs.Settling.Making.{put_pool, with_node}
use Rattle.ns_types.specs.Settling.Outcome.{Outcome, Done, Refused, found}
use Rattle.ns_types.specs.State.Names.{Name}
use Rattle.ns_types.specs.State.Rows.{World, PoolRows, node_at}
use Rattle.ns_types.proofs.Lists.{not_both}
use Rattle.ns_change.specs.Changed.{change_pool}
use Rattle.ns_nodes.proofs.Asked.{no_node}

module _ (w : World) (pool name : Name) where
  abbrev pub down_node : Node → PoolRows → PoolRows
  down_node node = with_node name (record node { status = NodeStatus.Down })

  pub goes : (node : Node) → node_at w pool name ≡ Some node → ask_pool pool (NodeCommand.SetStatus name NodeStatus.Down) w ≡
      Done Content.Written (go_down pool name (change_pool pool (down_node node) w))
  unfolding ask_pool
  goes node is = by (get w.pools pool) is
    where
      by : (r : Option PoolRows) → option_and_then (λ p. get p.nodes name) r ≡ Some node →
          found r (λ p. found (get p.nodes name) (λ node. Done Content.Written (go_down pool name (put_pool pool (down_node node p) w))))
          ≡ Done Content.Written (go_down pool name (option_map_or (λ p. put_pool pool (down_node node p) w) r w))
      by None is = not_both (ap is_some is) refl
      by (Some p) is = ap (λ o. found o (λ node. Done Content.Written (go_down pool name (put_pool pool (down_node node p) w)))) is

  abbrev downs : PoolRows → Node → Outcome World
  downs p node = Done Content.Written (go_down pool name (put_pool pool (down_node node p) w))

  pub not_there : node_at w pool name ≡ None → ask_pool pool (NodeCommand.SetStatus name NodeStatus.Down) w ≡ Refused Refusal.NotFound
  unfolding ask_pool
  not_there is = no_node w pool name downs is
