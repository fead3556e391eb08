-- What a node's command comes to, where the node is there and where it is not.
use Rattle.std.specs.Prelude.{◌≡◌, Bool, true, false, not, ◌&&◌, nat_le, Option, Some, None, is_none, is_some}
use Rattle.std.proofs.Common.{refl, ap, sym, ◌∙◌}
use Rattle.std.specs.Option.{option_and_then, option_map_or}
use Rattle.std.specs.FinMap.{contains_key, get, len}
use Rattle.ns_types.specs.declared.node.Node.{Node}
use Rattle.ns_types.specs.declared.node.NodeStatus.TheVariants as NodeStatus
use Rattle.ns_types.specs.declared.node.Offer.{Offer}
use Rattle.ns_types.specs.declared.refusal.Refusal.{Refusal}
use Rattle.ns_types.specs.declared.reply.Content.{Content}
use Rattle.ns_types.specs.declared.step.NodeCommand.TheVariants as NodeCommand
use Rattle.ns_types.specs.Asking.Nodes.{ask_pool, most_nodes, put_node, with_offer}
use Rattle.ns_types.specs.Settling.Making.{put_pool, with_node}
use Rattle.ns_types.specs.Settling.Outcome.{Outcome, Done, Refused, found, unless}
use Rattle.ns_types.specs.State.Names.{Name}
use Rattle.ns_types.specs.State.Resources.{is_within}
use Rattle.ns_types.specs.State.Rows.{World, PoolRows, is_ready, node_at}
use Rattle.ns_types.specs.State.Sums.{node_load}
use Rattle.ns_types.proofs.Lists.{not_both}
use Rattle.ns_change.specs.Changed.{change_pool, without_node}

-- ---- a command on one node

module _ (w : World) (pool name : Name) (go : PoolRows → Node → Outcome World) where
  abbrev at_node : Option PoolRows → Outcome World
  at_node r = found r (λ p. found (get p.nodes name) (go p))

  pub no_node : node_at w pool name ≡ None → at_node (get w.pools pool) ≡ Refused Refusal.NotFound
  no_node is = by (get w.pools pool) is
    where
      by : (r : Option PoolRows) → option_and_then (λ p. get p.nodes name) r ≡ None → at_node r ≡ Refused Refusal.NotFound
      by None is = refl
      by (Some p) is = ap (λ o. found o (go p)) is

  -- where it changes the pool alone
  pub one_node : (node : Node) (f : PoolRows → PoolRows) → node_at w pool name ≡ Some node →
      ((p : PoolRows) → go p node ≡ Done Content.Written (put_pool pool (f p) w)) → at_node (get w.pools pool) ≡ Done Content.Written (change_pool pool f w)
  one_node node f is goes = by (get w.pools pool) is
    where
      by : (r : Option PoolRows) → option_and_then (λ p. get p.nodes name) r ≡ Some node →
          at_node r ≡ Done Content.Written (option_map_or (λ p. put_pool pool (f p) w) r w)
      by None is = not_both (ap is_some is) refl
      by (Some p) is = ap (λ o. found o (go p)) is ∙ goes p

  one_refused : (node : Node) (refusal : Refusal) → node_at w pool name ≡ Some node → ((p : PoolRows) → go p node ≡ Refused refusal) →
      at_node (get w.pools pool) ≡ Refused refusal
  one_refused node refusal is goes = by (get w.pools pool) is
    where
      by : (r : Option PoolRows) → option_and_then (λ p. get p.nodes name) r ≡ Some node → at_node r ≡ Refused refusal
      by None is = not_both (ap is_some is) refl
      by (Some p) is = ap (λ o. found o (go p)) is ∙ goes p

-- ---- eligibility

module _ (w : World) (pool name : Name) (eligible : Bool) where
  abbrev sets : PoolRows → Node → Outcome World
  sets p node = Done Content.Written (put_pool pool (with_node name (record node { eligible = eligible }) p) w)

  pub not_there : node_at w pool name ≡ None → ask_pool pool (NodeCommand.SetEligible name eligible) w ≡ Refused Refusal.NotFound
  unfolding ask_pool
  not_there is = no_node w pool name sets is

  pub there : (node : Node) → node_at w pool name ≡ Some node → ask_pool pool (NodeCommand.SetEligible name eligible) w ≡
      Done Content.Written (change_pool pool (with_node name (record node { eligible = eligible })) w)
  unfolding ask_pool
  there node is = one_node w pool name sets node (with_node name (record node { eligible = eligible })) is (λ p. refl)

-- ---- a node that is up

module _ (w : World) (pool name : Name) where
  abbrev readies : PoolRows → Node → Outcome World
  readies p node = Done Content.Written (put_pool pool (with_node name (record node { status = NodeStatus.Ready }) p) w)

  pub none_ready : node_at w pool name ≡ None → ask_pool pool (NodeCommand.SetStatus name NodeStatus.Ready) w ≡ Refused Refusal.NotFound
  unfolding ask_pool
  none_ready is = no_node w pool name readies is

  pub ready_again : (node : Node) → node_at w pool name ≡ Some node → ask_pool pool (NodeCommand.SetStatus name NodeStatus.Ready) w ≡
      Done Content.Written (change_pool pool (with_node name (record node { status = NodeStatus.Ready })) w)
  unfolding ask_pool
  ready_again node is = one_node w pool name readies node (with_node name (record node { status = NodeStatus.Ready })) is (λ p. refl)

-- ---- removal

module _ (w : World) (pool name : Name) where
  abbrev removes : PoolRows → Node → Outcome World
  removes p node = unless (is_ready node.status) Refusal.InUse (Done Content.Written (put_pool pool (without_node name p) w))

  pub none_removed : node_at w pool name ≡ None → ask_pool pool (NodeCommand.DeleteNode name) w ≡ Refused Refusal.NotFound
  unfolding ask_pool
  none_removed is = no_node w pool name removes is

  pub still_ready : (node : Node) → node_at w pool name ≡ Some node → is_ready node.status ≡ true →
      ask_pool pool (NodeCommand.DeleteNode name) w ≡ Refused Refusal.InUse
  unfolding ask_pool unless
  still_ready node is ready = one_refused w pool name removes node Refusal.InUse is
      (λ p. ap (λ b. unless b Refusal.InUse (Done Content.Written (put_pool pool (without_node name p) w))) ready)

  pub removed : (node : Node) → node_at w pool name ≡ Some node → is_ready node.status ≡ false →
      ask_pool pool (NodeCommand.DeleteNode name) w ≡ Done Content.Written (change_pool pool (without_node name) w)
  unfolding ask_pool unless
  removed node is down = one_node w pool name removes node (without_node name) is
      (λ p. ap (λ b. unless b Refusal.InUse (Done Content.Written (put_pool pool (without_node name p) w))) down)

-- ---- registration

module _ (w : World) (pool name : Name) (offer : Offer) where
  pub pool_missing : get w.pools pool ≡ None → ask_pool pool (NodeCommand.PutNode name offer) w ≡ Refused Refusal.NotFound
  unfolding ask_pool
  pool_missing is = ap (λ o. found o (put_node pool name offer w)) is

  module _ (p : PoolRows) (is : get w.pools pool ≡ Some p) where
    abbrev is_full : Bool
    is_full = not (contains_key p.nodes name) && nat_le most_nodes (len p.nodes)

    abbrev put_in : Outcome World
    put_in = Done Content.Written (put_pool pool (with_node name (with_offer offer (get p.nodes name)) p) w)

    -- by the two tests
    registers : (fits full : Bool) → is_within (node_load w pool name) offer.capacity ≡ fits → is_full ≡ full →
        ask_pool pool (NodeCommand.PutNode name offer) w ≡ unless (not fits) Refusal.InUse (unless full Refusal.Full put_in)
    unfolding ask_pool
    registers fits full fit f = ap (λ o. found o (put_node pool name offer w)) is ∙
        (λ i. unless (not (fit i)) Refusal.InUse (unless (f i) Refusal.Full put_in))

    pub too_small : is_within (node_load w pool name) offer.capacity ≡ false → ask_pool pool (NodeCommand.PutNode name offer) w ≡ Refused Refusal.InUse
    unfolding unless
    too_small small = registers false is_full small refl

    full_by : is_none (get p.nodes name) && nat_le most_nodes (len p.nodes) ≡ is_full
    full_by = ap (λ b. b && nat_le most_nodes (len p.nodes)) (by (get p.nodes name))
      where
        by : (o : Option Node) → is_none o ≡ not (is_some o)
        by None = refl
        by (Some n) = refl

    pub pool_full : is_within (node_load w pool name) offer.capacity ≡ true → is_none (get p.nodes name) && nat_le most_nodes (len p.nodes) ≡ true →
        ask_pool pool (NodeCommand.PutNode name offer) w ≡ Refused Refusal.Full
    unfolding unless
    pool_full fits full = registers true true fits (sym full_by ∙ full)

    pub registered : is_within (node_load w pool name) offer.capacity ≡ true → is_none (get p.nodes name) && nat_le most_nodes (len p.nodes) ≡ false →
        ask_pool pool (NodeCommand.PutNode name offer) w ≡ Done Content.Written
        (change_pool pool (with_node name (with_offer offer (get p.nodes name))) w)
    unfolding unless
    registered fits room = registers true false fits (sym full_by ∙ room)
        ∙ (λ i. Done Content.Written (option_map_or (λ p'. put_pool pool (with_node name (with_offer offer (get p.nodes name)) p') w) (sym is i) w))
