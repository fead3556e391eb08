-- What is asked of a pool keeps records sound.
use Rattle.std.specs.Prelude.{◌≡◌, ◌≤◌, Bool, true, false, cond, not, Option, Some, None, ◌&&◌, nat_le}
use Rattle.std.proofs.Common.{◌⊎◌, inl, inr, refl, sym, subst}
use Rattle.std.proofs.Math.Nat.{le_trans}
use Rattle.std.specs.FinMap.{get, contains_key, insert, len, remove}
use Rattle.std.specs.Option.{option_map_or}
use Rattle.ns_types.specs.declared.allocation.Allocation.{Allocation}
use Rattle.ns_types.specs.declared.evaluation.Trigger.TheVariants as Trigger
use Rattle.ns_types.specs.declared.name.NameKind.TheVariants as NameKind
use Rattle.ns_types.specs.declared.node.Node.{Node}
use Rattle.ns_types.specs.declared.node.Offer.{Offer}
use Rattle.ns_types.specs.declared.refusal.Refusal.TheVariants as Refusal
use Rattle.ns_types.specs.declared.reply.Content.TheVariants as Content
use Rattle.ns_types.specs.declared.step.NodeCommand.{NodeCommand}
use Rattle.ns_types.specs.declared.step.Report.{Report}
use Rattle.ns_types.specs.State.Limits.{is_good_offer}
use Rattle.ns_types.specs.Settling.Making.{put_pool, with_node, change_tenant, with_client, evaluation_for, make}
use Rattle.ns_types.specs.State.Name.{is_name}
use Rattle.ns_types.specs.State.Names.{Name}
use Rattle.ns_types.specs.Asking.Nodes.{most_nodes, with_offer, losses, lost, lose, go_down, may_become, same_client, calls_for_one, reported, is_on, report_of}
use Rattle.ns_types.specs.Asking.Nodes.{report, asked_in_pool, ask_pool}
use Rattle.ns_types.specs.Settling.Outcome.{Done, unless}
use Rattle.ns_types.specs.State.Rows.{World, PoolRows, is_ready, allocation_at}
use Rattle.ns_types.specs.State.Tables.{map_rows}
use Rattle.ns_types.specs.State.Limits.{IsInOrder}
use Rattle.ns_types.specs.Asking.Good.{IsGoodNodeCommand}
use Rattle.ns_types.proofs.Named.{names, one_name, first_of_both, second_of_both}
use Rattle.ns_types.proofs.TableRows.{row_of_insert, row_of_remove}
use Rattle.ns_audit.proofs.ValidRecords.Statement.{IsGoodNode, IsGoodPool}
use Rattle.ns_types.proofs.Leads.{Leads, leads_unless, leads_found, leads_if}
use Rattle.ns_audit.proofs.Alone.Recording.{record_kept}
use Rattle.ns_audit.proofs.ValidRecords.Sound.{kept_of, IsRecorded, IsNear, near_same, near_pool, near_first}
use Rattle.ns_audit.proofs.ValidRecords.Tables.{len_put, len_removed, len_room}
use Rattle.ns_audit.proofs.ValidRecords.Frames.{kept_client, near_change, near_make, near_each}

-- ---- a pool

module _ (name : Name) (p : PoolRows) (g : IsGoodPool name p) where
  -- with a node's row
  pub with_node_good : (n : Name) (node : Node) → len (insert p.nodes n node) ≤ most_nodes → IsGoodNode n node → IsGoodPool name (with_node n node p)
  with_node_good n node few good = record {
    named = g.named;
    described = g.described;
    few_nodes = few;
    node =
        λ k x at. by k x (row_of_insert names one_name p.nodes n node k x at);
    classes = g.classes;
  }
    where
      by : (k : Name) (x : Node) → ((k ≡ n) × (node ≡ x)) ⊎ (get p.nodes k ≡ Some x) → IsGoodNode k x
      by k x (inl e) = subst (IsGoodNode k) e.1 (subst (λ k. IsGoodNode k node) (sym e.0) good)
      by k x (inr at) = g.node k x at

  -- a node's row becomes another of the same offer
  pub same_node_good : (n : Name) (old node : Node) → get p.nodes n ≡ Some old → node.offer ≡ old.offer → IsGoodPool name (with_node n node p)
  same_node_good n old node is same =
      let x = g.node n old is in
      with_node_good n node (subst (λ k. k ≤ most_nodes) (sym (len_put p.nodes n node old is)) g.few_nodes)
      (record { named = x.named; good = subst (λ offer. is_good_offer offer ≡ true) (sym same) x.good; in_order = subst IsInOrder (sym same) x.in_order })

  removed_good : (n : Name) → IsGoodPool name (record p { nodes = remove p.nodes n })
  removed_good n = record {
    named = g.named;
    described = g.described;
    few_nodes = le_trans (len_removed p.nodes n) g.few_nodes;
    node =
        λ k x at. g.node k x (row_of_remove p.nodes n k x at);
    classes = g.classes;
  }

  offered_good : (n : Name) (offer : Offer) → (not (contains_key p.nodes n) && nat_le most_nodes (len p.nodes)) ≡ false → is_name NameKind.Node n ≡ true →
      is_good_offer offer ≡ true → IsInOrder offer
      → IsGoodPool name (with_node n (with_offer offer (get p.nodes n)) p)
  offered_good n offer room named good in_order =
      with_node_good n (with_offer offer (get p.nodes n)) (len_room p.nodes n (with_offer offer (get p.nodes n)) most_nodes g.few_nodes room)
      (by (get p.nodes n))
    where
      by : (o : Option Node) → IsGoodNode n (with_offer offer o)
      by None = record { named = named; good = good; in_order = in_order }
      by (Some node) = record { named = named; good = good; in_order = in_order }

-- ---- nodes that go down, and reports

module _ (w : World) where
  lost_near : (y : World) → IsNear w y → (pool node : Name) → IsNear w (lose pool node y)
  lost_near y near pool node = near_same w y (lose pool node y) near
      (record_kept (λ _ t. record t { allocations = map_rows (λ _ a. lost pool node a) t.allocations }) kept_of (λ ns t. refl) y.tenants) refl refl

  down_near : (y : World) → IsNear w y → (pool node : Name) → IsNear w (go_down pool node y)
  unfolding go_down
  down_near y near pool node = near_each w (λ x (loss : Name × Allocation). make loss.0 (λ t. evaluation_for t loss.1 Trigger.NodeUpdate) x)
      (λ x loss h. near_make w x h loss.0 (λ t. evaluation_for t loss.1 Trigger.NodeUpdate)) (losses pool node y) (lose pool node y)
      (lost_near y near pool node)

  reported_near : IsNear w w → (r : Report) (a : Allocation) → IsNear w (reported r a w)
  reported_near near r a =
      let x = change_tenant r.namespace (with_client r.number r.client) w in
      let x_near = near_change w w near r.namespace (with_client r.number r.client) (kept_client r.number r.client) in
      elim (option_map_or (λ t. calls_for_one t a r.client) (get w.tenants r.namespace) false) as
      (λ b. IsNear w (cond b (make r.namespace (λ t. evaluation_for t a Trigger.AllocFailure) x) x)) [
        | true ↦ near_make w x x_near r.namespace (λ t. evaluation_for t a Trigger.AllocFailure)
        | false ↦ x_near
      ]

  report_near : IsNear w w → (pool name : Name) (r : Report) (p : PoolRows) → Leads (IsNear w) (report pool name r w p)
  report_near near pool name r p = leads_found (IsNear w) (get p.nodes name) _
      (λ node _. leads_found (IsNear w) (allocation_at w (r.namespace, r.number)) (λ x. unless (not (is_on pool name x)) Refusal.NotFound (report_of r w x))
      (λ a _.
      leads_unless (IsNear w) (not (is_on pool name a)) Refusal.NotFound (report_of r w a) (λ _.
      leads_if (IsNear w) (same_client a.client r.client) (Done Content.Written w)
      (unless (not (may_become a.client r.client)) Refusal.Conflict (Done Content.Written (reported r a w))) (λ _. near) (λ _.
      leads_unless (IsNear w) (not (may_become a.client r.client)) Refusal.Conflict (Done Content.Written (reported r a w)) (λ _. reported_near near r a)))))

-- ---- all that is asked of a pool

module _ (w : World) (s : IsRecorded w) (pool : Name) (p : PoolRows) (is : get w.pools pool ≡ Some p) where
  here : IsNear w w
  here = near_first w s

  good_pool : IsGoodPool pool p
  good_pool = s.pool pool p is

  put : (p' : PoolRows) → IsGoodPool pool p' → IsNear w (put_pool pool p' w)
  put p' good = near_pool w w here pool p p' is good

  asked_in_pool_near : (command : NodeCommand) → IsGoodNodeCommand command → Leads (IsNear w) (asked_in_pool pool command w p)
  asked_in_pool_near NodeCommand.ReadPool good = here
  asked_in_pool_near NodeCommand.ListNodes good = here
  asked_in_pool_near (NodeCommand.PutNode name offer) good = leads_unless (IsNear w) _ _ _ (λ _. leads_unless (IsNear w) _ _ _ (λ room.
      put (with_node name (with_offer offer (get p.nodes name)) p)
      (offered_good pool p good_pool name offer room (first_of_both _ _ good.0) (second_of_both _ _ good.0) good.1)))
  asked_in_pool_near (NodeCommand.DeleteNode name) good =
      leads_found (IsNear w) (get p.nodes name) _
      (λ node _. leads_unless (IsNear w) _ _ _ (λ _. put (record p { nodes = remove p.nodes name }) (removed_good pool p good_pool name)))
  asked_in_pool_near (NodeCommand.SetStatus name status) good =
      leads_found (IsNear w) (get p.nodes name) _
      (λ node at. by (with_node name (record node { status = status }) p) (same_node_good pool p good_pool name node (record node { status = status }) at refl)
      (is_ready status))
    where
      by : (p' : PoolRows) → IsGoodPool pool p' → (b : Bool) → IsNear w (cond b (put_pool pool p' w) (go_down pool name (put_pool pool p' w)))
      by p' g true = put p' g
      by p' g false = down_near w (put_pool pool p' w) (put p' g) pool name
  asked_in_pool_near (NodeCommand.SetEligible name eligible) good =
      leads_found (IsNear w) (get p.nodes name) _
      (λ node at. put (with_node name (record node { eligible = eligible }) p)
      (same_node_good pool p good_pool name node (record node { eligible = eligible }) at refl))
  asked_in_pool_near (NodeCommand.Report name r) good = report_near w here pool name r p

pub ask_pool_near : (w : World) → IsRecorded w → (pool : Name) (command : NodeCommand) → IsGoodNodeCommand command → Leads (IsNear w) (ask_pool pool command w)
unfolding ask_pool
ask_pool_near w s pool command good = leads_found (IsNear w) (get w.pools pool) (asked_in_pool pool command w)
    (λ p is. asked_in_pool_near w s pool p is command good)
