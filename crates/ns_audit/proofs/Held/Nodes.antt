-- What is asked of a pool, a node that goes down and a report bring no allocation to a client.
use Rattle.std.specs.Prelude.{◌≡◌, Bool, true, false, cond, not, T, Some}
use Rattle.std.proofs.Common.{refl, sym, ap, subst, ◌∙◌}
use Rattle.std.specs.FinMap.{get, insert}
use Rattle.std.specs.Option.{option_map_or}
use Rattle.ns_types.specs.declared.allocation.Allocation.{Allocation}
use Rattle.ns_types.specs.declared.allocation.ClientStatus.TheVariants as ClientStatus
use Rattle.ns_types.specs.declared.evaluation.Trigger.TheVariants as Trigger
use Rattle.ns_types.specs.declared.refusal.Refusal.TheVariants as Refusal
use Rattle.ns_types.specs.declared.reply.Content.TheVariants as Content
use Rattle.ns_types.specs.declared.step.NodeCommand.{NodeCommand}
use Rattle.ns_types.specs.declared.step.Report.{Report}
use Rattle.ns_types.specs.Asking.Nodes.{losses, lost, lose, go_down, may_become, same_client, calls_for_one, reported, is_on, report_of, report}
use Rattle.ns_types.specs.Asking.Nodes.{asked_in_pool, ask_pool}
use Rattle.ns_types.specs.Settling.Making.{put_pool, with_node, change_tenant, with_client, evaluation_for, make}
use Rattle.ns_types.specs.Settling.Outcome.{Done, unless}
use Rattle.ns_types.specs.State.Names.{Name}
use Rattle.ns_types.specs.State.Rows.{World, Tenant, PoolRows, is_ready, is_held, is_live_on, allocation_at}
use Rattle.ns_types.specs.State.Tables.{map_rows}
use Rattle.ns_types.proofs.Leads.{Leads, leads_unless, leads_found, leads_if}
use Rattle.ns_types.proofs.Named.{numbers, one_number}
use Rattle.ns_types.proofs.Tests.{same_Some, is_yes}
use Rattle.ns_audit.proofs.Steady.Keeping.{row_of_map}
use Rattle.ns_audit.proofs.Steady.Nodes.{held_before}
use Rattle.ns_audit.proofs.ValidAllocations.Going.{Onward, onward_same, onward_change, onward_map, onward_then, onward_each}
use Rattle.ns_audit.proofs.ValidAllocations.Sound.{allocation_row}
use Rattle.ns_audit.proofs.Held.Rows.{EndsRow, Ends, ends_quiet, ends_still, ends_then, ends_row, onward_make}

-- ---- nodes that go down

module _ (pool node : Name) where
  lost_ends : (t : Tenant) → Ends t (record t { allocations = map_rows (λ _ a. lost pool node a) t.allocations })
  lost_ends t n b at =
      let y = row_of_map numbers one_number (λ _ a. lost pool node a) t.allocations n b at in
      subst (EndsRow t.allocations n) y.2 (row y.0 y.1 (is_live_on pool node y.0))
    where
      row : (a : Allocation) → get t.allocations n ≡ Some a → (b : Bool) → EndsRow t.allocations n (cond b (record a { client = ClientStatus.Lost }) a)
      row a is true = record { row = a; is_row = is; pool = refl; held = λ held. absurd (subst T (sym held) tt) }
      row a is false = record { row = a; is_row = is; pool = refl; held = λ held. held }

  down_ends : (w : World) → Onward Ends w (go_down pool node w)
  unfolding go_down
  down_ends w = onward_then Ends ends_still ends_then w (lose pool node w) (go_down pool node w)
      (onward_map Ends ends_still w (λ _ t. record t { allocations = map_rows (λ _ a. lost pool node a) t.allocations }) (λ ns t. lost_ends t))
      (onward_each Ends ends_still ends_then (λ x loss. make loss.0 (λ t. evaluation_for t loss.1 Trigger.NodeUpdate) x)
      (λ x loss. onward_make Ends ends_quiet loss.0 (λ t. evaluation_for t loss.1 Trigger.NodeUpdate) x) (losses pool node w) (lose pool node w))

-- ---- reports

module _ (w : World) (r : Report) where
  reported_ends : (t : Tenant) (a : Allocation) → get w.tenants r.namespace ≡ Some t → get t.allocations r.number ≡ Some a → is_held a.client ≡ true →
      Onward Ends w (reported r a w)
  reported_ends t a is at held = by (option_map_or (λ t. calls_for_one t a r.client) (get w.tenants r.namespace) false)
    where
      x : World
      x = change_tenant r.namespace (with_client r.number r.client) w

      row : (u : Tenant) → get u.allocations r.number ≡ Some a → Ends u (with_client r.number r.client u)
      row u there = subst (λ o. Ends u (option_map_or (λ a. record u { allocations = insert u.allocations r.number (record a { client = r.client }) }) o u))
          (sym there) (ends_row u r.number a (record a { client = r.client }) there refl (λ _. held))

      changed : Onward Ends w x
      changed = onward_change Ends ends_still w r.namespace (with_client r.number r.client)
          (λ u was. row u (ap (λ (t : Tenant). get t.allocations r.number) (same_Some u t (sym was ∙ is)) ∙ at))

      by : (b : Bool) → Onward Ends w (cond b (make r.namespace (λ t. evaluation_for t a Trigger.AllocFailure) x) x)
      by true = onward_then Ends ends_still ends_then w x (make r.namespace (λ t. evaluation_for t a Trigger.AllocFailure) x) changed
          (onward_make Ends ends_quiet r.namespace (λ t. evaluation_for t a Trigger.AllocFailure) x)
      by false = changed

  report_ends : (pool name : Name) (p : PoolRows) → Leads (Onward Ends w) (report pool name r w p)
  report_ends pool name p = leads_found (Onward Ends w) (get p.nodes name) _
      (λ node _. leads_found (Onward Ends w) (allocation_at w (r.namespace, r.number))
      (λ x. unless (not (is_on pool name x)) Refusal.NotFound (report_of r w x))
      (λ a at.
      leads_unless (Onward Ends w) (not (is_on pool name a)) Refusal.NotFound (report_of r w a) (λ _.
      leads_if (Onward Ends w) (same_client a.client r.client) (Done Content.Written w)
      (unless (not (may_become a.client r.client)) Refusal.Conflict (Done Content.Written (reported r a w)))
      (λ _. onward_same Ends ends_still w w refl) (λ _.
      leads_unless (Onward Ends w) (not (may_become a.client r.client)) Refusal.Conflict (Done Content.Written (reported r a w)) (λ becomes.
      let row = allocation_row w (r.namespace, r.number) a at in reported_ends row.0 a row.1 row.2 (held_before a.client r.client (is_yes _ becomes)))))))

-- ---- all that is asked of a pool

module _ (w : World) (pool : Name) where
  -- another row of a pool leaves namespaces
  still : Onward Ends w w
  still = onward_same Ends ends_still w w refl

  asked_in_pool_ends : (command : NodeCommand) (p : PoolRows) → Leads (Onward Ends w) (asked_in_pool pool command w p)
  asked_in_pool_ends NodeCommand.ReadPool p = still
  asked_in_pool_ends NodeCommand.ListNodes p = still
  asked_in_pool_ends (NodeCommand.PutNode name offer) p =
      leads_unless (Onward Ends w) _ _ _ (λ _. leads_unless (Onward Ends w) _ _ _ (λ _. still))
  asked_in_pool_ends (NodeCommand.DeleteNode name) p =
      leads_found (Onward Ends w) (get p.nodes name) _ (λ node _. leads_unless (Onward Ends w) _ _ _ (λ _. still))
  asked_in_pool_ends (NodeCommand.SetStatus name status) p =
      leads_found (Onward Ends w) (get p.nodes name) _ (λ node _. by (with_node name (record node { status = status }) p) (is_ready status))
    where
      by : (p' : PoolRows) (b : Bool) → Onward Ends w (cond b (put_pool pool p' w) (go_down pool name (put_pool pool p' w)))
      by p' true = still
      by p' false = onward_then Ends ends_still ends_then w (put_pool pool p' w) (go_down pool name (put_pool pool p' w)) still
          (down_ends pool name (put_pool pool p' w))
  asked_in_pool_ends (NodeCommand.SetEligible name eligible) p = leads_found (Onward Ends w) (get p.nodes name) _ (λ node _. still)
  asked_in_pool_ends (NodeCommand.Report name r) p = report_ends w r pool name p

pub ask_pool_ends : (w : World) (pool : Name) (command : NodeCommand) → Leads (Onward Ends w) (ask_pool pool command w)
unfolding ask_pool
ask_pool_ends w pool command = leads_found (Onward Ends w) (get w.pools pool) (asked_in_pool pool command w) (λ p _. asked_in_pool_ends w pool command p)
