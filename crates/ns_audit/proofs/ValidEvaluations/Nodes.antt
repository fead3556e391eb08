-- What is asked of a pool keeps what is said of evaluations.
use Rattle.std.specs.Prelude.{◌≡◌, ℕ, Bool, true, false, cond, not, List, map, Option, Some, None, ◌&&◌, filter}
use Rattle.std.proofs.Common.{refl, sym, ap, subst, ◌∙◌}
use Rattle.std.specs.FinMap.{get, entries, from_entries, get-from_entries, insert}
use Rattle.std.specs.Option.{option_map_or, option_and_then}
use Rattle.ns_types.specs.declared.allocation.Allocation.{Allocation}
use Rattle.ns_types.specs.declared.evaluation.Trigger.TheVariants as Trigger
use Rattle.ns_types.specs.declared.refusal.Refusal.TheVariants as Refusal
use Rattle.ns_types.specs.declared.reply.Content.TheVariants as Content
use Rattle.ns_types.specs.declared.step.NodeCommand.{NodeCommand}
use Rattle.ns_types.specs.declared.step.Report.{Report}
use Rattle.ns_types.specs.State.Lists.{Each}
use Rattle.ns_types.specs.Settling.Making.{put_pool, with_node, change_tenant, with_client, evaluation_for, make}
use Rattle.ns_types.specs.State.Names.{Name, name_cmp, has_key}
use Rattle.ns_types.specs.Asking.Nodes.{losing_jobs, losses, lost, lose, go_down, may_become, same_client, calls_for_one, reported, is_on, report_of, report}
use Rattle.ns_types.specs.Asking.Nodes.{asked_in_pool, ask_pool}
use Rattle.ns_types.specs.Settling.Outcome.{Outcome, Done, unless}
use Rattle.ns_types.specs.State.Rows.{World, Tenant, PoolRows, is_ready, is_held, is_live_on, allocation_at}
use Rattle.ns_types.specs.State.Tables.{map_rows}
use Rattle.ns_types.specs.Validity.{IsSound}
use Rattle.ns_types.proofs.Named.{names, one_name, numbers as numbers_, one_number, first_of_both}
use Rattle.ns_types.proofs.Tables.{each_row}
use Rattle.ns_types.proofs.Tests.{not_Some, is_yes}
use Rattle.ns_types.proofs.Elements.{each_of, each_mapped, each_kept, each_flat, found_of}
use Rattle.ns_audit.proofs.Steady.Nodes.{held_before, run_before}
use Rattle.ns_types.proofs.Leads.{Leads, leads_unless, leads_found, leads_if}
use Rattle.ns_audit.proofs.ValidEvaluations.Asks.{cause_of}
use Rattle.ns_audit.proofs.ValidEvaluations.Filed.{IsFiledTenant, IsFiled, IsCause, change_filed, map_filed, put_pool_filed, make_filed, makes_filed}
use Rattle.ns_audit.proofs.ValidEvaluations.Settle.{index_in, pools_in, sound_filed}

module _ (w : World) (s : IsSound w) where
  abbrev Keeps : Outcome World → Type 0
  Keeps = Leads (IsFiled (pools_in w) (index_in w))

  filed : IsFiled (pools_in w) (index_in w) w
  filed = sound_filed w s

  -- ---- nodes that go down

  lose_filed : (pool node : Name) (x : World) → IsFiled (pools_in w) (index_in w) x → IsFiled (pools_in w) (index_in w) (lose pool node x)
  lose_filed pool node x f = map_filed (pools_in w) (index_in w) (λ _ t. record t { allocations = map_rows (λ _ a. lost pool node a) t.allocations }) x f
      (λ ns t is. f.tenant ns t is)

  losses_cause : (pool node : Name) → Each (λ (loss : Name × Allocation). IsCause (pools_in w) loss.1) (losses pool node w)
  losses_cause pool node = each_flat (λ (loss : Name × Allocation). IsCause (pools_in w) loss.1)
      (λ (t : Name × Tenant). map (λ a. (t.0, a)) (losing_jobs pool node t.1)) (entries w.tenants)
      (each_row names one_name (λ ns t. Each (λ (loss : Name × Allocation). IsCause (pools_in w) loss.1) (map (λ a. (ns, a)) (losing_jobs pool node t)))
      w.tenants
      (λ ns t is. each_mapped (λ (loss : Name × Allocation). IsCause (pools_in w) loss.1) (λ a. (ns, a)) (losing_jobs pool node t) (of_tenant ns t is)))
    where
      of_tenant : (ns : Name) (t : Tenant) → get w.tenants ns ≡ Some t → Each (λ (a : Allocation). IsCause (pools_in w) a) (losing_jobs pool node t)
      of_tenant ns t is = each_mapped (λ (a : Allocation). IsCause (pools_in w) a) (λ (e : Name × Allocation). e.1) _
          (each_row names one_name (λ k a. IsCause (pools_in w) a) (from_entries {R = name_cmp} jobs)
          (λ k a at. found_of name_cmp (λ (a : Allocation). IsCause (pools_in w) a) jobs k a each_job (sym (get-from_entries names jobs k) ∙ at)))
        where
          jobs : List (Name × Allocation)
          jobs = map (λ (a : ℕ × Allocation). (a.1.job, a.1)) (filter (λ a. is_live_on pool node a.1) (entries t.allocations))

          each_job : Each (λ (e : Name × Allocation). IsCause (pools_in w) e.1) jobs
          each_job = each_mapped (λ (e : Name × Allocation). IsCause (pools_in w) e.1) (λ (a : ℕ × Allocation). (a.1.job, a.1))
              (filter (λ a. is_live_on pool node a.1) (entries t.allocations))
              (each_of (λ (e : ℕ × Allocation). (get t.allocations e.0 ≡ Some e.1) × (is_live_on pool node e.1 ≡ true)) (λ e. IsCause (pools_in w) e.1)
              (λ e h. cause_of w s ns t is e.0 e.1 h.0 (first_of_both _ _ h.1))
              (filter (λ a. is_live_on pool node a.1) (entries t.allocations))
              (each_kept (λ (e : ℕ × Allocation). get t.allocations e.0 ≡ Some e.1) (λ e. is_live_on pool node e.1) (entries t.allocations)
              (each_row numbers_ one_number (λ n a. get t.allocations n ≡ Some a) t.allocations (λ n a at. at))))

  down_filed : (pool node : Name) (p : PoolRows) → IsFiled (pools_in w) (index_in w) (go_down pool node (put_pool pool p w))
  unfolding go_down
  down_filed pool node p = makes_filed (pools_in w) (index_in w) (λ (loss : Name × Allocation). loss.0) (λ loss. loss.1) Trigger.NodeUpdate (losses pool node w)
      (lose pool node (put_pool pool p w))
      (lose_filed pool node (put_pool pool p w) (put_pool_filed (pools_in w) (index_in w) pool p w filed)) (losses_cause pool node)

  -- ---- reports

  module _ (r : Report) where
    reported_filed : (t : Tenant) (a : Allocation) → get w.tenants r.namespace ≡ Some t → get t.allocations r.number ≡ Some a → is_held a.client ≡ true →
        IsFiled (pools_in w) (index_in w) (reported r a w)
    reported_filed t a is at held = by (calls_for_one t a r.client) refl (ap (λ o. option_map_or (λ t. calls_for_one t a r.client) o false) is)
      where
        x : World
        x = change_tenant r.namespace (with_client r.number r.client) w

        with_client_filed : (t : Tenant) → IsFiledTenant (pools_in w) (index_in w r.namespace) (λ n. has_key w.blocked (r.namespace, n)) t →
            IsFiledTenant (pools_in w) (index_in w r.namespace) (λ n. has_key w.blocked (r.namespace, n)) (with_client r.number r.client t)
        with_client_filed t f = elim (get t.allocations r.number) as
            (λ (o : Option Allocation). IsFiledTenant (pools_in w) (index_in w r.namespace) (λ n. has_key w.blocked (r.namespace, n))
            (option_map_or (λ a. record t { allocations = insert t.allocations r.number (record a { client = r.client }) }) o t)) [ None ↦ f | Some a ↦ f ]

        changed : IsFiled (pools_in w) (index_in w) x
        changed = change_filed (pools_in w) (index_in w) r.namespace (with_client r.number r.client) w filed with_client_filed

        by : (b : Bool) → calls_for_one t a r.client ≡ b →
            option_map_or (λ t. calls_for_one t a r.client) (get w.tenants r.namespace) false ≡ calls_for_one t a r.client →
            IsFiled (pools_in w) (index_in w) (reported r a w)
        by true calls e = subst (λ b. IsFiled (pools_in w) (index_in w) (cond b (make r.namespace (λ t. evaluation_for t a Trigger.AllocFailure) x) x))
            (sym (e ∙ calls))
            (make_filed (pools_in w) (index_in w) r.namespace a Trigger.AllocFailure x changed
            (cause_of w s r.namespace t is r.number a at (λ i. run_before t a r.client calls i && held i)))
        by false calls e = subst (λ b. IsFiled (pools_in w) (index_in w) (cond b (make r.namespace (λ t. evaluation_for t a Trigger.AllocFailure) x) x))
            (sym (e ∙ calls)) changed

    report_filed : (pool name : Name) (p : PoolRows) → Keeps (report pool name r w p)
    report_filed pool name p = leads_found _ (get p.nodes name) _
        (λ node _. leads_found _ (allocation_at w (r.namespace, r.number)) (λ x. unless (not (is_on pool name x)) Refusal.NotFound (report_of r w x)) (λ a at.
        leads_unless _ (not (is_on pool name a)) Refusal.NotFound (report_of r w a) (λ _.
        leads_if _ (same_client a.client r.client) (Done Content.Written w)
        (unless (not (may_become a.client r.client)) Refusal.Conflict (Done Content.Written (reported r a w))) (λ _. filed) (λ _.
        leads_unless _ (not (may_become a.client r.client)) Refusal.Conflict (Done Content.Written (reported r a w))
        (λ becomes. by a (get w.tenants r.namespace) refl at (held_before a.client r.client (is_yes _ becomes)))))))
      where
        by : (a : Allocation) (o : Option Tenant) → get w.tenants r.namespace ≡ o → option_and_then (λ t. get t.allocations r.number) o ≡ Some a →
            is_held a.client ≡ true → IsFiled (pools_in w) (index_in w) (reported r a w)
        by a None is at held = absurd (not_Some _ at)
        by a (Some t) is at held = reported_filed t a is at held

  -- ---- all that is asked of a pool

  asked_in_pool_filed : (pool : Name) (command : NodeCommand) (p : PoolRows) → Keeps (asked_in_pool pool command w p)
  asked_in_pool_filed pool NodeCommand.ReadPool p = filed
  asked_in_pool_filed pool NodeCommand.ListNodes p = filed
  asked_in_pool_filed pool (NodeCommand.PutNode name offer) p =
      leads_unless _ _ _ _ (λ _. leads_unless _ _ _ _ (λ _. put_pool_filed (pools_in w) (index_in w) pool _ w filed))
  asked_in_pool_filed pool (NodeCommand.DeleteNode name) p =
      leads_found _ (get p.nodes name) _ (λ node _. leads_unless _ _ _ _ (λ _. put_pool_filed (pools_in w) (index_in w) pool _ w filed))
  asked_in_pool_filed pool (NodeCommand.SetStatus name status) p =
      leads_found _ (get p.nodes name) _ (λ node _. by (with_node name (record node { status = status }) p) (is_ready status))
    where
      by : (p' : PoolRows) (b : Bool) → IsFiled (pools_in w) (index_in w) (cond b (put_pool pool p' w) (go_down pool name (put_pool pool p' w)))
      by p' true = put_pool_filed (pools_in w) (index_in w) pool p' w filed
      by p' false = down_filed pool name p'
  asked_in_pool_filed pool (NodeCommand.SetEligible name eligible) p =
      leads_found _ (get p.nodes name) _ (λ node _. put_pool_filed (pools_in w) (index_in w) pool _ w filed)
  asked_in_pool_filed pool (NodeCommand.Report name r) p = report_filed r pool name p

pub ask_pool_filed : (w : World) → IsSound w → (pool : Name) (command : NodeCommand) → Leads (IsFiled (pools_in w) (index_in w)) (ask_pool pool command w)
unfolding ask_pool
ask_pool_filed w s pool command = leads_found _ (get w.pools pool) (asked_in_pool pool command w) (λ p _. asked_in_pool_filed w s pool command p)
