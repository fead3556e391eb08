-- What is asked of a pool keeps a world orderly.
use Rattle.std.specs.Prelude.{◌≡◌, ℕ, Bool, true, false, cond, not, T, List, [], ◌∷◌, map, Option, Some, None, ◌&&◌, filter, fold, option_map}
use Rattle.std.proofs.Common.{refl, sym, ap, subst, ◌∙◌}
use Rattle.std.proofs.Math.Bool.{and-false}
use Rattle.std.specs.FinMap.{get, entries, from_entries, get-from_entries, insert}
use Rattle.std.specs.Option.{option_map_or, option_and_then}
use Rattle.ns_types.specs.declared.allocation.Allocation.{Allocation}
use Rattle.ns_types.specs.declared.allocation.ClientStatus.{ClientStatus}
use Rattle.ns_types.specs.declared.evaluation.Trigger.{Trigger}
use Rattle.ns_types.specs.declared.records.Namespace.{Namespace}
use Rattle.ns_types.specs.declared.refusal.Refusal.TheVariants as Refusal
use Rattle.ns_types.specs.declared.reply.Content.TheVariants as Content
use Rattle.ns_types.specs.declared.step.NodeCommand.{NodeCommand}
use Rattle.ns_types.specs.declared.step.Report.{Report}
use Rattle.ns_types.specs.State.Lists.{Each}
use Rattle.ns_types.specs.Settling.Making.{put_tenant, put_pool, with_node, change_tenant, with_client, evaluation_for, make}
use Rattle.ns_types.specs.State.Names.{Name, name_cmp}
use Rattle.ns_types.specs.Asking.Nodes.{losing_jobs, losses, lost, lose, go_down, may_become, same_client, calls_for_one, reported, is_on, report_of, report}
use Rattle.ns_types.specs.Asking.Nodes.{asked_in_pool, ask_pool}
use Rattle.ns_types.specs.Settling.Outcome.{Done, unless}
use Rattle.ns_types.specs.State.Rows.{World, Tenant, PoolRows, is_ready, is_run, is_held, is_live, is_live_on, allocation_at}
use Rattle.ns_types.specs.Access.Sharing.{permits}
use Rattle.ns_types.specs.State.Tables.{map_rows}
use Rattle.ns_types.proofs.Lists.{not_both}
use Rattle.ns_types.proofs.Named.{names, one_name, numbers as numbers_, one_number, first_of_both}
use Rattle.ns_types.proofs.Tables.{each_row}
use Rattle.ns_types.proofs.Elements.{each_of, each_mapped, each_kept, each_flat, found_of}
use Rattle.ns_types.proofs.Tests.{is_yes, not_Some, same_Some}
use Rattle.ns_audit.specs.Orderly.{IsOrderlyTenant, IsOrderly}
use Rattle.ns_audit.proofs.Steady.Keeping.{row_of_map, keeps_rows, put_orderly}
use Rattle.ns_audit.proofs.Alone.Naming.{SameNamed, named_make, named_change, client_same}
use Rattle.ns_audit.proofs.Steady.Asks.{KeepsOrder, keeps_with_row, PermitsAt, make_orderly}
use Rattle.ns_types.proofs.Leads.{leads_unless, leads_found, leads_if}
use Rattle.ns_audit.proofs.Alone.Recording.{record_kept}
use Rattle.ns_audit.proofs.Steady.Resting.{same_orderly, map_orderly}

-- ---- several new evaluations

pub permits_still : (w x : World) → SameNamed w x → (ns pool : Name) → PermitsAt w ns pool → PermitsAt x ns pool
permits_still w x same ns pool allowed namespace is = allowed namespace (sym (same ns) ∙ is)

module _ {A : Type 0} (ns_of : A → Name) (row_of : A → Allocation) (trigger : Trigger) where
  pub makes_orderly : (xs : List A) (w : World) → IsOrderly w → Each (λ x. PermitsAt w (ns_of x) (row_of x).pool) xs →
      IsOrderly (fold (λ y x. make (ns_of x) (λ t. evaluation_for t (row_of x) trigger) y) w xs)
  makes_orderly [] w s each = s
  makes_orderly (x ∷ xs) w s each = makes_orderly xs (make (ns_of x) (λ t. evaluation_for t (row_of x) trigger) w)
      (make_orderly (ns_of x) (row_of x) trigger w s each.0)
      (still xs each.1)
    where
      still : (ys : List A) → Each (λ y. PermitsAt w (ns_of y) (row_of y).pool) ys →
          Each (λ y. PermitsAt (make (ns_of x) (λ t. evaluation_for t (row_of x) trigger) w) (ns_of y) (row_of y).pool) ys
      still [] h = tt
      still (y ∷ ys) h = (
        permits_still w (make (ns_of x) (λ t. evaluation_for t (row_of x) trigger) w)
            (named_make (ns_of x) (λ t. evaluation_for t (row_of x) trigger) w) (ns_of y) (row_of y).pool h.0,
        still ys h.1,
      )

-- ---- nodes that go down

pub none_lost : (a : Allocation) → is_live (record a { client = ClientStatus.Lost }) ≡ false
none_lost a = and-false (is_run a.desired)

lose_orderly : (pool node : Name) (w : World) → IsOrderly w → IsOrderly (lose pool node w)
lose_orderly pool node w s = map_orderly w (λ _ t. record t { allocations = map_rows (λ _ a. lost pool node a) t.allocations }) s (λ ns t is.
    keeps_rows ns _ _ t t.jobs (map_rows (λ _ a. lost pool node a) t.allocations) t.allocation_number (s.tenant ns t is) (s.tenant ns t is).job
    (λ n a at. let y = row_of_map numbers_ one_number (λ _ a. lost pool node a) t.allocations n a at in
    subst (λ a. is_live a ≡ true → permits t.namespace a.pool ≡ true) y.2 (was t.namespace y.0 ((s.tenant ns t is).allocation n y.0 y.1))))
  where
    was : (namespace : Namespace) (a : Allocation) → (is_live a ≡ true → permits namespace a.pool ≡ true) → is_live (lost pool node a) ≡ true →
        permits namespace (lost pool node a).pool ≡ true
    was namespace a h = elim (is_live_on pool node a) as (λ b. is_live (cond b (record a { client = ClientStatus.Lost }) a) ≡ true →
        permits namespace (cond b (record a { client = ClientStatus.Lost }) a).pool ≡ true) [
          | true ↦ λ live. not_both live (none_lost a)
          | false ↦ h
        ]

down_orderly : (pool node : Name) (w : World) → IsOrderly w → IsOrderly (go_down pool node w)
unfolding go_down
down_orderly pool node w s = makes_orderly (λ (loss : Name × Allocation). loss.0) (λ loss. loss.1) Trigger.NodeUpdate (losses pool node w) (lose pool node w)
    (lose_orderly pool node w s)
    (each_of (λ (loss : Name × Allocation). PermitsAt w loss.0 loss.1.pool) (λ loss. PermitsAt (lose pool node w) loss.0 loss.1.pool)
    (λ loss. permits_still w (lose pool node w) (λ k. record_kept (λ _ t. record t { allocations = map_rows (λ _ a. lost pool node a) t.allocations })
    (λ (t : Tenant). t.namespace) (λ ns t. refl) w.tenants k) loss.0 loss.1.pool)
    (losses pool node w) all_permitted)
  where
    of_tenant : (ns : Name) (t : Tenant) → get w.tenants ns ≡ Some t → Each (λ (a : Allocation). PermitsAt w ns a.pool) (losing_jobs pool node t)
    of_tenant ns t is = each_mapped (λ (a : Allocation). PermitsAt w ns a.pool) (λ (e : Name × Allocation). e.1) _
        (each_row names one_name (λ k a. PermitsAt w ns a.pool) (from_entries {R = name_cmp} jobs)
        (λ k a at. found_of name_cmp (λ (a : Allocation). PermitsAt w ns a.pool) jobs k a each_job (sym (get-from_entries names jobs k) ∙ at)))
      where
        jobs : List (Name × Allocation)
        jobs = map (λ (a : ℕ × Allocation). (a.1.job, a.1)) (filter (λ a. is_live_on pool node a.1) (entries t.allocations))

        each_job : Each (λ (e : Name × Allocation). PermitsAt w ns e.1.pool) jobs
        each_job = each_mapped (λ (e : Name × Allocation). PermitsAt w ns e.1.pool) (λ (a : ℕ × Allocation). (a.1.job, a.1))
            (filter (λ a. is_live_on pool node a.1) (entries t.allocations))
            (each_of (λ (e : ℕ × Allocation). (get t.allocations e.0 ≡ Some e.1) × (is_live_on pool node e.1 ≡ true)) (λ e. PermitsAt w ns e.1.pool)
            (λ e h namespace named. subst (λ n. permits n e.1.pool ≡ true) (same_Some _ _ (sym (ap (option_map (λ (t : Tenant). t.namespace)) is) ∙ named))
            ((s.tenant ns t is).allocation e.0 e.1 h.0 (first_of_both _ _ h.1)))
            (filter (λ a. is_live_on pool node a.1) (entries t.allocations))
            (each_kept (λ (e : ℕ × Allocation). get t.allocations e.0 ≡ Some e.1) (λ e. is_live_on pool node e.1) (entries t.allocations)
            (each_row numbers_ one_number (λ n a. get t.allocations n ≡ Some a) t.allocations (λ n a at. at))))

    all_permitted : Each (λ (loss : Name × Allocation). PermitsAt w loss.0 loss.1.pool) (losses pool node w)
    all_permitted = each_flat (λ (loss : Name × Allocation). PermitsAt w loss.0 loss.1.pool)
        (λ (t : Name × Tenant). map (λ a. (t.0, a)) (losing_jobs pool node t.1)) (entries w.tenants)
        (each_row names one_name (λ ns t. Each (λ (loss : Name × Allocation). PermitsAt w loss.0 loss.1.pool) (map (λ a. (ns, a)) (losing_jobs pool node t)))
        w.tenants
        (λ ns t is. each_mapped (λ (loss : Name × Allocation). PermitsAt w loss.0 loss.1.pool) (λ a. (ns, a)) (losing_jobs pool node t) (of_tenant ns t is)))

-- ---- reports

pub held_before : (a b : ClientStatus) → may_become a b ≡ true → is_held a ≡ true
held_before ClientStatus.Pending b e = refl
held_before ClientStatus.Running b e = refl
held_before ClientStatus.Complete b e = absurd (subst T (sym e) tt)
held_before ClientStatus.Failed b e = absurd (subst T (sym e) tt)
held_before ClientStatus.Lost b e = absurd (subst T (sym e) tt)

pub run_before : (t : Tenant) (a : Allocation) (c : ClientStatus) → calls_for_one t a c ≡ true → is_run a.desired ≡ true
run_before t a ClientStatus.Pending e = absurd (subst T (sym e) tt)
run_before t a ClientStatus.Running e = absurd (subst T (sym e) tt)
run_before t a ClientStatus.Complete e = first_of_both (is_run a.desired) _ e
run_before t a ClientStatus.Failed e = e
run_before t a ClientStatus.Lost e = absurd (subst T (sym e) tt)

module _ (w : World) (s : IsOrderly w) (r : Report) where
  reported_orderly : (t : Tenant) (a : Allocation) → get w.tenants r.namespace ≡ Some t → get t.allocations r.number ≡ Some a → is_held a.client ≡ true →
      IsOrderly (reported r a w)
  reported_orderly t a is at held = by (calls_for_one t a r.client) refl (ap (λ o. option_map_or (λ t. calls_for_one t a r.client) o false) is)
    where
      its : IsOrderlyTenant r.namespace t
      its = s.tenant r.namespace t is

      x : World
      x = change_tenant r.namespace (with_client r.number r.client) w

      x_is : x ≡ put_tenant r.namespace (record t { allocations = insert t.allocations r.number (record a { client = r.client }) }) w
      x_is = ap (λ o. option_map_or (λ t. put_tenant r.namespace (with_client r.number r.client t) w) o w) is
          ∙ ap (λ o. put_tenant r.namespace (option_map_or (λ a. record t { allocations = insert t.allocations r.number (record a { client = r.client }) }) o t)
          w) at

      changed : IsOrderly x
      changed = subst IsOrderly (sym x_is) (put_orderly w r.namespace t
          (record t { allocations = insert t.allocations r.number (record a { client = r.client }) }) is s
          (keeps_with_row r.namespace _ _ t its r.number (record a { client = r.client })
          (λ live. its.allocation r.number a at (λ i. first_of_both (is_run a.desired) _ live i && held i))))

      allowed : is_run a.desired ≡ true → PermitsAt x r.namespace a.pool
      allowed run = permits_still w x (named_change r.namespace (with_client r.number r.client) (client_same r.number r.client) w) r.namespace a.pool
          (λ namespace named.
          subst (λ n. permits n a.pool ≡ true) (same_Some _ _ (sym (ap (option_map (λ (t : Tenant). t.namespace)) is) ∙ named))
          (its.allocation r.number a at (λ i. run i && held i)))

      by : (b : Bool) → calls_for_one t a r.client ≡ b →
          option_map_or (λ t. calls_for_one t a r.client) (get w.tenants r.namespace) false ≡ calls_for_one t a r.client → IsOrderly (reported r a w)
      by true calls e = subst (λ b. IsOrderly (cond b (make r.namespace (λ t. evaluation_for t a Trigger.AllocFailure) x) x)) (sym (e ∙ calls))
          (make_orderly r.namespace a Trigger.AllocFailure x changed (allowed (run_before t a r.client calls)))
      by false calls e = subst (λ b. IsOrderly (cond b (make r.namespace (λ t. evaluation_for t a Trigger.AllocFailure) x) x)) (sym (e ∙ calls)) changed

  report_orderly : (pool name : Name) (p : PoolRows) → KeepsOrder (report pool name r w p)
  report_orderly pool name p = leads_found IsOrderly (get p.nodes name) _
      (λ node _. leads_found IsOrderly (allocation_at w (r.namespace, r.number)) (λ x. unless (not (is_on pool name x)) Refusal.NotFound (report_of r w x))
      (λ a at.
      leads_unless IsOrderly (not (is_on pool name a)) Refusal.NotFound (report_of r w a) (λ _.
      leads_if IsOrderly (same_client a.client r.client) (Done Content.Written w)
      (unless (not (may_become a.client r.client)) Refusal.Conflict (Done Content.Written (reported r a w))) (λ _. s) (λ _.
      leads_unless IsOrderly (not (may_become a.client r.client)) Refusal.Conflict (Done Content.Written (reported r a w))
      (λ becomes. by a (get w.tenants r.namespace) refl at (held_before a.client r.client (is_yes _ becomes)))))))
    where
      by : (a : Allocation) (o : Option Tenant) → get w.tenants r.namespace ≡ o → option_and_then (λ t. get t.allocations r.number) o ≡ Some a →
          is_held a.client ≡ true → IsOrderly (reported r a w)
      by a None is at held = absurd (not_Some _ at)
      by a (Some t) is at held = reported_orderly t a is at held

-- ---- all that is asked of a pool

put_pool_orderly : (pool : Name) (p : PoolRows) (w : World) → IsOrderly w → IsOrderly (put_pool pool p w)
put_pool_orderly pool p w s = same_orderly w (put_pool pool p w) refl (λ key has. has) (λ key has. has) s

asked_in_pool_orderly : (w : World) → IsOrderly w → (pool : Name) (command : NodeCommand) (p : PoolRows) → KeepsOrder (asked_in_pool pool command w p)
asked_in_pool_orderly w s pool NodeCommand.ReadPool p = s
asked_in_pool_orderly w s pool NodeCommand.ListNodes p = s
asked_in_pool_orderly w s pool (NodeCommand.PutNode name offer) p =
    leads_unless IsOrderly _ _ _ (λ _. leads_unless IsOrderly _ _ _ (λ _. put_pool_orderly pool _ w s))
asked_in_pool_orderly w s pool (NodeCommand.DeleteNode name) p =
    leads_found IsOrderly (get p.nodes name) _ (λ node _. leads_unless IsOrderly _ _ _ (λ _. put_pool_orderly pool _ w s))
asked_in_pool_orderly w s pool (NodeCommand.SetStatus name status) p =
    leads_found IsOrderly (get p.nodes name) _ (λ node _. by (with_node name (record node { status = status }) p) (is_ready status))
  where
    by : (p' : PoolRows) (b : Bool) → IsOrderly (cond b (put_pool pool p' w) (go_down pool name (put_pool pool p' w)))
    by p' true = put_pool_orderly pool p' w s
    by p' false = down_orderly pool name (put_pool pool p' w) (put_pool_orderly pool p' w s)
asked_in_pool_orderly w s pool (NodeCommand.SetEligible name eligible) p = leads_found IsOrderly (get p.nodes name) _ (λ node _. put_pool_orderly pool _ w s)
asked_in_pool_orderly w s pool (NodeCommand.Report name r) p = report_orderly w s r pool name p

pub ask_pool_orderly : (w : World) → IsOrderly w → (pool : Name) (command : NodeCommand) → KeepsOrder (ask_pool pool command w)
unfolding ask_pool
ask_pool_orderly w s pool command = leads_found IsOrderly (get w.pools pool) (asked_in_pool pool command w) (λ p _. asked_in_pool_orderly w s pool command p)
