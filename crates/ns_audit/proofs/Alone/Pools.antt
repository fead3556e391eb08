-- What is asked of a pool goes along with a choice of owners.
use Rattle.std.specs.Prelude.{◌≡◌, ℕ, Bool, true, false, cond, not, T, List, [], ◌∷◌, ◌++◌, map, Option, Some, None, ◌&&◌, filter, fold, flat_map, nat_le}
use Rattle.std.proofs.Common.{inl, inr, refl, sym, ap, subst, ◌∙◌}
use Rattle.std.proofs.lemmas.Bool.{not-false}
use Rattle.std.specs.Option.{option_map_or, option_and_then}
use Rattle.std.specs.FinMap.{get, entries, retain_keys, remove, contains_key, len, empty, len-empty, len-entries, from_entries}
use Rattle.ns_types.specs.declared.allocation.Allocation.{Allocation}
use Rattle.ns_types.specs.declared.allocation.ClientStatus.{ClientStatus}
use Rattle.ns_types.specs.declared.evaluation.Trigger.TheVariants as Trigger
use Rattle.ns_types.specs.declared.node.NodeStatus.{NodeStatus}
use Rattle.ns_types.specs.declared.node.Offer.{Offer}
use Rattle.ns_types.specs.declared.refusal.Refusal.TheVariants as Refusal
use Rattle.ns_types.specs.declared.reply.Content.TheVariants as Content
use Rattle.ns_types.specs.declared.step.NodeCommand.{NodeCommand}
use Rattle.ns_types.specs.declared.step.Report.{Report}
use Rattle.ns_types.specs.Isolation.{Part, alone_in}
use Rattle.ns_types.specs.State.Lists.{Each}
use Rattle.ns_types.specs.Settling.Making.{put_pool, with_node, change_tenant, with_client, evaluation_for, make}
use Rattle.ns_types.specs.State.Names.{Name, name_cmp}
use Rattle.ns_types.specs.Asking.Nodes.{most_nodes, with_offer, put_node, delete_node, losing_jobs, losses, lost, go_down, set_status, set_eligible, may_become}
use Rattle.ns_types.specs.Asking.Nodes.{same_client, calls_for_one, reported, is_on, report_of, report, asked_in_pool, ask_pool}
use Rattle.ns_types.specs.State.Resources.{is_within}
use Rattle.ns_types.specs.State.Rows.{World, Tenant, PoolRows, is_ready, is_held, is_live_on, allocation_at}
use Rattle.ns_types.specs.State.Tables.{map_rows}
use Rattle.ns_types.proofs.TableRows.{no_entries}
use Rattle.ns_types.proofs.Lists.{cond_same, not_both, filter_none, filter_flat_map, each, fold_chosen}
use Rattle.ns_types.proofs.Named.{names, one_name, numbers, one_number, same_name_is, first_of_both}
use Rattle.ns_types.proofs.Tables.{retain-map_rows, map_rows_idle, each_row, entries-retain, chosen}
use Rattle.ns_types.proofs.Tests.{not_Some}
use Rattle.ns_audit.specs.Apart.{IsApart, IsAtHome}
use Rattle.ns_audit.proofs.Alone.Asking.{goes_make}
use Rattle.ns_audit.proofs.Alone.Chosen.{tenant_alone, pool_alone, allocation_alone, GoesAlone, goes_then, goes_if, goes_pool, goes_change}
use Rattle.ns_audit.proofs.Alone.Going.{Goes, goes_done, goes_by, goes_read, goes_unless, goes_found, goes_either}
use Rattle.ns_audit.proofs.Alone.Sides.{ReportsOn, AsksPoolOn}
use Rattle.ns_audit.proofs.Alone.Summing.{StandsApart, on_none, node_load_alone}

filter_map_keys : {A B : Type 0} (q : B → Bool) (f : A → B) (xs : List A) → ((x : A) → q (f x) ≡ true) → filter q (map f xs) ≡ map f xs
filter_map_keys q f [] h = refl
filter_map_keys q f (x ∷ xs) h = λ i. cond (h x i) (f x ∷ filter_map_keys q f xs h i) (filter_map_keys q f xs h i)

filter_map_none : {A B : Type 0} (q : B → Bool) (f : A → B) (xs : List A) → ((x : A) → q (f x) ≡ false) → filter q (map f xs) ≡ []
filter_map_none q f [] h = refl
filter_map_none q f (x ∷ xs) h = ap (λ b. cond b (f x ∷ filter q (map f xs)) (filter q (map f xs))) (h x) ∙ filter_map_none q f xs h

flat_map_none : {A B : Type 0} (f : A → List B) (xs : List A) → Each (λ x. f x ≡ []) xs → flat_map f xs ≡ []
flat_map_none f [] h = refl
flat_map_none f (x ∷ xs) h = λ i. h.0 i ++ flat_map_none f xs h.1 i

-- ---- nodes that go down

-- each namespace loses its own allocations
go_down_alone : (part : Part) (pool name : Name) (w : World) → alone_in part (go_down pool name w) ≡ go_down pool name (alone_in part w)
unfolding go_down
go_down_alone part pool name w = fold_chosen (alone_in part) made (λ loss. part.spaces loss.0)
    (λ x loss. goes_make part (part.spaces loss.0) loss.0 refl (λ t. evaluation_for t loss.1 Trigger.NodeUpdate) x) _ _
    ∙ (λ i. fold made (record (alone_in part w) { tenants = rows i }) (losses_alone i))
  where
    made : World → Name × Allocation → World
    made x loss = make loss.0 (λ t. evaluation_for t loss.1 Trigger.NodeUpdate) x

    without : Tenant → Tenant
    without t = record t { allocations = map_rows (λ _ a. lost pool name a) t.allocations }

    rows : retain_keys (map_rows (λ _ t. without t) w.tenants) part.spaces ≡ map_rows (λ _ t. without t) (alone_in part w).tenants
    rows = retain-map_rows names one_name _ _ w.tenants part.spaces (λ ns t own is. refl)

    of_one : Name × Tenant → List (Name × Allocation)
    of_one t = map (λ a. (t.0, a)) (losing_jobs pool name t.1)

    losses_alone : filter (λ loss. part.spaces loss.0) (losses pool name w) ≡ losses pool name (alone_in part w)
    losses_alone = filter_flat_map (λ e. part.spaces e.0) (λ loss. part.spaces loss.0) of_one (entries w.tenants)
        (each _ (λ e. (
          (λ own. filter_map_keys (λ loss. part.spaces loss.0) (λ a. (e.0, a)) (losing_jobs pool name e.1) (λ a. own)),
          (λ other. filter_map_none (λ loss. part.spaces loss.0) (λ a. (e.0, a)) (losing_jobs pool name e.1) (λ a. other)),
        )) (entries w.tenants))
        ∙ ap (flat_map of_one) (sym (entries-retain names one_name w.tenants part.spaces))

-- and on a foreign pool the chosen namespaces have none
nothing_lost : (part : Part) (pool name : Name) (w : World) → StandsApart part w → part.pools pool ≡ false →
    go_down pool name (alone_in part w) ≡ alone_in part w
unfolding go_down
nothing_lost part pool name w apart other = λ i. fold made (record (alone_in part w) { tenants = rows i }) (no_losses i)
  where
    made : World → Name × Allocation → World
    made x loss = make loss.0 (λ t. evaluation_for t loss.1 Trigger.NodeUpdate) x

    none_live : (ns : Name) (t : Tenant) → get (alone_in part w).tenants ns ≡ Some t → (n : ℕ) (a : Allocation) → get t.allocations n ≡ Some a →
        is_live_on pool name a ≡ false
    none_live ns t is n a at =
        let mine = chosen names one_name w.tenants part.spaces ns t is in
        on_none (record { spaces = λ ns. not (part.spaces ns); pools = λ p. not (part.pools p); quotas = part.quotas }) w
        (λ ns t n a is at live. ap not (apart ns t n a is at live)) pool name ns t n a (ap not other) mine.0 (ap not mine.1) at

    no_losing : (ns : Name) (t : Tenant) → get (alone_in part w).tenants ns ≡ Some t → losing_jobs pool name t ≡ []
    no_losing ns t is = ap (λ xs. map (λ e. e.1) (entries (from_entries {R = name_cmp} (map (λ a. (a.1.job, a.1)) xs))))
        (filter_none _ (entries t.allocations) (each_row numbers one_number (λ n a. is_live_on pool name a ≡ false) t.allocations (none_live ns t is)))
        ∙ ap (map (λ e. e.1)) (no_entries (entries (empty {X = Allocation} {R = name_cmp})) (sym (len-entries empty) ∙ len-empty name_cmp Allocation))

    rows : map_rows (λ _ t. record t { allocations = map_rows (λ _ a. lost pool name a) t.allocations }) (alone_in part w).tenants ≡ (alone_in part w).tenants
    rows = map_rows_idle names one_name _ (alone_in part w).tenants
        (λ ns t is i. record t {
          allocations = map_rows_idle numbers one_number _ t.allocations
              (λ n a at. ap (λ b. cond b (record a { client = ClientStatus.Lost }) a) (none_live ns t is n a at)) i;
        })

    no_losses : losses pool name (alone_in part w) ≡ []
    no_losses = flat_map_none _ (entries (alone_in part w).tenants)
        (each_row names one_name (λ ns t. map (λ a. (ns, a)) (losing_jobs pool name t) ≡ []) (alone_in part w).tenants
        (λ ns t is. ap (map (λ a. (ns, a))) (no_losing ns t is)))

-- ---- commands of a pool

module _ (part : Part) (b : Bool) (pool : Name) (side : part.pools pool ≡ b) (w : World) (apart : IsApart part w) where
  down_goes : (name : Name) (p : PoolRows) → alone_in part (go_down pool name (put_pool pool p w)) ≡ cond b
      (go_down pool name (put_pool pool p (alone_in part w))) (alone_in part w)
  down_goes name p = go_down_alone part pool name (put_pool pool p w) ∙ ap (go_down pool name) (goes_pool part b pool p side w) ∙ by b refl
    where
      by : (s : Bool) → b ≡ s → go_down pool name (cond s (put_pool pool p (alone_in part w)) (alone_in part w)) ≡ cond s
          (go_down pool name (put_pool pool p (alone_in part w))) (alone_in part w)
      by true _ = refl
      by false other = nothing_lost part pool name w apart.allocation (side ∙ other)

  list_goes : (p : PoolRows) → Goes part w b (asked_in_pool pool NodeCommand.ListNodes w p) (asked_in_pool pool NodeCommand.ListNodes (alone_in part w) p)
  list_goes p = goes_done part w b _ _ w (alone_in part w)
      (λ own i. Content.Nodes (map (λ n. record { pool = pool; name = n.0; row = n.1; used = node_load_alone part w apart.allocation pool n.0 (side ∙ own) i })
      (entries p.nodes)))
      (sym (cond_same b (alone_in part w)))

  put_goes : (name : Name) (offer : Offer) (p : PoolRows) → Goes part w b (put_node pool name offer w p) (put_node pool name offer (alone_in part w) p)
  put_goes name offer p = goes_unless part w b _ _ Refusal.InUse _ _
      (λ own. ap (λ load. not (is_within load offer.capacity)) (node_load_alone part w apart.allocation pool name (side ∙ own))) (λ _.
      goes_unless part w b (not (contains_key p.nodes name) && nat_le most_nodes (len p.nodes)) _ Refusal.Full _ _ (λ _. refl) (λ _.
      goes_by part w b Content.Written (put_pool pool (with_node name (with_offer offer (get p.nodes name)) p)) (goes_pool part b pool _ side)))

  delete_goes : (name : Name) (p : PoolRows) → Goes part w b (delete_node pool name w p) (delete_node pool name (alone_in part w) p)
  delete_goes name p = goes_found part w b (get p.nodes name) _ _ _ (λ _. refl) (λ node _.
      goes_unless part w b (is_ready node.status) _ Refusal.InUse _ _ (λ _. refl) (λ _.
      goes_by part w b Content.Written (put_pool pool (record p { nodes = remove p.nodes name })) (goes_pool part b pool _ side)))

  status_goes : (name : Name) (status : NodeStatus) (p : PoolRows) →
      Goes part w b (set_status pool name status w p) (set_status pool name status (alone_in part w) p)
  status_goes name status p = goes_found part w b (get p.nodes name) _ _ _ (λ _. refl) (λ node _.
      goes_done part w b Content.Written Content.Written _ _ (λ _. refl) (by (with_node name (record node { status = status }) p) (is_ready status)))
    where
      by : (p' : PoolRows) (r : Bool) → alone_in part (cond r (put_pool pool p' w) (go_down pool name (put_pool pool p' w)))
          ≡ cond b (cond r (put_pool pool p' (alone_in part w)) (go_down pool name (put_pool pool p' (alone_in part w)))) (alone_in part w)
      by p' true = goes_pool part b pool p' side w
      by p' false = down_goes name p'

  eligible_goes : (name : Name) (eligible : Bool) (p : PoolRows) →
      Goes part w b (set_eligible pool name eligible w p) (set_eligible pool name eligible (alone_in part w) p)
  eligible_goes name eligible p = goes_found part w b (get p.nodes name) _ _ _ (λ _. refl) (λ node _.
      goes_by part w b Content.Written (put_pool pool (with_node name (record node { eligible = eligible }) p)) (goes_pool part b pool _ side))

-- ---- reports

ended_stays : (a b : ClientStatus) → is_held a ≡ false → may_become a b ≡ false
ended_stays ClientStatus.Pending b e = absurd (subst T e tt)
ended_stays ClientStatus.Running b e = absurd (subst T e tt)
ended_stays ClientStatus.Complete b e = refl
ended_stays ClientStatus.Failed b e = refl
ended_stays ClientStatus.Lost b e = refl

module _ (part : Part) (w : World) (r : Report) where
  reported_goes : (b : Bool) → part.spaces r.namespace ≡ b → (a : Allocation) → GoesAlone part b (reported r a)
  reported_goes b side a = goes_if part b (λ x. option_map_or (λ t. calls_for_one t a r.client) (get x.tenants r.namespace) false)
      (λ x. make r.namespace (λ t. evaluation_for t a Trigger.AllocFailure) (changed x)) changed
      (λ x own. ap (λ t. option_map_or (λ t. calls_for_one t a r.client) t false) (sym (tenant_alone part x r.namespace (side ∙ own))))
      (goes_then part b changed (make r.namespace (λ t. evaluation_for t a Trigger.AllocFailure)) goes_changed (goes_make part b r.namespace side _))
      goes_changed
    where
      changed : World → World
      changed x = change_tenant r.namespace (with_client r.number r.client) x

      goes_changed : GoesAlone part b changed
      goes_changed = goes_change part b r.namespace side (with_client r.number r.client)

  reporting_goes : (b : Bool) → part.spaces r.namespace ≡ b → (a : Allocation) → Goes part w b (report_of r w a) (report_of r (alone_in part w) a)
  reporting_goes b side a = goes_either part w b (same_client a.client r.client) _ _ _ _ _ (λ _. refl) (λ _. goes_read part w b Content.Written) (λ _.
      goes_unless part w b (not (may_become a.client r.client)) _ Refusal.Conflict _ _ (λ _. refl)
      (λ _. goes_by part w b Content.Written (reported r a) (reported_goes b side a)))

  -- of a foreign pool: what is still held there is not of the chosen
  foreign_report : (b : Bool) → b ≡ false → (pool name : Name) (a : Allocation) → part.pools pool ≡ false →
      (is_held a.client ≡ true → part.pools a.pool ≡ true) → is_on pool name a ≡ true → Goes part w b (report_of r w a) (report_of r (alone_in part w) a)
  foreign_report b is pool name a other home on =
      goes_either part w b (same_client a.client r.client) _ _ _ _ _ (λ _. refl) (λ _. goes_read part w b Content.Written) (λ _.
      goes_unless part w b (not (may_become a.client r.client)) _ Refusal.Conflict _ _ (λ _. refl) (λ becomes.
      not_both (sym becomes ∙ ap not (ended_stays a.client r.client (ended (is_held a.client) refl))) refl))
    where
      ended : (h : Bool) → is_held a.client ≡ h → h ≡ false
      ended true held = not_both (ap part.pools (same_name_is pool a.pool (first_of_both _ _ on)) ∙ home held) other
      ended false held = refl

  report_goes : (b : Bool) (pool name : Name) (p : PoolRows) → ReportsOn part w b pool r →
      Goes part w b (report pool name r w p) (report pool name r (alone_in part w) p)
  report_goes b pool name p on = goes_found part w b (get p.nodes name) _ _ _ (λ _. refl) (λ node _.
      goes_found part w b (allocation_at w (r.namespace, r.number)) _ _ _ (λ own. alike b own on) (λ a at.
      goes_unless part w b (not (is_on pool name a)) _ Refusal.NotFound _ _ (λ _. refl) (λ there. by b on a at (not-false _ there))))
    where
      alike : (c : Bool) → c ≡ true → ReportsOn part w c pool r →
          allocation_at (alone_in part w) (r.namespace, r.number) ≡ allocation_at w (r.namespace, r.number)
      alike true own on = allocation_alone part w (r.namespace, r.number) on.1
      alike false own on = not_both own refl

      row : IsAtHome part w → part.spaces r.namespace ≡ true → (a : Allocation) → (t : Option Tenant) → get w.tenants r.namespace ≡ t →
          option_and_then (λ t. get t.allocations r.number) t ≡ Some a → is_held a.client ≡ true → part.pools a.pool ≡ true
      row home mine a None is at held = absurd (not_Some _ at)
      row home mine a (Some t) is at held = home r.namespace t r.number a is at held mine

      foreign : (c : Bool) → part.spaces r.namespace ≡ c → (part.pools pool ≡ false) × IsAtHome part w → (a : Allocation) →
          allocation_at w (r.namespace, r.number) ≡ Some a → is_on pool name a ≡ true → Goes part w false (report_of r w a) (report_of r (alone_in part w) a)
      foreign false side h a at there = reporting_goes false side a
      foreign true mine h a at there = foreign_report false refl pool name a h.0 (row h.1 mine a (get w.tenants r.namespace) refl at) there

      by : (c : Bool) → ReportsOn part w c pool r → (a : Allocation) → allocation_at w (r.namespace, r.number) ≡ Some a → is_on pool name a ≡ true →
          Goes part w c (report_of r w a) (report_of r (alone_in part w) a)
      by true on a at there = reporting_goes true on.1 a
      by false (inl other) a at there = reporting_goes false other a
      by false (inr h) a at there = foreign (part.spaces r.namespace) refl h a at there

-- ---- all that is asked of a pool

pub ask_pool_goes : (part : Part) (w : World) → IsApart part w → (b : Bool) (pool : Name) (command : NodeCommand) → AsksPoolOn part w b pool command →
    Goes part w b (ask_pool pool command w) (ask_pool pool command (alone_in part w))
unfolding ask_pool
ask_pool_goes part w apart b pool NodeCommand.ReadPool on = goes_found part w b (get w.pools pool) _ _ _ (λ own. pool_alone part w pool (on ∙ own))
    (λ p _. goes_read part w b _)
ask_pool_goes part w apart b pool NodeCommand.ListNodes on = goes_found part w b (get w.pools pool) _ _ _ (λ own. pool_alone part w pool (on ∙ own))
    (λ p _. list_goes part b pool on w apart p)
ask_pool_goes part w apart b pool (NodeCommand.PutNode name offer) on = goes_found part w b (get w.pools pool) _ _ _ (λ own. pool_alone part w pool (on ∙ own))
    (λ p _. put_goes part b pool on w apart name offer p)
ask_pool_goes part w apart b pool (NodeCommand.DeleteNode name) on = goes_found part w b (get w.pools pool) _ _ _ (λ own. pool_alone part w pool (on ∙ own))
    (λ p _. delete_goes part b pool on w apart name p)
ask_pool_goes part w apart b pool (NodeCommand.SetStatus name status) on =
    goes_found part w b (get w.pools pool) _ _ _ (λ own. pool_alone part w pool (on ∙ own)) (λ p _. status_goes part b pool on w apart name status p)
ask_pool_goes part w apart b pool (NodeCommand.SetEligible name eligible) on =
    goes_found part w b (get w.pools pool) _ _ _ (λ own. pool_alone part w pool (on ∙ own)) (λ p _. eligible_goes part b pool on w apart name eligible p)
ask_pool_goes part w apart b pool (NodeCommand.Report name r) on =
    goes_found part w b (get w.pools pool) _ _ _ (λ own. there b own on) (λ p _. report_goes part w r b pool name p on)
  where
    there : (c : Bool) → c ≡ true → ReportsOn part w c pool r → get (alone_in part w).pools pool ≡ get w.pools pool
    there true own on = pool_alone part w pool on.0
    there false own on = not_both own refl
