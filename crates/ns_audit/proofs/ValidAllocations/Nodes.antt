-- What is asked of a pool and its nodes: allocations stay sound.
use Rattle.std.specs.Prelude.{◌≡◌, ℕ, ◌≤◌, Bool, true, false, cond, not, T, List, [], ◌∷◌, Option, Some, None, ◌&&◌, IsTrue, fold, nat_le}
use Rattle.std.proofs.Common.{refl, sym, ap, subst, ◌∙◌}
use Rattle.std.specs.FinMap.{get, get-insert, get-remove, contains_key, insert, len, remove}
use Rattle.std.specs.Option.{option_map_or, option_and_then}
use Rattle.ns_types.specs.declared.allocation.Allocation.{Allocation}
use Rattle.ns_types.specs.declared.allocation.ClientStatus.TheVariants as ClientStatus
use Rattle.ns_types.specs.declared.evaluation.Trigger.TheVariants as Trigger
use Rattle.ns_types.specs.declared.node.Node.{Node}
use Rattle.ns_types.specs.declared.node.NodeStatus.{NodeStatus}
use Rattle.ns_types.specs.declared.node.Offer.{Offer}
use Rattle.ns_types.specs.declared.refusal.Refusal.TheVariants as Refusal
use Rattle.ns_types.specs.declared.reply.Content.TheVariants as Content
use Rattle.ns_types.specs.declared.step.NodeCommand.{NodeCommand}
use Rattle.ns_types.specs.declared.step.Report.{Report}
use Rattle.ns_types.specs.Settling.Making.{put_tenant, put_pool, with_node, change_tenant, with_client, evaluation_for, make_in, make}
use Rattle.ns_types.specs.declared.evaluation.Evaluation.{Evaluation}
use Rattle.ns_types.specs.State.Names.{Name, same_name}
use Rattle.ns_types.specs.Asking.Nodes.{most_nodes, with_offer, put_node, losses, lost, lose, go_down, may_become, same_client, calls_for_one, reported, is_on}
use Rattle.ns_types.specs.Asking.Nodes.{report_of, report, asked_in_pool, ask_pool}
use Rattle.ns_types.specs.Settling.Outcome.{Done, unless}
use Rattle.ns_types.specs.State.Resources.{is_within}
use Rattle.ns_types.specs.State.Rows.{World, Tenant, PoolRows, is_ready, is_run, is_held, is_live, is_live_on, allocation_at, node_at}
use Rattle.ns_types.specs.State.Sums.{node_load}
use Rattle.ns_types.specs.State.Tables.{map_rows}
use Rattle.ns_types.proofs.Lists.{not_both}
use Rattle.ns_types.proofs.Named.{names, one_name, numbers as numbers_, one_number, same_name_is, same_name_refl, first_of_both}
use Rattle.ns_types.proofs.Tests.{not_Some, same_Some, is_yes}
use Rattle.ns_audit.proofs.ValidAllocations.Statement.{IsAllocated}
use Rattle.ns_audit.proofs.Steady.Keeping.{row_of_map}
use Rattle.ns_audit.proofs.Steady.Nodes.{held_before, none_lost}
use Rattle.ns_types.proofs.Leads.{Leads, leads_of, leads_unless, leads_found, leads_if}
use Rattle.ns_audit.proofs.ValidAllocations.Sound.{itself, le_same, allocation_row, LivesOn, StillThere, NodesStay, NodesHold, allocated_from}
use Rattle.ns_audit.proofs.ValidAllocations.Going.{onward_same, onward_change, onward_map, onward_then, GoesRow, Goes, goes_still, goes_then, goes_row}
use Rattle.ns_audit.proofs.ValidAllocations.Going.{goes_from, goes_lasts, same_index, Allocates, allocates_still}
use Rattle.ns_audit.proofs.ValidAllocations.Work.{Continues, continues_allocates, continues_same, continues_make_in}

-- ---- what goes is_yes goes is_yes again

pub continues_then : (w x y : World) → Continues w x → Continues x y → Continues w y
continues_then w x y a b = record {
  goes = onward_then Goes goes_still goes_then w x y a.goes b.goes;
  nodes = λ pool name. b.nodes pool name ∙
      a.nodes pool name;
}

pub continues_make : (ns : Name) (evaluation : Tenant → Evaluation) (w : World) → Continues w (make ns evaluation w)
continues_make ns evaluation w = by (get w.tenants ns) refl
  where
    by : (o : Option Tenant) → get w.tenants ns ≡ o → Continues w (option_map_or (λ t. make_in ns (evaluation t) w t) o w)
    by None is = continues_same w w refl refl
    by (Some t) is = continues_make_in w ns (evaluation t) t t is (goes_still t)

pub continues_each : {A : Type 0} (f : World → A → World) → ((w : World) (a : A) → Continues w (f w a)) → (list : List A) (w : World) →
    Continues w (fold f w list)
continues_each f h [] w = continues_same w w refl refl
continues_each f h (a ∷ list) w = continues_then w (f w a) (fold f (f w a) list) (h w a) (continues_each f h list (f w a))

pub continues_change : (w : World) (ns : Name) (f : Tenant → Tenant) → ((t : Tenant) → get w.tenants ns ≡ Some t → Goes t (f t)) →
    Continues w (change_tenant ns f w)
continues_change w ns f goes = record {
  goes = onward_change Goes goes_still w ns f goes;
  nodes =
      λ pool name. ap (λ m. option_and_then (λ (p : PoolRows). get p.nodes name) (get m pool)) same;
}
  where
    same : (change_tenant ns f w).pools ≡ w.pools
    same = elim (get w.tenants ns) as (λ (o : Option Tenant). (option_map_or (λ t. put_tenant ns (f t) w) o w).pools ≡ w.pools) [ Some t ↦ refl | None ↦ refl ]

-- ---- another row of a pool

pub node_in_put : (w : World) (pool : Name) (p : PoolRows) (q name : Name) →
    node_at (put_pool pool p w) q name ≡ cond (same_name q pool) (get p.nodes name) (node_at w q name)
node_in_put w pool p q name = ap (option_and_then (λ (p : PoolRows). get p.nodes name)) (get-insert names w.pools pool p q) ∙ by (same_name q pool)
  where
    by : (b : Bool) → option_and_then (λ (p : PoolRows). get p.nodes name) (cond b (Some p) (get w.pools q)) ≡ cond b (get p.nodes name) (node_at w q name)
    by true = refl
    by false = refl

lives_before : (w x : World) → x.tenants ≡ w.tenants → (pool name : Name) → LivesOn x pool name → LivesOn w pool name
lives_before w x same pool name l = record {
  namespace = l.namespace;
  tenant = l.tenant;
  number = l.number;
  row = l.row;
  is_tenant = sym (ap (λ m. get m l.namespace) same) ∙ l.is_tenant;
  is_row = l.is_row;
  live = l.live;
  in_pool = l.in_pool;
  on_node = l.on_node;
}

module _ (w : World) (s : IsAllocated w) (pool : Name) (p : PoolRows) (is : get w.pools pool ≡ Some p) (name : Name) where
  here : (q n : Name) → same_name q pool ≡ true → node_at w q n ≡ get p.nodes n
  here q n e = ap (λ k. node_at w k n) (same_name_is q pool e) ∙ ap (option_and_then (λ (p : PoolRows). get p.nodes n)) is

  -- ---- a node is put

  module _ (new : Node) where
    -- what is there afterwards
    pub put_here : (q n : Name) (b : Bool) → same_name q pool ≡ b → (c : Bool) → same_name n name ≡ c →
        node_at (put_pool pool (with_node name new p) w) q n ≡ cond (b && c) (Some new) (node_at w q n)
    put_here q n true e c f = node_in_put w pool (with_node name new p) q n ∙ ap (λ b. cond b (get (insert p.nodes name new) n) (node_at w q n)) e ∙
        get-insert names p.nodes name new n
        ∙ (λ i. cond (f i) (Some new) (sym (here q n e) i))
    put_here q n false e c f = node_in_put w pool (with_node name new p) q n ∙ ap (λ b. cond b (get (insert p.nodes name new) n) (node_at w q n)) e

    pub still_at : (q n : Name) (old : Node) → node_at w q n ≡ Some old → is_ready old.status ≡ true
        → (same_name q pool ≡ true → same_name n name ≡ true → (is_ready new.status ≡ true) × (old.places ≤ new.places)) →
        StillThere (put_pool pool (with_node name new p) w) q n old
    still_at q n old at old_ready k = by (same_name q pool) refl (same_name n name) refl
      where
        by : (b : Bool) → same_name q pool ≡ b → (c : Bool) → same_name n name ≡ c → StillThere (put_pool pool (with_node name new p) w) q n old
        by true e true f = record { row = new; is_row = put_here q n true e true f; ready = (k e f).0; places = (k e f).1 }
        by true e false f = record { row = old; is_row = put_here q n true e false f ∙ at; ready = old_ready; places = itself old.places }
        by false e c f = record { row = old; is_row = put_here q n false e c f ∙ at; ready = old_ready; places = itself old.places }

  -- which is ready where something is live is_yes it, and has room for what is there
  module _ (new : Node) (ready : LivesOn w pool name → (old : Node) → get p.nodes name ≡ Some old → is_ready old.status ≡ true → (is_ready new.status ≡ true) ×
      (old.places ≤ new.places))
      (room : IsTrue (is_within (node_load w pool name) new.offer.capacity)) where
    abbrev x : World
    x = put_pool pool (with_node name new p) w

    stays : NodesStay w x
    stays q n old lives at old_ready = still_at new q n old at old_ready (λ e f.
        ready (lives_before w x refl pool name (subst (λ q. LivesOn x q name) (same_name_is q pool e) (subst (LivesOn x q) (same_name_is n name f) lives))) old
        (ap (get p.nodes) (sym (same_name_is n name f)) ∙ sym (here q n e) ∙ at) old_ready)

    holds : NodesHold w x
    holds q n node at = by (same_name q pool) refl (same_name n name) refl
      where
        by : (b : Bool) → same_name q pool ≡ b → (c : Bool) → same_name n name ≡ c → IsTrue (is_within (node_load w q n) node.offer.capacity)
        by true e true f = (λ i. is_within (node_load w (same_name_is q pool e i) (same_name_is n name f i))
            (sym (same_Some new node (sym (put_here new q n true e true f) ∙ at)) i).offer.capacity) ∙ room
        by true e false f = s.within q n node (sym (put_here new q n true e false f) ∙ at)
        by false e c f = s.within q n node (sym (put_here new q n false e c f) ∙ at)

    pub node_allocated : IsAllocated (put_pool pool (with_node name new p) w)
    node_allocated = allocated_from w x s (goes_from w x s (onward_same Goes goes_still w x refl)) stays holds

    pub node_allocates : Allocates w (put_pool pool (with_node name new p) w)
    node_allocates = record { allocated = node_allocated; index = same_index w x (goes_lasts w x (onward_same Goes goes_still w x refl)) }

  put_allocates : (offer : Offer) → Leads (Allocates w) (put_node pool name offer w p)
  put_allocates offer = leads_unless (Allocates w) _ Refusal.InUse _
      (λ room. leads_unless (Allocates w) (not (contains_key p.nodes name) && nat_le most_nodes (len p.nodes)) Refusal.Full _ (λ _.
      by (get p.nodes name) refl (is_yes _ room)))
    where
      by : (o : Option Node) → get p.nodes name ≡ o → IsTrue (is_within (node_load w pool name) offer.capacity) →
          Allocates w (put_pool pool (with_node name (with_offer offer o) p) w)
      by None was room = node_allocates (with_offer offer None) (λ _ old at _. absurd (not_Some _ (sym was ∙ at))) room
      by (Some node) was room = node_allocates (record node { offer = offer }) (λ _ old at ready. let e = same_Some old node (sym at ∙ was) in
          (ap (λ (n : Node). is_ready n.status) (sym e) ∙ ready, le_same old.places node.places (ap (λ (n : Node). n.places) e))) room

  -- ---- a node that is down goes

  gone_allocates : (node : Node) → get p.nodes name ≡ Some node → is_ready node.status ≡ false →
      Allocates w (put_pool pool (record p { nodes = remove p.nodes name }) w)
  gone_allocates node there down = record {
    allocated =
        allocated_from w y s (goes_from w y s (onward_same Goes goes_still w y refl)) stays_without holds_without;
    index =
        same_index w y (goes_lasts w y (onward_same Goes goes_still w y refl));
  }
    where
      y : World
      y = put_pool pool (record p { nodes = remove p.nodes name }) w

      at_other : (q n : Name) (b : Bool) → same_name q pool ≡ b → (c : Bool) → same_name n name ≡ c → (b && c) ≡ false → node_at y q n ≡ node_at w q n
      at_other q n false e c f _ = node_in_put w pool (record p { nodes = remove p.nodes name }) q n ∙
          ap (λ b. cond b (get (remove p.nodes name) n) (node_at w q n)) e
      at_other q n true e false f _ = node_in_put w pool (record p { nodes = remove p.nodes name }) q n ∙
          ap (λ b. cond b (get (remove p.nodes name) n) (node_at w q n)) e ∙ get-remove names p.nodes name n ∙ ap (λ b. cond b None (get p.nodes n)) f ∙
          sym (here q n e)
      at_other q n true e true f both = absurd (subst T both tt)

      stays_without : NodesStay w y
      stays_without q n old lives at ready = by (same_name q pool) refl (same_name n name) refl
        where
          by : (b : Bool) → same_name q pool ≡ b → (c : Bool) → same_name n name ≡ c → StillThere y q n old
          by true e true f = not_both ready (ap (λ (n : Node). is_ready n.status)
              (same_Some old node (sym at ∙ here q n e ∙ ap (get p.nodes) (same_name_is n name f) ∙ there)) ∙ down)
          by true e false f = record { row = old; is_row = at_other q n true e false f refl ∙ at; ready = ready; places = itself old.places }
          by false e c f = record { row = old; is_row = at_other q n false e c f refl ∙ at; ready = ready; places = itself old.places }

      holds_without : NodesHold w y
      holds_without q n x at = by (same_name q pool) refl (same_name n name) refl
        where
          by : (b : Bool) → same_name q pool ≡ b → (c : Bool) → same_name n name ≡ c → IsTrue (is_within (node_load w q n) x.offer.capacity)
          by true e true f = absurd (not_Some _ (sym (node_in_put w pool (record p { nodes = remove p.nodes name }) q n ∙
              ap (λ b. cond b (get (remove p.nodes name) n) (node_at w q n)) e ∙ get-remove names p.nodes name n ∙ ap (λ b. cond b None (get p.nodes n)) f) ∙
              at))
          by true e false f = s.within q n x (sym (at_other q n true e false f refl) ∙ at)
          by false e c f = s.within q n x (sym (at_other q n false e c f refl) ∙ at)

-- ---- nodes that go down

module _ (pool name : Name) where
  lost_row : (rows : Tenant) (n : ℕ) (a : Allocation) → get rows.allocations n ≡ Some a → GoesRow rows.allocations n (lost pool name a)
  lost_row rows n a at = by (is_live_on pool name a)
    where
      by : (b : Bool) → GoesRow rows.allocations n (cond b (record a { client = ClientStatus.Lost }) a)
      by true = record { row = a; is_row = at; same = refl; live = λ live. not_both live (none_lost a) }
      by false = record { row = a; is_row = at; same = refl; live = λ live. live }

  lose_goes : (t : Tenant) → Goes t (record t { allocations = map_rows (λ _ a. lost pool name a) t.allocations })
  lose_goes t = record {
    lasts = record { namespace = refl; index = refl; evaluations = itself t.evaluation_number };
    number = itself t.allocation_number;
    row = λ n b at. let y = row_of_map numbers_ one_number (λ _ a. lost pool name a) t.allocations n b at in
        subst (GoesRow t.allocations n) y.2 (lost_row t n y.0 y.1);
  }

  lose_continues : (w : World) → Continues w (lose pool name w)
  lose_continues w = record {
    goes = onward_map Goes goes_still w (λ _ t. record t { allocations = map_rows (λ _ a. lost pool name a) t.allocations })
        (λ ns t. lose_goes t);
    nodes = λ q n. refl;
  }

  -- nothing is live there any more
  none_lives : (w : World) → LivesOn (lose pool name w) pool name → ⊥
  none_lives w l =
      let y = row_of_map names one_name (λ _ t. record t { allocations = map_rows (λ _ a. lost pool name a) t.allocations })
      w.tenants l.namespace l.tenant l.is_tenant in
      let z = row_of_map numbers_ one_number (λ _ a. lost pool name a) y.0.allocations l.number l.row (ap (λ (t : Tenant). get t.allocations l.number) y.2 ∙
      l.is_row) in
      by z.0 (is_live_on pool name z.0) refl (ap is_live z.2 ∙ l.live) (ap (λ (a : Allocation). a.pool) z.2 ∙ l.in_pool)
      (ap (λ (a : Allocation). a.node) z.2 ∙ l.on_node)
    where
      by : (a : Allocation) (b : Bool) → is_live_on pool name a ≡ b → is_live (cond b (record a { client = ClientStatus.Lost }) a) ≡ true →
          (cond b (record a { client = ClientStatus.Lost }) a).pool ≡ pool → (cond b (record a { client = ClientStatus.Lost }) a).node ≡ name → ⊥
      by a true is_yes live q n = not_both live (none_lost a)
      by a false off live q n = not_both (λ i. live i && ((ap (same_name pool) q ∙ same_name_refl pool) i && (ap (same_name name) n ∙ same_name_refl name) i))
          off

  down_allocates : (w : World) → IsAllocated w → (p : PoolRows) → get w.pools pool ≡ Some p → (node new : Node) → get p.nodes name ≡ Some node →
      new.offer ≡ node.offer → Allocates w (go_down pool name (put_pool pool (with_node name new p) w))
  unfolding go_down
  down_allocates w s p is node new there same = record {
    allocated = (continues_allocates y z s_y later).allocated;
    index = same_index w z (goes_lasts w z (onward_then Goes goes_still goes_then w y z (lose_continues w).goes later.goes));
  }
    where
      x : World
      x = lose pool name w

      y : World
      y = put_pool pool (with_node name new p) x

      z : World
      z = fold (λ x loss. make loss.0 (λ t. evaluation_for t loss.1 Trigger.NodeUpdate) x) y (losses pool name (put_pool pool (with_node name new p) w))

      s_x : IsAllocated x
      s_x = (continues_allocates w x s (lose_continues w)).allocated

      s_y : IsAllocated y
      s_y = node_allocated x s_x pool p is name new (λ lives old at ready. absurd (none_lives w lives))
          (subst (λ (o : Offer). IsTrue (is_within (node_load x pool name) o.capacity)) (sym same)
          (s_x.within pool name node (ap (option_and_then (λ (p : PoolRows). get p.nodes name)) is ∙ there)))

      later : Continues y z
      later = continues_each (λ x loss. make loss.0 (λ t. evaluation_for t loss.1 Trigger.NodeUpdate) x) (λ x loss. continues_make loss.0 _ x)
          (losses pool name (put_pool pool (with_node name new p) w)) y

-- ---- reports

module _ (w : World) (r : Report) where
  reported_goes : (t : Tenant) (a : Allocation) → get w.tenants r.namespace ≡ Some t → get t.allocations r.number ≡ Some a → is_held a.client ≡ true →
      Continues w (reported r a w)
  reported_goes t a is at held = by (option_map_or (λ t. calls_for_one t a r.client) (get w.tenants r.namespace) false)
    where
      x : World
      x = change_tenant r.namespace (with_client r.number r.client) w

      row : (u : Tenant) → get u.allocations r.number ≡ Some a → Goes u (with_client r.number r.client u)
      row u there = subst (λ o. Goes u (option_map_or (λ a. record u { allocations = insert u.allocations r.number (record a { client = r.client }) }) o u))
          (sym there)
          (goes_row u r.number a (record a { client = r.client }) there refl (λ live i. first_of_both (is_run a.desired) _ live i && held i))

      changed : Continues w x
      changed = continues_change w r.namespace (with_client r.number r.client)
          (λ u was. row u (ap (λ (t : Tenant). get t.allocations r.number) (same_Some u t (sym was ∙ is)) ∙ at))

      by : (b : Bool) → Continues w (cond b (make r.namespace (λ t. evaluation_for t a Trigger.AllocFailure) x) x)
      by true = continues_then w x (make r.namespace (λ t. evaluation_for t a Trigger.AllocFailure) x) changed
          (continues_make r.namespace (λ t. evaluation_for t a Trigger.AllocFailure) x)
      by false = changed

  report_goes : (pool name : Name) (p : PoolRows) → Leads (Continues w) (report pool name r w p)
  report_goes pool name p = leads_found (Continues w) (get p.nodes name) _
      (λ node _. leads_found (Continues w) (allocation_at w (r.namespace, r.number)) (λ x. unless (not (is_on pool name x)) Refusal.NotFound (report_of r w x))
      (λ a at.
      leads_unless (Continues w) (not (is_on pool name a)) Refusal.NotFound (report_of r w a) (λ _.
      leads_if (Continues w) (same_client a.client r.client) (Done Content.Written w)
      (unless (not (may_become a.client r.client)) Refusal.Conflict (Done Content.Written (reported r a w))) (λ _. continues_same w w refl refl) (λ _.
      leads_unless (Continues w) (not (may_become a.client r.client)) Refusal.Conflict (Done Content.Written (reported r a w)) (λ becomes.
      let row = allocation_row w (r.namespace, r.number) a at in reported_goes row.0 a row.1 row.2 (held_before a.client r.client (is_yes _ becomes)))))))

-- ---- all that is asked of a pool

module _ (w : World) (s : IsAllocated w) (pool : Name) (p : PoolRows) (is : get w.pools pool ≡ Some p) where
  row_within : (name : Name) (node : Node) → get p.nodes name ≡ Some node → IsTrue (is_within (node_load w pool name) node.offer.capacity)
  row_within name node there = s.within pool name node (ap (option_and_then (λ (p : PoolRows). get p.nodes name)) is ∙ there)

  status_allocates : (name : Name) (status : NodeStatus) (node : Node) → get p.nodes name ≡ Some node → (b : Bool) → is_ready status ≡ b
      → Allocates w (cond b (put_pool pool (with_node name (record node { status = status }) p) w)
      (go_down pool name (put_pool pool (with_node name (record node { status = status }) p) w)))
  status_allocates name status node there true up =
      node_allocates w s pool p is name (record node { status = status })
      (λ _ old at ready. (up, le_same old.places node.places (ap (λ (n : Node). n.places) (same_Some old node (sym at ∙ there))))) (row_within name node there)
  status_allocates name status node there false down = down_allocates pool name w s p is node (record node { status = status }) there refl

  asked_in_pool_allocates : (command : NodeCommand) → Leads (Allocates w) (asked_in_pool pool command w p)
  asked_in_pool_allocates NodeCommand.ReadPool = allocates_still w s
  asked_in_pool_allocates NodeCommand.ListNodes = allocates_still w s
  asked_in_pool_allocates (NodeCommand.PutNode name offer) = put_allocates w s pool p is name offer
  asked_in_pool_allocates (NodeCommand.DeleteNode name) =
      leads_found (Allocates w) (get p.nodes name) _
      (λ node there. leads_unless (Allocates w) (is_ready node.status) Refusal.InUse _ (λ down. gone_allocates w s pool p is name node there down))
  asked_in_pool_allocates (NodeCommand.SetStatus name status) =
      leads_found (Allocates w) (get p.nodes name) _ (λ node there. status_allocates name status node there (is_ready status) refl)
  asked_in_pool_allocates (NodeCommand.SetEligible name eligible) = leads_found (Allocates w) (get p.nodes name) _ (λ node there.
      node_allocates w s pool p is name (record node { eligible = eligible }) (λ _ old at ready. let e = same_Some old node (sym at ∙ there) in
      (ap (λ (n : Node). is_ready n.status) (sym e) ∙ ready, le_same old.places node.places (ap (λ (n : Node). n.places) e))) (row_within name node there))
  asked_in_pool_allocates (NodeCommand.Report name r) = leads_of (Continues w) (Allocates w) (λ x c. continues_allocates w x s c) (report pool name r w p)
      (report_goes w r pool name p)

pub ask_pool_allocates : (w : World) → IsAllocated w → (pool : Name) (command : NodeCommand) → Leads (Allocates w) (ask_pool pool command w)
unfolding ask_pool
ask_pool_allocates w s pool command = leads_found (Allocates w) (get w.pools pool) (asked_in_pool pool command w)
    (λ p is. asked_in_pool_allocates w s pool p is command)
