-- Each step, by what it may make of an allocation.
use Rattle.std.specs.Prelude.{◌≡◌, ℕ, Bool, true, false, cond, not, List, [], ◌∷◌, Option, Some, None, Ok, Err, fold, option_map}
use Rattle.std.proofs.Common.{refl, sym, ap, subst, ◌∙◌}
use Rattle.std.specs.FinMap.{get, insert, remove, get-empty, get-remove}
use Rattle.std.specs.Option.{option_map_or}
use Rattle.std.specs.Ordering.{nat_cmp}
use Rattle.ns_types.specs.declared.allocation.Allocation.{Allocation}
use Rattle.ns_types.specs.declared.allocation.ClientStatus.TheVariants as ClientStatus
use Rattle.ns_types.specs.declared.allocation.DesiredStatus.TheVariants as DesiredStatus
use Rattle.ns_types.specs.declared.evaluation.Evaluation.{Evaluation}
use Rattle.ns_types.specs.declared.evaluation.Trigger.TheVariants as Trigger
use Rattle.ns_types.specs.declared.node.NodeStatus.TheVariants as NodeStatus
use Rattle.ns_types.specs.declared.records.Namespace.{Namespace}
use Rattle.ns_types.specs.declared.refusal.Refusal.TheVariants as Refusal
use Rattle.ns_types.specs.declared.reply.Content.TheVariants as Content
use Rattle.ns_types.specs.declared.step.AdminCommand.{AdminCommand}
use Rattle.ns_types.specs.declared.step.AskCommand.{AskCommand}
use Rattle.ns_types.specs.declared.step.NodeCommand.{NodeCommand}
use Rattle.ns_types.specs.declared.step.Report.{Report}
use Rattle.ns_types.specs.declared.step.Step.{Step}
use Rattle.ns_types.specs.Asking.Admins.{has_live, new_tenant, with_namespace}
use Rattle.ns_types.specs.Asking.Asks.{asked_in, ask, deregistered}
use Rattle.ns_types.specs.Asking.Nodes.{losses, lost, lose, go_down, may_become, same_client, calls_for_one, reported, is_on, report_of, report}
use Rattle.ns_types.specs.Asking.Nodes.{asked_in_pool, ask_pool}
use Rattle.ns_types.specs.Asking.Policies.{with_world, administer}
use Rattle.ns_types.specs.Settling.Making.{put_pool, put_tenant, with_node, change_tenant, with_desired}
use Rattle.ns_types.specs.Settling.Making.{with_client, with_evaluation, evaluation_for, make_in, make, with_job}
use Rattle.ns_types.specs.Settling.Outcome.{Outcome, NotEnabled, Refused, Done, unless, lift}
use Rattle.ns_types.specs.Settling.Settle.{settle}
use Rattle.ns_types.specs.State.Names.{Name, Key, ByNumber, same_name, same_number}
use Rattle.ns_types.specs.State.Rows.{State, World, Tenant, PoolRows, is_live, is_live_on, allocation_at}
use Rattle.ns_types.specs.State.Tables.{map_rows}
use Rattle.ns_types.specs.Steps.{Answer, said, act, after, is_allowed, concluded, reply_of, is_past_bound}
use Rattle.ns_types.specs.Validity.{IsSound}
use Rattle.ns_types.proofs.Gone.{stopped_row}
use Rattle.ns_types.proofs.Leads.{Leads, leads_of, leads_unless, leads_found, leads_if, leads_lift}
use Rattle.ns_types.proofs.Named.{names, one_name, numbers, one_number, same_name_is, first_of_both, second_of_both}
use Rattle.ns_types.proofs.TableRows.{get_put, get_other}
use Rattle.ns_types.proofs.Tables.{get-map_rows, none_of_any, tied}
use Rattle.ns_types.proofs.Tests.{not_Some, same_Some, is_yes}
use Rattle.ns_audit.proofs.Held.Work.{deregistered_leaves}
use Rattle.ns_audit.proofs.ValidAllocations.Sound.{allocation_row}
use Rattle.ns_laws.specs.Ending.{IsReportOf}
use Rattle.ns_laws.proofs.CommandLemmas.{job_of, leads_administered, leads_asked}
use Rattle.ns_laws.proofs.Endings.Apply.{apply_moves}
use Rattle.ns_laws.proofs.Endings.Change.{Change, rests, asks, loses, reports, deletes, Moves, moves_same, moves_then, settled_at, settled_same, Turn}
use Rattle.ns_laws.proofs.Endings.Rows.{row_at, moves_put, Same, same_still, same_tenants, same_then, same_put, same_make, made_in_tenants}
use Rattle.ns_laws.proofs.Endings.Rows.{same_make_in, dequeue_same, snap_same, submit_same, finish_same, nack_same}

-- one row of a namespace has another in its place
row_moves : (P : Key → Option Allocation → Option Allocation → Type 0) → ((key : Key) (o : Option Allocation) → P key o o) →
    (ns : Name) (rows : ByNumber Allocation) (n : ℕ) (a b : Allocation) → get rows n ≡ Some a → P (ns, n) (Some a) (Some b) →
    (m : ℕ) → P (ns, m) (get rows m) (get (insert rows n b) m)
row_moves P still ns rows n a b at moves m = by (same_number m n) refl
  where
    by : (c : Bool) → same_number m n ≡ c → P (ns, m) (get rows m) (get (insert rows n b) m)
    by true e = subst (λ (k : ℕ). P (ns, k) (get rows k) (get (insert rows n b) k)) (sym (tied one_number m n e))
        (subst (λ (q : Option Allocation × Option Allocation). P (ns, n) q.0 q.1)
        (λ i. (sym at i, sym (get_put numbers one_number rows n b) i)) moves)
    by false e = subst (P (ns, m) (get rows m)) (sym (get_other numbers one_number rows n b m e)) (still (ns, m) (get rows m))

-- ---- requests in a namespace

module _ (w : World) (ns : Name) (secret : Option Name) (t : Tenant) (is : get w.tenants ns ≡ Some t) where
  still : (command : AskCommand) → Moves w (Step.Ask ns secret command) w
  still command = moves_same w (Step.Ask ns secret command) w (same_still w)

  -- a request that makes an evaluation and leaves the allocations as they are moves none
  makes : (command : AskCommand) (e : Evaluation) (u : Tenant) → u.allocations ≡ t.allocations → Moves w (Step.Ask ns secret command) (make_in ns e w u)
  makes command e u same = moves_same w (Step.Ask ns secret command) (make_in ns e w u) (same_make_in w ns e t u is same)

  module _ (n : ℕ) (a : Allocation) (at : get t.allocations n ≡ Some a) (live : is_live a ≡ true) where
    abbrev step : Step
    step = Step.Ask ns secret (AskCommand.StopAllocation n)

    abbrev t' : Tenant
    t' = record t { allocations = insert t.allocations n (stopped_row a) }

    stopped_is : with_desired n DesiredStatus.Stop t ≡ t'
    stopped_is = ap (λ o. option_map_or (λ a. record t { allocations = insert t.allocations n (record a { desired = DesiredStatus.Stop }) }) o t) at

    stopped_moves : (e : Evaluation) → Moves w step (make_in ns e w t')
    stopped_moves e = moves_then w step (put_tenant ns (with_evaluation e t') w) (make_in ns e w t')
        (moves_put (Change w step) (λ key o. rests refl) w ns t (with_evaluation e t') is
        (row_moves (Change w step) (λ key o. rests refl) ns t.allocations n a (stopped_row a) at (asks a refl live refl (secret, refl))))
        (same_tenants (put_tenant ns (with_evaluation e t') w) (make_in ns e w t') (made_in_tenants w ns e t'))

  asked_moves : (command : AskCommand) → Leads (Moves w (Step.Ask ns secret command)) (asked_in ns command w t)
  asked_moves = leads_asked w ns t (λ command. Moves w (Step.Ask ns secret command)) still
      (λ r. makes (AskCommand.Register r) _ (with_job r.id (job_of t r) t) refl)
      (λ id purge job _. makes (AskCommand.Deregister id purge) _ (deregistered purge id job t) (deregistered_leaves purge id job t))
      (λ n a at live. subst (λ u. Moves w (Step.Ask ns secret (AskCommand.StopAllocation n)) (make_in ns (evaluation_for t a Trigger.AllocStop) w u))
      (sym (stopped_is n a at live)) (stopped_moves n a at live (evaluation_for t a Trigger.AllocStop)))

ask_moves : (w : World) (ns : Name) (secret : Option Name) (command : AskCommand) → Leads (Moves w (Step.Ask ns secret command)) (ask ns command w)
unfolding ask
ask_moves w ns secret command = leads_found (Moves w (Step.Ask ns secret command)) (get w.tenants ns) (asked_in ns command w)
    (λ t is. asked_moves w ns secret t is command)

-- ---- a node goes down

pub lost_at : (pool node : Name) (w : World) (key : Key) → allocation_at (lose pool node w) key ≡ option_map (lost pool node) (allocation_at w key)
lost_at pool node w key =
    ap (row_at key.1) (get-map_rows names one_name (λ _ t. record t { allocations = map_rows (λ _ a. lost pool node a) t.allocations }) w.tenants key.0)
    ∙ by (get w.tenants key.0)
  where
    by : (o : Option Tenant) → row_at key.1 (option_map (λ (t : Tenant). record t { allocations = map_rows (λ _ a. lost pool node a) t.allocations }) o)
        ≡ option_map (lost pool node) (row_at key.1 o)
    by None = refl
    by (Some t) = get-map_rows numbers one_number (λ _ a. lost pool node a) t.allocations key.1

pub losses_same : (ls : List (Name × Allocation)) (x : World) → Same x (fold (λ x loss. make loss.0 (λ t. evaluation_for t loss.1 Trigger.NodeUpdate) x) x ls)
losses_same [] x = same_still x
losses_same (l ∷ ls) x = same_then x y (fold (λ x loss. make loss.0 (λ t. evaluation_for t loss.1 Trigger.NodeUpdate) x) y ls)
    (same_make l.0 (λ t. evaluation_for t l.1 Trigger.NodeUpdate) x) (losses_same ls y)
  where
    y : World
    y = make l.0 (λ t. evaluation_for t l.1 Trigger.NodeUpdate) x

module _ (w : World) (pool : Name) (secret : Option Name) where
  module _ (node : Name) where
    abbrev downs : Step
    downs = Step.Node pool secret (NodeCommand.SetStatus node NodeStatus.Down)

    lost_change : (key : Key) (o : Option Allocation) → Change w downs key o (option_map (lost pool node) o)
    lost_change key None = rests refl
    lost_change key (Some a) = by (is_live_on pool node a) refl
      where
        by : (b : Bool) → is_live_on pool node a ≡ b → Change w downs key (Some a) (Some (cond b (record a { client = ClientStatus.Lost }) a))
        by true on =
            let there = second_of_both (is_live a) _ on in
            loses a refl (first_of_both (is_live a) _ on) refl (
              secret,
              (λ i. Step.Node (same_name_is pool a.pool (first_of_both (same_name pool a.pool) _ there) i) secret
                  (NodeCommand.SetStatus (same_name_is node a.node (second_of_both (same_name pool a.pool) _ there) i) NodeStatus.Down)),
            )
        by false on = rests refl

    down_moves : (x : World) → x.tenants ≡ w.tenants → Moves w downs (go_down pool node x)
    unfolding go_down
    down_moves x same = moves_then w downs (lose pool node x) (go_down pool node x)
        (λ key. subst (Change w downs key (allocation_at w key))
        (sym (lost_at pool node x key ∙ ap (option_map (lost pool node)) (same_tenants w x same key))) (lost_change key (allocation_at w key)))
        (losses_same (losses pool node x) (lose pool node x))

  -- ---- reports

  module _ (name : Name) (r : Report) where
    abbrev tells : Step
    tells = Step.Node pool secret (NodeCommand.Report name r)

    module _ (t : Tenant) (a : Allocation) (is : get w.tenants r.namespace ≡ Some t) (at : get t.allocations r.number ≡ Some a)
        (on : is_on pool name a ≡ true) (becomes : may_become a.client r.client ≡ true) where
      abbrev u : Tenant
      u = record t { allocations = insert t.allocations r.number (record a { client = r.client }) }

      is_report : IsReportOf tells (r.namespace, r.number) a r.client
      is_report = (
        secret,
        (λ i. Step.Node (same_name_is pool a.pool (first_of_both (same_name pool a.pool) _ on) i) secret
            (NodeCommand.Report (same_name_is name a.node (second_of_both (same_name pool a.pool) _ on) i) r)),
      )

      changed_is : change_tenant r.namespace (with_client r.number r.client) w ≡ put_tenant r.namespace u w
      changed_is = ap (λ o. option_map_or (λ t. put_tenant r.namespace (with_client r.number r.client t) w) o w) is
          ∙ ap (λ o. put_tenant r.namespace (option_map_or (λ a. record t {
            allocations =
                insert t.allocations r.number (record a { client = r.client });
          }) o t) w) at

      put_moves : Moves w tells (put_tenant r.namespace u w)
      put_moves = moves_put (Change w tells) (λ key o. rests refl) w r.namespace t u is
          (row_moves (Change w tells) (λ key o. rests refl) r.namespace t.allocations r.number a (record a { client = r.client }) at
          (reports a r.client refl becomes refl is_report))

      reported_moves : Moves w tells (reported r a w)
      reported_moves = by (option_map_or (λ t. calls_for_one t a r.client) (get w.tenants r.namespace) false)
        where
          x : World
          x = change_tenant r.namespace (with_client r.number r.client) w

          changed : Moves w tells x
          changed = subst (Moves w tells) (sym changed_is) put_moves

          by : (b : Bool) → Moves w tells (cond b (make r.namespace (λ t. evaluation_for t a Trigger.AllocFailure) x) x)
          by true = moves_then w tells x (make r.namespace (λ t. evaluation_for t a Trigger.AllocFailure) x) changed
              (same_make r.namespace (λ t. evaluation_for t a Trigger.AllocFailure) x)
          by false = changed

    report_moves : (p : PoolRows) → Leads (Moves w tells) (report pool name r w p)
    report_moves p = leads_found (Moves w tells) (get p.nodes name) _
        (λ node _. leads_found (Moves w tells) (allocation_at w (r.namespace, r.number))
        (λ x. unless (not (is_on pool name x)) Refusal.NotFound (report_of r w x))
        (λ a at.
        leads_unless (Moves w tells) (not (is_on pool name a)) Refusal.NotFound (report_of r w a) (λ on.
        leads_if (Moves w tells) (same_client a.client r.client) (Done Content.Written w)
        (unless (not (may_become a.client r.client)) Refusal.Conflict (Done Content.Written (reported r a w)))
        (λ _. moves_same w tells w (same_still w)) (λ _.
        leads_unless (Moves w tells) (not (may_become a.client r.client)) Refusal.Conflict (Done Content.Written (reported r a w)) (λ becomes.
        let row = allocation_row w (r.namespace, r.number) a at in
        reported_moves row.0 a row.1 row.2 (is_yes _ on) (is_yes _ becomes))))))

  -- ---- all that is asked of a pool

  still_there : (command : NodeCommand) → Moves w (Step.Node pool secret command) w
  still_there command = moves_same w (Step.Node pool secret command) w (same_still w)

  asked_in_pool_moves : (command : NodeCommand) (p : PoolRows) → Leads (Moves w (Step.Node pool secret command)) (asked_in_pool pool command w p)
  asked_in_pool_moves NodeCommand.ReadPool p = still_there _
  asked_in_pool_moves NodeCommand.ListNodes p = still_there _
  asked_in_pool_moves (NodeCommand.PutNode name offer) p =
      leads_unless (Moves w (Step.Node pool secret (NodeCommand.PutNode name offer))) _ _ _
      (λ _. leads_unless (Moves w (Step.Node pool secret (NodeCommand.PutNode name offer))) _ _ _ (λ _. still_there (NodeCommand.PutNode name offer)))
  asked_in_pool_moves (NodeCommand.DeleteNode name) p =
      leads_found (Moves w (Step.Node pool secret (NodeCommand.DeleteNode name))) (get p.nodes name) _
      (λ node _. leads_unless (Moves w (Step.Node pool secret (NodeCommand.DeleteNode name))) _ _ _ (λ _. still_there (NodeCommand.DeleteNode name)))
  asked_in_pool_moves (NodeCommand.SetStatus name NodeStatus.Ready) p =
      leads_found (Moves w (Step.Node pool secret (NodeCommand.SetStatus name NodeStatus.Ready))) (get p.nodes name) _
      (λ node _. still_there (NodeCommand.SetStatus name NodeStatus.Ready))
  asked_in_pool_moves (NodeCommand.SetStatus name NodeStatus.Down) p =
      leads_found (Moves w (Step.Node pool secret (NodeCommand.SetStatus name NodeStatus.Down))) (get p.nodes name) _
      (λ node _. down_moves name (put_pool pool (with_node name (record node { status = NodeStatus.Down }) p) w) refl)
  asked_in_pool_moves (NodeCommand.SetEligible name eligible) p =
      leads_found (Moves w (Step.Node pool secret (NodeCommand.SetEligible name eligible))) (get p.nodes name) _
      (λ node _. still_there (NodeCommand.SetEligible name eligible))
  asked_in_pool_moves (NodeCommand.Report name r) p = report_moves name r p

  ask_pool_moves : (command : NodeCommand) → Leads (Moves w (Step.Node pool secret command)) (ask_pool pool command w)
  unfolding ask_pool
  ask_pool_moves command = leads_found (Moves w (Step.Node pool secret command)) (get w.pools pool) (asked_in_pool pool command w)
      (λ p _. asked_in_pool_moves command p)

-- ---- administrators

module _ (w : World) (secret : Option Name) (name : Name) where
  -- a new namespace has no allocation, and an old one keeps its own
  new_same : (namespace : Namespace) → get w.tenants name ≡ None → Same w (put_tenant name (new_tenant namespace) w)
  new_same namespace is key = by (same_name key.0 name) refl
    where
      by : (b : Bool) → same_name key.0 name ≡ b → allocation_at (put_tenant name (new_tenant namespace) w) key ≡ allocation_at w key
      by true e = ap (λ k. allocation_at (put_tenant name (new_tenant namespace) w) (k, key.1)) (same_name_is key.0 name e)
          ∙ ap (row_at key.1) (get_put names one_name w.tenants name (new_tenant namespace)) ∙ get-empty nat_cmp key.1
          ∙ sym (ap (λ k. allocation_at w (k, key.1)) (same_name_is key.0 name e) ∙ ap (row_at key.1) is)
      by false e = ap (row_at key.1) (get_other names one_name w.tenants name (new_tenant namespace) key.0 e)

  put_same : (namespace : Namespace) (o : Option Tenant) → get w.tenants name ≡ o → Same w (put_tenant name (with_namespace namespace o) w)
  put_same namespace (Some t) is =
      let t' : Tenant = record t { namespace = namespace } in same_put w (put_tenant name t' w) name t t' is refl refl
  put_same namespace None is = new_same namespace is

  abbrev removal : Step
  removal = Step.Admin secret (AdminCommand.DeleteNamespace name)

  module _ (t : Tenant) (is : get w.tenants name ≡ Some t) (none_live : has_live t ≡ false) where
    gone_moves : Moves w removal (record w { tenants = remove w.tenants name })
    gone_moves key = by (same_name key.0 name) refl
      where
        x : World
        x = record w { tenants = remove w.tenants name }

        gone : (b : Bool) → same_name key.0 name ≡ b → allocation_at (record w { tenants = remove w.tenants name }) key
            ≡ row_at key.1 (cond b None (get w.tenants key.0))
        gone b e = ap (row_at key.1) (get-remove names w.tenants name key.0 ∙ ap (λ b. cond b None (get w.tenants key.0)) e)

        own : key.0 ≡ name → (o : Option Allocation) → allocation_at w key ≡ o → Change w removal key o None
        own e None at = rests refl
        own e (Some a) at = deletes a refl (none_of_any one_number (λ _ a. is_live a) t.allocations key.1 a none_live
            (sym (ap (λ k. allocation_at w (k, key.1)) e ∙ ap (row_at key.1) is) ∙ at)) refl
            (secret, ap (λ k. Step.Admin secret (AdminCommand.DeleteNamespace k)) (sym e))

        by : (b : Bool) → same_name key.0 name ≡ b →
            Change w removal key (allocation_at w key) (allocation_at (record w { tenants = remove w.tenants name }) key)
        by true e = subst (Change w removal key (allocation_at w key)) (sym (gone true e)) (own (same_name_is key.0 name e) (allocation_at w key) refl)
        by false e = rests (gone false e)

module _ (s : State) where
  abbrev pub MovesIn : Step → State → Type 0
  MovesIn step x = Moves s.world step x.world

  of_world : (step : Step) (c : Outcome World) → Leads (Moves s.world step) c → Leads (MovesIn step) (lift (with_world s.acl) c)
  of_world step = leads_lift (MovesIn step) (with_world s.acl) (Moves s.world step) (λ w h. h)

  of_same : (step : Step) (c : Outcome World) → Leads (Same s.world) c → Leads (MovesIn step) (lift (with_world s.acl) c)
  of_same step c h = of_world step c (leads_of (Same s.world) (Moves s.world step) (moves_same s.world step) c h)

  admin_moves : (secret : Option Name) (command : AdminCommand) → Leads (MovesIn (Step.Admin secret command)) (administer secret command s)
  admin_moves secret = leads_administered s (λ command. Moves s.world (Step.Admin secret command))
      (λ command quotas pools. moves_same s.world (Step.Admin secret command) (record s.world { quotas = quotas; pools = pools }) (same_still s.world))
      (λ name namespace. moves_same s.world (Step.Admin secret (AdminCommand.PutNamespace name namespace))
      (put_tenant name (with_namespace namespace (get s.world.tenants name)) s.world) (put_same s.world secret name namespace (get s.world.tenants name) refl))
      (λ name t is _ none_live. gone_moves s.world secret name t is none_live) secret

  -- ---- the whole step

  pub act_moves : IsSound s.world → (step : Step) → Leads (MovesIn step) (act step s)
  unfolding act
  act_moves sound (Step.Ask ns secret command) = of_world _ _ (ask_moves s.world ns secret command)
  act_moves sound (Step.Admin secret command) = admin_moves secret command
  act_moves sound (Step.Node pool secret command) = of_world _ _ (ask_pool_moves s.world pool secret command)
  act_moves sound (Step.Dequeue worker ns n) = of_same _ _ (dequeue_same s.world worker (ns, n))
  act_moves sound (Step.Snap worker ns) = of_same _ _ (snap_same s.world worker ns)
  act_moves sound (Step.Submit worker ns) = of_same _ _ (submit_same s.world worker ns)
  act_moves sound (Step.Apply worker ns) = of_world _ _ (apply_moves s.world sound ns worker)
  act_moves sound (Step.Finish worker ns) = of_same _ _ (finish_same s.world worker ns)
  act_moves sound (Step.Nack worker ns) = of_same _ _ (nack_same s.world worker ns)

  module _ (step : Step) (s' : State) (answer : Answer) where
    abbrev Turns : State → Type 0
    Turns x = (key : Key) → Turn s.world x.world step key

    at_rest : s ≡ s' → Turns s'
    at_rest e = subst Turns e (λ key. record {
      own = allocation_at s.world key;
      change = rests refl;
      settles = settled_same (allocation_at s.world key) (allocation_at s.world key);
    })

    concluded_turns : (o : Outcome State) → Leads (MovesIn step) o → concluded step s o ≡ said answer s' → Turns s'
    concluded_turns NotEnabled h e = absurd (not_Some _ e)
    concluded_turns (Refused refusal) h e = at_rest (ap (λ x. x.1) (same_Some _ _ e))
    concluded_turns (Done content x) h e = by (is_past_bound (settle s.world x.world)) e
      where
        y : State
        y = record x { world = settle s.world x.world }

        by : (b : Bool) → cond b (said (Err Refusal.Full) s) (said (Ok (reply_of step content (settle s.world x.world))) y) ≡ said answer s' → Turns s'
        by true e = at_rest (ap (λ x. x.1) (same_Some _ _ e))
        by false e = subst Turns (ap (λ x. x.1) (same_Some _ _ e)) (λ key. record {
          own = allocation_at x.world key;
          change = h key;
          settles = settled_at s.world x.world key;
        })

    pub after_turns : IsSound s.world → after step s ≡ said answer s' → Turns s'
    unfolding after
    after_turns sound e = by (is_allowed step s.acl) e
      where
        by : (b : Bool) → cond b (concluded step s (act step s)) (said (Err Refusal.Denied) s) ≡ said answer s' → Turns s'
        by true e = concluded_turns (act step s) (act_moves sound step) e
        by false e = at_rest (ap (λ x. x.1) (same_Some _ _ e))
