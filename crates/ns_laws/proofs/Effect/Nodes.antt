-- What is asked of a pool does what it says.
use Rattle.std.specs.Prelude.{◌≡◌, ◌≢◌, ℕ, ◌+◌, Bool, true, false, cond, not, ◌&&◌, List, [], ◌∷◌, Option, Some, None, Ok, option_map, fold}
use Rattle.std.proofs.Common.{refl, sym, ap, subst, ◌∙◌}
use Rattle.std.specs.FinMap.{get, insert, remove}
use Rattle.std.specs.Option.{option_map_or, option_and_then}
use Rattle.std.specs.Ordering.{eq_by_cmp}
use Rattle.ns_types.specs.declared.allocation.Allocation.{Allocation}
use Rattle.ns_types.specs.declared.allocation.ClientStatus.{ClientStatus}
use Rattle.ns_types.specs.declared.evaluation.Evaluation.{Evaluation}
use Rattle.ns_types.specs.declared.evaluation.Trigger.TheVariants as Trigger
use Rattle.ns_types.specs.declared.node.Node.{Node}
use Rattle.ns_types.specs.declared.node.NodeStatus.{NodeStatus}
use Rattle.ns_types.specs.declared.node.Offer.{Offer}
use Rattle.ns_types.specs.declared.refusal.Refusal.TheVariants as Refusal
use Rattle.ns_types.specs.declared.reply.Content.{Content}
use Rattle.ns_types.specs.declared.reply.Reply.{Reply}
use Rattle.ns_types.specs.declared.step.NodeCommand.{NodeCommand}
use Rattle.ns_types.specs.declared.step.Report.{Report}
use Rattle.ns_types.specs.declared.step.Step.{Step}
use Rattle.ns_types.specs.Asking.Nodes.{ask_pool, asked_in_pool, with_offer, losses, lost, lose, go_down, may_become, same_client, calls_for_one}
use Rattle.ns_types.specs.Asking.Nodes.{reported, is_on, report_of}
use Rattle.ns_types.specs.Asking.Policies.{with_world}
use Rattle.ns_types.specs.Settling.Making.{put_pool, put_tenant, with_node, change_tenant, with_client, with_evaluation, evaluation_for, make_in, make}
use Rattle.ns_types.specs.Settling.Outcome.{Done, unless}
use Rattle.ns_types.specs.Settling.Settle.{settle}
use Rattle.ns_types.specs.State.Names.{Name, Key, name_cmp, same_name}
use Rattle.ns_types.specs.State.Rows.{State, World, Tenant, PoolRows, is_held, is_live, is_ready, is_run, is_live_on, allocation_at, node_at}
use Rattle.ns_types.specs.State.Tables.{map_rows}
use Rattle.ns_types.specs.Steps.{after, act, said}
use Rattle.ns_types.proofs.Lists.{not_both}
use Rattle.ns_types.proofs.Named.{names, one_name, numbers, one_number, same_name_is, first_of_both, second_of_both}
use Rattle.ns_types.proofs.Queue.{queue_keeps}
use Rattle.ns_types.proofs.Settling.{keeps_all}
use Rattle.ns_types.proofs.TableRows.{apart, get_put, get_other}
use Rattle.ns_types.proofs.Tables.{get-map_rows}
use Rattle.ns_types.proofs.Tests.{is_yes, same_Some}
use Rattle.ns_audit.proofs.ValidAllocations.Sound.{allocation_row, row_allocation}
use Rattle.ns_laws.specs.Effects as law
use Rattle.ns_laws.specs.Effects.{HasRows, IsOfAllocation, IsEvaluated, CallsForEvaluation, MakesNone, IsReported}
use Rattle.ns_laws.specs.Effects.{HasFormer, HasOffer, HasNode, KeepsOtherNodes, IsLost}
use Rattle.ns_laws.proofs.Effect.Documents.{client_is}
use Rattle.ns_laws.proofs.Effect.Evaluations.{made_for, is_evaluated}
use Rattle.ns_laws.proofs.Effect.Reports.{calls, calls_ends, calls_not, evaluations_rest, keeps_one, makes_none, new_status}
use Rattle.ns_laws.proofs.Effect.Rows.{Does, does_unless, does_found, does_if, does_of, does_lift}
use Rattle.ns_laws.proofs.Effect.Rows.{after_does, put_there, put_elsewhere, removed, removed_elsewhere}
use Rattle.ns_laws.proofs.Effect.Rows.{settled_rows, settled_there, settled_jobs, settled_allocated, settled_former, settled_node}
use Rattle.ns_laws.proofs.Effect.Rows.{made_there}

module _ (s : State) (pool : Name) (secret : Option Name) (command : NodeCommand) (Q : State → Type 0) where
  abbrev pub AtWorld : Content → World → Type 0
  AtWorld content x = Q (with_world s.acl (settle s.world x))

  pub pool_does : ((p : PoolRows) → get s.world.pools pool ≡ Some p → Does AtWorld (asked_in_pool pool command s.world p)) → (s' : State) (reply : Reply) →
      after (Step.Node pool secret command) s ≡ said (Ok reply) s' → Q s'
  unfolding act ask_pool
  pool_does h s' reply e = after_does (Step.Node pool secret command) s s' reply (λ r y. Q y) e
      (does_lift _ (with_world s.acl) (ask_pool pool command s.world) (does_found _ (get s.world.pools pool) (asked_in_pool pool command s.world) h))

-- ---- one pool has other rows

module _ (w x : World) (pool : Name) (p p' : PoolRows) (is : get w.pools pool ≡ Some p) (put : x.pools ≡ insert w.pools pool p') where
  node_now : (n : Name) → node_at x pool n ≡ get p'.nodes n
  node_now n = ap (option_and_then (λ p. get p.nodes n)) (ap (λ m. get m pool) put ∙ put_there w.pools pool p')

  node_then : (n : Name) → node_at w pool n ≡ get p.nodes n
  node_then n = ap (option_and_then (λ p. get p.nodes n)) is

  elsewhere : (name : Name) → ((other : Name) → other ≢ name → get p'.nodes other ≡ get p.nodes other) → (q other : Name) → (q ≡ pool → other ≡ name → ⊥) →
      node_at x q other ≡ node_at w q other
  elsewhere name same q other differs = by (eq_by_cmp name_cmp q pool) refl
    where
      by : (b : Bool) → eq_by_cmp name_cmp q pool ≡ b → node_at x q other ≡ node_at w q other
      by true e = subst (λ k. node_at x k other ≡ node_at w k other) (sym (same_name_is q pool e))
          (node_now other ∙ same other (λ it. differs (same_name_is q pool e) it) ∙ sym (node_then other))
      by false e = ap (option_and_then (λ p. get p.nodes other)) (ap (λ m. get m q) put ∙ get_other names one_name w.pools pool p' q e)

  settled_now : (n : Name) → node_at (settle w x) pool n ≡ get p'.nodes n
  settled_now n = settled_node w x pool n ∙ node_now n

  settled_elsewhere : (name : Name) → ((other : Name) → other ≢ name → get p'.nodes other ≡ get p.nodes other) → (q other : Name) →
      (q ≡ pool → other ≡ name → ⊥) → node_at (settle w x) q other ≡ node_at w q other
  settled_elsewhere name same q other differs = settled_node w x q other ∙ elsewhere name same q other differs

-- ---- nodes are put and deleted

former : (offer : Offer) (old : Option Node) → HasFormer old (with_offer offer old)
former offer None = (refl, refl)
former offer (Some node) = (refl, refl)

offered : (offer : Offer) (old : Option Node) → (with_offer offer old).offer ≡ offer
offered offer None = refl
offered offer (Some node) = refl

pub put_node_is_there : law.PutNodeIsThere
put_node_is_there pool secret name offer s s' reply e = pool_does s pool secret (NodeCommand.PutNode name offer) (HasOffer pool name offer s) (λ p is.
    does_unless _ _ _ _ (λ _. does_unless _ _ _ _ (λ _.
    let node : Node = with_offer offer (get p.nodes name) in
    let p' : PoolRows = with_node name node p in
    let x : World = put_pool pool p' s.world in record {
      node = node;
      is_node = settled_now s.world x pool p p' is refl name ∙ put_there p.nodes name node;
      is_offered = offered offer (get p.nodes name);
      former = subst (λ o. HasFormer o node) (sym (node_then s.world x pool p p' is refl name)) (former offer (get p.nodes name));
      other_nodes = settled_elsewhere s.world x pool p p' is refl name (put_elsewhere p.nodes name node);
    }))) s' reply e

pub deleted_node_is_gone : law.DeletedNodeIsGone
deleted_node_is_gone pool secret name s s' reply e = pool_does s pool secret (NodeCommand.DeleteNode name)
    (λ y. (node_at y.world pool name ≡ None) × KeepsOtherNodes pool name s y) (λ p is.
    does_found _ (get p.nodes name) _ (λ node there. does_unless _ _ _ _ (λ _.
    let p' : PoolRows = record p { nodes = remove p.nodes name } in
    let x : World = put_pool pool p' s.world in (
      settled_now s.world x pool p p' is refl name ∙ removed p.nodes name,
      settled_elsewhere s.world x pool p p' is refl name (removed_elsewhere p.nodes name),
    )))) s' reply e

-- ---- status and eligibility

make_keeps : (ns : Name) (f : Tenant → Evaluation) (w : World) → (make ns f w).pools ≡ w.pools
make_keeps ns f w = by (get w.tenants ns)
  where
    by : (o : Option Tenant) → (option_map_or (λ t. make_in ns (f t) w t) o w).pools ≡ w.pools
    by None = refl
    by (Some t) = queue_keeps (λ x. x.pools) (λ x ks. refl) (put_tenant ns (with_evaluation (f t) t) w) (ns, t.evaluation_number + 1)

abbrev lose_one : World → Name × Allocation → World
lose_one x loss = make loss.0 (λ t. evaluation_for t loss.1 Trigger.NodeUpdate) x

losses_keep : (ls : List (Name × Allocation)) (x : World) → (fold lose_one x ls).pools ≡ x.pools
losses_keep [] x = refl
losses_keep (l ∷ ls) x = losses_keep ls (lose_one x l) ∙ make_keeps l.0 (λ t. evaluation_for t l.1 Trigger.NodeUpdate) x

down_keeps : (pool name : Name) (w : World) → (go_down pool name w).pools ≡ w.pools
unfolding go_down
down_keeps pool name w = losses_keep (losses pool name w) (lose pool name w)

pub set_status_is_there : law.SetStatusIsThere
set_status_is_there pool secret name status s s' reply e = pool_does s pool secret (NodeCommand.SetStatus name status)
    (HasNode pool name (λ old node. (node.status ≡ status) × (node.eligible ≡ old.eligible)) s) (λ p is.
    does_found _ (get p.nodes name) _ (λ old there.
    let node : Node = record old { status = status } in
    let p' : PoolRows = with_node name node p in
    let w' : World = put_pool pool p' s.world in
    let x : World = cond (is_ready status) w' (go_down pool name w') in
    let put : x.pools ≡ insert s.world.pools pool p' = elim (is_ready status) as (λ b. (cond b w' (go_down pool name w')).pools ≡ w'.pools)
    [ true ↦ refl | false ↦ down_keeps pool name w' ] in record {
      old = old;
      was_there = node_then s.world x pool p p' is put name ∙ there;
      node = node;
      is_node = settled_now s.world x pool p p' is put name ∙ put_there p.nodes name node;
      holds = (refl, refl);
      offer = refl;
      other_nodes = settled_elsewhere s.world x pool p p' is put name (put_elsewhere p.nodes name node);
    })) s' reply e

pub set_eligible_is_there : law.SetEligibleIsThere
set_eligible_is_there pool secret name eligible s s' reply e = pool_does s pool secret (NodeCommand.SetEligible name eligible)
    (HasNode pool name (λ old node. (node.eligible ≡ eligible) × (node.status ≡ old.status)) s) (λ p is.
    does_found _ (get p.nodes name) _ (λ old there.
    let node : Node = record old { eligible = eligible } in
    let p' : PoolRows = with_node name node p in
    let x : World = put_pool pool p' s.world in record {
      old = old;
      was_there = node_then s.world x pool p p' is refl name ∙ there;
      node = node;
      is_node = settled_now s.world x pool p p' is refl name ∙ put_there p.nodes name node;
      holds = (refl, refl);
      offer = refl;
      other_nodes = settled_elsewhere s.world x pool p p' is refl name (put_elsewhere p.nodes name node);
    })) s' reply e

-- ---- a node goes down

-- the namespace has that allocation
record HasAllocation (ns : Name) (n : ℕ) (a : Allocation) (x : World) : Type 0 where
  rows : Tenant
  is_there : get x.tenants ns ≡ Some rows
  is_row : get rows.allocations n ≡ Some a

module _ (ns : Name) (n : ℕ) (a : Allocation) where
  make_leaves : (k : Name) (f : Tenant → Evaluation) (x : World) → HasAllocation ns n a x → HasAllocation ns n a (make k f x)
  make_leaves k f x h = by (get x.tenants k) refl
    where
      by : (o : Option Tenant) → get x.tenants k ≡ o → HasAllocation ns n a (option_map_or (λ t. make_in k (f t) x t) o x)
      by None is = h
      by (Some t) is = at (eq_by_cmp name_cmp ns k) refl
        where
          tenants : (make_in k (f t) x t).tenants ≡ insert x.tenants k (with_evaluation (f t) t)
          tenants = queue_keeps (λ x. x.tenants) (λ x ks. refl) (put_tenant k (with_evaluation (f t) t) x) (k, t.evaluation_number + 1)

          at : (b : Bool) → eq_by_cmp name_cmp ns k ≡ b → HasAllocation ns n a (make_in k (f t) x t)
          at true e =
              let same : h.rows ≡ t = same_Some h.rows t (sym h.is_there ∙ ap (get x.tenants) (same_name_is ns k e) ∙ is) in record {
                rows = with_evaluation (f t) t;
                is_there = ap (get (make_in k (f t) x t).tenants) (same_name_is ns k e) ∙ ap (λ m. get m k) tenants ∙ put_there x.tenants k _;
                is_row = ap (λ (t : Tenant). get t.allocations n) (sym same) ∙ h.is_row;
              }
          at false e = record {
            rows = h.rows;
            is_there = ap (λ m. get m ns) tenants ∙ get_other names one_name x.tenants k _ ns e ∙ h.is_there;
            is_row = h.is_row;
          }

  losses_leave : (ls : List (Name × Allocation)) (x : World) → HasAllocation ns n a x → HasAllocation ns n a (fold lose_one x ls)
  losses_leave [] x h = h
  losses_leave (l ∷ ls) x h = losses_leave ls (lose_one x l) (make_leaves l.0 (λ t. evaluation_for t l.1 Trigger.NodeUpdate) x h)

down_loses : (pool name : Name) (w : World) (ns : Name) (n : ℕ) (t : Tenant) (a : Allocation) → get w.tenants ns ≡ Some t → get t.allocations n ≡ Some a →
    is_live_on pool name a ≡ true → HasAllocation ns n (record a { client = ClientStatus.Lost }) (go_down pool name w)
unfolding go_down
down_loses pool name w ns n t a is at lives = losses_leave ns n (record a { client = ClientStatus.Lost }) (losses pool name w) (lose pool name w) (record {
  rows = record t { allocations = map_rows (λ _ a. lost pool name a) t.allocations };
  is_there = get-map_rows names one_name (λ _ t. record t { allocations = map_rows (λ _ a. lost pool name a) t.allocations }) w.tenants ns
      ∙ ap (option_map {T = Tenant} {U = Tenant} (λ t. record t { allocations = map_rows (λ _ a. lost pool name a) t.allocations })) is;
  is_row = get-map_rows numbers one_number (λ _ a. lost pool name a) t.allocations n ∙ ap (option_map (lost pool name)) at
      ∙ ap (λ b. Some (cond b (record a { client = ClientStatus.Lost }) a)) lives;
})

pub down_is_lost : law.DownIsLost
down_is_lost pool secret name s s' reply e = pool_does s pool secret (NodeCommand.SetStatus name NodeStatus.Down)
    (λ y. (key : Key) (a : Allocation) → allocation_at s.world key ≡ Some a → is_live_on pool name a ≡ true → IsLost a key y) (λ p is.
    does_found _ (get p.nodes name) _ (λ old there key a at lives.
    let w' : World = put_pool pool (with_node name (record old { status = NodeStatus.Down }) p) s.world in
    let x : World = go_down pool name w' in
    let was = allocation_row s.world key a at in
    let h = down_loses pool name w' key.0 key.1 was.0 a was.1 was.2 lives in
    let r = settled_allocated s.world x key.0 h.rows key.1 (record a { client = ClientStatus.Lost }) h.is_row in record {
      row = r.row;
      is_row = row_allocation (settle s.world x) key.0 key.1 (settled_rows s.world x key.0 h.rows) r.row
          (settled_there s.world x key.0 h.rows h.is_there) r.is_row;
      client = r.client;
      desired = r.desired;
    })) s' reply e

-- ---- reports

module _ (w : World) (pool name : Name) (r : Report) (t : Tenant) (a : Allocation) (is : get w.tenants r.namespace ≡ Some t)
    (at : get t.allocations r.number ≡ Some a) (on : is_on pool name a ≡ true) where
  abbrev ns : Name
  ns = r.namespace

  abbrev Calls : Type 0
  Calls = CallsForEvaluation a r.client (get t.jobs a.job)

  -- what a change to x leaves, where the rows are u then
  abbrev Reports : World → Tenant → Type 0
  Reports x u = IsReported pool name r t (settled_rows w x ns u)

  module _ (x : World) (u : Tenant) (b : Allocation) (row : get u.allocations r.number ≡ Some b) (client : b.client ≡ r.client)
      (same : b ≡ record a { client = b.client }) (others : (m : ℕ) → m ≢ r.number → get u.allocations m ≡ get t.allocations m) (jobs : u.jobs ≡ t.jobs) where
    reports : (Calls → IsEvaluated a.job (IsOfAllocation (get t.jobs a.job) a) Trigger.AllocFailure (t.evaluation_number + 1) t (settled_rows w x ns u)) →
        ((Calls → ⊥) → MakesNone t (settled_rows w x ns u)) →
        ((is_live a ≡ true → is_live b ≡ true) → (settled_rows w x ns u).evaluations ≡ t.evaluations) → Reports x u
    reports evaluated quiet resting = let q = settled_allocated w x ns u r.number b row in record {
      old = a;
      was_there = at;
      was_in_pool = sym (same_name_is pool a.pool (first_of_both (same_name pool a.pool) (same_name name a.node) on));
      was_on_node = sym (same_name_is name a.node (second_of_both (same_name pool a.pool) (same_name name a.node) on));
      row = q.row;
      is_row = q.is_row;
      client = q.client ∙ client;
      desired = q.desired ∙ ap (λ (a : Allocation). a.desired) same;
      job = q.job ∙ ap (λ (a : Allocation). a.job) same;
      pool_kept = q.pool ∙ ap (λ (a : Allocation). a.pool) same;
      node_kept = q.node ∙ ap (λ (a : Allocation). a.node) same;
      evaluated = evaluated;
      quiet = quiet;
      resting = λ lives. resting (λ live. (λ i. is_run (sym q.desired i) && is_held (sym q.client i)) ∙ lives live);
      other_allocations = λ m other. settled_former w x ns t u m is (others m other);
      jobs = settled_jobs w x ns u ∙ jobs;
    }

  abbrev b' : Allocation
  b' = record a { client = r.client }

  abbrev t' : Tenant
  t' = record t { allocations = insert t.allocations r.number b' }

  abbrev reason : Evaluation
  reason = evaluation_for t' a Trigger.AllocFailure

  abbrev w' : World
  w' = put_tenant ns t' w

  changed : change_tenant ns (with_client r.number r.client) w ≡ w'
  changed = ap (λ o. option_map_or (λ t. put_tenant ns (with_client r.number r.client t) w) o w) is
      ∙ ap (λ o. put_tenant ns (option_map_or (λ a. record t { allocations = insert t.allocations r.number (record a { client = r.client }) }) o t) w) at

  there : get w'.tenants ns ≡ Some t'
  there = put_there w.tenants ns t'

  evaluates : make ns (λ t. evaluation_for t a Trigger.AllocFailure) w' ≡ make_in ns reason w' t'
  evaluates = ap (λ o. option_map_or (λ t. make_in ns (evaluation_for t a Trigger.AllocFailure) w' t) o w') there

  reported_is : (b : Bool) → option_map_or (λ t. calls_for_one t a r.client) (get w.tenants ns) false ≡ b →
      reported r a w ≡ cond b (make_in ns reason w' t') w'
  reported_is b e = (λ i. cond (e i) (make ns (λ t. evaluation_for t a Trigger.AllocFailure) (changed i)) (changed i)) ∙ ap (λ x. cond b x w') evaluates

  abbrev Q : World → Type 0
  Q x = (u : Tenant) × (get x.tenants ns ≡ Some u) × Reports x u

  others' : (m : ℕ) → m ≢ r.number → get t'.allocations m ≡ get t.allocations m
  others' m other = get_other numbers one_number t.allocations r.number b' m (apart m r.number other)

  row' : get t'.allocations r.number ≡ Some b'
  row' = get_put numbers one_number t.allocations r.number b'

  asked : option_map_or (λ t. calls_for_one t a r.client) (get w.tenants ns) false ≡ calls_for_one t a r.client
  asked = ap (λ o. option_map_or (λ t. calls_for_one t a r.client) o false) is

  by : a.client ≢ r.client → may_become a.client r.client ≡ true → (b : Bool) → calls_for_one t a r.client ≡ b → Q (cond b (make_in ns reason w' t') w')
  by other becomes true e =
      let x : World = make_in ns reason w' t' in
      let u : Tenant = with_evaluation reason t' in (
        u,
        made_there w' ns reason t',
        reports x u b' row' refl refl others' refl (λ _. is_evaluated w x ns t t' reason is refl refl (made_for t' a Trigger.AllocFailure))
            (λ none. absurd (none (calls t a r.client other e)))
            (λ lives. let ends = calls_ends a r.client (get t.jobs a.job) becomes (calls t a r.client other e) in not_both (lives ends.0) ends.1),
      )
  by other becomes false e = (
    t',
    there,
    reports w' t' b' row' refl refl others' refl (λ c. absurd (calls_not t a r.client e c)) (λ _. makes_none w w' ns t t' is refl refl)
        (λ lives. evaluations_rest w w' ns t t' is (keeps_one w ns t r.number a b' is at lives) refl),
  )

  of_report : Does (λ content x. Q x) (report_of r w a)
  of_report = does_if _ (same_client a.client r.client) (Done Content.Written w)
      (unless (not (may_become a.client r.client)) Refusal.Conflict (Done Content.Written (reported r a w)))
      (λ e. (
        t,
        is,
        reports w t a at (client_is a.client r.client e) refl (λ m other. refl) refl
            (λ c. absurd (c.is_new (client_is a.client r.client e))) (λ _. makes_none w w ns t t is refl refl)
            (λ _. evaluations_rest w w ns t t is (keeps_all w) refl),
      ))
      (λ e. does_unless _ _ _ _ (λ becomes. subst Q (sym (reported_is (calls_for_one t a r.client) asked))
      (by (new_status a.client r.client e) (is_yes _ becomes) (calls_for_one t a r.client) refl)))

pub reported_is_there : law.ReportedIsThere
reported_is_there pool secret node report s s' reply e = pool_does s pool secret (NodeCommand.Report node report)
    (λ y. HasRows report.namespace s y (IsReported pool node report)) (λ p _.
    does_found _ (get p.nodes node) _ (λ its _. does_found _ (allocation_at s.world (report.namespace, report.number)) _ (λ a found.
    let was = allocation_row s.world (report.namespace, report.number) a found in
    does_unless _ (not (is_on pool node a)) Refusal.NotFound (report_of report s.world a) (λ on.
    does_of (λ content x. Q s.world pool node report was.0 a was.1 was.2 (is_yes _ on) x) _ (λ content x l. record {
      before = was.0;
      now = settled_rows s.world x report.namespace l.0;
      was_there = was.1;
      is_there = settled_there s.world x report.namespace l.0 l.1;
      holds = l.2;
    }) (report_of report s.world a) (of_report s.world pool node report was.0 a was.1 was.2 (is_yes _ on)))))) s' reply e
