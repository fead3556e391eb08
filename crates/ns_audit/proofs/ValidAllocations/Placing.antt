-- Placements put sound allocations, each in a place of its own, on nodes with room for them.
use Rattle.std.specs.Prelude.{◌≡◌, ℕ, ◌+◌, ◌≤◌, Bool, true, false, cond, List, [], ◌∷◌, Option, Some, None, ◌&&◌, IsTrue, filter, nat_le, sum_by}
use Rattle.std.proofs.Common.{◌⊎◌, inl, inr, refl, sym, ap, subst, ◌∙◌, arith}
use Rattle.std.specs.FinMap.{entries, get, insert}
use Rattle.std.specs.Option.{option_map_or}
use Rattle.ns_types.proofs.Amounts.{at, every, every_true}
use Rattle.ns_types.specs.declared.allocation.Allocation.{Allocation}
use Rattle.ns_types.specs.declared.job.Job.{Job}
use Rattle.ns_types.specs.declared.name.NameKind.TheVariants as NameKind
use Rattle.ns_types.specs.declared.node.Node.{Node}
use Rattle.ns_types.specs.declared.node.Offer.{Offer}
use Rattle.ns_types.specs.declared.plan.Placement.{Placement}
use Rattle.ns_types.specs.declared.resources.Resources.{Resources}
use Rattle.ns_types.specs.declared.snapshot.Snapshot.{Snapshot}
use Rattle.ns_types.specs.Working.Commit.{node_name, size_of, new_allocation, with_allocation, with_place, counted, place_with, place_one, place_all}
use Rattle.ns_types.specs.State.Limits.{is_between, is_pool_name}
use Rattle.ns_types.specs.State.Lists.{Each}
use Rattle.ns_types.specs.Settling.Making.{put_tenant, put_pool, with_node, change_tenant}
use Rattle.ns_types.specs.State.Name.{is_name}
use Rattle.ns_types.specs.State.Names.{Name, Key, same_name}
use Rattle.ns_types.specs.State.Resources.{InEach, in_each, is_within, plus, quantity}
use Rattle.ns_types.specs.State.Rows.{World, Tenant, PoolRows, is_live_on, is_ready, node_at}
use Rattle.ns_types.specs.Access.Sharing.{permits}
use Rattle.ns_types.specs.State.Sums.{tenant_sum, node_sum, node_load}
use Rattle.ns_types.specs.Validity.{IsSoundAllocation, IsLiveAt}
use Rattle.ns_types.proofs.Named.{names, one_name, numbers as numbers_, one_number, same_name_is, same_name_refl}
use Rattle.ns_types.proofs.Sums.{sum_part}
use Rattle.ns_types.proofs.Tests.{not_Some, same_Some}
use Rattle.ns_types.proofs.TableRows.{row_of_insert}
use Rattle.ns_audit.proofs.ValidAllocations.Statement.{IsAllocated}
use Rattle.ns_audit.proofs.Steady.Keeping.{above, at_inserted}
use Rattle.ns_audit.proofs.ValidAllocations.Sound.{IsBelow, itself, by_le, le_same, le_then, within_less}
use Rattle.ns_audit.proofs.ValidAllocations.Sound.{allocation_row, row_allocation, node_row, node_pool, ComesFrom}
use Rattle.ns_audit.proofs.ValidAllocations.Sound.{IsBelow, NodesStay, sound_from}
use Rattle.ns_audit.proofs.ValidAllocations.Going.{comes_same, Onward, onward_same, onward_change, onward_each, Lasts, lasts_still, lasts_then}
use Rattle.ns_audit.proofs.ValidAllocations.Nodes.{still_at, put_here}
use Rattle.ns_audit.proofs.ValidAllocations.Plan.{IsPartOf}
use Rattle.ns_types.specs.Working.Parts.{goes_to}
use Rattle.ns_audit.proofs.ValidAllocations.Sums.{zero_le, sum_put}

-- ---- what a new allocation rests on

-- the namespace permits the pool, the evaluation is one of its own, and an unstopped job is no newer than its index
pub record Suits (kept : Snapshot) (j : Job) (t : Tenant) : Type 0 where
  pub job_named : IsTrue (is_name NameKind.Job kept.evaluation.job)
  pub pool_named : IsTrue (is_pool_name kept.pool)
  pub priority : IsTrue (is_between 1 100 j.document.priority)
  pub permitted : permits t.namespace kept.pool ≡ true
  pub made_by : kept.number ≤ t.evaluation_number
  pub made_for : j.stop ≡ false → j.modify_index ≤ t.index

pub suits_last : (kept : Snapshot) (j : Job) (t u : Tenant) → Lasts t u → Suits kept j t → Suits kept j u
suits_last kept j t u lasts s = record {
  job_named = s.job_named;
  pool_named = s.pool_named;
  priority = s.priority;
  permitted = ap (λ n. permits n kept.pool) lasts.namespace ∙ s.permitted;
  made_by = le_then kept.number t.evaluation_number u.evaluation_number s.made_by lasts.evaluations;
  made_for = λ running. le_then j.modify_index t.index u.index (s.made_for running) (le_same t.index u.index (sym lasts.index));
}

-- a part of the job, on a node with a name, which was ready
pub record IsPlaceable (kept : Snapshot) (j : Job) (w : World) (p : Placement) : Type 0 where
  pub part : IsPartOf j p.group p.size
  pub named : IsTrue (is_name NameKind.Node (node_name kept p.node))
  pub row : Node
  pub is_row : node_at w kept.pool (node_name kept p.node) ≡ Some row
  pub ready : is_ready row.status ≡ true

-- a size that has at least one of each
sized_of : (size : Resources) → InEach (λ r. 1 ≤ quantity r size) → IsTrue (in_each (λ r. nat_le 1 (quantity r size)))
sized_of size least = every_true (λ r. nat_le 1 (quantity r size)) (λ r. by_le 1 (quantity r size) (at (λ r. 1 ≤ quantity r size) least r))

-- nodes were there, with the same offer and status
abbrev pub NodesWere : World → World → Type 0
NodesWere w x = (pool name : Name) (node : Node) → node_at x pool name ≡ Some node → (old : Node) × (node_at w pool name ≡ Some old) × (node.offer ≡ old.offer)
    × (node.status ≡ old.status)

-- a world with room for the rest of the placements
pub record IsReserved (kept : Snapshot) (j : Job) (old w : World) (rest : List Placement) : Type 0 where
  pub allocated : IsAllocated w
  pub tenant : Tenant
  pub is_tenant : get w.tenants kept.namespace ≡ Some tenant
  pub suits : Suits kept j tenant
  pub nodes : NodesWere old w
  pub room : (pool name : Name) (node : Node) → node_at w pool name ≡ Some node →
      IsTrue (is_within (plus (node_load w pool name) (size_of (filter (goes_to kept pool name) rest))) node.offer.capacity)

-- ---- numbers

one_more : (n : ℕ) → n ≤ n + 1
one_more n = omega arith

added : (x u w v c o : ℕ) → x + u ≤ w + v → v + o ≤ u + c → x ≤ w + c
added x u w v c o h k = omega arith

moved : (x w c r : ℕ) → x ≤ w + c → x + r ≤ w + (c + r)
moved x w c r h = omega arith

with_more : (a b : Resources) → IsBelow a (plus a b)
with_more a b = every (λ r. quantity r a ≤ quantity r a + quantity r b) (λ r. omega arith)

without : (w c r : ℕ) → w + r ≤ w + (c + r)
without w c r = omega arith

-- ---- one placement

module _ (kept : Snapshot) (j : Job) (p : Placement) (w : World) (s : IsAllocated w) (t : Tenant) (is : get w.tenants kept.namespace ≡ Some t) (node : Node)
    (at : node_at w kept.pool (node_name kept p.node) ≡ Some node) where
  abbrev name : Name
  name = node_name kept p.node

  abbrev new : Allocation
  new = new_allocation kept j p node

  abbrev number : ℕ
  number = t.allocation_number + 1

  abbrev after : Tenant
  after = with_allocation new t

  abbrev bumped : Node
  bumped = record node { places = node.places + 1 }

  abbrev rows : PoolRows
  rows = (node_row w kept.pool name node at).0

  is_pool : get w.pools kept.pool ≡ Some rows
  is_pool = (node_row w kept.pool name node at).1

  abbrev z : World
  z = put_pool kept.pool (with_node name bumped rows) w

  abbrev x : World
  x = put_tenant kept.namespace after z

  place_is : place_with kept p w j node ≡ x
  place_is = ap (λ o. counted kept.pool name node (option_map_or (λ t. put_tenant kept.namespace (with_allocation new t) w) o w)) is
      ∙ ap (λ o. option_map_or (λ q. put_pool kept.pool (with_place name node q) (put_tenant kept.namespace after w)) o (put_tenant kept.namespace after w))
      is_pool

  was_ready : (q n : Name) (old : Node) → node_at w q n ≡ Some old → is_ready old.status ≡ true → same_name q kept.pool ≡ true → same_name n name ≡ true →
      (is_ready bumped.status ≡ true) × (old.places ≤ bumped.places)
  was_ready q n old there ready e f =
      let same = same_Some old node (sym there ∙ (λ i. node_at w (same_name_is q kept.pool e i) (same_name_is n name f i)) ∙ at) in (
        ap (λ (x : Node). is_ready x.status) (sym same) ∙
            ready,
        le_then old.places node.places (node.places + 1) (le_same old.places node.places (ap (λ (x : Node). x.places) same)) (one_more node.places),
      )

  stays : NodesStay w x
  stays q n old lives there ready =
      let r = still_at w s kept.pool rows is_pool name bumped q n old there ready (was_ready q n old there ready) in
      record { row = r.row; is_row = r.is_row; ready = r.ready; places = r.places }

  there_now : node_at x kept.pool name ≡ Some bumped
  there_now = put_here w s kept.pool rows is_pool name bumped kept.pool name true (same_name_refl kept.pool) true (same_name_refl name)

  nodes_were : NodesWere w x
  nodes_were q n found now = by (same_name q kept.pool) refl (same_name n name) refl
    where
      by : (b : Bool) → same_name q kept.pool ≡ b → (c : Bool) → same_name n name ≡ c → (old : Node) × (node_at w q n ≡ Some old) × (found.offer ≡ old.offer) ×
          (found.status ≡ old.status)
      by true e true f =
          let same = same_Some found bumped (sym now ∙ put_here w s kept.pool rows is_pool name bumped q n true e true f) in (
            node,
            (λ i. node_at w (same_name_is q kept.pool e i) (same_name_is n name f i)) ∙
                at,
            ap (λ (x : Node). x.offer) same,
            ap (λ (x : Node). x.status) same,
          )
      by true e false f = (found, sym (put_here w s kept.pool rows is_pool name bumped q n true e false f) ∙ now, refl, refl)
      by false e c f = (found, sym (put_here w s kept.pool rows is_pool name bumped q n false e c f) ∙ now, refl, refl)

  -- ---- the load

  sum_with : (pool n : Name) (amount : Resources → ℕ) → node_sum x pool n amount ≤ node_sum w pool n amount + cond (goes_to kept pool n p) (amount p.size) 0
  unfolding node_sum
  sum_with pool n amount = added _ (tenant_sum (is_live_on pool n) amount t) _ (tenant_sum (is_live_on pool n) amount after)
      (cond (goes_to kept pool n p) (amount p.size) 0) _
      (subst (λ o. sum_by (λ e. tenant_sum (is_live_on pool n) amount e.1) (entries (insert w.tenants kept.namespace after)) + option_map_or
      (tenant_sum (is_live_on pool n) amount) o 0
      ≤ sum_by (λ e. tenant_sum (is_live_on pool n) amount e.1) (entries w.tenants) + tenant_sum (is_live_on pool n) amount after) is
      (sum_put names one_name (λ _ t. tenant_sum (is_live_on pool n) amount t) w.tenants kept.namespace after))
      (sum_put numbers_ one_number (λ _ (a : Allocation). cond (is_live_on pool n a) (amount a.size) 0) t.allocations number new)

  load_with : (rest : List Placement) (pool n : Name) (most : Resources) →
      IsTrue (is_within (plus (node_load w pool n) (size_of (filter (goes_to kept pool n) (p ∷ rest)))) most)
      → IsTrue (is_within (plus (node_load x pool n) (size_of (filter (goes_to kept pool n) rest))) most)
  load_with rest pool n most = within_less (plus (node_load x pool n) (size_of (filter (goes_to kept pool n) rest)))
      (plus (node_load w pool n) (size_of (filter (goes_to kept pool n) (p ∷ rest)))) most
      (every
      (λ r. node_sum x pool n (quantity r) + sum_by (λ p. quantity r p.size) (filter (goes_to kept pool n) rest)
      ≤ node_sum w pool n (quantity r) + sum_by (λ p. quantity r p.size) (filter (goes_to kept pool n) (p ∷ rest))) (λ r. amount (quantity r)))
    where
      amount : (f : Resources → ℕ) → node_sum x pool n f + sum_by (λ (p : Placement). f p.size) (filter (goes_to kept pool n) rest)
          ≤ node_sum w pool n f + sum_by (λ (p : Placement). f p.size) (filter (goes_to kept pool n) (p ∷ rest))
      amount f = subst (λ m. node_sum x pool n f + sum_by (λ (p : Placement). f p.size) (filter (goes_to kept pool n) rest) ≤ node_sum w pool n f + m)
          (sym (sum_part (λ (p : Placement). f p.size) (goes_to kept pool n) p rest))
          (moved (node_sum x pool n f) (node_sum w pool n f) _ _ (sum_with pool n f))

  -- ---- the new allocation is sound

  module _ (suits : Suits kept j t) (part : IsPartOf j p.group p.size) (named : IsTrue (is_name NameKind.Node name)) (ready : is_ready node.status ≡ true) where
    new_sound : IsSoundAllocation x after number new
    new_sound = record {
      below = itself number;
      named = λ i. suits.job_named i && part.named i && suits.pool_named i && named i;
      sized = sized_of p.size part.least;
      priority = suits.priority;
      placed = λ _. record {
        allowed = record { exists = node_pool x kept.pool name bumped there_now; permitted = suits.permitted; its_quota = λ q e. absurd (not_Some _ e) };
        row = bumped;
        there = there_now;
        ready = ready;
        counted = itself (node.places + 1);
      };
      made_by = suits.made_by;
      made_for = suits.made_for part.running;
      created = zero_le t.index;
      modified = zero_le t.index;
    }

    row_sound : (m : ℕ) (b : Allocation) → get after.allocations m ≡ Some b → get x.tenants kept.namespace ≡ Some after → IsSoundAllocation x after m b
    row_sound m b there now = by (row_of_insert numbers_ one_number t.allocations number new m b there)
      where
        comes : get t.allocations m ≡ Some b → ComesFrom w kept.namespace after m b
        comes was =
            let old = s.allocation kept.namespace t m b is was in record {
              tenant = t;
              is_tenant = is;
              row = b;
              is_row = was;
              same = refl;
              live = λ live. live;
              permitted = λ live allowed. allowed;
              index = itself t.index;
              evaluations = itself t.evaluation_number;
              number = one_more t.allocation_number;
              created = old.created;
              modified = old.modified;
            }

        by : ((m ≡ number) × (new ≡ b)) ⊎ (get t.allocations m ≡ Some b) → IsSoundAllocation x after m b
        by (inl e) = subst (IsSoundAllocation x after m) e.1 (subst (λ m. IsSoundAllocation x after m new) (sym e.0) new_sound)
        by (inr was) = sound_from w x s stays kept.namespace after m b now there (comes was)

    all_sound : (ns : Name) (u : Tenant) (m : ℕ) (b : Allocation) → get x.tenants ns ≡ Some u → get u.allocations m ≡ Some b → IsSoundAllocation x u m b
    all_sound ns u m b now there = by (row_of_insert names one_name w.tenants kept.namespace after ns u now)
      where
        by : ((ns ≡ kept.namespace) × (after ≡ u)) ⊎ (get w.tenants ns ≡ Some u) → IsSoundAllocation x u m b
        by (inl e) = subst (λ u. get u.allocations m ≡ Some b → IsSoundAllocation x u m b) e.1
            (λ there. row_sound m b there (at_inserted names w.tenants kept.namespace after (same_name_refl kept.namespace))) there
        by (inr was) = sound_from w x s stays ns u m b now there (comes_same w s ns u m b was there)

    live_now : (key : Key) (b : Allocation) → IsLiveAt x key b → ((key ≡ (kept.namespace, number)) × (new ≡ b)) ⊎ IsLiveAt w key b
    live_now key b l = by (allocation_row x key b l.0)
      where
        in_tenant : (u : Tenant) → get u.allocations key.1 ≡ Some b → ((key.0 ≡ kept.namespace) × (after ≡ u)) ⊎ (get w.tenants key.0 ≡ Some u) →
            ((key ≡ (kept.namespace, number)) × (new ≡ b)) ⊎ IsLiveAt w key b
        in_tenant u there (inr was) = inr (row_allocation w key.0 key.1 u b was there, l.1)
        in_tenant u there (inl e) = in_row (row_of_insert numbers_ one_number t.allocations number new key.1 b (ap (λ (u : Tenant). get u.allocations key.1) e.1
            ∙ there))
          where
            in_row : ((key.1 ≡ number) × (new ≡ b)) ⊎ (get t.allocations key.1 ≡ Some b) → ((key ≡ (kept.namespace, number)) × (new ≡ b)) ⊎ IsLiveAt w key b
            in_row (inl f) = inl (λ i. (e.0 i, f.0 i), f.1)
            in_row (inr was) = inr (row_allocation w key.0 key.1 t b (ap (get w.tenants) e.0 ∙ is) was, l.1)

        by : (u : Tenant) × (get x.tenants key.0 ≡ Some u) × (get u.allocations key.1 ≡ Some b) → ((key ≡ (kept.namespace, number)) × (new ≡ b))
            ⊎ IsLiveAt w key b
        by r = in_tenant r.0 r.2 (row_of_insert names one_name w.tenants kept.namespace after key.0 r.0 r.1)

    -- whoever was on the node has an earlier place
    not_there : (key : Key) (b : Allocation) → IsLiveAt w key b → b.pool ≡ kept.pool → b.node ≡ name → b.place ≡ node.places + 1 → ⊥
    not_there key b l pool on place =
        let r = allocation_row w key b l.0 in
        let q = (s.allocation key.0 r.0 key.1 b r.1 r.2).placed l.1 in
        let same = same_Some q.row node (sym q.there ∙ (λ i. node_at w (pool i) (on i)) ∙ at) in
        above b.place node.places (le_then b.place q.row.places node.places q.counted (le_same q.row.places node.places (ap (λ (x : Node). x.places) same)))
        place

    one_place_now : (a b : Key) (u v : Allocation) → IsLiveAt x a u → IsLiveAt x b v → u.pool ≡ v.pool → u.node ≡ v.node → u.place ≡ v.place → a ≡ b
    one_place_now a b u v l k pool on place = by (live_now a u l) (live_now b v k)
      where
        by : ((a ≡ (kept.namespace, number)) × (new ≡ u)) ⊎ IsLiveAt w a u → ((b ≡ (kept.namespace, number)) × (new ≡ v)) ⊎ IsLiveAt w b v → a ≡ b
        by (inl e) (inl f) = e.0 ∙ sym f.0
        by (inl e) (inr g) = absurd (not_there b v g (sym pool ∙ sym (ap (λ (a : Allocation). a.pool) e.1)) (sym on ∙ sym (ap (λ (a : Allocation). a.node) e.1))
            (sym place ∙ sym (ap (λ (a : Allocation). a.place) e.1)))
        by (inr g) (inl f) = absurd (not_there a u g (pool ∙ sym (ap (λ (a : Allocation). a.pool) f.1)) (on ∙ sym (ap (λ (a : Allocation). a.node) f.1))
            (place ∙ sym (ap (λ (a : Allocation). a.place) f.1)))
        by (inr g) (inr h) = s.one_place a b u v g h pool on place

    pub placed_reserved : (old : World) (rest : List Placement) → NodesWere old w
        → ((pool n : Name) (row : Node) → node_at w pool n ≡ Some row →
        IsTrue (is_within (plus (node_load w pool n) (size_of (filter (goes_to kept pool n) (p ∷ rest)))) row.offer.capacity))
        → IsReserved kept j old (place_with kept p w j node) rest
    placed_reserved old rest were room = subst (λ y. IsReserved kept j old y rest) (sym place_is) (record {
      allocated = record {
        allocation = all_sound;
        one_place = one_place_now;
        within = λ pool n row now. within_less (node_load x pool n) (plus (node_load x pool n) (size_of (filter (goes_to kept pool n) rest))) row.offer.capacity
            (with_more (node_load x pool n) (size_of (filter (goes_to kept pool n) rest))) (room_now pool n row now);
      };
      tenant = after;
      is_tenant = at_inserted names w.tenants kept.namespace after (same_name_refl kept.namespace);
      suits = suits_last kept j t after (record { namespace = refl; index = refl; evaluations = itself t.evaluation_number }) suits;
      nodes = λ pool n row now.
          let a = nodes_were pool n row now in
          let b = were pool n a.0 a.1 in
          (b.0, b.1, a.2 ∙ b.2, a.3 ∙ b.3);
      room = room_now;
    })
      where
        room_now : (pool n : Name) (row : Node) → node_at x pool n ≡ Some row →
            IsTrue (is_within (plus (node_load x pool n) (size_of (filter (goes_to kept pool n) rest))) row.offer.capacity)
        room_now pool n row now =
            let a = nodes_were pool n row now in
            load_with rest pool n row.offer.capacity
            (subst (λ (o : Offer). IsTrue (is_within (plus (node_load w pool n) (size_of (filter (goes_to kept pool n) (p ∷ rest)))) o.capacity)) (sym a.2)
            (room pool n a.0 a.1))

-- ---- all placements

module _ (kept : Snapshot) (j : Job) (has_job : kept.job ≡ Some j) (old : World) where
  one_reserved : (p : Placement) (rest : List Placement) (w : World) → IsPlaceable kept j old p → IsReserved kept j old w (p ∷ rest) →
      IsReserved kept j old (place_one kept w p) rest
  unfolding place_one
  one_reserved p rest w ok r = subst (λ o. IsReserved kept j old
      (option_map_or (λ j. option_map_or (place_with kept p w j) (node_at w kept.pool (node_name kept p.node)) w) o w) rest) (sym has_job)
      (by (node_at w kept.pool (node_name kept p.node)) refl)
    where
      fewer : (pool n : Name) (f : Resources → ℕ) → node_sum w pool n f + sum_by (λ (p : Placement). f p.size) (filter (goes_to kept pool n) rest)
          ≤ node_sum w pool n f + sum_by (λ (p : Placement). f p.size) (filter (goes_to kept pool n) (p ∷ rest))
      fewer pool n f = subst (λ m. node_sum w pool n f + sum_by (λ (p : Placement). f p.size) (filter (goes_to kept pool n) rest) ≤ node_sum w pool n f + m)
          (sym (sum_part (λ (p : Placement). f p.size) (goes_to kept pool n) p rest)) (without _ _ _)

      by : (o : Option Node) → node_at w kept.pool (node_name kept p.node) ≡ o → IsReserved kept j old (option_map_or (place_with kept p w j) o w) rest
      by None _ = record {
        allocated = r.allocated;
        tenant = r.tenant;
        is_tenant = r.is_tenant;
        suits = r.suits;
        nodes = r.nodes;
        room = λ pool n row at. within_less (plus (node_load w pool n) (size_of (filter (goes_to kept pool n) rest)))
            (plus (node_load w pool n) (size_of (filter (goes_to kept pool n) (p ∷ rest)))) row.offer.capacity
            (every
            (λ r. node_sum w pool n (quantity r) + sum_by (λ p. quantity r p.size) (filter (goes_to kept pool n) rest)
            ≤ node_sum w pool n (quantity r) + sum_by (λ p. quantity r p.size) (filter (goes_to kept pool n) (p ∷ rest))) (λ r. fewer pool n (quantity r)))
            (r.room pool n row at);
      }
      by (Some node) at =
          let a = r.nodes kept.pool (node_name kept p.node) node at in
          placed_reserved kept j p w r.allocated r.tenant r.is_tenant node at r.suits ok.part ok.named
          (ap is_ready a.3 ∙ ap (λ (x : Node). is_ready x.status) (same_Some a.0 ok.row (sym a.1 ∙ ok.is_row)) ∙ ok.ready) old rest r.nodes r.room

  pub all_reserved : (ps : List Placement) (w : World) → Each (IsPlaceable kept j old) ps → IsReserved kept j old w ps →
      IsReserved kept j old (place_all kept w ps) []
  all_reserved [] w ok r = r
  all_reserved (p ∷ ps) w ok r = all_reserved ps (place_one kept w p) ok.1 (one_reserved p ps w ok.0 r)

-- without a job nothing is placed
not_placed : (kept : Snapshot) → kept.job ≡ None → (p : Placement) (w : World) → place_one kept w p ≡ w
unfolding place_one
not_placed kept no_job p w = ap (λ o. option_map_or (λ job. option_map_or (place_with kept p w job) (node_at w kept.pool (node_name kept p.node)) w) o w) no_job

pub none_placed : (kept : Snapshot) → kept.job ≡ None → (ps : List Placement) (w : World) → place_all kept w ps ≡ w
none_placed kept no_job [] w = refl
none_placed kept no_job (p ∷ ps) w = none_placed kept no_job ps (place_one kept w p) ∙ not_placed kept no_job p w

-- ---- the namespaces last

placed_lasts : (kept : Snapshot) (p : Placement) (w : World) → Onward Lasts w (place_one kept w p)
unfolding place_one
placed_lasts kept p w = job kept.job
  where
    pool : (node : Node) (x : World) → Onward Lasts w x → (o : Option PoolRows) →
        Onward Lasts w (option_map_or (λ q. put_pool kept.pool (with_place (node_name kept p.node) node q) x) o x)
    pool node x on None = on
    pool node x on (Some q) = on

    node : (j : Job) (o : Option Node) → Onward Lasts w (option_map_or (place_with kept p w j) o w)
    node j None = onward_same Lasts lasts_still w w refl
    node j (Some n) =
        let y = change_tenant kept.namespace (with_allocation (new_allocation kept j p n)) w in
        pool n y (onward_change Lasts lasts_still w kept.namespace (with_allocation (new_allocation kept j p n))
        (λ t _. record { namespace = refl; index = refl; evaluations = itself t.evaluation_number })) (get y.pools kept.pool)

    job : (o : Option Job) → Onward Lasts w (option_map_or (λ job. option_map_or (place_with kept p w job) (node_at w kept.pool (node_name kept p.node)) w) o w)
    job None = onward_same Lasts lasts_still w w refl
    job (Some j) = node j (node_at w kept.pool (node_name kept p.node))

pub all_placed_last : (kept : Snapshot) (ps : List Placement) (w : World) → Onward Lasts w (place_all kept w ps)
all_placed_last kept ps w = onward_each Lasts lasts_still lasts_then (place_one kept) (λ x p. placed_lasts kept p x) ps w
