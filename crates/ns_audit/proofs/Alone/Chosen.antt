-- Rows of chosen owners are read alike, and a change of one owner goes along with the choice.
use Rattle.std.specs.Prelude.{◌≡◌, ℕ, Bool, true, false, cond, not, List, [], ◌∷◌, ◌++◌, Option, Some, None, ◌&&◌, filter}
use Rattle.std.proofs.Common.{append-nil, refl, sym, ap, ◌∙◌}
use Rattle.std.specs.Option.{option_map_or, option_and_then}
use Rattle.std.specs.FinMap.{get, get-remove, insert, remove, retain_keys, same_map}
use Rattle.std.specs.Ordering.{eq_by_cmp}
use Rattle.ns_types.specs.Isolation.{Part, alone_in}
use Rattle.ns_types.specs.Settling.Making.{put_tenant, put_pool, change_tenant}
use Rattle.ns_types.specs.State.Names.{Name, Key, ByName, name_cmp, same_name, same_key, has_key}
use Rattle.ns_types.specs.State.Rows.{World, Tenant, PoolRows, evaluation_at, allocation_at, node_at}
use Rattle.ns_types.specs.Working.Work.{without_key}
use Rattle.ns_types.proofs.Lists.{cond_same, not_both, filter_chosen, filter_all, filter-append, any_chosen, each}
use Rattle.ns_types.proofs.Named.{names, one_name, same_name_is}
use Rattle.ns_types.proofs.Tables.{get-retain, retain-insert, tied}

-- a choice of keys goes through a removal
pub retain-remove : {X : Type 0} (m : ByName X) (p : Name → Bool) (k : Name) →
    retain_keys (remove m k) p ≡ cond (p k) (remove (retain_keys m p) k) (retain_keys m p)
retain-remove {X = X} m p k = same_map names one_name _ _ (λ q.
    get-retain names one_name (remove m k) p q ∙ ap (λ x. cond (p q) x None) (get-remove names m k q) ∙ by q (eq_by_cmp name_cmp q k) refl)
  where
    no_row : Option X
    no_row = None

    at : (q : Name) (c : Bool) → p q ≡ c → eq_by_cmp name_cmp q k ≡ true → cond c no_row None ≡ get (cond c (remove (retain_keys m p) k) (retain_keys m p)) q
    at q true own t = sym (get-remove names (retain_keys m p) k q ∙ ap (λ b. cond b None (get (retain_keys m p) q)) t)
    at q false other t = sym (get-retain names one_name m p q ∙ ap (λ b. cond b (get m q) None) other)

    elsewhere : (q : Name) (c : Bool) → eq_by_cmp name_cmp q k ≡ false → get (retain_keys m p) q ≡ get (cond c (remove (retain_keys m p) k) (retain_keys m p)) q
    elsewhere q true t = sym (get-remove names (retain_keys m p) k q ∙ ap (λ b. cond b None (get (retain_keys m p) q)) t)
    elsewhere q false t = refl

    by : (q : Name) (b : Bool) → eq_by_cmp name_cmp q k ≡ b →
        cond (p q) (cond b None (get m q)) None ≡ get (cond (p k) (remove (retain_keys m p) k) (retain_keys m p)) q
    by q true t = at q (p q) refl t ∙ ap (λ c. get (cond c (remove (retain_keys m p) k) (retain_keys m p)) q) (ap p (tied one_name q k t))
    by q false t = sym (get-retain names one_name m p q) ∙ elsewhere q (p k) t

module _ (part : Part) where
  -- ---- reads

  pub tenant_alone : (w : World) (ns : Name) → part.spaces ns ≡ true → get (alone_in part w).tenants ns ≡ get w.tenants ns
  tenant_alone w ns own = get-retain names one_name w.tenants part.spaces ns ∙ ap (λ b. cond b (get w.tenants ns) None) own

  pub pool_alone : (w : World) (p : Name) → part.pools p ≡ true → get (alone_in part w).pools p ≡ get w.pools p
  pool_alone w p own = get-retain names one_name w.pools part.pools p ∙ ap (λ b. cond b (get w.pools p) None) own

  pub quota_alone : (w : World) (q : Name) → part.quotas q ≡ true → get (alone_in part w).quotas q ≡ get w.quotas q
  quota_alone w q own = get-retain names one_name w.quotas part.quotas q ∙ ap (λ b. cond b (get w.quotas q) None) own

  pub evaluation_alone : (w : World) (key : Key) → part.spaces key.0 ≡ true → evaluation_at (alone_in part w) key ≡ evaluation_at w key
  evaluation_alone w key own = ap (option_and_then (λ t. get t.evaluations key.1)) (tenant_alone w key.0 own)

  pub allocation_alone : (w : World) (key : Key) → part.spaces key.0 ≡ true → allocation_at (alone_in part w) key ≡ allocation_at w key
  allocation_alone w key own = ap (option_and_then (λ t. get t.allocations key.1)) (tenant_alone w key.0 own)

  pub node_alone : (w : World) (pool node : Name) → part.pools pool ≡ true → node_at (alone_in part w) pool node ≡ node_at w pool node
  node_alone w pool node own = ap (option_and_then (λ p. get p.nodes node)) (pool_alone w pool own)

  pub has_key_alone : (keys : List Key) (key : Key) → part.spaces key.0 ≡ true → has_key keys key ≡ has_key (filter (λ key. part.spaces key.0) keys) key
  has_key_alone keys key own = any_chosen (λ key. part.spaces key.0) (same_key key) keys (each _ (λ k other. foreign k other (same_name key.0 k.0) refl _) keys)
    where
      foreign : (k : Key) → part.spaces k.0 ≡ false → (b : Bool) → same_name key.0 k.0 ≡ b → (r : Bool) → (b && r) ≡ false
      foreign k other false _ r = refl
      foreign k other true is r = not_both (ap part.spaces (sym (same_name_is key.0 k.0 is)) ∙ own) other

-- ---- changes

-- a change on the side b of the choice: among the chosen owners it is the same change, or none
abbrev pub GoesAlone : Part → Bool → (World → World) → Type 0
GoesAlone part b f = (w : World) → alone_in part (f w) ≡ cond b (f (alone_in part w)) (alone_in part w)

module _ (part : Part) (b : Bool) where
  pub goes_then : (f g : World → World) → GoesAlone part b f → GoesAlone part b g → GoesAlone part b (λ w. g (f w))
  goes_then f g hf hg w = hg (f w) ∙ ap (λ x. cond b (g x) x) (hf w)
      ∙ elim b as (λ b. cond b (g (cond b (f (alone_in part w)) (alone_in part w))) (cond b (f (alone_in part w)) (alone_in part w)) ≡ cond b
      (g (f (alone_in part w))) (alone_in part w)) [ true ↦ refl | false ↦ refl ]

  pub goes_nowhere : GoesAlone part b (λ w. w)
  goes_nowhere w = sym (cond_same b (alone_in part w))

  pub goes_if : (c : World → Bool) (f g : World → World) → ((w : World) → b ≡ true → c w ≡ c (alone_in part w)) → GoesAlone part b f → GoesAlone part b g →
      GoesAlone part b (λ w. cond (c w) (f w) (g w))
  goes_if c f g alike hf hg w =
      elim (c w) as (λ d. alone_in part (cond d (f w) (g w)) ≡ cond d (cond b (f (alone_in part w)) (alone_in part w))
      (cond b (g (alone_in part w)) (alone_in part w))) [ true ↦ hf w | false ↦ hg w ]
      ∙ by b refl
    where
      by : (s : Bool) → b ≡ s → cond (c w) (cond s (f (alone_in part w)) (alone_in part w)) (cond s (g (alone_in part w)) (alone_in part w)) ≡ cond s
          (cond (c (alone_in part w)) (f (alone_in part w)) (g (alone_in part w))) (alone_in part w)
      by true own = ap (λ d. cond d (f (alone_in part w)) (g (alone_in part w))) (alike w own)
      by false other = cond_same (c w) (alone_in part w)

  pub goes_with : {A : Type 0} (r : World → Option A) (f : A → World → World) → ((w : World) → b ≡ true → r w ≡ r (alone_in part w)) →
      ((a : A) → GoesAlone part b (f a)) → GoesAlone part b (λ w. option_map_or (λ a. f a w) (r w) w)
  goes_with {A = A} r f alike hf w = here (r w) ∙ by b refl
    where
      here : (o : Option A) → alone_in part (option_map_or (λ a. f a w) o w) ≡ cond b (option_map_or (λ a. f a (alone_in part w)) o (alone_in part w))
          (alone_in part w)
      here None = goes_nowhere w
      here (Some a) = hf a w

      by : (s : Bool) → b ≡ s → cond s (option_map_or (λ a. f a (alone_in part w)) (r w) (alone_in part w)) (alone_in part w) ≡ cond s
          (option_map_or (λ a. f a (alone_in part w)) (r (alone_in part w)) (alone_in part w)) (alone_in part w)
      by true own = ap (λ o. option_map_or (λ a. f a (alone_in part w)) o (alone_in part w)) (alike w own)
      by false other = refl

  pub its_own : (f : World → World) (w : World) → GoesAlone part b f → b ≡ true → alone_in part (f w) ≡ f (alone_in part w)
  its_own f w h own = h w ∙ ap (λ b. cond b (f (alone_in part w)) (alone_in part w)) own

  pub not_its_own : (f : World → World) (w : World) → GoesAlone part b f → b ≡ false → alone_in part (f w) ≡ alone_in part w
  not_its_own f w h other = h w ∙ ap (λ b. cond b (f (alone_in part w)) (alone_in part w)) other

  -- ---- rows of a pool

  pub goes_pool : (name : Name) (pool : PoolRows) → part.pools name ≡ b → GoesAlone part b (put_pool name pool)
  goes_pool name pool side w = (λ i. record (alone_in part w) {
    pools = (retain-insert names one_name w.pools part.pools name pool ∙ ap (λ b. cond b (insert (alone_in part w).pools name pool) (alone_in part w).pools)
        side) i;
  })
      ∙ elim b as (λ b. ◌≡◌ {A = World} (record (alone_in part w) { pools = cond b (insert (alone_in part w).pools name pool) (alone_in part w).pools })
      (cond b (put_pool name pool (alone_in part w)) (alone_in part w))) [ true ↦ refl | false ↦ refl ]

  module _ (ns : Name) (side : part.spaces ns ≡ b) where
    -- ---- rows of a namespace

    pub goes_put : (t : Tenant) → GoesAlone part b (put_tenant ns t)
    goes_put t w = (λ i. record (alone_in part w) {
      tenants = (retain-insert names one_name w.tenants part.spaces ns t ∙
          ap (λ b. cond b (insert (alone_in part w).tenants ns t) (alone_in part w).tenants) side) i;
    })
        ∙ elim b as (λ b. ◌≡◌ {A = World} (record (alone_in part w) { tenants = cond b (insert (alone_in part w).tenants ns t) (alone_in part w).tenants })
        (cond b (put_tenant ns t (alone_in part w)) (alone_in part w))) [ true ↦ refl | false ↦ refl ]

    pub tenant_seen : (w : World) → b ≡ true → get w.tenants ns ≡ get (alone_in part w).tenants ns
    tenant_seen w own = sym (tenant_alone part w ns (side ∙ own))

    pub goes_change : (f : Tenant → Tenant) → GoesAlone part b (change_tenant ns f)
    goes_change f = goes_with (λ w. get w.tenants ns) (λ t w. put_tenant ns (f t) w) tenant_seen (λ t. goes_put (f t))

    -- ---- entries of a namespace

    not_same : (n : ℕ) (k : Key) (c : Bool) → part.spaces ns ≡ false → part.spaces k.0 ≡ true → same_name ns k.0 ≡ c → (r : Bool) → not (c && r) ≡ true
    not_same n k false other own _ r = refl
    not_same n k true other own is r = not_both (ap part.spaces (same_name_is ns k.0 is) ∙ own) other

    -- to take one out of a list
    pub taken_out : (n : ℕ) (keys : List Key) → filter (λ k. part.spaces k.0) (without_key (ns, n) keys)
        ≡ cond b (without_key (ns, n) (filter (λ k. part.spaces k.0) keys)) (filter (λ k. part.spaces k.0) keys)
    taken_out n keys = by b refl
      where
        by : (s : Bool) → b ≡ s → filter (λ k. part.spaces k.0) (filter (λ k. not (same_key (ns, n) k)) keys)
            ≡ cond s (filter (λ k. not (same_key (ns, n) k)) (filter (λ k. part.spaces k.0) keys)) (filter (λ k. part.spaces k.0) keys)
        by true _ = filter_chosen _ _ _ keys (each _ (λ k own. refl) keys)
        by false other = filter_chosen (λ k. part.spaces k.0) _ (λ _. true) keys
            (each _ (λ k own. not_same n k (same_name ns k.0) (side ∙ other) own refl _) keys)
            ∙ filter_all (λ _. true) _ (each _ (λ k. refl) (filter (λ k. part.spaces k.0) keys))

    -- to append one
    pub put_in : (n : ℕ) (keys : List Key) → filter (λ k. part.spaces k.0) (keys ++ (ns, n) ∷ []) ≡ cond b (filter (λ k. part.spaces k.0) keys ++ (ns, n) ∷ [])
        (filter (λ k. part.spaces k.0) keys)
    put_in n keys = filter-append _ keys ((ns, n) ∷ []) ∙ ap (λ b. filter (λ k. part.spaces k.0) keys ++ cond b ((ns, n) ∷ []) []) side
        ∙ elim b as (λ b. filter (λ k. part.spaces k.0) keys ++ cond b ((ns, n) ∷ []) [] ≡ cond b (filter (λ k. part.spaces k.0) keys ++ (ns, n) ∷ [])
        (filter (λ k. part.spaces k.0) keys)) [ true ↦ refl | false ↦ append-nil _ ]

    pub goes_ready : (n : ℕ) → GoesAlone part b (λ w. record w { ready = w.ready ++ (ns, n) ∷ [] })
    goes_ready n w = (λ i. record (alone_in part w) { ready = put_in n w.ready i })
        ∙ elim b as (λ b. ◌≡◌ {A = World} (record (alone_in part w) { ready = cond b ((alone_in part w).ready ++ (ns, n) ∷ []) (alone_in part w).ready })
        (cond b (record (alone_in part w) { ready = (alone_in part w).ready ++ (ns, n) ∷ [] }) (alone_in part w))) [ true ↦ refl | false ↦ refl ]

    pub goes_plans : (n : ℕ) → GoesAlone part b (λ w. record w { plans = w.plans ++ (ns, n) ∷ [] })
    goes_plans n w = (λ i. record (alone_in part w) { plans = put_in n w.plans i })
        ∙ elim b as (λ b. ◌≡◌ {A = World} (record (alone_in part w) { plans = cond b ((alone_in part w).plans ++ (ns, n) ∷ []) (alone_in part w).plans })
        (cond b (record (alone_in part w) { plans = (alone_in part w).plans ++ (ns, n) ∷ [] }) (alone_in part w))) [ true ↦ refl | false ↦ refl ]

    pub goes_blocked : (n : ℕ) → GoesAlone part b (λ w. record w { blocked = w.blocked ++ (ns, n) ∷ [] })
    goes_blocked n w = (λ i. record (alone_in part w) { blocked = put_in n w.blocked i })
        ∙ elim b as (λ b. ◌≡◌ {A = World} (record (alone_in part w) { blocked = cond b ((alone_in part w).blocked ++ (ns, n) ∷ []) (alone_in part w).blocked })
        (cond b (record (alone_in part w) { blocked = (alone_in part w).blocked ++ (ns, n) ∷ [] }) (alone_in part w))) [ true ↦ refl | false ↦ refl ]

    pub goes_unready : (n : ℕ) → GoesAlone part b (λ w. record w { ready = without_key (ns, n) w.ready })
    goes_unready n w = (λ i. record (alone_in part w) { ready = taken_out n w.ready i })
        ∙ elim b as (λ b. ◌≡◌ {A = World} (record (alone_in part w) { ready = cond b (without_key (ns, n) (alone_in part w).ready) (alone_in part w).ready })
        (cond b (record (alone_in part w) { ready = without_key (ns, n) (alone_in part w).ready }) (alone_in part w))) [ true ↦ refl | false ↦ refl ]

    pub goes_unplanned : (n : ℕ) → GoesAlone part b (λ w. record w { plans = without_key (ns, n) w.plans })
    goes_unplanned n w = (λ i. record (alone_in part w) { plans = taken_out n w.plans i })
        ∙ elim b as (λ b. ◌≡◌ {A = World} (record (alone_in part w) { plans = cond b (without_key (ns, n) (alone_in part w).plans) (alone_in part w).plans })
        (cond b (record (alone_in part w) { plans = without_key (ns, n) (alone_in part w).plans }) (alone_in part w))) [ true ↦ refl | false ↦ refl ]

    pub goes_unblocked : (n : ℕ) → GoesAlone part b (λ w. record w { blocked = without_key (ns, n) w.blocked })
    goes_unblocked n w = (λ i. record (alone_in part w) { blocked = taken_out n w.blocked i })
        ∙ elim b as (λ b. ◌≡◌ {A = World} (record (alone_in part w)
        { blocked = cond b (without_key (ns, n) (alone_in part w).blocked) (alone_in part w).blocked })
        (cond b (record (alone_in part w) { blocked = without_key (ns, n) (alone_in part w).blocked }) (alone_in part w))) [ true ↦ refl | false ↦ refl ]
