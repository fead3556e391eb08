-- What a change makes of the allocations of a namespace: which the client has still, and in which pool.
use Rattle.std.specs.Prelude.{◌≡◌, ℕ, false, true, Option, Some, None, ◌&&◌}
use Rattle.std.proofs.Common.{◌⊎◌, inl, inr, refl, sym, ap, subst, ◌∙◌}
use Rattle.std.specs.FinMap.{get, insert}
use Rattle.std.specs.Option.{option_map_or}
use Rattle.ns_types.specs.declared.allocation.Allocation.{Allocation}
use Rattle.ns_types.specs.declared.evaluation.Evaluation.{Evaluation}
use Rattle.ns_types.specs.Settling.Making.{with_evaluation, make_in, make}
use Rattle.ns_types.specs.State.Names.{Name, ByNumber}
use Rattle.ns_types.specs.State.Rows.{World, Tenant, is_run, is_held, is_live}
use Rattle.ns_types.proofs.Lists.{not_both}
use Rattle.ns_types.proofs.Named.{numbers, one_number}
use Rattle.ns_types.proofs.TableRows.{row_of_insert}
use Rattle.ns_audit.proofs.ValidAllocations.Going.{Onward, onward_same, onward_make_in}

-- ---- rows that rest: another index at most

pub record RestsRow (rows : ByNumber Allocation) (n : ℕ) (b : Allocation) : Type 0 where
  pub row : Allocation
  pub is_row : get rows n ≡ Some row
  pub pool : b.pool ≡ row.pool
  pub desired : b.desired ≡ row.desired
  pub client : b.client ≡ row.client

abbrev pub Rests : Tenant → Tenant → Type 0
Rests t t' = (n : ℕ) (b : Allocation) → get t'.allocations n ≡ Some b → RestsRow t.allocations n b

pub rests_quiet : (t t' : Tenant) → t'.allocations ≡ t.allocations → Rests t t'
rests_quiet t t' same n b at = record { row = b; is_row = sym (ap (λ m. get m n) same) ∙ at; pool = refl; desired = refl; client = refl }

pub rests_still : (t : Tenant) → Rests t t
rests_still t = rests_quiet t t refl

pub rests_then : (t u v : Tenant) → Rests t u → Rests u v → Rests t v
rests_then t u v a b n x at =
    let r = b n x at in
    let q = a n r.row r.is_row in
    record { row = q.row; is_row = q.is_row; pool = r.pool ∙ q.pool; desired = r.desired ∙ q.desired; client = r.client ∙ q.client }

-- ---- rows that end: held only if they were held, in the same pool

pub record EndsRow (rows : ByNumber Allocation) (n : ℕ) (b : Allocation) : Type 0 where
  pub row : Allocation
  pub is_row : get rows n ≡ Some row
  pub pool : b.pool ≡ row.pool
  pub held : is_held b.client ≡ true → is_held row.client ≡ true

abbrev pub Ends : Tenant → Tenant → Type 0
Ends t t' = (n : ℕ) (b : Allocation) → get t'.allocations n ≡ Some b → EndsRow t.allocations n b

pub ends_quiet : (t t' : Tenant) → t'.allocations ≡ t.allocations → Ends t t'
ends_quiet t t' same n b at = record { row = b; is_row = sym (ap (λ m. get m n) same) ∙ at; pool = refl; held = λ held. held }

pub ends_still : (t : Tenant) → Ends t t
ends_still t = ends_quiet t t refl

pub ends_then : (t u v : Tenant) → Ends t u → Ends u v → Ends t v
ends_then t u v a b n x at =
    let r = b n x at in
    let q = a n r.row r.is_row in
    record { row = q.row; is_row = q.is_row; pool = r.pool ∙ q.pool; held = λ held. q.held (r.held held) }

-- one in the place of another
pub ends_row : (t : Tenant) (n : ℕ) (a b : Allocation) → get t.allocations n ≡ Some a → b.pool ≡ a.pool →
    (is_held b.client ≡ true → is_held a.client ≡ true) → Ends t (record t { allocations = insert t.allocations n b })
ends_row t n a b is pool held m x at = by (row_of_insert numbers one_number t.allocations n b m x at)
  where
    by : ((m ≡ n) × (b ≡ x)) ⊎ (get t.allocations m ≡ Some x) → EndsRow t.allocations m x
    by (inl e) = subst (EndsRow t.allocations m) e.1 (record { row = a; is_row = ap (get t.allocations) e.0 ∙ is; pool = pool; held = held })
    by (inr old) = record { row = x; is_row = old; pool = refl; held = λ held. held }

-- ---- new rows: each is live, and the others are as they were

abbrev pub Adds : Tenant → Tenant → Type 0
Adds t t' = (n : ℕ) (b : Allocation) → get t'.allocations n ≡ Some b → (get t.allocations n ≡ Some b) ⊎ (is_live b ≡ true)

pub adds_quiet : (t t' : Tenant) → t'.allocations ≡ t.allocations → Adds t t'
adds_quiet t t' same n b at = inl (sym (ap (λ m. get m n) same) ∙ at)

pub adds_still : (t : Tenant) → Adds t t
adds_still t = adds_quiet t t refl

pub adds_then : (t u v : Tenant) → Adds t u → Adds u v → Adds t v
adds_then t u v a b n x at = by (b n x at)
  where
    by : (get u.allocations n ≡ Some x) ⊎ (is_live x ≡ true) → (get t.allocations n ≡ Some x) ⊎ (is_live x ≡ true)
    by (inl was) = a n x was
    by (inr live) = inr live

-- ---- new evaluations leave allocations

module _ (P : Tenant → Tenant → Type 0) (quiet : (t t' : Tenant) → t'.allocations ≡ t.allocations → P t t') where
  still : (t : Tenant) → P t t
  still t = quiet t t refl

  pub onward_make : (ns : Name) (evaluation : Tenant → Evaluation) (w : World) → Onward P w (make ns evaluation w)
  onward_make ns evaluation w = by (get w.tenants ns) refl
    where
      by : (o : Option Tenant) → get w.tenants ns ≡ o → Onward P w (option_map_or (λ t. make_in ns (evaluation t) w t) o w)
      by None is = onward_same P still w w refl
      by (Some t) is = onward_make_in P still w ns (evaluation t) t t is (quiet t (with_evaluation (evaluation t) t) refl)

-- ---- worlds

-- an allocation was held in w, in that pool
pub record WasHeld (w : World) (ns : Name) (n : ℕ) (pool : Name) : Type 0 where
  pub tenant : Tenant
  pub is_tenant : get w.tenants ns ≡ Some tenant
  pub row : Allocation
  pub is_row : get tenant.allocations n ≡ Some row
  pub held : is_held row.client ≡ true
  pub same : row.pool ≡ pool

-- what is held in x and not live was held in w
abbrev pub Holds : World → World → Type 0
Holds w x = (ns : Name) (t : Tenant) (n : ℕ) (b : Allocation) → get x.tenants ns ≡ Some t → get t.allocations n ≡ Some b → is_held b.client ≡ true →
    is_live b ≡ false → WasHeld w ns n b.pool

-- some end, and then new ones come
pub holds_added : (w x y : World) → Onward Ends w x → Onward Adds x y → Holds w y
holds_added w x y ends adds ns t n b is at held dead =
    let a = adds ns t is in
    by a.0 a.1 (a.2 n b at)
  where
    by : (u : Tenant) → get x.tenants ns ≡ Some u → (get u.allocations n ≡ Some b) ⊎ (is_live b ≡ true) → WasHeld w ns n b.pool
    by u there (inl was) =
        let e = ends ns u there in
        let r = e.2 n b was in
        record { tenant = e.0; is_tenant = e.1; row = r.row; is_row = r.is_row; held = r.held held; same = sym r.pool }
    by u there (inr live) = not_both live dead

pub holds_ended : (w x : World) → Onward Ends w x → Holds w x
holds_ended w x ends = holds_added w x x ends (onward_same Adds adds_still x x refl)

-- where the namespaces are the same
pub holds_same : (w x : World) → x.tenants ≡ w.tenants → Holds w x
holds_same w x same = holds_ended w x (onward_same Ends ends_still w x same)

pub holds_rested : (w x y : World) → Holds w x → Onward Rests x y → Holds w y
holds_rested w x y holds rests ns t n b is at held dead =
    let a = rests ns t is in
    let r = a.2 n b at in
    let q = holds ns a.0 n r.row a.1 r.is_row (ap is_held (sym r.client) ∙ held) ((λ i. is_run (sym r.desired i) && is_held (sym r.client i)) ∙ dead) in
    record { tenant = q.tenant; is_tenant = q.is_tenant; row = q.row; is_row = q.is_row; held = q.held; same = q.same ∙ sym r.pool }
