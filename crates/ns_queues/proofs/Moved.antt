-- Evaluations in the world that a settled step leaves, and that one moves just where a changed one does.
use Rattle.std.specs.Prelude.{◌≡◌, ℕ, Bool, true, false, not, ◌&&◌, ◌||◌, List, [], ◌∷◌, Option, Some, None, option_map, unwrap_or}
use Rattle.std.proofs.Common.{refl, sym, ap, subst, ◌∙◌}
use Rattle.std.specs.Option.{option_and_then}
use Rattle.std.specs.List.{list_all, list_any}
use Rattle.std.specs.FinMap.{entries, get}
use Rattle.keyed.specs.Over.{over}
use Rattle.keyed.specs.Table.{flat, row_at, rows}
use Rattle.keyed.proofs.Over.{get-over}
use Rattle.keyed.proofs.Tables.{get-rows}
use Rattle.ns_types.specs.declared.evaluation.Evaluation.{Evaluation}
use Rattle.ns_types.specs.declared.event.Event.{Event}
use Rattle.ns_types.specs.State.Lists.{Each}
use Rattle.ns_types.specs.State.Names.{Key, Name, has_key, same_key}
use Rattle.ns_types.specs.State.Rows.{Tenant, World, evaluation_at}
use Rattle.ns_types.specs.State.Tables.{any_row}
use Rattle.ns_types.proofs.Elements.{all_from_each, each_from_all}
use Rattle.ns_types.proofs.Lists.{each_map, not_both}
use Rattle.ns_types.proofs.Named.{names, numbers, one_name, one_number}
use Rattle.ns_types.proofs.Once.{each_member, key_is}
use Rattle.ns_types.proofs.Tables.{any_row-none, get-map_rows, none_of_any}
use Rattle.ns_types.proofs.Tests.{is_yes}
use Rattle.ns_change.specs.Changed.{changed_tenant, perhaps}
use Rattle.ns_change.specs.Settled.{publish, settled_tenant, settled_world}
use Rattle.ns_change.specs.declared.change.Settled.{Settled}
use Rattle.ns_change.specs.declared.change.SettledTenant.{SettledTenant}
use Rattle.ns_queues.specs.After.{Moves, NoneMoves, StillUnmoved, any_moves, moves_in, moves_of, moves_slot}
use Rattle.ns_tables.specs.World.{tenant_of, world_of}
use Rattle.ns_tables.specs.declared.tables.Tables.{Tables}
use Rattle.ns_tables.specs.declared.tables.TenantRows.{TenantRows}
use Rattle.ns_tables.proofs.World.{evaluation_nowhere, evaluation_there, tenant_at}

-- events move no evaluation
published_same : (events : Option (List Event)) (t : Tenant) → (perhaps publish events t).evaluations ≡ t.evaluations
published_same None t = refl
published_same (Some events) t = refl

pub tenant_settled : (w : World) (s : Settled) (ns : Name) →
    get (settled_world w s).tenants ns ≡ option_map (perhaps settled_tenant (row_at s.tenants ns)) (get w.tenants ns)
unfolding settled_world
tenant_settled w s ns = get-map_rows names one_name _ w.tenants ns

module _ (t : Tables) (s : Settled) (ns : Name) where
  abbrev after : ℕ → Option Evaluation
  after n = evaluation_at (settled_world (world_of t) s) (ns, n)

  abbrev of : ℕ → Option Tenant → Option Evaluation
  of n = option_and_then (λ t. get t.evaluations n)

  settled_at : (n : ℕ) → after n ≡ of n (option_map (perhaps settled_tenant (row_at s.tenants ns)) (option_map tenant_of (row_at t.tenants ns)))
  settled_at n = ap (of n) (tenant_settled (world_of t) s ns ∙ ap (option_map (perhaps settled_tenant (row_at s.tenants ns))) (tenant_at t ns))

  pub after_nowhere : (n : ℕ) → row_at t.tenants ns ≡ None → after n ≡ None
  after_nowhere n is = settled_at n ∙ ap (λ r. of n (option_map (perhaps settled_tenant (row_at s.tenants ns)) (option_map tenant_of r))) is

  module _ (x : TenantRows) (is : row_at t.tenants ns ≡ Some x) where
    pub after_kept : (n : ℕ) → row_at s.tenants ns ≡ None → after n ≡ row_at x.evaluations.slots n
    after_kept n none = settled_at n ∙ (λ i. of n (option_map (perhaps settled_tenant (none i)) (option_map tenant_of (is i))))
        ∙ get-rows numbers x.evaluations.slots n

    pub after_changed : (y : SettledTenant) (n : ℕ) → row_at s.tenants ns ≡ Some y →
        after n ≡ get (over (rows x.evaluations.slots) y.rows.evaluations) n
    after_changed y n some = settled_at n ∙ (λ i. of n (option_map (perhaps settled_tenant (some i)) (option_map tenant_of (is i))))
        ∙ ap (λ m. get m n) (published_same y.events (changed_tenant (tenant_of x) y.rows))

-- ---- none moves

module _ (t : Tables) (s : Settled) (moves : Moves) (still : StillUnmoved moves) where
  none_of_slot : (ns : Name) (slot : Option SettledTenant) → list_any (moves_in moves t.tenants) (entries s.tenants) ≡ false →
      get s.tenants ns ≡ Some slot → moves_of moves ns (row_at t.tenants ns) slot ≡ false
  unfolding any_row
  none_of_slot ns slot none at = none_of_any one_name (λ ns slot. moves_of moves ns (row_at t.tenants ns) slot) s.tenants ns slot none at

  module _ (ns : Name) (x : TenantRows) (is : row_at t.tenants ns ≡ Some x) where
    before_at : (n : ℕ) → evaluation_at (world_of t) (ns, n) ≡ row_at x.evaluations.slots n
    before_at n = evaluation_there t ns n x is

    row_unmoved : (y : SettledTenant) (n : ℕ) → list_any (moves_slot moves ns x.evaluations.slots) (entries y.rows.evaluations) ≡ false →
        (r : Option (Option Evaluation)) → get y.rows.evaluations n ≡ r →
        moves (ns, n) (row_at x.evaluations.slots n) (unwrap_or r (row_at x.evaluations.slots n)) ≡ false
    unfolding any_row
    row_unmoved y n none None at = still (ns, n) (row_at x.evaluations.slots n)
    row_unmoved y n none (Some row) at =
        none_of_any one_number (λ n row. moves (ns, n) (row_at x.evaluations.slots n) row) y.rows.evaluations n row none at

    unmoved_in : (n : ℕ) (y : Option SettledTenant) → row_at s.tenants ns ≡ y → moves_of moves ns (Some x) y ≡ false →
        moves (ns, n) (evaluation_at (world_of t) (ns, n)) (evaluation_at (settled_world (world_of t) s) (ns, n)) ≡ false
    unmoved_in n None at none = (λ i. moves (ns, n) (before_at n i) (after_kept t s ns x is n at i)) ∙ still (ns, n) (row_at x.evaluations.slots n)
    unmoved_in n (Some y) at none = (λ i. moves (ns, n) (before_at n i) ((after_changed t s ns x is y n at
        ∙ get-over numbers one_number (rows x.evaluations.slots) y.rows.evaluations n
        ∙ ap (unwrap_or (get y.rows.evaluations n)) (get-rows numbers x.evaluations.slots n)) i))
        ∙ row_unmoved y n none (get y.rows.evaluations n) refl

  pub none_moved : list_any (moves_in moves t.tenants) (entries s.tenants) ≡ false → NoneMoves moves (world_of t) (settled_world (world_of t) s)
  none_moved none (ns, n) = by (row_at t.tenants ns) refl
    where
      none_in : (slot : Option (Option SettledTenant)) → get s.tenants ns ≡ slot → moves_of moves ns (row_at t.tenants ns) (flat slot) ≡ false
      none_in None at = no_change (row_at t.tenants ns)
        where
          no_change : (r : Option TenantRows) → moves_of moves ns r None ≡ false
          no_change None = refl
          no_change (Some x) = refl
      none_in (Some slot) at = none_of_slot ns slot none at

      by : (r : Option TenantRows) → row_at t.tenants ns ≡ r →
          moves (ns, n) (evaluation_at (world_of t) (ns, n)) (evaluation_at (settled_world (world_of t) s) (ns, n)) ≡ false
      by None is = (λ i. moves (ns, n) (evaluation_nowhere t ns n is i) (after_nowhere t s ns n is i)) ∙ still (ns, n) None
      by (Some x) is = unmoved_in ns x is n (row_at s.tenants ns) refl
          (ap (λ r. moves_of moves ns r (row_at s.tenants ns)) (sym is) ∙ none_in (get s.tenants ns) refl)

  -- ---- where none moves, no changed one does

  module _ (none : NoneMoves moves (world_of t) (settled_world (world_of t) s)) (ns : Name) where
    slots_unmoved : (x : TenantRows) → row_at t.tenants ns ≡ Some x → (y : SettledTenant) → row_at s.tenants ns ≡ Some y →
        list_any (moves_slot moves ns x.evaluations.slots) (entries y.rows.evaluations) ≡ false
    unfolding any_row
    slots_unmoved x is y at = any_row-none numbers one_number (λ n row. moves (ns, n) (row_at x.evaluations.slots n) row) y.rows.evaluations
        (λ n row there. sym (λ i. moves (ns, n) (before_at ns x is n i) ((after_changed t s ns x is y n at
        ∙ get-over numbers one_number (rows x.evaluations.slots) y.rows.evaluations n
        ∙ ap (λ slot. unwrap_or slot (get (rows x.evaluations.slots) n)) there) i)) ∙ none (ns, n))

    slot_unmoved : (slot : Option SettledTenant) → get s.tenants ns ≡ Some slot → moves_of moves ns (row_at t.tenants ns) slot ≡ false
    slot_unmoved slot at = by (row_at t.tenants ns) refl slot at
      where
        by : (r : Option TenantRows) → row_at t.tenants ns ≡ r → (slot : Option SettledTenant) → get s.tenants ns ≡ Some slot →
            moves_of moves ns r slot ≡ false
        by None is slot at = refl
        by (Some x) is None at = refl
        by (Some x) is (Some y) at = slots_unmoved x is y (ap flat at)

  pub none_changed : NoneMoves moves (world_of t) (settled_world (world_of t) s) → any_moves moves t s ≡ false
  unfolding any_row
  none_changed none = any_row-none names one_name (λ ns slot. moves_of moves ns (row_at t.tenants ns) slot) s.tenants (slot_unmoved none)

-- ---- moves among the keys of a list

at_key : (P : Key → Type 0) (key : Key) (keys : List Key) → Each P keys → has_key keys key ≡ true → P key
at_key P key [] each has = not_both has refl
at_key P key (k ∷ keys) each has = by (same_key key k) refl (at_key P key keys each.1) has
  where
    by : (b : Bool) → same_key key k ≡ b → (has_key keys key ≡ true → P key) → (b || has_key keys key) ≡ true → P key
    by true same later has = subst P (sym (key_is key k same)) each.0
    by false same later has = later has

-- an evaluation moves that is in the list and does not pass a test
module _ (t : Tables) (s : Settled) (moves : Moves) (still : StillUnmoved moves) (keys : List Key) (passes : Key → Bool)
    (tests : (key : Key) → moves key (evaluation_at (world_of t) key) (evaluation_at (settled_world (world_of t) s) key)
    ≡ (has_key keys key && not (passes key))) where
  all_pass : NoneMoves moves (world_of t) (settled_world (world_of t) s) → list_all passes keys ≡ true
  all_pass none = all_from_each passes keys (each_map
      (λ key has. is_yes (passes key) (ap (λ b. b && not (passes key)) (sym has) ∙ sym (tests key) ∙ none key)) keys (each_member keys))

  all_unmoved : list_all passes keys ≡ true → NoneMoves moves (world_of t) (settled_world (world_of t) s)
  all_unmoved all key = tests key ∙ by (has_key keys key) refl
    where
      by : (b : Bool) → has_key keys key ≡ b → (b && not (passes key)) ≡ false
      by true has = ap not (at_key (λ key. passes key ≡ true) key keys (each_from_all passes keys all) has)
      by false has = refl

  pub all_unless_moved : list_all passes keys ≡ not (any_moves moves t s)
  all_unless_moved = by (any_moves moves t s) refl (list_all passes keys) refl
    where
      by : (a : Bool) → any_moves moves t s ≡ a → (b : Bool) → list_all passes keys ≡ b → b ≡ not a
      by false none b is = sym is ∙ all_pass (none_moved t s moves still none)
      by true some true is = not_both some (none_changed t s moves still (all_unmoved is))
      by true some false is = refl
