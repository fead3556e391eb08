-- The end of a step, as the program makes it.
use Rattle.std.specs.Prelude.{◌≡◌, ◌+◌, Bool, true, false, ◌&&◌, if◌then◌else◌, List, [], ◌∷◌, ◌++◌, nat_lt, Option, Some, None, map}
use Rattle.std.specs.Prelude.{option_map}
use Rattle.std.proofs.Common.{refl, sym, ap, ◌∙◌, append_assoc}
use Rattle.std.proofs.lemmas.List.{append-nil, map-append}
use Rattle.std.specs.Option.{option_map_or}
use Rattle.std.specs.List.{list_any}
use Rattle.std.specs.FinMap.{get}
use Rattle.keyed.specs.Table.{flat, row_at}
use Rattle.ns_types.specs.State.Names.{Name}
use Rattle.ns_types.specs.State.Rows.{World, Tenant}
use Rattle.ns_types.specs.Settling.Settle.{settle, wake}
use Rattle.ns_types.specs.Steps.{greatest, is_past_bound, is_tenant_past_bound}
use Rattle.ns_types.specs.State.Tables.{any_row, map_rows}
use Rattle.ns_types.proofs.Elements.{map_map}
use Rattle.ns_types.proofs.Lists.{left_none, right_none}
use Rattle.ns_types.proofs.Named.{names, one_name}
use Rattle.ns_types.proofs.Tables.{any_row-none, get-map_rows, none_of_any}
use Rattle.ns_change.specs.declared.change.Change.{Change}
use Rattle.ns_change.specs.declared.change.Settled.{Settled}
use Rattle.ns_change.specs.declared.change.TenantChange.{TenantChange}
use Rattle.ns_tables.specs.declared.tables.Tables.{Tables}
use Rattle.ns_tables.specs.declared.tables.TenantRows.{TenantRows}
use Rattle.ns_change.specs.Settled.{publish, settled_world}
use Rattle.ns_settlement.specs.Settles.{any_last, is_last, settled_by, settled_slot, shown_if, unshown}
use Rattle.ns_change.specs.Changed.{changed, changed_tenant, perhaps}
use Rattle.ns_release.specs.Released.{woken_keys}
use Rattle.ns_settlement.specs.Stamped.{changed_events, stamped_rows, stamped_tenant, touches}
use Rattle.ns_tables.specs.World.{tenant_of, world_of}
use Rattle.ns_settlement.proofs.Settling.{settled_is, settles, tenants_then}
use Rattle.ns_tables.proofs.World.{tenant_at}

-- ---- one namespace

module _ (t : Tables) (ns : Name) (y : TenantChange) where
  pub settled_there : (x : TenantRows) → row_at t.tenants ns ≡ Some x → (b : Bool) → touches (tenant_of x) y ≡ b →
      settled_slot (world_of t) ns (Some y) ≡ Some (shown_if b (tenant_of x) y)
  settled_there x at b is = ap (λ o. Some (option_map_or (λ t. shown_if (touches t y) t y) o (unshown y))) (tenant_at t ns ∙ ap (option_map tenant_of) at) ∙
      ap (λ b. Some (shown_if b (tenant_of x) y)) is

  pub settled_nowhere : row_at t.tenants ns ≡ None → settled_slot (world_of t) ns (Some y) ≡ Some (unshown y)
  settled_nowhere at = ap (λ o. Some (option_map_or (λ t. shown_if (touches t y) t y) o (unshown y))) (tenant_at t ns ∙ ap (option_map tenant_of) at)

  pub last_there : (x : TenantRows) → row_at t.tenants ns ≡ Some x →
      is_last (world_of t) ns (Some y) ≡ (touches (tenant_of x) y && nat_lt greatest (x.index + 1))
  last_there x at = ap (λ o. option_map_or (λ t. touches t y && nat_lt greatest (t.index + 1)) o false) (tenant_at t ns ∙ ap (option_map tenant_of) at)

  -- where a row changed, there is an index
  pub rises : (x : TenantRows) → row_at t.tenants ns ≡ Some x → is_last (world_of t) ns (Some y) ≡ false → touches (tenant_of x) y ≡ true →
      nat_lt greatest (x.index + 1) ≡ false
  rises x at none is = ap (λ b. b && nat_lt greatest (x.index + 1)) (sym is) ∙ sym (last_there x at) ∙ none

-- ---- its events

pub three : {A B C D E : Type 0} (f : D → E) (a : A → D) (b : B → D) (c : C → D) (xs : List A) (ys : List B) (zs : List C)
    → (map (λ x. f (a x)) xs ++ map (λ y. f (b y)) ys) ++ map (λ z. f (c z)) zs ≡ map f (map a xs ++ map b ys ++ map c zs)
three f a b c xs ys zs = sym (map-append f (map a xs ++ map b ys) (map c zs) ∙
    (λ i. (map-append f (map a xs) (map b ys) ∙ (λ j. map_map f a xs j ++ map_map f b ys j)) i ++ map_map f c zs i))

-- ---- slot by slot

module _ {X Y : Type 0} (f : X → Y) (p : X → Bool) where
  -- what is left of a loop, of which nothing passes
  abbrev pub IsAhead : List Y → List X → List Y → Type 0
  IsAhead done left all = (done ++ map f left ≡ all) × (list_any p left ≡ false)

  pub next_none : (done : List Y) (left rest : List X) (x : X) (all : List Y) → left ≡ x ∷ rest → IsAhead done left all → p x ≡ false
  next_none done left rest x all is h = left_none (p x) (list_any p rest) (ap (list_any p) (sym is) ∙ h.1)

  pub one_more : (done more : List Y) (left rest : List X) (x : X) (all : List Y) → left ≡ x ∷ rest → more ≡ done ++ f x ∷ [] →
      IsAhead done left all → IsAhead more rest all
  one_more done more left rest x all is pushed h = (
    ap (λ l. l ++ map f rest) pushed ∙ append_assoc done (f x ∷ []) (map f rest) ∙ ap (λ l. done ++ map f l) (sym is) ∙ h.0,
    right_none (p x) (list_any p rest) (ap (list_any p) (sym is) ∙ h.1),
  )

  pub all_there : (done : List Y) (left : List X) (all : List Y) → left ≡ [] → IsAhead done left all → done ≡ all
  all_there done left all is h = sym (append-nil done) ∙ ap (λ l. done ++ map f l) (sym is) ∙ h.0

-- ---- the whole

module _ (w : World) where
  -- where nothing passes the bound afterwards, an index can rise where a row changed
  index_left : (t : Tenant) (x : TenantChange) → is_tenant_past_bound (stamped_tenant t x) ≡ false → (touches t x && nat_lt greatest (t.index + 1)) ≡ false
  unfolding stamped_tenant
  index_left t x within = by (touches t x) within
    where
      by : (b : Bool) → is_tenant_past_bound (if b then publish (changed_tenant t (stamped_rows t x)) (changed_events t x) else changed_tenant t x) ≡ false →
          (b && nat_lt greatest (t.index + 1)) ≡ false
      by true within = left_none _ _ (left_none _ _ within)
      by false within = refl

  pub none_last : (c awake : Change) → changed w awake ≡ wake (woken_keys w c) (changed w c) → is_past_bound (settle w (changed w c)) ≡ false →
      any_last w awake ≡ false
  unfolding is_past_bound any_row
  none_last c awake woke within = any_row-none names one_name (λ ns x. is_last w ns x) awake.tenants (λ ns x at. last ns x at (get w.tenants ns) refl)
    where
      s : Settled
      s = settled_by w c awake

      each_within : any_row (λ _ t. is_tenant_past_bound t) (map_rows (λ ns t. perhaps stamped_tenant (row_at awake.tenants ns) t) w.tenants) ≡ false
      each_within = ap (any_row (λ _ t. is_tenant_past_bound t)) (sym (tenants_then w c awake s (settles w c awake woke)))
          ∙ left_none _ _ (left_none _ _ (ap is_past_bound (sym (settled_is w c awake woke)) ∙ within))

      last : (ns : Name) (x : Option TenantChange) → get awake.tenants ns ≡ Some x → (t : Option Tenant) → get w.tenants ns ≡ t → is_last w ns x ≡ false
      last ns None at t is = refl
      last ns (Some x) at None is = ap (λ o. option_map_or (λ t. touches t x && nat_lt greatest (t.index + 1)) o false) is
      last ns (Some x) at (Some t) is = ap (λ o. option_map_or (λ t. touches t x && nat_lt greatest (t.index + 1)) o false) is ∙
          index_left t x (none_of_any one_name (λ _ t. is_tenant_past_bound t) _ ns (stamped_tenant t x) each_within
          (get-map_rows names one_name _ w.tenants ns ∙ ap (option_map (λ t. perhaps stamped_tenant (row_at awake.tenants ns) t)) is ∙
          ap (λ r. Some (perhaps stamped_tenant (flat r) t)) at))

  pub finished : (c awake : Change) (s : Settled) → changed w awake ≡ wake (woken_keys w c) (changed w c) → s ≡ settled_by w c awake →
      settled_world w s ≡ settle w (changed w c)
  finished c awake s woke is = ap (settled_world w) is ∙ sym (settled_is w c awake woke)
