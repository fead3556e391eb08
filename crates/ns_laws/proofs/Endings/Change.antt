-- What a step may make of an allocation, before and after the step settles.
use Rattle.std.specs.Prelude.{◌≡◌, ℕ, ◌+◌, Bool, true, false, cond, Option, Some, None, option_map}
use Rattle.std.proofs.Common.{refl, sym, ap, subst, ◌∙◌}
use Rattle.std.specs.FinMap.{get}
use Rattle.ns_types.specs.declared.allocation.Allocation.{Allocation}
use Rattle.ns_types.specs.declared.allocation.ClientStatus.{ClientStatus}
use Rattle.ns_types.specs.declared.allocation.ClientStatus.TheVariants as ClientStatuses
use Rattle.ns_types.specs.declared.step.Step.{Step}
use Rattle.ns_types.specs.Asking.Nodes.{may_become}
use Rattle.ns_types.specs.Settling.Releases.{woken}
use Rattle.ns_types.specs.Settling.Settle.{settle, unblocked_in, is_touched, changes_allocation, created_at, stamped_allocation, stamped}
use Rattle.ns_types.specs.Settling.Settle.{stamp_tenant}
use Rattle.ns_types.specs.State.Names.{Key}
use Rattle.ns_types.specs.State.Rows.{World, Tenant, is_live, allocation_at}
use Rattle.ns_types.proofs.Gone.{evicted_row, stopped_row}
use Rattle.ns_types.proofs.Named.{numbers, one_number}
use Rattle.ns_types.proofs.Tables.{get-map_rows}
use Rattle.ns_laws.specs.Ending.{IsStopRequest, IsReportOf, IsNodeDown, IsDeletionOf, IsPlannedStop, IsPlannedEviction, IsPlacedBy}
use Rattle.ns_laws.proofs.Endings.Rows.{Same, row_at}
use Rattle.ns_laws.proofs.Effect.Rows.{settled_rows, settled_tenant}

-- ---- what the step's own change makes of it

-- what a plan's stops and evictions make of it
pub data PlanEnds (w : World) (step : Step) (key : Key) (o o' : Option Allocation) : Type 0 where
  left : o' ≡ o → PlanEnds w step key o o'
  stops : (a : Allocation) → o ≡ Some a → is_live a ≡ true → o' ≡ Some (stopped_row a) → IsPlannedStop w step key →
      PlanEnds w step key o o'
  evicts : (a : Allocation) → o ≡ Some a → is_live a ≡ true → o' ≡ Some (evicted_row a) → IsPlannedEviction w step key a →
      PlanEnds w step key o o'

-- what a plan makes of it
pub data PlanChange (w : World) (step : Step) (key : Key) (o o' : Option Allocation) : Type 0 where
  cuts : PlanEnds w step key o o' → PlanChange w step key o o'
  places : (b : Allocation) → o ≡ None → o' ≡ Some b → IsPlacedBy w step key b → PlanChange w step key o o'

pub data Change (w : World) (step : Step) (key : Key) (o o' : Option Allocation) : Type 0 where
  rests : o' ≡ o → Change w step key o o'
  plans : PlanChange w step key o o' → Change w step key o o'
  asks : (a : Allocation) → o ≡ Some a → is_live a ≡ true → o' ≡ Some (stopped_row a) → IsStopRequest step key →
      Change w step key o o'
  loses : (a : Allocation) → o ≡ Some a → is_live a ≡ true → o' ≡ Some (record a { client = ClientStatuses.Lost }) →
      IsNodeDown step a → Change w step key o o'
  reports : (a : Allocation) (client : ClientStatus) → o ≡ Some a → may_become a.client client ≡ true →
      o' ≡ Some (record a { client = client }) → IsReportOf step key a client → Change w step key o o'
  deletes : (a : Allocation) → o ≡ Some a → is_live a ≡ false → o' ≡ None → IsDeletionOf step key.0 → Change w step key o o'

module _ (w : World) (step : Step) where
  abbrev pub Moves : World → Type 0
  Moves x = (key : Key) → Change w step key (allocation_at w key) (allocation_at x key)

  pub moves_same : (x : World) → Same w x → Moves x
  moves_same x h key = rests (h key)

  pub moves_then : (x y : World) → Moves x → Same x y → Moves y
  moves_then x y h k key = subst (Change w step key (allocation_at w key)) (sym (k key)) (h key)

-- ---- what settling makes of it: other indexes at most

pub record Redated (o : Option Allocation) (b c : Allocation) : Type 0 where
  pub same : c ≡ record b { create_index = c.create_index; modify_index = c.modify_index }
  pub created : (a : Allocation) → o ≡ Some a → a.create_index ≡ b.create_index → c.create_index ≡ b.create_index

pub data Settled (o o' c : Option Allocation) : Type 0 where
  nothing : o' ≡ None → c ≡ None → Settled o o' c
  redated : (b d : Allocation) → o' ≡ Some b → c ≡ Some d → Redated o b d → Settled o o' c

pub settled_same : (o o' : Option Allocation) → Settled o o' o'
settled_same o None = nothing refl refl
settled_same o (Some b) = redated b b refl refl (record { same = refl; created = λ a was e. refl })

stamped_row : (o : Tenant) (n : ℕ) (q : Option Allocation) → Settled (get o.allocations n) q (option_map (stamped_allocation (o.index + 1) o n) q)
stamped_row o n None = nothing refl refl
stamped_row o n (Some b) = by (changes_allocation o n b)
  where
    new : Allocation
    new = record b { create_index = created_at (o.index + 1) (get o.allocations n) (λ (a : Allocation). a.create_index); modify_index = o.index + 1 }

    by : (changes : Bool) → Settled (get o.allocations n) (Some b) (Some (cond changes new b))
    by true = redated b new refl refl (record {
      same = refl;
      created = λ a was e. ap (λ r. created_at (o.index + 1) r (λ (a : Allocation). a.create_index)) was ∙ e;
    })
    by false = redated b b refl refl (record { same = refl; created = λ a was e. refl })

stamped_at : (q : Option Tenant) (t : Tenant) (n : ℕ) → Settled (row_at n q) (get t.allocations n) (get (stamp_tenant q t).allocations n)
unfolding stamp_tenant
stamped_at None t n = settled_same None (get t.allocations n)
stamped_at (Some o) t n = by (is_touched o t)
  where
    by : (b : Bool) → Settled (get o.allocations n) (get t.allocations n) (get (cond b (stamped (o.index + 1) o t) t).allocations n)
    by true = subst (Settled (get o.allocations n) (get t.allocations n))
        (sym (get-map_rows numbers one_number (stamped_allocation (o.index + 1) o) t.allocations n)) (stamped_row o n (get t.allocations n))
    by false = settled_same (get o.allocations n) (get t.allocations n)

pub settled_at : (w w' : World) (key : Key) → Settled (allocation_at w key) (allocation_at w' key) (allocation_at (settle w w') key)
settled_at w w' key = subst (λ q. Settled (allocation_at w key) (allocation_at w' key) (row_at key.1 q)) (sym (settled_tenant w w' key.0))
    (by (get w'.tenants key.0))
  where
    by : (q : Option Tenant) → Settled (allocation_at w key) (row_at key.1 q) (row_at key.1 (option_map (settled_rows w w' key.0) q))
    by None = nothing refl refl
    by (Some t) = stamped_at (get w.tenants key.0) (unblocked_in (woken w w') key.0 t) key.1

-- ---- the whole step

pub record Turn (w x : World) (step : Step) (key : Key) : Type 0 where
  pub own : Option Allocation
  pub change : Change w step key (allocation_at w key) own
  pub settles : Settled (allocation_at w key) own (allocation_at x key)
