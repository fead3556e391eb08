-- The driven worker's row.
use Rattle.std.specs.Prelude.{◌≡◌, ℕ, Bool, true, false, cond, List, [], ◌∷◌, Option, Some, None, find, option_map}
use Rattle.std.proofs.Common.{refl, ap, sym, subst, ◌∙◌}
use Rattle.std.specs.FinMap.{contains_key, entries, get}
use Rattle.std.specs.Option.{option_and_then}
use Rattle.ns_types.specs.declared.snapshot.Snapshot.{Snapshot}
use Rattle.ns_types.specs.declared.worker.Phase.{Phase}
use Rattle.ns_types.specs.State.Lists.{Each}
use Rattle.ns_types.specs.State.Names.{Name}
use Rattle.ns_types.specs.State.Rows.{World, Tenant}
use Rattle.ns_types.specs.Working.Looks.{row_of, worker_at}
use Rattle.ns_types.specs.Working.Worker.{Worker}
use Rattle.ns_types.proofs.Named.{names, one_name}
use Rattle.ns_types.proofs.Tables.{each_row}
use Rattle.ns_types.proofs.Tests.{not_Some, same_Some}
use Rattle.ns_broker.specs.Looking.{busy_of}
use Rattle.ns_broker.specs.Snapping.{kept_at}

-- ---- the fields of a row

pub record HasFields (row : Option (Name × Worker)) (fields : Name × ℕ × Phase × ℕ) : Type 0 where
  pub worker : Worker
  pub is_row : row ≡ Some (fields.0, worker)
  pub phase : fields.2 ≡ worker.phase
  pub tries : fields.3 ≡ worker.tries

pub has_fields : (row : Option (Name × Worker)) (fields : Name × ℕ × Phase × ℕ) → Some fields ≡ option_map busy_of row → HasFields row fields
has_fields None fields is = absurd (not_Some fields (sym is))
has_fields (Some (ns, worker)) fields is =
    let same = same_Some fields (busy_of (ns, worker)) is in
    record {
      worker = worker;
      is_row = ap (λ n. Some (n, worker)) (sym (ap (λ x. x.0) same));
      phase = ap (λ x. x.2) same;
      tries = ap (λ x. x.3) same;
    }

-- ---- the row in its namespace

found_each : {A : Type 0} (P : A → Type 0) (f : A → Bool) (xs : List A) (x : A) → Each P xs → find f xs ≡ Some x → P x
found_each P f [] x h is = absurd (not_Some x is)
found_each P f (y ∷ ys) x h is = by (found_each P f ys x h.1) (f y) is
  where
    by : (find f ys ≡ Some x → P x) → (b : Bool) → cond b (Some y) (find f ys) ≡ Some x → P x
    by later true is = subst P (same_Some y x is) h.0
    by later false is = later is

module _ (w : World) (number : ℕ) (ns : Name) (worker : Worker) where
  abbrev named : Name → Worker → Name × Worker
  named n x = (n, x)

  abbrev with_name : Name × Tenant → Option (Name × Worker)
  with_name t = option_map (named t.0) (get t.1.workers number)

  in_tenant : (t : Name × Tenant) (o : Option Worker) → get t.1.workers number ≡ o → get w.tenants t.0 ≡ Some t.1 →
      option_map (named t.0) o ≡ Some (ns, worker) → worker_at w number ns ≡ Some worker
  in_tenant t None has at is = absurd (not_Some (ns, worker) is)
  in_tenant t (Some x) has at is =
      let same = same_Some (t.0, x) (ns, worker) is in
      ap (λ n. option_and_then (λ t. get t.workers number) (get w.tenants n)) (sym (ap (λ p. p.0) same))
      ∙ ap (option_and_then (λ (t : Tenant). get t.workers number)) at ∙ has ∙ ap (λ p. Some p.1) same

  pub row_there : row_of w number ≡ Some (ns, worker) → worker_at w number ns ≡ Some worker
  row_there is = by (find (λ t. contains_key t.1.workers number) (entries w.tenants)) refl is
    where
      by : (o : Option (Name × Tenant)) → find (λ t. contains_key t.1.workers number) (entries w.tenants) ≡ o →
          option_and_then with_name o ≡ Some (ns, worker) → worker_at w number ns ≡ Some worker
      by None found is = absurd (not_Some (ns, worker) is)
      by (Some t) found is = in_tenant t (get t.1.workers number) refl
          (found_each (λ t. get w.tenants t.0 ≡ Some t.1) (λ t. contains_key t.1.workers number) (entries w.tenants) t
          (each_row names one_name (λ k x. get w.tenants k ≡ Some x) w.tenants (λ k x at. at)) found)
          is

  pub keeps : row_of w number ≡ Some (ns, worker) → (seen : Snapshot) → kept_at w number ns ≡ Some seen → worker.kept ≡ Some seen
  keeps is seen has = ap (option_and_then (λ (worker : Worker). worker.kept)) (sym (row_there is)) ∙ has

  -- another row that is found there is the same
  pub same_row : row_of w number ≡ Some (ns, worker) → (other : Worker) → worker_at w number ns ≡ Some other → other ≡ worker
  same_row is other at = same_Some other worker (sym at ∙ row_there is)
