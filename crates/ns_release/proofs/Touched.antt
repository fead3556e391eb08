-- Whether a namespace is touched is asked of its changed rows alone.
use Rattle.std.specs.Prelude.{◌≡◌, Bool, true, false, Option, Some, None, ◌||◌, is_some, unwrap_or}
use Rattle.std.proofs.Common.{refl, ap, ◌∙◌}
use Rattle.std.specs.Option.{option_or, option_map_or}
use Rattle.std.specs.List.{list_any}
use Rattle.std.specs.FinMap.{entries, get, contains_key}
use Rattle.ns_types.specs.declared.job.Job.{Job}
use Rattle.ns_types.specs.State.Names.{Name}
use Rattle.ns_types.specs.State.Rows.{Tenant}
use Rattle.ns_types.specs.Settling.Same.{same_job}
use Rattle.ns_types.specs.Settling.Settle.{is_changed, changes_job, changes_evaluation, changes_allocation}
use Rattle.ns_types.specs.State.Tables.{any_row}
use Rattle.ns_types.proofs.Lists.{not_both, any_alike}
use Rattle.ns_types.proofs.Named.{names, one_name, numbers, one_number}
use Rattle.ns_types.proofs.Tables.{any_row-none, each_row, none_of_any}
use Rattle.ns_types.proofs.Settling.{kept_job, kept_evaluation, kept_allocation}
use Rattle.ns_change.specs.declared.change.TenantChange.{TenantChange}
use Rattle.ns_change.specs.Changed.{changed_tenant}
use Rattle.keyed.specs.Over.{over}
use Rattle.keyed.proofs.Over.{get-over, over_apart, IsIdle}
use Rattle.ns_release.specs.Shown.{changes_job_row}

both_none : (a b : Bool) → a ≡ false → b ≡ false → (a || b) ≡ false
both_none a b e f = λ i. e i || f i

either : (a b : Bool) → (a || b) ≡ false → (a ≡ false) × (b ≡ false)
either true b e = not_both refl e
either false b e = (refl, e)

never : (b : Bool) → (b ≡ true → ⊥) → b ≡ false
never true f = absurd (f refl)
never false f = refl

module _ (t : Tenant) (x : TenantChange) where
  -- ---- evaluations and allocations

  pub evaluations_idle : IsIdle numbers one_number (changes_evaluation t) t.evaluations x.evaluations
  evaluations_idle n e is _ = kept_evaluation t n e is

  pub allocations_idle : IsIdle numbers one_number (changes_allocation t) t.allocations x.allocations
  allocations_idle n a is _ = kept_allocation t n a is

  -- ---- jobs

  -- what the change makes of a job tells whether it is changed
  pub changes_at : (id : Name) (row : Option Job) → get x.jobs id ≡ Some row → changes_job t (changed_tenant t x) id ≡ changes_job_row t id row
  changes_at id row is = ap (changes_job_row t id) (get-over names one_name t.jobs x.jobs id ∙ ap (λ r. unwrap_or r (get t.jobs id)) is)

  -- a job that the change does not hold is not changed
  kept_at : (id : Name) → contains_key x.jobs id ≡ false → changes_job t (changed_tenant t x) id ≡ false
  kept_at id e = ap (changes_job_row t id) (over_apart names one_name t.jobs x.jobs id e) ∙ kept_job t id

  -- one that is changed was there before, or is there now
  pub was_or_is : (id : Name) → changes_job t (changed_tenant t x) id ≡ true → is_some (option_or (get t.jobs id) (get (over t.jobs x.jobs) id)) ≡ true
  was_or_is id e = by (get t.jobs id) (get (over t.jobs x.jobs) id) e
    where
      by : (a b : Option Job) → option_map_or (is_changed same_job a) b (is_some a) ≡ true → is_some (option_or a b) ≡ true
      by None None e = e
      by None (Some b) e = refl
      by (Some a) b e = refl

  pub in_change : (id : Name) → changes_job t (changed_tenant t x) id ≡ true → contains_key x.jobs id ≡ true
  in_change id e = by (contains_key x.jobs id) refl
    where
      by : (b : Bool) → contains_key x.jobs id ≡ b → b ≡ true
      by true _ = refl
      by false is = not_both e (kept_at id is)

  abbrev after : Tenant
  after = changed_tenant t x

  -- ---- whether a job is touched

  none_in_change : any_row (λ id _. changes_job t after id) x.jobs ≡ false → (id : Name) → changes_job t after id ≡ false
  none_in_change e id = by (get x.jobs id) refl
    where
      by : (row : Option (Option Job)) → get x.jobs id ≡ row → changes_job t after id ≡ false
      by None is = kept_at id (ap is_some is)
      by (Some row) is = none_of_any one_name (λ id _. changes_job t after id) x.jobs id row e is

  none_in_tables : any_row (λ id _. changes_job t after id) after.jobs ≡ false → any_row (λ id _. changes_job t after id) t.jobs ≡ false → (id : Name) →
      changes_job t after id ≡ false
  none_in_tables now ago id = never (changes_job t after id) (λ e. by e (get t.jobs id) refl (get after.jobs id) refl (was_or_is id e))
    where
      by : changes_job t after id ≡ true → (a : Option Job) → get t.jobs id ≡ a → (b : Option Job) → get after.jobs id ≡ b → is_some (option_or a b) ≡ true → ⊥
      by e (Some a) was b is _ = not_both e (none_of_any one_name (λ id _. changes_job t after id) t.jobs id a ago was)
      by e None was (Some b) is _ = not_both e (none_of_any one_name (λ id _. changes_job t after id) after.jobs id b now is)
      by e None was None is some = not_both some refl

  pub jobs_touched : (any_row (λ id _. changes_job t after id) after.jobs || any_row (λ id _. changes_job t after id) t.jobs) ≡ list_any
      (λ e. changes_job_row t e.0 e.1) (entries x.jobs)
  unfolding any_row
  jobs_touched = by _ refl _ refl ∙ any_alike (λ e. changes_job t after e.0) (λ e. changes_job_row t e.0 e.1) (entries x.jobs)
      (each_row names one_name _ x.jobs changes_at)
    where
      by : (a : Bool) → (any_row (λ id _. changes_job t after id) after.jobs || any_row (λ id _. changes_job t after id) t.jobs) ≡ a
          → (b : Bool) → any_row (λ id _. changes_job t after id) x.jobs ≡ b → a ≡ b
      by true _ true _ = refl
      by false _ false _ = refl
      by true e false none = not_both e (both_none _ _ (any_row-none names one_name _ after.jobs (λ id _ _. none_in_change none id))
          (any_row-none names one_name _ t.jobs (λ id _ _. none_in_change none id)))
      by false none true e = not_both e (any_row-none names one_name _ x.jobs (λ id _ _. none_in_tables (either _ _ none).0 (either _ _ none).1 id))
