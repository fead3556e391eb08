-- Rows by which a namespace is touched.
use Rattle.std.specs.Prelude.{◌≡◌, ℕ, Bool, true, false, not, ◌&&◌, ◌||◌, Some, None, codes}
use Rattle.std.proofs.Common.{refl, sym, ap, ◌∙◌}
use Rattle.std.proofs.lemmas.Bool.{or_right}
use Rattle.std.specs.FinMap.{get}
use Rattle.ns_types.specs.declared.allocation.Allocation.{Allocation}
use Rattle.ns_types.specs.declared.allocation.ClientStatus.{ClientStatus}
use Rattle.ns_types.specs.declared.allocation.DesiredStatus.{DesiredStatus}
use Rattle.ns_types.specs.Settling.Same.{same_allocation}
use Rattle.ns_types.specs.Settling.Settle.{changes_allocation, changes_evaluation, changes_job, is_changed, is_touched}
use Rattle.ns_types.specs.State.Names.{same_name}
use Rattle.ns_types.specs.State.Rows.{Tenant, is_held, is_live, is_run}
use Rattle.ns_types.specs.State.Tables.{any_row}
use Rattle.ns_types.specs.Wire.Words.{client_text, desired_text}
use Rattle.ns_types.proofs.Lists.{not_both}
use Rattle.ns_types.proofs.Named.{first_of_both, numbers, one_number, same_name_is, second_of_both}
use Rattle.ns_types.proofs.Settling.{untouched}
use Rattle.ns_types.proofs.TableRows.{some_row}
use Rattle.ns_applier.specs.Shown.{EndedIsShown}

run_is : (d : DesiredStatus) → is_run d ≡ same_name (desired_text d) (codes "run")
run_is DesiredStatus.Run = refl
run_is DesiredStatus.Stop = refl
run_is DesiredStatus.Evict = refl

held_is : (c : ClientStatus) → is_held c ≡ (same_name (client_text c) (codes "pending") || same_name (client_text c) (codes "running"))
held_is ClientStatus.Pending = refl
held_is ClientStatus.Running = refl
held_is ClientStatus.Complete = refl
held_is ClientStatus.Failed = refl
held_is ClientStatus.Lost = refl

pub ended_shown : EndedIsShown
unfolding same_allocation
ended_shown a b live dead = by (same_allocation a b) refl
  where
    by : (s : Bool) → same_allocation a b ≡ s → same_allocation a b ≡ false
    by false is = is
    by true is =
        let desired = first_of_both _ (same_name (client_text a.client) (client_text b.client)) is in
        let same_desired = same_name_is (desired_text a.desired) (desired_text b.desired)
        (second_of_both _ (same_name (desired_text a.desired) (desired_text b.desired)) desired) in
        let same_client = same_name_is (client_text a.client) (client_text b.client) (second_of_both _ (same_name (client_text a.client)
        (client_text b.client)) is) in
        let runs : is_run a.desired ≡ is_run b.desired = run_is a.desired ∙ ap (λ t. same_name t (codes "run")) same_desired ∙ sym (run_is b.desired) in
        let holds : is_held a.client ≡ is_held b.client = held_is a.client
        ∙ ap (λ t. same_name t (codes "pending") || same_name t (codes "running")) same_client ∙ sym (held_is b.client) in
        not_both live ((λ i. runs i && holds i) ∙ dead)

-- ---- a namespace

module _ (t u : Tenant) (n : ℕ) (b : Allocation) (there : get u.allocations n ≡ Some b) where
  by_row : changes_allocation t n b ≡ true → is_touched t u ≡ true
  by_row changed = or_right (any_row (λ id _. changes_job t u id) u.jobs || any_row (λ id _. changes_job t u id) t.jobs
      || any_row (changes_evaluation t) u.evaluations) _
      (some_row numbers one_number (changes_allocation t) u.allocations n b there changed)

  -- one of its allocations ended
  pub touched_by_end : (a : Allocation) → get t.allocations n ≡ Some a → is_live a ≡ true → is_live b ≡ false → is_touched t u ≡ true
  touched_by_end a was live dead = by_row (ap (λ o. is_changed same_allocation o b) was ∙ ap not (ended_shown a b live dead))

  -- or one is new
  pub touched_by_new : get t.allocations n ≡ None → is_touched t u ≡ true
  touched_by_new new = by_row (ap (λ o. is_changed same_allocation o b) new)

-- with the rows that it had
pub untouched_rows : (t u : Tenant) → u.jobs ≡ t.jobs → u.evaluations ≡ t.evaluations → u.allocations ≡ t.allocations → is_touched t u ≡ false
untouched_rows t u jobs evaluations allocations =
    (λ i. is_touched t (record u { jobs = jobs i; evaluations = evaluations i; allocations = allocations i })) ∙ untouched t
