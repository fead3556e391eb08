-- What the end of an evaluation leaves of its namespace as it was.
use Rattle.std.specs.Prelude.{◌≡◌, ℕ, Option, Some, None}
use Rattle.std.proofs.Common.{refl, ◌∙◌}
use Rattle.std.specs.Option.{option_map_or}
use Rattle.std.specs.FinMap.{get, insert, remove}
use Rattle.ns_types.specs.declared.evaluation.Evaluation.{Evaluation}
use Rattle.ns_types.specs.declared.evaluation.Status.{Status}
use Rattle.ns_types.specs.Settling.Making.{with_status}
use Rattle.ns_types.specs.State.Names.{ByNumber, Name}
use Rattle.ns_types.specs.State.Rows.{Tenant}
use Rattle.ns_types.specs.Working.Work.{blocked_of, cancel_blocked, tied_to, without_worker}
use Rattle.ns_types.specs.Working.Worker.{Worker}
use Rattle.ns_followers.specs.Ending.{Ended, ended_as}

module _ {A : Type 0} (part : Tenant → A) (keeps : (t : Tenant) (rows : ByNumber Evaluation) → part (record t { evaluations = rows }) ≡ part t) where
  pub tying_keeps : (n follower : ℕ) (t : Tenant) → part (tied_to n follower t) ≡ part t
  tying_keeps n follower t = by (get t.evaluations n)
    where
      by : (r : Option Evaluation) →
          part (option_map_or (λ e. record t { evaluations = insert t.evaluations n (record e { follower = Some follower }) }) r t) ≡ part t
      by None = refl
      by (Some e) = keeps t (insert t.evaluations n (record e { follower = Some follower }))

  status_keeps : (n : ℕ) (status : Status) (t : Tenant) → part (with_status n status t) ≡ part t
  status_keeps n status t = by (get t.evaluations n)
    where
      by : (r : Option Evaluation) →
          part (option_map_or (λ e. record t { evaluations = insert t.evaluations n (record e { status = status }) }) r t) ≡ part t
      by None = refl
      by (Some e) = keeps t (insert t.evaluations n (record e { status = status }))

  canceling_keeps : (job : Name) (t : Tenant) → part (cancel_blocked job t) ≡ part t
  canceling_keeps job t = by (blocked_of t job)
    where
      by : (r : Option ℕ) → part (option_map_or (λ n. with_status n Status.Canceled t) r t) ≡ part t
      by None = refl
      by (Some n) = status_keeps n Status.Canceled t

  pub ending_keeps : ((t : Tenant) (rows : ByNumber Worker) → part (record t { workers = rows }) ≡ part t) →
      (e : Ended) (t : Tenant) → part (ended_as e t) ≡ part t
  ending_keeps idle e t =
      let u = without_worker e.worker t in
      canceling_keeps e.job (with_status e.key.1 e.status u) ∙ status_keeps e.key.1 e.status u ∙ idle t (remove t.workers e.worker)
