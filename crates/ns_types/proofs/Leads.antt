-- What holds of all that a change may lead to.
use Rattle.std.specs.Prelude.{◌≡◌, ℕ, Bool, true, false, cond, Option, Some, None}
use Rattle.std.proofs.Common.{refl}
use Rattle.std.specs.FinMap.{get}
use Rattle.std.specs.Option.{option_map_or}
use Rattle.ns_types.specs.declared.evaluation.Evaluation.{Evaluation}
use Rattle.ns_types.specs.declared.refusal.Refusal.{Refusal}
use Rattle.ns_types.specs.declared.snapshot.Snapshot.{Snapshot}
use Rattle.ns_types.specs.Working.Worker.{Worker}
use Rattle.ns_types.specs.Settling.Outcome.{Outcome, NotEnabled, Refused, Done, unless, refused_by, found, lift}
use Rattle.ns_types.specs.State.Names.{Name}
use Rattle.ns_types.specs.State.Rows.{World, Tenant}
use Rattle.ns_types.specs.Working.Work.{at_work}

-- where the change is made, P holds of what it leads to
abbrev pub Leads : {S : Type 0} → (S → Type 0) → Outcome S → Type 0
Leads P NotEnabled = Unit {0}
Leads P (Refused refusal) = Unit {0}
Leads P (Done content x) = P x

pub leads_of : {S : Type 0} (P Q : S → Type 0) → ((x : S) → P x → Q x) → (o : Outcome S) → Leads P o → Leads Q o
leads_of P Q f NotEnabled h = tt
leads_of P Q f (Refused refusal) h = tt
leads_of P Q f (Done content x) h = f x h

module _ {S : Type 0} (P : S → Type 0) where
  pub leads_unless : (b : Bool) (refusal : Refusal) (o : Outcome S) → (b ≡ false → Leads P o) → Leads P (unless b refusal o)
  unfolding unless
  leads_unless true refusal o h = tt
  leads_unless false refusal o h = h refl

  pub leads_refused : (x : Option Refusal) (o : Outcome S) → (x ≡ None → Leads P o) → Leads P (refused_by x o)
  leads_refused None o h = h refl
  leads_refused (Some refusal) o h = tt

  pub leads_found : {A : Type 0} (x : Option A) (f : A → Outcome S) → ((a : A) → x ≡ Some a → Leads P (f a)) → Leads P (found x f)
  leads_found {A = A} x f h = by x refl
    where
      by : (y : Option A) → x ≡ y → Leads P (found y f)
      by None is = tt
      by (Some a) is = h a is

  pub leads_there : {A : Type 0} (x : Option A) (f : A → Outcome S) → ((a : A) → x ≡ Some a → Leads P (f a)) → Leads P (option_map_or f x NotEnabled)
  leads_there {A = A} x f h = by x refl
    where
      by : (y : Option A) → x ≡ y → Leads P (option_map_or f y NotEnabled)
      by None is = tt
      by (Some a) is = h a is

  pub leads_if : (b : Bool) (o p : Outcome S) → (b ≡ true → Leads P o) → (b ≡ false → Leads P p) → Leads P (cond b o p)
  leads_if true o p h k = h refl
  leads_if false o p h k = k refl

-- ---- the change of a part, as one of the whole

module _ {A B : Type 0} (Q : B → Type 0) (whole : A → B) where
  pub leads_lift : (P : A → Type 0) → ((a : A) → P a → Q (whole a)) → (o : Outcome A) → Leads P o → Leads Q (lift whole o)
  leads_lift P f NotEnabled h = tt
  leads_lift P f (Refused refusal) h = tt
  leads_lift P f (Done content a) h = f a h

  -- where nothing has to hold of the part
  pub leads_whole : ((a : A) → Q (whole a)) → (o : Outcome A) → Leads Q (lift whole o)
  leads_whole f NotEnabled = tt
  leads_whole f (Refused refusal) = tt
  leads_whole f (Done content a) = f a

-- ---- what a busy worker does

module _ (P : World → Type 0) (number : ℕ) (ns : Name) (w : World) where
  pub leads_at_work : (act : Tenant → Worker → Evaluation → Outcome World)
      → ((t : Tenant) (worker : Worker) (e : Evaluation) → get w.tenants ns ≡ Some t → get t.workers number ≡ Some worker →
      get t.evaluations worker.evaluation ≡ Some e → Leads P (act t worker e))
      → Leads P (at_work number ns w act)
  leads_at_work act h = leads_there P (get w.tenants ns) _
      (λ t is. leads_there P (get t.workers number) _
      (λ worker has. leads_there P (get t.evaluations worker.evaluation) (act t worker) (λ e at. h t worker e is has at)))

  -- with the snapshot that it keeps
  pub leads_keeping : (act : Tenant → Worker → Evaluation → Snapshot → Outcome World)
      → ((t : Tenant) (worker : Worker) (e : Evaluation) (kept : Snapshot) → get w.tenants ns ≡ Some t → get t.workers number ≡ Some worker →
      get t.evaluations worker.evaluation ≡ Some e → worker.kept ≡ Some kept → Leads P (act t worker e kept))
      → Leads P (at_work number ns w (λ t worker e. option_map_or (act t worker e) worker.kept NotEnabled))
  leads_keeping act h = leads_at_work (λ t worker e. option_map_or (act t worker e) worker.kept NotEnabled)
      (λ t worker e is has at. leads_there P worker.kept (act t worker e) (λ kept keeps. h t worker e kept is has at keeps))
