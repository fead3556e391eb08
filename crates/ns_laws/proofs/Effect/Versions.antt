-- The versions of jobs.
use Rattle.std.specs.Prelude.{◌≡◌, ℕ, ◌+◌, Bool, true, false, cond, not, ◌&&◌, Option, Some, None}
use Rattle.std.proofs.Common.{refl, sym, ap, ◌∙◌}
use Rattle.ns_types.specs.declared.job.Document.{Document}
use Rattle.ns_types.specs.declared.job.Job.{Job}
use Rattle.ns_types.specs.declared.job.Registration.{Registration}
use Rattle.ns_types.specs.Asking.Asks.{document_of, registered_job, stopped_job}
use Rattle.ns_types.specs.Settling.Same.{same_document}
use Rattle.ns_types.specs.State.Rows.{Tenant}
use Rattle.ns_types.proofs.Alike.{same_document_refl}
use Rattle.ns_types.proofs.Lists.{not_both}
use Rattle.ns_types.proofs.Named.{first_of_both, second_of_both}
use Rattle.ns_types.proofs.Tests.{is_no}
use Rattle.ns_laws.specs.Effects.{IsDocumentOf, HasVersion}
use Rattle.ns_laws.proofs.Effect.Documents.{document_is}

-- ---- registration

module _ (t : Tenant) (r : Registration) where
  abbrev document : Document
  document = document_of t r

  -- the registered document is one only
  one_document : (d : Document) → IsDocumentOf r t.namespace.default_pool d → document ≡ d
  one_document d is = sym (λ i. record {
    kind = is.kind i;
    priority = is.priority i;
    pool = is.pool i;
    constraints = is.constraints i;
    groups = is.groups i;
  })

  its_document : (d : Document) → document ≡ d → IsDocumentOf r t.namespace.default_pool d
  its_document d e = record {
    kind = sym (ap (λ (d : Document). d.kind) e);
    priority = sym (ap (λ (d : Document). d.priority) e);
    pool = sym (ap (λ (d : Document). d.pool) e);
    constraints = sym (ap (λ (d : Document). d.constraints) e);
    groups = sym (ap (λ (d : Document). d.groups) e);
  }

  pub has_version : (index : ℕ) (old : Option Job) → HasVersion r t.namespace.default_pool old (registered_job index document old)
  has_version index None = refl
  has_version index (Some old) = by (same_document document old.document && not old.stop) refl
    where
      changed : Job
      changed = record { document = document; stop = false; version = old.version + 1; create_index = old.create_index; modify_index = index }

      by : (b : Bool) → (same_document document old.document && not old.stop) ≡ b → HasVersion r t.namespace.default_pool (Some old) (cond b old changed)
      by true e = (
        λ is. refl,
        λ other. absurd (other (
          is_no old.stop (second_of_both (same_document document old.document) (not old.stop) e),
          its_document old.document (document_is document old.document (first_of_both (same_document document old.document) (not old.stop) e)),
        )),
      )
      by false e = (
        λ is. not_both (λ i. (ap (same_document document) (sym (one_document old.document is.1)) ∙ same_document_refl document) i && not (is.0 i)) e,
        λ other. refl,
      )

-- ---- deregistration

pub same_version : (index : ℕ) (job : Job) → (stopped_job index job).version ≡ job.version
same_version index job = elim job.stop as (λ b. (cond b job (record job { stop = true; modify_index = index })).version ≡ job.version)
    [ true ↦ refl | false ↦ refl ]
