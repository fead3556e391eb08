use Rattle.std.proofs.Common.{◌≤◌, Some, ap, subst, sym, ◌∙◌, arith}
use Rattle.std.specs.Bool.{IsTrue}
use Rattle.serde_json.specs.Data.{depth}
use Rattle.serde_json.specs.Read.{read, max_depth}
use Rattle.ns_types.specs.State.Limits.{is_good_registration}
use Rattle.ns_json.specs.Registration.{registration_in}
use Rattle.ns_log_reader.proofs.Bodies.{document_read, accepted_so}
use Rattle.ns_log_reader.proofs.document.registration.Goals as goal

pub text_of-requires : goal.text_of-requires
text_of-requires c = subst (λ d. depth d ≤ max_depth) (sym c.in_ok-body.ensures) (omega arith)

pub returns-clause-value : goal.returns-clause-value
returns-clause-value c = document_read registration_in c.as_bytes.result.now _ c.read_registration.result c.accepted.result c.as_bytes.ensures.utf8
    (ap read (c.as_bytes.ensures.value ∙ c.as_str.ensures.value) ∙ c.in_ok-text.ensures ∙ ap Some c.in_ok-body.ensures)
    c.read_registration.ensures.value c.accepted.ensures

pub returns-clause-good : goal.returns-clause-good
returns-clause-good c = accepted_so c.read_registration.result c.accepted.result (λ r. IsTrue (is_good_registration r.registration))
    c.read_registration.ensures.good c.accepted.ensures
