use Rattle.std.proofs.Common.{ap, ◌∙◌, ◌≡◌, Ok}
use Rattle.serde_json.specs.Read.{read}
use Rattle.std.specs.Bool.{IsTrue}
use Rattle.ns_types.specs.State.Limits.{is_good_policy}
use Rattle.ns_policy.specs.Json.{rules_of}
use Rattle.ns_documents.specs.Access.{policy_in}
use Rattle.ns_log_reader.proofs.Bodies.{document_read, accepted_so, policy_rules}
use Rattle.ns_log_reader.proofs.document.policy.Goals as goal

pub returns-clause-value : goal.returns-clause-value
returns-clause-value c = document_read (policy_in) c.as_bytes.result.now _ c.read_policy.result c.accepted.result c.as_bytes.ensures.utf8
    (ap read (c.as_bytes.ensures.value ∙ c.as_str.ensures.value) ∙ c.in_ok-text.ensures) c.read_policy.ensures.value c.accepted.ensures

pub returns-clause-good : goal.returns-clause-good
returns-clause-good c = accepted_so c.read_policy.result c.accepted.result (λ p. IsTrue (is_good_policy p))
    c.read_policy.ensures.good c.accepted.ensures

pub returns-clause-rules : goal.returns-clause-rules
returns-clause-rules c = accepted_so c.read_policy.result c.accepted.result (λ p. rules_of p.text ≡ Ok p.rules)
    (policy_rules c.as_bytes.result.now _ c.read_policy.result c.as_bytes.ensures.utf8
    (ap read (c.as_bytes.ensures.value ∙ c.as_str.ensures.value) ∙ c.in_ok-text.ensures) c.read_policy.ensures.value) c.accepted.ensures
