use Rattle.std.proofs.Common.{ap, ◌∙◌, List, ℕ}
use Rattle.serde_json.specs.Read.{read}
use Rattle.std.specs.Bool.{IsTrue}
use Rattle.ns_types.specs.State.Limits.{is_good_token}
use Rattle.ns_documents.specs.Access.{token_in, with_accessor}
use Rattle.ns_log_reader.proofs.Bodies.{document_read, accepted_so}
use Rattle.ns_log_reader.proofs.document.token.Goals as goal

pub returns-clause-value : goal.returns-clause-value
returns-clause-value c = document_read (token_in) c.as_bytes.result.now _ c.read_token.result c.accepted.result c.as_bytes.ensures.utf8
    (ap read (c.as_bytes.ensures.value ∙ c.as_str.ensures.value) ∙ c.in_ok-text.ensures) c.read_token.ensures.value c.accepted.ensures

pub returns-clause-good : goal.returns-clause-good
returns-clause-good c = accepted_so c.read_token.result c.accepted.result (λ t. (accessor : List ℕ) → IsTrue (is_good_token (with_accessor accessor t)))
    c.read_token.ensures.good c.accepted.ensures
