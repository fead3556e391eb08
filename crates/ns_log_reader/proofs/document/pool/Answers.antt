use Rattle.std.proofs.Common.{ap, ◌∙◌, ◌&&◌, None}
use Rattle.serde_json.specs.Read.{read}
use Rattle.std.specs.Bool.{IsTrue}
use Rattle.ns_types.specs.State.Limits.{is_pool_name, is_text}
use Rattle.ns_documents.specs.Records.{pool_in}
use Rattle.ns_log_reader.proofs.Bodies.{document_read, accepted_so, pool_so}
use Rattle.ns_log_reader.proofs.document.pool.Goals as goal

pub returns-clause-value : goal.returns-clause-value
returns-clause-value c = document_read (pool_in None) c.as_bytes.result.now _ c.read_pool.result c.accepted.result c.as_bytes.ensures.utf8
    (ap read (c.as_bytes.ensures.value ∙ c.as_str.ensures.value) ∙ c.in_ok-text.ensures) c.read_pool.ensures.value c.accepted.ensures

pub returns-clause-good : goal.returns-clause-good
returns-clause-good c = accepted_so c.read_pool.result c.accepted.result (λ p. IsTrue (is_pool_name p.name && is_text p.pool.description))
    (pool_so c.read_pool.result c.read_pool.ensures.good c.read_pool.ensures.name) c.accepted.ensures
