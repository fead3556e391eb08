use Rattle.std.proofs.Common.{ap, ◌∙◌}
use Rattle.serde_json.specs.Read.{read}
use Rattle.std.specs.Bool.{IsTrue}
use Rattle.ns_types.specs.State.Limits.{is_good_offer, IsInOrder}
use Rattle.ns_documents.specs.Nodes.{node_in}
use Rattle.ns_log_reader.proofs.Bodies.{document_read, accepted_so}
use Rattle.ns_log_reader.proofs.document.offer.Goals as goal

pub returns-clause-value : goal.returns-clause-value
returns-clause-value c = document_read (node_in) c.as_bytes.result.now _ c.read_node.result c.accepted.result c.as_bytes.ensures.utf8
    (ap read (c.as_bytes.ensures.value ∙ c.as_str.ensures.value) ∙ c.in_ok-text.ensures) c.read_node.ensures.value c.accepted.ensures

pub returns-clause-good : goal.returns-clause-good
returns-clause-good c = accepted_so c.read_node.result c.accepted.result (λ o. IsTrue (is_good_offer o))
    c.read_node.ensures.good c.accepted.ensures

pub returns-clause-in_order : goal.returns-clause-in_order
returns-clause-in_order c = accepted_so c.read_node.result c.accepted.result IsInOrder c.read_node.ensures.in_order c.accepted.ensures
