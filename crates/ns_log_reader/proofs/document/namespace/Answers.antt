use Rattle.std.proofs.Common.{ap, ◌∙◌, ◌&&◌, None}
use Rattle.serde_json.specs.Read.{read}
use Rattle.std.specs.Bool.{IsTrue}
use Rattle.ns_types.specs.declared.name.NameKind.TheVariants as NameKind
use Rattle.ns_types.specs.State.Limits.{is_good_namespace}
use Rattle.ns_types.specs.State.Name.{is_name}
use Rattle.ns_documents.specs.Records.{namespace_in}
use Rattle.ns_log_reader.proofs.Bodies.{document_read, accepted_so, named_so}
use Rattle.ns_log_reader.proofs.document.namespace.Goals as goal

pub returns-clause-value : goal.returns-clause-value
returns-clause-value c = document_read (namespace_in None) c.as_bytes.result.now _ c.read_namespace.result c.accepted.result c.as_bytes.ensures.utf8
    (ap read (c.as_bytes.ensures.value ∙ c.as_str.ensures.value) ∙ c.in_ok-text.ensures) c.read_namespace.ensures.value c.accepted.ensures

pub returns-clause-good : goal.returns-clause-good
returns-clause-good c = accepted_so c.read_namespace.result c.accepted.result (λ n. IsTrue (is_name NameKind.Namespace n.name && is_good_namespace n.namespace))
    (named_so NameKind.Namespace (λ n. n.name)
    (λ n. is_good_namespace n.namespace) c.read_namespace.result c.read_namespace.ensures.good c.read_namespace.ensures.name) c.accepted.ensures
