use Rattle.std.proofs.Common.{ap, ◌∙◌, ◌&&◌, None}
use Rattle.serde_json.specs.Read.{read}
use Rattle.std.specs.Bool.{IsTrue}
use Rattle.ns_types.specs.declared.name.NameKind.TheVariants as NameKind
use Rattle.ns_types.specs.State.Limits.{is_good_quota}
use Rattle.ns_types.specs.State.Name.{is_name}
use Rattle.ns_documents.specs.Records.{quota_in}
use Rattle.ns_log_reader.proofs.Bodies.{document_read, accepted_so, named_so}
use Rattle.ns_log_reader.proofs.document.quota.Goals as goal

pub returns-clause-value : goal.returns-clause-value
returns-clause-value c = document_read (quota_in None) c.as_bytes.result.now _ c.read_quota.result c.accepted.result c.as_bytes.ensures.utf8
    (ap read (c.as_bytes.ensures.value ∙ c.as_str.ensures.value) ∙ c.in_ok-text.ensures) c.read_quota.ensures.value c.accepted.ensures

pub returns-clause-good : goal.returns-clause-good
returns-clause-good c = accepted_so c.read_quota.result c.accepted.result (λ q. IsTrue (is_name NameKind.Quota q.name && is_good_quota q.quota))
    (named_so NameKind.Quota (λ q. q.name) (λ q. is_good_quota q.quota) c.read_quota.result c.read_quota.ensures.good c.read_quota.ensures.name)
    c.accepted.ensures
