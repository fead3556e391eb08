-- The tokens of the last members of long replies.
use Rattle.std.specs.Prelude.{List, [], ◌∷◌, ◌++◌, codes, decimal}
use Rattle.json.specs.Token.{Token}
use Rattle.ns_types.specs.declared.reply.AllocationShown.{AllocationShown}
use Rattle.ns_types.specs.declared.reply.EvaluationShown.{EvaluationShown}
use Rattle.ns_types.specs.Wire.Words.{kind_text, status_text, trigger_text}
use Rattle.ns_json.specs.Part.{tokens_of}
use Rattle.ns_json.specs.Rendering.{text_or_empty, resources_json}

-- the members of an evaluation from its priority on
unfoldable pub evaluation_end : EvaluationShown → List Token
evaluation_end e =
    Token.key (codes "Priority") ∷ Token.number (decimal e.row.priority) ∷
    Token.key (codes "QuotaLimitReached") ∷ (tokens_of (text_or_empty e.row.quota) ++
    Token.key (codes "Status") ∷ Token.string (status_text e.row.status) ∷
    Token.key (codes "TriggeredBy") ∷ Token.string (trigger_text e.row.trigger) ∷
    Token.key (codes "Type") ∷ Token.string (kind_text e.row.kind) ∷
    Token.end_object ∷ [])

-- the members of an allocation from its job's id on
unfoldable pub allocation_end : AllocationShown → List Token
allocation_end a =
    Token.key (codes "JobID") ∷ Token.string a.row.job ∷
    Token.key (codes "JobModifyIndex") ∷ Token.number (decimal a.row.job_modify_index) ∷
    Token.key (codes "ModifyIndex") ∷ Token.number (decimal a.row.modify_index) ∷
    Token.key (codes "Namespace") ∷ Token.string a.namespace ∷
    Token.key (codes "NodeName") ∷ Token.string a.row.node ∷
    Token.key (codes "NodePool") ∷ Token.string a.row.pool ∷
    Token.key (codes "Priority") ∷ Token.number (decimal a.row.priority) ∷
    Token.key (codes "Resources") ∷ (tokens_of (resources_json a.row.size) ++
    Token.key (codes "TaskGroup") ∷ Token.string a.row.group ∷
    Token.end_object ∷ [])
