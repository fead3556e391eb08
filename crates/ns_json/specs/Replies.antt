-- Answers as status, index and body.
use Rattle.std.specs.Prelude.{◌≡◌, ℕ, List, [], ◌∷◌, ◌++◌, Option, map, flat_map, codes, Ok, Err}
use Rattle.serde_json.specs.Data.{Data, string}
use Rattle.serde_json.specs.Written.{compact_text}
use Rattle.ns_types.specs.declared.event.Event.{Event}
use Rattle.ns_types.specs.declared.event.Topic.{Topic}
use Rattle.ns_types.specs.declared.evaluation.Status.{Status}
use Rattle.ns_types.specs.declared.id.IdKind.TheVariants as IdKind
use Rattle.ns_types.specs.declared.reply.Content.{Content}
use Rattle.ns_types.specs.declared.reply.Rendered.{Rendered}
use Rattle.ns_types.specs.declared.step.Step.{Step}
use Rattle.ns_types.specs.State.Id.{id_text}
use Rattle.ns_types.specs.Wire.Refused.{refused}
use Rattle.ns_types.specs.State.Names.{Name}
use Rattle.ns_json.specs.Rendering.{number_of, object_of, list_of, texts_of, id_or_empty, registered_json, stopped_json}
use Rattle.ns_json.specs.Rendering.{job_json, listed_job_json, evaluation_json, allocation_json, namespace_json}
use Rattle.ns_json.specs.Rendering.{quota_json, usage_json, pool_json, node_json, policy_json, token_json}
use Rattle.ns_types.specs.State.Rows.{State}
use Rattle.ns_types.specs.Steps.{Answer, Run}
use Rattle.ns_types.specs.Wire.Words.{status_text}

-- ---- events

abbrev pub topic_word : Topic → Name
topic_word (Topic.JobRegistered id) = codes "Job"
topic_word (Topic.JobDeregistered id) = codes "Job"
topic_word (Topic.EvaluationUpdated n) = codes "Evaluation"
topic_word (Topic.AllocationUpdated n) = codes "Allocation"

abbrev pub type_word : Topic → Name
type_word (Topic.JobRegistered id) = codes "JobRegistered"
type_word (Topic.JobDeregistered id) = codes "JobDeregistered"
type_word (Topic.EvaluationUpdated n) = codes "EvaluationUpdated"
type_word (Topic.AllocationUpdated n) = codes "AllocationUpdated"

abbrev pub key_text : Topic → Name
key_text (Topic.JobRegistered id) = id
key_text (Topic.JobDeregistered id) = id
key_text (Topic.EvaluationUpdated n) = id_text IdKind.Evaluation n
key_text (Topic.AllocationUpdated n) = id_text IdKind.Allocation n

unfoldable pub event_json : Name → Event → Data
event_json ns e = object_of (
    (codes "Index", number_of e.index) ∷
    (codes "Key", string (key_text e.topic)) ∷
    (codes "Namespace", string ns) ∷
    (codes "Topic", string (topic_word e.topic)) ∷
    (codes "Type", string (type_word e.topic)) ∷ [])

unfoldable pub event_line : Name → Event → Name
event_line ns e = compact_text (object_of
    ((codes "Events", list_of (event_json ns) (e ∷ [])) ∷ (codes "Index", number_of e.index) ∷ [])) ++ 10 ∷ []

-- ---- the replies to workers' steps

abbrev pub one_id : Name → ℕ → Data
one_id name n = object_of ((name, string (id_text IdKind.Evaluation n)) ∷ [])

abbrev pub applied_json : List ℕ → List Name → Data
applied_json made dropped = object_of
    ((codes "Committed", list_of (λ n. string (id_text IdKind.Allocation n)) made) ∷ (codes "Dropped", texts_of dropped)
    ∷ [])

abbrev pub finished_json : Status → Option ℕ → Data
finished_json status follower = object_of
    ((codes "Follower", id_or_empty follower) ∷ (codes "Status", string (status_text status)) ∷ [])

-- ---- bodies

unfoldable pub body_of : Content → Name
body_of (Content.Registered evaluation index job_index) = compact_text (registered_json evaluation index job_index)
body_of (Content.Stopped evaluation index) = compact_text (stopped_json evaluation index)
body_of (Content.Job job) = compact_text (job_json job)
body_of (Content.Jobs jobs) = compact_text (list_of listed_job_json jobs)
body_of (Content.Evaluation e) = compact_text (evaluation_json e)
body_of (Content.Evaluations es) = compact_text (list_of evaluation_json es)
body_of (Content.Allocation a) = compact_text (allocation_json a)
body_of (Content.Allocations as_) = compact_text (list_of allocation_json as_)
body_of (Content.Namespace n) = compact_text (namespace_json n)
body_of (Content.Namespaces ns) = compact_text (list_of namespace_json ns)
body_of (Content.Quota q) = compact_text (quota_json q)
body_of (Content.Quotas qs) = compact_text (list_of quota_json qs)
body_of (Content.Usage name used) = compact_text (usage_json name used)
body_of (Content.Pool p) = compact_text (pool_json p)
body_of (Content.Pools ps) = compact_text (list_of pool_json ps)
body_of (Content.Nodes ns) = compact_text (list_of node_json ns)
body_of (Content.Policy p) = compact_text (policy_json p)
body_of (Content.Token t) = compact_text (token_json t)
body_of (Content.Events ns es) = flat_map (event_line ns) es
body_of Content.Written = codes "{}"
body_of (Content.Took n) = compact_text (one_id (codes "Took") n)
body_of (Content.Snapped n) = compact_text (one_id (codes "Snapped") n)
body_of (Content.Queued n) = compact_text (one_id (codes "Queued") n)
body_of (Content.Applied made dropped) = compact_text (applied_json made dropped)
body_of (Content.Finished status follower) = compact_text (finished_json status follower)
body_of (Content.Nacked status) = compact_text (object_of ((codes "Status", string (status_text status)) ∷ []))

-- ---- answers

unfoldable pub rendered : Answer → Rendered
rendered (Ok reply) = record { status = 200; index = reply.index; body = body_of reply.content }
rendered (Err refusal) = refused refusal

-- ---- logs

-- an entry of a log is a step with its answer as it was rendered
abbrev pub Entry : Type 0
Entry = Step × Rendered

-- the log's steps and rendered answers are a run from the base to the state
pub record IsKept (base : State) (log : List Entry) (s : State) : Type 0 where
  pub answers : List Answer
  pub run : Run base (map (λ e. e.0) log) answers s
  pub rendering : map rendered answers ≡ map (λ e. e.1) log
