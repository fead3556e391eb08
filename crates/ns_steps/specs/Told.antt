-- What the replies to the steps that are served hold.
use Rattle.std.specs.Prelude.{◌≡◌, Bool, true, false}
use Rattle.ns_types.specs.declared.reply.Content.{Content}
use Rattle.ns_types.specs.declared.step.NewToken.{NewToken}

pub data Shape : Type 0 where
  -- what a read found
  Job : Shape
  Jobs : Shape
  Evaluation : Shape
  Evaluations : Shape
  Allocation : Shape
  Allocations : Shape
  Namespace : Shape
  Namespaces : Shape
  Quota : Shape
  Quotas : Shape
  Usage : Shape
  Pool : Shape
  Pools : Shape
  Nodes : Shape
  Policy : Shape
  Events : Shape
  -- the numbers in the reply to a registration or a deregistration
  Registered : Shape
  -- the numbers in the reply to the stop of an allocation
  Stopped : Shape
  -- nothing: the reply to the write of a record
  Written : Shape
  -- the new token, with its secret
  TokenOf : NewToken → Shape

-- whether the reply is that of a write; it shows no rows
abbrev pub is_of_write : Shape → Bool
is_of_write Shape.Registered = true
is_of_write Shape.Stopped = true
is_of_write Shape.Written = true
is_of_write (Shape.TokenOf new) = true
is_of_write _ = false

abbrev pub Holds : Shape → Content → Type 0
Holds Shape.Job (Content.Job job) = Unit {0}
Holds Shape.Jobs (Content.Jobs jobs) = Unit {0}
Holds Shape.Evaluation (Content.Evaluation evaluation) = Unit {0}
Holds Shape.Evaluations (Content.Evaluations evaluations) = Unit {0}
Holds Shape.Allocation (Content.Allocation allocation) = Unit {0}
Holds Shape.Allocations (Content.Allocations allocations) = Unit {0}
Holds Shape.Namespace (Content.Namespace namespace) = Unit {0}
Holds Shape.Namespaces (Content.Namespaces namespaces) = Unit {0}
Holds Shape.Quota (Content.Quota quota) = Unit {0}
Holds Shape.Quotas (Content.Quotas quotas) = Unit {0}
Holds Shape.Usage (Content.Usage name used) = Unit {0}
Holds Shape.Pool (Content.Pool pool) = Unit {0}
Holds Shape.Pools (Content.Pools pools) = Unit {0}
Holds Shape.Nodes (Content.Nodes nodes) = Unit {0}
Holds Shape.Policy (Content.Policy policy) = Unit {0}
Holds Shape.Events (Content.Events ns events) = Unit {0}
Holds Shape.Registered (Content.Registered evaluation index modified) = Unit {0}
Holds Shape.Stopped (Content.Stopped evaluation index) = Unit {0}
Holds Shape.Written Content.Written = Unit {0}
Holds (Shape.TokenOf new) content = content ≡ Content.Token
    (record { accessor = new.accessor; secret = new.secret; name = new.name; kind = new.kind; policies = new.policies })
Holds _ _ = ⊥
