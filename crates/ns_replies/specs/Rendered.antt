-- The replies that are rendered here, and the room that they need.
use Rattle.std.specs.Prelude.{◌≡◌, ℕ, ◌≤◌, List, length, Option, Some}
use Rattle.ns_types.specs.declared.reply.Content.{Content}
use Rattle.ns_types.specs.State.Names.{Name}
use Rattle.ns_json.specs.Rendered.{IsRegistered, longest_registered}
use Rattle.ns_json.specs.Replies.{body_of}

abbrev pub IsRendered : Content → Type 0
IsRendered (Content.Registered evaluation index job_index) = Unit {0}
IsRendered (Content.Stopped evaluation index) = Unit {0}
IsRendered (Content.Job job) = Unit {0}
IsRendered (Content.Jobs jobs) = Unit {0}
IsRendered (Content.Evaluation e) = Unit {0}
IsRendered (Content.Evaluations es) = Unit {0}
IsRendered (Content.Allocation a) = Unit {0}
IsRendered (Content.Allocations as_) = Unit {0}
IsRendered (Content.Namespace n) = Unit {0}
IsRendered (Content.Namespaces ns) = Unit {0}
IsRendered (Content.Quota q) = Unit {0}
IsRendered (Content.Quotas qs) = Unit {0}
IsRendered (Content.Usage name used) = Unit {0}
IsRendered (Content.Pool p) = Unit {0}
IsRendered (Content.Pools ps) = Unit {0}
IsRendered (Content.Nodes ns) = Unit {0}
IsRendered (Content.Policy p) = Unit {0}
IsRendered (Content.Token t) = Unit {0}
IsRendered (Content.Events ns es) = Unit {0}
IsRendered Content.Written = Unit {0}
IsRendered _ = ⊥

-- the replies whose texts take memory
abbrev pub IsText : Content → Type 0
IsText (Content.Jobs jobs) = Unit {0}
IsText (Content.Evaluation e) = Unit {0}
IsText (Content.Evaluations es) = Unit {0}
IsText (Content.Allocation a) = Unit {0}
IsText (Content.Allocations as_) = Unit {0}
IsText (Content.Namespace n) = Unit {0}
IsText (Content.Namespaces ns) = Unit {0}
IsText (Content.Quota q) = Unit {0}
IsText (Content.Quotas qs) = Unit {0}
IsText (Content.Usage name used) = Unit {0}
IsText (Content.Pool p) = Unit {0}
IsText (Content.Pools ps) = Unit {0}
IsText (Content.Nodes ns) = Unit {0}
IsText (Content.Policy p) = Unit {0}
IsText (Content.Token t) = Unit {0}
IsText (Content.Events ns es) = Unit {0}
IsText _ = ⊥

-- the room is enough for the reply; it is seen as the body that it holds for a new token, if it holds one
abbrev pub HasRoom : Option Name → Content → Type 0
HasRoom room (Content.Registered evaluation index job_index) = Unit {0}
HasRoom room (Content.Stopped evaluation index) = Unit {0}
HasRoom room Content.Written = Unit {0}
HasRoom room (Content.Token t) = room ≡ Some (body_of (Content.Token t))
HasRoom room _ = ⊥

-- the body of the reply to a registration is no longer than the length that is known beforehand
abbrev pub IsShort : Content → List ℕ → Type 0
IsShort content body = IsRegistered content → length body ≤ longest_registered
