-- One step of the server, and a run of them.
use Rattle.std.specs.Prelude.{◌≡◌, ℕ, ◌-◌, ◌^◌, Bool, true, false, ◌||◌, if◌then◌else◌, List, [], ◌∷◌, Option, Some}
use Rattle.std.specs.Prelude.{None, nat_lt, option_map}
use Rattle.std.specs.FinMap.{get, insert, empty}
use Rattle.ns_types.specs.declared.acl.TokenKind.TheVariants as TokenKind
use Rattle.ns_types.specs.declared.refusal.Refusal.{Refusal}
use Rattle.ns_types.specs.declared.reply.Content.{Content}
use Rattle.ns_types.specs.declared.reply.Reply.{Reply}
use Rattle.ns_types.specs.declared.step.Step.{Step}
use Rattle.std.specs.Prelude.{Result, Ok, Err}
use Rattle.ns_types.specs.Asking.Policies.{administer, may_administer, bootstrap_accessor, in_world}
use Rattle.ns_types.specs.Asking.Admins.{new_tenant, with_pool}
use Rattle.ns_types.specs.Asking.Asks.{ask, right_of}
use Rattle.ns_types.specs.Working.Commit.{apply}
use Rattle.ns_types.specs.State.Names.{Name, default_name}
use Rattle.ns_types.specs.Asking.Nodes.{ask_pool, pool_right_of}
use Rattle.ns_types.specs.Settling.Outcome.{Outcome, NotEnabled, Refused, Done}
use Rattle.ns_types.specs.Access.Rights.{rights_of, pool_rights_of}
use Rattle.ns_types.specs.State.Rows.{State, World, Acl, Tenant, PoolRows}
use Rattle.ns_types.specs.Settling.Settle.{settle}
use Rattle.ns_types.specs.State.Tables.{any_row}
use Rattle.ns_types.specs.Working.Work.{dequeue, snap, submit, finish, nack}

-- ---- who may make a step

-- the secret gives the right that the step needs, which is checked before anything else; a worker's step needs none
abbrev pub is_allowed : Step → Acl → Bool
is_allowed (Step.Ask ns secret command) acl = right_of command (rights_of acl secret ns)
is_allowed (Step.Admin secret command) acl = may_administer acl secret command
is_allowed (Step.Node pool secret command) acl = pool_right_of command (pool_rights_of acl secret pool)
is_allowed _ acl = true

-- ---- what the step itself changes

unfoldable pub act : Step → State → Outcome State
act (Step.Ask ns secret command) s = in_world s (ask ns command)
act (Step.Admin secret command) s = administer secret command s
act (Step.Node pool secret command) s = in_world s (ask_pool pool command)
act (Step.Dequeue worker ns n) s = in_world s (dequeue worker (ns, n))
act (Step.Snap worker ns) s = in_world s (snap worker ns)
act (Step.Submit worker ns) s = in_world s (submit worker ns)
act (Step.Apply worker ns) s = in_world s (apply worker ns)
act (Step.Finish worker ns) s = in_world s (finish worker ns)
act (Step.Nack worker ns) s = in_world s (nack worker ns)

-- ---- counters

abbrev pub greatest : ℕ
greatest = 2 ^ 64 - 1

abbrev pub is_tenant_past_bound : Tenant → Bool
is_tenant_past_bound t = nat_lt greatest t.index || nat_lt greatest t.evaluation_number
    || nat_lt greatest t.allocation_number

abbrev pub is_pool_past_bound : PoolRows → Bool
is_pool_past_bound p = nat_lt greatest p.release || any_row (λ _ node. nat_lt greatest node.places) p.nodes

-- some counter is past its bound
unfoldable pub is_past_bound : World → Bool
is_past_bound w = any_row (λ _ t. is_tenant_past_bound t) w.tenants || any_row (λ _ p. is_pool_past_bound p) w.pools
    || any_row (λ _ q. nat_lt greatest q.release) w.quotas

-- ---- steps

abbrev pub Answer : Type 0
Answer = Result Reply Refusal

-- the reply to a request in a namespace has the namespace's index after the step; other replies have no index
abbrev pub index_shown : Step → World → Option ℕ
index_shown (Step.Ask ns secret command) w = option_map (λ t. t.index) (get w.tenants ns)
index_shown _ w = None

abbrev pub reply_of : Step → Content → World → Reply
reply_of step content w = record { index = index_shown step w; content = content }

abbrev pub said : Answer → State → Option (Answer × State)
said answer s = Some (answer, s)

abbrev pub settled : State → State → State
settled s s' = record s' { world = settle s.world s'.world }

-- a step that would bring a counter past its bound is refused
abbrev pub concluded_with : Step → State → Content → State → Option (Answer × State)
concluded_with step s content s' =
    if is_past_bound s'.world then said (Err Refusal.Full) s
    else said (Ok (reply_of step content s'.world)) s'

-- the answer and the state afterwards; a refusal leaves the state as it is
abbrev pub concluded : Step → State → Outcome State → Option (Answer × State)
concluded step s NotEnabled = None
concluded step s (Refused refusal) = said (Err refusal) s
concluded step s (Done content s') = concluded_with step s content (settled s s')

-- the one answer to a step, and the one state after it; none if the step is not enabled
unfoldable pub after : Step → State → Option (Answer × State)
after step s = if is_allowed step s.acl then concluded step s (act step s) else said (Err Refusal.Denied) s

-- the step is made: it is enabled, and its answer is a reply
abbrev pub is_made : Option (Answer × State) → Bool
is_made (Some (Ok reply, s)) = true
is_made (Some (Err refusal, s)) = false
is_made None = false

-- What a call that makes the step returns, and the state that it leaves. The refusal for want of memory comes last: only where
-- the step would have been made. It is no step, nor is a call that is not enabled, and both change nothing.
abbrev pub Makes : Step → State → Answer → State → Type 0
Makes step s (Ok reply) s' = after step s ≡ said (Ok reply) s'
Makes step s (Err Refusal.Memory) s' = (is_made (after step s) ≡ true) × (s' ≡ s)
Makes step s (Err Refusal.NotEnabled) s' = (after step s ≡ None) × (s' ≡ s)
Makes step s (Err refusal) s' = (after step s ≡ said (Err refusal) s) × (s' ≡ s)

-- Neither the headline nor the wire rests on `Makes`: this is the contract of the core.

-- ---- runs

-- these steps, one after the other, get these answers and lead from s to s'
abbrev pub Run : State → List Step → List Answer → State → Type 0
Run s [] [] s' = s' ≡ s
Run s (step ∷ steps) (answer ∷ answers) s' = (mid : State) × (after step s ≡ said answer mid) × Run mid steps answers s'
Run s [] (answer ∷ answers) s' = ⊥
Run s (step ∷ steps) [] s' = ⊥

-- ---- the opening state

abbrev pub opening_tenant : Tenant
opening_tenant = new_tenant (record {
  description = [];
  quota = None;
  default_pool = default_name;
  allowed = None;
  denied = [];
})

abbrev pub opening_pool : PoolRows
opening_pool = with_pool (record { description = [] }) None

abbrev pub opening_world : World
opening_world = record {
  tenants = insert empty default_name opening_tenant;
  pools = insert empty default_name opening_pool;
  quotas = empty;
  ready = [];
  plans = [];
  blocked = [];
}

-- one token, which is a management token and has the bootstrap secret
abbrev pub opening_acl : Name → Acl
opening_acl secret = record {
  policies = empty;
  tokens = insert empty secret (record {
    accessor = bootstrap_accessor;
    name = [];
    kind = TokenKind.Management;
    policies = [];
  });
}

unfoldable pub opening : Name → State
opening secret = record { acl = opening_acl secret; world = opening_world }
