-- How rules are read, one token after the other.
use Rattle.std.specs.Prelude.{ℕ, zero, suc, ◌+◌, ◌-◌, ◌^◌, ◌==◌, ◌&&◌, ◌||◌, nat_lt, nat_le, List, [], ◌∷◌, ◌++◌}
use Rattle.std.specs.Prelude.{length, Bool, true, false, Option, Some, None, is_some, Ok, Err, codes, if◌then◌else◌}
use Rattle.std.specs.Str.{bytes_eq}
use Rattle.ns_policy.specs.declared.fault.RuleFault.TheVariants.{Syntax, Value}
use Rattle.ns_types.specs.declared.acl.Pattern.{Pattern}
use Rattle.ns_types.specs.declared.acl.RuleKind.{RuleKind}
use Rattle.ns_types.specs.declared.acl.RuleKind.TheVariants.{Namespace, Pool}
use Rattle.ns_types.specs.declared.acl.Rule.{Rule}
use Rattle.ns_policy.specs.declared.parser.ItemRole.{ItemRole}
use Rattle.ns_policy.specs.declared.parser.Place.{Place}
use Rattle.ns_policy.specs.declared.parser.OpenRule.{OpenRule}
use Rattle.ns_policy.specs.declared.parser.State.{State}
use Rattle.ns_policy.specs.Lex.{RulesToken, open_block, close_block, begin_list, end_list, comma, equals, word, string}
use Rattle.ns_policy.specs.Lex.{number, skip, token_at}
use Rattle.ns_types.specs.Access.Rights.{no_grants}
use Rattle.ns_policy.specs.Rules.{Read, ◌>>=◌, with_policy, with_capability, pattern_of}

abbrev pub max_depth : ℕ
max_depth = 16

-- what the first word of an item means, in `depth` open blocks
unfoldable pub role_of : ℕ → Bool → List ℕ → ItemRole
role_of depth in_rule w =
    if depth == 0 then (if bytes_eq w (codes "namespace") then ItemRole.Block Namespace
    else if bytes_eq w (codes "node_pool") then ItemRole.Block Pool else ItemRole.Other)
    else if (depth == 1) && in_rule then (if bytes_eq w (codes "policy") then ItemRole.Policy
    else if bytes_eq w (codes "capabilities") then ItemRole.Capabilities else ItemRole.Other)
    else ItemRole.Other

abbrev pub is_flag : List ℕ → Bool
is_flag w = bytes_eq w (codes "true") || bytes_eq w (codes "false")

abbrev pub at : State → Place → State
at s p = record s { place = p }

unfoldable pub enter : State → Read State
enter s = if nat_le max_depth s.depth then Err Syntax else Ok (record s { depth = s.depth + 1; place = Place.Item })

-- the rules with that of the block that closes, if it states one
abbrev pub with_rule : List Rule → Option OpenRule → List Rule
with_rule rules None = rules
with_rule rules (Some d) = rules ++ record { kind = d.kind; pattern = d.pattern; grants = d.grants } ∷ []

unfoldable pub leave : State → Read State
leave s =
    if s.depth == 0 then Err Syntax
    else if nat_lt 1 s.depth then Ok (record s { depth = s.depth - 1; place = Place.Item })
    else Ok (record { rules = with_rule s.rules s.draft; draft = None; depth = 0; place = Place.Item })

unfoldable pub step_item : State → RulesToken → Read State
step_item s (word w) = Ok (at s (Place.Name (role_of s.depth (is_some s.draft) w)))
step_item s close_block = leave s
step_item s _ = Err Syntax

-- a new rule, which gives nothing yet
abbrev pub begun : State → RuleKind → Pattern → State
begun s kind pattern = record s {
  draft = Some (record {
    kind = kind;
    pattern = pattern;
    grants = no_grants;
    has_policy =
        false;
    has_capabilities = false;
  });
  place = Place.Label (ItemRole.Block kind);
}

unfoldable pub named : State → RuleKind → List ℕ → Read State
named s kind label = do
  pattern ← pattern_of kind label
  Ok (begun s kind pattern)

unfoldable pub step_name : State → ItemRole → RulesToken → Read State
step_name s role equals = Ok (at s (Place.Value role))
step_name s (ItemRole.Block kind) (string l) = named s kind l
step_name s ItemRole.Other (string l) = Ok (at s (Place.Label ItemRole.Other))
step_name s _ (string l) = Err Value
step_name s ItemRole.Other open_block = enter s
step_name s _ open_block = Err Value
step_name s _ _ = Err Syntax

unfoldable pub step_label : State → ItemRole → RulesToken → Read State
step_label s ItemRole.Other (string l) = Ok s
step_label s _ (string l) = Err Value
step_label s _ open_block = enter s
step_label s _ _ = Err Syntax

abbrev pub draft_of : State → Read OpenRule
draft_of s = elim s.draft [ None ↦ Err Value | Some d ↦ Ok d ]

abbrev pub unless : {A : Type 0} → Bool → A → Read A
unless bad x = if bad then Err Value else Ok x

unfoldable pub set_policy : State → List ℕ → Read State
set_policy s w = do
  d ← draft_of s
  d ← unless d.has_policy d
  grants ← with_policy d.kind w d.grants
  Ok (record s { draft = Some (record d { grants = grants; has_policy = true }); place = Place.Item })

unfoldable pub begin_capabilities : State → Read State
begin_capabilities s = do
  d ← draft_of s
  d ← unless d.has_capabilities d
  Ok (record s { draft = Some (record d { has_capabilities = true }); place = Place.Before ItemRole.Capabilities 1 })

unfoldable pub add_capability : State → List ℕ → Read State
add_capability s w = do
  d ← draft_of s
  grants ← with_capability d.kind w d.grants
  Ok (record s { draft = Some (record d { grants = grants }); place = Place.After ItemRole.Capabilities 1 })

abbrev pub is_plain : ItemRole → Bool
is_plain (ItemRole.Block kind) = true
is_plain ItemRole.Policy = false
is_plain ItemRole.Capabilities = false
is_plain ItemRole.Other = true

-- a value without meaning, if the role allows one
abbrev pub plain : State → ItemRole → Place → Read State
plain s role p = if is_plain role then Ok (at s p) else Err Value

unfoldable pub step_value : State → ItemRole → RulesToken → Read State
step_value s ItemRole.Policy (string w) = set_policy s w
step_value s ItemRole.Capabilities begin_list = begin_capabilities s
step_value s role (string w) = plain s role Place.Item
step_value s role number = plain s role Place.Item
step_value s role begin_list = plain s role (Place.Before role 1)
step_value s role (word w) = if is_flag w then plain s role Place.Item else Err Syntax
step_value s role _ = Err Syntax

abbrev pub close_list : State → ItemRole → ℕ → State
close_list s role open_lists = at s (if nat_lt 1 open_lists then Place.After role (open_lists - 1) else Place.Item)

-- more open lists than any text has
abbrev pub max_lists : ℕ
max_lists = 2 ^ 64 - 1

abbrev pub in_list : State → ItemRole → Place → Read State
in_list s ItemRole.Capabilities p = Err Value
in_list s role p = Ok (at s p)

unfoldable pub step_before : State → ItemRole → ℕ → RulesToken → Read State
step_before s role n end_list = Ok (close_list s role n)
step_before s ItemRole.Capabilities n (string w) = add_capability s w
step_before s ItemRole.Capabilities n begin_list = Err Value
step_before s role n (string w) = in_list s role (Place.After role n)
step_before s role n number = in_list s role (Place.After role n)
step_before s role n begin_list = if nat_lt n max_lists then in_list s role (Place.Before role (n + 1)) else Err Syntax
step_before s role n (word w) = if is_flag w then in_list s role (Place.After role n) else Err Syntax
step_before s role n _ = Err Syntax

unfoldable pub step_after : State → ItemRole → ℕ → RulesToken → Read State
step_after s role n comma = Ok (at s (Place.Before role n))
step_after s role n end_list = Ok (close_list s role n)
step_after s role n _ = Err Syntax

abbrev pub step_at : State → Place → RulesToken → Read State
step_at s Place.Item t = step_item s t
step_at s (Place.Name role) t = step_name s role t
step_at s (Place.Label role) t = step_label s role t
step_at s (Place.Value role) t = step_value s role t
step_at s (Place.Before role n) t = step_before s role n t
step_at s (Place.After role n) t = step_after s role n t

unfoldable pub step : State → RulesToken → Read State
step s t = step_at s s.place t

abbrev pub is_item : Place → Bool
is_item Place.Item = true
is_item _ = false

unfoldable pub finish : State → Read (List Rule)
finish s = if is_item s.place && (s.depth == 0) then Ok s.rules else Err Syntax

abbrev pub start : State
start = record { rules = []; draft = None; depth = 0; place = Place.Item }

abbrev pub or_syntax : {A : Type 0} → Option A → Read A
or_syntax None = Err Syntax
or_syntax (Some x) = Ok x

unfoldable pub next : List ℕ → Read (RulesToken × List ℕ)
next s = or_syntax (token_at s)

-- The number bounds how many tokens are read. The length of the text is always enough.
unfoldable pub read_on : ℕ → State → List ℕ → Read State
read_on n s [] = Ok s
read_on zero s (x ∷ xs) = Err Syntax
read_on (suc n) s (x ∷ xs) = next (x ∷ xs) >>= λ t. step s t.0 >>= λ after. read_on n after (skip false t.1)

unfoldable pub blocks : List ℕ → Read (List Rule)
blocks text = read_on (length text) start (skip false text) >>= finish
