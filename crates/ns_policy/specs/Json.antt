-- Rules as JSON, and the rules of a text of either form.
use Rattle.std.specs.Prelude.{ℕ, List, [], ◌∷◌, ◌++◌, Option, Some, None, option_and_then, Ok, Err, codes}
use Rattle.std.specs.Prelude.{if◌then◌else◌}
use Rattle.serde_json.specs.Data.{Data, null, boolean, number, string, array, object, Items, no_items, item, Members}
use Rattle.serde_json.specs.Data.{no_members, member}
use Rattle.serde_json.specs.Find.{get, as_str, as_array, as_object}
use Rattle.serde_json.specs.Read.{read}
use Rattle.ns_policy.specs.declared.fault.RuleFault.TheVariants.{Syntax, Value}
use Rattle.ns_types.specs.declared.acl.RuleKind.{RuleKind}
use Rattle.ns_types.specs.declared.acl.RuleKind.TheVariants.{Namespace, Pool}
use Rattle.ns_types.specs.declared.acl.Grants.{Grants}
use Rattle.ns_types.specs.declared.acl.Rule.{Rule}
use Rattle.ns_types.specs.Access.Rights.{no_grants}
use Rattle.ns_policy.specs.Lex.{is_json}
use Rattle.ns_policy.specs.Rules.{Read, ◌>>=◌, with_policy, with_capability, pattern_of}
use Rattle.ns_policy.specs.Grammar.{blocks}

abbrev pub or_value : {A : Type 0} → Option A → Read A
or_value None = Err Value
or_value (Some x) = Ok x

-- a member that is null counts as absent
abbrev pub unless_null : Data → Option Data
unless_null null = None
unless_null (boolean b) = Some (boolean b)
unless_null (number n) = Some (number n)
unless_null (string s) = Some (string s)
unless_null (array ds) = Some (array ds)
unless_null (object ms) = Some (object ms)

unfoldable pub present : List ℕ → Data → Option Data
present name d = option_and_then unless_null (get name d)

abbrev pub policy_from : RuleKind → Option Data → Read Grants
policy_from kind None = Ok no_grants
policy_from kind (Some d) = or_value (as_str d) >>= λ w. with_policy kind w no_grants

unfoldable pub policy_in : RuleKind → Data → Read Grants
policy_in kind d = policy_from kind (present (codes "policy") d)

abbrev pub one_capability : RuleKind → Grants → Data → Read Grants
one_capability kind g d = or_value (as_str d) >>= λ w. with_capability kind w g

unfoldable pub each_capability : RuleKind → Grants → Items → Read Grants
each_capability kind g no_items = Ok g
each_capability kind g (item d ds) = one_capability kind g d >>= λ h. each_capability kind h ds

abbrev pub capabilities_from : RuleKind → Grants → Option Data → Read Grants
capabilities_from kind g None = Ok g
capabilities_from kind g (Some d) = or_value (as_array d) >>= each_capability kind g

unfoldable pub capabilities_in : RuleKind → Grants → Data → Read Grants
capabilities_in kind g d = capabilities_from kind g (present (codes "capabilities") d)

-- the rule of one pattern and its value
unfoldable pub rule_in : RuleKind → List ℕ → Data → Read Rule
rule_in kind label d = do
  pattern ← pattern_of kind label
  ms ← or_value (as_object d)
  grants ← policy_in kind d
  grants ← capabilities_in kind grants d
  Ok (record { kind = kind; pattern = pattern; grants = grants })

abbrev pub with_rule_from : RuleKind → List Rule → List ℕ → Option Data → Read (List Rule)
with_rule_from kind done label None = Ok done
with_rule_from kind done label (Some d) = rule_in kind label d >>= λ r. Ok (done ++ r ∷ [])

-- the rules with the one of the next pattern, unless its value is null
unfoldable pub with_rule : RuleKind → List Rule → List ℕ → Data → Read (List Rule)
with_rule kind done label d = with_rule_from kind done label (unless_null d)

unfoldable pub each_rule : RuleKind → List Rule → Members → Read (List Rule)
each_rule kind done no_members = Ok done
each_rule kind done (member k d ms) = with_rule kind done k d >>= λ rules. each_rule kind rules ms

abbrev pub member_name : RuleKind → List ℕ
member_name Namespace = codes "namespace"
member_name Pool = codes "node_pool"

abbrev pub rules_at : RuleKind → List Rule → Option Data → Read (List Rule)
rules_at kind done None = Ok done
rules_at kind done (Some d) = or_value (as_object d) >>= each_rule kind done

unfoldable pub kind_rules : RuleKind → List Rule → Data → Read (List Rule)
kind_rules kind done d = rules_at kind done (present (member_name kind) d)

unfoldable pub json_rules : Data → Read (List Rule)
json_rules d = kind_rules Namespace [] d >>= λ rules. kind_rules Pool rules d

unfoldable pub json_text : List ℕ → Read Data
json_text text = elim (read text) [ None ↦ Err Syntax | Some d ↦ Ok d ]

abbrev pub json_form : List ℕ → Read (List Rule)
json_form text = json_text text >>= json_rules

-- the rules of a text of either form
abbrev pub rules_of : List ℕ → Read (List Rule)
rules_of text = if is_json text then json_form text else blocks text
