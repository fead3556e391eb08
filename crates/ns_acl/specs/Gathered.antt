-- The rights that rules of one kind give for a name, before it is known which of the rules count.
use Rattle.std.specs.Prelude.{◌≡◌, if◌then◌else◌, List, ◌++◌, Option, Some, None, filter}
use Rattle.ns_types.specs.declared.acl.Grants.{Grants}
use Rattle.ns_types.specs.declared.acl.Rule.{Rule}
use Rattle.ns_types.specs.State.Lists.{is_empty}
use Rattle.ns_types.specs.State.Names.{Name}
use Rattle.ns_types.specs.Access.Rights.{counting, is_exact, is_match, longest, longest_match, merged, unless_denied}
use Rattle.ns_acl.specs.declared.gathering.Gathered.{Gathered}

abbrev pub merged_if_any : List Rule → Option Grants
merged_if_any rules = if is_empty rules then None else Some (merged rules)

-- the rights of the rules with the exact name, and of the longest match
abbrev pub gathered : Name → List Rule → Gathered
gathered target rules = record {
  exact = merged_if_any (filter (is_exact target) rules);
  longest = longest (filter (is_match target) rules);
  matching = merged (longest_match target rules);
}

-- if this was gathered of some rules, these are the rights that they give
abbrev pub Counts : Gathered → Grants → Type 0
Counts all grants = (target : Name) (rules : List Rule) → all ≡ gathered target rules →
    grants ≡ unless_denied (merged (counting target rules))

-- if `old` was gathered of some rules, `new` is gathered of these and of the given ones
abbrev pub Adds : Name → List Rule → Gathered → Gathered → Type 0
Adds target rules old new = (before : List Rule) → old ≡ gathered target before →
    new ≡ gathered target (before ++ rules)
