-- Laws of prefixes, and of the patterns of rules.
use Rattle.std.specs.Prelude.{◌≡◌, ◌↔◌, ◌++◌, ℕ, List, IsTrue, IsFalse}
use Rattle.ns_types.specs.declared.acl.Rule.{Rule}
use Rattle.ns_types.specs.Access.Rights.{is_exact, is_match}
use Rattle.ns_types.specs.State.Names.{Name, begins_with}

-- A name begins with a prefix exactly if it is the prefix and some rest, which may be empty.
abbrev pub PrefixesBegin : Type 0
PrefixesBegin = (prefix name : Name) → IsTrue (begins_with prefix name) ↔ (rest : List ℕ) × (name ≡ prefix ++ rest)

-- A rule names a namespace or a pool exactly if its pattern has no star, and is that name.
abbrev pub ExactPatterns : Type 0
ExactPatterns = (target : Name) (rule : Rule) → IsTrue (is_exact target rule)
    ↔ IsFalse rule.pattern.is_prefix × (rule.pattern.text ≡ target)

-- A rule with a star matches a name exactly if the name begins with what stands before the star.
abbrev pub StarPatterns : Type 0
StarPatterns = (target : Name) (rule : Rule) → IsTrue (is_match target rule)
    ↔ IsTrue rule.pattern.is_prefix × (rest : List ℕ) × (target ≡ rule.pattern.text ++ rest)
