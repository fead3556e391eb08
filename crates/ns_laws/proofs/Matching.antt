-- What begins with a prefix, and what a rule's pattern matches.
use Rattle.std.specs.Prelude.{◌≡◌, ◌++◌, Bool, true, not, ◌&&◌, drop, length, nat_eq, take}
use Rattle.std.proofs.Common.{sym, ap, ◌∙◌}
use Rattle.std.proofs.Math.Seq.{take-append_seam}
use Rattle.std.proofs.lemmas.List.{take-append-drop}
use Rattle.std.specs.Cmp.Lexicographic.{pointwise, same_text}
use Rattle.ns_types.specs.State.Names.{begins_with, same_name}
use Rattle.ns_types.proofs.Named.{first_of_both, second_of_both, same_name_is, same_name_refl, text_ties}
use Rattle.ns_types.proofs.Tests.{is_no}
use Rattle.ns_laws.specs.Patterns as law

pub both_true : (a b : Bool) → a ≡ true → b ≡ true → (a && b) ≡ true
both_true a b e f = ap (λ x. x && b) e ∙ f

pub prefixes_begin : law.PrefixesBegin
prefixes_begin prefix name = (
  λ e. (
    drop (length prefix) name,
    sym (take-append-drop (length prefix) name)
        ∙ ap (λ begin. begin ++ drop (length prefix) name) (sym (same_text prefix (take (length prefix) name) (sym e))),
  ),
  λ is. ap (λ begin. pointwise nat_eq prefix begin) (ap (take (length prefix)) is.1 ∙ take-append_seam prefix is.0)
      ∙ text_ties prefix prefix ∙ same_name_refl prefix,
)

pub exact_patterns : law.ExactPatterns
exact_patterns target rule = (
  λ e. (
    is_no rule.pattern.is_prefix (first_of_both (not rule.pattern.is_prefix) (same_name rule.pattern.text target) e),
    same_name_is rule.pattern.text target (second_of_both (not rule.pattern.is_prefix) (same_name rule.pattern.text target) e),
  ),
  λ is. both_true (not rule.pattern.is_prefix) (same_name rule.pattern.text target) (ap not is.0)
      (ap (λ text. same_name text target) is.1 ∙ same_name_refl target),
)

pub star_patterns : law.StarPatterns
star_patterns target rule = (
  λ e. let found = (prefixes_begin rule.pattern.text target).0
      (second_of_both rule.pattern.is_prefix (begins_with rule.pattern.text target) e) in
      (first_of_both rule.pattern.is_prefix (begins_with rule.pattern.text target) e, found.0, found.1),
  λ is. both_true rule.pattern.is_prefix (begins_with rule.pattern.text target) is.0
      ((prefixes_begin rule.pattern.text target).1 (is.1, is.2)),
)
