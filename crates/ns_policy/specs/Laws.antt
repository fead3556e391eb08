-- Laws of rules texts, and of the reader that takes them token by token.
use Rattle.std.specs.Prelude.{◌≡◌, ℕ, ◌≤◌, List, length, Ok}
use Rattle.ns_types.specs.declared.acl.Rule.{Rule}
use Rattle.ns_policy.specs.Lex.{RulesToken}
use Rattle.ns_policy.specs.Grammar.{max_lists, blocks}
use Rattle.ns_policy.specs.Tree.{Items, items_tokens, rules_in, read_tokens}
use Rattle.ns_policy.specs.Layout.{Piece, Layout, text_of, tokens_of}

-- Tokens that spell items are read as the rules that the items mean, or refused with the fault that they mean.
abbrev pub SpelledTokensAreRead : Type 0
SpelledTokensAreRead = (is : Items) → length (items_tokens is) ≤ max_lists → read_tokens (items_tokens is) ≡ rules_in is

-- If tokens are read as rules, they spell items that mean these rules.
abbrev pub ReadTokensAreSpelled : Type 0
ReadTokensAreSpelled = (ts : List RulesToken) (rules : List Rule) → length ts ≤ max_lists → read_tokens ts ≡ Ok rules →
    (is : Items) × (ts ≡ items_tokens is) × (rules_in is ≡ Ok rules)

-- the text spells the items: it has their tokens, with blanks and comments between them
abbrev pub Spelling : List ℕ → Items → Type 0
Spelling s is = (ps : List Piece) × Layout ps × (s ≡ text_of ps) × (tokens_of ps ≡ items_tokens is)

-- A text that spells items is read as the rules that they mean, or refused with the fault that they mean.
abbrev pub SpelledIsRead : Type 0
SpelledIsRead = (s : List ℕ) (is : Items) → length s ≤ max_lists → Spelling s is → blocks s ≡ rules_in is

-- If a text is read as rules, it spells items that mean these rules.
abbrev pub ReadIsSpelled : Type 0
ReadIsSpelled = (s : List ℕ) (rules : List Rule) → length s ≤ max_lists → blocks s ≡ Ok rules → (is : Items) ×
    Spelling s is × (rules_in is ≡ Ok rules)
