-- The grammar of a text of blocks: its trees, how tokens spell them, and which rules they mean.
use Rattle.std.specs.Prelude.{ℕ, List, [], ◌∷◌, ◌++◌, map, is_some, Bool, true, false, Ok, Err, codes}
use Rattle.ns_policy.specs.declared.fault.RuleFault.TheVariants.{Value}
use Rattle.ns_types.specs.declared.acl.Rule.{Rule}
use Rattle.ns_policy.specs.declared.parser.ItemRole.{ItemRole}
use Rattle.ns_policy.specs.declared.parser.Place.TheVariants as Place
use Rattle.ns_policy.specs.declared.parser.State.{State}
use Rattle.ns_policy.specs.Lex.{RulesToken, open_block, close_block, begin_list, end_list, comma, equals, word, string}
use Rattle.ns_policy.specs.Lex.{number}
use Rattle.ns_policy.specs.Rules.{Read, ◌>>=◌}
use Rattle.ns_policy.specs.Grammar.{at, role_of, enter, leave, named, set_policy, begin_capabilities, add_capability}
use Rattle.ns_policy.specs.Grammar.{step, start, finish}

mutual
  pub data Tree : Type 0 where
    text : List ℕ → Tree
    flag : Bool → Tree
    digits : Tree
    -- the values, and whether a comma stands after the last
    list : Trees → Bool → Tree

  pub data Trees : Type 0 where
    none : Trees
    one : Tree → Trees → Trees

mutual
  pub data Item : Type 0 where
    block : List ℕ → List (List ℕ) → Items → Item
    attribute : List ℕ → Tree → Item

  pub data Items : Type 0 where
    no_items : Items
    item : Item → Items → Items

-- ---- spelling

abbrev pub flag_word : Bool → List ℕ
flag_word true = codes "true"
flag_word false = codes "false"

abbrev pub end_tokens : Bool → List RulesToken
end_tokens true = comma ∷ end_list ∷ []
end_tokens false = end_list ∷ []

abbrev mutual
  pub tree_tokens : Tree → List RulesToken
  tree_tokens (text s) = string s ∷ []
  tree_tokens (flag b) = word (flag_word b) ∷ []
  tree_tokens digits = number ∷ []
  tree_tokens (list vs trailing) = begin_list ∷ list_tokens vs trailing

  -- after the opening bracket
  pub list_tokens : Trees → Bool → List RulesToken
  list_tokens none trailing = end_list ∷ []
  list_tokens (one v vs) trailing = tree_tokens v ++ more_tokens vs trailing

  -- after a value
  pub more_tokens : Trees → Bool → List RulesToken
  more_tokens none trailing = end_tokens trailing
  more_tokens (one v vs) trailing = comma ∷ (tree_tokens v ++ more_tokens vs trailing)

abbrev mutual
  pub item_tokens : Item → List RulesToken
  item_tokens (block w ls is) = word w ∷ (map string ls ++ open_block ∷ (items_tokens is ++ close_block ∷ []))
  item_tokens (attribute w v) = word w ∷ equals ∷ tree_tokens v

  pub items_tokens : Items → List RulesToken
  items_tokens no_items = []
  items_tokens (item i is) = item_tokens i ++ items_tokens is

-- ---- meaning

abbrev pub capability_in : State → Tree → Read State
capability_in s (text w) = add_capability s w
capability_in s _ = Err Value

abbrev pub capabilities_in : State → Trees → Read State
capabilities_in s none = Ok (at s Place.Item)
capabilities_in s (one v vs) = capability_in s v >>= λ a. capabilities_in a vs

abbrev pub attribute_in : State → ItemRole → Tree → Read State
attribute_in s ItemRole.Policy (text w) = set_policy s w
attribute_in s ItemRole.Policy _ = Err Value
attribute_in s ItemRole.Capabilities (list vs trailing) = begin_capabilities s >>= λ a. capabilities_in a vs
attribute_in s ItemRole.Capabilities _ = Err Value
attribute_in s _ v = Ok (at s Place.Item)

-- a block of that role and those labels opens
abbrev pub opened : State → ItemRole → List (List ℕ) → Read State
opened s (ItemRole.Block kind) (l ∷ []) = named s kind l >>= enter
opened s (ItemRole.Block kind) _ = Err Value
opened s ItemRole.Other ls = enter s
opened s _ ls = Err Value

abbrev mutual
  pub item_in : State → Item → Read State
  item_in s (block w ls is) = opened s (role_of s.depth (is_some s.draft) w) ls >>= λ a. items_in a is >>= leave
  item_in s (attribute w v) = attribute_in s (role_of s.depth (is_some s.draft) w) v

  pub items_in : State → Items → Read State
  items_in s no_items = Ok s
  items_in s (item i is) = item_in s i >>= λ a. items_in a is

-- the state after these tokens, one after the other
unfoldable pub run : State → List RulesToken → Read State
run s [] = Ok s
run s (t ∷ ts) = step s t >>= λ a. run a ts

-- the rules that items mean
abbrev pub rules_in : Items → Read (List Rule)
rules_in is = items_in start is >>= λ a. Ok a.rules

-- the rules that tokens are read as
abbrev pub read_tokens : List RulesToken → Read (List Rule)
read_tokens ts = run start ts >>= finish
