-- What a tree spells is read as the tree's meaning.
use Rattle.std.proofs.Common.{◌≡◌, ℕ, ◌+◌, ◌-◌, ◌<◌, ◌≤◌, List, [], ◌∷◌, ◌++◌, length, map, is_some, Bool, true, false, refl, sym, ap, ◌∙◌, arith, append_assoc}
use Rattle.std.proofs.Common.{length-append, nat_lt, true≢false, if◌then◌else◌}
use Rattle.std.proofs.lemmas.Bool.{lt-ltb}
use Rattle.ns_policy.specs.declared.parser.ItemRole.{ItemRole}
use Rattle.ns_policy.specs.declared.parser.Place.{Place}
use Rattle.ns_policy.specs.declared.parser.State.{State}
use Rattle.ns_policy.specs.Lex.{RulesToken, open_block, close_block, begin_list, string, number}
use Rattle.ns_policy.specs.Rules.{◌>>=◌}
use Rattle.ns_policy.specs.Grammar.{at, role_of, enter, leave, named, set_policy, begin_capabilities, add_capability, is_plain, step, step_item, step_name}
use Rattle.ns_policy.specs.Grammar.{step_label, step_before, step_after, step_value, close_list, max_lists}
use Rattle.ns_policy.specs.Tree.{Tree, text, flag, digits, list, Trees, none, one, Item, block, attribute, Items, no_items, item, tree_tokens, list_tokens}
use Rattle.ns_policy.specs.Tree.{more_tokens, item_tokens, items_tokens, capability_in, capabilities_in, attribute_in, opened, item_in, items_in, run}
use Rattle.ns_policy.proofs.Steps.{Placed, post_bind, post_then, bind_assoc, along, enter_placed, leave_placed, named_placed, policy_placed, begin_placed}
use Rattle.ns_policy.proofs.Steps.{add_placed, pattern_fault}

closes_at : (role : ItemRole) (n : ℕ) → 0 < n → (if nat_lt 1 (n + 1) then Place.After role (n + 1 - 1) else Place.Item) ≡ Place.After role n
closes_at role n some =
    let test : nat_lt 1 (n + 1) ≡ true = lt-ltb _ _ (omega arith) in
    let back : n + 1 - 1 ≡ n = omega arith in
    rw (test, back) refl

closes : (s : State) (role : ItemRole) (n : ℕ) → 0 < n → close_list s role (n + 1) ≡ at s (Place.After role n)
closes s role n some = ap (λ p. at s p) (closes_at role n some)

opens : (s : State) (role : ItemRole) (n : ℕ) (ts : List RulesToken) → is_plain role ≡ true → n < max_lists →
    run (at s (Place.Before role n)) (begin_list ∷ ts) ≡ run (at s (Place.Before role (n + 1))) ts
unfolding run step step_before
opens s (ItemRole.Block kind) n ts plain fits = let test : nat_lt n max_lists ≡ true = lt-ltb _ _ fits in rw test refl
opens s ItemRole.Policy n ts plain fits = absurd (true≢false (sym plain))
opens s ItemRole.Capabilities n ts plain fits = absurd (true≢false (sym plain))
opens s ItemRole.Other n ts plain fits = let test : nat_lt n max_lists ≡ true = lt-ltb _ _ fits in rw test refl

a_string : (s : State) (role : ItemRole) (n : ℕ) (w : List ℕ) (ts : List RulesToken) → is_plain role ≡ true →
    run (at s (Place.Before role n)) (string w ∷ ts) ≡ run (at s (Place.After role n)) ts
unfolding run step step_before
a_string s (ItemRole.Block kind) n w ts plain = refl
a_string s ItemRole.Policy n w ts plain = refl
a_string s ItemRole.Capabilities n w ts plain = absurd (true≢false (sym plain))
a_string s ItemRole.Other n w ts plain = refl

a_number : (s : State) (role : ItemRole) (n : ℕ) (ts : List RulesToken) → is_plain role ≡ true →
    run (at s (Place.Before role n)) (number ∷ ts) ≡ run (at s (Place.After role n)) ts
unfolding run step step_before
a_number s (ItemRole.Block kind) n ts plain = refl
a_number s ItemRole.Policy n ts plain = refl
a_number s ItemRole.Capabilities n ts plain = absurd (true≢false (sym plain))
a_number s ItemRole.Other n ts plain = refl

a_flag : (s : State) (role : ItemRole) (n : ℕ) (b : Bool) (ts : List RulesToken) → is_plain role ≡ true →
    run (at s (Place.Before role n)) (tree_tokens (flag b) ++ ts) ≡ run (at s (Place.After role n)) ts
unfolding run step step_before
a_flag s (ItemRole.Block kind) n true ts plain = refl
a_flag s (ItemRole.Block kind) n false ts plain = refl
a_flag s ItemRole.Policy n b ts plain = absurd (true≢false (sym plain))
a_flag s ItemRole.Capabilities n b ts plain = absurd (true≢false (sym plain))
a_flag s ItemRole.Other n true ts plain = refl
a_flag s ItemRole.Other n false ts plain = refl

mutual
  unfolding run step step_before step_after

  -- a value among those of n open lists
  in_list : (v : Tree) (s : State) (role : ItemRole) (n : ℕ) (ts : List RulesToken) → is_plain role ≡ true → 0 < n → n + length (tree_tokens v) < max_lists
      → run (at s (Place.Before role n)) (tree_tokens v ++ ts) ≡ run (at s (Place.After role n)) ts
  in_list (text w) s role n ts plain some fits = a_string s role n w ts plain
  in_list (flag b) s role n ts plain some fits = a_flag s role n b ts plain
  in_list digits s role n ts plain some fits = a_number s role n ts plain
  in_list (list vs trailing) s role n ts plain some fits =
      opens s role n (list_tokens vs trailing ++ ts) plain (omega arith) ∙ in_values vs trailing s role (n + 1) ts plain (omega arith) (omega arith) ∙
      ap (λ a. run a ts) (closes s role n some)

  in_values : (vs : Trees) (trailing : Bool) (s : State) (role : ItemRole) (n : ℕ) (ts : List RulesToken) → is_plain role ≡ true → 0 < n →
      n + length (list_tokens vs trailing) < max_lists + 1
      → run (at s (Place.Before role n)) (list_tokens vs trailing ++ ts) ≡ run (close_list s role n) ts
  in_values none trailing s role n ts plain some fits = refl
  in_values (one v vs) trailing s role n ts plain some fits =
      let all = length-append (tree_tokens v) (more_tokens vs trailing) in
      let more = a_rest vs trailing in
      ap (run (at s (Place.Before role n))) (append_assoc (tree_tokens v) (more_tokens vs trailing) ts)
      ∙ in_list v s role n (more_tokens vs trailing ++ ts) plain some (omega (arith, all, more)) ∙
      in_rest vs trailing s role n ts plain some (omega (arith, all))

  in_rest : (vs : Trees) (trailing : Bool) (s : State) (role : ItemRole) (n : ℕ) (ts : List RulesToken) → is_plain role ≡ true → 0 < n →
      n + length (more_tokens vs trailing) < max_lists + 1
      → run (at s (Place.After role n)) (more_tokens vs trailing ++ ts) ≡ run (close_list s role n) ts
  in_rest none true s role n ts plain some fits = refl
  in_rest none false s role n ts plain some fits = refl
  in_rest (one v vs) trailing s role n ts plain some fits =
      let all = length-append (tree_tokens v) (more_tokens vs trailing) in
      ap (run (at s (Place.Before role n))) (append_assoc (tree_tokens v) (more_tokens vs trailing) ts)
      ∙ in_list v s role n (more_tokens vs trailing ++ ts) plain some (omega (arith, all)) ∙ in_rest vs trailing s role n ts plain some (omega (arith, all))

  a_rest : (vs : Trees) (trailing : Bool) → 0 < length (more_tokens vs trailing)
  a_rest none true = omega arith
  a_rest none false = omega arith
  a_rest (one v vs) trailing = omega arith

-- the value of an attribute that says nothing
plain_value : (v : Tree) (s : State) (role : ItemRole) (ts : List RulesToken) → is_plain role ≡ true → length (tree_tokens v) < max_lists →
    run (at s (Place.Value role)) (tree_tokens v ++ ts) ≡ run (at s Place.Item) ts
unfolding run step step_value
plain_value (text w) s (ItemRole.Block kind) ts plain fits = refl
plain_value (flag true) s (ItemRole.Block kind) ts plain fits = refl
plain_value (flag false) s (ItemRole.Block kind) ts plain fits = refl
plain_value digits s (ItemRole.Block kind) ts plain fits = refl
plain_value (list vs trailing) s (ItemRole.Block kind) ts plain fits = in_values vs trailing s (ItemRole.Block kind) 1 ts plain (omega arith) (omega arith)
plain_value (text w) s ItemRole.Other ts plain fits = refl
plain_value (flag true) s ItemRole.Other ts plain fits = refl
plain_value (flag false) s ItemRole.Other ts plain fits = refl
plain_value digits s ItemRole.Other ts plain fits = refl
plain_value (list vs trailing) s ItemRole.Other ts plain fits = in_values vs trailing s ItemRole.Other 1 ts plain (omega arith) (omega arith)
plain_value v s ItemRole.Policy ts plain fits = absurd (true≢false (sym plain))
plain_value v s ItemRole.Capabilities ts plain fits = absurd (true≢false (sym plain))

-- a capability, and what is read after it
a_capability : (v : Tree) (s : State) (p : Place) (ts : List RulesToken) →
    run (at s (Place.Before ItemRole.Capabilities 1)) (tree_tokens v ++ ts) ≡ (capability_in (at s p) v >>= λ a. run a ts)
unfolding run step step_before add_capability
a_capability (text w) s p ts = refl
a_capability (flag true) s p ts = refl
a_capability (flag false) s p ts = refl
a_capability digits s p ts = refl
a_capability (list vs trailing) s p ts = refl

capability_placed : (s : State) (v : Tree) → Placed (Place.After ItemRole.Capabilities 1) (capability_in s v)
capability_placed s (text w) = add_placed s w
capability_placed s (flag b) = tt
capability_placed s digits = tt
capability_placed s (list vs trailing) = tt

one_capability : (v : Tree) (vs : Trees) (trailing : Bool) (s : State) (p : Place) (ts : List RulesToken)
    → ((a : State) → run (at a (Place.After ItemRole.Capabilities 1)) (more_tokens vs trailing ++ ts) ≡
    (capabilities_in (at a (Place.After ItemRole.Capabilities 1)) vs >>= λ b. run b ts))
    → run (at s (Place.Before ItemRole.Capabilities 1)) ((tree_tokens v ++ more_tokens vs trailing) ++ ts) ≡
    (capabilities_in (at s p) (one v vs) >>= λ a. run a ts)
one_capability v vs trailing s p ts rest =
    ap (run (at s (Place.Before ItemRole.Capabilities 1))) (append_assoc (tree_tokens v) (more_tokens vs trailing) ts)
    ∙ a_capability v s p (more_tokens vs trailing ++ ts)
    ∙ along (Place.After ItemRole.Capabilities 1) (capability_in (at s p) v) (λ a. run a (more_tokens vs trailing ++ ts))
    (λ a. capabilities_in a vs >>= λ b. run b ts) (capability_placed (at s p) v) rest
    ∙ sym (bind_assoc (capability_in (at s p) v) (λ a. capabilities_in a vs) (λ b. run b ts))

-- after a capability
more_capabilities : (vs : Trees) (trailing : Bool) (s : State) (ts : List RulesToken)
    → run (at s (Place.After ItemRole.Capabilities 1)) (more_tokens vs trailing ++ ts) ≡
    (capabilities_in (at s (Place.After ItemRole.Capabilities 1)) vs >>= λ a. run a ts)
unfolding run step step_before step_after
more_capabilities none true s ts = refl
more_capabilities none false s ts = refl
more_capabilities (one v vs) trailing s ts = one_capability v vs trailing s (Place.After ItemRole.Capabilities 1) ts (λ a. more_capabilities vs trailing a ts)

capabilities : (vs : Trees) (trailing : Bool) (s : State) (ts : List RulesToken)
    → run (at s (Place.Before ItemRole.Capabilities 1)) (list_tokens vs trailing ++ ts) ≡
    (capabilities_in (at s (Place.Before ItemRole.Capabilities 1)) vs >>= λ a. run a ts)
unfolding run step step_before
capabilities none trailing s ts = refl
capabilities (one v vs) trailing s ts = one_capability v vs trailing s (Place.Before ItemRole.Capabilities 1) ts (λ a. more_capabilities vs trailing a ts)

-- the value of an attribute
value_read : (v : Tree) (s : State) (role : ItemRole) (ts : List RulesToken) → length (tree_tokens v) < max_lists
    → run (at s (Place.Value role)) (tree_tokens v ++ ts) ≡ (attribute_in (at s Place.Item) role v >>= λ a. run a ts)
unfolding run step step_value set_policy begin_capabilities
value_read v s (ItemRole.Block kind) ts fits = plain_value v s (ItemRole.Block kind) ts refl fits
value_read v s ItemRole.Other ts fits = plain_value v s ItemRole.Other ts refl fits
value_read (text w) s ItemRole.Policy ts fits = refl
value_read (flag true) s ItemRole.Policy ts fits = refl
value_read (flag false) s ItemRole.Policy ts fits = refl
value_read digits s ItemRole.Policy ts fits = refl
value_read (list vs trailing) s ItemRole.Policy ts fits = refl
value_read (text w) s ItemRole.Capabilities ts fits = refl
value_read (flag true) s ItemRole.Capabilities ts fits = refl
value_read (flag false) s ItemRole.Capabilities ts fits = refl
value_read digits s ItemRole.Capabilities ts fits = refl
value_read (list vs trailing) s ItemRole.Capabilities ts fits =
    along (Place.Before ItemRole.Capabilities 1) (begin_capabilities (at s Place.Item)) (λ a. run a (list_tokens vs trailing ++ ts))
    (λ a. capabilities_in a vs >>= λ b. run b ts) (begin_placed (at s Place.Item)) (λ a. capabilities vs trailing a ts)
    ∙ sym (bind_assoc (begin_capabilities (at s Place.Item)) (λ a. capabilities_in a vs) (λ b. run b ts))

-- the labels of a block that says nothing
other_labels : (ls : List (List ℕ)) (s : State) (ts : List RulesToken)
    → run (at s (Place.Label ItemRole.Other)) (map string ls ++ open_block ∷ ts) ≡ (enter (at s Place.Item) >>= λ a. run a ts)
unfolding run step step_label enter
other_labels [] s ts = refl
other_labels (l ∷ ls) s ts = other_labels ls s ts

-- the labels of a block, and its opening
labels_read : (ls : List (List ℕ)) (s : State) (role : ItemRole) (ts : List RulesToken)
    → run (at s (Place.Name role)) (map string ls ++ open_block ∷ ts) ≡ (opened (at s Place.Item) role ls >>= λ a. run a ts)
unfolding run step step_name step_label enter named
labels_read [] s (ItemRole.Block kind) ts = refl
labels_read (l ∷ []) s (ItemRole.Block kind) ts =
    along (Place.Label (ItemRole.Block kind)) (named (at s Place.Item) kind l) (λ a. run a (open_block ∷ ts)) (λ a. enter a >>= λ b. run b ts)
    (named_placed (at s Place.Item) kind l) (λ a. refl)
    ∙ sym (bind_assoc (named (at s Place.Item) kind l) enter (λ b. run b ts))
labels_read (l ∷ m ∷ ls) s (ItemRole.Block kind) ts = pattern_fault (at s Place.Item) kind l (λ a. run a (string m ∷ (map string ls ++ open_block ∷ ts)))
    (λ a. refl)
labels_read [] s ItemRole.Other ts = refl
labels_read (l ∷ ls) s ItemRole.Other ts = other_labels ls s ts
labels_read [] s ItemRole.Policy ts = refl
labels_read (l ∷ ls) s ItemRole.Policy ts = refl
labels_read [] s ItemRole.Capabilities ts = refl
labels_read (l ∷ ls) s ItemRole.Capabilities ts = refl

-- ---- an item leaves the place of an item

capabilities_placed : (s : State) (vs : Trees) → Placed Place.Item (capabilities_in s vs)
capabilities_placed s none = refl
capabilities_placed s (one v vs) = post_bind (capability_in s v) _ _ (λ a. capabilities_placed a vs)

attribute_placed : (s : State) (role : ItemRole) (v : Tree) → Placed Place.Item (attribute_in s role v)
attribute_placed s ItemRole.Policy (text w) = policy_placed s w
attribute_placed s ItemRole.Policy (flag b) = tt
attribute_placed s ItemRole.Policy digits = tt
attribute_placed s ItemRole.Policy (list vs trailing) = tt
attribute_placed s ItemRole.Capabilities (text w) = tt
attribute_placed s ItemRole.Capabilities (flag b) = tt
attribute_placed s ItemRole.Capabilities digits = tt
attribute_placed s ItemRole.Capabilities (list vs trailing) = post_bind (begin_capabilities s) _ _ (λ a. capabilities_placed a vs)
attribute_placed s (ItemRole.Block kind) v = refl
attribute_placed s ItemRole.Other v = refl

opened_placed : (s : State) (role : ItemRole) (ls : List (List ℕ)) → Placed Place.Item (opened s role ls)
opened_placed s (ItemRole.Block kind) [] = tt
opened_placed s (ItemRole.Block kind) (l ∷ []) = post_bind (named s kind l) _ _ (λ a. enter_placed a)
opened_placed s (ItemRole.Block kind) (l ∷ m ∷ ls) = tt
opened_placed s ItemRole.Other ls = enter_placed s
opened_placed s ItemRole.Policy ls = tt
opened_placed s ItemRole.Capabilities ls = tt

item_placed : (s : State) (i : Item) → Placed Place.Item (item_in s i)
item_placed s (block w ls is) = post_bind (opened s (role_of s.depth (is_some s.draft) w) ls) _ _ (λ a. post_bind (items_in a is) _ _ (λ b. leave_placed b))
item_placed s (attribute w v) = attribute_placed s (role_of s.depth (is_some s.draft) w) v

pub items_placed : (s : State) (is : Items) → s.place ≡ Place.Item → Placed Place.Item (items_in s is)
items_placed s no_items here = here
items_placed s (item i is) here = post_then (item_in s i) (λ a. items_in a is) (λ b. b.place ≡ Place.Item) (item_placed s i)
    (λ a there. items_placed a is there)

-- ---- items

inside : (ls : List (List ℕ)) (is : Items) (n : ℕ) → length (map string ls ++ open_block ∷ (items_tokens is ++ close_block ∷ [])) ≤ n →
    length (items_tokens is) ≤ n
inside ls is n fits = omega (
  arith,
  length-append (map string ls) (open_block ∷ (items_tokens is ++ close_block ∷ [])),
  length-append (items_tokens is)
      (close_block ∷ []),
)

mutual
  unfolding run step step_item step_name leave

  item_read : (i : Item) (s : State) (ts : List RulesToken) → length (item_tokens i) ≤ max_lists →
      run (at s Place.Item) (item_tokens i ++ ts) ≡ (item_in (at s Place.Item) i >>= λ a. run a ts)
  item_read (attribute w v) s ts fits = value_read v s (role_of s.depth (is_some s.draft) w) ts (omega arith)
  item_read (block w ls is) s ts fits =
      let here = at s Place.Item in
      let role = role_of s.depth (is_some s.draft) w in
      let inner : length (items_tokens is) ≤ max_lists = inside ls is _ (omega arith) in
      ap (λ us. run (at s (Place.Name role)) us) (append_assoc (map string ls) (open_block ∷ (items_tokens is ++ close_block ∷ [])) ts ∙
      ap (λ us. map string ls ++ open_block ∷ us) (append_assoc (items_tokens is) (close_block ∷ []) ts))
      ∙ labels_read ls s role (items_tokens is ++ close_block ∷ ts)
      ∙ along Place.Item (opened here role ls) (λ a. run a (items_tokens is ++ close_block ∷ ts)) (λ a. (items_in a is >>= leave) >>= λ b. run b ts)
      (opened_placed here role ls)
      (λ a. items_read is a (close_block ∷ ts) inner
      ∙ along Place.Item (items_in (at a Place.Item) is) (λ b. run b (close_block ∷ ts)) (λ b. leave b >>= λ c. run c ts)
      (items_placed (at a Place.Item) is refl) (λ b. refl)
      ∙ sym (bind_assoc (items_in (at a Place.Item) is) leave (λ b. run b ts)))
      ∙ sym (bind_assoc (opened here role ls) (λ a. items_in a is >>= leave) (λ b. run b ts))

  pub items_read : (is : Items) (s : State) (ts : List RulesToken) → length (items_tokens is) ≤ max_lists →
      run (at s Place.Item) (items_tokens is ++ ts) ≡ (items_in (at s Place.Item) is >>= λ a. run a ts)
  items_read no_items s ts fits = refl
  items_read (item i is) s ts fits =
      let here = at s Place.Item in
      let all = length-append (item_tokens i) (items_tokens is) in
      ap (run here) (append_assoc (item_tokens i) (items_tokens is) ts)
      ∙ item_read i s (items_tokens is ++ ts) (omega (arith, all))
      ∙ along Place.Item (item_in here i) (λ a. run a (items_tokens is ++ ts)) (λ a. items_in a is >>= λ b. run b ts) (item_placed here i)
      (λ a. items_read is a ts (omega (arith, all)))
      ∙ sym (bind_assoc (item_in here i) (λ a. items_in a is) (λ b. run b ts))
