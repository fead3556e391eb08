-- Both ways between trees and what is read.
use Rattle.std.proofs.Common.{◌≡◌, ℕ, ◌+◌, ◌≤◌, List, [], ◌∷◌, length, is_some, Bool, true, false, Ok, Err, refl, sym, ap, ◌∙◌, subst, arith, append-nil}
use Rattle.std.proofs.Common.{nat_lt, nat_le, ◌==◌, ◌&&◌, if◌then◌else◌, true≢false}
use Rattle.std.proofs.lemmas.Bool.{and_parts, eqb-true, ltb-false}
use Rattle.ns_policy.specs.declared.fault.RuleFault.TheVariants.{Syntax}
use Rattle.ns_types.specs.declared.acl.RuleKind.{RuleKind}
use Rattle.ns_types.specs.declared.acl.Rule.{Rule}
use Rattle.ns_policy.specs.declared.parser.ItemRole.{ItemRole}
use Rattle.ns_policy.specs.declared.parser.Place.{Place}
use Rattle.ns_policy.specs.declared.parser.State.{State}
use Rattle.ns_policy.specs.Rules.{Read, ◌>>=◌, with_policy, with_capability, pattern_of}
use Rattle.ns_policy.specs.Grammar.{role_of, draft_of, unless, enter, leave, named, set_policy, begin_capabilities, add_capability, is_item, max_lists, blocks}
use Rattle.ns_policy.specs.Grammar.{start, finish}
use Rattle.ns_policy.specs.Tree.{Tree, text, flag, digits, list, Trees, none, one, Item, block, attribute, Items, no_items, item, capability_in}
use Rattle.ns_policy.specs.Tree.{capabilities_in, attribute_in, opened, item_in, items_in, items_tokens, read_tokens, run}
use Rattle.ns_policy.specs.Laws.{SpelledTokensAreRead, ReadTokensAreSpelled, SpelledIsRead, ReadIsSpelled}
use Rattle.ns_policy.specs.Lex.{skip}
use Rattle.ns_policy.specs.Grammar.{read_on}
use Rattle.ns_policy.specs.Layout.{Piece, Layout, text_of, tokens_of}
use Rattle.ns_policy.proofs.Layouts.{laid_read, fewer_tokens}
use Rattle.ns_policy.proofs.Relayout.{text_laid}
use Rattle.ns_policy.proofs.Steps.{Post, post_bind, post_then, post_if, post_if_is}
use Rattle.ns_policy.proofs.TreeLaws.{items_read, items_placed}
use Rattle.ns_policy.proofs.Inverse.{left_of}

-- ---- depth

abbrev Deep : ℕ → Read State → Type 0
Deep d r = Post r (λ a. a.depth ≡ d)

enter_deep : (s : State) → Deep (s.depth + 1) (enter s)
unfolding enter
enter_deep s = post_if (nat_le 16 s.depth) _ _ _ tt refl

leave_deep : (s : State) (d : ℕ) → s.depth ≡ d + 1 → Deep d (leave s)
unfolding leave
leave_deep s d h =
    post_if_is (s.depth == 0) _ _ _ (λ k. tt)
    (λ k. post_if_is (nat_lt 1 s.depth) _ _ _ (λ m. omega arith) (λ m. let last : s.depth ≤ 1 = ltb-false 1 s.depth m in omega arith))

named_deep : (s : State) (kind : RuleKind) (l : List ℕ) → Deep s.depth (named s kind l)
unfolding named
named_deep s kind l = post_bind (pattern_of kind l) _ _ (λ p. refl)

policy_deep : (s : State) (w : List ℕ) → Deep s.depth (set_policy s w)
unfolding set_policy
policy_deep s w = post_bind (draft_of s) _ _ (λ d. post_bind (unless d.has_policy d) _ _ (λ e. post_bind (with_policy e.kind w e.grants) _ _ (λ g. refl)))

begin_deep : (s : State) → Deep s.depth (begin_capabilities s)
unfolding begin_capabilities
begin_deep s = post_bind (draft_of s) _ _ (λ d. post_bind (unless d.has_capabilities d) _ _ (λ e. refl))

add_deep : (s : State) (w : List ℕ) → Deep s.depth (add_capability s w)
unfolding add_capability
add_deep s w = post_bind (draft_of s) _ _ (λ d. post_bind (with_capability d.kind w d.grants) _ _ (λ g. refl))

capability_deep : (s : State) (v : Tree) → Deep s.depth (capability_in s v)
capability_deep s (text w) = add_deep s w
capability_deep s (flag b) = tt
capability_deep s digits = tt
capability_deep s (list vs trailing) = tt

capabilities_deep : (d : ℕ) (s : State) (vs : Trees) → s.depth ≡ d → Deep d (capabilities_in s vs)
capabilities_deep d s none h = h
capabilities_deep d s (one v vs) h = post_then (capability_in s v) _ _ (capability_deep s v) (λ a k. capabilities_deep d a vs (k ∙ h))

attribute_deep : (s : State) (role : ItemRole) (v : Tree) → Deep s.depth (attribute_in s role v)
attribute_deep s ItemRole.Policy (text w) = policy_deep s w
attribute_deep s ItemRole.Policy (flag b) = tt
attribute_deep s ItemRole.Policy digits = tt
attribute_deep s ItemRole.Policy (list vs trailing) = tt
attribute_deep s ItemRole.Capabilities (text w) = tt
attribute_deep s ItemRole.Capabilities (flag b) = tt
attribute_deep s ItemRole.Capabilities digits = tt
attribute_deep s ItemRole.Capabilities (list vs trailing) = post_then (begin_capabilities s) _ _ (begin_deep s) (λ a k. capabilities_deep s.depth a vs k)
attribute_deep s (ItemRole.Block kind) v = refl
attribute_deep s ItemRole.Other v = refl

opened_deep : (s : State) (role : ItemRole) (ls : List (List ℕ)) → Deep (s.depth + 1) (opened s role ls)
opened_deep s (ItemRole.Block kind) [] = tt
opened_deep s (ItemRole.Block kind) (l ∷ []) = post_then (named s kind l) _ _ (named_deep s kind l)
    (λ a k. subst (λ (d : ℕ). Deep (d + 1) (enter a)) k (enter_deep a))
opened_deep s (ItemRole.Block kind) (l ∷ m ∷ ls) = tt
opened_deep s ItemRole.Other ls = enter_deep s
opened_deep s ItemRole.Policy ls = tt
opened_deep s ItemRole.Capabilities ls = tt

mutual
  item_deep : (i : Item) (d : ℕ) (s : State) → s.depth ≡ d → Deep d (item_in s i)
  item_deep (attribute w v) d s h = subst (λ (e : ℕ). Deep e (attribute_in s (role_of s.depth (is_some s.draft) w) v)) h
      (attribute_deep s (role_of s.depth (is_some s.draft) w) v)
  item_deep (block w ls is) d s h =
      post_then (opened s (role_of s.depth (is_some s.draft) w) ls) _ _ (opened_deep s (role_of s.depth (is_some s.draft) w) ls)
      (λ a k. post_then (items_in a is) _ _ (items_deep is (s.depth + 1) a k) (λ b m. leave_deep b d (m ∙ ap (λ (e : ℕ). e + 1) h)))

  items_deep : (is : Items) (d : ℕ) (s : State) → s.depth ≡ d → Deep d (items_in s is)
  items_deep no_items d s h = h
  items_deep (item i is) d s h = post_then (item_in s i) _ _ (item_deep i d s h) (λ a k. items_deep is d a k)

-- ---- laws

finished : (s : State) → s.place ≡ Place.Item → s.depth ≡ 0 → finish s ≡ Ok s.rules
unfolding finish
finished s here level = rw (here, level) refl

all_finished : (r : Read State) → Post r (λ a. a.place ≡ Place.Item) → Post r (λ a. a.depth ≡ 0) → (r >>= finish) ≡ (r >>= λ a. Ok a.rules)
all_finished (Ok a) here level = finished a here level
all_finished (Err e) here level = refl

bind_run : (r : Read State) → (r >>= λ a. run a []) ≡ r
unfolding run
bind_run (Ok a) = refl
bind_run (Err e) = refl

placed_item : (p : Place) → is_item p ≡ true → p ≡ Place.Item
placed_item Place.Item h = refl
placed_item _ h = absurd (true≢false (sym h))

ends : (c : Bool) (a : State) (rules : List Rule) → (if c then Ok a.rules else Err Syntax) ≡ Ok rules → c ≡ true
ends true a rules h = refl
ends false a rules h = cc

done : (a : State) (rules : List Rule) → finish a ≡ Ok rules → (a.place ≡ Place.Item) × (a.depth ≡ 0)
unfolding finish
done a rules h =
    let p = and_parts (is_item a.place) (a.depth == 0) (ends (is_item a.place && (a.depth == 0)) a rules h) in
    (placed_item a.place p.0, eqb-true a.depth 0 p.1)

pub tokens_are_read : SpelledTokensAreRead
tokens_are_read is fits =
    let read : run start (items_tokens is) ≡ items_in start is = ap (run start) (sym (append-nil (items_tokens is))) ∙ items_read is start [] fits ∙
    bind_run (items_in start is) in
    ap (λ r. r >>= finish) read ∙ all_finished (items_in start is) (items_placed start is refl) (items_deep is 0 start refl)

finish_ok : (r : Read State) (rules : List Rule) → (r >>= finish) ≡ Ok rules → (a : State) × (r ≡ Ok a) × (a.place ≡ Place.Item) × (a.depth ≡ 0)
finish_ok (Ok a) rules h = let p = done a rules h in (a, refl, p.0, p.1)
finish_ok (Err e) rules h = cc

pub tokens_are_spelled : ReadTokensAreSpelled
tokens_are_spelled ts rules fits h =
    let end = finish_ok (run start ts) rules h in
    let b = left_of ts start end.0 end.2 end.3 end.1 in
    let shorter : length (items_tokens b.0) ≤ max_lists = rw (← b.1) fits in
    (b.0, b.1, sym (tokens_are_read b.0 shorter) ∙ ap read_tokens (sym b.1) ∙ h)

-- a text that is laid out is read by its tokens
laid_blocks : (ps : List Piece) → Layout ps → blocks (text_of ps) ≡ read_tokens (tokens_of ps)
unfolding blocks
laid_blocks ps laid = ap (λ r. r >>= finish) (laid_read ps (length (text_of ps)) start laid (omega arith))

pub spelled_is_read : SpelledIsRead
spelled_is_read s is fits h =
    let shorter : length (items_tokens is) ≤ max_lists = omega (arith, fewer_tokens h.0 h.1, ap length h.2, ap length h.3) in
    ap blocks h.2 ∙ laid_blocks h.0 h.1 ∙ ap read_tokens h.3 ∙ tokens_are_read is shorter

some_state : (s : List ℕ) (rules : List Rule) → blocks s ≡ Ok rules → (a : State) × (read_on (length s) start (skip false s) ≡ Ok a)
unfolding blocks
some_state s rules h = let end = finish_ok (read_on (length s) start (skip false s)) rules h in (end.0, end.1)

pub read_is_spelled : ReadIsSpelled
read_is_spelled s rules fits h =
    let end = some_state s rules h in
    let l = text_laid (length s) s start end.0 end.1 in
    let shorter : length (tokens_of l.0) ≤ max_lists = omega (arith, fewer_tokens l.0 l.1, ap length l.2) in
    let read : read_tokens (tokens_of l.0) ≡ Ok rules = sym (laid_blocks l.0 l.1) ∙ ap blocks (sym l.2) ∙ h in
    let b = tokens_are_spelled (tokens_of l.0) rules shorter read in
    (b.0, (l.0, l.1, l.2, b.1), b.2)
