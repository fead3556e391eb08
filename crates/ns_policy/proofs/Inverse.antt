-- What the machine takes is spelled by a tree.
use Rattle.std.proofs.Common.{◌≡◌, ℕ, zero, suc, ◌+◌, ◌-◌, ◌<◌, ◌≤◌, List, [], ◌∷◌, ◌++◌, map, Bool, true, false, Ok, Err, refl, sym, ap, ◌∙◌, subst, arith}
use Rattle.std.proofs.Common.{append_assoc, add-one, nat_lt, nat_le, ◌==◌, if◌then◌else◌, ◌⊎◌, inl, inr, codes, ◌||◌, true≢false}
use Rattle.std.specs.Str.{bytes_eq}
use Rattle.std.proofs.lemmas.Slice.Eq.{bytes_eq-Decides}
use Rattle.std.specs.Bool.{Decides}
use Rattle.std.proofs.lemmas.Bool.{eqb-false, ltb-false, lt-ltb}
use Rattle.ns_policy.specs.declared.parser.ItemRole.{ItemRole}
use Rattle.ns_policy.specs.declared.parser.Place.{Place}
use Rattle.ns_policy.specs.declared.parser.State.{State}
use Rattle.ns_policy.specs.Lex.{RulesToken, open_block, close_block, begin_list, end_list, comma, equals, word, string, number}
use Rattle.ns_policy.specs.Rules.{Read, ◌>>=◌, with_policy, with_capability, pattern_of}
use Rattle.ns_policy.specs.Grammar.{is_flag, draft_of, unless, enter, leave, named, set_policy, begin_capabilities, add_capability, plain, in_list, step}
use Rattle.ns_policy.specs.Grammar.{step_at, step_item, step_name, step_label, step_value, step_before, step_after, is_plain, max_lists}
use Rattle.ns_policy.specs.Tree.{Tree, text, flag, digits, list, Trees, none, one, Item, block, attribute, Items, no_items, item, flag_word, tree_tokens}
use Rattle.ns_policy.specs.Tree.{list_tokens, more_tokens, item_tokens, items_tokens, run}
use Rattle.ns_policy.proofs.Steps.{Post, post_bind, post_if, post_if_is, post_map}

-- the tokens left where so many blocks are open: items, and after them what closes each
abbrev Blocks : ℕ → List RulesToken → Type 0
Blocks zero ts = (is : Items) × (ts ≡ items_tokens is)
Blocks (suc d) ts = (is : Items) × (us : List RulesToken) × (ts ≡ items_tokens is ++ close_block ∷ us) × Blocks d us

-- the same after a value of so many lists
abbrev Lists : ℕ → ℕ → List RulesToken → Type 0
Lists zero d ts = Blocks d ts
Lists (suc n) d ts = (vs : Trees) × (trailing : Bool) × (us : List RulesToken) × (ts ≡ more_tokens vs trailing ++ us) × Lists n d us

-- the same before a value, with so many lists around the innermost
abbrev Firsts : ℕ → ℕ → List RulesToken → Type 0
Firsts n d ts = (vs : Trees) × (trailing : Bool) × (us : List RulesToken) × (ts ≡ list_tokens vs trailing ++ us) × Lists n d us

abbrev Labels : ℕ → List RulesToken → Type 0
Labels d ts = (ls : List (List ℕ)) × (us : List RulesToken) × (ts ≡ map string ls ++ open_block ∷ us) × Blocks (suc d) us

abbrev Valued : ℕ → List RulesToken → Type 0
Valued d ts = (v : Tree) × (us : List RulesToken) × (ts ≡ tree_tokens v ++ us) × Blocks d us

abbrev Assigned : ℕ → List RulesToken → Type 0
Assigned d ts = (us : List RulesToken) × (ts ≡ equals ∷ us) × Valued d us

-- capabilities are no lists of lists
abbrev Narrow : ItemRole → ℕ → Type 0
Narrow ItemRole.Capabilities n = n ≡ 0
Narrow (ItemRole.Block kind) n = Unit {0}
Narrow ItemRole.Policy n = Unit {0}
Narrow ItemRole.Other n = Unit {0}

fewer : (role : ItemRole) (n : ℕ) → Narrow role (suc n) → Narrow role n
fewer ItemRole.Capabilities n h = absurd (omega arith)
fewer (ItemRole.Block kind) n h = tt
fewer ItemRole.Policy n h = tt
fewer ItemRole.Other n h = tt

abbrev Left : Place → ℕ → List RulesToken → Type 0
Left Place.Item d ts = Blocks d ts
Left (Place.Name role) d ts = Labels d ts ⊎ Assigned d ts
Left (Place.Label role) d ts = Labels d ts
Left (Place.Value role) d ts = Valued d ts
Left (Place.Before role zero) d ts = Unit {0}
Left (Place.Before role (suc n)) d ts = Narrow role n → Firsts n d ts
Left (Place.After role zero) d ts = Unit {0}
Left (Place.After role (suc n)) d ts = Narrow role n → Lists (suc n) d ts

-- a token may stand before what is left after it
abbrev Back : Place → ℕ → RulesToken → List RulesToken → State → Type 0
Back p d t ts a = Left a.place a.depth ts → Left p d (t ∷ ts)

-- ---- items

prepend : (i : Item) (d : ℕ) (ts : List RulesToken) → Blocks d ts → Blocks d (item_tokens i ++ ts)
prepend i zero ts b = (item i b.0, ap (λ us. item_tokens i ++ us) b.1)
prepend i (suc d) ts b = (item i b.0, b.1, ap (λ us. item_tokens i ++ us) b.2 ∙ sym (append_assoc (item_tokens i) (items_tokens b.0) (close_block ∷ b.1)), b.3)

attribute_back : (w : List ℕ) (d : ℕ) (ts : List RulesToken) → Assigned d ts → Blocks d (word w ∷ ts)
attribute_back w d ts a =
    subst (λ us. Blocks d (word w ∷ us)) (sym (a.1 ∙ ap (λ us. equals ∷ us) a.2.2)) (prepend (attribute w a.2.0) d a.2.1 a.2.3)

block_back : (w : List ℕ) (d : ℕ) (ts : List RulesToken) → Labels d ts → Blocks d (word w ∷ ts)
block_back w d ts b =
    let is = b.3.0 in
    let us = b.3.1 in
    let shape : (map string b.0 ++ open_block ∷ (items_tokens is ++ close_block ∷ [])) ++ us ≡ ts =
    append_assoc (map string b.0) (open_block ∷ (items_tokens is ++ close_block ∷ [])) us
    ∙ ap (λ x. map string b.0 ++ open_block ∷ x) (append_assoc (items_tokens is) (close_block ∷ []) us ∙ sym b.3.2) ∙ sym b.2 in
    subst (λ x. Blocks d (word w ∷ x)) shape (prepend (block w b.0 is) d us b.3.3)

item_back : (w : List ℕ) (d : ℕ) (ts : List RulesToken) → (Labels d ts ⊎ Assigned d ts) → Blocks d (word w ∷ ts)
item_back w d ts (inl b) = block_back w d ts b
item_back w d ts (inr a) = attribute_back w d ts a

closing : (d e : ℕ) (ts : List RulesToken) → d ≡ suc e → Blocks e ts → Blocks d (close_block ∷ ts)
closing d e ts h b = subst (λ x. Blocks x (close_block ∷ ts)) (sym h) (no_items, ts, refl, b)

leave_back : (s : State) (ts : List RulesToken) → Post (leave s) (Back Place.Item s.depth close_block ts)
unfolding leave
leave_back s ts =
    post_if_is (s.depth == 0) _ _ _ (λ h. tt)
    (λ h. let some : 0 < s.depth = omega (arith, eqb-false s.depth 0 h) in
    post_if_is (nat_lt 1 s.depth) _ _ _ (λ k. λ b. closing s.depth (s.depth - 1) ts (omega arith) b)
    (λ k. let last : s.depth ≤ 1 = ltb-false 1 s.depth k in λ b. closing s.depth 0 ts (omega arith) b))

opening : (d : ℕ) (ts : List RulesToken) → Blocks (d + 1) ts → Labels d (open_block ∷ ts)
opening d ts b = ([], ts, refl, subst (λ x. Blocks x ts) (add-one d) b)

enter_back : (s : State) (ts : List RulesToken) → Post (enter s) (λ a. Left a.place a.depth ts → Labels s.depth (open_block ∷ ts))
unfolding enter
enter_back s ts = post_if (nat_le 16 s.depth) _ _ _ tt (λ b. opening s.depth ts b)

-- another label
label : (l : List ℕ) (d : ℕ) (ts : List RulesToken) → Labels d ts → Labels d (string l ∷ ts)
label l d ts b = (l ∷ b.0, b.1, ap (λ us. string l ∷ us) b.2, b.3)

-- ---- values

-- a value with nothing after it that is its own
alone : (v : Tree) (d : ℕ) (ts : List RulesToken) → Blocks d ts → Valued d (tree_tokens v ++ ts)
alone v d ts b = (v, ts, refl, b)

list_alone : (d : ℕ) (ts : List RulesToken) → Firsts 0 d ts → Valued d (begin_list ∷ ts)
list_alone d ts f = (list f.0 f.1, f.2, ap (λ us. begin_list ∷ us) f.3, f.4)

first : (v : Tree) (n d : ℕ) (ts : List RulesToken) → Lists (suc n) d ts → Firsts n d (tree_tokens v ++ ts)
first v n d ts l = (one v l.0, l.1, l.2, ap (λ us. tree_tokens v ++ us) l.3 ∙ sym (append_assoc (tree_tokens v) (more_tokens l.0 l.1) l.2), l.4)

first_list : (n d : ℕ) (ts : List RulesToken) → Firsts (suc n) d ts → Firsts n d (begin_list ∷ ts)
first_list n d ts f = subst (λ us. Firsts n d (begin_list ∷ us)) (sym f.3) (first (list f.0 f.1) n d f.2 f.4)

after_comma : (n d : ℕ) (ts us : List RulesToken) (vs : Trees) (trailing : Bool) →
    ts ≡ list_tokens vs trailing ++ us → Lists n d us → Lists (suc n) d (comma ∷ ts)
after_comma n d ts us none trailing e l = (none, true, us, ap (λ x. comma ∷ x) e, l)
after_comma n d ts us (one v vs) trailing e l = (one v vs, trailing, us, ap (λ x. comma ∷ x) e, l)

closed : (role : ItemRole) (n d : ℕ) (ts : List RulesToken) →
    Left (if nat_lt 1 (suc n) then Place.After role (suc n - 1) else Place.Item) d ts → Narrow role n →
    Lists n d ts
closed role zero d ts l narrow = l
closed role (suc n) d ts l narrow =
    let test : nat_lt 1 (suc (suc n)) ≡ true = lt-ltb _ _ (omega arith) in
    let back : suc (suc n) - 1 ≡ suc n = omega arith in
    let place_is : (if nat_lt 1 (suc (suc n)) then Place.After role (suc (suc n) - 1) else Place.Item) ≡ Place.After role (suc n) = rw (test, back) refl in
    subst (λ p. Left p d ts) place_is l (fewer role n narrow)

-- ---- steps

back_item : (s : State) (t : RulesToken) (ts : List RulesToken) → Post (step_item s t) (Back Place.Item s.depth t ts)
unfolding step_item
back_item s (word w) ts = λ b. item_back w s.depth ts b
back_item s close_block ts = leave_back s ts
back_item s _ ts = tt

back_name : (s : State) (role : ItemRole) (t : RulesToken) (ts : List RulesToken) → Post (step_name s role t) (Back (Place.Name role) s.depth t ts)
unfolding step_name named
back_name s role equals ts = λ v. inr (ts, refl, v)
back_name s (ItemRole.Block kind) (string l) ts = post_bind (pattern_of kind l) _ _ (λ p. λ b. inl (label l s.depth ts b))
back_name s ItemRole.Other (string l) ts = λ b. inl (label l s.depth ts b)
back_name s ItemRole.Other open_block ts = post_map (enter s) _ _ (λ a h b. inl (h b)) (enter_back s ts)
back_name s _ _ ts = tt

back_label : (s : State) (role : ItemRole) (t : RulesToken) (ts : List RulesToken) → s.place ≡ Place.Label role →
    Post (step_label s role t) (Back (Place.Label role) s.depth t ts)
unfolding step_label
back_label s ItemRole.Other (string l) ts here = λ b. label l s.depth ts (subst (λ p. Left p s.depth ts) here b)
back_label s ItemRole.Other open_block ts here = enter_back s ts
back_label s (ItemRole.Block kind) open_block ts here = enter_back s ts
back_label s ItemRole.Policy open_block ts here = enter_back s ts
back_label s ItemRole.Capabilities open_block ts here = enter_back s ts
back_label s _ _ ts here = tt

either_flag : (x y : Bool) (w : List ℕ) → Decides x (w ≡ codes "true") → Decides y (w ≡ codes "false") → (x || y) ≡ true → (b : Bool) × (w ≡ flag_word b)
either_flag true y w p q h = (true, p.0 refl)
either_flag false true w p q h = (false, q.0 refl)
either_flag false false w p q h = absurd (true≢false (sym h))

is_a_flag : (w : List ℕ) → is_flag w ≡ true → (b : Bool) × (w ≡ flag_word b)
is_a_flag w h = either_flag (bytes_eq w (codes "true")) (bytes_eq w (codes "false")) w (bytes_eq-Decides w _) (bytes_eq-Decides w _) h

word_alone : (w : List ℕ) (d : ℕ) (ts : List RulesToken) → is_flag w ≡ true → Blocks d ts → Valued d (word w ∷ ts)
word_alone w d ts h b = let f = is_a_flag w h in subst (λ x. Valued d (word x ∷ ts)) (sym f.1) (alone (flag f.0) d ts b)

word_first : (w : List ℕ) (n d : ℕ) (ts : List RulesToken) → is_flag w ≡ true → Lists (suc n) d ts → Firsts n d (word w ∷ ts)
word_first w n d ts h l = let f = is_a_flag w h in subst (λ x. Firsts n d (word x ∷ ts)) (sym f.1) (first (flag f.0) n d ts l)

plain_back : (s : State) (role : ItemRole) (p : Place) (X : Type 0) (ts : List RulesToken) → (Left p s.depth ts → X) →
    Post (plain s role p) (λ a. Left a.place a.depth ts → X)
plain_back s role p X ts h = post_if (is_plain role) _ _ _ h tt

back_value : (s : State) (role : ItemRole) (t : RulesToken) (ts : List RulesToken) → Post (step_value s role t) (Back (Place.Value role) s.depth t ts)
unfolding step_value set_policy begin_capabilities
back_value s ItemRole.Policy (string w) ts = post_bind (draft_of s) _ _
    (λ d. post_bind (unless d.has_policy d) _ _ (λ e. post_bind (with_policy e.kind w e.grants) _ _ (λ g. λ b. alone (text w) s.depth ts b)))
back_value s ItemRole.Capabilities begin_list ts = post_bind (draft_of s) _ _
    (λ d. post_bind (unless d.has_capabilities d) _ _ (λ e. λ b. list_alone s.depth ts (b refl)))
back_value s (ItemRole.Block kind) (string w) ts = λ b. alone (text w) s.depth ts b
back_value s ItemRole.Other (string w) ts = λ b. alone (text w) s.depth ts b
back_value s ItemRole.Capabilities (string w) ts = tt
back_value s role number ts = plain_back s role Place.Item _ ts (λ b. alone digits s.depth ts b)
back_value s (ItemRole.Block kind) begin_list ts = λ b. list_alone s.depth ts (b tt)
back_value s ItemRole.Other begin_list ts = λ b. list_alone s.depth ts (b tt)
back_value s ItemRole.Policy begin_list ts = tt
back_value s role (word w) ts = post_if_is (is_flag w) _ _ _ (λ h. plain_back s role Place.Item _ ts (λ b. word_alone w s.depth ts h b)) (λ h. tt)
back_value s role _ ts = tt

in_list_back : (s : State) (role : ItemRole) (p : Place) (X : Type 0) (ts : List RulesToken) → (Left p s.depth ts → X) →
    Post (in_list s role p) (λ a. Left a.place a.depth ts → X)
in_list_back s ItemRole.Capabilities p X ts h = tt
in_list_back s (ItemRole.Block kind) p X ts h = h
in_list_back s ItemRole.Policy p X ts h = h
in_list_back s ItemRole.Other p X ts h = h

end_back : (role : ItemRole) (n d : ℕ) (ts : List RulesToken) →
    Left (if nat_lt 1 (suc n) then Place.After role (suc n - 1) else Place.Item) d ts → Narrow role n →
    Firsts n d (end_list ∷ ts)
end_back role n d ts l narrow = (none, false, ts, refl, closed role n d ts l narrow)

more_open : (role : ItemRole) (n d : ℕ) (ts : List RulesToken) → Narrow role (suc n) → Left (Place.Before role (suc n + 1)) d ts → Firsts n d (begin_list ∷ ts)
more_open role n d ts narrow l = first_list n d ts (subst (λ (m : ℕ). Left (Place.Before role m) d ts) (add-one (suc n)) l narrow)

a_capability : (w : List ℕ) (n d : ℕ) (ts : List RulesToken) → Lists 1 d ts → n ≡ 0 → Firsts n d (string w ∷ ts)
a_capability w n d ts l narrow = subst (λ (m : ℕ). Firsts m d (string w ∷ ts)) (sym narrow) (first (text w) 0 d ts l)

back_before : (s : State) (role : ItemRole) (n : ℕ) (t : RulesToken) (ts : List RulesToken) →
    Post (step_before s role (suc n) t) (Back (Place.Before role (suc n)) s.depth t ts)
unfolding step_before add_capability
back_before s role n end_list ts = λ l narrow. end_back role n s.depth ts l narrow
back_before s ItemRole.Capabilities n (string w) ts =
    post_bind (draft_of s) _ _ (λ d. post_bind (with_capability d.kind w d.grants) _ _ (λ g. λ l narrow. a_capability w n s.depth ts (l refl) narrow))
back_before s (ItemRole.Block kind) n (string w) ts = λ l narrow. first (text w) n s.depth ts (l narrow)
back_before s ItemRole.Policy n (string w) ts = λ l narrow. first (text w) n s.depth ts (l narrow)
back_before s ItemRole.Other n (string w) ts = λ l narrow. first (text w) n s.depth ts (l narrow)
back_before s role n number ts = in_list_back s role (Place.After role (suc n)) _ ts (λ l narrow. first digits n s.depth ts (l narrow))
back_before s ItemRole.Capabilities n begin_list ts = tt
back_before s (ItemRole.Block kind) n begin_list ts = post_if (nat_lt (suc n) max_lists) _ _ _
    (λ l narrow. more_open (ItemRole.Block kind) n s.depth ts tt l) tt
back_before s ItemRole.Policy n begin_list ts = post_if (nat_lt (suc n) max_lists) _ _ _ (λ l narrow. more_open ItemRole.Policy n s.depth ts tt l) tt
back_before s ItemRole.Other n begin_list ts = post_if (nat_lt (suc n) max_lists) _ _ _ (λ l narrow. more_open ItemRole.Other n s.depth ts tt l) tt
back_before s role n (word w) ts = post_if_is (is_flag w) _ _ _
    (λ h. in_list_back s role (Place.After role (suc n)) _ ts (λ l narrow. word_first w n s.depth ts h (l narrow))) (λ h. tt)
back_before s role n _ ts = tt

back_after : (s : State) (role : ItemRole) (n : ℕ) (t : RulesToken) (ts : List RulesToken) →
    Post (step_after s role (suc n) t) (Back (Place.After role (suc n)) s.depth t ts)
unfolding step_after
back_after s role n comma ts = λ l narrow. let f = l narrow in after_comma n s.depth ts f.2 f.0 f.1 f.3 f.4
back_after s role n end_list ts = λ l narrow. (none, false, ts, refl, closed role n s.depth ts l narrow)
back_after s role n _ ts = tt

unasked : (r : Read State) (Q : State → Type 0) → Post r (λ a. Q a → Unit {0})
unasked (Ok a) Q = λ q. tt
unasked (Err e) Q = tt

back : (s : State) (p : Place) (t : RulesToken) (ts : List RulesToken) → s.place ≡ p → Post (step_at s p t) (Back p s.depth t ts)
back s Place.Item t ts here = back_item s t ts
back s (Place.Name role) t ts here = back_name s role t ts
back s (Place.Label role) t ts here = back_label s role t ts here
back s (Place.Value role) t ts here = back_value s role t ts
back s (Place.Before role zero) t ts here = unasked (step_before s role zero t) _
back s (Place.Before role (suc n)) t ts here = back_before s role n t ts
back s (Place.After role zero) t ts here = unasked (step_after s role zero t) _
back s (Place.After role (suc n)) t ts here = back_after s role n t ts

-- ---- runs

goes : (r : Read State) (ts : List RulesToken) (end : State) (X : Type 0) → Post r (λ a. Left a.place a.depth ts → X) →
    ((a : State) → run a ts ≡ Ok end → Left a.place a.depth ts) → (r >>= λ a. run a ts) ≡ Ok end → X
goes (Ok a) ts end X post rest h = post (rest a h)
goes (Err e) ts end X post rest h = cc

pub left_of : (ts : List RulesToken) (s end : State) → end.place ≡ Place.Item → end.depth ≡ 0 → run s ts ≡ Ok end → Left s.place s.depth ts
unfolding run step
left_of [] s end here level h =
    let same : s ≡ end = cc in
    let place_is : Place.Item ≡ s.place = sym (ap (λ a. a.place) same ∙ here) in
    let depth_is : 0 ≡ s.depth = sym (ap (λ a. a.depth) same ∙ level) in
    subst (λ p. Left p s.depth []) place_is (subst (λ (d : ℕ). Blocks d []) depth_is (no_items, refl))
left_of (t ∷ ts) s end here level h = goes (step s t) ts end (Left s.place s.depth (t ∷ ts)) (back s s.place t ts refl) (λ a k. left_of ts a end here level k) h
