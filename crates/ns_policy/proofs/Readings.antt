-- Reading, from the machine to trees.
use Rattle.std.proofs.Common.{◌≡◌, ℕ, suc, ◌+◌, ◌≤◌, List, [], ◌∷◌, ◌++◌, length, true, false, Ok, Err, IfOk, refl, sym, ap, ◌∙◌, subst, true≢false, arith}
use Rattle.std.specs.List.{prefix_len}
use Rattle.ns_types.specs.declared.acl.Rule.{Rule}
use Rattle.ns_policy.specs.Lex.{is_json, is_blank, begins_word, word, RulesToken}
use Rattle.ns_policy.specs.Rules.{Read, Gives, same}
use Rattle.ns_policy.specs.Grammar.{max_lists, blocks}
use Rattle.ns_policy.specs.Json.{json_form, rules_of}
use Rattle.ns_policy.specs.Tree.{Items, no_items, item, block, attribute, items_tokens, rules_in}
use Rattle.ns_policy.specs.Layout.{Piece, blank, comment, part, Layout, Spells, first_is, text_of, tokens_of}
use Rattle.ns_policy.specs.Laws.{Spelling}
use Rattle.ns_policy.specs.Reading.{Reads}
use Rattle.ns_policy.proofs.Both.{spelled_is_read, read_is_spelled}
use Rattle.ns_policy.proofs.Layouts.{differs}

-- ---- no text of items is JSON

begins_item : (w rest : List ℕ) → first_is begins_word w ≡ true → is_json (w ++ rest) ≡ false
begins_item [] rest first = absurd (true≢false (sym first))
begins_item (x ∷ w) rest first =
    rw (
      differs begins_word x 32 first refl,
      differs begins_word x 9 first refl,
      differs begins_word x 13 first refl,
      differs begins_word x 10 first refl,
      differs begins_word x 123 first refl,
    ) refl

a_word : (is : Items) (t : RulesToken) (ts : List RulesToken) (s rest : List ℕ) → t ∷ ts ≡ items_tokens is → Spells t s → is_json (s ++ rest) ≡ false
a_word no_items t ts s rest h spells = cc
a_word (item (block w ls is) more) t ts s rest h spells =
    let t_is : t ≡ word w = cc in
    let p : Spells (word w) s = subst (λ u. Spells u s) t_is spells in
    rw p.0 (begins_item w rest p.1)
a_word (item (attribute w v) more) t ts s rest h spells =
    let t_is : t ≡ word w = cc in
    let p : Spells (word w) s = subst (λ u. Spells u s) t_is spells in
    rw p.0 (begins_item w rest p.1)

after_blank : (b : ℕ) (s : List ℕ) → is_blank b ≡ true → is_json s ≡ false → is_json (b ∷ s) ≡ false
after_blank b s passes h =
    let longer : 1 + prefix_len is_blank s ≡ suc (prefix_len is_blank s) = omega arith in
    rw (passes, longer) h

no_json : (ps : List Piece) (is : Items) → Layout ps → tokens_of ps ≡ items_tokens is → is_json (text_of ps) ≡ false
no_json [] is laid tokens = refl
no_json (blank b ∷ ps) is laid tokens = after_blank b (text_of ps) laid.0 (no_json ps is laid.1 tokens)
no_json (comment true line ∷ ps) is laid tokens = refl
no_json (comment false line ∷ ps) is laid tokens = refl
no_json (part t s ∷ ps) is laid tokens = a_word is t (tokens_of ps) s (text_of ps) tokens laid.0.0

spelled_no_json : (s : List ℕ) (is : Items) → Spelling s is → is_json s ≡ false
spelled_no_json s is p = ap is_json p.2 ∙ no_json p.0 is p.1 p.3

-- ---- the machine, by the form of the text

pub of_json : (s : List ℕ) → is_json s ≡ true → rules_of s ≡ json_form s
of_json s is = rw is refl

pub of_blocks : (s : List ℕ) → is_json s ≡ false → rules_of s ≡ blocks s
of_blocks s is = rw is refl

read_ok : (r : Read (List Rule)) (s : List ℕ) → length s ≤ max_lists → Gives same r (blocks s) →
    IfOk r (λ rules. (is : Items) × Spelling s is × (rules_in is ≡ Ok rules))
read_ok (Ok rules) s fits h = read_is_spelled s rules fits h
read_ok (Err e) s fits h = tt

pub reads : (r : Read (List Rule)) (s : List ℕ) → length s ≤ max_lists → Gives same r (rules_of s) → Reads r s
reads r s fits h = record {
  json = λ is. subst (λ (q : Read (List Rule)). Gives same r q) (of_json s is) h;
  spelled = λ is p. subst (λ (q : Read (List Rule)). Gives same r q) (of_blocks s (spelled_no_json s is p) ∙ spelled_is_read s is fits p) h;
  read = λ is. read_ok r s fits (subst (λ (q : Read (List Rule)). Gives same r q) (of_blocks s is) h);
}
