-- The list of blocked evaluations goes along with a step, and when it does.
use Rattle.std.specs.Prelude.{◌≡◌, ℕ, ◌<◌, ◌≤◌, Bool, true, false, cond, not, ◌&&◌, List, [], ◌∷◌, ◌++◌, length, map, filter}
use Rattle.std.specs.Prelude.{Option, Some, None, flat_map, is_some, option_map}
use Rattle.std.proofs.Common.{refl, sym, ap, subst, ◌∙◌, arith, is_eq}
use Rattle.std.proofs.Math.Bool.{and-false}
use Rattle.std.specs.Cmp.{tied_itself}
use Rattle.std.specs.Cmp.Derive.{both_true}
use Rattle.std.proofs.lemmas.List.{map-append}
use Rattle.std.proofs.lemmas.List.Elements.{filter_map-append}
use Rattle.std.specs.Cmp.Lexicographic.{pointwise}
use Rattle.std.specs.List.{cons_option, list_all}
use Rattle.std.specs.Option.{option_eq, option_map_or}
use Rattle.keyed.specs.Queue.{keys_in}
use Rattle.ns_blocked.specs.declared.entry.BlockedEvaluation.{BlockedEvaluation}
use Rattle.ns_blocked.specs.declared.entry.Waits.TheVariants.{Pool, Quota}
use Rattle.ns_blocked.specs.Blocked.{BlockedList, are_new, entries_of, keys_of}
use Rattle.ns_blocked.specs.Waking.{entry_of}
use Rattle.ns_change.specs.Changed.{changed_list, without_keys}
use Rattle.ns_change.specs.Settled.{settled_world}
use Rattle.ns_change.specs.declared.change.Settled.{Settled}
use Rattle.ns_queues.specs.After.{NoneMoves, StillUnmoved, any_moves}
use Rattle.ns_queues.specs.Waiting.{IsBlockedIndex, added_entries, adds_new, entries_at, entries_for, have_rows, keep_waiting, keeps_list}
use Rattle.ns_queues.specs.Waiting.{moves_entry, rows_alike, waits_alike}
use Rattle.ns_queues.proofs.Moved.{all_unless_moved}
use Rattle.ns_tables.specs.World.{world_of}
use Rattle.ns_tables.specs.declared.tables.Tables.{Tables}
use Rattle.ns_types.proofs.Alike.{option_eq_refl, pointwise_refl, same_flag_refl}
use Rattle.ns_types.proofs.Classes.{by_class, one_class}
use Rattle.ns_types.proofs.Elements as elements
use Rattle.ns_types.proofs.Lists.{each_map, not_both}
use Rattle.ns_types.proofs.Named.{first_of_both, same_name_is, same_name_refl, second_of_both}
use Rattle.ns_types.proofs.Once.{each_member}
use Rattle.ns_types.proofs.Tables.{tied}
use Rattle.ns_types.proofs.Tests.{is_yes}
use Rattle.ns_types.specs.State.Lists.{Each}
use Rattle.ns_types.specs.State.Names.{Key, has_key, same_class, same_name}
use Rattle.ns_types.specs.State.Rows.{World, evaluation_at}
use Rattle.ns_types.specs.Settling.Same.{same_flag}
use Rattle.ns_types.specs.declared.evaluation.Evaluation.{Evaluation}
use Rattle.ns_types.specs.declared.node.Class.{Class}

-- ---- rows that are alike

pointwise_is : {A : Type 0} (same : A → A → Bool) → ((a b : A) → same a b ≡ true → a ≡ b) → (xs ys : List A) → pointwise same xs ys ≡ true → xs ≡ ys
pointwise_is same one [] [] t = refl
pointwise_is same one [] (y ∷ ys) t = not_both t refl
pointwise_is same one (x ∷ xs) [] t = not_both t refl
pointwise_is same one (x ∷ xs) (y ∷ ys) t = λ i. one x y (first_of_both _ _ t) i ∷ pointwise_is same one xs ys (second_of_both _ _ t) i

option_is : {A : Type 0} (same : A → A → Bool) → ((a b : A) → same a b ≡ true → a ≡ b) → (x y : Option A) → option_eq same x y ≡ true → x ≡ y
option_is same one None None t = refl
option_is same one None (Some y) t = not_both t refl
option_is same one (Some x) None t = not_both t refl
option_is same one (Some x) (Some y) t = ap Some (one x y t)

flag_is : (a b : Bool) → same_flag a b ≡ true → a ≡ b
flag_is true true t = refl
flag_is false false t = refl
flag_is true false t = not_both t refl
flag_is false true t = not_both t refl

same_class_refl : (c : Class) → same_class c c ≡ true
same_class_refl c = ap is_eq (tied_itself by_class c)

alike_refl : (e : Evaluation) → waits_alike e e ≡ true
alike_refl e = both_true (both_true (both_true (option_eq_refl same_name same_name_refl e.quota) (same_name_refl e.pool)) (same_flag_refl e.escapes))
    (pointwise_refl same_class same_class_refl e.infeasible)

alike_is : (key : Key) (a b : Evaluation) → waits_alike a b ≡ true → entry_of key a ≡ entry_of key b
alike_is key a b t =
    let three = first_of_both _ _ t in
    let two = first_of_both _ _ three in
    let quota = option_is same_name same_name_is a.quota b.quota (first_of_both _ _ two) in
    let pool = same_name_is a.pool b.pool (second_of_both _ _ two) in
    let escapes = flag_is a.escapes b.escapes (second_of_both _ _ three) in
    let infeasible = pointwise_is same_class (tied one_class) a.infeasible b.infeasible (second_of_both _ _ t) in
    λ i. record { key = key; waits = option_map_or Quota (quota i) (Pool (pool i)); escapes = escapes i; infeasible = infeasible i }

rows_are : (key : Key) (a b : Option Evaluation) → rows_alike a b ≡ true → option_map (entry_of key) a ≡ option_map (entry_of key) b
rows_are key None None t = refl
rows_are key None (Some b) t = not_both t refl
rows_are key (Some a) None t = not_both t refl
rows_are key (Some a) (Some b) t = ap Some (alike_is key a b t)

-- ---- who gets another entry

pub still_unmoved : (list : BlockedList) → StillUnmoved (moves_entry list)
still_unmoved list key row = ap (λ b. has_key (keys_of list) key && not b) (option_eq_refl waits_alike alike_refl row) ∙ and-false (has_key (keys_of list) key)

-- it has the same entry in both worlds
abbrev HasEntry : World → World → Key → Type 0
HasEntry w w' key = option_map (entry_of key) (evaluation_at w key) ≡ option_map (entry_of key) (evaluation_at w' key)

has_entry : (list : BlockedList) (w w' : World) → NoneMoves (moves_entry list) w w' → (key : Key) → has_key (keys_of list) key ≡ true → HasEntry w w' key
has_entry list w w' none key has = rows_are key (evaluation_at w key) (evaluation_at w' key)
    (is_yes _ (sym (ap (λ b. b && not (rows_alike (evaluation_at w key) (evaluation_at w' key))) has) ∙ none key))

-- ---- entries for keys

same_entries : (w w' : World) (keys : List Key) → Each (HasEntry w w') keys → entries_for w keys ≡ entries_for w' keys
same_entries w w' [] h = refl
same_entries w w' (key ∷ keys) h = λ i. cons_option (h.0 i) (same_entries w w' keys h.1 i)

put_first : (entry : Option BlockedEvaluation) (entries : List BlockedEvaluation) → cons_option entry [] ++ entries ≡ cons_option entry entries
put_first None entries = refl
put_first (Some entry) entries = refl

-- the entries of slots, found slot by slot
pub entries_are : (w : World) (slots : List (ℕ × Option Key)) → flat_map (entries_at w) slots ≡ entries_for w (keys_in slots)
entries_are w [] = refl
entries_are w ((place, None) ∷ slots) = entries_are w slots
entries_are w ((place, Some key) ∷ slots) = ap (λ l. entries_for w (key ∷ []) ++ l) (entries_are w slots)
    ∙ put_first (option_map (entry_of key) (evaluation_at w key)) (entries_for w (keys_in slots))

kept_entries : (w : World) (taken keys : List Key) →
    filter (λ e. not (has_key taken e.key)) (entries_for w keys) ≡ entries_for w (without_keys taken keys)
kept_entries w taken [] = refl
kept_entries w taken (key ∷ keys) = by (evaluation_at w key) refl (not (has_key taken key)) refl (kept_entries w taken keys)
  where
    rest : List BlockedEvaluation
    rest = filter (λ e. not (has_key taken e.key)) (entries_for w keys)

    by : (r : Option Evaluation) → evaluation_at w key ≡ r → (b : Bool) → not (has_key taken key) ≡ b → rest ≡ entries_for w (without_keys taken keys) →
        filter (λ e. not (has_key taken e.key)) (cons_option (option_map (entry_of key) r) (entries_for w keys))
        ≡ entries_for w (cond (not (has_key taken key)) (key ∷ without_keys taken keys) (without_keys taken keys))
    by None is true t later = later
        ∙ sym (λ i. cons_option (option_map (entry_of key) (is i)) (entries_for w (without_keys taken keys)))
        ∙ ap (λ b. entries_for w (cond b (key ∷ without_keys taken keys) (without_keys taken keys))) (sym t)
    by None is false t later = later ∙ ap (λ b. entries_for w (cond b (key ∷ without_keys taken keys) (without_keys taken keys))) (sym t)
    by (Some e) is true t later = ap (λ b. cond b (entry_of key e ∷ rest) rest) t
        ∙ ap (λ l. entry_of key e ∷ l) later
        ∙ sym (λ i. cons_option (option_map (entry_of key) (is i)) (entries_for w (without_keys taken keys)))
        ∙ ap (λ b. entries_for w (cond b (key ∷ without_keys taken keys) (without_keys taken keys))) (sym t)
    by (Some e) is false t later = ap (λ b. cond b (entry_of key e ∷ rest) rest) t ∙ later
        ∙ ap (λ b. entries_for w (cond b (key ∷ without_keys taken keys) (without_keys taken keys))) (sym t)

no_more : (w : World) (keys : List Key) → length (entries_for w keys) ≤ length keys
no_more w [] = omega arith
no_more w (key ∷ keys) = by (evaluation_at w key) (no_more w keys)
  where
    by : (r : Option Evaluation) → length (entries_for w keys) ≤ length keys →
        length (cons_option (option_map (entry_of key) r) (entries_for w keys)) ≤ length (key ∷ keys)
    by None le = omega arith
    by (Some e) le = omega arith

-- where there are as many, each key has its entry
all_there : (w : World) (keys : List Key) → length keys ≤ length (entries_for w keys) → map (λ e. e.key) (entries_for w keys) ≡ keys
all_there w [] le = refl
all_there w (key ∷ keys) le = by (evaluation_at w key) (no_more w keys) (all_there w keys) le
  where
    by : (r : Option Evaluation) → length (entries_for w keys) ≤ length keys →
        (length keys ≤ length (entries_for w keys) → map (λ e. e.key) (entries_for w keys) ≡ keys) →
        length (key ∷ keys) ≤ length (cons_option (option_map (entry_of key) r) (entries_for w keys)) →
        map (λ e. e.key) (cons_option (option_map (entry_of key) r) (entries_for w keys)) ≡ key ∷ keys
    by None less later le = absurd (omega arith)
    by (Some e) less later le =
        let all : length keys ≤ length (entries_for w keys) = omega arith in
        ap (λ l. key ∷ l) (later all)

-- there are as many just where each key has its row
all_rows : (w : World) (keys : List Key) → length keys ≤ length (entries_for w keys) → have_rows w keys ≡ true
all_rows w [] le = refl
all_rows w (key ∷ keys) le = by (evaluation_at w key) (no_more w keys) (all_rows w keys) le
  where
    by : (r : Option Evaluation) → length (entries_for w keys) ≤ length keys →
        (length keys ≤ length (entries_for w keys) → have_rows w keys ≡ true) →
        length (key ∷ keys) ≤ length (cons_option (option_map (entry_of key) r) (entries_for w keys)) → (is_some r && have_rows w keys) ≡ true
    by None less later le = absurd (omega arith)
    by (Some e) less later le =
        let all : length keys ≤ length (entries_for w keys) = omega arith in
        later all

missing_row : (w : World) (keys : List Key) → length (entries_for w keys) < length keys → have_rows w keys ≡ false
missing_row w [] lt = absurd (omega arith)
missing_row w (key ∷ keys) lt = by (evaluation_at w key) (missing_row w keys) lt
  where
    by : (r : Option Evaluation) → (length (entries_for w keys) < length keys → have_rows w keys ≡ false) →
        length (cons_option (option_map (entry_of key) r) (entries_for w keys)) < length (key ∷ keys) → (is_some r && have_rows w keys) ≡ false
    by None later lt = refl
    by (Some e) later lt =
        let less : length (entries_for w keys) < length keys = omega arith in
        later less

-- ---- the keys that stay

-- they are the keys of the entries that stay
staying_keys : (taken : List Key) (old left : BlockedList) → entries_of left ≡ filter (λ e. not (has_key taken e.key)) (entries_of old) →
    keys_of left ≡ without_keys taken (keys_of old)
staying_keys taken old left out = ap (map (λ (e : BlockedEvaluation). e.key)) out
    ∙ sym (elements.filter_map (λ key. not (has_key taken key)) (λ (e : BlockedEvaluation). e.key) (entries_of old))

-- ---- when the list stays right

module _ (t : Tables) (s : Settled) (old left : BlockedList) (entries : List BlockedEvaluation)
    (out : entries_of left ≡ filter (λ e. not (has_key s.blocked.taken e.key)) (entries_of old))
    (added : entries ≡ added_entries (world_of t) s) where
  abbrev before : World
  before = world_of t

  abbrev after : World
  after = settled_world before s

  abbrev staying : List Key
  staying = without_keys s.blocked.taken (keys_of old)

  abbrev alike_at : Key → Bool
  alike_at key = rows_alike (evaluation_at before key) (evaluation_at after key)

  waiting_is : keep_waiting before after staying ≡ not (any_moves (moves_entry left) t s)
  waiting_is = ap (list_all alike_at) (sym (staying_keys s.blocked.taken old left out))
      ∙ all_unless_moved t s (moves_entry left) (still_unmoved left) (keys_of left) alike_at (λ key. refl)

  pub not_where_moved : any_moves (moves_entry left) t s ≡ true → keeps_list before s (keys_of old) ≡ false
  not_where_moved moved = ap (λ b. b && adds_new before s staying) (waiting_is ∙ ap not moved)

  pub not_where_missing : length entries < length s.blocked.added → keeps_list before s (keys_of old) ≡ false
  not_where_missing less = ap (λ b. keep_waiting before after staying && (b && are_new staying (added_entries before s)))
      (missing_row after s.blocked.added (subst (λ es. length es < length s.blocked.added) added less)) ∙ and-false (keep_waiting before after staying)

  pub kept_where_new : any_moves (moves_entry left) t s ≡ false → length s.blocked.added ≤ length entries →
      are_new (keys_of left) entries ≡ keeps_list before s (keys_of old)
  kept_where_new none whole = (λ i. are_new (staying_keys s.blocked.taken old left out i) (added i))
      ∙ sym (λ i. (waiting_is ∙ ap not none) i && (all_rows after s.blocked.added
      (subst (λ es. length s.blocked.added ≤ length es) added whole) i && are_new staying (added_entries before s)))

-- ---- the list after the step

blocked_settled : (w : World) (s : Settled) → (settled_world w s).blocked ≡ changed_list w.blocked s.blocked
unfolding settled_world
blocked_settled w s = refl

-- some are taken out, and the entries put at the end
module _ (w : World) (s : Settled) (old left new : BlockedList) (entries : List BlockedEvaluation)
    (out : entries_of left ≡ filter (λ e. not (has_key s.blocked.taken e.key)) (entries_of old))
    (unmoved : NoneMoves (moves_entry left) w (settled_world w s))
    (added : entries ≡ added_entries w s)
    (whole : length s.blocked.added ≤ length entries)
    (put : entries_of new ≡ entries_of left ++ entries)
    (h : IsBlockedIndex w old) where
  abbrev w' : World
  w' = settled_world w s

  abbrev kept : List Key
  kept = without_keys s.blocked.taken w.blocked

  left_keys : keys_of left ≡ kept
  left_keys = staying_keys s.blocked.taken old left out
      ∙ ap (filter (λ key. not (has_key s.blocked.taken key))) h.keys

  left_entries : entries_of left ≡ entries_for w' kept
  left_entries = out ∙ ap (filter (λ e. not (has_key s.blocked.taken e.key))) h.entries ∙ kept_entries w s.blocked.taken w.blocked
      ∙ same_entries w w' kept (subst (λ keys. Each (HasEntry w w') keys) left_keys
      (each_map (has_entry left w w' unmoved) (keys_of left) (each_member (keys_of left))))

  added_keys : map (λ e. e.key) entries ≡ s.blocked.added
  added_keys = ap (map (λ (e : BlockedEvaluation). e.key)) added
      ∙ all_there w' s.blocked.added (subst (λ es. length s.blocked.added ≤ length es) added whole)

  pub followed : IsBlockedIndex w' new
  followed = record {
    entries = put ∙ (λ i. left_entries i ++ added i)
        ∙ sym (filter_map-append (λ key. option_map (entry_of key) (evaluation_at w' key)) kept s.blocked.added)
        ∙ ap (entries_for w') (sym (blocked_settled w s));
    keys = ap (map (λ (e : BlockedEvaluation). e.key)) put ∙ map-append (λ (e : BlockedEvaluation). e.key) (entries_of left) entries
        ∙ (λ i. left_keys i ++ added_keys i) ∙ sym (blocked_settled w s);
  }

-- ---- other worlds

-- where none is blocked, the list is empty
pub none_blocked : (w : World) (list : BlockedList) → w.blocked ≡ [] → entries_of list ≡ [] → IsBlockedIndex w list
none_blocked w list none empty = record {
  entries = empty ∙ ap (entries_for w) (sym none);
  keys = ap (map (λ (e : BlockedEvaluation). e.key)) empty ∙ sym none;
}
