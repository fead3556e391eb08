-- Places that are found, and entries that are taken out of them.
use Rattle.std.specs.Prelude.{◌≡◌, ℕ, ◌+◌, ◌<◌, ◌≤◌, Bool, true, false, cond, ◌&&◌, ◌||◌, T, IsTrue, List, [], ◌∷◌, ◌++◌, length}
use Rattle.std.specs.Prelude.{Option, Some, None, is_some, option_map, reverse}
use Rattle.std.proofs.Common.{refl, sym, ap, subst, ◌∙◌, add-one, append_assoc, get_or, take}
use Rattle.std.proofs.Math.Seq.{take-suc}
use Rattle.std.proofs.lemmas.List.{append-nil, reverse-append}
use Rattle.std.proofs.lemmas.List.Elements.{filter_map-append}
use Rattle.std.proofs.Math.Bool.{or-false, or-true, or_assoc}
use Rattle.std.proofs.lemmas.List.Folds.{list_any-append}
use Rattle.std.specs.List.{cons_option, filter_map, list_any}
use Rattle.std.specs.FinMap.{entries}
use Rattle.keyed.proofs.Mapped.{take_all}
use Rattle.ns_types.specs.State.Names.{Key, has_number, same_number}
use Rattle.ns_types.proofs.Named.{numbers, one_number, same_number_refl}
use Rattle.ns_types.proofs.Tables.{tied}
use Rattle.ns_types.proofs.Tests.{not_Some}
use Rattle.ns_blocked.specs.declared.entry.BlockedEvaluation.{BlockedEvaluation}
use Rattle.ns_blocked.specs.declared.entry.Waits.{Waits}
use Rattle.ns_blocked.specs.declared.groups.Groups.{Groups}
use Rattle.ns_blocked.specs.Blocked.{BlockedList, CanAdd, entry_at}
use Rattle.ns_blocked.specs.Groups.{group_of, holds_waiting}
use Rattle.ns_blocked.specs.Waking.{AddsPlaces, ArePresent}
use Rattle.ns_blocked.proofs.Grouping.{group_holds}
use Rattle.ns_blocked.proofs.OneKey.{same_turned, slot_found}

-- ---- places that are found, one after another

pub any_last : {A : Type 0} (p : A → Bool) (xs : List A) (x : A) → list_any p (xs ++ x ∷ []) ≡ (list_any p xs || p x)
any_last p xs x = list_any-append p xs (x ∷ []) ∙ ap (λ b. list_any p xs || b) (or-false (p x))

pub adds_next : {A : Type 0} (more : A → ℕ → Bool) (xs : List A) (i : ℕ) (x : A) (old now new : List ℕ) → i < length xs → x ≡ get_or xs i x →
    AddsPlaces (λ n. list_any (λ a. more a n) (take i xs)) old now → AddsPlaces (more x) now new →
    AddsPlaces (λ n. list_any (λ a. more a n) (take (i + 1) xs)) old new
adds_next more xs i x old now new lt is before adds n = adds n ∙ ap (λ b. b || more x n) (before n)
    ∙ or_assoc (has_number old n) (list_any (λ a. more a n) (take i xs)) (more x n)
    ∙ ap (λ b. has_number old n || b) (sym (any_last (λ a. more a n) (take i xs) x)
    ∙ ap (list_any (λ a. more a n)) (ap (λ x. take i xs ++ x ∷ []) is ∙ sym (take-suc xs i x lt) ∙ ap (λ n. take n xs) (sym (add-one i))))

-- the slot is that of the number, and is wanted: the test gets its number, and whether it has a place
abbrev pub stands_at : (ℕ → Bool → Bool) → ℕ × Option Unit → ℕ → Bool
stands_at wants slot n = same_number n slot.0 && wants slot.0 (is_some slot.1)

-- a slot that is wanted is put among them, and another is not
pub slot_added : (wants : ℕ → Bool → Bool) (slot : ℕ × Option Unit) (now new : List ℕ) → wants slot.0 (is_some slot.1) ≡ true →
    ((n : ℕ) → has_number new n ≡ cond (same_number slot.0 n) true (has_number now n)) →
    AddsPlaces (stands_at wants slot) now new
slot_added wants slot now new t put n = put n ∙ ap (λ b. cond b true (has_number now n)) (same_turned numbers slot.0 n)
    ∙ by (same_number n slot.0) (has_number now n) ∙ ap (λ b. has_number now n || (same_number n slot.0 && b)) (sym t)
  where
    by : (s h : Bool) → cond s true h ≡ (h || (s && true))
    by true true = refl
    by true false = refl
    by false true = refl
    by false false = refl

pub slot_passed : (wants : ℕ → Bool → Bool) (slot : ℕ × Option Unit) (now : List ℕ) → wants slot.0 (is_some slot.1) ≡ false →
    AddsPlaces (stands_at wants slot) now now
slot_passed wants slot now t n = by (same_number n slot.0) (has_number now n) ∙ ap (λ b. has_number now n || (same_number n slot.0 && b)) (sym t)
  where
    by : (s h : Bool) → h ≡ (h || (s && false))
    by true true = refl
    by true false = refl
    by false true = refl
    by false false = refl

-- after the last slot of a group
pub group_found : (groups : Groups) (waits : Waits) (slots : List (ℕ × Option Unit)) (i : ℕ) (wants : ℕ → Bool → Bool) →
    ((n : ℕ) → wants n false ≡ false) → slots ≡ entries (group_of groups waits) → length slots ≤ i → (old new : List ℕ) →
    AddsPlaces (λ n. list_any (λ slot. stands_at wants slot n) (take i slots)) old new →
    AddsPlaces (λ n. wants n (holds_waiting groups (waits, n))) old new
group_found groups waits slots i wants vacant is le old new adds n = adds n ∙ ap (λ b. has_number old n || b)
    (ap (list_any (λ slot. stands_at wants slot n)) (take_all slots i le ∙ is)
    ∙ slot_found (group_of groups waits) n (λ n row. wants n (is_some row)) (vacant n) ∙ ap (wants n) (group_holds groups waits n))

-- ---- the keys at places

-- the keys of the entries at the places
abbrev pub keys_at : BlockedList → List ℕ → List Key
keys_at b places = filter_map (λ n. option_map (λ e. e.key) (entry_at b n)) places

-- the entries of those places are gone afterwards
abbrev pub TakesPlaces : List ℕ → BlockedList → BlockedList → Type 0
TakesPlaces places old new = (n : ℕ) → entry_at new n ≡ cond (has_number places n) None (entry_at old n)

not_among : (k x : ℕ) (xs : List ℕ) → has_number (x ∷ xs) k ≡ false → (same_number x k ≡ false) × (has_number xs k ≡ false)
not_among k x xs none = by (same_number k x) refl none
  where
    by : (b : Bool) → same_number k x ≡ b → (b || has_number xs k) ≡ false → (same_number x k ≡ false) × (has_number xs k ≡ false)
    by true t e = absurd (subst T e tt)
    by false t e = (same_turned numbers x k ∙ t, e)

-- where no other entry is changed, the keys at the other places stay
keys_stay : (old new : BlockedList) (k : ℕ) → ((n : ℕ) → entry_at new n ≡ cond (same_number n k) None (entry_at old n)) → (places : List ℕ) →
    has_number places k ≡ false → keys_at new places ≡ keys_at old places
keys_stay old new k taken [] none = refl
keys_stay old new k taken (n ∷ ns) none =
    let apart = not_among k n ns none in
    (λ i. cons_option (option_map (λ (e : BlockedEvaluation). e.key) (taken n i)) (keys_stay old new k taken ns apart.1 i))
    ∙ ap (λ b. cons_option (option_map (λ (e : BlockedEvaluation). e.key) (cond b None (entry_at old n))) (keys_at old ns)) apart.0

key_last : (b : BlockedList) (rest : List ℕ) (k : ℕ) (key : Key) → Some key ≡ option_map (λ e. e.key) (entry_at b k) →
    keys_at b (rest ++ k ∷ []) ≡ keys_at b rest ++ key ∷ []
key_last b rest k key is = filter_map-append (λ n. option_map (λ (e : BlockedEvaluation). e.key) (entry_at b n)) rest (k ∷ [])
    ∙ ap (λ r. keys_at b rest ++ cons_option r []) (sym is)

-- ---- entries that are taken out, from the last place to the first

-- those of the places that are left are there still, and their keys complete the ones that are out
pub record IsTaking (start now : BlockedList) (all left : List ℕ) (keys : List Key) : Type 0 where
  pub out : keys_at now left ++ reverse keys ≡ keys_at start all
  pub gone : (n : ℕ) → cond (has_number left n) None (entry_at now n) ≡ cond (has_number all n) None (entry_at start n)
  pub there : (n : ℕ) → IsTrue (has_number left n) → IsTrue (is_some (entry_at now n))
  pub room : (es : List BlockedEvaluation) → CanAdd es start → CanAdd es now

pub taking_none : (b : BlockedList) (all : List ℕ) (keys : List Key) → keys ≡ [] → ArePresent all b → IsTaking b b all all keys
taking_none b all keys none present = record {
  out = ap (λ l. keys_at b all ++ reverse l) none ∙ append-nil (keys_at b all);
  gone = λ n. refl;
  there = present;
  room = λ es h. h;
}

module _ (start now new : BlockedList) (all left rest : List ℕ) (k : ℕ) (keys : List Key) (h : IsTaking start now all left keys)
    (is : left ≡ rest ++ k ∷ []) where
  among : (n : ℕ) → has_number left n ≡ (has_number rest n || same_number n k)
  among n = ap (λ ns. has_number ns n) is ∙ any_last (same_number n) rest k

  pub last_there : IsTrue (is_some (entry_at now k))
  last_there = h.there k (among k ∙ ap (λ b. has_number rest k || b) (same_number_refl k) ∙ or-true (has_number rest k))

  module _ (none : has_number rest k ≡ false) (taken : (n : ℕ) → entry_at new n ≡ cond (same_number n k) None (entry_at now n))
      (room : (es : List BlockedEvaluation) → CanAdd es now → CanAdd es new) where
    there_still : (n : ℕ) → IsTrue (has_number rest n) → IsTrue (is_some (entry_at new n))
    there_still n in_rest = subst (λ r. IsTrue (is_some r)) (sym (taken n ∙ ap (λ b. cond b None (entry_at now n)) (apart (same_number n k) refl)))
        (h.there n (among n ∙ ap (λ b. b || same_number n k) in_rest))
      where
        apart : (b : Bool) → same_number n k ≡ b → b ≡ false
        apart true t = sym in_rest ∙ ap (has_number rest) (tied one_number n k t) ∙ none
        apart false t = refl

    gone_still : (n : ℕ) → cond (has_number rest n) None (entry_at new n) ≡ cond (has_number left n) None (entry_at now n)
    gone_still n = ap (cond (has_number rest n) None) (taken n) ∙ by (has_number rest n) (same_number n k)
        ∙ ap (λ b. cond b None (entry_at now n)) (sym (among n))
      where
        by : (a b : Bool) → cond a None (cond b None (entry_at now n)) ≡ cond (a || b) None (entry_at now n)
        by true b = refl
        by false b = refl

    pub one_taken : (key : Key) (more : List Key) → Some key ≡ option_map (λ e. e.key) (entry_at now k) → more ≡ keys ++ key ∷ [] →
        IsTaking start new all rest more
    one_taken key more at put = record {
      out = (λ i. keys_stay now new k taken rest none i ++ reverse (put i))
          ∙ ap (λ l. keys_at now rest ++ l) (reverse-append keys (key ∷ []))
          ∙ sym (append_assoc (keys_at now rest) (key ∷ []) (reverse keys))
          ∙ ap (λ l. l ++ reverse keys) (sym (key_last now rest k key at) ∙ ap (keys_at now) (sym is)) ∙ h.out;
      gone = λ n. gone_still n ∙ h.gone n;
      there = there_still;
      room = λ es can. room es (h.room es can);
    }

  -- an entry that is there has a key
  pub has_a_key : {P : Type 0} → None ≡ option_map (λ e. e.key) (entry_at now k) → P
  has_a_key {P = P} missing = by (entry_at now k) missing last_there
    where
      by : (r : Option BlockedEvaluation) → None ≡ option_map (λ e. e.key) r → IsTrue (is_some r) → P
      by None e there = absurd (subst T (sym there) tt)
      by (Some e) e' there = absurd (not_Some e.key e')
