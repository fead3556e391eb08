-- Numbers of rows under the names of these.
use Rattle.std.specs.Prelude.{◌≡◌, ℕ, Bool, true, false, not, ◌&&◌, ◌||◌, IsTrue, List, [], ◌∷◌, Option, Some, None, unwrap_or}
use Rattle.std.proofs.Common.{refl, sym, ap, subst, ◌∙◌}
use Rattle.std.proofs.Math.Bool.{and-false, and-true, or_assoc, or_comm}
use Rattle.std.specs.Ordering.{nat_cmp}
use Rattle.std.specs.Option.{option_map_or}
use Rattle.std.specs.declared.cmp.Ordering.{Ordering}
use Rattle.std.specs.Cmp.{IsTotalOrder}
use Rattle.std.specs.List.{list_any}
use Rattle.std.specs.FinMap.{FinMap, IsAntisymmetric, empty, entries, get, get-empty}
use Rattle.keyed.proofs.Levels.{keeps_then}
use Rattle.keyed.proofs.Over.{get-over}
use Rattle.keyed.proofs.Tables.{get-rows}
use Rattle.keyed.specs.Levels.{Keeps, holds_key, holds_number, has_key_room}
use Rattle.keyed.specs.Over.{over}
use Rattle.keyed.specs.Table.{flat, row_at, rows}
use Rattle.keyed.specs.declared.key_set.KeySet.{KeySet}
use Rattle.ns_types.proofs.Lists.{each_map, not_both}
use Rattle.ns_types.proofs.Named.{first_of_both, numbers, one_number, same_key_is, same_number_refl}
use Rattle.ns_types.proofs.Tables.{any_row-none, none_of_any}
use Rattle.ns_types.proofs.Tests.{not_Some, same_Some}
use Rattle.ns_types.specs.State.Lists.{Each}
use Rattle.ns_types.specs.State.Names.{ByNumber, Key, Name, name_cmp, same_key, same_name}
use Rattle.ns_types.specs.State.Tables.{any_row}
use Rattle.ns_types.specs.declared.evaluation.Evaluation.{Evaluation}
use Rattle.ns_types.specs.State.Rows.{is_blocked, is_pending}
use Rattle.ns_tables.specs.Evaluations.{AreFiled}
use Rattle.ns_tables.specs.Filing.{AreNumbersUnder, HasRoomAt, IsIndexOf, evaluation_job, is_filed, is_left, job_where, name_at, stands_under}

-- ---- a test that only the rows of one key can pass

module _ {K X : Type 0} {R : K → K → Ordering} (o : IsTotalOrder R) (same : IsAntisymmetric R) where
  pub any_at : (f : K → X → Bool) (m : FinMap R X) (k : K) → ((q : K) (x : X) → f q x ≡ true → q ≡ k) →
      list_any (λ e. f e.0 e.1) (entries m) ≡ option_map_or (f k) (get m k) false
  unfolding any_row
  any_at f m k only = by (get m k) refl
    where
      none : (get m k ≡ None) → (q : K) (x : X) → get m q ≡ Some x → (b : Bool) → f q x ≡ b → b ≡ false
      none g q x is true t = absurd (not_Some x (sym g ∙ ap (get m) (sym (only q x t)) ∙ is))
      none g q x is false t = refl

      fails : (y : X) → get m k ≡ Some y → f k y ≡ false → (q : K) (x : X) → get m q ≡ Some x → (b : Bool) → f q x ≡ b → b ≡ false
      fails y g e q x is true t = not_both t (ap (λ p. f p x) (only q x t)
          ∙ ap (f k) (same_Some x y (sym is ∙ ap (get m) (only q x t) ∙ g)) ∙ e)
      fails y g e q x is false t = refl

      passes : (y : X) → get m k ≡ Some y → f k y ≡ true → (b : Bool) → any_row f m ≡ b → b ≡ true
      passes y g t true e = refl
      passes y g t false e = not_both t (none_of_any same f m k y e g)

      here : (y : X) → get m k ≡ Some y → (b : Bool) → f k y ≡ b → any_row f m ≡ b
      here y g true e = passes y g e (any_row f m) refl
      here y g false e = any_row-none o same f m (λ q x is. fails y g e q x is (f q x) refl)

      by : (r : Option X) → get m k ≡ r → any_row f m ≡ option_map_or (f k) r false
      by None g = any_row-none o same f m (λ q x is. none g q x is (f q x) refl)
      by (Some y) g = here y g (f k y) refl

module _ {X : Type 0} (name_of : X → Option Name) where
  -- ---- a row and a key

  filed_number : (n : ℕ) (row : Option X) (key : Key) → is_filed name_of (n, row) key ≡ true → n ≡ key.1
  filed_number n row key = by (name_at name_of row)
    where
      by : (own : Option Name) → option_map_or (λ name. same_key key (name, n)) own false ≡ true → n ≡ key.1
      by None e = not_both e refl
      by (Some own) e = sym (same_key_is key (own, n) e).1

  filed_here : (key : Key) (row : Option X) → is_filed name_of (key.1, row) key ≡ stands_under name_of key.0 row
  filed_here key row = by (name_at name_of row)
    where
      by : (own : Option Name) → option_map_or (λ name. same_key key (name, key.1)) own false ≡ option_map_or (same_name key.0) own false
      by None = refl
      by (Some own) = ap (λ b. same_name key.0 own && b) (same_number_refl key.1) ∙ and-true (same_name key.0 own)

  -- a row that stands under a name leaves that, unless another stands there
  pub left_one : (n : ℕ) (old row : Option X) (own : Name) (key : Key) (stays : Bool) → name_at name_of old ≡ Some own →
      stands_under name_of own row ≡ stays → (is_filed name_of (n, old) key && not (is_filed name_of (n, row) key)) ≡ (not stays && same_key key (own, n))
  left_one n old row own key stays is there = ap (λ o. option_map_or (λ name. same_key key (name, n)) o false && not (is_filed name_of (n, row) key)) is
      ∙ by (same_key key (own, n)) refl
    where
      by : (b : Bool) → same_key key (own, n) ≡ b → (b && not (is_filed name_of (n, row) key)) ≡ (not stays && b)
      by false e = sym (and-false (not stays))
      by true e = ap not (subst (λ (k : Key). is_filed name_of (k.1, row) key ≡ stands_under name_of k.0 row)
          (λ i. ((same_key_is key (own, n) e).0 i, (same_key_is key (own, n) e).1 i)) (filed_here key row) ∙ there) ∙ sym (and-true (not stays))

  -- ---- the loops, slot by slot

  abbrev pub Grows : KeySet → KeySet → Type 0
  Grows a b = (key : Key) → IsTrue (has_key_room a key) → IsTrue (has_key_room b key)

  room_grows : (a b : KeySet) (slot : ℕ × Option X) → Grows a b → HasRoomAt name_of a slot → HasRoomAt name_of b slot
  room_grows a b slot grows room name is = grows (name, slot.0) (room name is)

  -- there is room for the slots before `rest`
  abbrev pub IsReserving : KeySet → KeySet → List (ℕ × Option X) → List (ℕ × Option X) → Type 0
  IsReserving held old rest slots = Keeps holds_key has_key_room old held
      × ((later : KeySet) → Grows held later → Each (HasRoomAt name_of later) rest → Each (HasRoomAt name_of later) slots)

  -- the slots before `rest` are in
  abbrev pub IsInserting : KeySet → KeySet → List (ℕ × Option X) → List (ℕ × Option X) → Type 0
  IsInserting held old rest slots = ((key : Key) → (list_any (λ slot. is_filed name_of slot key) rest || holds_key held key)
      ≡ (list_any (λ slot. is_filed name_of slot key) slots || holds_key old key)) × Each (HasRoomAt name_of held) rest

  -- what the slots before `rest` leave is out
  abbrev pub IsLeaving : ByNumber (Option X) → KeySet → KeySet → List (ℕ × Option X) → List (ℕ × Option X) → Type 0
  IsLeaving before held old rest slots = (key : Key) → (not (list_any (λ slot. is_left name_of before slot key) rest) && holds_key held key)
      ≡ (not (list_any (λ slot. is_left name_of before slot key) slots) && holds_key old key)

  module _ (slot : ℕ × Option X) (rest left slots : List (ℕ × Option X)) (steps : rest ≡ slot ∷ left) (old held new : KeySet) where
    pub reserve_step : Keeps holds_key has_key_room held new → HasRoomAt name_of new slot → IsReserving held old rest slots → IsReserving new old left slots
    reserve_step k here h = (
      keeps_then holds_key has_key_room old held new h.0 k,
      λ later grows all. h.1 later (λ key t. grows key (k.room key t))
          (subst (Each (HasRoomAt name_of later)) (sym steps) (room_grows new later slot grows here, all)),
    )

    pub insert_step : ((key : Key) → holds_key new key ≡ (is_filed name_of slot key || holds_key held key)) → Grows held new →
        IsInserting held old rest slots → IsInserting new old left slots
    insert_step is grows h = (
      λ key. ap (λ b. list_any (λ slot. is_filed name_of slot key) left || b) (is key)
          ∙ sym (or_assoc (list_any (λ slot. is_filed name_of slot key) left) (is_filed name_of slot key) (holds_key held key))
          ∙ ap (λ b. b || holds_key held key) (or_comm (list_any (λ slot. is_filed name_of slot key) left) (is_filed name_of slot key))
          ∙ ap (λ xs. list_any (λ slot. is_filed name_of slot key) xs || holds_key held key) (sym steps) ∙ h.0 key,
      each_map (λ other. room_grows held new other grows) left (subst (Each (HasRoomAt name_of held)) steps h.1).1,
    )

    pub leave_step : (before : ByNumber (Option X)) →
        ((key : Key) → holds_key new key ≡ (not (is_left name_of before slot key) && holds_key held key)) →
        IsLeaving before held old rest slots → IsLeaving before new old left slots
    leave_step before is h key = ap (λ b. not (list_any (λ slot. is_left name_of before slot key) left) && b) (is key)
        ∙ by (list_any (λ slot. is_left name_of before slot key) left) (is_left name_of before slot key) (holds_key held key)
        ∙ ap (λ xs. not (list_any (λ slot. is_left name_of before slot key) xs) && holds_key held key) (sym steps) ∙ h key
      where
        by : (a b c : Bool) → (not a && (not b && c)) ≡ (not (b || a) && c)
        by true true c = refl
        by true false c = refl
        by false true c = refl
        by false false c = refl

  pub reserved_all : (held old : KeySet) (rest slots : List (ℕ × Option X)) → rest ≡ [] → IsReserving held old rest slots →
      Each (HasRoomAt name_of held) slots
  reserved_all held old rest slots none h = h.1 held (λ key t. t) (subst (Each (HasRoomAt name_of held)) (sym none) tt)

  -- ---- the index

  -- the numbers of changed rows are put in, and those that they leave are taken out
  pub refiled : (old mid new : KeySet) (before changes : ByNumber (Option X)) → IsIndexOf name_of old (rows before) →
      ((key : Key) → holds_key mid key ≡ (list_any (λ slot. is_filed name_of slot key) (entries changes) || holds_key old key)) →
      ((key : Key) → holds_key new key ≡ (not (list_any (λ slot. is_left name_of before slot key) (entries changes)) && holds_key mid key)) →
      IsIndexOf name_of new (over (rows before) changes)
  refiled old mid new before changes is put out key = out key
      ∙ (λ i. not (gone i) && (put key ∙ ap (λ b. b || holds_key old key) filed) i)
      ∙ by (get changes key.1) ∙ ap (stands_under name_of key.0) (sym (get-over numbers one_number (rows before) changes key.1))
    where
      filed : list_any (λ slot. is_filed name_of slot key) (entries changes)
          ≡ option_map_or (λ row. is_filed name_of (key.1, row) key) (get changes key.1) false
      filed = any_at numbers one_number (λ n row. is_filed name_of (n, row) key) changes key.1 (λ n row. filed_number n row key)

      gone : list_any (λ slot. is_left name_of before slot key) (entries changes)
          ≡ option_map_or (λ row. is_left name_of before (key.1, row) key) (get changes key.1) false
      gone = any_at numbers one_number (λ n row. is_left name_of before (n, row) key) changes key.1
          (λ n row e. filed_number n (row_at before n) key (first_of_both _ _ e))

      held : holds_key old key ≡ stands_under name_of key.0 (row_at before key.1)
      held = is key ∙ ap (stands_under name_of key.0) (get-rows numbers before key.1)

      cases : (a b : Bool) → (not (a && not b) && (b || a)) ≡ b
      cases true true = refl
      cases true false = refl
      cases false true = refl
      cases false false = refl

      by : (r : Option (Option X)) → (not (option_map_or (λ row. is_left name_of before (key.1, row) key) r false)
          && (option_map_or (λ row. is_filed name_of (key.1, row) key) r false || holds_key old key))
          ≡ stands_under name_of key.0 (unwrap_or r (get (rows before) key.1))
      by None = is key
      by (Some row) = (λ i. not (filed_here key (row_at before key.1) i && not (filed_here key row i)) && (filed_here key row i || held i))
          ∙ cases (stands_under name_of key.0 (row_at before key.1)) (stands_under name_of key.0 row)

  pub none_indexed : (set : KeySet) → set.numbers ≡ empty → IsIndexOf name_of set empty
  none_indexed set none key =
      ap (λ m. option_map_or (λ m. holds_number m key.1) (row_at m key.0) false) none
      ∙ ap (λ r. option_map_or (λ m. holds_number m key.1) (flat r) false) (get-empty name_cmp key.0)
      ∙ ap (stands_under name_of key.0) (sym (get-empty nat_cmp key.1))

  pub numbers_under : (set : KeySet) (slots : ByNumber (Option X)) (name : Name) (r : Option (ByNumber (Option Unit))) →
      IsIndexOf name_of set (rows slots) → r ≡ row_at set.numbers name → AreNumbersUnder name_of name slots r
  numbers_under set slots name r is same n = ap (λ r. option_map_or (λ m. holds_number m n) r false) same ∙ is (name, n)
      ∙ ap (stands_under name_of name) (get-rows numbers slots n)

  -- a set of the same numbers is of the same rows, where they are the same
  pub still_indexed : (old new : KeySet) (before after : ByNumber X) → ((key : Key) → holds_key new key ≡ holds_key old key) → after ≡ before →
      IsIndexOf name_of old before → IsIndexOf name_of new after
  still_indexed old new before after held same is key = held key ∙ is key ∙ ap (λ m. stands_under name_of key.0 (get m key.1)) (sym same)

-- three sets of the same numbers are of the same rows, where they are the same
pub still_filed : (all all' waiting waiting' stuck stuck' : KeySet) (before after : ByNumber Evaluation) →
    ((key : Key) → holds_key all' key ≡ holds_key all key) → ((key : Key) → holds_key waiting' key ≡ holds_key waiting key) →
    ((key : Key) → holds_key stuck' key ≡ holds_key stuck key) → after ≡ before → AreFiled all waiting stuck before → AreFiled all' waiting' stuck' after
still_filed all all' waiting waiting' stuck stuck' before after h k l same filed = record {
  jobs = still_indexed evaluation_job all all' before after h same filed.jobs;
  pending = still_indexed (job_where is_pending) waiting waiting' before after k same filed.pending;
  blocked = still_indexed (job_where is_blocked) stuck stuck' before after l same filed.blocked;
}
