-- What the sets of a table give, each a value for what it is asked of, and none where no set is: what becomes of it where one of
-- the sets is another.
use Rattle.std.specs.Prelude.{◌≡◌, Bool, true, false, cond, if◌then◌else◌, IsTrue, Option, Some, None, is_some}
use Rattle.std.proofs.Common.{refl, sym, ap, subst, ◌∙◌}
use Rattle.std.specs.declared.cmp.Ordering.{Ordering}
use Rattle.std.specs.Cmp.{IsTotalOrder}
use Rattle.std.specs.FinMap.{FinMap, IsAntisymmetric, get, get-remove, insert, remove}
use Rattle.std.specs.Option.{option_map_or}
use Rattle.std.specs.Ordering.{eq_by_cmp}
use Rattle.keyed.specs.Table.{flat, row_at, with_slot}
use Rattle.keyed.proofs.Levels.{flat_none, not_true, row-insert, row-with_slot}
use Rattle.ns_types.proofs.Tables.{tied}

pub row_there : {X : Type 0} (r : Option X) → option_map_or (λ _. true) r false ≡ is_some r
row_there None = refl
row_there (Some x) = refl

module _ {K : Type 0} {R : K → K → Ordering} (o : IsTotalOrder R) (one : IsAntisymmetric R) {I A V : Type 0} (none : V) (value : I → A → V) where
  abbrev pub value_in : A → Option I → V
  value_in a set = option_map_or (λ set. value set a) set none

  abbrev pub value_at : FinMap R (Option I) → K → A → V
  value_at m q a = value_in a (row_at m q)

  -- a vacant slot has none
  pub slot_value : (old made : FinMap R (Option I)) (k : K) → made ≡ with_slot old k → (q : K) (a : A) → value_at made q a ≡ value_at old q a
  slot_value old made k e q a = ap (value_in a) (ap (λ m. row_at m q) e ∙ row-with_slot o one old k q)

  module _ (m new : FinMap R (Option I)) (k : K) (set : I) (e : new ≡ insert m k (Some set)) (q : K) (a : A) where
    put_here : eq_by_cmp R q k ≡ true → value_at new q a ≡ value set a
    put_here t = ap (value_in a) (ap (λ m. row_at m q) e ∙ row-insert o m k (Some set) q ∙ ap (λ b. cond b (Some set) (row_at m q)) t)

    pub put_apart : eq_by_cmp R q k ≡ false → value_at new q a ≡ value_at m q a
    put_apart t = ap (value_in a) (ap (λ m. row_at m q) e ∙ row-insert o m k (Some set) q ∙ ap (λ b. cond b (Some set) (row_at m q)) t)

  there : (m : FinMap R (Option I)) (k : K) (r : Option I) → row_at m k ≡ r → (q : K) (a : A) → eq_by_cmp R q k ≡ true → value_at m q a ≡ value_in a r
  there m k r is q a t = ap (value_in a) (ap (row_at m) (tied one q k t) ∙ is)

  -- a set that gives none, where none was
  pub begun_value : (old made new : FinMap R (Option I)) (k : K) (set : I) → made ≡ with_slot old k → row_at made k ≡ None →
      ((a : A) → value set a ≡ none) → new ≡ insert made k (Some set) → (q : K) (a : A) → value_at new q a ≡ value_at old q a
  begun_value old made new k set slot is bare e q a = by (eq_by_cmp R q k) refl ∙ slot_value old made k slot q a
    where
      by : (b : Bool) → eq_by_cmp R q k ≡ b → value_at new q a ≡ value_at made q a
      by true t = put_here made new k set e q a t ∙ bare a ∙ sym (there made k None is q a t)
      by false t = put_apart made new k set e q a t

  -- a set that gives the same as the one before it
  pub same_value : (m new : FinMap R (Option I)) (k : K) (before after : I) → row_at m k ≡ Some before → new ≡ insert m k (Some after) →
      ((a : A) → value after a ≡ value before a) → (q : K) (a : A) → value_at new q a ≡ value_at m q a
  same_value m new k before after is e same q a = by (eq_by_cmp R q k) refl
    where
      by : (b : Bool) → eq_by_cmp R q k ≡ b → value_at new q a ≡ value_at m q a
      by true t = put_here m new k after e q a t ∙ same a ∙ sym (there m k (Some before) is q a t)
      by false t = put_apart m new k after e q a t

  -- ---- values that move: one part goes, and another comes

  module _ (Moves : V → V → V → V → Type 0) (stays : (v : V) → Moves none none v v) where
    pub moved_value : (m new : FinMap R (Option I)) (k : K) (before after : I) → row_at m k ≡ Some before → new ≡ insert m k (Some after) →
        (gone come : A → V) (q : K) (a : A) → Moves (gone a) (come a) (value before a) (value after a) →
        Moves (if eq_by_cmp R q k then gone a else none) (if eq_by_cmp R q k then come a else none) (value_at m q a) (value_at new q a)
    moved_value m new k before after is e gone come q a moves = by (eq_by_cmp R q k) refl
      where
        by : (b : Bool) → eq_by_cmp R q k ≡ b → Moves (if b then gone a else none) (if b then come a else none) (value_at m q a) (value_at new q a)
        by true t = subst (λ v. Moves (gone a) (come a) v (value_at new q a)) (sym (there m k (Some before) is q a t))
            (subst (Moves (gone a) (come a) (value before a)) (sym (put_here m new k after e q a t)) moves)
        by false t = subst (Moves none none (value_at m q a)) (sym (put_apart m new k after e q a t)) (stays (value_at m q a))

    -- ---- of a part that goes, where something still stands

    module _ (stands : I → A → Bool) (gone : A → V) where
      abbrev pub stands_in : A → Option I → Bool
      stands_in a set = option_map_or (λ set. stands set a) set false

      -- the part is that of one key
      abbrev pub Leaves : K → FinMap R (Option I) → FinMap R (Option I) → Type 0
      Leaves k old new = (q : K) (a : A) → IsTrue (stands_in a (row_at new q)) →
          Moves (if eq_by_cmp R q k then gone a else none) none (value_at old q a) (value_at new q a)

      pub left_value : (m new : FinMap R (Option I)) (k : K) (before after : I) → row_at m k ≡ Some before → new ≡ insert m k (Some after) →
          ((a : A) → IsTrue (stands after a) → Moves (gone a) none (value before a) (value after a)) → Leaves k m new
      left_value m new k before after is e moves q a still = by (eq_by_cmp R q k) refl
        where
          stands_here : eq_by_cmp R q k ≡ true → stands_in a (row_at new q) ≡ stands after a
          stands_here t = ap (stands_in a) (ap (λ m. row_at m q) e ∙ row-insert o m k (Some after) q ∙ ap (λ b. cond b (Some after) (row_at m q)) t)

          by : (b : Bool) → eq_by_cmp R q k ≡ b → Moves (if b then gone a else none) none (value_at m q a) (value_at new q a)
          by true t = subst (λ v. Moves (gone a) none v (value_at new q a)) (sym (there m k (Some before) is q a t))
              (subst (Moves (gone a) none (value before a)) (sym (put_here m new k after e q a t)) (moves a (sym (stands_here t) ∙ still)))
          by false t = subst (Moves none none (value_at m q a)) (sym (put_apart m new k after e q a t)) (stays (value_at m q a))

      -- the set goes with its key
      pub gone_value : (m left new : FinMap R (Option I)) (k : K) → new ≡ remove left k → Leaves k m left → Leaves k m new
      gone_value m left new k e leaves q a still = by (eq_by_cmp R q k) refl
        where
          row : (b : Bool) → eq_by_cmp R q k ≡ b → row_at new q ≡ cond b None (row_at left q)
          row b t = ap (λ m. row_at m q) e ∙ ap flat (get-remove o left k q) ∙ flat_none (eq_by_cmp R q k) (get left q)
              ∙ ap (λ b. cond b None (row_at left q)) t

          by : (b : Bool) → eq_by_cmp R q k ≡ b → Moves (if eq_by_cmp R q k then gone a else none) none (value_at m q a) (value_at new q a)
          by true t = not_true (sym (ap (stands_in a) (row true t)) ∙ still)
          by false t = subst (Moves (if eq_by_cmp R q k then gone a else none) none (value_at m q a)) (sym (ap (value_in a) (row false t)))
              (leaves q a (sym (ap (stands_in a) (row false t)) ∙ still))

      -- there is no set
      pub none_left : (m : FinMap R (Option I)) (k : K) → row_at m k ≡ None → Leaves k m m
      none_left m k is q a still = by (eq_by_cmp R q k) refl
        where
          by : (b : Bool) → eq_by_cmp R q k ≡ b → Moves (if b then gone a else none) none (value_at m q a) (value_at m q a)
          by true t = not_true (sym (ap (stands_in a) (ap (row_at m) (tied one q k t) ∙ is)) ∙ still)
          by false t = stays (value_at m q a)
