-- What changes of a set in levels leave, level by level.
use Rattle.std.specs.Prelude.{◌≡◌, ℕ, Bool, true, false, not, cond, ◌&&◌, ◌||◌, IsTrue, T, List, length, ◌==◌, Option, Some, None, is_some}
use Rattle.std.proofs.Common.{refl, sym, ap, subst, ◌∙◌}
use Rattle.std.proofs.lemmas.Bool.{eqb-true}
use Rattle.std.specs.Option.{option_map_or}
use Rattle.std.specs.declared.cmp.Ordering.{Ordering}
use Rattle.std.specs.Cmp.{IsTotalOrder, tied_itself}
use Rattle.std.specs.Ordering.{eq_by_cmp, is_eq, nat_cmp}
use Rattle.std.specs.FinMap.{FinMap, IsAntisymmetric, empty, empty_of_len, entries, len-entries, get, get-empty}
use Rattle.std.specs.FinMap.{get-entries, get-insert, get-remove, insert, remove}
use Rattle.std.specs.FinMap.Entries.{find}
use Rattle.keyed.specs.Table.{flat, has_slot, row_at, with_slot}
use Rattle.keyed.proofs.Tables.{has_slot-insert, has_slot-with_slot}
use Rattle.ns_types.specs.State.Names.{Name, Key, ByName, ByNumber, same_key, same_number}
use Rattle.ns_types.proofs.Named.{first_of_both, names, numbers, one_name, one_number, second_of_both}
use Rattle.ns_types.proofs.Tables.{tied}
use Rattle.keyed.specs.Levels.{Adds, Drops, Keeps, at_key, at_name, has_key_room, holds_key, holds_number, holds_numbered, same_at, same_by}
use Rattle.keyed.specs.declared.number_places.NumberPlaces.{NumberPlaces}
use Rattle.keyed.specs.declared.key_set.KeySet.{KeySet}
use Rattle.ns_types.proofs.Once.{key_is}

pub not_true : {A : Type 0} → IsTrue false → A
not_true e = absurd (subst T (sym e) tt)

-- ---- rows

pub flat_one : {X : Type 0} (b : Bool) (x : Option X) (y : Option (Option X)) → flat (cond b (Some x) y) ≡ cond b x (flat y)
flat_one true x y = refl
flat_one false x y = refl

pub flat_none : {X : Type 0} (b : Bool) (y : Option (Option X)) → flat (cond b None y) ≡ cond b None (flat y)
flat_none true y = refl
flat_none false y = refl

module _ {K V : Type 0} {R : K → K → Ordering} (o : IsTotalOrder R) where
  pub row-insert : (m : FinMap R (Option V)) (k : K) (x : Option V) (q : K) → row_at (insert m k x) q ≡ cond (eq_by_cmp R q k) x (row_at m q)
  row-insert m k x q = ap flat (get-insert o m k x q) ∙ flat_one (eq_by_cmp R q k) x (get m q)

  row-remove : (m : FinMap R (Option V)) (k : K) (q : K) → row_at (remove m k) q ≡ cond (eq_by_cmp R q k) None (row_at m q)
  row-remove m k q = ap flat (get-remove o m k q) ∙ flat_none (eq_by_cmp R q k) (get m q)

  pub row-with_slot : IsAntisymmetric R → (m : FinMap R (Option V)) (k : K) (q : K) → row_at (with_slot m k) q ≡ row_at m q
  row-with_slot same m k q = by (get m k) refl
    where
      by : (r : Option (Option V)) → get m k ≡ r → row_at (cond (is_some r) m (insert m k None)) q ≡ row_at m q
      by (Some r) is = refl
      by None is = row-insert m k None q ∙ here (eq_by_cmp R q k) refl
        where
          here : (b : Bool) → eq_by_cmp R q k ≡ b → cond b None (row_at m q) ≡ row_at m q
          here true t = sym (ap (row_at m) (tied same q k t) ∙ ap flat is)
          here false t = refl

  slot-remove : (m : FinMap R (Option V)) (k : K) (q : K) → eq_by_cmp R q k ≡ false → has_slot (remove m k) q ≡ has_slot m q
  slot-remove m k q apart = ap is_some (get-remove o m k q ∙ ap (λ b. cond b None (get m q)) apart)

  -- a row that is written is there
  pub row_here : (m new : FinMap R (Option V)) (k : K) (v : V) → new ≡ insert m k (Some v) → row_at new k ≡ Some v
  row_here m new k v e = ap (λ m. row_at m k) e ∙ row-insert m k (Some v) k ∙ ap (λ r. cond (is_eq r) (Some v) (row_at m k)) (tied_itself o k)

  pub row_written : (m new : FinMap R (Option V)) (k : K) (v : V) → new ≡ insert m k (Some v) → IsTrue (is_some (row_at new k))
  row_written m new k v e = ap is_some (row_here m new k v e)

module _ {K X : Type 0} {R : K → K → Ordering} where
  pub no_slots : (m : FinMap R X) (slots : List (K × X)) → slots ≡ entries m → IsTrue (length slots == 0) → m ≡ empty
  no_slots m slots e none = empty_of_len m (len-entries m ∙ ap length (sym e) ∙ eqb-true (length slots) 0 none)

pub none_there : {X : Type 0} (r : Option X) → is_some r ≡ false → r ≡ None
none_there None e = refl
none_there (Some x) e = not_true (sym e)

-- ---- numbers

pub no_number : (m : ByNumber (Option Unit)) → m ≡ empty → (n : ℕ) → holds_number m n ≡ false
no_number m e n = ap (λ m. is_some (row_at m n)) e ∙ ap (λ r. is_some (flat r)) (get-empty nat_cmp n)

-- a number that has room is not there yet
pub no_number_yet : (m new : ByNumber (Option Unit)) (n : ℕ) → m ≡ empty → new ≡ with_slot m n → (k : ℕ) → holds_number new k ≡ false
no_number_yet m new n e slot k = ap is_some (ap (λ m. row_at m k) slot ∙ row-with_slot numbers one_number m n k) ∙ no_number m e k

pub no_number_room : (m : ByNumber (Option Unit)) → m ≡ empty → (n : ℕ) → has_slot m n ≡ false
no_number_room m e n = ap (λ m. has_slot m n) e ∙ ap is_some (get-empty nat_cmp n)

module _ (m new : ByNumber (Option Unit)) (n : ℕ) where
  pub number_room : new ≡ with_slot m n → Keeps holds_number has_slot m new
  number_room e = subst (Keeps holds_number has_slot m) (sym e)
      (record { held = λ k. ap is_some (row-with_slot numbers one_number m n k); room = has_slot-with_slot numbers m n })

  pub number_added : new ≡ insert m n (Some tt) → Adds holds_number has_slot same_number n m new
  number_added e = subst (Adds holds_number has_slot same_number n m) (sym e) (record {
    held = λ k. ap is_some (row-insert numbers m n (Some tt) k) ∙ by k (same_number k n);
    room = has_slot-insert numbers m n (Some tt);
  })
    where
      by : (k : ℕ) (b : Bool) → is_some (cond b (Some tt) (row_at m k)) ≡ (b || is_some (row_at m k))
      by k true = refl
      by k false = refl

  pub number_dropped : new ≡ remove m n → Drops holds_number has_slot same_number n m new
  number_dropped e = subst (Drops holds_number has_slot same_number n m) (sym e) (record {
    held = λ k. ap is_some (row-remove numbers m n k) ∙ by k (same_number k n);
    room = λ k apart h. subst IsTrue (sym (slot-remove numbers m n k apart)) h;
    gone = λ k t. ap is_some (get-remove numbers m n k ∙ ap (λ b. cond b None (get m k)) t);
  })
    where
      by : (k : ℕ) (b : Bool) → is_some (cond b None (row_at m k)) ≡ (not b && is_some (row_at m k))
      by k true = refl
      by k false = refl

-- ---- tables by any key: what a table of sets says, where one of its rows is another

module _ {K : Type 0} {R : K → K → Ordering} (o : IsTotalOrder R) (one : IsAntisymmetric R) where
  module _ {S I A : Type 0} (table : S → FinMap R (Option I)) (says : I → A → Bool) where
    abbrev at : S → K × A → Bool
    at s = at_key says (table s)

    at_row : (s : S) (q : K × A) (r : Option I) → row_at (table s) q.0 ≡ r → at s q ≡ option_map_or (λ set. says set q.1) r false
    at_row s q r is = ap (λ r. option_map_or (λ set. says set q.1) r false) is

    there : (s : S) (k : K) (set : I) → row_at (table s) k ≡ Some set → (q : K × A) → eq_by_cmp R q.0 k ≡ true → at s q ≡ says set q.1
    there s k set is q t = at_row s q (Some set) (ap (row_at (table s)) (tied one q.0 k t) ∙ is)

    put_here : (old new : S) (k : K) (set : I) → table new ≡ insert (table old) k (Some set) → (q : K × A) → eq_by_cmp R q.0 k ≡ true → at new q ≡
        says set q.1
    put_here old new k set e q t = at_row new q (Some set)
        (ap (λ m. row_at m q.0) e ∙ row-insert o (table old) k (Some set) q.0 ∙ ap (λ b. cond b (Some set) (row_at (table old) q.0)) t)

    put_apart : (old new : S) (k : K) (set : I) → table new ≡ insert (table old) k (Some set) → (q : K × A) → eq_by_cmp R q.0 k ≡ false → at new q ≡
        at old q
    put_apart old new k set e q t = at_row new q (row_at (table old) q.0)
        (ap (λ m. row_at m q.0) e ∙ row-insert o (table old) k (Some set) q.0 ∙ ap (λ b. cond b (Some set) (row_at (table old) q.0)) t)

    gone_here : (old new : S) (k : K) → table new ≡ remove (table old) k → (q : K × A) → eq_by_cmp R q.0 k ≡ true → at new q ≡ false
    gone_here old new k e q t = at_row new q None
        (ap (λ m. row_at m q.0) e ∙ row-remove o (table old) k q.0 ∙ ap (λ b. cond b None (row_at (table old) q.0)) t)

    gone_apart : (old new : S) (k : K) → table new ≡ remove (table old) k → (q : K × A) → eq_by_cmp R q.0 k ≡ false → at new q ≡ at old q
    gone_apart old new k e q t = at_row new q (row_at (table old) q.0)
        (ap (λ m. row_at m q.0) e ∙ row-remove o (table old) k q.0 ∙ ap (λ b. cond b None (row_at (table old) q.0)) t)

    -- a vacant slot says nothing
    pub slot_made_in : (old new : S) (k : K) → table new ≡ with_slot (table old) k → (q : K × A) → at new q ≡ at old q
    slot_made_in old new k e q = at_row new q (row_at (table old) q.0) (ap (λ m. row_at m q.0) e ∙ row-with_slot o one (table old) k q.0)

    -- where all slots are gone, nothing is said
    pub nothing_in : (s : S) → table s ≡ empty → (q : K × A) → at s q ≡ false
    nothing_in s e q = at_row s q None (ap (λ m. row_at m q.0) e ∙ ap flat (get-empty R q.0))

  -- ---- what a change of one set leaves of all

  module _ {S I A : Type 0} (table : S → FinMap R (Option I)) (holds has_room : I → A → Bool) where
    abbrev held_at : S → K × A → Bool
    held_at s = at_key holds (table s)

    abbrev room_at : S → K × A → Bool
    room_at s = at_key has_room (table s)

    -- a set that says nothing, where none was
    pub begun_in : (old made new : S) (k : K) (set : I) → table made ≡ with_slot (table old) k → row_at (table made) k ≡ None →
        ((key : A) → holds set key ≡ false) → table new ≡ insert (table made) k (Some set) → Keeps held_at room_at old new
    begun_in old made new k set e none nothing f = record { held = λ q. held q (eq_by_cmp R q.0 k) refl; room = λ q h. room q h (eq_by_cmp R q.0 k) refl }
      where
        nowhere : (says : I → A → Bool) (q : K × A) → eq_by_cmp R q.0 k ≡ true → at_key says (table old) q ≡ false
        nowhere says q t = sym (slot_made_in table says old made k e q) ∙ at_row table says made q None (ap (row_at (table made)) (tied one q.0 k t)
            ∙ none)

        held : (q : K × A) (b : Bool) → eq_by_cmp R q.0 k ≡ b → held_at new q ≡ held_at old q
        held q true t = put_here table holds made new k set f q t ∙ nothing q.1 ∙ sym (nowhere holds q t)
        held q false t = put_apart table holds made new k set f q t ∙ slot_made_in table holds old made k e q

        room : (q : K × A) → IsTrue (room_at old q) → (b : Bool) → eq_by_cmp R q.0 k ≡ b → IsTrue (room_at new q)
        room q h true t = not_true (subst IsTrue (nowhere has_room q t) h)
        room q h false t = subst IsTrue (sym (put_apart table has_room made new k set f q t ∙ slot_made_in table has_room old made k e q)) h

    pub only_slot_in : (old made : S) (k : K) → table made ≡ with_slot (table old) k → Keeps held_at room_at old made
    only_slot_in old made k e = record {
      held = slot_made_in table holds old made k e;
      room = λ q h. subst IsTrue (sym (slot_made_in table has_room old made k e q)) h;
    }

    -- a set that is put has its room
    pub room_put_in : (old new : S) (k : K) (set : I) → table new ≡ insert (table old) k (Some set) → (a : A) → IsTrue (has_room set a) →
        IsTrue (room_at new (k, a))
    room_put_in old new k set e a h = subst IsTrue (sym (put_here table has_room old new k set e (k, a) (ap is_eq (tied_itself o k)))) h

    module _ (old new : S) (k : K) (before after : I) (is : row_at (table old) k ≡ Some before) where
      module _ (e : table new ≡ insert (table old) k (Some after)) where
        pub keeps_in : Keeps holds has_room before after → Keeps held_at room_at old new
        keeps_in kept = record { held = λ q. held q (eq_by_cmp R q.0 k) refl; room = λ q h. room q h (eq_by_cmp R q.0 k) refl }
          where
            held : (q : K × A) (b : Bool) → eq_by_cmp R q.0 k ≡ b → held_at new q ≡ held_at old q
            held q true t = put_here table holds old new k after e q t ∙ kept.held q.1 ∙ sym (there table holds old k before is q t)
            held q false t = put_apart table holds old new k after e q t

            room : (q : K × A) → IsTrue (room_at old q) → (b : Bool) → eq_by_cmp R q.0 k ≡ b → IsTrue (room_at new q)
            room q h true t = subst IsTrue (sym (put_here table has_room old new k after e q t))
                (kept.room q.1 (subst IsTrue (there table has_room old k before is q t) h))
            room q h false t = subst IsTrue (sym (put_apart table has_room old new k after e q t)) h

        pub room_in : (a : A) → IsTrue (has_room after a) → IsTrue (room_at new (k, a))
        room_in = room_put_in old new k after e

        module _ (same : A → A → Bool) (a : A) where
          pub adds_in : Adds holds has_room same a before after → Adds held_at room_at (same_by R same) (k, a) old new
          adds_in added = record { held = λ q. held q (eq_by_cmp R q.0 k) refl; room = λ q h. room q h (eq_by_cmp R q.0 k) refl }
            where
              held : (q : K × A) (b : Bool) → eq_by_cmp R q.0 k ≡ b → held_at new q ≡ ((eq_by_cmp R q.0 k && same q.1 a) || held_at old q)
              held q true t = put_here table holds old new k after e q t ∙ added.held q.1
                  ∙ (λ i. (sym t i && same q.1 a) || sym (there table holds old k before is q t) i)
              held q false t = put_apart table holds old new k after e q t ∙ (λ i. (sym t i && same q.1 a) || held_at old q)

              room : (q : K × A) → IsTrue (room_at old q) → (b : Bool) → eq_by_cmp R q.0 k ≡ b → IsTrue (room_at new q)
              room q h true t = subst IsTrue (sym (put_here table has_room old new k after e q t))
                  (added.room q.1 (subst IsTrue (there table has_room old k before is q t) h))
              room q h false t = subst IsTrue (sym (put_apart table has_room old new k after e q t)) h

          pub drops_in : Drops holds has_room same a before after → Drops held_at room_at (same_by R same) (k, a) old new
          drops_in dropped = record {
            held = λ q. held q (eq_by_cmp R q.0 k) refl;
            room = λ q apart h. room q apart h (eq_by_cmp R q.0 k) refl;
            gone = λ q t. put_here table has_room old new k after e q (first_of_both (eq_by_cmp R q.0 k) (same q.1 a) t)
                ∙ dropped.gone q.1 (second_of_both (eq_by_cmp R q.0 k) (same q.1 a) t);
          }
            where
              held : (q : K × A) (b : Bool) → eq_by_cmp R q.0 k ≡ b → held_at new q ≡ (not (eq_by_cmp R q.0 k && same q.1 a) && held_at old q)
              held q true t = put_here table holds old new k after e q t ∙ dropped.held q.1
                  ∙ (λ i. not (sym t i && same q.1 a) && sym (there table holds old k before is q t) i)
              held q false t = put_apart table holds old new k after e q t ∙ (λ i. not (sym t i && same q.1 a) && held_at old q)

              room : (q : K × A) → (eq_by_cmp R q.0 k && same q.1 a) ≡ false → IsTrue (room_at old q) → (b : Bool) → eq_by_cmp R q.0 k ≡ b →
                  IsTrue (room_at new q)
              room q apart h true t = subst IsTrue (sym (put_here table has_room old new k after e q t))
                  (dropped.room q.1 (sym (ap (λ b. b && same q.1 a) t) ∙ apart) (subst IsTrue (there table has_room old k before is q t) h))
              room q apart h false t = subst IsTrue (sym (put_apart table has_room old new k after e q t)) h

    -- a set that says nothing any more goes with its name
    pub drops_all_in : (old left new : S) (k : K) (a : A) (same : A → A → Bool) → Drops held_at room_at (same_by R same) (k, a) old left → (after : I) →
        row_at (table left) k ≡ Some after → ((key : A) → holds after key ≡ false) → ((key : A) → has_room after key ≡ false) →
        table new ≡ remove (table left) k → Drops held_at room_at (same_by R same) (k, a) old new
    drops_all_in old left new k a same dropped after is nothing no_room e = record {
      held = λ q. held q (eq_by_cmp R q.0 k) refl ∙ dropped.held q;
      room = λ q apart h. room q (dropped.room q apart h) (eq_by_cmp R q.0 k) refl;
      gone = λ q t. gone_here table has_room left new k e q (first_of_both (eq_by_cmp R q.0 k) (same q.1 a) t);
    }
      where
        held : (q : K × A) (b : Bool) → eq_by_cmp R q.0 k ≡ b → held_at new q ≡ held_at left q
        held q true t = gone_here table holds left new k e q t ∙ sym (there table holds left k after is q t ∙ nothing q.1)
        held q false t = gone_apart table holds left new k e q t

        room : (q : K × A) → IsTrue (room_at left q) → (b : Bool) → eq_by_cmp R q.0 k ≡ b → IsTrue (room_at new q)
        room q h true t = not_true (subst IsTrue (there table has_room left k after is q t ∙ no_room q.1) h)
        room q h false t = subst IsTrue (sym (gone_apart table has_room left new k e q t)) h

    -- where there is no set, nothing goes
    pub drops_none_in : (s : S) (k : K) (a : A) (same : A → A → Bool) → row_at (table s) k ≡ None → Drops held_at room_at (same_by R same) (k, a) s s
    drops_none_in s k a same none = record {
      held = λ q. held q (eq_by_cmp R q.0 k) refl;
      room = λ q apart h. h;
      gone = λ q t. at_row table has_room s q None
          (ap (row_at (table s)) (tied one q.0 k (first_of_both (eq_by_cmp R q.0 k) (same q.1 a) t)) ∙ none);
    }
      where
        held : (q : K × A) (b : Bool) → eq_by_cmp R q.0 k ≡ b → held_at s q ≡ (not (eq_by_cmp R q.0 k && same q.1 a) && held_at s q)
        held q true t = nothing ∙ sym (by (not (eq_by_cmp R q.0 k && same q.1 a)) ∙ refl)
          where
            nothing : held_at s q ≡ false
            nothing = at_row table holds s q None (ap (row_at (table s)) (tied one q.0 k t) ∙ none)

            by : (b : Bool) → (b && held_at s q) ≡ false
            by true = nothing
            by false = refl
        held q false t = λ i. not (sym t i && same q.1 a) && held_at s q

-- ---- tables by name

module _ {S I A : Type 0} (table : S → ByName (Option I)) (says : I → A → Bool) where
  -- where all slots are gone, nothing is said
  pub says_nothing : (s : S) → table s ≡ empty → (q : Name × A) → at_name says (table s) q ≡ false
  says_nothing = nothing_in names one_name table says

module _ {S I A : Type 0} (table : S → ByName (Option I)) (holds has_room : I → A → Bool) where
  abbrev named_held : S → Name × A → Bool
  named_held s = at_name holds (table s)

  abbrev named_room : S → Name × A → Bool
  named_room s = at_name has_room (table s)

  pub begun : (old made new : S) (k : Name) (set : I) → table made ≡ with_slot (table old) k → row_at (table made) k ≡ None →
      ((key : A) → holds set key ≡ false) → table new ≡ insert (table made) k (Some set) → Keeps named_held named_room old new
  begun = begun_in names one_name table holds has_room

  pub room_put : (old new : S) (k : Name) (set : I) → table new ≡ insert (table old) k (Some set) → (a : A) → IsTrue (has_room set a) →
      IsTrue (named_room new (k, a))
  room_put = room_put_in names one_name table holds has_room

  pub only_slot : (old made : S) (k : Name) → table made ≡ with_slot (table old) k → Keeps named_held named_room old made
  only_slot = only_slot_in names one_name table holds has_room

  module _ (old new : S) (k : Name) (before after : I) (is : row_at (table old) k ≡ Some before) (e : table new ≡ insert (table old) k (Some after)) where
    pub keeps_at : Keeps holds has_room before after → Keeps named_held named_room old new
    keeps_at = keeps_in names one_name table holds has_room old new k before after is e

    pub room_here : (a : A) → IsTrue (has_room after a) → IsTrue (named_room new (k, a))
    room_here = room_in names one_name table holds has_room old new k before after is e

    pub adds_at : (same : A → A → Bool) (a : A) → Adds holds has_room same a before after → Adds named_held named_room (same_at same) (k, a) old new
    adds_at = adds_in names one_name table holds has_room old new k before after is e

    pub drops_at : (same : A → A → Bool) (a : A) → Drops holds has_room same a before after → Drops named_held named_room (same_at same) (k, a) old new
    drops_at = drops_in names one_name table holds has_room old new k before after is e

  pub drops_all : (old left new : S) (k : Name) (a : A) (same : A → A → Bool) → Drops named_held named_room (same_at same) (k, a) old left → (after : I) →
      row_at (table left) k ≡ Some after → ((key : A) → holds after key ≡ false) → ((key : A) → has_room after key ≡ false) →
      table new ≡ remove (table left) k → Drops named_held named_room (same_at same) (k, a) old new
  drops_all = drops_all_in names one_name table holds has_room

  pub drops_none : (s : S) (k : Name) (a : A) (same : A → A → Bool) → row_at (table s) k ≡ None → Drops named_held named_room (same_at same) (k, a) s s
  drops_none = drops_none_in names one_name table holds has_room

-- ---- one change after another

module _ {I A : Type 0} (holds has_room : I → A → Bool) where
  pub keeps_then : (x y z : I) → Keeps holds has_room x y → Keeps holds has_room y z → Keeps holds has_room x z
  keeps_then x y z first later = record { held = λ a. later.held a ∙ first.held a; room = λ a h. later.room a (first.room a h) }

  pub keeps_same : (x y : I) → y ≡ x → Keeps holds has_room x y
  keeps_same x y e = record { held = λ a. ap (λ s. holds s a) e; room = λ a h. subst (λ s. IsTrue (has_room s a)) (sym e) h }

-- ---- a key that is not held

pub drops_nothing : (old new : KeySet) (key : Key) → Drops holds_key has_key_room same_key key old new → holds_key old key ≡ false →
    (q : Key) → holds_key new q ≡ holds_key old q
drops_nothing old new key dropped none q = dropped.held q ∙ by (same_key q key) refl
  where
    by : (b : Bool) → same_key q key ≡ b → (not b && holds_key old q) ≡ holds_key old q
    by true e = sym (ap (holds_key old) (key_is q key e) ∙ none)
    by false e = refl

-- ---- a number without a slot

-- has no place
pub not_numbered : (set : NumberPlaces) (n place : ℕ) → is_some (find nat_cmp n (entries set.numbers)) ≡ false → holds_numbered set (n, place) ≡ false
not_numbered set n place out = by (get set.numbers n) (ap is_some (get-entries set.numbers n) ∙ out)
  where
    by : (r : Option (Option (ByNumber (Option Unit)))) → is_some r ≡ false → option_map_or (λ s. holds_number s place) (flat r) false ≡ false
    by None e = refl
    by (Some x) e = absurd (subst T e tt)
