-- One level that is made, written or taken away.
use Rattle.std.specs.Prelude.{◌≡◌, ℕ, Bool, true, false, cond, IsTrue, List, [], ◌∷◌, Option, Some, None}
use Rattle.std.proofs.Common.{refl, sym, ap, subst, ◌∙◌}
use Rattle.std.specs.FinMap.{get, get-insert, get-remove, insert, remove}
use Rattle.keyed.specs.Queue.{CanAdd, KeyQueue}
use Rattle.keyed.specs.Table.{flat, row_at, with_slot}
use Rattle.keyed.proofs.Levels.{row_here}
use Rattle.keyed.proofs.Tables.{get-rows, rows-with_slot}
use Rattle.ns_types.proofs.Named.{numbers, one_number, same_number_refl}
use Rattle.ns_types.proofs.Lists.{not_both}
use Rattle.ns_types.proofs.Tables.{tied}
use Rattle.ns_types.specs.State.Lists.{is_empty}
use Rattle.ns_types.specs.State.Names.{ByNumber, Key, has_key, same_number}
use Rattle.ns_queues.specs.Ready.{CanAddTo, KeepsOthers, KeepsRoom, Levels, SameKeys, items_of, left_of, level_at}
use Rattle.ns_change.specs.Changed.{without_keys}

nothing : (keys : List Key) → IsTrue (is_empty keys) → keys ≡ []
nothing [] none = refl
nothing (key ∷ keys) none = not_both none refl

-- what holds at the number and at the others holds at each
pub at_each : (P : ℕ → Type 0) (k : ℕ) → P k → ((q : ℕ) → same_number q k ≡ false → P q) → (q : ℕ) → P q
at_each P k here others q = by (same_number q k) refl
  where
    by : (t : Bool) → same_number q k ≡ t → P q
    by true t = subst P (sym (tied one_number q k t)) here
    by false t = others q t

module _ {X : Type 0} (m : ByNumber (Option X)) (k : ℕ) where
  pub row_other : (x : Option X) (q : ℕ) → same_number q k ≡ false → row_at (insert m k x) q ≡ row_at m q
  row_other x q e = ap flat (get-insert numbers m k x q ∙ ap (λ b. cond b (Some x) (get m q)) e)

  pub row_left : (q : ℕ) → same_number q k ≡ false → row_at (remove m k) q ≡ row_at m q
  row_left q e = ap flat (get-remove numbers m k q ∙ ap (λ b. cond b None (get m q)) e)

  pub row_gone : row_at (remove m k) k ≡ None
  row_gone = ap flat (get-remove numbers m k k ∙ ap (λ b. cond b None (get m k)) (same_number_refl k))

  pub row_slot : (q : ℕ) → row_at (with_slot m k) q ≡ row_at m q
  row_slot q = sym (get-rows numbers (with_slot m k) q) ∙ ap (λ n. get n q) (rows-with_slot numbers one_number m k) ∙ get-rows numbers m q

-- ---- a level that is written

module _ (old : Levels) (k : ℕ) (was now : KeyQueue) (there : row_at old k ≡ Some was) where
  pub now_at : level_at (insert old k (Some now)) k ≡ now.items
  now_at = ap items_of (row_here numbers old (insert old k (Some now)) k now refl)

  pub was_at : level_at old k ≡ was.items
  was_at = ap items_of there

  pub same_written : now.items ≡ was.items → SameKeys old (insert old k (Some now))
  same_written is = at_each (λ q. level_at (insert old k (Some now)) q ≡ level_at old q) k (now_at ∙ is ∙ sym was_at)
      (λ q e. ap items_of (row_other old k (Some now) q e))

  pub room_written : (keys : List Key) → CanAdd keys now → CanAddTo (row_at (insert old k (Some now)) k) keys
  room_written keys can = subst (λ r. CanAddTo r keys) (sym (row_here numbers old (insert old k (Some now)) k now refl)) can

  pub room_kept : ((keys : List Key) → CanAdd keys was → CanAdd keys now) → KeepsRoom old (insert old k (Some now))
  room_kept more = at_each (λ q. (keys : List Key) → CanAddTo (row_at old q) keys → CanAddTo (row_at (insert old k (Some now)) q) keys) k
      (λ keys can. room_written keys (more keys (subst (λ r. CanAddTo r keys) there can)))
      (λ q e keys can. subst (λ r. CanAddTo r keys) (sym (row_other old k (Some now) q e)) can)

  -- and taken away, since it is empty
  pub same_removed : (gone : Levels) → gone ≡ remove (insert old k (Some now)) k → now.items ≡ was.items → IsTrue (is_empty now.items) →
      SameKeys old gone
  same_removed gone is same none = subst (SameKeys old) (sym is)
      (at_each (λ q. level_at (remove (insert old k (Some now)) k) q ≡ level_at old q) k
      (ap items_of (row_gone (insert old k (Some now)) k) ∙ sym (nothing now.items none) ∙ same ∙ sym was_at)
      (λ q e. ap items_of (row_left (insert old k (Some now)) k q e ∙ row_other old k (Some now) q e)))

-- ---- a level that is made

module _ (old slotted new : Levels) (k : ℕ) (queue : KeyQueue) (slot : slotted ≡ with_slot old k) (set : new ≡ insert slotted k (Some queue)) where
  pub others_made : KeepsOthers k old new
  others_made q e = ap (λ m. row_at m q) set ∙ row_other slotted k (Some queue) q e ∙ ap (λ m. row_at m q) slot ∙ row_slot old k q

  pub same_made : row_at old k ≡ None → queue.items ≡ [] → SameKeys old new
  same_made none empty = at_each (λ q. level_at new q ≡ level_at old q) k
      (ap items_of (row_here numbers slotted new k queue set) ∙ empty ∙ sym (ap items_of none)) (λ q e. ap items_of (others_made q e))

-- ---- one change after another

pub same_then : (a b c : Levels) → SameKeys a b → SameKeys b c → SameKeys a c
same_then a b c ab bc q = bc q ∙ ab q

pub others_then : (k : ℕ) (a b c : Levels) → KeepsOthers k a b → KeepsOthers k b c → KeepsOthers k a c
others_then k a b c ab bc q e = bc q e ∙ ab q e

-- ---- keys that are taken out

module _ (old : Levels) (k : ℕ) (was now : KeyQueue) (there : row_at old k ≡ Some was) (key : Key) (keys : List Key) where
  left_is : (t : Bool) → t ≡ has_key was.items key → left_of key keys (level_at old k) ≡ cond t (without_keys keys was.items) was.items
  left_is t is = ap (left_of key keys) (was_at old k was now there) ∙ ap (λ b. cond b (without_keys keys was.items) was.items) (sym is)

  pub taken_out : true ≡ has_key was.items key → now.items ≡ without_keys keys was.items → level_at (insert old k (Some now)) k ≡
      left_of key keys (level_at old k)
  taken_out has out = now_at old k was now there ∙ out ∙ sym (left_is true has)

  pub not_taken : false ≡ has_key was.items key → now.items ≡ was.items → level_at (insert old k (Some now)) k ≡ left_of key keys (level_at old k)
  not_taken has same = now_at old k was now there ∙ same ∙ sym (left_is false has)
