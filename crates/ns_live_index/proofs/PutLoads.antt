-- What a put leaves of the loads that were right.
use Rattle.std.specs.Prelude.{◌≡◌, ℕ, ◌+◌, ◌<◌, ◌%◌, ◌^◌, Bool, true, false, cond, ◌&&◌, if◌then◌else◌, IsTrue, Option, Some, None}
use Rattle.std.proofs.Common.{refl, sym, ap, arith, subst, ◌∙◌}
use Rattle.std.proofs.Math.Bool.{and-false}
use Rattle.std.specs.Option.{option_map_or}
use Rattle.keyed.specs.Levels.{holds_number}
use Rattle.keyed.specs.declared.key_set.KeySet.{KeySet}
use Rattle.keyed.proofs.KeySums.{key_part, keys_alike, keys_moved, no_keys_sum}
use Rattle.keyed.proofs.Levels.{not_true, says_nothing}
use Rattle.ns_types.specs.declared.allocation.Allocation.{Allocation}
use Rattle.ns_types.specs.declared.resources.Resources.{Resources}
use Rattle.ns_types.specs.State.Names.{Name, Key, same_name}
use Rattle.ns_types.specs.State.Resources.{none, quantity}
use Rattle.ns_types.proofs.Amounts.{at, counted_at, every, quantity_none}
use Rattle.ns_types.specs.State.Rows.{is_live, is_live_on}
use Rattle.ns_types.proofs.Named.{first_of_both, same_key_refl, same_name_is, second_of_both}
use Rattle.ns_types.specs.State.Resources.{IsAlike, IsTotal}
use Rattle.ns_types.proofs.Amounts.{moves_at, total_counted}
use Rattle.ns_live_index.specs.declared.live.Live.{Live}
use Rattle.ns_live_index.specs.Index.{Indexes, holds, with_row}
use Rattle.ns_live_index.specs.Levels.{keys_at, load_at, no_keys, stands_at}
use Rattle.ns_live_index.specs.Loads.{keys_amount, keys_use, size_amount}
use Rattle.ns_live_index.specs.Moving.{AddsLoad, LeavesInPool, MovesInPool, MovesLoad, part_at, taken}
use Rattle.ns_live_index.specs.Shown.{live_row}
use Rattle.ns_live_index.proofs.KeySums.{amount_is, no_use, weight}
use Rattle.ns_live_index.proofs.LoadLevels.{keys_hold, nothing_stands}

abbrev RowOf : Type 0
RowOf = Key → Option Allocation

-- on each node, of these rows, the keys of those that are live there
abbrev pub KeysRight : RowOf → Live → Type 0
KeysRight rows live = (pool node : Name) (key : Key) → holds live pool node key ≡ option_map_or (is_live_on pool node) (rows key) false

-- ---- what the row under a key takes

module _ (amount : Resources → ℕ) (zero : amount none ≡ 0) (pool node : Name) where
  part_is : (rows : RowOf) (live : Live) → KeysRight rows live → (q : Key) →
      key_part (weight rows amount) (keys_at live pool node) q ≡ amount (taken pool node (rows q))
  part_is rows live keys q = ap (λ b. cond b (size_amount amount (rows q)) 0) (keys_hold live pool node q ∙ keys pool node q) ∙ by (rows q)
    where
      size : (row : Allocation) (b : Bool) → cond b (amount row.size) 0 ≡ amount (if b then row.size else none)
      size row true = refl
      size row false = sym zero

      by : (r : Option Allocation) → cond (option_map_or (is_live_on pool node) r false) (size_amount amount r) 0 ≡ amount (taken pool node r)
      by None = sym zero
      by (Some row) = size row (is_live_on pool node row)

taken_alike : (pool node : Name) (r s : Option Allocation) → live_row pool node s ≡ live_row pool node r → taken pool node s ≡ taken pool node r
taken_alike pool node r s same = by s ∙ ap (λ r. option_map_or (λ (a : Allocation). a.size) r none) same ∙ sym (by r)
  where
    size : (row : Allocation) (b : Bool) →
        (if b then row.size else none) ≡ option_map_or (λ (a : Allocation). a.size) (if b then Some row else None) none
    size row true = refl
    size row false = refl

    by : (r : Option Allocation) → taken pool node r ≡ option_map_or (λ (a : Allocation). a.size) (live_row pool node r) none
    by None = refl
    by (Some row) = size row (is_live_on pool node row)

-- ---- the keys and loads stay, and so does what is live

pub still_loaded : (row_of rows : RowOf) (old new : Live) → Indexes row_of old → KeysRight rows new →
    ((pool node : Name) → load_at new pool node ≡ load_at old pool node) →
    ((pool node : Name) (key : Key) → live_row pool node (rows key) ≡ live_row pool node (row_of key)) → Indexes rows new
still_loaded row_of rows old new right keys loads same = record {
  keys = keys;
  loads = λ pool node. every (λ r. quantity r (load_at new pool node) ≡ keys_amount rows (keys_at new pool node) (quantity r) % 2 ^ 64) (λ r.
      ap (quantity r) (loads pool node)
      ∙ at (λ r. quantity r (load_at old pool node) ≡ keys_amount row_of (keys_at old pool node) (quantity r) % 2 ^ 64) (right.loads pool node) r
      ∙ sym (ap (λ n. n % 2 ^ 64) (sums (quantity r) (quantity_none r) pool node)));
}
  where
    sums : (amount : Resources → ℕ) → amount none ≡ 0 → (pool node : Name) →
        keys_amount rows (keys_at new pool node) amount ≡ keys_amount row_of (keys_at old pool node) amount
    sums amount zero pool node = amount_is rows amount (keys_at new pool node)
        ∙ keys_alike (weight row_of amount) (weight rows amount) (keys_at old pool node) (keys_at new pool node)
        (λ q. part_is amount zero pool node rows new keys q ∙ ap amount (taken_alike pool node (row_of q) (rows q) (same pool node q))
        ∙ sym (part_is amount zero pool node row_of old right.keys q))
        ∙ sym (amount_is row_of amount (keys_at old pool node))

-- there are no loads, and nothing is live
pub empty_indexes : (rows : RowOf) (live : Live) → KeysRight rows live → ((pool node : Name) → load_at live pool node ≡ none) →
    ((pool node : Name) (key : Key) → live_row pool node (rows key) ≡ None) → Indexes rows live
empty_indexes rows live right loads dead = record {
  keys = right;
  loads = λ pool node. every (λ r. quantity r (load_at live pool node) ≡ keys_amount rows (keys_at live pool node) (quantity r) % 2 ^ 64) (λ r.
      ap (quantity r) (loads pool node) ∙ quantity_none r ∙ sym (ap (λ n. n % 2 ^ 64) (nothing (quantity r) (quantity_none r) pool node)));
}
  where
    nothing : (amount : Resources → ℕ) → amount none ≡ 0 → (pool node : Name) → keys_amount rows (keys_at live pool node) amount ≡ 0
    nothing amount zero pool node = amount_is rows amount (keys_at live pool node)
        ∙ keys_alike (weight rows amount) (weight rows amount) no_keys (keys_at live pool node)
        (λ q. part_is amount zero pool node rows live right q ∙ ap amount (taken_alike pool node None (rows q) (dead pool node q)) ∙ zero
        ∙ sym (ap (λ b. cond b (size_amount amount (rows q)) 0) (says_nothing (λ (s : KeySet). s.numbers) holds_number no_keys refl q)))
        ∙ no_keys_sum (weight rows amount) no_keys refl

-- ---- another row, or none, is under a key

total_at : (kept now gone come sum next : ℕ) → kept ≡ sum % 2 ^ 64 → now < 2 ^ 64 → IsAlike (now + gone) (kept + come) → next + gone ≡ sum + come →
    now ≡ next % 2 ^ 64
total_at kept now gone come sum next h small moved sums = omega (arith, h, small, moved, sums)

module _ (row_of : RowOf) (key : Key) (before after : Option Allocation) (old new : Live) (right : Indexes row_of old) (was : row_of key ≡ before) where
  abbrev rows : RowOf
  rows = with_row key after row_of

  module _ (keys : KeysRight rows new) where
    sums_moved : (amount : Resources → ℕ) → amount none ≡ 0 → (pool node : Name) →
        keys_amount rows (keys_at new pool node) amount + amount (taken pool node before)
        ≡ keys_amount row_of (keys_at old pool node) amount + amount (taken pool node after)
    sums_moved amount zero pool node =
        let moved = keys_moved (weight row_of amount) (weight rows amount) (keys_at old pool node) (keys_at new pool node) key
        (λ q apart. part_is amount zero pool node rows new keys q ∙ ap (λ b. amount (taken pool node (if b then after else row_of q))) apart
        ∙ sym (part_is amount zero pool node row_of old right.keys q)) in
        let went = part_is amount zero pool node row_of old right.keys key ∙ ap (λ r. amount (taken pool node r)) was in
        let came = part_is amount zero pool node rows new keys key
        ∙ ap (λ b. amount (taken pool node (if b then after else row_of key))) (same_key_refl key) in
        let old_is = amount_is row_of amount (keys_at old pool node) in
        let new_is = amount_is rows amount (keys_at new pool node) in
        omega (arith, moved, went, came, old_is, new_is)

    pub put_right : ((pool node : Name) → IsTrue (stands_at new pool node) →
        MovesLoad (taken pool node before) (taken pool node after) (load_at old pool node) (load_at new pool node)) → Indexes rows new
    put_right moves = record { keys = keys; loads = λ pool node. by pool node (stands_at new pool node) refl }
      where
        by : (pool node : Name) (b : Bool) → stands_at new pool node ≡ b → IsTotal (load_at new pool node) (keys_use rows (keys_at new pool node))
        by pool node true t =
            let m = moves pool node t in
            let total = right.loads pool node in
            let counted = m.0 (total_counted _ _ total) in
            every (λ r. quantity r (load_at new pool node) ≡ keys_amount rows (keys_at new pool node) (quantity r) % 2 ^ 64) (λ r.
            total_at _ _ _ _ _ _
            (at (λ r. quantity r (load_at old pool node) ≡ keys_amount row_of (keys_at old pool node) (quantity r) % 2 ^ 64) total r)
            (counted_at (load_at new pool node) counted r)
            (moves_at (taken pool node before) (taken pool node after) (load_at old pool node) (load_at new pool node) m.1 r)
            (sums_moved (quantity r) (quantity_none r) pool node))
        by pool node false t =
            let bare = nothing_stands new pool node t in
            every (λ r. quantity r (load_at new pool node) ≡ keys_amount rows (keys_at new pool node) (quantity r) % 2 ^ 64) (λ r.
            ap (quantity r) bare.0 ∙ quantity_none r
            ∙ sym (ap (λ n. n % 2 ^ 64) (ap (λ ks. keys_amount rows ks (quantity r)) bare.1 ∙ no_use rows (quantity r))))

-- ---- the row comes

pub added_load : (row : Allocation) (before : Option Allocation) (old new : Live) → is_live row ≡ true → (put : Option Allocation) → put ≡ Some row →
    MovesInPool row.pool row.node (taken row.pool row.node before) row.size old new → AddsLoad before put old new
added_load row before old new lives put is moves pool node =
    let gone = there (λ p n. taken p n before) ∙ ap (λ r. if option_map_or (is_live_on pool node) r false then taken pool node before else none) (sym is) in
    let come = there (λ p n. row.size) ∙ ap (taken pool node) (sym is) in
    subst (λ (parts : Resources × Resources). MovesLoad parts.0 parts.1 (load_at old pool node) (load_at new pool node)) (λ i. (gone i, come i))
    (moves pool node)
  where
    -- a part that is of the row's node is there where the row is live
    there : (part : Name → Name → Resources) →
        part_at row.pool row.node pool node (part row.pool row.node) ≡ (if is_live_on pool node row then part pool node else none)
    there part = by (same_name pool row.pool) (same_name node row.node) refl refl
      where
        by : (a b : Bool) → same_name pool row.pool ≡ a → same_name node row.node ≡ b →
            (if a then (if b then part row.pool row.node else none) else none) ≡ (if is_live row && (a && b) then part pool node else none)
        by true true s t = (λ i. part (sym (same_name_is pool row.pool s) i) (sym (same_name_is node row.node t) i))
            ∙ sym (ap (λ l. if l && true then part pool node else none) lives)
        by true false s t = sym (ap (λ l. if l && false then part pool node else none) lives)
        by false b s t = sym (ap (λ l. if l && false then part pool node else none) lives)

module _ (before after : Option Allocation) (old made : Live) (adds : AddsLoad before after old made) where
  abbrev lives : Name → Name → Bool
  lives pool node = option_map_or (is_live_on pool node) after false

  -- nothing is to go from another node
  pub adds_all : ((pool node : Name) → lives pool node ≡ false → taken pool node before ≡ none) → (pool node : Name) →
      MovesLoad (taken pool node before) (taken pool node after) (load_at old pool node) (load_at made pool node)
  adds_all off pool node = subst (λ gone. MovesLoad gone (taken pool node after) (load_at old pool node) (load_at made pool node))
      (by (lives pool node) refl) (adds pool node)
    where
      by : (b : Bool) → lives pool node ≡ b → (if b then taken pool node before else none) ≡ taken pool node before
      by true t = refl
      by false t = sym (off pool node t)

  pub none_went : before ≡ None → (pool node : Name) →
      MovesLoad (taken pool node before) (taken pool node after) (load_at old pool node) (load_at made pool node)
  none_went none_before = adds_all (λ pool node _. ap (taken pool node) none_before)

  module _ (row : Allocation) (is : before ≡ Some row) where
    off_node : (pool node : Name) → (same_name pool row.pool && same_name node row.node) ≡ false → taken pool node before ≡ none
    off_node pool node off = ap (taken pool node) is
        ∙ ap (λ b. if b then row.size else none) (ap (λ b. is_live row && b) off ∙ and-false (is_live row))

    pub went_there : lives row.pool row.node ≡ true → (pool node : Name) →
        MovesLoad (taken pool node before) (taken pool node after) (load_at old pool node) (load_at made pool node)
    went_there stays = adds_all (λ pool node dead. by pool node dead (same_name pool row.pool && same_name node row.node) refl)
      where
        by : (pool node : Name) → lives pool node ≡ false → (b : Bool) → (same_name pool row.pool && same_name node row.node) ≡ b →
            taken pool node before ≡ none
        by pool node dead true t = not_true (sym dead ∙ (λ i. lives (same_name_is pool row.pool (first_of_both _ _ t) i)
            (same_name_is node row.node (second_of_both (same_name pool row.pool) _ t) i)) ∙ stays)
        by pool node dead false t = off_node pool node t

    -- and the row before goes
    module _ (new : Live) (goes : lives row.pool row.node ≡ false) (leaves : LeavesInPool row.pool row.node (taken row.pool row.node before) made new) where
      gone_is : (amount : Resources → ℕ) → amount none ≡ 0 → (pool node : Name) →
          amount (if lives pool node then taken pool node before else none)
          + amount (part_at row.pool row.node pool node (taken row.pool row.node before)) ≡ amount (taken pool node before)
      gone_is amount zero pool node = by (same_name pool row.pool) (same_name node row.node) refl refl
        where
          neither : (b : Bool) → amount (if b then none else none) ≡ 0
          neither true = zero
          neither false = zero

          apart : (same_name pool row.pool && same_name node row.node) ≡ false →
              amount (if lives pool node then taken pool node before else none) + amount none ≡ amount (taken pool node before)
          apart off =
              let here = ap amount (off_node pool node off) in
              let went = ap (λ part. amount (if lives pool node then part else none)) (off_node pool node off) ∙ neither (lives pool node) in
              omega (arith, here, went, zero)

          by : (a b : Bool) → same_name pool row.pool ≡ a → same_name node row.node ≡ b →
              amount (if lives pool node then taken pool node before else none)
              + amount (if a then (if b then taken row.pool row.node before else none) else none) ≡ amount (taken pool node before)
          by true true s t =
              let pools = same_name_is pool row.pool s in
              let nodes = same_name_is node row.node t in
              let went = ap (λ b. amount (if b then taken pool node before else none)) ((λ i. lives (pools i) (nodes i)) ∙ goes) ∙ zero in
              let here : amount (taken pool node before) ≡ amount (taken row.pool row.node before) = (λ i. amount (taken (pools i) (nodes i) before)) in
              omega (arith, went, here)
          by true false s t = apart (λ i. s i && t i)
          by false b s t = apart (λ i. s i && same_name node row.node)

      pub went_from : (pool node : Name) → IsTrue (stands_at new pool node) →
          MovesLoad (taken pool node before) (taken pool node after) (load_at old pool node) (load_at new pool node)
      went_from pool node still =
          let first = adds pool node in
          let later = leaves pool node still in
          let here : Resources = if lives pool node then taken pool node before else none in
          let there = part_at row.pool row.node pool node (taken row.pool row.node before) in
          let kept = load_at old pool node in
          let mid = load_at made pool node in
          let now = load_at new pool node in (
            λ counted. later.0 (first.0 counted),
            every (λ r. IsAlike (quantity r now + quantity r (taken pool node before)) (quantity r kept + quantity r (taken pool node after))) (λ r.
                let is = gone_is (quantity r) (quantity_none r) pool node in
                let came = moves_at here (taken pool node after) kept mid first.1 r in
                let went = moves_at there none mid now later.1 r in
                let nothing = quantity_none r in
                omega (arith, is, came, went, nothing)),
          )
