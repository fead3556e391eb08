-- What a put leaves of an index that was right.
use Rattle.std.specs.Prelude.{◌≡◌, Bool, true, false, not, ◌&&◌, ◌||◌, if◌then◌else◌, IsTrue, Option, Some, None}
use Rattle.std.proofs.Common.{refl, sym, ap, subst, ◌∙◌}
use Rattle.std.proofs.Math.Bool.{and-false}
use Rattle.std.specs.Option.{option_map_or}
use Rattle.ns_types.specs.declared.allocation.Allocation.{Allocation}
use Rattle.ns_types.specs.State.Names.{Name, Key, same_key, same_name}
use Rattle.ns_types.specs.State.Rows.{is_live, is_live_on}
use Rattle.ns_types.proofs.Named.{first_of_both, same_key_is, same_name_is, second_of_both}
use Rattle.ns_types.proofs.Tests.{or_none}
use Rattle.ns_live_index.specs.declared.live.Live.{Live}
use Rattle.ns_live_index.specs.Index.{AddsRow, Indexes, has_room, holds, with_row}
use Rattle.keyed.specs.Levels.{Adds, Drops, same_at}
use Rattle.ns_live_index.specs.Levels.{has_pool_room, holds_in_pool}
use Rattle.ns_live_index.specs.Shown.{live_row}
use Rattle.ns_live_index.proofs.PutLoads.{KeysRight, still_loaded}

regrouped : (a b c : Bool) → (a && (b && c)) ≡ (c && (a && b))
regrouped true true true = refl
regrouped true true false = refl
regrouped true false true = refl
regrouped true false false = refl
regrouped false b true = refl
regrouped false b false = refl

apart : (a b c : Bool) → c ≡ false → (a && (b && c)) ≡ false
apart true true c e = e
apart true false c e = refl
apart false b c e = refl

pub added_row : (row : Allocation) (key : Key) (old new : Live) → is_live row ≡ true → (put : Option Allocation) → put ≡ Some row →
    Adds holds_in_pool has_pool_room (same_at (same_at same_key)) (row.pool, (row.node, key)) old new → AddsRow key put old new
added_row row key old new live put is added = subst (λ r. AddsRow key r old new) (sym is) (record {
  held = λ pool node other. added.held (pool, (node, other))
      ∙ ap (λ b. b || holds old pool node other) (regrouped (same_name pool row.pool) (same_name node row.node) (same_key other key)
      ∙ ap (λ l. same_key other key && (l && (same_name pool row.pool && same_name node row.node))) (sym live));
  room = λ pool node other. added.room (pool, (node, other));
})

module _ (row_of : Key → Option Allocation) (key : Key) (before after : Option Allocation) (old made : Live) (right : Indexes row_of old)
    (was : row_of key ≡ before) (adds : AddsRow key after old made) where
  abbrev lived : Name → Name → Bool
  lived pool node = option_map_or (is_live_on pool node) before false

  abbrev lives : Name → Name → Bool
  lives pool node = option_map_or (is_live_on pool node) after false

  made_here : (pool node : Name) (other : Key) → same_key other key ≡ true → holds made pool node other ≡ (lives pool node || lived pool node)
  made_here pool node other t =
      let is = same_key_is other key t in
      let old_row : row_of other ≡ before = (λ i. row_of (is.0 i, is.1 i)) ∙ was in
      adds.held pool node other ∙ ap (λ b. (b && lives pool node) || holds old pool node other) t
      ∙ ap (λ b. lives pool node || b) (right.keys pool node other ∙ ap (λ r. option_map_or (is_live_on pool node) r false) old_row)

  made_apart : (pool node : Name) (other : Key) → same_key other key ≡ false → holds made pool node other ≡
      option_map_or (is_live_on pool node) (row_of other) false
  made_apart pool node other t = adds.held pool node other ∙ ap (λ b. (b && lives pool node) || holds old pool node other) t ∙ right.keys pool node other

  at_key : (pool node : Name) (other : Key) (b : Bool) → same_key other key ≡ b
      → option_map_or (is_live_on pool node) (with_row key after row_of other) false ≡ option_map_or (is_live_on pool node)
      (if b then after else row_of other) false
  at_key pool node other b t = ap (λ b. option_map_or (is_live_on pool node) (if b then after else row_of other) false) t

  -- nothing is to go
  pub kept_right : ((pool node : Name) → (lives pool node || lived pool node) ≡ lives pool node) → KeysRight (with_row key after row_of) made
  kept_right stays pool node other = by (same_key other key) refl
    where
      by : (b : Bool) → same_key other key ≡ b → holds made pool node other ≡ option_map_or (is_live_on pool node) (with_row key after row_of other) false
      by true t = made_here pool node other t ∙ stays pool node ∙ sym (at_key pool node other true t)
      by false t = made_apart pool node other t ∙ sym (at_key pool node other false t)

  pub none_before : before ≡ None → KeysRight (with_row key after row_of) made
  none_before none = kept_right (λ pool node. ap (λ r. lives pool node || option_map_or (is_live_on pool node) r false) none ∙ or_none (lives pool node))

  module _ (row : Allocation) (is : before ≡ Some row) where
    abbrev on : Name → Name → Bool
    on pool node = same_name pool row.pool && same_name node row.node

    pub stays_there : lives row.pool row.node ≡ true → KeysRight (with_row key after row_of) made
    stays_there there = kept_right (λ pool node. by pool node (lived pool node) refl)
      where
        by : (pool node : Name) (b : Bool) → lived pool node ≡ b → (lives pool node || b) ≡ lives pool node
        by pool node false e = or_none (lives pool node)
        by pool node true e =
            let own = second_of_both (is_live row) _ (sym (ap (λ r. option_map_or (is_live_on pool node) r false) is) ∙ e) in
            let here : lives pool node ≡ true = (λ i. lives (same_name_is pool row.pool (first_of_both _ _ own) i)
            (same_name_is node row.node (second_of_both (same_name pool row.pool) _ own) i)) ∙ there in
            ap (λ b. b || true) here ∙ sym here

    module _ (new : Live) (goes : lives row.pool row.node ≡ false)
        (drops : Drops holds_in_pool has_pool_room (same_at (same_at same_key)) (row.pool, (row.node, key)) made new) where
      pub dropped_right : KeysRight (with_row key after row_of) new
      dropped_right pool node other = by (same_key other key) refl
        where
          there : (b : Bool) → on pool node ≡ b → (not b && (lives pool node || (is_live row && b))) ≡ lives pool node
          there true t = sym ((λ i. lives (same_name_is pool row.pool (first_of_both _ _ t) i)
              (same_name_is node row.node (second_of_both (same_name pool row.pool) _ t) i)) ∙ goes)
          there false t = ap (λ b. lives pool node || b) (and-false (is_live row)) ∙ or_none (lives pool node)

          joined : (a b c : Bool) → c ≡ true → (a && (b && c)) ≡ (a && b)
          joined true true c e = e
          joined true false c e = refl
          joined false b c e = refl

          by : (b : Bool) → same_key other key ≡ b → holds new pool node other ≡ option_map_or (is_live_on pool node) (with_row key after row_of other) false
          by true t = drops.held (pool, (node, other))
              ∙ (λ i. not (joined (same_name pool row.pool) (same_name node row.node) (same_key other key) t i) && made_here pool node other t i)
              ∙ ap (λ r. not (on pool node) && (lives pool node || option_map_or (is_live_on pool node) r false)) is
              ∙ there (on pool node) refl ∙ sym (at_key pool node other true t)
          by false t = drops.held (pool, (node, other))
              ∙ (λ i. not (apart (same_name pool row.pool) (same_name node row.node) (same_key other key) t i) && made_apart pool node other t i)
              ∙ sym (at_key pool node other false t)

pub room_left : (row : Allocation) (key : Key) (made new : Live) →
    Drops holds_in_pool has_pool_room (same_at (same_at same_key)) (row.pool, (row.node, key)) made new →
    (pool node : Name) (other : Key) → same_key other key ≡ false → IsTrue (has_room made pool node other) → IsTrue (has_room new pool node other)
room_left row key made new drops pool node other t h =
    drops.room (pool, (node, other)) (apart (same_name pool row.pool) (same_name node row.node) (same_key other key) t) h

-- ---- rows that are the same

pub indexes_same : (row_of rows : Key → Option Allocation) (live : Live) → Indexes row_of live → ((key : Key) → rows key ≡ row_of key) → Indexes rows live
indexes_same row_of rows live right same = still_loaded row_of rows live live right
    (λ pool node key. right.keys pool node key ∙ ap (λ r. option_map_or (is_live_on pool node) r false) (sym (same key)))
    (λ pool node. refl) (λ pool node key. ap (live_row pool node) (same key))
