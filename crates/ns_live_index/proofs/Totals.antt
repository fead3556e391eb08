-- Totals of what the namespaces that are held at quotas use: as names come and go, and as what a namespace uses changes.
use Rattle.std.specs.Prelude.{◌≡◌, ℕ, ◌+◌, ◌<◌, ◌%◌, ◌^◌, Bool, true, false, cond, not, ◌&&◌, ◌||◌, IsTrue, Option, Some, None, is_some, sum_by}
use Rattle.std.proofs.Common.{refl, sym, ap, subst, ◌∙◌, arith}
use Rattle.std.specs.FinMap.{empty, entries, get, get-empty, get-insert, get-remove, insert, remove, same_map}
use Rattle.std.specs.Option.{option_map_or}
use Rattle.keyed.specs.Levels.{Adds, Drops, same_at}
use Rattle.keyed.specs.Table.{flat, has_slot, row_at, rows, with_slot}
use Rattle.keyed.proofs.Levels.{keeps_at, none_there, not_true, row_here}
use Rattle.keyed.proofs.Tables.{get-rows}
use Rattle.keyed.proofs.Values.{begun_value, put_apart, same_value, slot_value}
use Rattle.ns_types.specs.declared.resources.Resources.{Resources}
use Rattle.ns_types.specs.State.Names.{ByName, Name, name_cmp, same_name}
use Rattle.ns_types.specs.State.Resources.{InEach, IsCounted, each_resource, none, quantity}
use Rattle.ns_types.proofs.Amounts.{at, counted_at, every}
use Rattle.ns_types.proofs.Named.{names, one_name, same_name_is, same_name_refl}
use Rattle.ns_types.proofs.Sums.{sum_same}
use Rattle.ns_types.proofs.TableRows.{entries_empty}
use Rattle.ns_types.proofs.Tables.{each_row}
use Rattle.ns_types.proofs.Taken.{at_row, sum_set, sum_split}
use Rattle.ns_types.proofs.Amounts.{moves_at, none_total, total_in_each}
use Rattle.ns_types.specs.State.Resources.{IsAlike, IsTotal, Moves}
use Rattle.ns_live_index.specs.declared.naming.QuotaNames.{QuotaNames}
use Rattle.ns_live_index.specs.declared.naming.QuotaUse.{QuotaUse}
use Rattle.ns_live_index.specs.Naming.{AreKept, AreTotals, HoldsSame, KeepsTotals, has_name_room, has_room_at, holds_at, holds_name, is_quota, names_at}
use Rattle.ns_live_index.specs.Naming.{names_use, total_at, with_use}

-- ---- the names at a quota, by what is held

unit_same : (a b : Option Unit) → is_some a ≡ is_some b → a ≡ b
unit_same None None e = refl
unit_same None (Some y) e = not_true e
unit_same (Some x) None e = not_true (sym e)
unit_same (Some x) (Some y) e = refl

pub same_names : (m n : ByName Unit) → ((ns : Name) → is_some (get m ns) ≡ is_some (get n ns)) → m ≡ n
same_names m n h = same_map names one_name m n (λ ns. unit_same (get m ns) (get n ns) (h ns))

pub held_get : (held : QuotaNames) (q ns : Name) → is_some (get (names_at held q) ns) ≡ holds_at held (q, ns)
held_get held q ns = by (row_at held.quotas q)
  where
    by : (r : Option QuotaUse) → is_some (get (option_map_or (λ (u : QuotaUse). rows u.names) r (empty {X = Unit} {R = name_cmp})) ns)
        ≡ option_map_or (λ (u : QuotaUse). holds_name u ns) r false
    by None = ap is_some (get-empty name_cmp ns)
    by (Some u) = ap is_some (get-rows names u.names ns)

module _ (old new : QuotaNames) (q : Name) where
  same_there : ((n : Name) → holds_at new (q, n) ≡ holds_at old (q, n)) → names_at new q ≡ names_at old q
  same_there held = same_names _ _ (λ n. held_get new q n ∙ held n ∙ sym (held_get old q n))

  added_there : (ns : Name) → ((n : Name) → holds_at new (q, n) ≡ (same_name n ns || holds_at old (q, n))) →
      names_at new q ≡ insert (names_at old q) ns tt
  added_there ns held = same_names _ _ (λ n. held_get new q n ∙ held n ∙ ap (λ b. same_name n ns || b) (sym (held_get old q n))
      ∙ by (same_name n ns) (get (names_at old q) n) ∙ ap is_some (sym (get-insert names (names_at old q) ns tt n)))
    where
      by : (b : Bool) (r : Option Unit) → (b || is_some r) ≡ is_some (cond b (Some tt) r)
      by true r = refl
      by false r = refl

  dropped_there : (ns : Name) → ((n : Name) → holds_at new (q, n) ≡ (not (same_name n ns) && holds_at old (q, n))) →
      names_at new q ≡ remove (names_at old q) ns
  dropped_there ns held = same_names _ _ (λ n. held_get new q n ∙ held n ∙ ap (λ b. not (same_name n ns) && b) (sym (held_get old q n))
      ∙ by (same_name n ns) (get (names_at old q) n) ∙ ap is_some (sym (get-remove names (names_at old q) ns n)))
    where
      by : (b : Bool) (r : Option Unit) → (not b && is_some r) ≡ is_some (cond b None r)
      by true r = refl
      by false r = refl

-- ---- sums over names

module _ (use_of : Name → Resources) (amount : Resources → ℕ) where
  abbrev sum_of : ByName Unit → ℕ
  sum_of m = sum_by (λ e. amount (use_of e.0)) (entries m)

  abbrev part : Name → Unit {0} → ℕ
  part n x = amount (use_of n)

  sum_nothing : sum_of empty ≡ 0
  sum_nothing = ap (sum_by (λ (e : Name × Unit). amount (use_of e.0))) (entries_empty names one_name)

  sum_added : (m : ByName Unit) (ns : Name) → is_some (get m ns) ≡ false → sum_of (insert m ns tt) ≡ sum_of m + amount (use_of ns)
  sum_added m ns free =
      let set = sum_set names one_name part m ns tt in
      let nothing : at_row names one_name part m ns ≡ 0 = ap (λ r. option_map_or (part ns) r 0) (none_there (get m ns) free) in
      omega (arith, set, nothing)

  sum_dropped : (m : ByName Unit) (ns : Name) → is_some (get m ns) ≡ true → sum_of m ≡ amount (use_of ns) + sum_of (remove m ns)
  sum_dropped m ns there =
      let split = sum_split names one_name part m ns in
      let here : at_row names one_name part m ns ≡ amount (use_of ns) =
      ap (λ r. option_map_or (part ns) r 0) (unit_same (get m ns) (Some tt) there) in
      omega (arith, split, here)

module _ (use_of : Name → Resources) (ns : Name) (used : Resources) (amount : Resources → ℕ) where
  -- where the namespace is not held, another use of it counts nothing
  sum_apart : (m : ByName Unit) → is_some (get m ns) ≡ false → sum_of (with_use ns used use_of) amount m ≡ sum_of use_of amount m
  sum_apart m free = sum_same (λ e. amount (with_use ns used use_of e.0)) (λ e. amount (use_of e.0)) (entries m)
      (each_row names one_name (λ n _. amount (with_use ns used use_of n) ≡ amount (use_of n)) m (λ n x at. by n x at (same_name n ns) refl))
    where
      by : (n : Name) (x : Unit) → get m n ≡ Some x → (b : Bool) → same_name n ns ≡ b → amount (with_use ns used use_of n) ≡ amount (use_of n)
      by n x at true t = not_true (sym free ∙ ap (λ k. is_some (get m k)) (sym (same_name_is n ns t)) ∙ ap is_some at)
      by n x at false t = ap (λ b. amount (cond b used (use_of n))) t

  -- where it is held, one use stands in the place of the other
  sum_changed : (m : ByName Unit) → is_some (get m ns) ≡ true →
      sum_of (with_use ns used use_of) amount m + amount (use_of ns) ≡ sum_of use_of amount m + amount used
  sum_changed m there =
      let old = sum_dropped use_of amount m ns there in
      let new = sum_dropped (with_use ns used use_of) amount m ns there in
      let here : amount (with_use ns used use_of ns) ≡ amount used = ap (λ b. amount (cond b used (use_of ns))) (same_name_refl ns) in
      let rest = sum_apart (remove m ns) (ap is_some (get-remove names m ns ns ∙ ap (λ b. cond b None (get m ns)) (same_name_refl ns))) in
      omega (arith, old, new, here, rest)

-- ---- totals

shifted : (old new sum now before after b a : ℕ) → old ≡ sum % 2 ^ 64 → before ≡ b % 2 ^ 64 → after ≡ a % 2 ^ 64 →
    IsAlike (new + before) (old + after) → new < 2 ^ 64 → now + b ≡ sum + a → new ≡ now % 2 ^ 64
shifted old new sum now before after b a was gone come moved small exact = omega (arith, was, gone, come, moved, small, exact)

total_shifted : (old new before after b a sum now : Resources) → Moves before after old new → IsCounted new → IsTotal before b → IsTotal after a →
    IsTotal old sum → InEach (λ r. quantity r now + quantity r b ≡ quantity r sum + quantity r a) → IsTotal new now
total_shifted old new before after b a sum now moved counted gone come was exact = every (λ r. quantity r new ≡ quantity r now % 2 ^ 64) (λ r.
    shifted (quantity r old) (quantity r new) (quantity r sum) (quantity r now) (quantity r before) (quantity r after) (quantity r b) (quantity r a)
    (total_in_each old sum was r) (total_in_each before b gone r) (total_in_each after a come r) (moves_at before after old new moved r)
    (counted_at new counted r) (at (λ r. quantity r now + quantity r b ≡ quantity r sum + quantity r a) exact r))

abbrev pub IsTotalAt : (Name → Resources) → QuotaNames → Name → Type 0
IsTotalAt use_of held q = IsTotal (total_at held q) (names_use use_of (names_at held q))

-- where no namespace is held, there is none
total_nothing : (use_of : Name → Resources) → IsTotal none (names_use use_of empty)
total_nothing use_of = every (λ r. 0 ≡ sum_of use_of (quantity r) empty % 2 ^ 64) (λ r. ap (λ n. n % 2 ^ 64) (sym (sum_nothing use_of (quantity r))))

pub total_gone : (use_of : Name → Resources) (held : QuotaNames) (q : Name) → row_at held.quotas q ≡ None → IsTotalAt use_of held q
total_gone use_of held q is = subst (λ r. IsTotal (option_map_or (λ (u : QuotaUse). u.total) r none)
    (names_use use_of (option_map_or (λ (u : QuotaUse). rows u.names) r empty))) (sym is) (total_nothing use_of)

pub total_free : (use_of : Name → Resources) (held : QuotaNames) (q : Name) → ((n : Name) → holds_at held (q, n) ≡ false) →
    total_at held q ≡ none → IsTotalAt use_of held q
total_free use_of held q free is = subst (λ t. IsTotal t (names_use use_of (names_at held q))) (sym is)
    (subst (λ m. IsTotal none (names_use use_of m)) (sym (same_names (names_at held q) empty
    (λ n. held_get held q n ∙ free n ∙ ap is_some (sym (get-empty name_cmp n))))) (total_nothing use_of))

module _ (use_of : Name → Resources) (old new : QuotaNames) (q : Name) (right : IsTotalAt use_of old q) where
  pub total_still : ((n : Name) → holds_at new (q, n) ≡ holds_at old (q, n)) → total_at new q ≡ total_at old q → IsTotalAt use_of new q
  total_still held is = subst (λ t. IsTotal t (names_use use_of (names_at new q))) (sym is)
      (subst (λ m. IsTotal (total_at old q) (names_use use_of m)) (sym (same_there old new q held)) right)

  module _ (ns : Name) (used : Resources) (counted : IsCounted (total_at new q)) where
    pub total_gained : IsTotal used (use_of ns) → ((n : Name) → holds_at new (q, n) ≡ (same_name n ns || holds_at old (q, n))) →
        holds_at old (q, ns) ≡ false → Moves none used (total_at old q) (total_at new q) → IsTotalAt use_of new q
    total_gained is held free moved =
        let free_there = held_get old q ns ∙ free in
        subst (λ m. IsTotal (total_at new q) (names_use use_of m)) (sym (added_there old new q ns held))
        (total_shifted (total_at old q) (total_at new q) none used none (use_of ns) (names_use use_of (names_at old q))
        (names_use use_of (insert (names_at old q) ns tt)) moved counted none_total is right
        (every
        (λ r. sum_of use_of (quantity r) (insert (names_at old q) ns tt) + 0 ≡ sum_of use_of (quantity r) (names_at old q) + quantity r (use_of ns)) (λ r.
        plain _ _ (sum_added use_of (quantity r) (names_at old q) ns free_there))))
      where
        plain : (a b : ℕ) → a ≡ b → a + 0 ≡ b
        plain a b e = omega (arith, e)

    pub total_lost : IsTotal used (use_of ns) → ((n : Name) → holds_at new (q, n) ≡ (not (same_name n ns) && holds_at old (q, n))) →
        holds_at old (q, ns) ≡ true → Moves used none (total_at old q) (total_at new q) → IsTotalAt use_of new q
    total_lost is held there moved =
        let here = held_get old q ns ∙ there in
        subst (λ m. IsTotal (total_at new q) (names_use use_of m)) (sym (dropped_there old new q ns held))
        (total_shifted (total_at old q) (total_at new q) used none (use_of ns) none (names_use use_of (names_at old q))
        (names_use use_of (remove (names_at old q) ns)) moved counted is none_total right
        (every
        (λ r. sum_of use_of (quantity r) (remove (names_at old q) ns) + quantity r (use_of ns) ≡ sum_of use_of (quantity r) (names_at old q) + 0) (λ r.
        turned _ (quantity r (use_of ns)) _ (sum_dropped use_of (quantity r) (names_at old q) ns here))))
      where
        turned : (a b c : ℕ) → a ≡ b + c → c + b ≡ a + 0
        turned a b c e = omega (arith, e)

  module _ (ns : Name) (used : Resources) (held : (n : Name) → holds_at new (q, n) ≡ holds_at old (q, n)) where
    -- another namespace's quota
    pub total_apart : holds_at old (q, ns) ≡ false → total_at new q ≡ total_at old q → IsTotalAt (with_use ns used use_of) new q
    total_apart free is =
        let apart : names_use (with_use ns used use_of) (names_at old q) ≡ names_use use_of (names_at old q) =
        λ i. each_resource (λ r. sum_apart use_of ns used (quantity r) (names_at old q) (held_get old q ns ∙ free) i) in
        subst (λ t. IsTotal t (names_use (with_use ns used use_of) (names_at new q))) (sym is)
        (subst (λ m. IsTotal (total_at old q) (names_use (with_use ns used use_of) m)) (sym (same_there old new q held))
        (subst (IsTotal (total_at old q)) (sym apart) right))

    pub total_moved : holds_at old (q, ns) ≡ true → (before after : Resources) → IsTotal before (use_of ns) → IsTotal after used →
        Moves before after (total_at old q) (total_at new q) → IsCounted (total_at new q) → IsTotalAt (with_use ns used use_of) new q
    total_moved there before after was is moved counted =
        subst (λ m. IsTotal (total_at new q) (names_use (with_use ns used use_of) m)) (sym (same_there old new q held))
        (total_shifted (total_at old q) (total_at new q) before after (use_of ns) used (names_use use_of (names_at old q))
        (names_use (with_use ns used use_of) (names_at old q)) moved counted was is right
        (every
        (λ r. sum_of (with_use ns used use_of) (quantity r) (names_at old q) + quantity r (use_of ns)
        ≡ sum_of use_of (quantity r) (names_at old q) + quantity r used) (λ r.
        sum_changed use_of ns used (quantity r) (names_at old q) (held_get old q ns ∙ there))))

-- ---- one quota's total, where the rest stays

-- it has one
abbrev total_in : QuotaUse → Unit {0} → Resources
total_in held u = held.total

module _ (old new : QuotaNames) (quota : Name) (before after : QuotaUse) (is : row_at old.quotas quota ≡ Some before)
    (e : new.quotas ≡ insert old.quotas quota (Some after)) where
  total_before : total_at old quota ≡ before.total
  total_before = ap (λ r. option_map_or (λ (u : QuotaUse). u.total) r none) is

  total_after : total_at new quota ≡ after.total
  total_after = ap (λ r. option_map_or (λ (u : QuotaUse). u.total) r none) (row_here names old.quotas new.quotas quota after e)

  pub others_there : (q : Name) → same_name q quota ≡ false → total_at new q ≡ total_at old q
  others_there q t = put_apart names one_name none total_in old.quotas new.quotas quota after e q tt t

  pub totals_kept : after.total ≡ before.total → KeepsTotals old new
  totals_kept same q = same_value names one_name none total_in old.quotas new.quotas quota before after is e (λ _. same) q tt

  moves_here : (gone come : Resources) → Moves gone come before.total after.total → Moves gone come (total_at old quota) (total_at new quota)
  moves_here gone come moved = subst (λ t. Moves gone come t (total_at new quota)) (sym total_before)
      (subst (λ t. Moves gone come before.total t) (sym total_after) moved)

  module _ (counted : IsCounted after.total) where
    counted_here : IsCounted (total_at new quota)
    counted_here = subst IsCounted (sym total_after) counted

    module _ (ns : Name) (used : Resources) (use_of : Name → Resources) (right : AreTotals use_of old) (part : IsTotal used (use_of ns)) where
      pub all_gained : Adds holds_at has_room_at (same_at same_name) (quota, ns) old new → Moves none used before.total after.total →
          holds_at old (quota, ns) ≡ false → AreTotals use_of new
      all_gained adds moved free q = by (same_name q quota) refl
        where
          by : (b : Bool) → same_name q quota ≡ b → IsTotalAt use_of new q
          by true t = subst (IsTotalAt use_of new) (sym (same_name_is q quota t))
              (total_gained use_of old new quota (right quota) ns used counted_here part
              (λ n. adds.held (quota, n) ∙ ap (λ b. (b && same_name n ns) || holds_at old (quota, n)) (same_name_refl quota)) free
              (moves_here none used moved))
          by false t = total_still use_of old new q (right q)
              (λ n. adds.held (q, n) ∙ ap (λ b. (b && same_name n ns) || holds_at old (q, n)) t) (others_there q t)

      pub all_lost : Drops holds_at has_room_at (same_at same_name) (quota, ns) old new → Moves used none before.total after.total →
          holds_at old (quota, ns) ≡ true → AreTotals use_of new
      all_lost drops moved there q = by (same_name q quota) refl
        where
          by : (b : Bool) → same_name q quota ≡ b → IsTotalAt use_of new q
          by true t = subst (IsTotalAt use_of new) (sym (same_name_is q quota t))
              (total_lost use_of old new quota (right quota) ns used counted_here part
              (λ n. drops.held (quota, n) ∙ ap (λ b. not (b && same_name n ns) && holds_at old (quota, n)) (same_name_refl quota)) there
              (moves_here used none moved))
          by false t = total_still use_of old new q (right q)
              (λ n. drops.held (q, n) ∙ ap (λ b. not (b && same_name n ns) && holds_at old (q, n)) t) (others_there q t)

    -- what a namespace of the quota uses changes
    pub all_moved : after.names ≡ before.names → (gone come : Resources) → Moves gone come before.total after.total →
        (quota_of : Name → Option Name) (use_of : Name → Resources) → AreKept quota_of use_of old → (ns : Name) → quota_of ns ≡ Some quota →
        IsTotal gone (use_of ns) → (used : Resources) → IsTotal come used → AreKept quota_of (with_use ns used use_of) new
    all_moved same gone come moved quota_of use_of kept ns named was used now = record {
      names = λ q n. held q n ∙ kept.names q n;
      totals = λ q. by q (same_name q quota) refl;
    }
      where
        held : (q n : Name) → holds_at new (q, n) ≡ holds_at old (q, n)
        held q n = (keeps_at (λ (s : QuotaNames). s.quotas) holds_name has_name_room old new quota before after is e (record {
          held = λ k. ap (λ t. is_some (row_at t k)) same;
          room = λ k h. subst (λ t. IsTrue (has_slot t k)) (sym same) h;
        })).held (q, n)

        there : (q : Name) → holds_at old (q, ns) ≡ same_name q quota
        there q = kept.names q ns ∙ ap (λ r. is_quota r q) named

        by : (q : Name) (b : Bool) → same_name q quota ≡ b → IsTotalAt (with_use ns used use_of) new q
        by q true t = subst (IsTotalAt (with_use ns used use_of) new) (sym (same_name_is q quota t))
            (total_moved use_of old new quota (kept.totals quota) ns used (held quota) (there quota ∙ same_name_refl quota) gone come was now
            (moves_here gone come moved) counted_here)
        by q false t = total_apart use_of old new q (kept.totals q) ns used (held q) (there q ∙ t) (others_there q t)

-- a quota goes with its last name
pub all_gone : (old left new : QuotaNames) (quota ns : Name) (use_of : Name → Resources) → AreTotals use_of old →
    Drops holds_at has_room_at (same_at same_name) (quota, ns) old new →
    ((q : Name) → same_name q quota ≡ false → total_at left q ≡ total_at old q) → new.quotas ≡ remove left.quotas quota → AreTotals use_of new
all_gone old left new quota ns use_of right drops same e q = by (same_name q quota) refl
  where
    row_gone : (b : Bool) → same_name q quota ≡ b → row_at new.quotas q ≡ flat (cond b None (get left.quotas q))
    row_gone b t = ap (λ m. row_at m q) e ∙ ap flat (get-remove names left.quotas quota q ∙ ap (λ b. cond b None (get left.quotas q)) t)

    by : (b : Bool) → same_name q quota ≡ b → IsTotalAt use_of new q
    by true t = total_gone use_of new q (row_gone true t)
    by false t = total_still use_of old new q (right q)
        (λ n. drops.held (q, n) ∙ ap (λ b. not (b && same_name n ns) && holds_at old (q, n)) t)
        (ap (λ r. option_map_or (λ (u : QuotaUse). u.total) r none) (row_gone false t) ∙ same q t)

-- room moves no total
pub only_room : (old made : QuotaNames) (k : Name) → made.quotas ≡ with_slot old.quotas k → KeepsTotals old made
only_room old made k e q = slot_value names one_name none total_in old.quotas made.quotas k e q tt

-- nor does a quota that begins
pub totals_begun : (old made new : QuotaNames) (k : Name) (held : QuotaUse) → made.quotas ≡ with_slot old.quotas k → row_at made.quotas k ≡ None →
    held.total ≡ none → new.quotas ≡ insert made.quotas k (Some held) → KeepsTotals old new
totals_begun old made new k held e nowhere nothing f q = begun_value names one_name none total_in old.quotas made.quotas new.quotas k held e nowhere
    (λ _. nothing) f q tt

-- no quota has a total at first
pub total_first : (held : QuotaNames) → held.quotas ≡ empty → (q : Name) → total_at held q ≡ none
total_first held e q = ap (λ m. option_map_or (λ (u : QuotaUse). u.total) (row_at m q) none) e
    ∙ ap (λ r. option_map_or (λ (u : QuotaUse). u.total) (flat r) none) (get-empty name_cmp q)

-- ---- where nothing moves

pub totals_same : (old new : QuotaNames) → HoldsSame old new → (use_of : Name → Resources) → AreTotals use_of old → AreTotals use_of new
totals_same old new same use_of right q = total_still use_of old new q (right q) (same.names q) (same.totals q)

pub are_still_kept : (old new : QuotaNames) → HoldsSame old new → (quota_of : Name → Option Name) (use_of : Name → Resources) →
    AreKept quota_of use_of old → AreKept quota_of use_of new
are_still_kept old new same quota_of use_of right = record {
  names = λ q n. same.names q n ∙ right.names q n;
  totals = totals_same old new same use_of right.totals;
}

-- a namespace that names no quota may use anything
pub free_moved : (held : QuotaNames) (quota_of : Name → Option Name) (use_of : Name → Resources) → AreKept quota_of use_of held → (ns : Name) →
    quota_of ns ≡ None → (used : Resources) → AreKept quota_of (with_use ns used use_of) held
free_moved held quota_of use_of kept ns named used = record {
  names = kept.names;
  totals = λ q. total_apart use_of held held q (kept.totals q) ns used (λ n. refl) (kept.names q ns ∙ ap (λ r. is_quota r q) named) refl;
}
