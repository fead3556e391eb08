-- Groups of keys, for which room is made in their levels, and which are put there, one after another.
use Rattle.std.specs.Prelude.{◌≡◌, ℕ, false, cond, T, List, [], ◌∷◌, ◌++◌, Option, Some, None}
use Rattle.std.proofs.Common.{refl, sym, ap, subst, ◌∙◌}
use Rattle.std.proofs.lemmas.List.{append-nil}
use Rattle.std.specs.FinMap.{entries, entries_sorted, get, get-entries}
use Rattle.std.specs.FinMap.Entries.{find, is_sorted}
use Rattle.std.specs.Option.{option_map_or}
use Rattle.std.specs.Ordering.{nat_cmp}
use Rattle.keyed.specs.Table.{flat, row_at}
use Rattle.keyed.proofs.Ordered.{absent}
use Rattle.ns_types.proofs.Named.{numbers, one_number, same_number_refl}
use Rattle.ns_types.proofs.Tables.{each_row}
use Rattle.ns_types.proofs.Tests.{first, not_Some, same_Some, second}
use Rattle.ns_types.specs.State.Lists.{Each}
use Rattle.ns_types.specs.State.Names.{Key, same_number}
use Rattle.ns_queues.specs.Ready.{CanAddTo, Groups, HasRoomFor, KeepsOthers, Levels, SameKeys, group_at, items_of, level_at}
use Rattle.ns_queues.proofs.Leveled.{at_each}

abbrev pub Slots : Type 0
Slots = List (ℕ × Option (List Key))

abbrev pub group_in : Slots → ℕ → List Key
group_in es q = option_map_or (λ keys. keys) (flat (find nat_cmp q es)) []

-- ---- an entry, and those after it

module _ {X : Type 0} (k : ℕ) (x : X) (es rest : List (ℕ × X)) (is : es ≡ (k, x) ∷ rest) where
  pub found_here : find nat_cmp k es ≡ Some x
  found_here = ap (find nat_cmp k) is ∙ ap (λ t. cond t (Some x) (find nat_cmp k rest)) (same_number_refl k)

  pub found_other : (q : ℕ) → same_number q k ≡ false → find nat_cmp q es ≡ find nat_cmp q rest
  found_other q e = ap (find nat_cmp q) is ∙ ap (λ t. cond t (Some x) (find nat_cmp q rest)) e

  module _ (rises : T (is_sorted nat_cmp es)) where
    sorted : T (is_sorted nat_cmp ((k, x) ∷ rest))
    sorted = subst (λ es. T (is_sorted nat_cmp es)) is rises

    pub no_more : find nat_cmp k rest ≡ None
    no_more = (absent nat_cmp numbers k rest (first _ _ sorted)).0

    pub rest_sorted : T (is_sorted nat_cmp rest)
    rest_sorted = second _ _ sorted

module _ (groups : Groups) where
  found_in : (es : Slots) → es ≡ entries groups → (q : ℕ) → get groups q ≡ find nat_cmp q es
  found_in es is q = get-entries groups q ∙ ap (find nat_cmp q) (sym is)

  -- ---- room

  -- no key came or went, and there is room for the groups that es does not have
  pub record Reserving (before now : Levels) (es : Slots) : Type 0 where
    pub same : SameKeys before now
    pub stand : Each (λ e. get groups e.0 ≡ Some e.1) es
    pub room : (q : ℕ) (keys : List Key) → find nat_cmp q es ≡ None → row_at groups q ≡ Some keys → CanAddTo (row_at now q) keys

  pub none_reserved : (levels : Levels) (es : Slots) → es ≡ entries groups → Reserving levels levels es
  none_reserved levels es is = record {
    same = λ q. refl;
    stand = subst (λ es. Each (λ e. get groups e.0 ≡ Some e.1) es) (sym is)
        (each_row numbers one_number (λ k slot. get groups k ≡ Some slot) groups (λ k slot at. at));
    room = λ q keys none at. absurd (not_Some keys (sym (ap flat (found_in es is q ∙ none)) ∙ at));
  }

  pub all_reserved : (before now : Levels) (es : Slots) → es ≡ [] → Reserving before now es → HasRoomFor groups now
  all_reserved before now es is h q keys at = h.room q keys (ap (find nat_cmp q) is) at

  module _ (k : ℕ) (slot : Option (List Key)) (es rest : Slots) (is : es ≡ (k, slot) ∷ rest) (before now : Levels) (h : Reserving before now es) where
    stand : Each (λ e. get groups e.0 ≡ Some e.1) ((k, slot) ∷ rest)
    stand = subst (λ es. Each (λ e. get groups e.0 ≡ Some e.1) es) is h.stand

    pub one_reserved : (next : Levels) (keys : List Key) → slot ≡ Some keys → SameKeys now next → KeepsOthers k now next → CanAddTo (row_at next k) keys →
        Reserving before next rest
    one_reserved next keys some same others made = record {
      same = λ q. same q ∙ h.same q;
      stand = stand.1;
      room = at_each (λ q. (x : List Key) → find nat_cmp q rest ≡ None → row_at groups q ≡ Some x → CanAddTo (row_at next q) x) k
          (λ x _ at. subst (CanAddTo (row_at next k)) (same_Some keys x (sym (ap flat stand.0 ∙ some) ∙ at)) made)
          (λ q e x none at. subst (λ r. CanAddTo r x) (sym (others q e)) (h.room q x (found_other k slot es rest is q e ∙ none) at));
    }

    pub none_passed : (next : Levels) → slot ≡ None → next ≡ now → Reserving before next rest
    none_passed next none stays = subst (λ now. Reserving before now rest) (sym stays) (record {
      same = h.same;
      stand = stand.1;
      room = at_each (λ q. (x : List Key) → find nat_cmp q rest ≡ None → row_at groups q ≡ Some x → CanAddTo (row_at now q) x) k
          (λ x _ at. absurd (not_Some x (sym (ap flat stand.0 ∙ none) ∙ at)))
          (λ q e x missing at. h.room q x (found_other k slot es rest is q e ∙ missing) at);
    })

  -- ---- keys

  -- the groups of es are still to come, and there is room for them
  pub record Appending (before now : Levels) (es : Slots) : Type 0 where
    pub whole : (q : ℕ) → level_at now q ++ group_in es q ≡ level_at before q ++ group_at groups q
    pub sorted : T (is_sorted nat_cmp es)
    pub room : (q : ℕ) (keys : List Key) → flat (find nat_cmp q es) ≡ Some keys → CanAddTo (row_at now q) keys

  pub none_appended : (levels : Levels) (es : Slots) → es ≡ entries groups → HasRoomFor groups levels → Appending levels levels es
  none_appended levels es is room = record {
    whole = λ q. ap (λ r. level_at levels q ++ option_map_or (λ keys. keys) (flat r) []) (sym (found_in es is q));
    sorted = subst (λ es. T (is_sorted nat_cmp es)) (sym is) (entries_sorted groups);
    room = λ q keys at. room q keys (ap flat (found_in es is q) ∙ at);
  }

  pub all_appended : (before now : Levels) (es : Slots) → es ≡ [] → Appending before now es → (q : ℕ) →
      level_at now q ≡ level_at before q ++ group_at groups q
  all_appended before now es is h q = sym (append-nil (level_at now q)) ∙ ap (λ es. level_at now q ++ group_in es q) (sym is) ∙ h.whole q

  module _ (k : ℕ) (slot : Option (List Key)) (es rest : Slots) (is : es ≡ (k, slot) ∷ rest) (before now : Levels) (h : Appending before now es) where
    here : find nat_cmp k es ≡ Some slot
    here = found_here k slot es rest is

    over_now : find nat_cmp k rest ≡ None
    over_now = no_more k slot es rest is h.sorted

    pub room_now : (keys : List Key) → slot ≡ Some keys → CanAddTo (row_at now k) keys
    room_now keys some = h.room k keys (ap flat here ∙ some)

    later : (q : ℕ) (keys : List Key) → flat (find nat_cmp q rest) ≡ Some keys → (same_number q k ≡ false) × (flat (find nat_cmp q es) ≡ Some keys)
    later = at_each (λ q. (keys : List Key) → flat (find nat_cmp q rest) ≡ Some keys → (same_number q k ≡ false) × (flat (find nat_cmp q es) ≡ Some keys)) k
        (λ keys at. absurd (not_Some keys (sym (ap flat over_now) ∙ at)))
        (λ q e keys at. (e, ap flat (found_other k slot es rest is q e) ∙ at))

    others_whole : (q : ℕ) → same_number q k ≡ false → level_at now q ++ group_in rest q ≡ level_at before q ++ group_at groups q
    others_whole q e = ap (λ r. level_at now q ++ option_map_or (λ keys. keys) (flat r) []) (sym (found_other k slot es rest is q e)) ∙ h.whole q

    here_whole : (keys : List Key) → option_map_or (λ keys. keys) slot [] ≡ keys → level_at now k ++ keys ≡ level_at before k ++ group_at groups k
    here_whole keys some = ap (λ l. level_at now k ++ l) (sym (ap (λ r. option_map_or (λ keys. keys) (flat r) []) here ∙ some)) ∙ h.whole k

    pub one_appended : (next : Levels) (keys : List Key) → slot ≡ Some keys → KeepsOthers k now next → level_at next k ≡ level_at now k ++ keys →
        Appending before next rest
    one_appended next keys some others put = record {
      whole = at_each (λ q. level_at next q ++ group_in rest q ≡ level_at before q ++ group_at groups q) k
          ((λ i. put i ++ option_map_or (λ keys. keys) (flat (over_now i)) []) ∙ append-nil (level_at now k ++ keys)
          ∙ here_whole keys (ap (λ s. option_map_or (λ keys. keys) s []) some))
          (λ q e. ap (λ r. items_of r ++ group_in rest q) (others q e) ∙ others_whole q e);
      sorted = rest_sorted k slot es rest is h.sorted;
      room = λ q x at. let both = later q x at in subst (λ r. CanAddTo r x) (sym (others q both.0)) (h.room q x both.1);
    }

    pub none_added : (next : Levels) → slot ≡ None → next ≡ now → Appending before next rest
    none_added next none stays = subst (λ now. Appending before now rest) (sym stays) (record {
      whole = at_each (λ q. level_at now q ++ group_in rest q ≡ level_at before q ++ group_at groups q) k
          (ap (λ r. level_at now k ++ option_map_or (λ keys. keys) (flat r) []) over_now
          ∙ here_whole [] (ap (λ s. option_map_or (λ keys. keys) s []) none)) others_whole;
      sorted = rest_sorted k slot es rest is h.sorted;
      room = λ q x at. h.room q x (later q x at).1;
    })
