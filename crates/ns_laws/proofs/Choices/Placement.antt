-- The orders by which nodes are chosen, and who may be evicted.
use Rattle.std.specs.Prelude.{◌≡◌, ℕ, ◌-◌, ◌<◌, ◌≤◌, Bool, true, false, cond, List, [], length, Option, Some, None, unwrap_or, is_some, slice_get, option_map}
use Rattle.std.specs.Prelude.{IsFalse, ◌||◌, ◌==◌, ◌⊎◌, max, fold, ◌&&◌, ◌∷◌}
use Rattle.std.specs.declared.cmp.Ordering.{Ordering}
use Rattle.std.proofs.Common.{refl, sym, ap, ◌∙◌, arith, Less, Equal, is_lt, subst, inl, inr}
use Rattle.std.specs.Cmp.{nat_cmp_is}
use Rattle.std.specs.Ordering.{nat_cmp, ordering_then}
use Rattle.std.proofs.lemmas.Bool.{eq-eqb, cases_lt}
use Rattle.std.proofs.lemmas.Option.{none-some, same_Some}
use Rattle.ns_types.proofs.Amounts.{every, within_at, within_from}
use Rattle.ns_types.specs.declared.resources.Resources.{Resources}
use Rattle.ns_types.specs.declared.snapshot.LiveAllocation.{LiveAllocation}
use Rattle.ns_types.specs.Placing.Choice.{shortest_prefix}
use Rattle.ns_types.specs.State.Names.{name_cmp}
use Rattle.ns_types.specs.Placing.Placement.{Candidate, fits, better, best_fit}
use Rattle.ns_types.specs.Placing.Preemption.{makes_room, victims, highest_priority, cheaper, best_victims}
use Rattle.std.proofs.lemmas.Bool.{or_right}
use Rattle.ns_types.proofs.Choosing.{better_order, cheaper_order}
use Rattle.ns_types.proofs.Lists.{not_both, each_map}
use Rattle.ns_types.proofs.Named.{first_of_both, second_of_both}
use Rattle.ns_types.proofs.Elements.{each_both}
use Rattle.ns_laws.specs.Placement.{HasLessLeft, less_cpu, less_memory, less_disk, less_name, ChosenIsBest, NoneChosenOfNone}
use Rattle.ns_laws.specs.Placement as law
use Rattle.ns_laws.proofs.Choices.Choice.{best_is, best_of_none, shortest_is, shortest_none, is_shortest}
use Rattle.std.specs.Option.{option_map_or, option_and_then}
use Rattle.ns_types.specs.Placing.Planning.{Choice}
use Rattle.ns_types.specs.State.Lists.{Each}
use Rattle.std.specs.List.{list_any}
use Rattle.ns_types.specs.State.Resources.{Cpu, Disk, Memory, Resource, is_within, plus, quantity, total}

-- ---- orders

less_is : (a b : ℕ) → a < b → nat_cmp a b ≡ Less
less_is a b h = sym (nat_cmp_is a b Less h)

equal_is : (a b : ℕ) → a ≡ b → nat_cmp a b ≡ Equal
equal_is a b h = sym (nat_cmp_is a b Equal h)

-- by a first number, then by a second one, then by a third test
abbrev ranks : ℕ → ℕ → ℕ → ℕ → Ordering → Bool
ranks a b c d r = is_lt (ordering_then (nat_cmp a b) (ordering_then (nat_cmp c d) r))

first_less : (a b c d : ℕ) (r : Ordering) → a < b → ranks a b c d r ≡ true
first_less a b c d r h = ap (λ o. is_lt (ordering_then o (ordering_then (nat_cmp c d) r))) (less_is a b h)

second_less : (a b c d : ℕ) (r : Ordering) → a ≡ b → c < d → ranks a b c d r ≡ true
second_less a b c d r h k = λ i. is_lt (ordering_then (equal_is a b h i) (ordering_then (less_is c d k i) r))

third_less : (a b c d : ℕ) (r : Ordering) → a ≡ b → c ≡ d → r ≡ Less → ranks a b c d r ≡ true
third_less a b c d r h k e = λ i. is_lt (ordering_then (equal_is a b h i) (ordering_then (equal_is c d k i) (e i)))

-- by a first number, then by a second one, then by a third one
abbrev three : ℕ → ℕ → ℕ → ℕ → ℕ → ℕ → Ordering
three a b c d e f = ordering_then (nat_cmp a b) (ordering_then (nat_cmp c d) (nat_cmp e f))

-- and then by a test
abbrev left_ranks : ℕ → ℕ → ℕ → ℕ → ℕ → ℕ → Ordering → Bool
left_ranks a b c d e f r = is_lt (ordering_then (three a b c d e f) r)

first_left : (a b c d e f : ℕ) (r : Ordering) → a < b → left_ranks a b c d e f r ≡ true
first_left a b c d e f r h = ap (λ o. is_lt (ordering_then (ordering_then o (ordering_then (nat_cmp c d) (nat_cmp e f))) r)) (less_is a b h)

second_left : (a b c d e f : ℕ) (r : Ordering) → a ≡ b → c < d → left_ranks a b c d e f r ≡ true
second_left a b c d e f r h k = λ i. is_lt (ordering_then (ordering_then (equal_is a b h i) (ordering_then (less_is c d k i) (nat_cmp e f))) r)

third_left : (a b c d e f : ℕ) (r : Ordering) → a ≡ b → c ≡ d → e < f → left_ranks a b c d e f r ≡ true
third_left a b c d e f r h k l = λ i. is_lt (ordering_then (ordering_then (equal_is a b h i) (ordering_then (equal_is c d k i) (less_is e f l i))) r)

last_left : (a b c d e f : ℕ) (r : Ordering) → a ≡ b → c ≡ d → e ≡ f → r ≡ Less → left_ranks a b c d e f r ≡ true
last_left a b c d e f r h k l m =
    λ i. is_lt (ordering_then (ordering_then (equal_is a b h i) (ordering_then (equal_is c d k i) (equal_is e f l i))) (m i))

-- ---- what the tests say

fits_at : (size : Resources) (c : Candidate) → fits size c ≡ true → (r : Resource) → quantity r size ≤ quantity r c.left
fits_at size c e = within_at size c.left (second_of_both c.feasible _ e)

pub fits_where_room : law.FitsWhereRoom
fits_where_room size node = (
  (λ e. (first_of_both node.feasible (is_within size node.left) e, every (λ r. quantity r size ≤ quantity r node.left) (fits_at size node e))),
  (λ h. λ i. h.0 i && within_from size node.left h.1 i),
)

pub room_is_made : law.RoomIsMade
room_is_made size node gone =
    let room = plus node.left (total (λ a. a.size) gone) in (
      (λ e. every (λ r. quantity r size ≤ quantity r room) (within_at size room e)),
      (λ h. within_from size room h),
    )

-- from a start, the highest is at least the start and each, and it is the start or one of them
highest_from : (m : ℕ) (xs : List LiveAllocation) → (m ≤ fold (λ m a. max m a.priority) m xs) × Each (λ a. a.priority ≤ fold (λ m a. max m a.priority) m xs) xs
highest_from m [] = (omega arith, tt)
highest_from m (x ∷ xs) = let rest = highest_from (max m x.priority) xs in (omega (arith, rest.0), (omega (arith, rest.0), rest.1))

IsReached : ℕ → List LiveAllocation → ℕ → Type 0
IsReached m xs top = (top ≡ m) ⊎ (list_any (λ a. a.priority == top) xs ≡ true)

reached_from : (m : ℕ) (xs : List LiveAllocation) → IsReached m xs (fold (λ m a. max m a.priority) m xs)
unfolding IsReached
reached_from m [] = inl refl
reached_from m (x ∷ xs) = by (fold (λ m a. max m a.priority) (max m x.priority) xs) (reached_from (max m x.priority) xs)
  where
    here : (top : ℕ) → x.priority ≡ top → (x.priority == top || list_any (λ a. a.priority == top) xs) ≡ true
    here top e = ap (λ b. b || list_any (λ a. a.priority == top) xs) (eq-eqb x.priority top e)

    start : (top : ℕ) → top ≡ max m x.priority → (m < x.priority) ⊎ (x.priority ≤ m) → (top ≡ m)
        ⊎ ((x.priority == top || list_any (λ a. a.priority == top) xs) ≡ true)
    start top e (inl less) = inr (here top (omega (arith, e, less)))
    start top e (inr more) = inl (omega (arith, e, more))

    by : (top : ℕ) → (top ≡ max m x.priority) ⊎ (list_any (λ a. a.priority == top) xs ≡ true) → (top ≡ m)
        ⊎ ((x.priority == top || list_any (λ a. a.priority == top) xs) ≡ true)
    by top (inl e) = start top e (cases_lt m x.priority)
    by top (inr e) = inr (or_right (x.priority == top) (list_any (λ a. a.priority == top) xs) e)

pub highest_is_highest : law.HighestIsHighest
unfolding IsReached
highest_is_highest first others =
    let is = highest_from 0 (first ∷ others) in
    (is.1, by (highest_priority (first ∷ others)) (highest_from 0 (first ∷ others)).1.0 (reached_from 0 (first ∷ others)))
  where
    by : (top : ℕ) → first.priority ≤ top → (top ≡ 0) ⊎ (list_any (λ a. a.priority == top) (first ∷ others) ≡ true) →
        list_any (λ a. a.priority == top) (first ∷ others) ≡ true
    by top le (inl e) = ap (λ b. b || list_any (λ a. a.priority == top) others) (eq-eqb first.priority top (omega (arith, e, le)))
    by top le (inr e) = e

-- ---- a node with room

module _ (size : Resources) (a b : Candidate) (f : fits size a ≡ true) (g : fits size b ≡ true) where
  abbrev mine : Resource → ℕ
  mine r = quantity r a.left - quantity r size

  abbrev others : Resource → ℕ
  others r = quantity r b.left - quantity r size

  same : (r : Resource) → quantity r a.left ≡ quantity r b.left → mine r ≡ others r
  same r e = ap (λ n. n - quantity r size) e

  lower : (r : Resource) → quantity r a.left < quantity r b.left → mine r < others r
  lower r h = let one = fits_at size a f r in let other = fits_at size b g r in omega (arith, one, other, h)

  better_with_less : HasLessLeft a b → better size a b ≡ true
  better_with_less (less_cpu h) = first_left (mine Cpu) (others Cpu) (mine Memory) (others Memory) (mine Disk) (others Disk) (name_cmp a.name b.name)
      (lower Cpu h)
  better_with_less (less_memory e h) = second_left (mine Cpu) (others Cpu) (mine Memory) (others Memory) (mine Disk) (others Disk) (name_cmp a.name b.name)
      (same Cpu e) (lower Memory h)
  better_with_less (less_disk e k h) = third_left (mine Cpu) (others Cpu) (mine Memory) (others Memory) (mine Disk) (others Disk) (name_cmp a.name b.name)
      (same Cpu e) (same Memory k) (lower Disk h)
  better_with_less (less_name e n) = last_left (mine Cpu) (others Cpu) (mine Memory) (others Memory) (mine Disk) (others Disk) (name_cmp a.name b.name)
      (same Cpu (e Cpu)) (same Memory (e Memory)) (same Disk (e Disk)) n

pub chosen_is_best : ChosenIsBest
chosen_is_best size nodes k e =
    let is = best_is (fits size) (better size) nodes k e in record {
      node = is.0;
      there = is.1;
      fitting = is.2;
      least = each_map (λ other f fit less. not_both (better_with_less size other is.0 fit is.2 less) (f fit)) nodes is.3;
    }

pub none_chosen_of_none : NoneChosenOfNone
none_chosen_of_none size nodes e = best_of_none (fits size) (better size) (better_order size) nodes e

-- ---- who gives way

pub victims_are_fewest : law.VictimsAreFewest
victims_are_fewest size node gone e = by node.feasible refl e
  where
    by : (b : Bool) → node.feasible ≡ b → cond b (shortest_prefix (makes_room size node) node.evictable) None ≡ Some gone → law.AreVictims size node gone
    by true f e = let is = shortest_is (makes_room size node) node.evictable gone e in
        record { feasible = f; others = is.0; first = is.1; make_room = is.2; fewest = is.3 }
    by false f e = absurd (none-some gone e)

pub fewest_are_victims : law.FewestAreVictims
fewest_are_victims size node gone is =
    ap (λ b. cond b (shortest_prefix (makes_room size node) node.evictable) None) is.feasible
    ∙ is_shortest (makes_room size node) node.evictable gone (is.others, is.first, is.make_room, is.fewest)

pub no_victims_no_room : law.NoVictimsNoRoom
no_victims_no_room size node e f n =
    shortest_none (makes_room size node) node.evictable (sym (ap (λ b. cond b (shortest_prefix (makes_room size node) node.evictable) None) f) ∙ e) n

cheaper_with_less : (size : Resources) (a b : Candidate) (lost gone : List LiveAllocation) → victims size a ≡ Some lost → victims size b ≡ Some gone
    → law.CostsLess lost a gone b → cheaper size a b ≡ true
cheaper_with_less size a b lost gone e f less = (λ i. cost (e i) (f i)) ∙ by less
  where
    cost : Option (List LiveAllocation) → Option (List LiveAllocation) → Bool
    cost o p = ranks (highest_priority (unwrap_or o [])) (highest_priority (unwrap_or p [])) (length (unwrap_or o [])) (length (unwrap_or p []))
        (name_cmp a.name b.name)

    by : law.CostsLess lost a gone b → ranks (highest_priority lost) (highest_priority gone) (length lost) (length gone) (name_cmp a.name b.name) ≡ true
    by (law.lower h) = first_less (highest_priority lost) (highest_priority gone) (length lost) (length gone) (name_cmp a.name b.name) h
    by (law.fewer h k) = second_less (highest_priority lost) (highest_priority gone) (length lost) (length gone) (name_cmp a.name b.name) h k
    by (law.less_name h k n) = third_less (highest_priority lost) (highest_priority gone) (length lost) (length gone) (name_cmp a.name b.name) h k n

some_victims : (o : Option (List LiveAllocation)) → is_some o ≡ true → (gone : List LiveAllocation) × (o ≡ Some gone)
some_victims None e = not_both e refl
some_victims (Some gone) e = (gone, refl)

pub evicted_cost_least : law.EvictedCostLeast
evicted_cost_least size nodes k e =
    let is = best_is (λ c. is_some (victims size c)) (cheaper size) nodes k e in
    let gone = some_victims (victims size is.0) is.2 in record {
      node = is.0;
      there = is.1;
      gone = gone.0;
      give_way = gone.1;
      least = each_map (λ other f lost v less. not_both (cheaper_with_less size other is.0 lost gone.0 v gone.1 less) (f (ap is_some v))) nodes is.3;
    }

pub none_evicted_of_none : law.NoneEvictedOfNone
none_evicted_of_none size nodes e =
    each_map (λ node f. by (victims size node) f) nodes (best_of_none (λ c. is_some (victims size c)) (cheaper size) (cheaper_order size) nodes e)
  where
    by : (o : Option (List LiveAllocation)) → is_some o ≡ false → o ≡ None
    by None e = refl
    by (Some gone) e = not_both refl e

-- ---- room before victims

abbrev chosen_with : Resources → List Candidate → Option ℕ → Option Choice
chosen_with size nodes place = option_and_then (λ k. option_map (λ v. record { node = k; victims = v }) (option_and_then (victims size) (slice_get nodes k)))
    place

victims_at : (size : Resources) (nodes : List Candidate) (k : ℕ) (is : law.IsCheapestNode size nodes k) →
    chosen_with size nodes (Some k) ≡ Some (record { node = k; victims = is.gone })
victims_at size nodes k is = ap (option_map (λ v. record { node = k; victims = v })) (ap (option_and_then (victims size)) is.there ∙ is.give_way)

pub room_before_victims : law.RoomBeforeVictims
room_before_victims size nodes chosen e = by (best_fit size nodes) refl (best_victims size nodes) refl e
  where
    by : (b : Option ℕ) → best_fit size nodes ≡ b → (v : Option ℕ) → best_victims size nodes ≡ v
        → option_map_or (λ k. Some (record { node = k; victims = [] })) b (chosen_with size nodes v) ≡ Some chosen → law.IsChoice size nodes chosen
    by (Some k) f v g e = subst (law.IsChoice size nodes) (same_Some (record { node = k; victims = [] }) chosen e) (law.room k (chosen_is_best size nodes k f))
    by None f (Some k) g e =
        let is = evicted_cost_least size nodes k g in
        subst (law.IsChoice size nodes) (same_Some (record { node = k; victims = is.gone }) chosen (sym (victims_at size nodes k is) ∙ e))
        (law.preempted k is (none_chosen_of_none size nodes f))
    by None f None g e = absurd (none-some chosen e)

pub no_choice_of_none : law.NoChoiceOfNone
no_choice_of_none size nodes e = by (best_fit size nodes) refl (best_victims size nodes) refl e
  where
    by : (b : Option ℕ) → best_fit size nodes ≡ b → (v : Option ℕ) → best_victims size nodes ≡ v
        → option_map_or (λ k. Some (record { node = k; victims = [] })) b (chosen_with size nodes v) ≡ None →
        Each (λ node. IsFalse (fits size node) × (victims size node ≡ None)) nodes
    by (Some k) f v g e = absurd (none-some (record { node = k; victims = [] }) (sym e))
    by None f (Some k) g e =
        let is = evicted_cost_least size nodes k g in absurd (none-some (record { node = k; victims = is.gone }) (sym e ∙ victims_at size nodes k is))
    by None f None g e = each_both (λ node. fits size node ≡ false) (λ node. victims size node ≡ None) nodes (none_chosen_of_none size nodes f)
        (none_evicted_of_none size nodes g)
