-- What a node's victims leave, one eviction after another.
use Rattle.std.specs.Prelude.{◌≡◌, ◌-◌, ℕ, ◌+◌, ◌++◌, Bool, true, false, cond, List, [], ◌∷◌, Option, Some, None, ◌&&◌, ◌||◌, filter, sum_by}
use Rattle.std.proofs.Common.{◌<◌, append_assoc, get_or, length, take, refl, sym, ap, ◌∙◌, arith}
use Rattle.std.proofs.lemmas.Grind.{flat_map-append}
use Rattle.std.proofs.lemmas.List.{append-nil, map-append}
use Rattle.std.proofs.lemmas.List.Folds.{list_any-append}
use Rattle.std.proofs.lemmas.List.Sums.{sum_by-cons}
use Rattle.std.proofs.Math.Bool.{and-false, and-true}
use Rattle.std.specs.List.{list_any}
use Rattle.std.specs.Option.{option_map_or}
use Rattle.ns_types.specs.declared.allocation.Allocation.{Allocation}
use Rattle.ns_types.specs.declared.plan.Eviction.{Eviction}
use Rattle.ns_types.specs.declared.plan.Placement.{Placement}
use Rattle.ns_types.specs.declared.resources.Resources.{Resources}
use Rattle.ns_types.specs.declared.snapshot.Snapshot.{Snapshot}
use Rattle.ns_types.specs.State.Names.{Key, Name, has_key, same_key, same_name, same_number}
use Rattle.ns_types.specs.State.Resources.{minus, none, quantity}
use Rattle.ns_types.specs.State.Rows.{World, allocation_at, is_live, is_live_on}
use Rattle.ns_types.specs.State.Sums.{node_load, node_sum}
use Rattle.ns_types.specs.Working.Commit.{counts, node_name, part_of, victim_key, victims_of}
use Rattle.ns_types.proofs.Elements.{any_flat, any_map, any_same}
use Rattle.ns_types.proofs.Lists.{filter-append, not_both}
use Rattle.ns_types.proofs.Named.{first_of_both, one_number, same_key_refl, second_of_both}
use Rattle.ns_types.proofs.Once.{key_is, once, once_has}
use Rattle.ns_types.proofs.Tables.{tied}
use Rattle.ns_types.proofs.Taken.{node_part}
use Rattle.ns_types.proofs.Tests.{not_Some, same_Some}
use Rattle.ns_plan.specs.After.{counted, keys_of, part_of_quota, part_on, shares}
use Rattle.ns_plan.specs.Reader.{AreElsewhere, counted_keys, evictions_of, is_on, left_by, left_without, load_left, quota_left, same_eviction, with_gone}
use Rattle.ns_plan.specs.declared.leaving.Left.{Left}
use Rattle.ns_plan.proofs.Afterwards.{load_next, on_node, quota_next}
use Rattle.ns_plan.proofs.Holding.{filter_next, take_next}
use Rattle.ns_types.proofs.Amounts.{minus_none, quantity_none, same_of_each}

-- ---- what stands earlier

any_filtered : {A : Type 0} (p f : A → Bool) (xs : List A) → list_any f (filter p xs) ≡ list_any (λ x. p x && f x) xs
any_filtered p f [] = refl
any_filtered p f (x ∷ xs) = by (p x) (any_filtered p f xs)
  where
    by : (b : Bool) → list_any f (filter p xs) ≡ list_any (λ x. p x && f x) xs →
        list_any f (cond b (x ∷ filter p xs) (filter p xs)) ≡ ((b && f x) || list_any (λ x. p x && f x) xs)
    by true rest = ap (λ b. f x || b) rest
    by false rest = rest

pub in_part : (before : List Placement) (node : ℕ) (earlier : List Eviction) (e : Eviction) →
    list_any (same_eviction e) (evictions_of (part_of node before) ++ earlier)
    ≡ (list_any (λ p. same_number p.node node && list_any (same_eviction e) p.evictions) before || list_any (same_eviction e) earlier)
in_part before node earlier e = list_any-append (same_eviction e) (evictions_of (part_of node before)) earlier
    ∙ ap (λ b. b || list_any (same_eviction e) earlier) (any_flat (same_eviction e) (λ p. p.evictions) (part_of node before)
    ∙ any_filtered (λ p. same_number p.node node) (λ p. list_any (same_eviction e) p.evictions) before)

-- ---- evictions that count

-- the row that an eviction which counts has
pub record IsCounted (w : World) (pool node : Name) (e : Eviction) (a : Allocation) : Type 0 where
  pub counts_is : counts w pool node e ≡ true
  pub row_is : allocation_at w (victim_key e) ≡ Some a
  pub on_is : is_live_on pool node a ≡ true
  pub same_is : a.priority ≡ e.priority

module _ (w : World) (pool node : Name) (e : Eviction) where
  pub counted_row : (a : Allocation) → counted w pool node e ≡ Some a → IsCounted w pool node e a
  unfolding counts
  counted_row a = by (allocation_at w (victim_key e)) refl
    where
      row : (x : Allocation) → allocation_at w (victim_key e) ≡ Some x → (b : Bool) → (is_live_on pool node x && same_number x.priority e.priority) ≡ b →
          cond b (Some x) None ≡ Some a → IsCounted w pool node e a
      row x is true t f = record {
        counts_is = ap (λ o. option_map_or (λ a. is_live_on pool node a && same_number a.priority e.priority) o false) is ∙ t;
        row_is = is ∙ f;
        on_is = ap (is_live_on pool node) (sym (same_Some x a f)) ∙ first_of_both (is_live_on pool node x) _ t;
        same_is =
            ap (λ (a : Allocation). a.priority) (sym (same_Some x a f))
            ∙ tied one_number x.priority e.priority (second_of_both (is_live_on pool node x) _ t);
      }
      row x is false t f = absurd (not_Some a f)

      by : (r : Option Allocation) → allocation_at w (victim_key e) ≡ r →
          cond (option_map_or (λ a. is_live_on pool node a && same_number a.priority e.priority) r false) r None ≡ Some a → IsCounted w pool node e a
      by None is f = absurd (not_Some a f)
      by (Some x) is f = row x is (is_live_on pool node x && same_number x.priority e.priority) refl f

  pub counted_none : counted w pool node e ≡ None → counts w pool node e ≡ false
  unfolding counts
  counted_none = by (allocation_at w (victim_key e))
    where
      row : (x : Allocation) (b : Bool) → cond b (Some x) None ≡ None → b ≡ false
      row x true f = absurd (not_Some x (sym f))
      row x false f = refl

      by : (r : Option Allocation) → cond (option_map_or (λ a. is_live_on pool node a && same_number a.priority e.priority) r false) r None ≡ None →
          option_map_or (λ a. is_live_on pool node a && same_number a.priority e.priority) r false ≡ false
      by None f = refl
      by (Some x) f = row x (is_live_on pool node x && same_number x.priority e.priority) f

  -- another of the same allocation counts with the same priority
  counts_alike : (a : Allocation) → IsCounted w pool node e a → (other : Eviction) → same_key (victim_key e) (victim_key other) ≡ true →
      counts w pool node other ≡ same_number e.priority other.priority
  unfolding counts
  counts_alike a is other same =
      ap (λ o. option_map_or (λ a. is_live_on pool node a && same_number a.priority other.priority) o false)
      (ap (allocation_at w) (sym (key_is (victim_key e) (victim_key other) same)) ∙ is.row_is)
      ∙ (λ i. is.on_is i && same_number (is.same_is i) other.priority)

  -- it went already where it stands earlier
  went : (a : Allocation) → IsCounted w pool node e a → (seen : List Eviction) →
      has_key (counted_keys w pool node seen) (victim_key e) ≡ list_any (same_eviction e) seen
  went a is seen = any_map (same_key (victim_key e)) victim_key (filter (counts w pool node) seen)
      ∙ any_filtered (counts w pool node) (λ x. same_key (victim_key e) (victim_key x)) seen
      ∙ any_same (λ x. counts w pool node x && same_key (victim_key e) (victim_key x)) (same_eviction e)
      (λ x. by x (same_key (victim_key e) (victim_key x)) refl) seen
    where
      by : (x : Eviction) (b : Bool) → same_key (victim_key e) (victim_key x) ≡ b →
          (counts w pool node x && same_key (victim_key e) (victim_key x)) ≡ (same_key (victim_key e) (victim_key x) && same_number e.priority x.priority)
      by x true same = ap (λ b. counts w pool node x && b) same ∙ and-true (counts w pool node x) ∙ counts_alike a is x same
          ∙ ap (λ b. b && same_number e.priority x.priority) (sym same)
      by x false same = ap (λ b. counts w pool node x && b) same ∙ and-false (counts w pool node x)
          ∙ ap (λ b. b && same_number e.priority x.priority) (sym same)

-- ---- one eviction more

module _ (w : World) (pool node : Name) (quota : Option Name) (keys : List Key) (seen : List Eviction) (e : Eviction) where
  abbrev keys_so_far : List Key
  keys_so_far = keys ++ counted_keys w pool node seen

  pushed : (b : Bool) → counts w pool node e ≡ b → keys ++ counted_keys w pool node (seen ++ e ∷ []) ≡ keys_so_far ++ cond b (victim_key e ∷ []) []
  pushed b is = ap (λ l. keys ++ l) (ap keys_of (filter-append (counts w pool node) seen (e ∷ []))
      ∙ map-append victim_key (filter (counts w pool node) seen) (cond (counts w pool node e) (e ∷ []) [])
      ∙ ap (λ l. counted_keys w pool node seen ++ l) (ap (λ b. keys_of (cond b (e ∷ []) [])) is ∙ key b))
      ∙ sym (append_assoc keys (counted_keys w pool node seen) (cond b (victim_key e ∷ []) []))
    where
      key : (b : Bool) → keys_of (cond b (e ∷ []) []) ≡ cond b (victim_key e ∷ []) []
      key true = refl
      key false = refl

  -- one that does not count takes nothing
  pub idle_leaves : counts w pool node e ≡ false → left_by w pool node quota keys (seen ++ e ∷ []) ≡ left_by w pool node quota keys seen
  idle_leaves is = ap (left_without w pool node quota) (pushed false is ∙ append-nil keys_so_far)

  abbrev left_next : Bool → Left
  left_next b = record {
    load = cond b (load_left w pool node (once keys_so_far))
        (minus (load_left w pool node (once keys_so_far)) (part_on pool node (allocation_at w (victim_key e))));
    used = cond b (quota_left w quota (once keys_so_far))
        (minus (quota_left w quota (once keys_so_far)) (part_of_quota (shares w quota e.namespace) (allocation_at w (victim_key e))));
  }

  module _ (a : Allocation) (is : IsCounted w pool node e a) (elsewhere : AreElsewhere w pool node keys) where
    next : (b : Bool) → list_any (same_eviction e) seen ≡ b → left_by w pool node quota keys (seen ++ e ∷ []) ≡ left_next b
    next b stands = ap (left_without w pool node quota) (pushed true is.counts_is)
        ∙ (λ i. record { load = load_next w pool node keys_so_far (victim_key e) i; used = quota_next w quota keys_so_far (victim_key e) i })
        ∙ ap left_next (list_any-append (same_key (victim_key e)) keys (counted_keys w pool node seen)
        ∙ (λ i. elsewhere (victim_key e) (ap (λ o. option_map_or (is_live_on pool node) o false) is.row_is ∙ is.on_is) i || went w pool node e a is seen i)
        ∙ stands)

    -- nor does one that stands earlier
    pub again_leaves : list_any (same_eviction e) seen ≡ true → left_by w pool node quota keys (seen ++ e ∷ []) ≡ left_by w pool node quota keys seen
    again_leaves = next true

    pub victim_leaves : list_any (same_eviction e) seen ≡ false →
        left_by w pool node quota keys (seen ++ e ∷ []) ≡ with_gone (left_by w pool node quota keys seen) a.size (shares w quota e.namespace)
    victim_leaves stands = next false stands ∙ (λ i. record {
      load = minus (load_left w pool node (once keys_so_far)) (on_part i);
      used = (ap (λ o. minus left (part_of_quota (shares w quota e.namespace) o)) is.row_is ∙ share (shares w quota e.namespace)) i;
    })
      where
        left : Resources
        left = quota_left w quota (once keys_so_far)

        on_part : part_on pool node (allocation_at w (victim_key e)) ≡ a.size
        on_part = ap (part_on pool node) is.row_is ∙ ap (λ b. cond b a.size none) is.on_is

        live : is_live a ≡ true
        live = first_of_both (is_live a) (same_name pool a.pool && same_name node a.node) is.on_is

        share : (b : Bool) → minus left (cond (b && is_live a) a.size none) ≡ cond b (minus left a.size) left
        share true = ap (λ l. minus left (cond l a.size none)) live
        share false = minus_none left

-- ---- the loops' steps

module _ (w : World) (pool node : Name) (quota : Option Name) (keys : List Key) (elsewhere : AreElsewhere w pool node keys)
    (seen evictions : List Eviction) (i : ℕ)
    (e : Eviction) (inside : i < length evictions) (is : e ≡ get_or evictions i e) (left : Left)
    (so_far : left ≡ left_by w pool node quota keys (seen ++ take i evictions)) (found : Option Allocation)
    (found_is : found ≡ cond (list_any (same_eviction e) (seen ++ take i evictions)) None (counted w pool node e)) where
  one_more : seen ++ take (i + 1) evictions ≡ (seen ++ take i evictions) ++ e ∷ []
  one_more = ap (λ l. seen ++ l) (take_next evictions i e inside is) ∙ sym (append_assoc seen (take i evictions) (e ∷ []))

  pub with_victim : (a : Allocation) → found ≡ Some a →
      with_gone left a.size (shares w quota e.namespace) ≡ left_by w pool node quota keys (seen ++ take (i + 1) evictions)
  with_victim a f = by (list_any (same_eviction e) (seen ++ take i evictions)) refl (sym found_is ∙ f)
      ∙ ap (left_by w pool node quota keys) (sym one_more)
    where
      by : (b : Bool) → list_any (same_eviction e) (seen ++ take i evictions) ≡ b → cond b None (counted w pool node e) ≡ Some a →
          with_gone left a.size (shares w quota e.namespace) ≡ left_by w pool node quota keys ((seen ++ take i evictions) ++ e ∷ [])
      by true stands n = absurd (not_Some a n)
      by false stands f = ap (λ l. with_gone l a.size (shares w quota e.namespace)) so_far
          ∙ sym (victim_leaves w pool node quota keys (seen ++ take i evictions) e a (counted_row w pool node e a f) elsewhere stands)

  pub without_victim : found ≡ None → left ≡ left_by w pool node quota keys (seen ++ take (i + 1) evictions)
  without_victim f = so_far ∙ sym (by (counted w pool node e) refl (list_any (same_eviction e) (seen ++ take i evictions)) refl (sym found_is ∙ f))
      ∙ ap (left_by w pool node quota keys) (sym one_more)
    where
      by : (r : Option Allocation) → counted w pool node e ≡ r → (b : Bool) → list_any (same_eviction e) (seen ++ take i evictions) ≡ b →
          cond b None (counted w pool node e) ≡ None →
          left_by w pool node quota keys ((seen ++ take i evictions) ++ e ∷ []) ≡ left_by w pool node quota keys (seen ++ take i evictions)
      by None n b stands f = idle_leaves w pool node quota keys (seen ++ take i evictions) e (counted_none w pool node e n)
      by (Some a) c true stands f = again_leaves w pool node quota keys (seen ++ take i evictions) e a (counted_row w pool node e a c) elsewhere stands
      by (Some a) c false stands f = absurd (not_Some a (sym f ∙ c))

-- one placement more, which is on the node or not
pub part_next : (node : ℕ) (ps : List Placement) (i : ℕ) (p : Placement) → i < length ps → p ≡ get_or ps i p → (b : Bool) → same_number p.node node ≡ b →
    evictions_of (part_of node (take (i + 1) ps)) ≡ evictions_of (part_of node (take i ps)) ++ cond b p.evictions []
part_next node ps i p inside is b on = ap evictions_of (filter_next ps i p inside is (λ p. same_number p.node node))
    ∙ flat_map-append (λ (p : Placement). p.evictions) (part_of node (take i ps)) (cond (same_number p.node node) (p ∷ []) [])
    ∙ ap (λ l. evictions_of (part_of node (take i ps)) ++ l) (ap (λ b. evictions_of (cond b (p ∷ []) [])) on ∙ by b)
  where
    by : (b : Bool) → evictions_of (cond b (p ∷ []) []) ≡ cond b p.evictions []
    by true = append-nil p.evictions
    by false = refl

-- ---- before any eviction

module _ (w : World) (pool node : Name) where
  not_on : (amount : Resources → ℕ) → amount none ≡ 0 → (key : Key) → is_on w pool node key ≡ false → node_part w pool node amount key ≡ 0
  not_on amount nothing key e = on_node amount nothing w pool node key ∙ by (allocation_at w key) e
    where
      by : (r : Option Allocation) → option_map_or (is_live_on pool node) r false ≡ false → amount (part_on pool node r) ≡ 0
      by None e = nothing
      by (Some a) e = ap (λ b. amount (cond b a.size none)) e ∙ nothing

  none_on : (amount : Resources → ℕ) → amount none ≡ 0 → (keys : List Key) → AreElsewhere w pool node keys → sum_by (node_part w pool node amount) keys ≡ 0
  none_on amount nothing [] elsewhere = refl
  none_on amount nothing (k ∷ keys) elsewhere =
      let whole = sum_by-cons (node_part w pool node amount) k keys in
      let here = not_on amount nothing k (out (is_on w pool node k) refl) in
      let later = none_on amount nothing keys (λ q on. second q (same_key q k) (elsewhere q on)) in
      omega (arith, whole, here, later)
    where
      second : (q : Key) (b : Bool) → (b || has_key keys q) ≡ false → has_key keys q ≡ false
      second q true e = not_both refl e
      second q false e = e

      out : (b : Bool) → is_on w pool node k ≡ b → is_on w pool node k ≡ false
      out true e = not_both (ap (λ b. b || has_key keys k) (same_key_refl k)) (elsewhere k e)
      out false e = e

  pub nothing_left_out : (quota : Option Name) (keys : List Key) (used : Resources) → AreElsewhere w pool node keys → used ≡ quota_left w quota (once keys) →
      record { load = node_load w pool node; used = used } ≡ left_by w pool node quota keys []
  nothing_left_out quota keys used elsewhere is =
      let apart : AreElsewhere w pool node (once keys) = λ k on. once_has keys k ∙ elsewhere k on in
      (λ i. record {
        load = same_of_each (λ r. node_sum w pool node (quantity r))
            (λ r. node_sum w pool node (quantity r) - sum_by (node_part w pool node (quantity r)) (once keys)) (λ r.
            let none = none_on (quantity r) (quantity_none r) (once keys) apart in
            omega (arith, none)) i;
        used = is i;
      })
      ∙ ap (left_without w pool node quota) (sym (append-nil keys))

-- ---- a node's part

-- the victims of a node's part are its evictions that count there
pub victims_are : (w : World) (kept : Snapshot) (k : ℕ) (ps : List Placement) →
    victims_of w kept (part_of k ps) ≡ filter (counts w kept.pool (node_name kept k)) (evictions_of (part_of k ps))
victims_are w kept k [] = refl
victims_are w kept k (p ∷ ps) = by (same_number p.node k) refl (victims_are w kept k ps)
  where
    by : (b : Bool) → same_number p.node k ≡ b →
        victims_of w kept (part_of k ps) ≡ filter (counts w kept.pool (node_name kept k)) (evictions_of (part_of k ps)) →
        victims_of w kept (cond b (p ∷ part_of k ps) (part_of k ps))
        ≡ filter (counts w kept.pool (node_name kept k)) (evictions_of (cond b (p ∷ part_of k ps) (part_of k ps)))
    by true e rest = (λ i. filter (counts w kept.pool (node_name kept (tied one_number p.node k e i))) p.evictions ++ rest i)
        ∙ sym (filter-append (counts w kept.pool (node_name kept k)) p.evictions (evictions_of (part_of k ps)))
    by false e rest = rest
