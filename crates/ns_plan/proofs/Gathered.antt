-- What a plan does on each node, one placement more.
use Rattle.std.specs.Prelude.{◌≡◌, ℕ, ◌+◌, ◌-◌, ◌<◌, ◌≤◌, ◌==◌, ◌≢◌, ◌++◌, Bool, true, false, cond, List, [], ◌∷◌, drop, length, slice_range, sum_by, take}
use Rattle.std.proofs.Common.{arith, get_or, set, refl, sym, ap, subst, ◌∙◌}
use Rattle.std.proofs.lemmas.Bool.{eqb-true}
use Rattle.std.proofs.lemmas.Grind.{flat_map-append}
use Rattle.std.proofs.lemmas.List.{append-nil, drop-append-le, drop-drop, drop_all, get_or-set_other, get_or-set_same}
use Rattle.std.proofs.lemmas.List.{length-append, take-append-drop, take-append-le, take_all}
use Rattle.std.proofs.lemmas.List.Sums.{sum_by-append, sum_by-cons}
use Rattle.ns_types.specs.declared.plan.Eviction.{Eviction}
use Rattle.ns_types.specs.declared.plan.Placement.{Placement}
use Rattle.ns_types.specs.State.Names.{same_number}
use Rattle.ns_types.specs.State.Resources.{each_resource, plus, quantity}
use Rattle.ns_types.specs.Working.Commit.{part_of, size_of}
use Rattle.ns_types.proofs.Lists.{filter-append, not_both}
use Rattle.ns_types.proofs.Named.{one_number, same_number_refl}
use Rattle.ns_types.proofs.Tables.{tied}
use Rattle.ns_types.specs.State.Resources.{added, amount_of}
use Rattle.ns_plan.specs.Gathered.{AreParts, IsPart}
use Rattle.ns_plan.specs.Reader.{evictions_of}
use Rattle.ns_types.specs.declared.resources.Amount.{Amount}
use Rattle.ns_plan.specs.declared.gathering.NodePart.{NodePart}
use Rattle.ns_types.proofs.Amounts.{amount_added}
use Rattle.ns_plan.proofs.Holding.{take_next}

abbrev evicted : ℕ → List Placement → List Eviction
evicted k placements = evictions_of (part_of k placements)

joined : (k : ℕ) (xs ys : List Placement) → evicted k (xs ++ ys) ≡ evicted k xs ++ evicted k ys
joined k xs ys = ap evictions_of (filter-append (λ p. same_number p.node k) xs ys)
    ∙ flat_map-append (λ (p : Placement). p.evictions) (part_of k xs) (part_of k ys)

-- ---- between the first that evicts and the last

pub between : (k : ℕ) (ps : List Placement) (part : NodePart) → IsPart k ps part → evicted k (slice_range ps part.start part.end) ≡ evicted k ps
between k ps part is = sym (ap (evicted k) (sym (take-append-drop part.start ps)) ∙ joined k (take part.start ps) (drop part.start ps)
    ∙ ap (λ l. l ++ evicted k (drop part.start ps)) is.none_before
    ∙ ap (evicted k) (sym (take-append-drop (part.end - part.start) (drop part.start ps)))
    ∙ joined k (slice_range ps part.start part.end) (drop (part.end - part.start) (drop part.start ps))
    ∙ ap (λ l. evicted k (slice_range ps part.start part.end) ++ l) (ap (evicted k) (drop-drop (part.end - part.start) part.start ps
    ∙ ap (λ n. drop n ps) back) ∙ is.none_behind) ∙ append-nil (evicted k (slice_range ps part.start part.end)))
  where
    back : part.start + (part.end - part.start) ≡ part.end
    back = let order = is.order in omega (arith, order)

-- ---- one placement more

pub nothing_in : (es : List Eviction) → (length es == 0) ≡ true → es ≡ []
nothing_in [] e = refl
nothing_in (x ∷ es) e = let none = eqb-true (length (x ∷ es)) 0 e in absurd (omega (arith, none))

module _ (before : List Placement) (p : Placement) where
  abbrev more : List Placement
  more = before ++ p ∷ []

  longer : length more ≡ length before + 1
  longer = length-append before (p ∷ [])

  size_more : size_of (part_of p.node more) ≡ plus (size_of (part_of p.node before)) p.size
  size_more = ap size_of (filter-append (λ q. same_number q.node p.node) before (p ∷ [])
      ∙ ap (λ b. part_of p.node before ++ cond b (p ∷ []) []) (same_number_refl p.node))
      ∙ (λ i. each_resource (λ r. last (λ q. quantity r q.size) i))
    where
      last : (f : Placement → ℕ) → sum_by f (part_of p.node before ++ p ∷ []) ≡ sum_by f (part_of p.node before) + f p
      last f =
          let sum = sum_by-append f (part_of p.node before) (p ∷ []) in
          let one = sum_by-cons f p [] in
          let none : sum_by f [] ≡ 0 = refl in
          omega (arith, sum, one, none)

  module _ (k : ℕ) where
    before_still : (n : ℕ) → n ≤ length before → evicted k (take n before) ≡ [] → evicted k (take n more) ≡ []
    before_still n inside none = ap (evicted k) (take-append-le n before (p ∷ []) inside) ∙ none

    behind_still : (n : ℕ) → n ≤ length before → evicted k (p ∷ []) ≡ [] → evicted k (drop n before) ≡ [] → evicted k (drop n more) ≡ []
    behind_still n inside here none = ap (evicted k) (drop-append-le n before (p ∷ []) inside) ∙ joined k (drop n before) (p ∷ []) ∙ (λ i. none i ++ here i)

  -- of another node
  elsewhere : (k : ℕ) → same_number p.node k ≡ false → (part : NodePart) → IsPart k before part → IsPart k more part
  elsewhere k off part is = record {
    size_is = is.size_is ∙ ap (λ l. amount_of (size_of l)) (sym (filter-append (λ q. same_number q.node k) before (p ∷ [])
        ∙ ap (λ b. part_of k before ++ cond b (p ∷ []) []) off ∙ append-nil (part_of k before)));
    order = is.order;
    inside = let inside = is.inside in let l = longer in omega (arith, inside, l);
    none_before = before_still k part.start (let order = is.order in let inside = is.inside in omega (arith, order, inside)) is.none_before;
    none_behind = behind_still k part.end is.inside (ap (λ b. evictions_of (cond b (p ∷ []) [])) off) is.none_behind;
  }

  -- of its own
  module _ (part : NodePart) (is : IsPart p.node before part) (size : Amount) (sum : size ≡ added part.size (amount_of p.size)) where
    sized : size ≡ amount_of (size_of (part_of p.node more))
    sized = sum ∙ ap (λ s. added s (amount_of p.size)) is.size_is ∙ amount_added (size_of (part_of p.node before)) p.size ∙ ap amount_of (sym size_more)

    start_inside : part.start ≤ length before
    start_inside = let order = is.order in let inside = is.inside in omega (arith, order, inside)

    pub evicts_nothing : p.evictions ≡ [] → IsPart p.node more (record { size = size; start = part.start; end = part.end })
    evicts_nothing nothing = record {
      size_is = sized;
      order = is.order;
      inside = let inside = is.inside in let l = longer in omega (arith, inside, l);
      none_before = before_still p.node part.start start_inside is.none_before;
      none_behind = behind_still p.node part.end is.inside (here (same_number p.node p.node)) is.none_behind;
    }
      where
        here : (b : Bool) → evictions_of (cond b (p ∷ []) []) ≡ []
        here true = ap (λ l. l ++ []) nothing
        here false = refl

    module _ (end : ℕ) (at : end ≡ length before + 1) where
      end_inside : end ≤ length more
      end_inside = let l = longer in omega (arith, at, l)

      none_more : evicted p.node (drop end more) ≡ []
      none_more = ap (evicted p.node) (drop_all end more (let l = longer in omega (arith, at, l)))

      pub evicts_first : part.end ≡ 0 → IsPart p.node more (record { size = size; start = end - 1; end = end })
      evicts_first none = record {
        size_is = sized;
        order = omega arith;
        inside = end_inside;
        none_before =
            ap (λ n. evicted p.node (take n more)) all
            ∙ before_still p.node (length before) (omega arith) (ap (evicted p.node) (take_all (length before) before (omega arith))
            ∙ subst (λ n. evicted p.node (drop n before) ≡ []) none is.none_behind);
        none_behind = none_more;
      }
        where
          all : end - 1 ≡ length before
          all = omega (arith, at)

      pub evicts_again : IsPart p.node more (record { size = size; start = part.start; end = end })
      evicts_again = record {
        size_is = sized;
        order = let inside = start_inside in omega (arith, inside, at);
        inside = end_inside;
        none_before = before_still p.node part.start start_inside is.none_before;
        none_behind = none_more;
      }

pub not_there : (before : List Placement) (p : Placement) (k : ℕ) → p.node ≢ k → (part : NodePart) → IsPart k before part →
    IsPart k (before ++ p ∷ []) part
not_there before p k off = by (same_number p.node k) refl
  where
    by : (b : Bool) → same_number p.node k ≡ b → (part : NodePart) → IsPart k before part → IsPart k (before ++ p ∷ []) part
    by true e part is = absurd (off (tied one_number p.node k e))
    by false e part is = elsewhere before p k e part is

-- ---- the part of each node

module _ (ps : List Placement) (i : ℕ) (p : Placement) (inside : i < length ps) (at : p ≡ get_or ps i p) (parts : List NodePart) (all : length parts ≡ 1000)
    (small : p.node < 1000) (are : AreParts (take i ps) parts) (part : NodePart) (is : IsPart p.node (take i ps ++ p ∷ []) part) where
  pub parts_next : AreParts (take (i + 1) ps) (set parts p.node part)
  parts_next k below d = subst (λ l. IsPart k l (get_or (set parts p.node part) k d)) (sym (take_next ps i p inside at)) (by (same_number p.node k) refl)
    where
      by : (b : Bool) → same_number p.node k ≡ b → IsPart k (take i ps ++ p ∷ []) (get_or (set parts p.node part) k d)
      by true e = subst (λ k. IsPart k (take i ps ++ p ∷ []) (get_or (set parts p.node part) k d)) (tied one_number p.node k e)
          (subst (IsPart p.node (take i ps ++ p ∷ [])) (sym (get_or-set_same parts p.node part d (omega (arith, all, small)))) is)
      by false e = subst (IsPart k (take i ps ++ p ∷ []))
          (sym (get_or-set_other parts p.node k part d (λ same. not_both (ap (same_number p.node) same ∙ same_number_refl p.node) e)))
          (elsewhere (take i ps) p k e (get_or parts k d) (are k below d))
