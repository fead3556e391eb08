-- A table that is copied slot by slot.
use Rattle.std.specs.Prelude.{◌≡◌, Bool, true, false, cond, ◌&&◌, T, List, [], ◌∷◌, ◌++◌, Option, Some, None, filter, is_some, map, option_map}
use Rattle.std.proofs.Common.{refl, sym, ap, subst, ◌∙◌, append_assoc}
use Rattle.std.proofs.lemmas.List.{append-nil, map-append}
use Rattle.std.specs.declared.cmp.Ordering.{Ordering}
use Rattle.std.specs.Ordering.{is_lt}
use Rattle.std.specs.Cmp.{IsTotalOrder}
use Rattle.std.specs.FinMap.{FinMap, IsAntisymmetric, entries, entries_sorted, entries-from_sorted, from_sorted, retain_keys, same_entries_map}
use Rattle.std.specs.FinMap.Entries.{below_all, is_sorted}
use Rattle.keyed.specs.Table.{flat, row_list, rows}
use Rattle.keyed.proofs.Ordered.{is_sorted-filter}
use Rattle.keyed.proofs.Tables.{entries-rows}
use Rattle.ns_types.specs.State.Lists.{Each}
use Rattle.ns_types.proofs.Elements.{filter_map}
use Rattle.ns_types.proofs.Tables.{each_row, entries-retain, entries-table_of}
use Rattle.ns_copies.specs.Copied.{EachRow, seen_rows}

module _ {K V A : Type 0} (seen : V → A) where
  -- what is seen of a slot, and of an entry
  abbrev pub shown : K × Option V → K × Option A
  shown e = (e.0, option_map seen e.1)

  abbrev pub shown_row : K × V → K × A
  shown_row e = (e.0, seen e.1)

  -- the slots that have a row under a chosen key
  abbrev pub keeps : (K → Bool) → K × Option V → Bool
  keeps p e = is_some e.1 && p e.0

  rows_shown : (es : List (K × Option V)) → row_list (map shown es) ≡ map shown_row (row_list es)
  rows_shown [] = refl
  rows_shown ((k, None) ∷ es) = rows_shown es
  rows_shown ((k, Some v) ∷ es) = ap (λ fs. (k, seen v) ∷ fs) (rows_shown es)

  rows_kept : (p : K → Bool) (es : List (K × Option V)) → row_list (filter (keeps p) es) ≡ filter (λ e. p e.0) (row_list es)
  rows_kept p [] = refl
  rows_kept p ((k, None) ∷ es) = rows_kept p es
  rows_kept p ((k, Some v) ∷ es) = by (rows_kept p es) (p k)
    where
      by : row_list (filter (keeps p) es) ≡ filter (λ e. p e.0) (row_list es) → (b : Bool)
          → row_list (cond b ((k, Some v) ∷ filter (keeps p) es) (filter (keeps p) es))
          ≡ cond b ((k, v) ∷ filter (λ e. p e.0) (row_list es)) (filter (λ e. p e.0) (row_list es))
      by rest true = ap (λ fs. (k, v) ∷ fs) rest
      by rest false = rest

  module _ (R : K → K → Ordering) where
    below_shown : (k : K) (es : List (K × Option V)) → below_all R k (map shown es) ≡ below_all R k es
    below_shown k [] = refl
    below_shown k (e ∷ es) = ap (λ b. is_lt (R k e.0) && b) (below_shown k es)

    sorted_shown : (es : List (K × Option V)) → is_sorted R (map shown es) ≡ is_sorted R es
    sorted_shown [] = refl
    sorted_shown (e ∷ es) = λ i. below_shown e.0 es i && sorted_shown es i

-- what is known while slots are copied: of those that are left each row can be copied
module _ {K V A : Type 0} (seen : V → A) (whole : V → Type 0) (p : K → Bool) where
  abbrev pub IsWholeSlot : K × Option V → Type 0
  IsWholeSlot e = (v : V) → e.1 ≡ Some v → whole v

  pub record IsCopying (ys rest xs : List (K × Option V)) : Type 0 where
    pub copied : map (shown seen) ys ++ map (shown seen) (filter (keeps seen p) rest) ≡ map (shown seen) (filter (keeps seen p) xs)
    pub left : Each IsWholeSlot rest

  module _ (ys zs rest xs left : List (K × Option V)) (x : K × Option V) (is : rest ≡ x ∷ left) (h : IsCopying ys rest xs) where
    pub next_whole : (v : V) → x.1 ≡ Some v → whole v
    next_whole v at = (subst (Each IsWholeSlot) is h.left).0 v at

    passed : keeps seen p x ≡ false → zs ≡ ys → IsCopying zs left xs
    passed e same = record {
      copied = ap (λ l. map (shown seen) l ++ map (shown seen) (filter (keeps seen p) left)) same
          ∙ ap (λ b. map (shown seen) ys ++ map (shown seen) (cond b (x ∷ filter (keeps seen p) left) (filter (keeps seen p) left))) (sym e)
          ∙ ap (λ l. map (shown seen) ys ++ map (shown seen) (filter (keeps seen p) l)) (sym is) ∙ h.copied;
      left = (subst (Each IsWholeSlot) is h.left).1;
    }

    pub vacant : x.1 ≡ None → zs ≡ ys → IsCopying zs left xs
    vacant none = passed (ap (λ r. is_some r && p x.0) none)

    pub unchosen : (v : V) → x.1 ≡ Some v → p x.0 ≡ false → zs ≡ ys → IsCopying zs left xs
    unchosen v at e = passed (ap (λ r. is_some r && p x.0) at ∙ e)

    pub chosen : (v copy : V) (k : K) → x.1 ≡ Some v → p x.0 ≡ true → k ≡ x.0 → seen copy ≡ seen v → zs ≡ ys ++ (k, Some copy) ∷ [] →
        IsCopying zs left xs
    chosen v copy k at e key same put = record {
      copied = ap (λ l. map (shown seen) l ++ more) put ∙ ap (λ l. l ++ more) (map-append (shown seen) ys ((k, Some copy) ∷ []))
          ∙ append_assoc (map (shown seen) ys) ((k, Some (seen copy)) ∷ []) more
          ∙ ap (λ s. map (shown seen) ys ++ s ∷ more) here
          ∙ ap (λ b. map (shown seen) ys ++ map (shown seen) (cond b (x ∷ filter (keeps seen p) left) (filter (keeps seen p) left)))
          (sym (ap (λ r. is_some r && p x.0) at ∙ e))
          ∙ ap (λ l. map (shown seen) ys ++ map (shown seen) (filter (keeps seen p) l)) (sym is) ∙ h.copied;
      left = (subst (Each IsWholeSlot) is h.left).1;
    }
      where
        more : List (K × Option A)
        more = map (shown seen) (filter (keeps seen p) left)

        here : (k, Some (seen copy)) ≡ shown seen x
        here = (λ i. (key i, Some (same i))) ∙ ap (λ r. (x.0, option_map seen r)) (sym at)

  module _ {R : K → K → Ordering} (o : IsTotalOrder R) (same : IsAntisymmetric R) (m : FinMap R (Option V)) where
    pub begun : (ys xs : List (K × Option V)) → ys ≡ [] → xs ≡ entries m → EachRow whole m → IsCopying ys xs xs
    begun ys xs none is each = record {
      copied = ap (λ l. map (shown seen) l ++ map (shown seen) (filter (keeps seen p) xs)) none;
      left = subst (Each IsWholeSlot) (sym is) (each_row o same (λ k r. (v : V) → r ≡ Some v → whole v) m
          (λ k r at v some. each k v (ap flat at ∙ some)));
    }

    module _ (ys rest xs : List (K × Option V)) (is : xs ≡ entries m) (none : rest ≡ []) (h : IsCopying ys rest xs) where
      all_copied : map (shown seen) ys ≡ map (shown seen) (filter (keeps seen p) (entries m))
      all_copied = sym (append-nil (map (shown seen) ys)) ∙ ap (λ l. map (shown seen) ys ++ map (shown seen) (filter (keeps seen p) l)) (sym none)
          ∙ h.copied ∙ ap (λ l. map (shown seen) (filter (keeps seen p) l)) is

      pub copies_rise : T (is_sorted R ys)
      copies_rise = subst T (sym (sorted_shown seen R (filter (keeps seen p) (entries m))) ∙ sym (ap (is_sorted R) all_copied) ∙ sorted_shown seen R ys)
          (is_sorted-filter R (keeps seen p) (entries m) (entries_sorted m))

      copied_rows : map (shown_row seen) (row_list ys) ≡ filter (λ e. p e.0) (map (shown_row seen) (row_list (entries m)))
      copied_rows = sym (rows_shown seen ys) ∙ ap row_list all_copied ∙ rows_shown seen (filter (keeps seen p) (entries m))
          ∙ ap (map (shown_row seen)) (rows_kept seen p (entries m)) ∙ sym (filter_map (λ e. p e.0) (shown_row seen) (row_list (entries m)))

      seen_entries : (n : FinMap R (Option V)) → entries (seen_rows seen n) ≡ map (shown_row seen) (row_list (entries n))
      seen_entries n = entries-table_of (λ _ row. seen row) (rows n) ∙ ap (map (shown_row seen)) (entries-rows n)

      pub table_copied : (made : FinMap R (Option V)) → made ≡ from_sorted ys → seen_rows seen made ≡ retain_keys (seen_rows seen m) p
      table_copied made made_of = same_entries_map _ _ (seen_entries made
          ∙ ap (λ n. map (shown_row seen) (row_list n)) (ap entries made_of ∙ entries-from_sorted R ys copies_rise) ∙ copied_rows
          ∙ ap (filter (λ e. p e.0)) (sym (seen_entries m)) ∙ sym (entries-retain o same (seen_rows seen m) p))
