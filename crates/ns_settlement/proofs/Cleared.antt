-- Vacant slots that are taken out one by one.
use Rattle.std.specs.Prelude.{◌≡◌, Bool, true, false, cond, List, [], ◌∷◌, Option, Some, None, is_some, IsTrue}
use Rattle.std.proofs.Common.{refl, sym, ap, ◌∙◌, subst, Ordering}
use Rattle.std.specs.Ordering.{eq_by_cmp, is_eq}
use Rattle.std.specs.Cmp.{IsTotalOrder, tied_itself}
use Rattle.std.specs.FinMap.{FinMap, IsAntisymmetric, entries, get, get-entries, get-remove, remove}
use Rattle.std.specs.FinMap.Entries.{find}
use Rattle.keyed.specs.Table.{flat, has_slot, row_at, rows, without_vacant}
use Rattle.keyed.proofs.Tables.{rows-without_vacant}
use Rattle.ns_types.proofs.Lists.{not_both}
use Rattle.ns_types.proofs.Tables.{tied}
use Rattle.ns_settlement.specs.Committed.{IsCleared}

module _ {K X : Type 0} {R : K → K → Ordering} (o : IsTotalOrder R) (same : IsAntisymmetric R) where
  -- the rows are as they were, and no changed row that es does not name has a vacant slot
  pub record Clearing (m before : FinMap R (Option X)) (es : List (K × Option X)) (c : FinMap R (Option X)) : Type 0 where
    pub rows_are : rows m ≡ rows before
    pub cleared : (q : K) → find R q es ≡ None → IsTrue (has_slot c q) → IsTrue (has_slot m q) → IsTrue (is_some (row_at m q))

  pub none_cleared : (m c : FinMap R (Option X)) (es : List (K × Option X)) → es ≡ entries c → Clearing m m es c
  none_cleared m c es is = record {
    rows_are = refl;
    cleared = λ q none has there. not_both has (ap is_some (get-entries c q ∙ ap (find R q) (sym is) ∙ none));
  }

  pub all_cleared : (m before c : FinMap R (Option X)) (es : List (K × Option X)) → es ≡ [] → Clearing m before es c → IsCleared c m
  all_cleared m before c es is h q has there = h.cleared q (ap (find R q) is) has there

  -- the slot of the key has its row, or it is gone
  gone : (m : FinMap R (Option X)) (k : K) → IsTrue (has_slot (without_vacant m k) k) → IsTrue (is_some (row_at (without_vacant m k) k))
  gone m k = by (is_some (row_at m k)) refl
    where
      by : (b : Bool) → is_some (row_at m k) ≡ b → IsTrue (has_slot (cond b m (remove m k)) k) → IsTrue (is_some (row_at (cond b m (remove m k)) k))
      by true e has = e
      by false e has = not_both has
          (ap is_some (get-remove o m k k ∙ ap (λ b. cond b None (get m k)) (ap is_eq (tied_itself o k))))

  other : (m : FinMap R (Option X)) (k q : K) → eq_by_cmp R q k ≡ false → get (without_vacant m k) q ≡ get m q
  other m k q f = by (is_some (row_at m k))
    where
      by : (b : Bool) → get (cond b m (remove m k)) q ≡ get m q
      by true = refl
      by false = get-remove o m k q ∙ ap (λ b. cond b None (get m q)) f

  pub one_cleared : (old new before c : FinMap R (Option X)) (e : K × Option X) (es rest : List (K × Option X)) → es ≡ e ∷ rest →
      new ≡ without_vacant old e.0 → Clearing old before es c → Clearing new before rest c
  one_cleared old new before c e es rest is took h = record {
    rows_are = ap rows took ∙ rows-without_vacant o same old e.0 ∙ h.rows_are;
    cleared = λ q. by q (eq_by_cmp R q e.0) refl;
  }
    where
      by : (q : K) (b : Bool) → eq_by_cmp R q e.0 ≡ b → find R q rest ≡ None → IsTrue (has_slot c q) → IsTrue (has_slot new q) → IsTrue (is_some (row_at new q))
      by q true t none has there = subst (λ m. IsTrue (is_some (row_at m q))) (sym took)
          (subst (λ k. IsTrue (is_some (row_at (without_vacant old e.0) k))) (sym (tied same q e.0 t))
          (gone old e.0 (subst (λ k. IsTrue (has_slot (without_vacant old e.0) k)) (tied same q e.0 t) (subst (λ m. IsTrue (has_slot m q)) took there))))
      by q false f none has there =
          let stays : get new q ≡ get old q = ap (λ m. get m q) took ∙ other old e.0 q f in
          subst (λ r. IsTrue (is_some (flat r))) (sym stays)
          (h.cleared q (ap (find R q) is ∙ ap (λ b. cond b (Some e.1) (find R q rest)) f ∙ none) has (subst (λ r. IsTrue (is_some r)) stays there))
