-- What is known of the keys of slots, as the slots change, and where a key stands by it.
use Rattle.std.specs.Prelude.{◌≡◌, ℕ, zero, suc, ◌+◌, ◌<◌, ◌≤◌, Bool, false, cond, nat_lt, not, T, List, [], ◌∷◌, ◌++◌}
use Rattle.std.specs.Prelude.{length, is_some, Option, Some, None, IfSome, refl}
use Rattle.std.proofs.Common.{ap, sym, ◌∙◌, arith, get_or, set}
use Rattle.std.proofs.lemmas.List.Quantifiers.{position-Some}
use Rattle.std.proofs.lemmas.Map.Entries.{length-keys_of}
use Rattle.std.proofs.Math.ListN.{get_or-map}
use Rattle.std.specs.List.{AllByRecursion, insert, position, position_or_len, remove}
use Rattle.std.specs.Map.{keys_of}
use Rattle.std.specs.Option.{option_map}
use Rattle.std.specs.declared.cmp.Ordering.{Ordering}
use Rattle.std.specs.Ordering.{is_eq}
use Rattle.std.specs.Cmp.{IsTotalOrder}
use Rattle.std.specs.FinMap.Entries.{find, is_sorted}
use Rattle.keyed.specs.Slots.{Found, Inserts, Knows, Lacks}
use Rattle.indexmap.specs.IndexMap.{move_index}
use Rattle.indexmap.proofs.MapLemmas.{Missing-position}
use Rattle.indexmap.proofs.MoveLemmas.{push_moved}
use Rattle.keyed.proofs.Ordered.{kept}
use Rattle.keyed.proofs.Places.{stands}
use Rattle.ns_types.proofs.Tables.{equal_by}

module _ {X : Type 0} where
  pub remove_insert : (xs : List X) (i : ℕ) (x : X) → i ≤ length xs → remove (insert xs i x) i ≡ xs
  remove_insert [] zero x l = refl
  remove_insert [] (suc i) x l = absurd (omega arith)
  remove_insert (y ∷ ys) zero x l = refl
  remove_insert (y ∷ ys) (suc i) x l = ap (λ zs. y ∷ zs) (remove_insert ys i x (omega arith))

module _ {K X : Type 0} where
  -- a write at a key leaves the keys
  pub keys_of-set : (es : List (K × X)) (i : ℕ) (e : K × X) (x : X) → i < length es → e ≡ get_or es i e → keys_of (set es i (e.0, x)) ≡ keys_of es
  keys_of-set [] i e x l is = absurd (omega arith)
  keys_of-set (f ∷ fs) zero e x l is = ap (λ y. y.0 ∷ keys_of fs) is
  keys_of-set (f ∷ fs) (suc i) e x l is = ap (λ ks. f.0 ∷ ks) (keys_of-set fs i e x (omega arith) is)

  keys_of-insert : (es : List (K × X)) (i : ℕ) (e : K × X) → keys_of (insert es i e) ≡ insert (keys_of es) i e.0
  keys_of-insert [] zero e = refl
  keys_of-insert [] (suc i) e = refl
  keys_of-insert (f ∷ fs) zero e = refl
  keys_of-insert (f ∷ fs) (suc i) e = ap (λ ks. f.0 ∷ ks) (keys_of-insert fs i e)

  -- an entry that was put last, and then moved to its place
  pub keys_of-moved : (es : List (K × X)) (i : ℕ) (e : K × X) → i ≤ length es → keys_of (move_index (es ++ e ∷ []) (length es) i) ≡ insert (keys_of es) i e.0
  keys_of-moved es i e l = ap keys_of (push_moved es e i l) ∙ keys_of-insert es i e

  pub keys_of-remove : (es : List (K × X)) (i : ℕ) → keys_of (remove es i) ≡ remove (keys_of es) i
  keys_of-remove [] zero = refl
  keys_of-remove [] (suc i) = refl
  keys_of-remove (e ∷ es) zero = refl
  keys_of-remove (e ∷ es) (suc i) = ap (λ ks. e.0 ∷ ks) (keys_of-remove es i)

  -- the key that was taken out, put back
  pub keys_of-put_back : (es : List (K × X)) (i : ℕ) (e : K × X) → i < length es → e ≡ get_or es i e → insert (keys_of (remove es i)) i e.0 ≡ keys_of es
  keys_of-put_back [] i e l is = absurd (omega arith)
  keys_of-put_back (f ∷ fs) zero e l is = ap (λ y. y.0 ∷ keys_of fs) is
  keys_of-put_back (f ∷ fs) (suc i) e l is = ap (λ ks. f.0 ∷ ks) (keys_of-put_back fs i e (omega arith) is)

  pub known_same : (known : Option (List K)) (es fs : List (K × X)) → keys_of fs ≡ keys_of es → Knows known es → Knows known fs
  known_same None es fs same h = tt
  known_same (Some ks) es fs same h = h ∙ sym same

  pub nothing_known : (known : Option (List K)) (es : List (K × X)) → is_some known ≡ false → Knows known es
  nothing_known None es e = tt
  nothing_known (Some ks) es e = cc

  pub known_set : (known : Option (List K)) (es : List (K × X)) (i : ℕ) (e : K × X) (x : X) → i < length es → e ≡ get_or es i e → Knows known es →
      Knows known (set es i (e.0, x))
  known_set known es i e x l is h = known_same known es _ (keys_of-set es i e x l is) h

  pub known_removed : (known : Option (List K)) (es : List (K × X)) (i : ℕ) → Knows known es → Knows (option_map (λ ks. remove ks i) known) (remove es i)
  known_removed None es i h = tt
  known_removed (Some ks) es i h = ap (λ ls. remove ls i) h ∙ sym (keys_of-remove es i)

  pub known_inserted : (old new : Option (List K)) (es : List (K × X)) (i : ℕ) (e : K × X) → i < length es → e ≡ get_or es i e →
      Knows old (remove es i) → Inserts i e.0 old new → Knows new es
  known_inserted old None es i e l is h p = tt
  known_inserted None (Some ks) es i e l is h p = absurd p
  known_inserted (Some js) (Some ks) es i e l is h p = p ∙ ap (λ ls. insert ls i e.0) h ∙ keys_of-put_back es i e l is

module _ {K X : Type 0} (p : K → Bool) where
  place_in_keys : (es : List (K × X)) → position_or_len p (keys_of es) ≡ position_or_len (λ e. p e.0) es
  place_in_keys [] = refl
  place_in_keys (e ∷ es) = ap (λ n. cond (not (p e.0)) (1 + n) 0) (place_in_keys es)

  -- the first of the keys that passes stands where the first entry with such a key does
  pub key_place : (es : List (K × X)) → position p (keys_of es) ≡ position (λ e. p e.0) es
  key_place es =
      let at : ℕ = position_or_len (λ e. p e.0) es in
      ap (λ n. cond (nat_lt n (length (keys_of es))) (Some n) None) (place_in_keys es) ∙ ap (λ n. cond (nat_lt at n) (Some at) None) (length-keys_of es)

module _ {K X : Type 0} (R : K → K → Ordering) (eq : K → K → Bool) (ties : (x y : K) → eq x y ≡ is_eq (R x y)) where
  apart : (k : K) (e : K × X) (es : List (K × X)) (r : Ordering) → R k e.0 ≡ r → is_eq r ≡ false → Lacks R k es → Lacks R k (e ∷ es)
  apart k e es r t differs rest = record {
    find_is = ap (λ q. cond (is_eq q) (Some e.1) (find R k es)) t ∙ ap (λ b. cond b (Some e.1) (find R k es)) differs ∙ rest.find_is;
    without_is = kept R k e es r t differs ∙ ap (λ fs. e ∷ fs) rest.without_is;
  }

  lacks : (k : K) (es : List (K × X)) → AllByRecursion (λ x. eq k x ≡ false) (keys_of es) → Lacks R k es
  lacks k [] none = record { find_is = refl; without_is = refl }
  lacks k (e ∷ es) none = apart k e es _ refl (sym (ties k e.0) ∙ none.0) (lacks k es none.1)

  -- what is known of a key, where all keys are
  pub found_at : (o : IsTotalOrder R) (k : K) (es : List (K × X)) → T (is_sorted R es) → (r : Option ℕ) → position (eq k) (keys_of es) ≡ r → Found R k es r
  found_at o k es sorted None none = lacks k es (Missing-position (eq k) es none).absent
  found_at o k [] sorted (Some i) some = cc
  found_at o k (d ∷ ds) sorted (Some i) some =
      let p = position-Some (eq k) (keys_of (d ∷ ds)) i d.0 some in
      let within : i < length (d ∷ ds) = omega (arith, p.0, length-keys_of (d ∷ ds)) in
      stands R o k (d ∷ ds) i d sorted within
      (equal_by _ (sym (ties k (get_or (d ∷ ds) i d).0) ∙ ap (eq k) (sym (get_or-map (λ e. e.0) (d ∷ ds) i d)) ∙ p.1))

  pub known_found : (o : IsTotalOrder R) (k : K) (es : List (K × X)) → T (is_sorted R es) → (known : Option (List K)) → Knows known es →
      IfSome (option_map (position (eq k)) known) (λ r. Found R k es r)
  known_found o k es sorted None h = tt
  known_found o k es sorted (Some ks) h = found_at o k es sorted (position (eq k) ks) (ap (position (eq k)) (sym h))

  -- where a key stands, found by a comparison with each
  pub among_found : (o : IsTotalOrder R) (k : K) (es : List (K × X)) → T (is_sorted R es) → (r : Option ℕ) → r ≡ position (λ e. eq k e.0) es → Found R k es r
  among_found o k es sorted r is = found_at o k es sorted r (key_place (eq k) es ∙ sym is)
