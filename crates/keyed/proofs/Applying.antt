-- Changed rows that are put one by one.
use Rattle.std.specs.Prelude.{◌≡◌, ℕ, ◌+◌, ◌<◌, ◌++◌, Bool, true, false, cond, T, List, [], ◌∷◌, Option, Some, None, fold, length, unwrap_or, IsTrue, is_some}
use Rattle.std.proofs.Common.{refl, sym, ap, ◌∙◌, subst, Ordering, add-one, take, get_or}
use Rattle.std.proofs.Math.Seq.{take-suc}
use Rattle.std.specs.Ordering.{eq_by_cmp, is_eq}
use Rattle.std.specs.Cmp.{IsTotalOrder, eq_by_cmp_equiv}
use Rattle.std.specs.FinMap.{FinMap, IsAntisymmetric, entries, entries_sorted, get, get-entries, get-insert, get-remove, insert, remove, same_map}
use Rattle.std.specs.FinMap.Entries.{find, is_sorted, below_all}
use Rattle.keyed.specs.Table.{rows, has_slot, with_slot, KeepsSlots}
use Rattle.keyed.proofs.Ordered.{absent}
use Rattle.ns_types.proofs.Tests.{first, second}
use Rattle.keyed.proofs.Tables.{rows-set, rows-remove, rows-with_slot, has_slot-insert, has_slot-with_slot, has_slot-with_slot_here}
use Rattle.ns_types.specs.State.Lists.{Each}
use Rattle.ns_types.proofs.Tables.{less_by, tied, each_row}
use Rattle.ns_types.proofs.Lists.{each_map, not_both}
use Rattle.keyed.specs.Over.{HasRoomFor, over, put_in}
use Rattle.keyed.proofs.Over.{get-over}

module _ {K X : Type 0} {R : K → K → Ordering} (o : IsTotalOrder R) (same : IsAntisymmetric R) where
  pub get-put_in : (m : FinMap R X) (e : K × Option X) (q : K) → get (put_in m e) q ≡ cond (eq_by_cmp R q e.0) e.1 (get m q)
  get-put_in m (k, None) q = get-remove o m k q
  get-put_in m (k, Some x) q = get-insert o m k x q

  get-puts : (es : List (K × Option X)) → T (is_sorted R es) → (m : FinMap R X) (q : K) → get (fold put_in m es) q ≡ unwrap_or (find R q es) (get m q)
  get-puts [] sorted m q = refl
  get-puts (e ∷ es) sorted m q = get-puts es (second _ _ sorted) (put_in m e) q ∙ ap (unwrap_or (find R q es)) (get-put_in m e q) ∙ by (eq_by_cmp R q e.0) refl
    where
      by : (b : Bool) → eq_by_cmp R q e.0 ≡ b → unwrap_or (find R q es) (cond b e.1 (get m q)) ≡ unwrap_or (cond b (Some e.1) (find R q es)) (get m q)
      by true t = ap (λ r. unwrap_or r e.1) (ap (λ k. find R k es) (tied same q e.0 t) ∙ (absent R o e.0 es (first _ _ sorted)).0)
      by false t = refl

  pub puts_are : (m : FinMap R X) (c : FinMap R (Option X)) → fold put_in m (entries c) ≡ over m c
  puts_are m c = same_map o same _ _ (λ q. get-puts (entries c) (entries_sorted c) m q ∙ ap (λ r. unwrap_or r (get m q)) (sym (get-entries c q)) ∙
      sym (get-over o same m c q))

  -- a slot for each entry that is left
  abbrev pub RoomLeft : FinMap R (Option X) → List (K × Option X) → Type 0
  RoomLeft m es = Each (λ e. IsTrue (has_slot m e.0)) es

  -- what is left of a change to be put in, so that the rows come out as `all`: its keys rise, and each has room
  abbrev pub IsLeft : FinMap R (Option X) → List (K × Option X) → FinMap R X → Type 0
  IsLeft m es all = (fold put_in (rows m) es ≡ all) × RoomLeft m es × T (is_sorted R es)

  pub room_for : (c m : FinMap R (Option X)) → HasRoomFor c m → RoomLeft m (entries c)
  room_for c m room = each_row o same (λ k _. IsTrue (has_slot m k)) c (λ k x is. room k (ap is_some is))

  pub room_stays : (old new : FinMap R (Option X)) → KeepsSlots old new → (es : List (K × Option X)) → RoomLeft old es → RoomLeft new es
  room_stays old new keeps es = each_map (λ e. keeps e.0) es

  room_removed : (m : FinMap R (Option X)) (k : K) (es : List (K × Option X)) → T (below_all R k es) → RoomLeft m es → RoomLeft (remove m k) es
  room_removed m k [] below h = tt
  room_removed m k (e ∷ es) below h =
      let other : eq_by_cmp R e.0 k ≡ false = (eq_by_cmp_equiv o).symm e.0 k ∙ ap is_eq (less_by _ (first _ _ below)) in (
        subst (λ r. IsTrue (is_some r)) (sym (get-remove o m k e.0 ∙ ap (λ b. cond b None (get m e.0)) other)) h.0,
        room_removed m k es (second _ _ below) h.1,
      )

  -- the whole of a change
  pub all_left : (c m : FinMap R (Option X)) (es : List (K × Option X)) → es ≡ entries c → HasRoomFor c m →
      IsLeft m es (fold put_in (rows m) (entries c))
  all_left c m es is room = (
    ap (fold put_in (rows m)) is,
    subst (RoomLeft m) (sym is) (room_for c m room),
    subst (λ xs. T (is_sorted R xs)) (sym is) (entries_sorted c),
  )

  one_put : (old new : FinMap R (Option X)) (e : K × Option X) (es rest : List (K × Option X)) (all : FinMap R X) → rows new ≡ put_in (rows old) e →
      (T (below_all R e.0 rest) → RoomLeft old rest → RoomLeft new rest) → es ≡ e ∷ rest → IsLeft old es all → IsLeft new rest all
  one_put old new e es rest all put keeps is h =
      let sorted : T (is_sorted R (e ∷ rest)) = subst (λ xs. T (is_sorted R xs)) is h.2 in (
        ap (λ m. fold put_in m rest) put ∙ ap (fold put_in (rows old)) (sym is) ∙ h.0,
        keeps (first _ _ sorted) (subst (RoomLeft old) is h.1).1,
        second _ _ sorted,
      )

  pub row_put : (old new : FinMap R (Option X)) (k : K) (slot : Option X) (x : X) (es rest : List (K × Option X)) (all : FinMap R X) →
      new ≡ insert old k (Some x) → slot ≡ Some x → es ≡ (k, slot) ∷ rest → IsLeft old es all → IsLeft new rest all
  row_put old new k slot x es rest all set some is = one_put old new (k, slot) es rest all
      (ap rows set ∙ rows-set o same old k x ∙ ap (λ s. put_in (rows old) (k, s)) (sym some))
      (λ _. room_stays old new (λ q has. subst (λ m. IsTrue (has_slot m q)) (sym set) (has_slot-insert o old k (Some x) q has)) rest) is

  pub row_gone : (old new : FinMap R (Option X)) (k : K) (slot : Option X) (es rest : List (K × Option X)) (all : FinMap R X) → new ≡ remove old k →
      slot ≡ None → es ≡ (k, slot) ∷ rest → IsLeft old es all → IsLeft new rest all
  row_gone old new k slot es rest all gone none is = one_put old new (k, slot) es rest all
      (ap rows gone ∙ rows-remove o same old k ∙ ap (λ s. put_in (rows old) (k, s)) (sym none))
      (λ below h. subst (λ m. RoomLeft m rest) (sym gone) (room_removed old k rest below h)) is

  -- room for the next one
  pub next_room : (m : FinMap R (Option X)) (e : K × Option X) (es rest : List (K × Option X)) (all : FinMap R X) → es ≡ e ∷ rest → IsLeft m es all →
      IsTrue (has_slot m e.0)
  next_room m e es rest all is h = (subst (RoomLeft m) is h.1).0

  -- nothing is left
  pub none_left : (m : FinMap R (Option X)) (es : List (K × Option X)) (before : FinMap R X) (c : FinMap R (Option X)) → es ≡ [] →
      IsLeft m es (fold put_in before (entries c)) → rows m ≡ over before c
  none_left m es before c is h = sym (ap (fold put_in (rows m)) is) ∙ h.0 ∙ puts_are before c

-- ---- room for each

module _ {K X : Type 0} {R : K → K → Ordering} (o : IsTotalOrder R) (same : IsAntisymmetric R) where
  found_each : (P : K → Type 0) (es : List (K × Option X)) → Each (λ e. P e.0) es → (k : K) → is_some (find R k es) ≡ true → P k
  found_each P [] all k is = not_both is refl
  found_each P (e ∷ es) all k is = by (found_each P es all.1 k) (eq_by_cmp R k e.0) refl is
    where
      by : (is_some (find R k es) ≡ true → P k) → (b : Bool) → eq_by_cmp R k e.0 ≡ b → is_some (cond b (Some e.1) (find R k es)) ≡ true → P k
      by later true t is = subst P (sym (tied same k e.0 t)) all.0
      by later false t is = later is

  pub room_by : (c m : FinMap R (Option X)) → RoomLeft o same m (entries c) → HasRoomFor c m
  room_by c m all k has = found_each (λ k. IsTrue (has_slot m k)) (entries c) all k (ap is_some (sym (get-entries c k)) ∙ has)

each_end : {A : Type 0} (P : A → Type 0) (xs : List A) (x : A) → Each P xs → P x → Each P (xs ++ x ∷ [])
each_end P [] x h p = (p, tt)
each_end P (y ∷ xs) x h p = (h.0, each_end P xs x h.1 p)

module _ {K X : Type 0} {R : K → K → Ordering} (o : IsTotalOrder R) (same : IsAntisymmetric R) where
  -- one slot more
  pub one_reserved : (old new all : FinMap R (Option X)) (es : List (K × Option X)) (i : ℕ) (e : K × Option X) → new ≡ with_slot old e.0 → i < length es →
      e ≡ get_or es i e
      → (rows old ≡ rows all) × RoomLeft o same old (take i es) → (rows new ≡ rows all) × RoomLeft o same new (take (i + 1) es)
  one_reserved old new all es i e made lt is h = (
    ap rows made ∙ rows-with_slot o same old e.0 ∙ h.0,
    subst (RoomLeft o same new) (ap (λ x. take i es ++ x ∷ []) is ∙ sym (take-suc es i e lt) ∙ ap (λ n. take n es) (sym (add-one i)))
        (each_end (λ x. IsTrue (has_slot new x.0)) (take i es) e
        (room_stays o same old new (λ k has. subst (λ m. IsTrue (has_slot m k)) (sym made) (has_slot-with_slot o old e.0 k has)) (take i es) h.1)
        (subst (λ m. IsTrue (has_slot m e.0)) (sym made) (has_slot-with_slot_here o old e.0))),
  )
