-- The first of the greatest by induction over the list, and what a filter of `blocked` keeps.
use Rattle.std.specs.Prelude.{◌≡◌, ℕ, ◌<◌, ◌≤◌, nat_le, Bool, true, false, cond, T, ◌&&◌, List, [], ◌∷◌, ◌++◌, Option, Some, None, unwrap_or, is_some}
use Rattle.std.proofs.Common.{refl, sym, ap, subst, ◌∙◌, arith}
use Rattle.std.specs.FinMap.{get}
use Rattle.std.specs.List.{list_all}
use Rattle.std.specs.Option.{option_map_or, option_and_then}
use Rattle.std.proofs.lemmas.Bool.{leb-true, leb-false, le-leb, lt-leb, and_right}
use Rattle.ns_types.specs.declared.evaluation.Evaluation.{Evaluation}
use Rattle.ns_types.specs.State.Lists.{Each}
use Rattle.ns_types.specs.State.Names.{Key, has_key, same_key}
use Rattle.ns_types.specs.Working.Queue.{first_of_greatest, priority_at}
use Rattle.ns_types.specs.Settling.Releases.{woken, wakes}
use Rattle.ns_types.specs.State.Rows.{World, Tenant, evaluation_at}
use Rattle.ns_types.specs.Validity.{IsSound}
use Rattle.ns_types.proofs.Lists.{not_both, each_map}
use Rattle.ns_types.proofs.Named.{second_of_both}
use Rattle.ns_types.proofs.Elements.{each_from_all, all_from_each, each_kept, any_kept, each_back}
use Rattle.ns_laws.specs.Queue.{ServedIsFirst, FirstIsServed, NoneServedOfNone, WokenInOrder, WokenAreCalled, IsBlockedAt, WokenWereBlocked}
use Rattle.ns_laws.proofs.Elements.{filter_in_order}
use Rattle.ns_types.proofs.Once.{each_member, key_is}

not_Some : {A : Type 0} (a : Option Key) (key : Key) → a ≡ None → a ≡ Some key → A
not_Some a key e f = absurd (subst T (sym (ap is_some (sym e ∙ f))) tt)

-- ---- who is served

-- by any priority
record IsFirst (p : Key → ℕ) (keys : List Key) (key : Key) : Type 0 where
  before : List Key
  later : List Key
  listed : keys ≡ before ++ key ∷ later
  none_greater : Each (λ other. p other ≤ p key) keys
  less_before : Each (λ other. p other < p key) before

some_key : (a b : Key) → Some a ≡ Some b → a ≡ b
some_key a b e = ap (λ (o : Option Key). unwrap_or o a) e

-- where not all are at most n, and all at most m, n is less than m
between : (p : Key → ℕ) (n m : ℕ) (keys : List Key) → list_all (λ o. nat_le (p o) n) keys ≡ false → Each (λ o. p o ≤ m) keys → n < m
between p n m [] e h = not_both refl e
between p n m (key ∷ keys) e h = by (nat_le (p key) n) refl (λ f. between p n m keys f h.1)
  where
    by : (b : Bool) → nat_le (p key) n ≡ b → (list_all (λ o. nat_le (p o) n) keys ≡ false → n < m) → n < m
    by true f rest = rest (sym (ap (λ b. b && list_all (λ o. nat_le (p o) n) keys) f) ∙ e)
    by false f rest = let more = leb-false (p key) n f in let most = h.0 in omega arith

first_is : (p : Key → ℕ) (keys : List Key) (key : Key) → first_of_greatest p keys ≡ Some key → IsFirst p keys key
first_is p [] key e = not_Some None key refl e
first_is p (x ∷ xs) key e = by (list_all (λ o. nat_le (p o) (p x)) xs) refl (first_is p xs key) e
  where
    by : (b : Bool) → list_all (λ o. nat_le (p o) (p x)) xs ≡ b → (first_of_greatest p xs ≡ Some key → IsFirst p xs key) →
        cond b (Some x) (first_of_greatest p xs) ≡ Some key → IsFirst p (x ∷ xs) key
    by true all go e = let same = some_key x key e in record {
      before = [];
      later = xs;
      listed = ap (λ k. k ∷ xs) same;
      none_greater = subst (λ k. Each (λ o. p o ≤ p k) (x ∷ xs)) same (omega arith, each_map (λ o f. leb-true (p o) (p x) f) xs (each_from_all _ xs all));
      less_before = tt;
    }
    by false some go e =
        let rest = go e in
        let less = between p (p x) (p key) xs some rest.none_greater in record {
          before = x ∷ rest.before;
          later = rest.later;
          listed = ap (λ l. x ∷ l) rest.listed;
          none_greater = (omega (arith, less), rest.none_greater);
          less_before = (less, rest.less_before);
        }

-- a greater one further on
not_all : (p : Key → ℕ) (n : ℕ) (before later : List Key) (key : Key) → n < p key → list_all (λ o. nat_le (p o) n) (before ++ key ∷ later) ≡ false
not_all p n [] later key less = ap (λ b. b && list_all (λ o. nat_le (p o) n) later) (lt-leb (p key) n less)
not_all p n (x ∷ before) later key less = and_right (nat_le (p x) n) _ (not_all p n before later key less)

is_first : (p : Key → ℕ) (before later : List Key) (key : Key) → Each (λ o. p o ≤ p key) later → Each (λ o. p o < p key) before
    → first_of_greatest p (before ++ key ∷ later) ≡ Some key
is_first p [] later key most less =
    ap (λ b. cond b (Some key) (first_of_greatest p later)) (all_from_each _ later (each_map (λ o h. le-leb (p o) (p key) h) later most))
is_first p (x ∷ before) later key most less =
    ap (λ b. cond b (Some x) (first_of_greatest p (before ++ key ∷ later))) (not_all p (p x) before later key less.0) ∙ is_first p before later key most less.1

none_of_none : (p : Key → ℕ) (keys : List Key) → first_of_greatest p keys ≡ None → keys ≡ []
none_of_none p [] e = refl
none_of_none p (x ∷ xs) e = by (list_all (λ o. nat_le (p o) (p x)) xs) refl (none_of_none p xs) e
  where
    by : (b : Bool) → list_all (λ o. nat_le (p o) (p x)) xs ≡ b → (first_of_greatest p xs ≡ None → xs ≡ []) → cond b (Some x) (first_of_greatest p xs) ≡ None →
        x ∷ xs ≡ []
    by true all go e = not_Some _ x e refl
    by false some go e = not_both refl (subst (λ l. list_all (λ o. nat_le (p o) (p x)) l ≡ false) (go e) some)

pub served_is_first : ServedIsFirst
served_is_first w keys key e = let is = first_is (priority_at w) keys key e in
    record { before = is.before; later = is.later; listed = is.listed; none_greater = is.none_greater; less_before = is.less_before }

pub first_is_served : FirstIsServed
first_is_served w keys key is =
    let most = each_back (λ o. priority_at w o ≤ priority_at w key) is.before (key ∷ is.later)
    (subst (Each (λ o. priority_at w o ≤ priority_at w key)) is.listed is.none_greater) in
    ap (first_of_greatest (priority_at w)) is.listed ∙ is_first (priority_at w) is.before is.later key most.1 is.less_before

pub none_served_of_none : NoneServedOfNone
none_served_of_none w keys e = none_of_none (priority_at w) keys e

-- ---- who wakes

pub woken_in_order : WokenInOrder
unfolding woken
woken_in_order w w' = filter_in_order (λ key. has_key w'.blocked key && option_map_or (wakes w w') (evaluation_at w key) false) w.blocked

pub woken_are_called : WokenAreCalled
unfolding woken
woken_are_called w w' key =
    let calls = λ (k : Key). has_key w'.blocked k && option_map_or (wakes w w') (evaluation_at w k) false in
    any_kept (same_key key) calls (calls key) (λ other same. ap calls (sym (key_is key other same))) w.blocked

blocked_at : (w w' : World) → IsSound w → (key : Key) → has_key w.blocked key ≡ true → option_map_or (wakes w w') (evaluation_at w key) false ≡ true →
    IsBlockedAt w key
blocked_at w w' sound key listed called = by (get w.tenants key.0) refl called
  where
    row : (t : Tenant) → get w.tenants key.0 ≡ Some t → (r : Option Evaluation) → get t.evaluations key.1 ≡ r → option_map_or (wakes w w') r false ≡ true →
        IsBlockedAt w key
    row t is None found f = not_both f refl
    row t is (Some e) found f =
        (e, ap (option_and_then (λ (x : Tenant). get x.evaluations key.1)) is ∙ found, sym ((sound.tenant key.0 t is).blocked_listed key.1 e found) ∙ listed)

    by : (o : Option Tenant) → get w.tenants key.0 ≡ o → option_map_or (wakes w w') (option_and_then (λ t. get t.evaluations key.1) o) false ≡ true →
        IsBlockedAt w key
    by None is f = not_both f refl
    by (Some t) is f = row t is (get t.evaluations key.1) refl f

pub woken_were_blocked : WokenWereBlocked
unfolding woken
woken_were_blocked w w' sound =
    each_map (λ key h. blocked_at w w' sound key h.0 (second_of_both (has_key w'.blocked key) _ h.1)) (woken w w')
    (each_kept (λ key. has_key w.blocked key ≡ true) (λ key. has_key w'.blocked key && option_map_or (wakes w w') (evaluation_at w key) false) w.blocked
    (each_member w.blocked))
