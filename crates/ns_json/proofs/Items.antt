-- A list of values, read one after the other.
use Rattle.std.proofs.Common.{◌≡◌, ℕ, ◌+◌, ◌<◌, ◌≤◌, List, [], ◌∷◌, ◌++◌, length, get_or, drop, Ok, refl, sym, ap, subst, ◌∙◌}
use Rattle.std.proofs.lemmas.List.{drop_more, drop_all}
use Rattle.serde_json.specs.Data.{Data, item}
use Rattle.serde_json.specs.View.{view, items_view}
use Rattle.serde_json.specs.declared.value.Value.{Value}
use Rattle.serde_json.proofs.Views.{items_len-items_view}
use Rattle.ns_types.specs.declared.refusal.Refusal.{Refusal}
use Rattle.ns_json.specs.Reading.{◌>>=◌, Read, Fails, each}

pub ruleset counts = (items_len-items_view)

next : (vs : List Value) (i : ℕ) (v : Value) → i < length vs → v ≡ get_or vs i v → items_view (drop i vs) ≡ item (view v) (items_view (drop (i + 1) vs))
next vs i v lt is = ap items_view (drop_more vs i v lt) ∙ rw (← is) refl

-- one more item is read
pub goes_on : {A : Type 0} (read : List A → Data → Read A) (done : List A) (vs : List Value) (i : ℕ) (v : Value) (x : A) (total : Read (List A)) →
    i < length vs → v ≡ get_or vs i v
    → read done (view v) ≡ Ok x → each read done (items_view (drop i vs)) ≡ total → each read (done ++ x ∷ []) (items_view (drop (i + 1) vs)) ≡ total
unfolding each
goes_on read done vs i v x total lt is one so_far =
    let step : each read done (items_view (drop i vs)) ≡ each read (done ++ x ∷ []) (items_view (drop (i + 1) vs)) = rw (next vs i v lt is, one) refl in
    sym step ∙ so_far

-- what is refused stays refused, whatever would have come after
pub fails_on : {A B : Type 0} (e : Refusal) (r : Read A) (after : A → Read B) → Fails e r → Fails e (r >>= after)
fails_on Refusal.Memory r after h = tt
fails_on Refusal.BadJson r after h = ap (λ x. x >>= after) h
fails_on (Refusal.BadField m) r after h = ap (λ x. x >>= after) h
fails_on Refusal.BadHead r after h = elim h [ ]
fails_on Refusal.Denied r after h = elim h [ ]
fails_on Refusal.NotFound r after h = elim h [ ]
fails_on Refusal.BadMethod r after h = elim h [ ]
fails_on Refusal.Conflict r after h = elim h [ ]
fails_on Refusal.PoolNotPermitted r after h = elim h [ ]
fails_on Refusal.InUse r after h = elim h [ ]
fails_on Refusal.Full r after h = elim h [ ]
fails_on Refusal.NeedLength r after h = elim h [ ]
fails_on Refusal.TooLarge r after h = elim h [ ]
fails_on Refusal.NotServed r after h = elim h [ ]
fails_on Refusal.LogFull r after h = elim h [ ]
fails_on Refusal.NotEnabled r after h = elim h [ ]
fails_on Refusal.Foreign r after h = elim h [ ]

-- an item that is refused
pub ends : {A : Type 0} (read : List A → Data → Read A) (e : Refusal) (done : List A) (vs : List Value) (i : ℕ) (v : Value) (total : Read (List A)) →
    i < length vs → v ≡ get_or vs i v
    → Fails e (read done (view v)) → each read done (items_view (drop i vs)) ≡ total → Fails e total
unfolding each
ends read e done vs i v total lt is one so_far =
    let step : each read done (items_view (drop i vs)) ≡ (read done (view v) >>= λ x. each read (done ++ x ∷ []) (items_view (drop (i + 1) vs))) =
    rw (next vs i v lt is) refl in
    subst (Fails e) (sym step ∙ so_far) (fails_on e (read done (view v)) _ one)

pub is_done : {A : Type 0} (read : List A → Data → Read A) (done : List A) (vs : List Value) (i : ℕ) (total : Read (List A)) → length vs ≤ i →
    each read done (items_view (drop i vs)) ≡ total → total ≡ Ok done
unfolding each
is_done read done vs i total le so_far =
    let none : drop i vs ≡ [] = drop_all i vs le in
    let step : each read done (items_view (drop i vs)) ≡ Ok done = rw none refl in
    sym so_far ∙ step
