-- Victims, each held once: the steps of the loops that hold them.
use Rattle.std.specs.Prelude.{◌≡◌, ℕ, ◌+◌, ◌<◌, ◌++◌, Bool, true, false, cond, not, List, [], ◌∷◌, ◌&&◌, filter, length, map, take}
use Rattle.std.proofs.Common.{Bor, add-one, append_assoc, get_or, refl, sym, ap, ◌∙◌}
use Rattle.std.proofs.Math.Seq.{take-suc}
use Rattle.std.proofs.lemmas.Grind.{flat_map-append}
use Rattle.std.proofs.lemmas.List.{append-nil, map-append}
use Rattle.std.specs.List.{list_any}
use Rattle.ns_types.specs.declared.plan.Eviction.{Eviction}
use Rattle.ns_types.specs.declared.plan.Placement.{Placement}
use Rattle.ns_types.specs.declared.snapshot.Snapshot.{Snapshot}
use Rattle.ns_types.specs.State.Names.{Key, has_key, has_number, same_key}
use Rattle.ns_types.specs.State.Rows.{World}
use Rattle.ns_types.specs.Working.Commit.{victim_key, victims_in, victims_of}
use Rattle.ns_types.proofs.Elements.{any_map}
use Rattle.ns_types.proofs.Lists.{filter-append}
use Rattle.ns_types.proofs.Once.{once, once_has, once_push}
use Rattle.ns_plan.specs.After.{keys_of}

pub any_held : (held : List (Bor Eviction)) (k : Key) → has_key (keys_of (map (λ e. e.now) held)) k ≡ list_any (λ e. same_key k (victim_key e.now)) held
any_held held k = any_map (same_key k) victim_key (map (λ e. e.now) held) ∙ any_map (λ e. same_key k (victim_key e)) (λ (e : Bor Eviction). e.now) held

-- one key more, where it is new
hold_step : (keys seen : List Key) → keys ≡ once seen → (k : Key) (c : Bool) →
    cond (c && not (has_key keys k)) (keys ++ k ∷ []) keys ≡ once (seen ++ cond c (k ∷ []) [])
hold_step keys seen is k false = is ∙ ap once (sym (append-nil seen))
hold_step keys seen is k true = by (has_key keys k) (ap (λ l. has_key l k) is ∙ once_has seen k) ∙ sym (once_push seen k)
  where
    by : (b : Bool) → b ≡ has_key seen k → cond (not b) (keys ++ k ∷ []) keys ≡ cond (has_key seen k) (once seen) (once seen ++ k ∷ [])
    by true e = is ∙ ap (λ b. cond b (once seen) (once seen ++ k ∷ [])) e
    by false e = ap (λ l. l ++ k ∷ []) is ∙ ap (λ b. cond b (once seen) (once seen ++ k ∷ [])) e

module _ {A : Type 0} (xs : List A) (i : ℕ) (x : A) (inside : i < length xs) (is : x ≡ get_or xs i x) where
  pub take_next : take (i + 1) xs ≡ take i xs ++ x ∷ []
  take_next = ap (λ n. take n xs) (add-one i) ∙ take-suc xs i x inside ∙ ap (λ y. take i xs ++ y ∷ []) (sym is)

  pub filter_next : (c : A → Bool) → filter c (take (i + 1) xs) ≡ filter c (take i xs) ++ cond (c x) (x ∷ []) []
  filter_next c = ap (filter c) take_next ∙ filter-append c (take i xs) (x ∷ [])

keys_cond : (b : Bool) (e : Eviction) → keys_of (cond b (e ∷ []) []) ≡ cond b (victim_key e ∷ []) []
keys_cond true e = refl
keys_cond false e = refl

module _ (c : Eviction → Bool) (evictions : List Eviction) (i : ℕ) (e : Eviction) (inside : i < length evictions) (is : e ≡ get_or evictions i e) where
  pub held_step : (keys seen : List Key) → keys ≡ once (seen ++ keys_of (filter c (take i evictions))) →
      cond (c e && not (has_key keys (victim_key e))) (keys ++ victim_key e ∷ []) keys ≡ once (seen ++ keys_of (filter c (take (i + 1) evictions)))
  held_step keys seen so_far = hold_step keys (seen ++ keys_of (filter c (take i evictions))) so_far (victim_key e) (c e)
      ∙ ap once (append_assoc seen (keys_of (filter c (take i evictions))) (cond (c e) (victim_key e ∷ []) [])
      ∙ ap (λ l. seen ++ l) (ap (λ l. keys_of (filter c (take i evictions)) ++ l) (sym (keys_cond (c e) e))
      ∙ sym (map-append victim_key (filter c (take i evictions)) (cond (c e) (e ∷ []) [])) ∙ ap keys_of (sym (filter_next evictions i e inside is c))))

  module _ (seen : List Key) (held : List (Bor Eviction)) (so_far : keys_of (map (λ e. e.now) held) ≡ once (seen ++ keys_of (filter c (take i evictions))))
      (l : List (Bor Eviction)) (same : l ≡ held) where
    step : cond (c e && not (has_key (keys_of (map (λ e. e.now) l)) (victim_key e))) (keys_of (map (λ e. e.now) held) ++ victim_key e ∷ [])
        (keys_of (map (λ e. e.now) held)) ≡ once (seen ++ keys_of (filter c (take (i + 1) evictions)))
    step = ap (λ l. cond (c e && not (has_key (keys_of (map (λ e. e.now) l)) (victim_key e))) (keys_of (map (λ e. e.now) held) ++ victim_key e ∷ [])
        (keys_of (map (λ e. e.now) held))) same ∙ held_step (keys_of (map (λ e. e.now) held)) seen so_far

    pub held_more : (c e && not (has_key (keys_of (map (λ e. e.now) l)) (victim_key e))) ≡ true → (r : Bor Eviction) → r.now ≡ e →
        keys_of (map (λ e. e.now) (held ++ r ∷ [])) ≡ once (seen ++ keys_of (filter c (take (i + 1) evictions)))
    held_more new r reads = ap keys_of (map-append (λ (e : Bor Eviction). e.now) held (r ∷ [])) ∙ map-append victim_key (map (λ e. e.now) held) (r.now ∷ [])
        ∙ ap (λ x. keys_of (map (λ e. e.now) held) ++ victim_key x ∷ []) reads
        ∙ sym (ap (λ b. cond b (keys_of (map (λ e. e.now) held) ++ victim_key e ∷ []) (keys_of (map (λ e. e.now) held))) new) ∙ step

    pub held_same : (c e && not (has_key (keys_of (map (λ e. e.now) l)) (victim_key e))) ≡ false →
        keys_of (map (λ e. e.now) held) ≡ once (seen ++ keys_of (filter c (take (i + 1) evictions)))
    held_same old = sym (ap (λ b. cond b (keys_of (map (λ e. e.now) held) ++ victim_key e ∷ []) (keys_of (map (λ e. e.now) held))) old) ∙ step

-- one placement more, whose victims are held too or not
pub victims_next : (w : World) (kept : Snapshot) (nodes : List ℕ) (ps : List Placement) (i : ℕ) (p : Placement) → i < length ps → p ≡ get_or ps i p →
    (b : Bool) → has_number nodes p.node ≡ b → keys_of (victims_of w kept (filter (λ p. has_number nodes p.node) (take (i + 1) ps)))
    ≡ keys_of (victims_of w kept (filter (λ p. has_number nodes p.node) (take i ps))) ++ cond b (keys_of (victims_in w kept p)) []
victims_next w kept nodes ps i p inside is b held = ap keys_of (ap (victims_of w kept) (filter_next ps i p inside is (λ p. has_number nodes p.node))
    ∙ flat_map-append (victims_in w kept) before (cond (has_number nodes p.node) (p ∷ []) []))
    ∙ map-append victim_key (victims_of w kept before) (victims_of w kept (cond (has_number nodes p.node) (p ∷ []) []))
    ∙ ap (λ l. keys_of (victims_of w kept before) ++ l) (ap (λ b. keys_of (victims_of w kept (cond b (p ∷ []) []))) held ∙ by b)
  where
    before : List Placement
    before = filter (λ p. has_number nodes p.node) (take i ps)

    by : (b : Bool) → keys_of (victims_of w kept (cond b (p ∷ []) [])) ≡ cond b (keys_of (victims_in w kept p)) []
    by true = ap keys_of (append-nil (victims_in w kept p))
    by false = refl
