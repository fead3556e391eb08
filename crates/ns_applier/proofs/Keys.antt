-- Tests of the rows at keys.
use Rattle.std.specs.Prelude.{◌≡◌, ℕ, Bool, true, false, List, ◌&&◌}
use Rattle.std.proofs.Common.{sym, ap, ◌∙◌}
use Rattle.std.specs.Option.{option_map_or}
use Rattle.std.specs.List.{list_any}
use Rattle.std.specs.Cmp.{eq_by_cmp_equiv}
use Rattle.std.specs.FinMap.{entries, get}
use Rattle.ns_types.specs.State.Names.{Name, Key, ByNumber, has_key, same_key, same_name, same_number}
use Rattle.ns_types.specs.State.Tables.{any_row}
use Rattle.ns_types.proofs.Elements.{any_same}
use Rattle.ns_types.proofs.Lists.{any_alike, each_map}
use Rattle.ns_types.proofs.Named.{numbers, one_number}
use Rattle.ns_release.proofs.Rooms.{any_and, any_row-at, any_swap}
use Rattle.ns_counters.proofs.Bounded.{any_with}
use Rattle.ns_types.proofs.Once.{each_member}
use Rattle.std.proofs.Math.Bool.{and_assoc}

-- a test of the rows at those keys in a namespace
pub any_row-keys : {X : Type 0} (ns : Name) (keys : List Key) (r : ℕ → X → Bool) (m : ByNumber X) →
    any_row (λ n x. has_key keys (ns, n) && r n x) m ≡ list_any (λ k. same_name ns k.0 && option_map_or (r k.1) (get m k.1) false) keys
unfolding any_row
any_row-keys {X = X} ns keys r m = any_same _ (λ (e : ℕ × X). list_any (λ k. same_key (ns, e.0) k && r e.0 e.1) keys)
    (λ e. any_with (same_key (ns, e.0)) (r e.0 e.1) keys) (entries m)
    ∙ any_swap (λ (e : ℕ × X) k. same_key (ns, e.0) k && r e.0 e.1) (entries m) keys ∙ any_same _ _ one keys
  where
    one : (k : Key) → list_any (λ (e : ℕ × X). same_key (ns, e.0) k && r e.0 e.1) (entries m) ≡ (same_name ns k.0 && option_map_or (r k.1) (get m k.1) false)
    one k = any_same _ (λ (e : ℕ × X). same_name ns k.0 && (same_number k.1 e.0 && r e.0 e.1))
        (λ e. and_assoc (same_name ns k.0) (same_number e.0 k.1) (r e.0 e.1) ∙
        ap (λ b. same_name ns k.0 && (b && r e.0 e.1)) ((eq_by_cmp_equiv numbers).symm e.0 k.1)) (entries m)
        ∙ sym (any_and (same_name ns k.0) (λ (e : ℕ × X). same_number k.1 e.0 && r e.0 e.1) (entries m))
        ∙ ap (λ b. same_name ns k.0 && b) (any_row-at numbers one_number k.1 r m)

-- tests that agree at the keys of the list
pub any_members : (f g : Key → Bool) (keys : List Key) → ((k : Key) → has_key keys k ≡ true → f k ≡ g k) → list_any f keys ≡ list_any g keys
any_members f g keys alike = any_alike f g keys (each_map alike keys (each_member keys))
