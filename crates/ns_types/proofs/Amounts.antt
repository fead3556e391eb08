-- What holds of each resource holds of all of them, and the other way round.
use Rattle.std.specs.Prelude.{◌≡◌, ℕ, zero, suc, ◌+◌, ◌-◌, ◌*◌, ◌%◌, ◌≤◌, ◌<◌, ◌^◌, Bool, true, false, ◌&&◌, nat_le, nat_lt}
use Rattle.std.proofs.Common.{refl, ap, ◌∙◌, arith, inl, inr}
use Rattle.std.specs.Cmp.{IsTotalOrder}
use Rattle.std.specs.Cmp.Derive.{both_true}
use Rattle.std.specs.Ordering.{is_lt, nat_cmp, ordering_then}
use Rattle.std.specs.declared.cmp.Ordering.{Ordering}
use Rattle.std.specs.declared.cmp.Ordering.TheVariants.{Less, Equal, Greater}
use Rattle.std.proofs.lemmas.Bool.{cases_eq, cond-false, cond-true, eq-eqb, le-leb, le-ltb, leb-true, lt-ltb, ne_eqb, true≢false}
use Rattle.std.proofs.lemmas.Cmp.{nat_cmp_total, on_total, then_total}
use Rattle.std.proofs.Math.Nat.{mod-eq_of_lt, suc-mul}
use Rattle.ns_types.specs.declared.resources.Resources.{Resources}
use Rattle.ns_types.specs.State.Resources.{Resource, Cpu, Memory, Disk, InEach, IsCounted, by_each, each_resource}
use Rattle.ns_types.specs.State.Resources.{in_each, is_within, minus, none, plus, quantity}
use Rattle.ns_types.specs.State.Resources.{IsAlike, IsTotal, Moves, added, amount_of, capped, each_amount, is_counted, times}
use Rattle.ns_types.proofs.Named.{first_of_both, second_of_both}

-- what is not less, and then not less, is not less
then_not_less : (p q : Ordering) → is_lt p ≡ false → is_lt q ≡ false → is_lt (ordering_then p q) ≡ false
then_not_less Less q e f = absurd (true≢false e)
then_not_less Equal q e f = f
then_not_less Greater q e f = refl

not_less : (a b : ℕ) → b ≤ a → is_lt (nat_cmp a b) ≡ false
not_less a b le =
    elim (cases_eq a b) [
      | inl same ↦ ap is_lt (cond-false _ _ _ (le-ltb a b le) ∙ cond-true _ _ _ (eq-eqb a b same))
      | inr apart ↦ ap is_lt (cond-false _ _ _ (le-ltb a b le) ∙ cond-false _ _ _ (ne_eqb a b apart))
    ]

-- ---- one more resource is one line more in each of these

pub every : (P : Resource → Type 0) → ((r : Resource) → P r) → InEach P
every P h = (h Cpu, h Memory, h Disk)

pub at : (P : Resource → Type 0) → InEach P → (r : Resource) → P r
at P h Cpu = h.0
at P h Memory = h.1
at P h Disk = h.2

pub every_true : (p : Resource → Bool) → ((r : Resource) → p r ≡ true) → in_each p ≡ true
every_true p h = both_true (both_true (h Cpu) (h Memory)) (h Disk)

pub true_at : (p : Resource → Bool) → in_each p ≡ true → (r : Resource) → p r ≡ true
true_at p h Cpu = first_of_both (p Cpu) (p Memory) (first_of_both (p Cpu && p Memory) (p Disk) h)
true_at p h Memory = second_of_both (p Cpu) (p Memory) (first_of_both (p Cpu && p Memory) (p Disk) h)
true_at p h Disk = second_of_both (p Cpu && p Memory) (p Disk) h

pub same_amounts : (a b : Resources) → ((r : Resource) → quantity r a ≡ quantity r b) → a ≡ b
same_amounts a b same = λ i. record { cpu = same Cpu i; memory = same Memory i; disk = same Disk i }

pub quantity_of : (f : Resource → ℕ) (r : Resource) → quantity r (each_resource f) ≡ f r
quantity_of f Cpu = refl
quantity_of f Memory = refl
quantity_of f Disk = refl

pub by_each_total : {C : Type 0} (f : Resource → C → ℕ) → IsTotalOrder (by_each f)
by_each_total f =
    then_total (on_total (f Cpu) nat_cmp_total) (then_total (on_total (f Memory) nat_cmp_total) (on_total (f Disk) nat_cmp_total))

-- what has no less of each does not come before
by_each_not_less : {C : Type 0} (f : Resource → C → ℕ) (a b : C) → ((r : Resource) → f r b ≤ f r a) → is_lt (by_each f a b) ≡ false
by_each_not_less f a b le =
    then_not_less _ (ordering_then (nat_cmp (f Memory a) (f Memory b)) (nat_cmp (f Disk a) (f Disk b))) (not_less _ _ (le Cpu))
    (then_not_less _ (nat_cmp (f Disk a) (f Disk b)) (not_less _ _ (le Memory)) (not_less _ _ (le Disk)))

-- ---- of all of them

pub same_of_each : (f g : Resource → ℕ) → ((r : Resource) → f r ≡ g r) → each_resource f ≡ each_resource g
same_of_each f g same = λ i. each_resource (λ r. same r i)

pub not_before : {C : Type 0} (f : Resource → C → ℕ) (a b : C) (rest : Ordering) → ((r : Resource) → f r b ≤ f r a) → is_lt rest ≡ false
    → is_lt (ordering_then (by_each f a b) rest) ≡ false
not_before f a b rest le e = then_not_less (by_each f a b) rest (by_each_not_less f a b le) e

pub quantity_none : (r : Resource) → quantity r none ≡ 0
quantity_none = quantity_of (λ r. 0)

pub plus_none : (a : Resources) → plus a none ≡ a
plus_none a = same_of_each (λ r. quantity r a + 0) (λ r. quantity r a) (λ r. omega arith)

pub minus_none : (a : Resources) → minus a none ≡ a
minus_none a = same_of_each (λ r. quantity r a - 0) (λ r. quantity r a) (λ r. omega arith)

pub within_at : (a b : Resources) → is_within a b ≡ true → (r : Resource) → quantity r a ≤ quantity r b
within_at a b h r = leb-true (quantity r a) (quantity r b) (true_at (λ r. nat_le (quantity r a) (quantity r b)) h r)

pub within_from : (a b : Resources) → InEach (λ r. quantity r a ≤ quantity r b) → is_within a b ≡ true
within_from a b h = every_true (λ r. nat_le (quantity r a) (quantity r b)) (λ r.
    le-leb (quantity r a) (quantity r b) (at (λ r. quantity r a ≤ quantity r b) h r))

pub counted_at : (a : Resources) → IsCounted a → (r : Resource) → quantity r a < 2 ^ 64
counted_at a = at (λ r. quantity r a < 2 ^ 64)

-- ---- sums as they are counted

capped_added : (a b : ℕ) → capped (capped a + capped b) ≡ capped (a + b)
capped_added a b = omega arith

pub amount_added : (a b : Resources) → added (amount_of a) (amount_of b) ≡ amount_of (plus a b)
amount_added a b = λ i. each_amount (λ r. capped_added (quantity r a) (quantity r b) i)

pub counted_true : (a : Resources) → IsCounted a → is_counted a ≡ true
counted_true a h = every_true (λ r. nat_lt (quantity r a) (2 ^ 64)) (λ r. lt-ltb (quantity r a) (2 ^ 64) (counted_at a h r))

-- one of several is within all of them
one_within : (n x : ℕ) → (n ≡ 0 → ⊥) → x ≤ n * x
one_within zero x some = absurd (some refl)
one_within (suc n) x some = let more = suc-mul n x in omega (arith, more)

pub one_counted : (sum size : Resources) (n : ℕ) → (n ≡ 0 → ⊥) → IsCounted (plus sum (times n size)) → IsCounted size
one_counted sum size n some h =
    every (λ r. quantity r size < 2 ^ 64) (λ r.
    let one = one_within n (quantity r size) some in
    let all = at (λ r. quantity r sum + n * quantity r size < 2 ^ 64) h r in
    omega (arith, one, all))

pub total_in_each : (total sums : Resources) → IsTotal total sums → (r : Resource) → quantity r total ≡ quantity r sums % 2 ^ 64
total_in_each total sums = at (λ r. quantity r total ≡ quantity r sums % 2 ^ 64)

-- where the sums fit, nothing was past 64 bits
pub total_exact : (total sums : Resources) → IsTotal total sums → IsCounted sums → total ≡ sums
total_exact total sums h counted = same_amounts total sums (λ r.
    total_in_each total sums h r ∙ mod-eq_of_lt (counted_at sums counted r))

pub total_counted : (total sums : Resources) → IsTotal total sums → IsCounted total
total_counted total sums h = every (λ r. quantity r total < 2 ^ 64) (λ r.
    let is = total_in_each total sums h r in
    omega (arith, is))

pub moves_at : (before after old new : Resources) → Moves before after old new → (r : Resource) →
    IsAlike (quantity r new + quantity r before) (quantity r old + quantity r after)
moves_at before after old new = at (λ r. IsAlike (quantity r new + quantity r before) (quantity r old + quantity r after))

pub none_total : IsTotal none none
none_total = every (λ r. 0 ≡ 0 % 2 ^ 64) (λ r. refl)
