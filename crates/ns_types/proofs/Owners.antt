-- Lists of names, and the rows that have their names there.
use Rattle.std.specs.Bool.{OnTrue}
use Rattle.std.specs.Prelude.{◌≡◌, ℕ, Bool, true, false, ◌+◌, ◌<◌, ◌≤◌, List, [], ◌∷◌, ◌++◌, Some, length, map, min, slice_get, take}
use Rattle.std.proofs.Common.{refl, sym, ap, ap₂, ◌∙◌, arith, get_or, suc, zero}
use Rattle.std.proofs.lemmas.List.{map-append, map_more, take_more}
use Rattle.std.proofs.lemmas.List.Elements.{All-append, All-cons, All-nil, All-weaker}
use Rattle.std.proofs.lemmas.List.Sums.{sum_by-append}
use Rattle.std.proofs.Math.Nat.{min-le_left, min-le_right}
use Rattle.std.specs.List.{All}
use Rattle.ns_types.specs.State.Resources.{Resource, Cpu, Memory, Disk, plus, quantity, total}
use Rattle.ns_types.proofs.Amounts.{same_amounts}
use Rattle.ns_types.specs.declared.snapshot.LiveAllocation.{LiveAllocation}
use Rattle.ns_types.specs.State.Names.{Name}
use Rattle.ns_types.specs.Working.Owners.{AreOwned, KeepsNames, without_name}

pub on_true : {P Q : Type 0} (b : Bool) → (P → Q) → OnTrue b P → OnTrue b Q
on_true true f h = f h
on_true false f h = h

-- lists that are alike so far, and at the next place
pub next_alike : {X Y : Type 0} (f : X → Y) (xs ys : List X) (i : ℕ) (a b : X) → i < length xs → i < length ys → a ≡ get_or xs i a → b ≡ get_or ys i b →
    f a ≡ f b → map f (take i xs) ≡ map f (take i ys) → map f (take (i + 1) xs) ≡ map f (take (i + 1) ys)
next_alike f xs ys i a b in_a in_b is_a is_b same before = map_more f xs i a in_a ∙ ap (λ x. map f (take i xs) ++ f x ∷ []) (sym is_a)
    ∙ ap₂ (λ l y. l ++ y ∷ []) before same ∙ ap (λ x. map f (take i ys) ++ f x ∷ []) is_b ∙ sym (map_more f ys i b in_b)

pub next_same : {X : Type 0} (xs ys : List X) (i : ℕ) (a b : X) → i < length xs → i < length ys → a ≡ get_or xs i a → b ≡ get_or ys i b →
    a ≡ b → take i xs ≡ take i ys → take (i + 1) xs ≡ take (i + 1) ys
next_same xs ys i a b in_a in_b is_a is_b same before = take_more xs i a in_a ∙ ap (λ x. take i xs ++ x ∷ []) (sym is_a)
    ∙ ap₂ (λ l y. l ++ y ∷ []) before same ∙ ap (λ x. take i ys ++ x ∷ []) is_b ∙ sym (take_more ys i b in_b)

-- the names that stay, and one more at the end
pub one_more : (names : List Name) (name : Name) → KeepsNames names (names ++ name ∷ [])
one_more names name n other is = by names n is
  where
    by : (names : List Name) (n : ℕ) → slice_get names n ≡ Some other → slice_get (names ++ name ∷ []) n ≡ Some other
    by [] n is = cc
    by (x ∷ names) zero is = is
    by (x ∷ names) (suc n) is = by names n is

pub at_the_end : (names : List Name) (name : Name) → slice_get (names ++ name ∷ []) (length names) ≡ Some name
at_the_end [] name = refl
at_the_end (x ∷ names) name = at_the_end names name

-- rows keep their names where names stay
pub still_owned : (old new : List Name) → KeepsNames old new → (owners : List ℕ) (rows : List LiveAllocation) → AreOwned old owners rows →
    AreOwned new owners rows
still_owned old new kept [] [] is = refl
still_owned old new kept [] (r ∷ rows) is = cc
still_owned old new kept (o ∷ owners) [] is = cc
still_owned old new kept (o ∷ owners) (r ∷ rows) is =
    let first : slice_get old o ≡ Some r.namespace = cc in
    let rest : map (slice_get old) owners ≡ map (λ (a : LiveAllocation). Some a.namespace) rows = cc in
    ap₂ (λ x xs. x ∷ xs) (kept o r.namespace first) (still_owned old new kept owners rows rest)

pub one_more_owned : (names : List Name) (owners : List ℕ) (rows : List LiveAllocation) (owner : ℕ) (row : LiveAllocation) →
    slice_get names owner ≡ Some row.namespace → AreOwned names owners rows → AreOwned names (owners ++ owner ∷ []) (rows ++ row ∷ [])
one_more_owned names owners rows owner row at is = map-append (slice_get names) owners (owner ∷ []) ∙ ap₂ (λ xs x. xs ++ x ∷ []) is at
    ∙ sym (map-append (λ (a : LiveAllocation). Some a.namespace) rows (row ∷ []))

-- rows with the same names in the same places, and all else the same, are the same
pub same_rows : (names : List Name) (owners : List ℕ) (xs ys : List LiveAllocation) → AreOwned names owners xs → AreOwned names owners ys →
    map without_name xs ≡ map without_name ys → xs ≡ ys
same_rows names owners xs ys is_a is_b same = by xs ys (sym is_a ∙ is_b) same
  where
    by : (xs ys : List LiveAllocation) → map (λ (a : LiveAllocation). Some a.namespace) xs ≡ map (λ (a : LiveAllocation). Some a.namespace) ys →
        map without_name xs ≡ map without_name ys → xs ≡ ys
    by [] [] e f = refl
    by [] (b ∷ ys) e f = cc
    by (a ∷ xs) [] e f = cc
    by (a ∷ xs) (b ∷ ys) e f =
        let named : a.namespace ≡ b.namespace = cc in
        let same : without_name a ≡ without_name b = cc in
        let number : a.number ≡ b.number = ap (λ x. x.0) same in
        let priority : a.priority ≡ b.priority = ap (λ x. x.1.0) same in
        let size : a.size ≡ b.size = ap (λ x. x.1.1) same in
        let names_left : map (λ (a : LiveAllocation). Some a.namespace) xs ≡ map (λ (a : LiveAllocation). Some a.namespace) ys = cc in
        let left : map without_name xs ≡ map without_name ys = cc in
        ap₂ (λ (x : LiveAllocation) xs. x ∷ xs) (λ i. record { namespace = named i; number = number i; priority = priority i; size = size i })
        (by xs ys names_left left)

-- what they take together, with one more
pub total_more : (rows : List LiveAllocation) (row : LiveAllocation) → total (λ a. a.size) (rows ++ row ∷ []) ≡ plus (total (λ a. a.size) rows) row.size
total_more rows row = same_amounts _ _ by
  where
    by : (r : Resource) → quantity r (total (λ (a : LiveAllocation). a.size) (rows ++ row ∷ [])) ≡
        quantity r (plus (total (λ (a : LiveAllocation). a.size) rows) row.size)
    by Cpu = let sums = sum_by-append (λ (a : LiveAllocation). a.size.cpu) rows (row ∷ []) in omega (arith, sums)
    by Memory = let sums = sum_by-append (λ (a : LiveAllocation). a.size.memory) rows (row ∷ []) in omega (arith, sums)
    by Disk = let sums = sum_by-append (λ (a : LiveAllocation). a.size.disk) rows (row ∷ []) in omega (arith, sums)

-- none has a lower priority, with one more
pub least_more : (rows : List LiveAllocation) (row : LiveAllocation) (least lower : ℕ) → lower ≡ min least row.priority →
    All (λ a. least ≤ a.priority) rows → All (λ a. lower ≤ a.priority) (rows ++ row ∷ [])
least_more rows row least lower is all = All-append (λ a. lower ≤ a.priority) rows (row ∷ [])
    (All-weaker (λ a. least ≤ a.priority) (λ a. lower ≤ a.priority) (λ a below. under a below) rows all)
    (All-cons (λ a. lower ≤ a.priority) row [] at_row (All-nil (λ a. lower ≤ a.priority)))
  where
    under : (a : LiveAllocation) → least ≤ a.priority → lower ≤ a.priority
    under a below = let first = min-le_left least row.priority in omega (arith, is)

    at_row : lower ≤ row.priority
    at_row = let second = min-le_right least row.priority in omega (arith, is)
