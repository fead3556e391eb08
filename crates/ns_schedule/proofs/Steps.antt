-- One step of a plan in the code is one step of its definition.
use Rattle.std.proofs.Common.{◌≡◌, ◌<◌, ℕ, zero, suc, List, [], ◌∷◌, length, take, get_or, map, Option, Some, None, ap, sym, ◌∙◌, arith, refl}
use Rattle.std.proofs.Math.ListN.{set}
use Rattle.std.specs.List.{HoldsAt, filter}
use Rattle.std.proofs.lemmas.List.Elements.{at_read}
use Rattle.std.specs.Option.{option_map}
use Rattle.ns_types.specs.declared.plan.Demand.{Demand}
use Rattle.ns_types.specs.declared.plan.Eviction.{Eviction}
use Rattle.ns_types.specs.declared.resources.Resources.{Resources}
use Rattle.ns_types.specs.declared.snapshot.QuotaSeen.{QuotaSeen}
use Rattle.ns_types.specs.Placing.Placement.{Candidate}
use Rattle.ns_types.specs.Placing.Planning.{Site, Choice, choice, after, placement_of, placed_one, placed_on, eviction_of, counts_for, update}
use Rattle.ns_types.specs.State.Resources.{plus, minus, total}
use Rattle.ns_schedule.specs.Chosen.{IsChosen, site}

update_is : {X : Type 0} (f : X → X) (xs : List X) (i : ℕ) (x : X) → i < length xs → x ≡ get_or xs i x → update i f xs ≡ set xs i (f x)
update_is f [] i x lt e = absurd (omega arith)
update_is f (y ∷ xs) zero x lt e = ap (λ z. f z ∷ xs) (sym e)
update_is f (y ∷ xs) (suc i) x lt e = ap (λ zs. y ∷ zs) (update_is f xs i x (omega arith) e)

pub next_is : (q : QuotaSeen) (d : Demand) (xs : List Candidate) (used now_used : Resources) (node n : ℕ) (x y : Candidate) (gone : List Eviction)
    → node < length xs → x ≡ get_or xs node x → IsChosen d.size xs node n x → gone ≡ map eviction_of (take n x.evictable)
    → now_used ≡ minus (plus used d.size) (total (λ a. a.size) (filter (counts_for q) (take n x.evictable)))
    → y ≡ placed_on d.size (take n x.evictable) x
    → placed_one q d (site xs used)
    ≡ Some (record { group = d.group; node = node; size = d.size; evictions = gone }, site (set xs node y) now_used)
next_is q d xs used now_used node n x y gone inside reads chosen gone_is used_is y_is =
    let ch : Choice = record { node = node; victims = take n x.evictable } in
    let changed : update node (placed_on d.size (take n x.evictable)) xs ≡ set xs node (placed_on d.size (take n x.evictable) x) =
    update_is (placed_on d.size (take n x.evictable)) xs node x inside reads in
    ap (option_map (λ (c : Choice). (placement_of d c, after q d.size c (site xs used)))) chosen.chosen
    ∙ rw (gone_is, used_is, y_is)
    (ap (λ (ys : List Candidate). Some (
      placement_of d ch,
      site ys
          (minus (plus used d.size) (total (λ a. a.size) (filter (counts_for q) ch.victims))),
    )) changed)

-- what a placement makes of the candidates
pub changed_at : (size : Resources) (xs : List Candidate) (node n : ℕ) (x y : Candidate) → node < length xs → x ≡ get_or xs node x
    → y ≡ placed_on size (take n x.evictable) x
    → HoldsAt (λ c. set xs node y ≡ update node (placed_on size (take n c.evictable)) xs) xs node
changed_at size xs node n x y inside reads y_is =
    at_read xs (λ c. set xs node y ≡ update node (placed_on size (take n c.evictable)) xs) node x inside reads
    (ap (set xs node) y_is ∙ sym (update_is (placed_on size (take n x.evictable)) xs node x inside reads))

none_mapped : {X Y : Type 0} (f : X → Y) (o : Option X) → option_map f o ≡ None → o ≡ None
none_mapped f None e = refl
none_mapped f (Some x) e = cc

-- where nothing was placed there was no choice
pub no_choice : (q : QuotaSeen) (d : Demand) (w w' : Site) → (placed_one q d w ≡ None) × (w' ≡ w) → choice d.size w'.candidates ≡ None
no_choice q d w w' h =
    ap (λ (v : Site). choice d.size v.candidates) h.1
    ∙ none_mapped (λ (c : Choice). (placement_of d c, after q d.size c w)) (choice d.size w.candidates) h.0
