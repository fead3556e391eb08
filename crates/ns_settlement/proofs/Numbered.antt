-- Classes of pools that get their numbers one by one.
use Rattle.std.specs.Prelude.{◌≡◌, ◌+◌, ◌≤◌, Bool, true, false, cond, List, [], ◌∷◌, Option, Some, None, length, map, filter, option_map, IfSome, ◌<◌}
use Rattle.std.proofs.Common.{refl, sym, ap, ◌∙◌, subst, arith}
use Rattle.std.specs.FinMap.{FinMap, get, same_map}
use Rattle.keyed.specs.Table.{row_at}
use Rattle.ns_types.specs.declared.node.Class.{Class}
use Rattle.ns_types.specs.State.Names.{Name, ByName, name_cmp, same_name}
use Rattle.ns_types.specs.State.Rows
use Rattle.ns_types.proofs.Named.{names, one_name, same_name_refl}
use Rattle.ns_types.proofs.Tables.{get-map_rows}
use Rattle.ns_types.proofs.Tests.{not_Some, same_Some}
use Rattle.ns_change.specs.Settled.{classes_in}
use Rattle.ns_settlement.specs.Committed.{ClassPut, HaveClassRoom, KeepsNodes, numbered_pools, with_classes}
use Rattle.ns_settlement.specs.Owners.{ChangesRow, owners}
use Rattle.ns_settlement.proofs.Owned.{at_each, by_turn, get-owners, if_there}
use Rattle.ns_tables.specs.declared.tables.PoolRows.{PoolRows}
use Rattle.ns_tables.specs.World.{pool_of}

abbrev Table : Type 0
Table = FinMap name_cmp (Option PoolRows)

-- once the classes of es have their numbers as well, the pools are `all`
pub record Unnumbered (m : Table) (es : List (Name × Class)) (all : ByName Rows.PoolRows) (before : Table) : Type 0 where
  pub whole : (q : Name) → option_map (with_classes (classes_in q es)) (option_map pool_of (row_at m q)) ≡ get all q
  pub nodes : KeepsNodes before m
  pub room : HaveClassRoom es m

pub all_unnumbered : (m : Table) (es rooms : List (Name × Class)) → es ≡ rooms → HaveClassRoom rooms m →
    Unnumbered m es (numbered_pools rooms (owners pool_of m)) m
all_unnumbered m es rooms is room = record {
  whole = λ q. ap (λ es. option_map (with_classes (classes_in q es)) (option_map pool_of (row_at m q))) is
      ∙ ap (option_map (with_classes (classes_in q rooms))) (sym (get-owners pool_of m q))
      ∙ sym (get-map_rows names one_name (λ name pool. with_classes (classes_in name rooms) pool) (owners pool_of m) q);
  nodes = λ q. refl;
  room = subst (λ es. HaveClassRoom es m) (sym is) room;
}

idle : (r : Option Rows.PoolRows) → option_map (with_classes []) r ≡ r
idle None = refl
idle (Some pool) = refl

pub all_numbered : (m : Table) (es : List (Name × Class)) (all : ByName Rows.PoolRows) (before : Table) → es ≡ [] → Unnumbered m es all before → owners
    pool_of m ≡ all
all_numbered m es all before is h = same_map names one_name _ _ (λ q. get-owners pool_of m q ∙ sym (idle _)
    ∙ ap (λ es. option_map (with_classes (classes_in q es)) (option_map pool_of (row_at m q))) (sym is) ∙ h.whole q)

module _ (old new : Table) (k : Name) (class : Class) (es rest : List (Name × Class)) (all : ByName Rows.PoolRows) (before : Table) (is : es ≡ (k, class) ∷
    rest)
    (h : Unnumbered old es all before) where
  classes : (q : Name) (b : Bool) → same_name q k ≡ b → classes_in q es ≡ cond b (class ∷ classes_in q rest) (classes_in q rest)
  classes q b e = ap (classes_in q) is ∙ ap (λ b. map (λ r. r.1) (cond b ((k, class) ∷ filter (λ r. same_name q r.0) rest) (filter (λ r. same_name q r.0)
      rest))) e ∙ by b
    where
      by : (b : Bool) → map (λ r. r.1) (cond b ((k, class) ∷ filter (λ r. same_name q r.0) rest) (filter (λ r. same_name q r.0) rest))
          ≡ cond b (class ∷ classes_in q rest) (classes_in q rest)
      by true = refl
      by false = refl

  here : classes_in k es ≡ class ∷ classes_in k rest
  here = classes k true (same_name_refl k)

  other : (q : Name) → same_name q k ≡ false → classes_in q es ≡ classes_in q rest
  other q e = classes q false e

  pub place : IfSome (row_at old k) (λ pool. 0 < pool.classes.room)
  place = if_there _ (row_at old k) (λ pool at.
      let room : length (class ∷ classes_in k rest) ≤ pool.classes.room = subst (λ cs. length cs ≤ pool.classes.room) here (h.room k pool at) in
      omega arith)

  pub numbered : ChangesRow (ClassPut class) k old new → Unnumbered new rest all before
  numbered put = record {
    whole = at_each _ k
        (by_turn _ (λ r s. option_map (with_classes (classes_in k rest)) (option_map pool_of s)
        ≡ option_map (with_classes (class ∷ classes_in k rest)) (option_map pool_of r)) refl
        (λ a b is. ap (λ pool. Some (with_classes (classes_in k rest) pool)) is.pool) (row_at old k) (row_at new k) put.here
        ∙ ap (λ cs. option_map (with_classes cs) (option_map pool_of (row_at old k))) (sym here) ∙ h.whole k)
        (λ q e. (λ i. option_map (with_classes (sym (other q e) i)) (option_map pool_of (put.others q e i))) ∙ h.whole q);
    nodes = at_each _ k
        (by_turn _ (λ r s. option_map (λ pool. pool.nodes) s ≡ option_map (λ pool. pool.nodes) r) refl (λ a b is. ap Some is.nodes) (row_at old k)
        (row_at new k) put.here ∙ h.nodes k)
        (λ q e. ap (option_map (λ pool. pool.nodes)) (put.others q e) ∙ h.nodes q);
    room = at_each _ k (λ pool at. by_turn (ClassPut class) (λ r s. row_at old k ≡ r → s ≡ Some pool → length (classes_in k rest) ≤ pool.classes.room)
        (λ _ no. absurd (not_Some pool no))
        (λ a b is at there.
        let room : length (class ∷ classes_in k rest) ≤ a.classes.room = subst (λ cs. length cs ≤ a.classes.room) here (h.room k a at) in
        let more : a.classes.room ≤ pool.classes.room + 1 = subst (λ p. a.classes.room ≤ p.classes.room + 1) (same_Some b pool there) is.room in
        omega arith)
        (row_at old k) (row_at new k) put.here refl at)
        (λ q e pool at. subst (λ cs. length cs ≤ pool.classes.room) (other q e) (h.room q pool (sym (put.others q e) ∙ at)));
  }
