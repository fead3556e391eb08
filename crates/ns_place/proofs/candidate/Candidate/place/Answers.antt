use Rattle.std.proofs.Common.{◌≡◌, ◌≤◌, ◌+◌, ◌-◌, ℕ, Bor, List, length, map, take, drop, ap, sym, ◌∙◌, subst, arith}
use Rattle.std.proofs.lemmas.List.{drop-drop, length-drop, length-map, take-map}
use Rattle.ns_types.specs.declared.snapshot.LiveAllocation.{LiveAllocation}
use Rattle.ns_types.specs.declared.resources.Resources.{Resources}
use Rattle.ns_types.specs.Placing.Placement.{Candidate}
use Rattle.ns_types.specs.State.Resources.{plus, minus, total}
use Rattle.ns_place.specs.Amounts.{IsCountedFreed}
use Rattle.ns_place.proofs.Sums.{total_moved_below}
use Rattle.ns_place.proofs.candidate.Candidate.place.Goals as goal

pub invariant_of-self : goal.invariant_of-self
invariant_of-self c =
    let seen = λ (a : Bor LiveAllocation). a.now in
    let size_of = λ (a : LiveAllocation). a.size in
    let all = map seen c.self.inside.evictable.items in
    let e = c.self.inside.evicted in
    let v = c.args.victims in
    let node = c.args.self.now in
    let rest_is : drop e all ≡ node.evictable = ap (λ (n : Candidate). n.evictable) c.self.view_is in
    let left_is : c.self.inside.left ≡ node.left = ap (λ (n : Candidate). n.left) c.self.view_is in
    let len : length node.evictable ≡ length c.self.inside.evictable.items - e =
    sym (ap length rest_is) ∙ (length-drop e all ∙ ap (λ (n : ℕ). n - e) (length-map c.self.inside.evictable.items seen)) in
    let front : map seen c.split_at.result.0.now ≡ take v node.evictable =
    ap (map seen) c.split_at.ensures.front ∙ (sym (take-map seen v c.evictable.result.now) ∙ ap (take v) c.evictable.ensures.all) in
    let freed : c.total-freed.result ≡ total size_of (take v node.evictable) = c.total-freed.ensures ∙ ap (total size_of) front in
    let now_left : c.minus-self-inside.result ≡ minus (plus node.left (total size_of (take v node.evictable))) c.args.size =
    c.minus-self-inside.ensures ∙ ap (λ (r : Resources). minus r c.args.size)
    (c.plus.ensures ∙ (ap (λ (r : Resources). plus r c.total-freed.result) left_is ∙ ap (plus node.left) freed)) in
    let now_rest : drop (e + v) all ≡ drop v node.evictable = sym (drop-drop v e all) ∙ ap (drop v) rest_is in
    let inside : e + v ≤ length c.self.inside.evictable.items = omega (arith, c.self.invariant.0, c.requires.few, len) in
    let below = total_moved_below size_of node.evictable v node.left c.args.size c.evictable.ensures.counted in (
      inside,
      subst (λ (r : Resources). IsCountedFreed r (drop (e + v) all)) (sym now_left)
          (subst (λ (rest : List LiveAllocation). IsCountedFreed (minus (plus node.left (total size_of (take v node.evictable))) c.args.size) rest)
          (sym now_rest) below),
    )
