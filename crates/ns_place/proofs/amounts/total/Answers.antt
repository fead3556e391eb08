use Rattle.std.proofs.Common.{◌≡◌, ◌<◌, ℕ, Bor, length, map, get_or, take, ap, sym, ◌∙◌, subst}
use Rattle.std.proofs.lemmas.List.{get_or-map, length-map, take-map}
use Rattle.ns_types.specs.declared.snapshot.LiveAllocation.{LiveAllocation}
use Rattle.ns_types.specs.declared.resources.Resources.{Resources}
use Rattle.ns_types.specs.State.Resources.{IsCounted, plus, total}
use Rattle.ns_place.proofs.Sums.{total_next_below}
use Rattle.ns_place.proofs.amounts.total.Goals as goal

pub plus-sum-requires : goal.plus-sum-requires
plus-sum-requires c =
    let rs = c.args.allocations.now in
    let seen = λ (a : Bor LiveAllocation). a.now in
    let size_of = λ (a : LiveAllocation). a.size in
    let xs = map seen rs in
    let i = c.loop-allocation.allocation-index in
    let r = c.allocation-item.result in
    let inside : i < length xs = subst (λ (n : ℕ). i < n) (sym (length-map rs seen)) c.loop-allocation-test.true in
    let reads : r.now ≡ get_or xs i r.now =
    ap seen c.allocation-item.is ∙ sym (get_or-map seen rs i r r.now c.loop-allocation-test.true) in
    let so_far : c.loop-allocation.sum ≡ total size_of (take i xs) =
    c.loop-allocation.invariant ∙ ap (total size_of) (sym (take-map seen i rs)) in
    subst (λ (s : Resources). IsCounted (plus s r.now.size)) (sym so_far)
    (total_next_below size_of xs i r.now inside reads c.requires)
