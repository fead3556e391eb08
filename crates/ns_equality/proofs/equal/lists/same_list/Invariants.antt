use Rattle.std.proofs.Common.{◌≡◌, length}
use Rattle.std.specs.Iterator.Adapters.{zip_first, zip_second}
use Rattle.std.specs.Slice.Iter.{iter_rest}
use Rattle.ns_equality.proofs.equal.lists.same_list.Given as goal

-- what is left of one is what is left of the other exactly if the lists are the same
abbrev pub invariant-loop-x : goal.invariant-loop-x
invariant-loop-x g l =
    let xs = iter_rest (zip_first l.x-iterator) in
    let ys = iter_rest (zip_second l.x-iterator) in
    (length xs ≡ length ys) × (xs ≡ ys → l.a ≡ l.b) × (l.a ≡ l.b → xs ≡ ys)
