use Rattle.std.proofs.Common.{◌≡◌, ◌≤◌, ◌<◌, ℕ, Bool, true, false, Bor, List, length, take, map, get_or}
use Rattle.std.proofs.Common.{ap, sym, ◌∙◌, subst, arith, below_more}
use Rattle.std.proofs.lemmas.Bool.{cond-true}
use Rattle.std.proofs.lemmas.List.{get_or-map, length-map}
use Rattle.ns_types.specs.declared.snapshot.LiveAllocation.{LiveAllocation}
use Rattle.ns_types.specs.declared.resources.Resources.{Resources}
use Rattle.ns_types.specs.Placing.Placement.{Candidate}
use Rattle.ns_types.specs.Placing.Preemption.{makes_room}
use Rattle.ns_types.specs.State.Resources.{plus, total, is_within}
use Rattle.ns_place.proofs.Sums.{total_more, total_more_below}
use Rattle.ns_place.proofs.Prefix.{shortest_prefix_some, shortest_prefix_none}
use Rattle.ns_preempt.specs.Fewest.{IsFewest}
use Rattle.ns_preempt.proofs.prefix.victims.Goals as goal

-- the i-th reference points to the i-th allocation
read : (rs : List (Bor LiveAllocation)) (ys : List LiveAllocation) (i : ℕ) (r : Bor LiveAllocation) → map (λ a. a.now) rs ≡ ys → i < length rs
    → (get_or rs i r).now ≡ get_or ys i r.now
read rs ys i r all lt =
    sym (get_or-map (λ (a : Bor LiveAllocation). a.now) rs i r r.now lt) ∙ ap (λ (zs : List LiveAllocation). get_or zs i r.now) all

same_length : (rs : List (Bor LiveAllocation)) (ys : List LiveAllocation) → map (λ a. a.now) rs ≡ ys → length rs ≡ length ys
same_length rs ys all = sym (length-map rs (λ (a : Bor LiveAllocation). a.now)) ∙ ap length all

-- what the test of what is freed says of the first n
enough : (size : Resources) (node : Candidate) (n : ℕ) (freed : Resources) (tested : Bool) (b : Bool)
    → freed ≡ plus node.left (total (λ a. a.size) (take n node.evictable)) → tested ≡ is_within size freed → tested ≡ b
    → makes_room size node (take n node.evictable) ≡ b
enough size node n freed tested b is test was = sym (ap (is_within size) is) ∙ (sym test ∙ was)

found : (size : Resources) (node : Candidate) (n : ℕ) → node.feasible ≡ true → n ≤ length node.evictable
    → makes_room size node (take n node.evictable) ≡ true → ((m : ℕ) → m < n → makes_room size node (take m node.evictable) ≡ false)
    → IsFewest size node n
found size node n feasible le ok short = record {
  within = le;
  room = ok;
  fewest = cond-true _ _ _ feasible ∙ shortest_prefix_some (makes_room size node) node.evictable n le ok short;
}

pub returns-then-is_within : goal.returns-then-is_within
returns-then-is_within c =
    let node = c.args.candidate.now in
    let len : length c.evictable-evictable.result.now ≡ length node.evictable = same_length _ _ c.evictable-evictable.ensures.all in
    found c.args.size node c.loop-i.i (sym c.is_feasible.ensures ∙ c.if-not-is_feasible.false) (omega arith)
    (enough c.args.size node c.loop-i.i c.loop-i.freed c.is_within.result true c.loop-i.invariant.freed c.is_within.ensures c.if-is_within.true)
    c.loop-i.invariant.short

pub plus-freed-requires : goal.plus-freed-requires
plus-freed-requires c =
    let node = c.args.candidate.now in
    let all = c.evictable-evictable.ensures.all in
    let len : length c.evictable-evictable.result.now ≡ length node.evictable = same_length _ _ all in
    let at = read _ node.evictable c.loop-i.i c.index-evictable-i.result all c.loop-i-test.true in
    let below = total_more_below (λ (a : LiveAllocation). a.size) node.evictable c.loop-i.i c.index-evictable-i.result.now (omega arith) node.left
    c.evictable-evictable.ensures.counted in
    rw (at, c.loop-i.invariant.freed) below

pub loop-i-preserved : goal.loop-i-preserved
loop-i-preserved c =
    let node = c.args.candidate.now in
    let all = c.evictable-evictable.ensures.all in
    let len : length c.evictable-evictable.result.now ≡ length node.evictable = same_length _ _ all in
    let at = read _ node.evictable c.loop-i.i c.index-evictable-i.result all c.loop-i-test.true in
    record {
      freed =
          c.plus-freed.ensures
          ∙ rw (at, c.loop-i.invariant.freed)
          (sym (total_more (λ (a : LiveAllocation). a.size) node.evictable c.loop-i.i c.index-evictable-i.result.now (omega arith) node.left));
      short = below_more _ _ c.loop-i.invariant.short
          (enough c.args.size node c.loop-i.i c.loop-i.freed c.is_within.result false c.loop-i.invariant.freed c.is_within.ensures c.if-is_within.false);
    }

pub returns-then-is_within-2 : goal.returns-then-is_within-2
returns-then-is_within-2 c =
    let node = c.args.candidate.now in
    let n = length c.evictable-evictable.result.now in
    let len : n ≡ length node.evictable = same_length _ _ c.evictable-evictable.ensures.all in
    let at_end : c.loop-i.i ≡ n = omega arith in
    subst (λ (m : ℕ). IsFewest c.args.size node m) at_end
    (found c.args.size node c.loop-i.i (sym c.is_feasible.ensures ∙ c.if-not-is_feasible.false) (omega arith)
    (enough c.args.size node c.loop-i.i c.loop-i.freed c.is_within-2.result true c.loop-i.invariant.freed c.is_within-2.ensures c.if-is_within-2.true)
    c.loop-i.invariant.short)

pub returns-else-is_within-2 : goal.returns-else-is_within-2
returns-else-is_within-2 c =
    let node = c.args.candidate.now in
    let n = length c.evictable-evictable.result.now in
    let len : n ≡ length node.evictable = same_length _ _ c.evictable-evictable.ensures.all in
    let last = enough c.args.size node c.loop-i.i c.loop-i.freed c.is_within-2.result false c.loop-i.invariant.freed c.is_within-2.ensures
    c.if-is_within-2.false in
    cond-true _ _ _ (sym c.is_feasible.ensures ∙ c.if-not-is_feasible.false)
    ∙ shortest_prefix_none (makes_room c.args.size node) node.evictable
    (λ m le. below_more (λ (k : ℕ). makes_room c.args.size node (take k node.evictable) ≡ false) c.loop-i.i c.loop-i.invariant.short last m
    (omega arith))
