use Rattle.std.proofs.Common.{◌≡◌, ◌∙◌, cond, subst, sym, ap, arith, get_or}
use Rattle.std.specs.Prelude.{is_some}
use Rattle.std.specs.FinMap.Entries.{find}
use Rattle.keyed.specs.Table.{flat}
use Rattle.std.specs.List.{remove}
use Rattle.keyed.specs.Slots.{Knows, without}
use Rattle.keyed.proofs.Known.{known_removed}
use Rattle.keyed.proofs.Places.{inside_stands}
use Rattle.keyed.proofs.Counted.{size, size_none, left_sorted, left_counted}
use Rattle.std.proofs.lemmas.List.{get_or_default}
use Rattle.keyed.proofs.slots.Slots.clear_slot.Goals as goal

pub invariant_of-self : goal.invariant_of-self
invariant_of-self g c =
    let law = left_counted g.K.Ord.cmp g.met.K.Ord.total c.args.key.now c.self.inside.slots.items c.in-Some.i
    (inside_stands g.K.Ord.cmp c.args.key.now _ _ c.in-Some.i c.self.view_is c.in-Some.ensures)
    c.remove.result c.remove.ensures.value c.self.inside.filled c.self.invariant.0.0 c.self.invariant.0.1 in
    let held : size c.remove.result.1 ≡ 0 =
    ap (λ e. size e.1) (c.remove.ensures.value ∙ get_or_default c.self.inside.slots.items c.in-Some.i c.remove.result c.index.result.now
    (inside_stands g.K.Ord.cmp c.args.key.now _ _ c.in-Some.i c.self.view_is c.in-Some.ensures).within ∙ sym c.index.ensures) ∙
    size_none _ c.if-is_none.ensures in
    rw c.remove.ensures.items (
      (
        left_sorted g.K.Ord.cmp g.met.K.Ord.total c.args.key.now c.self.inside.slots.items c.in-Some.i
            (inside_stands g.K.Ord.cmp c.args.key.now _ _ c.in-Some.i c.self.view_is c.in-Some.ensures)
            c.remove.result c.remove.ensures.value c.self.inside.filled c.self.invariant.0.0 c.self.invariant.0.1,
        omega arith,
      ),
      subst (λ known. Knows known (remove c.self.inside.slots.items c.in-Some.i)) (sym c.remove-then-is_none.ensures)
          (known_removed c.self.inside.index c.self.inside.slots.items c.in-Some.i c.self.invariant.1),
    )

pub returns-then-is_none : goal.returns-then-is_none
returns-then-is_none g c =
    let looked : is_some (flat (find g.K.Ord.cmp c.args.key.now c.args.self.now)) ≡ is_some c.index.result.now.1 =
    ap (λ x. is_some (flat x)) (c.in-Some.ensures.find_is c.index.result.now) ∙
    sym (ap (λ e. is_some e.1) c.index.ensures ∙ ap (λ es. is_some (get_or es c.in-Some.i c.index.result.now).1) c.self.view_is) in
    c.remove.ensures.items ∙ (inside_stands g.K.Ord.cmp c.args.key.now _ _ c.in-Some.i c.self.view_is c.in-Some.ensures).without_is ∙
    ap (without g.K.Ord.cmp c.args.key.now) c.self.view_is ∙
    sym (ap (λ b. cond b c.args.self.now (without g.K.Ord.cmp c.args.key.now c.args.self.now)) (looked ∙ c.if-is_none.ensures))

pub returns-else-is_none : goal.returns-else-is_none
returns-else-is_none g c =
    let looked : is_some (flat (find g.K.Ord.cmp c.args.key.now c.args.self.now)) ≡ is_some c.index.result.now.1 =
    ap (λ x. is_some (flat x)) (c.in-Some.ensures.find_is c.index.result.now) ∙
    sym (ap (λ e. is_some e.1) c.index.ensures ∙ ap (λ es. is_some (get_or es c.in-Some.i c.index.result.now).1) c.self.view_is) in
    sym (ap (λ b. cond b c.args.self.now (without g.K.Ord.cmp c.args.key.now c.args.self.now)) (looked ∙ c.if-is_none.ensures))

pub returns-in_default : goal.returns-in_default
returns-in_default g c =
    sym c.in_default.ensures.without_is
    ∙ sym (ap (λ x. cond (is_some (flat x)) c.args.self.now (without g.K.Ord.cmp c.args.key.now c.args.self.now)) c.in_default.ensures.find_is)
