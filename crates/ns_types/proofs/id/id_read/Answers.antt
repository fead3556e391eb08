use Rattle.std.proofs.Common.{◌≡◌, None, Some, sym, ap, ◌∙◌, refl, option_map}
use Rattle.std.specs.Int.{w128, from_be_bytes}
use Rattle.ns_types.specs.State.Id.{uuid_number}
use Rattle.ns_types.proofs.Ids.{refused, none_at, written_at, id_text-number, no_id}
use Rattle.ns_types.proofs.id.id_read.Goals as goal

pub returns-in_default-clause-none : goal.returns-in_default-clause-none
returns-in_default-clause-none c =
    let none : uuid_number c.args.text.now ≡ None = refused c.parse_str.result c.args.text.now c.parse_str.ensures.ok c.in_default.not-Ok in
    λ n h e. no_id c.args.text.now c.args.kind n none e

pub returns-in_default-clause-written : goal.returns-in_default-clause-written
returns-in_default-clause-written c =
    let none : uuid_number c.args.text.now ≡ None = refused c.parse_str.result c.args.text.now c.parse_str.ensures.ok c.in_default.not-Ok in
    λ n h e. absurd (no_id c.args.text.now c.args.kind n none (ap uuid_number e ∙ id_text-number c.args.kind n h))

pub returns-clause-none : goal.returns-clause-none
returns-clause-none c =
    let number : uuid_number c.args.text.now ≡ Some (from_be_bytes w128 c.in-Ok.id) = ap (option_map (from_be_bytes w128)) (sym c.in-Ok.ensures.bytes) in
    rw c.then_some.ensures (none_at _ c.args.kind c.args.text.now _ _ number (rw (← c.number.ensures, c.as_u64_pair-high.ensures.high) refl))

pub returns-clause-written : goal.returns-clause-written
returns-clause-written c =
    let number : uuid_number c.args.text.now ≡ Some (from_be_bytes w128 c.in-Ok.id) = ap (option_map (from_be_bytes w128)) (sym c.in-Ok.ensures.bytes) in
    rw c.then_some.ensures (written_at _ c.args.kind c.args.text.now _ _ number (rw (← c.number.ensures, c.as_u64_pair-high.ensures.high) refl)
    c.as_u64_pair-high.ensures.low)
