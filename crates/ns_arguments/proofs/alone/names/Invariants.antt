use Rattle.std.proofs.Common.{◌≡◌, map, true, take}
use Rattle.std.specs.List.{list_all}
use Rattle.ns_types.specs.State.Name.{is_name}
use Rattle.ns_arguments.proofs.alone.names.Given as goal

-- the texts so far are names, and they are copied
abbrev pub invariant-loop-text : goal.invariant-loop-text
invariant-loop-text l =
    let texts = take l.text-index (map (λ s. s.now) l.fn.given) in
    (list_all (is_name l.fn.kind) texts ≡ true) × (l.names ≡ texts)
