use Rattle.std.proofs.Common.{ap, sym, take, take_all, ◌∙◌, ◌++◌}
use Rattle.std.specs.FinMap.{get}
use Rattle.std.specs.Option.{option_copied}
use Rattle.std.specs.Prelude.{filter}
use Rattle.ns_types.specs.Access.Rights.{is_of_kind, rules_of}
use Rattle.ns_acl.specs.Gathered.{gathered}
use Rattle.ns_acl.proofs.Counting.{names-more, rules-absent, rules-there}
use Rattle.ns_acl.proofs.Slotted.{row_found}
use Rattle.ns_acl.proofs.Standing.{granted_is}
use Rattle.ns_acl.proofs.acl.Acl.granted.Goals.{in-Some, in_default}
use Rattle.ns_acl.proofs.acl.Acl.granted.Goals as goal

pub loop-name-init : goal.loop-name-init
loop-name-init c = c.new-gathered.ensures c.args.target.now

pub loop-name-preserved : goal.loop-name-preserved
loop-name-preserved c =
    let acl = c.args.self.now in
    let kind = c.args.kind in
    let name = c.name-item.result in
    let before = take c.loop-name.name-index c.args.policies.now in
    let more = names-more c.args.policies.now c.loop-name.name-index name c.loop-name-test.true c.name-item.is in
    elim c.match-get.branch [
      | in-Some w ↦
          let at = ap (λ acl. get acl.policies name) (sym c.self.view_is) ∙ row_found _ _ _ (sym c.get.ensures ∙ ap option_copied w.in-Some.is) in
          w.gathered-is ∙ w.with_rules-gathered.ensures (rules_of acl kind before) c.loop-name.invariant
          ∙ ap (gathered c.args.target.now) (ap (λ rules. rules_of acl kind before ++ filter (is_of_kind kind) rules) w.as_slice.ensures ∙
          sym (rules-there acl kind before name w.in-Some.policy.now at) ∙ ap (rules_of acl kind) (sym more))
      | in_default w ↦
          let at = ap (λ acl. get acl.policies name) (sym c.self.view_is) ∙ row_found _ _ _ (sym c.get.ensures ∙ ap option_copied w.in_default.is) in
          w.gathered-is ∙ c.loop-name.invariant ∙
          ap (gathered c.args.target.now) (sym (rules-absent acl kind before name at) ∙ ap (rules_of acl kind) (sym more))
    ]

pub returns : goal.returns
returns c = c.grants.ensures c.args.target.now (rules_of c.args.self.now c.args.kind c.args.policies.now)
    (c.loop-name.invariant ∙ ap (λ names. gathered c.args.target.now (rules_of c.args.self.now c.args.kind names))
    (take_all c.loop-name.name-index c.args.policies.now c.loop-name-test.false))
    ∙ granted_is c.args.self.now c.args.kind c.args.policies.now c.args.target.now
