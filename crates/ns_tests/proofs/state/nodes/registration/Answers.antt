use Rattle.std.specs.Prelude.{List, [], IsTrue, codes}
use Rattle.std.proofs.Common.{sym, subst}
use Rattle.std.specs.Cmp.Derive.{both_true}
use Rattle.ns_types.specs.declared.name.NameKind.TheVariants as NameKind
use Rattle.ns_types.specs.declared.node.Attribute.{Attribute}
use Rattle.ns_types.specs.declared.resources.Resources.{Resources}
use Rattle.ns_types.specs.declared.step.NodeCommand.TheVariants as NodeCommand
use Rattle.ns_types.specs.Asking.Good.{IsGoodNodeCommand}
use Rattle.ns_types.specs.State.Limits.{is_amount}
use Rattle.ns_types.specs.State.Name.{is_name}
use Rattle.ns_types.specs.State.Names.{Name}
use Rattle.ns_types.proofs.Named.{names, one_name}
use Rattle.ns_types.proofs.TableRows.{entries_empty}
use Rattle.ns_tests.proofs.state.nodes.registration.Goals as goal

abbrev IsGood : Resources → Name → Name → List Attribute → Type 0
IsGood size node class attributes = IsGoodNodeCommand (NodeCommand.PutNode node
    (record { class = class; attributes = attributes; capacity = size }))

good : (size : Resources) (node : Name) → IsTrue (is_name NameKind.Node node) → IsTrue (is_amount size) → IsGood size node (codes "linux") []
good size node named amount = (both_true {s = is_name NameKind.Node node} {t = is_amount size} named amount, entries_empty names one_name)

pub new-requires-2 : goal.new-requires-2
new-requires-2 g c =
    let size = c.args.capacity in
    subst (λ (node : Name). IsGood size node c.text.result c.new.result) (sym c.copied.ensures)
    (subst (λ (class : Name). IsGood size c.args.node.now class c.new.result) (sym c.text.ensures)
    (subst (λ (attributes : List Attribute). IsGood size c.args.node.now (codes "linux") attributes) (sym c.new.ensures)
    (good size c.args.node.now c.requires.name c.requires.capacity)))
