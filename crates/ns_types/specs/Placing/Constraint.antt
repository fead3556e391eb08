-- Which nodes meet a job's constraints, and which node classes the constraints rule out.
-- Nomad's page on the constraint block of a job specification.
use Rattle.std.specs.Prelude.{Bool, true, false, not, ◌&&◌, List, Option, Some, None, find, option_map}
use Rattle.std.specs.List.{list_all, list_any}
use Rattle.std.specs.Str.{bytes_eq}
use Rattle.ns_types.specs.declared.job.Constraint.{Constraint}
use Rattle.ns_types.specs.declared.job.Operand.{Operand}
use Rattle.ns_types.specs.declared.job.Target.{Target}
use Rattle.ns_types.specs.declared.node.Node.{Node}
use Rattle.ns_types.specs.State.Names.{Name}
use Rattle.ns_types.specs.State.Rows.{is_free, is_unique}

-- the value of an attribute, if the node has it
abbrev pub attribute_of : Node → Name → Option Name
attribute_of n key = option_map (λ a. a.value) (find (λ a. bytes_eq a.key key) n.offer.attributes)

abbrev pub target_value : Target → Name → Node → Option Name
target_value Target.NodeClass name n = Some n.offer.class
target_value Target.NodeName name n = Some name
target_value (Target.Attribute key) name n = attribute_of n key

-- an absent value equals no text
abbrev pub compares : Operand → Option Name → Name → Bool
compares Operand.Equal (Some value) text = bytes_eq value text
compares Operand.Equal None text = false
compares Operand.NotEqual (Some value) text = not (bytes_eq value text)
compares Operand.NotEqual None text = true

-- the constraint holds on this node, which has that name
abbrev pub holds : Name → Node → Constraint → Bool
holds name n c = compares c.operand (target_value c.target name n) c.value

-- the node is ready and eligible, and meets all constraints
abbrev pub is_feasible : List Constraint → Name → Node → Bool
is_feasible constraints name n = is_free n && list_all (holds name n) constraints

-- the target is not part of a node's class, so a constraint on it escapes classes
abbrev pub target_escapes : Target → Bool
target_escapes Target.NodeClass = false
target_escapes Target.NodeName = true
target_escapes (Target.Attribute key) = is_unique key

abbrev pub escapes : Constraint → Bool
escapes c = target_escapes c.target

-- a constraint that does not escape fails on the node, and so on its whole class
abbrev pub is_class_infeasible : List Constraint → Name → Node → Bool
is_class_infeasible constraints name n = list_any (λ c. not (escapes c) && not (holds name n c)) constraints
