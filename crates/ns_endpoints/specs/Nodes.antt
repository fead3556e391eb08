-- The step that a request about nodes asks for, or the refusal that needs no state.
use Rattle.std.specs.Prelude.{List, ℕ, Result, Ok}
use Rattle.ns_types.specs.declared.refusal.Refusal.{Refusal}
use Rattle.ns_types.specs.declared.step.NodeCommand.{NodeCommand}
use Rattle.ns_types.specs.declared.step.Step.{Step}
use Rattle.ns_types.specs.Wire.Http.{Asked}
use Rattle.ns_types.specs.State.Names.{Name}
use Rattle.ns_documents.specs.Nodes.{node_in, node_status_in, eligibility_in, report_in}
use Rattle.ns_json.specs.Reading.{◌>>=◌, body_in}
use Rattle.ns_endpoints.specs.Parts.{bearer_in, fourth_part, sixth_part}

-- the pool is the path's fourth part, and the node its sixth
unfoldable pub node_of : NodeCommand → Asked → Result Step Refusal
node_of command a = do
  secret ← bearer_in a
  Ok (Step.Node (fourth_part a) secret command)

-- a command about the node, with a document
unfoldable pub node_by : {D : Type 0} → (List ℕ → Result D Refusal) → (Name → D → NodeCommand) → Asked → Result Step Refusal
node_by reads command a = do
  document ← reads a.body
  node_of (command (sixth_part a) document) a

abbrev pub nodes_listed : Asked → Result Step Refusal
nodes_listed = node_of NodeCommand.ListNodes

abbrev pub node_put : Asked → Result Step Refusal
node_put = node_by (body_in node_in) NodeCommand.PutNode

abbrev pub node_deleted : Asked → Result Step Refusal
node_deleted a = node_of (NodeCommand.DeleteNode (sixth_part a)) a

abbrev pub status_put : Asked → Result Step Refusal
status_put = node_by (body_in node_status_in) NodeCommand.SetStatus

abbrev pub eligibility_put : Asked → Result Step Refusal
eligibility_put = node_by (body_in eligibility_in) NodeCommand.SetEligible

abbrev pub report_put : Asked → Result Step Refusal
report_put = node_by (body_in report_in) NodeCommand.Report
