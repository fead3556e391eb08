-- A namespace with a list of pools and a list of quotas: the state of a server that has it alone, the steps that are its own,
-- and what isolation requires of a run.
use Rattle.std.specs.Prelude.{◌≡◌, Bool, true, false, ◌&&◌, if◌then◌else◌, List, [], ◌∷◌, filter, Err}
use Rattle.std.specs.FinMap.{retain_keys}
use Rattle.ns_types.specs.declared.refusal.Refusal.{Refusal}
use Rattle.ns_types.specs.declared.step.AdminCommand.{AdminCommand}
use Rattle.ns_types.specs.declared.step.NodeCommand.{NodeCommand}
use Rattle.ns_types.specs.declared.step.Step.{Step}
use Rattle.ns_types.specs.Access.Sharing.{is_apart, names_within}
use Rattle.ns_types.specs.Asking.Admins.{is_full}
use Rattle.ns_types.specs.State.Names.{Name, same_name, has_name}
use Rattle.ns_types.specs.State.Rows.{State, World}
use Rattle.ns_types.specs.Steps.{Answer, said, after}

-- ---- a choice of owners

-- the chosen owners: namespaces, pools and quotas
pub record Part : Type 0 where
  pub spaces : Name → Bool
  pub pools : Name → Bool
  pub quotas : Name → Bool

-- the rows of the chosen owners, and the queue entries of the chosen namespaces
abbrev pub alone_in : Part → World → World
alone_in part w = record {
  tenants = retain_keys w.tenants part.spaces;
  pools = retain_keys w.pools part.pools;
  quotas = retain_keys w.quotas part.quotas;
  ready = filter (λ key. part.spaces key.0) w.ready;
  plans = filter (λ key. part.spaces key.0) w.plans;
  blocked = filter (λ key. part.spaces key.0) w.blocked;
}

-- the namespace with these pools and these quotas
abbrev pub part_of : Name → List Name → List Name → Part
part_of ns pools quotas = record { spaces = same_name ns; pools = has_name pools; quotas = has_name quotas }

-- the state of a server that has the chosen owners alone, and all access lists
unfoldable pub alone : Part → State → State
alone part s = record s { world = alone_in part s.world }

-- t holds exactly what the chosen owners have in s, and all access lists
abbrev pub Agree : Part → State → State → Type 0
Agree part s t = t ≡ alone part s

-- ---- own steps

-- a report concerns the chosen namespaces if its allocation is of one of them; every other request about a chosen pool does
abbrev pub concerns : Part → NodeCommand → Bool
concerns part (NodeCommand.Report name report) = part.spaces report.namespace
concerns part _ = true

-- An own request of an administrator is one about a chosen namespace's record, about a chosen quota or pool, or about policies
-- and tokens. A put of a record that names another pool or quota is not, nor is a list of all namespaces, quotas or pools.
unfoldable pub is_own_admin : Part → AdminCommand → Bool
is_own_admin part AdminCommand.ListNamespaces = false
is_own_admin part (AdminCommand.PutNamespace name namespace) = part.spaces name && names_within part.pools part.quotas namespace
is_own_admin part (AdminCommand.DeleteNamespace name) = part.spaces name
is_own_admin part AdminCommand.ListQuotas = false
is_own_admin part (AdminCommand.ReadQuota name) = part.quotas name
is_own_admin part (AdminCommand.PutQuota name quota) = part.quotas name
is_own_admin part (AdminCommand.DeleteQuota name) = part.quotas name
is_own_admin part AdminCommand.ListPools = false
is_own_admin part (AdminCommand.PutPool name pool) = part.pools name
is_own_admin part (AdminCommand.DeletePool name) = part.pools name
is_own_admin part (AdminCommand.ReadPolicy name) = true
is_own_admin part (AdminCommand.PutPolicy name policy) = true
is_own_admin part (AdminCommand.DeletePolicy name) = true
is_own_admin part (AdminCommand.CreateToken new) = true
is_own_admin part (AdminCommand.DeleteToken accessor) = true

-- an own step is a request in a chosen namespace, with any secret; a request about a chosen pool that concerns the chosen
-- namespaces; an own request of an administrator; or a worker's step for a chosen namespace
unfoldable pub is_own : Part → Step → Bool
is_own part (Step.Ask ns secret command) = part.spaces ns
is_own part (Step.Admin secret command) = is_own_admin part command
is_own part (Step.Node pool secret command) = part.pools pool && concerns part command
is_own part (Step.Dequeue worker ns n) = part.spaces ns
is_own part (Step.Snap worker ns) = part.spaces ns
is_own part (Step.Submit worker ns) = part.spaces ns
is_own part (Step.Apply worker ns) = part.spaces ns
is_own part (Step.Finish worker ns) = part.spaces ns
is_own part (Step.Nack worker ns) = part.spaces ns

-- the own steps: what remains once the others are struck out
abbrev pub struck : Part → List Step → List Step
struck part steps = filter (is_own part) steps

-- the answers of the own steps
abbrev pub struck_answers : Part → List Step → List Answer → List Answer
struck_answers part (step ∷ steps) (answer ∷ answers) =
    if is_own part step then answer ∷ struck_answers part steps answers else struck_answers part steps answers
struck_answers part _ _ = []

-- ---- premises

-- the step puts a new namespace, quota or pool, and the server's table of these is full
abbrev pub lacks_room : Step → World → Bool
lacks_room (Step.Admin secret (AdminCommand.PutNamespace name namespace)) w = is_full w.tenants name
lacks_room (Step.Admin secret (AdminCommand.PutQuota name quota)) w = is_full w.quotas name
lacks_room (Step.Admin secret (AdminCommand.PutPool name pool)) w = is_full w.pools name
lacks_room _ w = false

abbrev pub is_full_answer : Answer → Bool
is_full_answer (Err Refusal.Full) = true
is_full_answer _ = false

-- an own put is refused because its table is full on the whole server
abbrev pub is_crowded_out : Part → Step → State → Answer → Bool
is_crowded_out part step s answer = is_own part step && lacks_room step s.world && is_full_answer answer

-- a run in which the namespace has these pools and quotas to itself at each state, and none of its own puts is crowded out
abbrev pub IsIsolated : Name → List Name → List Name → State → List Step → List Answer → State → Type 0
IsIsolated ns pools quotas s [] [] s' = (is_apart s.world ns pools quotas ≡ true) × (s' ≡ s)
IsIsolated ns pools quotas s (step ∷ steps) (answer ∷ answers) s' =
    (mid : State) × (is_apart s.world ns pools quotas ≡ true) × (after step s ≡ said answer mid)
    × (is_crowded_out (part_of ns pools quotas) step s answer ≡ false) × IsIsolated ns pools quotas mid steps answers s'
IsIsolated ns pools quotas s [] (answer ∷ answers) s' = ⊥
IsIsolated ns pools quotas s (step ∷ steps) [] s' = ⊥
