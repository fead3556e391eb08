-- For private clauses: reads the entry of a line from the line's JSON.
use Rattle.std.specs.Prelude.{ℕ, ◌^◌, ◌∷◌, [], nat_lt, List, Bool, true, false, Option, Some, None, is_some, option_and_then, Result, Ok, Err}
use Rattle.std.specs.Prelude.{◌≡◌, ◌≢◌, ◌<◌, ◌≤◌, ◌==◌, ◌+◌, ◌++◌, drop, length, codes, IsTrue, if◌then◌else◌}
use Rattle.std.specs.Str.{bytes_eq}
use Rattle.serde_json.specs.Data.{Data}
use Rattle.serde_json.specs.Find.{get, as_str, as_bool, as_u64, as_number}
use Rattle.ns_types.specs.declared.allocation.ClientStatus.{ClientStatus}
use Rattle.ns_types.specs.declared.name.NameKind.{NameKind}
use Rattle.ns_types.specs.declared.name.NameKind.TheVariants as Kind
use Rattle.ns_types.specs.declared.node.NodeStatus.{NodeStatus}
use Rattle.ns_types.specs.declared.refusal.Refusal.{Refusal}
use Rattle.ns_types.specs.declared.reply.Rendered.{Rendered}
use Rattle.ns_types.specs.declared.step.AdminCommand.{AdminCommand}
use Rattle.ns_types.specs.declared.step.AskCommand.{AskCommand}
use Rattle.ns_types.specs.declared.step.NodeCommand.{NodeCommand}
use Rattle.ns_types.specs.declared.step.Step.{Step}
use Rattle.ns_types.specs.State.Lists.{Each}
use Rattle.ns_types.specs.State.Name.{is_name}
use Rattle.ns_types.specs.State.Names.{Name}
use Rattle.ns_types.specs.Wire.Words.{node_status_text, eligibility_text, client_text}
use Rattle.ns_json.specs.Logs.{line_of}
use Rattle.ns_json.specs.Reading.{unless_null}
use Rattle.ns_json.specs.Registration.{registration_in, demanding}
use Rattle.ns_json.specs.Rendering.{object_of}
use Rattle.ns_json.specs.Replies.{Entry}
use Rattle.ns_documents.specs.Access.{policy_in, token_in}
use Rattle.ns_documents.specs.Nodes.{node_in, one_of}
use Rattle.ns_documents.specs.Records.{namespace_in, quota_in, pool_in}
use Rattle.ns_log.specs.Lines.{entry_text}
use Rattle.ns_log_reader.specs.Lines.{CanStand, HasBadLine, IsWritable, LogLine, entries_of, line_text, lines_text}
use Rattle.ns_log_reader.specs.declared.fault.LineFault.{LineFault}
use Rattle.ns_log_reader.specs.declared.fault.LineFault.TheVariants.{Bad, Memory}

abbrev pub Read : Type 0 → Type 0
Read A = Result A LineFault

infixl 10 ◌>>=◌
abbrev pub ◌>>=◌ : {A B : Type 0} → Read A → (A → Read B) → Read B
(Ok x) >>= f = f x
(Err e) >>= f = Err e

-- A function's result, through `view`, is the result of the reading, unless no memory was left.
abbrev pub Fails : {Y : Type 0} → LineFault → Read Y → Type 0
Fails Memory read = Unit {0}
Fails Bad read = read ≡ Err Bad

abbrev pub Gives : {X Y : Type 0} → (X → Y) → Read X → Read Y → Type 0
Gives view (Ok x) read = read ≡ Ok (view x)
Gives view (Err e) read = Fails e read

abbrev pub same : {A : Type 0} → A → A
same x = x

abbrev pub or_bad : {A : Type 0} → Option A → Read A
or_bad None = Err Bad
or_bad (Some x) = Ok x

-- a document that is refused makes its line bad
abbrev pub fault_of : Refusal → LineFault
fault_of Refusal.Memory = Memory
fault_of _ = Bad

abbrev pub accepted : {A : Type 0} → Result A Refusal → Read A
accepted (Ok x) = Ok x
accepted (Err refusal) = Err (fault_of refusal)

-- ---- members

abbrev pub has : Name → Data → Bool
has name d = is_some (get name d)

unfoldable pub member_in : Name → Data → Read Data
member_in name d = or_bad (get name d)

unfoldable pub text_in : Name → Data → Read Name
text_in name d = member_in name d >>= λ v. or_bad (as_str v)

unfoldable pub name_in : NameKind → Name → Data → Read Name
name_in kind name d = do
  text ← text_in name d
  if is_name kind text then Ok text else Err Bad

unfoldable pub number_in : Name → Data → Read ℕ
number_in name d = member_in name d >>= λ v. or_bad (option_and_then as_u64 (as_number v))

unfoldable pub flag_in : Name → Data → Read Bool
flag_in name d = member_in name d >>= λ v. or_bad (as_bool v)

abbrev pub if_any : {A : Type 0} → (Data → Option A) → Option Data → Read (Option A)
if_any read None = Ok None
if_any read (Some d) = or_bad (read d) >>= λ x. Ok (Some x)

unfoldable pub text_or_null_in : Name → Data → Read (Option Name)
text_or_null_in name d = member_in name d >>= λ v. if_any as_str (unless_null v)

unfoldable pub number_or_null_in : Name → Data → Read (Option ℕ)
number_or_null_in name d = member_in name d >>= λ v. if_any (λ x. option_and_then as_u64 (as_number x)) (unless_null v)

-- ---- commands about a namespace

unfoldable pub registered_in : Data → Read AskCommand
registered_in d = do
  document ← member_in (codes "Doc") d
  enforced ← number_or_null_in (codes "Enforce") d
  r ← accepted (registration_in (object_of ((codes "Job", document) ∷ [])))
  Ok (AskCommand.Register (demanding enforced r.registration))

unfoldable pub with_prefix_in : Name → Data → Read AskCommand
with_prefix_in word d = do
  prefix ← text_in (codes "Prefix") d
  if bytes_eq word (codes "ListJobs") then Ok (AskCommand.ListJobs prefix)
      else if bytes_eq word (codes "ListEvaluations") then Ok (AskCommand.ListEvaluations prefix)
      else if bytes_eq word (codes "ListAllocations") then Ok (AskCommand.ListAllocations prefix) else Err Bad

unfoldable pub with_id_in : Name → Data → Read AskCommand
with_id_in word d = do
  id ← text_in (codes "ID") d
  if bytes_eq word (codes "ReadJob") then Ok (AskCommand.ReadJob id)
      else if bytes_eq word (codes "JobAllocations") then Ok (AskCommand.JobAllocations id)
      else if bytes_eq word (codes "JobEvaluations") then Ok (AskCommand.JobEvaluations id) else Err Bad

unfoldable pub with_number_in : Name → Data → Read AskCommand
with_number_in word d = do
  n ← number_in (codes "Number") d
  if bytes_eq word (codes "ReadEvaluation") then Ok (AskCommand.ReadEvaluation n)
      else if bytes_eq word (codes "ReadAllocation") then Ok (AskCommand.ReadAllocation n)
      else if bytes_eq word (codes "StopAllocation") then Ok (AskCommand.StopAllocation n) else Err Bad

unfoldable pub deregistered_in : Data → Read AskCommand
deregistered_in d = do
  id ← text_in (codes "ID") d
  purge ← flag_in (codes "Purge") d
  Ok (AskCommand.Deregister id purge)

unfoldable pub usage_in : Data → Read AskCommand
usage_in d = text_in (codes "Name") d >>= λ quota. Ok (AskCommand.QuotaUsage quota)

unfoldable pub events_in : Data → Read AskCommand
events_in d = number_in (codes "From") d >>= λ index. Ok (AskCommand.Events index)

-- the arguments decide which commands the word can name
unfoldable pub asked_in : Name → Data → Read AskCommand
asked_in word d =
    if has (codes "Prefix") d then with_prefix_in word d
    else if has (codes "Purge") d then deregistered_in d
    else if has (codes "ID") d then with_id_in word d
    else if has (codes "Number") d then with_number_in word d
    else if has (codes "Doc") d then registered_in d
    else if has (codes "Name") d then usage_in d
    else if has (codes "From") d then events_in d
    else Ok AskCommand.ReadNamespace

-- ---- commands of administrators

unfoldable pub put_policy_in : Data → Read AdminCommand
put_policy_in d = do
  name ← name_in Kind.Policy (codes "Name") d
  policy ← accepted (policy_in d)
  Ok (AdminCommand.PutPolicy name policy)

unfoldable pub new_token_in : Data → Read AdminCommand
new_token_in d = do
  accessor ← text_in (codes "AccessorID") d
  secret ← name_in Kind.Secret (codes "SecretID") d
  token ← accepted (token_in d)
  Ok (AdminCommand.CreateToken (record {
    accessor = accessor;
    secret = secret;
    name = token.name;
    kind = token.kind;
    policies = token.policies;
  }))

unfoldable pub put_namespace_in : Data → Read AdminCommand
put_namespace_in d = accepted (namespace_in None d) >>= λ n. Ok (AdminCommand.PutNamespace n.name n.namespace)

unfoldable pub put_quota_in : Data → Read AdminCommand
put_quota_in d = accepted (quota_in None d) >>= λ q. Ok (AdminCommand.PutQuota q.name q.quota)

unfoldable pub put_pool_in : Data → Read AdminCommand
put_pool_in d = accepted (pool_in None d) >>= λ p. Ok (AdminCommand.PutPool p.name p.pool)

unfoldable pub put_in : Name → Data → Read AdminCommand
put_in word d =
    if bytes_eq word (codes "PutNamespace") then put_namespace_in d
    else if bytes_eq word (codes "PutQuota") then put_quota_in d
    else if bytes_eq word (codes "PutPool") then put_pool_in d
    else if bytes_eq word (codes "PutPolicy") then put_policy_in d
    else if bytes_eq word (codes "CreateToken") then new_token_in d else Err Bad

unfoldable pub with_name : Name → Name → Read AdminCommand
with_name word name =
    if bytes_eq word (codes "DeleteNamespace") then Ok (AdminCommand.DeleteNamespace name)
    else if bytes_eq word (codes "ReadQuota") then Ok (AdminCommand.ReadQuota name)
    else if bytes_eq word (codes "DeleteQuota") then Ok (AdminCommand.DeleteQuota name)
    else if bytes_eq word (codes "DeletePool") then Ok (AdminCommand.DeletePool name)
    else if bytes_eq word (codes "ReadPolicy") then Ok (AdminCommand.ReadPolicy name)
    else if bytes_eq word (codes "DeletePolicy") then Ok (AdminCommand.DeletePolicy name) else Err Bad

unfoldable pub listing : Name → Read AdminCommand
listing word =
    if bytes_eq word (codes "ListNamespaces") then Ok AdminCommand.ListNamespaces
    else if bytes_eq word (codes "ListQuotas") then Ok AdminCommand.ListQuotas
    else if bytes_eq word (codes "ListPools") then Ok AdminCommand.ListPools else Err Bad

unfoldable pub administered_in : Name → Data → Read AdminCommand
administered_in word d =
    if has (codes "Doc") d then member_in (codes "Doc") d >>= put_in word
    else if has (codes "Name") d then text_in (codes "Name") d >>= with_name word
    else if has (codes "AccessorID") d
    then text_in (codes "AccessorID") d >>= (λ accessor. Ok (AdminCommand.DeleteToken accessor))
    else listing word

-- ---- commands about a pool

unfoldable pub put_node_in : Data → Read NodeCommand
put_node_in d = do
  document ← member_in (codes "Doc") d
  name ← name_in Kind.Node (codes "Name") d
  offer ← accepted (node_in document)
  Ok (NodeCommand.PutNode name offer)

unfoldable pub status_in : Data → Read NodeCommand
status_in d = do
  name ← text_in (codes "Name") d
  word ← text_in (codes "Status") d
  status ← or_bad (one_of node_status_text NodeStatus.Ready NodeStatus.Down word)
  Ok (NodeCommand.SetStatus name status)

unfoldable pub eligible_in : Data → Read NodeCommand
eligible_in d = do
  name ← text_in (codes "Name") d
  word ← text_in (codes "Eligibility") d
  eligible ← or_bad (one_of eligibility_text true false word)
  Ok (NodeCommand.SetEligible name eligible)

unfoldable pub client_of : Name → Read ClientStatus
client_of word =
    if bytes_eq word (client_text ClientStatus.Pending) then Ok ClientStatus.Pending
    else if bytes_eq word (client_text ClientStatus.Running) then Ok ClientStatus.Running
    else if bytes_eq word (client_text ClientStatus.Complete) then Ok ClientStatus.Complete
    else if bytes_eq word (client_text ClientStatus.Failed) then Ok ClientStatus.Failed
    else if bytes_eq word (client_text ClientStatus.Lost) then Ok ClientStatus.Lost else Err Bad

unfoldable pub reported_in : Data → Read NodeCommand
reported_in d = do
  word ← text_in (codes "ClientStatus") d
  client ← client_of word
  name ← text_in (codes "Name") d
  namespace ← text_in (codes "Namespace") d
  number ← number_in (codes "Number") d
  Ok (NodeCommand.Report name (record { namespace = namespace; number = number; client = client }))

unfoldable pub of_pool : Name → Read NodeCommand
of_pool word =
    if bytes_eq word (codes "ReadPool") then Ok NodeCommand.ReadPool
    else if bytes_eq word (codes "ListNodes") then Ok NodeCommand.ListNodes else Err Bad

unfoldable pub node_command_in : Name → Data → Read NodeCommand
node_command_in word d =
    if has (codes "Doc") d then put_node_in d
    else if has (codes "Status") d then status_in d
    else if has (codes "Eligibility") d then eligible_in d
    else if has (codes "ClientStatus") d then reported_in d
    else if has (codes "Name") d then text_in (codes "Name") d >>= (λ name. Ok (NodeCommand.DeleteNode name))
    else of_pool word

-- ---- steps

unfoldable pub ask_in : Data → Read Step
ask_in d = do
  arguments ← member_in (codes "Args") d
  word ← text_in (codes "Do") d
  namespace ← text_in (codes "Ns") d
  secret ← text_or_null_in (codes "Secret") d
  command ← asked_in word arguments
  Ok (Step.Ask namespace secret command)

unfoldable pub admin_in : Data → Read Step
admin_in d = do
  arguments ← member_in (codes "Args") d
  word ← text_in (codes "Do") d
  secret ← text_or_null_in (codes "Secret") d
  command ← administered_in word arguments
  Ok (Step.Admin secret command)

unfoldable pub node_step_in : Data → Read Step
node_step_in d = do
  arguments ← member_in (codes "Args") d
  word ← text_in (codes "Do") d
  pool ← text_in (codes "Pool") d
  secret ← text_or_null_in (codes "Secret") d
  command ← node_command_in word arguments
  Ok (Step.Node pool secret command)

unfoldable pub work_of : Name → ℕ → Name → Read Step
work_of kind worker namespace =
    if bytes_eq kind (codes "Snap") then Ok (Step.Snap worker namespace)
    else if bytes_eq kind (codes "Submit") then Ok (Step.Submit worker namespace)
    else if bytes_eq kind (codes "Apply") then Ok (Step.Apply worker namespace)
    else if bytes_eq kind (codes "Finish") then Ok (Step.Finish worker namespace)
    else if bytes_eq kind (codes "Nack") then Ok (Step.Nack worker namespace) else Err Bad

unfoldable pub work_in : Name → Data → Read Step
work_in kind d = do
  namespace ← text_in (codes "Ns") d
  worker ← number_in (codes "Worker") d
  work_of kind worker namespace

unfoldable pub dequeue_in : Data → Read Step
dequeue_in d = do
  number ← number_in (codes "Eval") d
  namespace ← text_in (codes "Ns") d
  worker ← number_in (codes "Worker") d
  Ok (Step.Dequeue worker namespace number)

unfoldable pub step_of : Name → Data → Read Step
step_of kind d =
    if bytes_eq kind (codes "Ask") then ask_in d
    else if bytes_eq kind (codes "Admin") then admin_in d
    else if bytes_eq kind (codes "Node") then node_step_in d
    else if bytes_eq kind (codes "Dequeue") then dequeue_in d else work_in kind d

unfoldable pub step_in : Data → Read Step
step_in d = text_in (codes "Kind") d >>= λ kind. step_of kind d

-- ---- entries

unfoldable pub status_code_in : Data → Read ℕ
status_code_in d = do
  status ← number_in (codes "Status") d
  if nat_lt status (2 ^ 16) then Ok status else Err Bad

unfoldable pub answer_in : Data → Read Rendered
answer_in d = do
  body ← text_in (codes "Body") d
  index ← number_or_null_in (codes "Index") d
  status ← status_code_in d
  Ok (record { status = status; index = index; body = body })

unfoldable pub entry_in : Data → Read Entry
entry_in d = do
  rendered ← answer_in d
  step ← member_in (codes "Step") d
  step ← step_in step
  Ok (step, rendered)

-- ---- lines

abbrev pub is_feed : ℕ → Bool
is_feed b = b == 10

-- if the line is the line of an entry, it is read as that entry
abbrev pub ReadsBack : Name → Read Entry → Type 0
ReadsBack line result = (e : Entry) → IsWritable e → line ≡ entry_text e → Gives same result (Ok e)

-- the text begins with the line of the entry, which is `len` bytes long
pub record BeginsWithLine (text : Name) (e : Entry) (len : ℕ) : Type 0 where
  pub writable : IsWritable e
  pub is_text : text ≡ line_of (entry_text e) ++ drop len text
  pub some : 0 < len
  pub within : len ≤ length text

-- the first line of a log, spelled out
abbrev pub opening_text : Name → Name
opening_text secret = codes "nsd-log 3 0 " ++ secret

abbrev pub IsNoFirst : Name → Type 0
IsNoFirst line = (secret : Name) → IsTrue (is_name Kind.Secret secret) → line ≡ opening_text secret → ⊥

-- the text is these lines, with no entry before them, and then `rest`
pub record HasLinesThen (text secret rest : Name) (lines : List LogLine) : Type 0 where
  pub writable : Each CanStand lines
  pub is_text : text ≡ lines_text secret 0 lines ++ rest

-- the text is the lines of these entries, in one segment or more
pub record HasEntries (text secret : Name) (entries : List Entry) : Type 0 where
  pub lines : List LogLine
  pub has_lines : HasLinesThen text secret [] lines
  pub are_entries : entries ≡ entries_of lines
  pub few : length entries < 2 ^ 64

-- the text begins with lines of a log, and goes on with line `n`, which is bad
pub record StopsAfter (text secret : Name) (n : ℕ) : Type 0 where
  pub lines : List LogLine
  pub rest : Name
  pub before : HasLinesThen text secret rest lines
  pub few : length (entries_of lines) < 2 ^ 64
  pub is_number : n ≡ length lines + 2
  pub is_more : rest ≢ []
  pub is_bad : HasBadLine secret (length (entries_of lines)) rest

abbrev pub line_from : Option Entry → LogLine
line_from None = LogLine.head
line_from (Some e) = LogLine.entry e

-- the text begins with this line, which comes after `start` entries and is `len` bytes long
pub record IsNext (text secret : Name) (start : ℕ) (line : LogLine) (len : ℕ) : Type 0 where
  pub writable : CanStand line
  pub is_text : text ≡ line_of (line_text secret start line) ++ drop len text
  pub some : 0 < len
  pub within : len ≤ length text

-- the lines that were read so far have these entries, and the next line has this number
pub record HasSoFar (text secret rest : Name) (entries : List Entry) (number : ℕ) : Type 0 where
  pub lines : List LogLine
  pub before : HasLinesThen text secret rest lines
  pub are_entries : entries ≡ entries_of lines
  pub is_number : number ≡ length lines + 2
  pub few : length lines + length rest ≤ length text
