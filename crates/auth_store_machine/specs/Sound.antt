-- Runs each history of which is sound, so that a client's yes is true of it, or strings collide.
use Rattle.std.specs.Prelude.{⊤, List, [], ◌∷◌, None, Some, ◌≡◌}
use Rattle.state_ops.specs.Reading.{IsField}
use Rattle.auth_store_parts.specs.History.{History}
use Rattle.auth_store_client.specs.Fields.{IsSound}
use Rattle.auth_store_client.specs.States.{root_of_history}
use Rattle.auth_store_log.specs.Records.{Format}
use Rattle.auth_store_machine.specs.Machine.{Machine, Power, State, closed, live, failed, doubtful, Request, Answer}
use Rattle.auth_store_machine.specs.Machine.{committed, root_is, IsRunSeen}

-- its keys and values are those of the format
abbrev pub IsSoundIn : Format → History → Type 0
IsSoundIn format history =
    IsSound (IsField format.key format.key_size) (IsField format.value format.value_size) history

-- the histories of a state are, also with a commit that is pending
abbrev pub IsSoundState : Format → State → Type 0
IsSoundState format (closed history None) = IsSoundIn format history
IsSoundState format (closed history (Some commit)) =
    IsSoundIn format history × IsSoundIn format (commit ∷ history)
IsSoundState format (live history pruned) = IsSoundIn format history
IsSoundState format (failed history commit) = IsSoundIn format history × IsSoundIn format (commit ∷ history)
IsSoundState format (doubtful history) = IsSoundIn format history

-- so is each state of a run
abbrev pub HasSoundStates : Format → (see : State → State) → (m : Machine) → (before : Power) → (first : State)
    → (requests : List Request) → (answers : List Answer) → (after : Power) → (last : State)
    → IsRunSeen see m before first requests answers after last → Type 0
HasSoundStates format see m before first [] [] after last ran = IsSoundState format first
HasSoundStates format see m before first [] (answer ∷ answers) after last ran = ⊥
HasSoundStates format see m before first (request ∷ requests) [] after last ran = ⊥
HasSoundStates format see m before first (request ∷ requests) (answer ∷ answers) after last ran =
    IsSoundState format first × HasSoundStates format see m ran.0 ran.1 requests answers after last ran.4

-- a run of sound states
abbrev pub IsSoundRun : Format → (State → State) → Machine → Power → State → List Request → List Answer → Power → State
    → Type 0
IsSoundRun format see m before first requests answers after last =
    (ran : IsRunSeen see m before first requests answers after last)
    × HasSoundStates format see m before first requests answers after last ran

-- where an answer tells a root, it is that of the history of an open store, and that is sound
abbrev pub TellsRootOf : Machine → Format → Answer → State → Type 0
TellsRootOf m format (committed root) (live history pruned) =
    (root ≡ root_of_history m.setting m.key_size m.value_size history) × IsSoundIn format history
TellsRootOf m format (committed root) _ = ⊥
TellsRootOf m format (root_is root) (live history pruned) =
    (root ≡ root_of_history m.setting m.key_size m.value_size history) × IsSoundIn format history
TellsRootOf m format (root_is root) _ = ⊥
TellsRootOf m format _ _ = ⊤

-- each answer of a run tells the root of the history that the machine has after it, where it tells one
abbrev pub TellsRoots : Format → (see : State → State) → (m : Machine) → (before : Power) → (first : State)
    → (requests : List Request) → (answers : List Answer) → (after : Power) → (last : State)
    → IsRunSeen see m before first requests answers after last → Type 0
TellsRoots format see m before first [] [] after last ran = ⊤
TellsRoots format see m before first [] (answer ∷ answers) after last ran = ⊥
TellsRoots format see m before first (request ∷ requests) [] after last ran = ⊥
TellsRoots format see m before first (request ∷ requests) (answer ∷ answers) after last ran =
    TellsRootOf m format answer ran.1 × TellsRoots format see m ran.0 ran.1 requests answers after last ran.4
