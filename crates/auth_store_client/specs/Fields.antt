-- Histories whose keys and values are some.
use Rattle.std.specs.Prelude.{◌≤◌, ◌^◌, ℕ, List, length, IfSome}
use Rattle.std.specs.List.{AllByRecursion}
use Rattle.auth_store_parts.specs.Map.{Map}
use Rattle.auth_store_parts.specs.History.{History, Commit, AreStates, log_of}

-- each key and each value of a state is one
abbrev pub HasEntries : (List ℕ → Type 0) → (List ℕ → Type 0) → Map → Type 0
HasEntries IsKey IsValue state = AllByRecursion (λ (entry : List ℕ × List ℕ). IsKey entry.0 × IsValue entry.1) state

-- so of each state of a history, and the metadata of each commit is a value
abbrev pub HasFields : (List ℕ → Type 0) → (List ℕ → Type 0) → History → Type 0
HasFields IsKey IsValue history =
    AllByRecursion (λ (commit : Commit). HasEntries IsKey IsValue commit.map × IfSome commit.metadata IsValue) history

-- A history of which a client's yes is sound: each commit has a state, its keys and values are some, and its log is no
-- longer than the greatest.
pub record IsSound (IsKey IsValue : List ℕ → Type 0) (history : History) : Type 0 where
  pub states : AreStates history
  pub fields : HasFields IsKey IsValue history
  pub few : length (log_of history) ≤ 2 ^ 62
