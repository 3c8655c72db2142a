-- What the program prints.
use Rattle.std.specs.Prelude.{ℕ, List, [], ◌∷◌, ◌++◌}

-- a line of the answers, with the newline byte after it
abbrev pub reported : List ℕ → List ℕ
reported line = line ++ 10 ∷ []
