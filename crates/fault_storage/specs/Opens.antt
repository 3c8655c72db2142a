-- The names that are open: a list of pairs of a partition and a name.
use Rattle.std.specs.Prelude.{ℕ, Bool, not, ◌&&◌, Option, Some, None, List, filter}
use Rattle.std.specs.List.{list_any}
use Rattle.std.specs.Str.{bytes_eq}
use Rattle.std.specs.Ordering.{nat_cmp, is_lt, ordering_then}
use Rattle.std.specs.Cmp.Lexicographic.{slice_cmp}

abbrev pub Name : Type 0
Name = List ℕ × List ℕ

-- whether it is the name of this blob
abbrev pub is_name : List ℕ → List ℕ → Name → Bool
is_name partition name other = bytes_eq other.0 partition && bytes_eq other.1 name

-- whether this name is open
abbrev pub is_open : List ℕ → List ℕ → List Name → Bool
is_open partition name names = list_any (is_name partition name) names

-- whether a removal concerns an open name: the one that it names, or without one any of the partition
abbrev pub is_held : List ℕ → Option (List ℕ) → List Name → Bool
is_held partition None names = list_any (λ other. bytes_eq other.0 partition) names
is_held partition (Some name) names = is_open partition name names

-- the names that stay open where one is closed
abbrev pub closed : Name → List Name → List Name
closed name names = filter (λ other. not (is_name name.0 name.1 other)) names

-- a name stands before another: by its partition, then by itself
abbrev pub is_before : Name → Name → Bool
is_before one other = is_lt (ordering_then (slice_cmp nat_cmp one.0 other.0) (slice_cmp nat_cmp one.1 other.1))
