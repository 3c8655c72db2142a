use Rattle.std.proofs.Common.{length, ◌≤◌}
use Rattle.std.specs.Io.KnownBytes.{Consumes}
use Rattle.auth_store_parts.proofs.script.input.read_script.Given as goal

-- the script so far is what the reader gave of what it had
abbrev pub invariant-loop : goal.invariant-loop
invariant-loop g l = record {
  size : length l.script.items ≤ 16777216;
  bytes : Consumes (g.R.Read.remaining l.fn.reader) (g.R.Read.remaining l.reader) l.script.items;
}
