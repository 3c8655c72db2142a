use Rattle.auth_store_index.specs.Laws.Commits.{bits_after, taken_after, floor_after_commit, commit_bits, next_commit_floor}
use Rattle.auth_store_index.proofs.laws.a_commit_keeps_bits_floor_and_places.Goals as goal

pub returns : goal.returns
returns c = record { bits = bits_after; taken = taken_after; floor = floor_after_commit; batch = commit_bits; next = next_commit_floor }
