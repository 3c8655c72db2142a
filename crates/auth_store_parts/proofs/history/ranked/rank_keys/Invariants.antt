use Rattle.std.proofs.Common.{◌≡◌, Some, length, map, slice_get}
use Rattle.std.specs.List.{All}
use Rattle.auth_store_parts.specs.Ranked.{AreAscending, last_key, names_at}
use Rattle.auth_store_parts.proofs.history.ranked.rank_keys.Given as goal

abbrev pub invariant-loop-key : goal.invariant-loop-key
invariant-loop-key g l =
    let key = g.K.Write.encoding in
    let keys = map key l.keys.items in
    record {
      ascending : AreAscending keys;
      long : length l.ranks.items ≡ l.count;
      named : All (λ entry. slice_get (names_at keys l.ranks.items) entry.1 ≡ Some (Some (key entry.0))) l.yielded;
      last : last_key keys ≡ last_key (map (λ entry. key entry.0) l.yielded);
    }
