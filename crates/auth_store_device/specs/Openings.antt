-- The openings of a blob: what each showed, and the calls before it.
use Rattle.std.specs.Prelude.{ℕ, false, IsFalse, List, [], ◌∷◌, ◌++◌, map, reverse}
use Rattle.paged_blob_parts.specs.Calls.{Call, opened, wrote, resized_to, synced, Change, write, resize, file_of}
use Rattle.paged_blob_parts.specs.Chance.{is_by_chance}

-- an opening: the calls before it, of which the newest comes first, and the bytes that it showed
pub record Showing : Type 0 where
  pub before : List Call
  pub shown : List ℕ

-- the openings among calls of which the newest comes first: the oldest opening comes first
abbrev pub openings_of : List Call → List Showing
openings_of [] = []
openings_of (opened shown ∷ earlier) = openings_of earlier ++ record { before = earlier; shown = shown } ∷ []
openings_of (wrote offset bytes is_sync ok ∷ earlier) = openings_of earlier
openings_of (resized_to size ok ∷ earlier) = openings_of earlier
openings_of (synced bytes ok ∷ earlier) = openings_of earlier

-- a change of which it is not said whether it was durable at once
abbrev pub plain : Change → Change
plain (write offset bytes kept) = write offset bytes false
plain (resize size) = resize size

-- the writes and resizes between an opening's base and the opening, whole, the oldest first; those that failed stand
-- among them
abbrev pub mutations_of : Showing → List Change
mutations_of opening = reverse (map plain (file_of opening.before).changes)

-- an opening is not by chance, by this checksum in pages of so many bytes
abbrev pub IsNotByChance : (List ℕ → ℕ) → ℕ → Showing → Type 0
IsNotByChance sum size opening = IsFalse (is_by_chance sum size (file_of opening.before) opening.shown)
