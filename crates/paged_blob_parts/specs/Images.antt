-- What a crash may leave of a file, and what a read may find.
use Rattle.std.specs.Prelude.{◌≡◌, ℕ, ◌+◌, ◌-◌, ◌<◌, ◌≤◌, min, max, Bool, true, not, ◌&&◌, ◌||◌, ◌==◌, nat_le, nat_lt}
use Rattle.std.specs.Prelude.{IsTrue, IsFalse}
use Rattle.std.specs.Prelude.{List, [], ◌∷◌, length, get_or}
use Rattle.paged_blob_parts.specs.Calls.{Change, write, resize, whole, File}

-- whether a byte stands among so many from an offset on
abbrev pub is_within : ℕ → ℕ → ℕ → Bool
is_within offset count i = nat_le offset i && nat_lt i (offset + count)

-- whether the change may give the byte this value
abbrev pub may_give : Change → ℕ → ℕ → Bool
may_give (write offset bytes kept) i value = is_within offset (length bytes) i && (value == get_or bytes (i - offset) 0)
may_give (resize size) i value = nat_le size i && (value == 0)

-- whether the byte may be as it was before the change: under a write that is durable it may not
abbrev pub may_leave : Change → ℕ → Bool
may_leave (write offset bytes kept) i = not kept || not (is_within offset (length bytes) i)
may_leave (resize size) i = true

-- Whether a byte may have a value: the one that was last made durable there, one that was written there since, or zero
-- where a gap or growth reached it.
abbrev pub may_hold : List ℕ → List Change → ℕ → ℕ → Bool
may_hold base [] i value = value == get_or base i 0
may_hold base (change ∷ earlier) i value =
    may_give change i value || (may_leave change i && may_hold base earlier i value)

-- the least length since the base, each change being whole
abbrev pub least_length : List ℕ → List Change → ℕ
least_length base [] = length base
least_length base (change ∷ earlier) = min (least_length base earlier) (length (whole base (change ∷ earlier)))

-- and the greatest
abbrev pub greatest_length : List ℕ → List Change → ℕ
greatest_length base [] = length base
greatest_length base (change ∷ earlier) = max (greatest_length base earlier) (length (whole base (change ∷ earlier)))

-- a crash may leave these bytes
pub record IsImage (file : File) (image : List ℕ) : Type 0 where
  pub no_shorter : least_length file.base file.changes ≤ length image
  pub no_longer : length image ≤ greatest_length file.base file.changes
  pub each : (i : ℕ) → i < length image → IsTrue (may_hold file.base file.changes i (get_or image i 0))

-- an image whose missing bytes may be zero, as after a growth
pub record IsReached (file : File) (bytes : List ℕ) : Type 0 where
  pub no_shorter : least_length file.base file.changes ≤ length bytes
  pub no_longer : length bytes ≤ greatest_length file.base file.changes
  pub each : (i : ℕ) → IsTrue (may_hold file.base file.changes i (get_or bytes i 0))

-- a read may find these bytes: the content, while nothing has failed
pub record IsLive (file : File) (bytes : List ℕ) : Type 0 where
  pub reached : IsReached file bytes
  pub content : IsFalse file.failed → bytes ≡ whole file.base file.changes
