-- The record of a device: the calls that were made of it.
use Rattle.std.specs.Prelude.{◌≡◌, ℕ, ◌≤◌, Bool, true, List, reverse}
use Rattle.paged_blob_parts.specs.Calls.{Call}

-- A record: its calls, the oldest first, whether there is a place for one more, for how many more bytes there is room,
-- whether the bytes with which the file began last are an image, and those of the image that was made ready last.
pub record Recording : Type 0 where
  pub in_order : List Call
  pub has_place : Bool
  pub room : ℕ
  pub has_base : Bool
  pub ready : List ℕ

-- its calls, the newest first
abbrev pub calls_of : Recording → List Call
calls_of record_kept = reverse record_kept.in_order

-- there is room for one more call, and so many bytes of it
abbrev pub HasRoom : ℕ → Recording → Type 0
HasRoom count record_kept = (record_kept.has_place ≡ true) × (count ≤ record_kept.room)
