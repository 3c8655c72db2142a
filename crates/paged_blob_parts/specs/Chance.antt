-- An opening by chance: a slot verifies that nobody wrote whole.
use Rattle.std.specs.Prelude.{◌≡◌, ◌⊎◌, ℕ, zero, suc, ◌*◌, ◌/◌, Bool, false, not, ◌&&◌, ◌||◌, List, [], ◌∷◌, length}
use Rattle.std.specs.Prelude.{take, drop, bytes_eq, IsFalse, ⊤}
use Rattle.paged_format.specs.declared.footer.Slot.{Slot}
use Rattle.paged_format.specs.declared.footer.Slot.TheVariants.{First, Second}
use Rattle.paged_format.specs.Footers.{slot_start, slot_len}
use Rattle.paged_format.specs.Pages.{verifies}
use Rattle.paged_blob_parts.specs.Calls.{Change, whole, File, Call, opened, wrote, resized_to, synced, file_of}

-- a page of a file, of so many bytes
abbrev pub page_at : ℕ → ℕ → List ℕ → List ℕ
page_at size page file = take size (drop (page * size) file)

-- a slot's six bytes in a page, or what there is of them
unfoldable pub slot_in : ℕ → Slot → List ℕ → List ℕ
slot_in size slot page = take 6 (drop (slot_start size slot) page)

-- whether a page has the slot of the shown one: its length and checksum, and as many first bytes
unfoldable pub has_slot : ℕ → Slot → List ℕ → List ℕ → Bool
has_slot size slot shown page =
    bytes_eq (slot_in size slot page) (slot_in size slot shown)
    && bytes_eq (take (slot_len size slot shown) page) (take (slot_len size slot shown) shown)

-- the base, or the base with the first of the changes, each whole
abbrev pub IsBeginning : List ℕ → List Change → List ℕ → Type 0
IsBeginning base [] file = file ≡ base
IsBeginning base (change ∷ earlier) file = (file ≡ whole base (change ∷ earlier)) ⊎ IsBeginning base earlier file

-- whether one of these beginnings has the slot in this page
abbrev pub was_written : ℕ → ℕ → Slot → List ℕ → List ℕ → List Change → Bool
was_written size page slot shown base [] = has_slot size slot shown (page_at size page base)
was_written size page slot shown base (change ∷ earlier) =
    has_slot size slot shown (page_at size page (whole base (change ∷ earlier)))
    || was_written size page slot shown base earlier

-- whether a slot verifies that was not written whole
unfoldable pub is_chance_slot : (List ℕ → ℕ) → ℕ → File → List ℕ → ℕ → Slot → Bool
is_chance_slot sum size file bytes page slot =
    verifies sum size slot (page_at size page bytes)
    && not (was_written size page slot (page_at size page bytes) file.base file.changes)

-- whether one of the first pages has such a slot
abbrev pub has_chance_slot : (List ℕ → ℕ) → ℕ → File → List ℕ → ℕ → Bool
has_chance_slot sum size file bytes zero = false
has_chance_slot sum size file bytes (suc page) =
    is_chance_slot sum size file bytes page First || (is_chance_slot sum size file bytes page Second
    || has_chance_slot sum size file bytes page)

-- whether bytes that an opening shows of a file, in pages of so many bytes, are there by chance
abbrev pub is_by_chance : (List ℕ → ℕ) → ℕ → File → List ℕ → Bool
is_by_chance sum size file shown = has_chance_slot sum size file shown (length shown / size)

-- no opening among the calls is by chance
abbrev pub NoneByChance : (List ℕ → ℕ) → ℕ → List Call → Type 0
NoneByChance sum size [] = ⊤
NoneByChance sum size (opened shown ∷ earlier) =
    IsFalse (is_by_chance sum size (file_of earlier) shown) × NoneByChance sum size earlier
NoneByChance sum size (wrote offset bytes is_sync ok ∷ earlier) = NoneByChance sum size earlier
NoneByChance sum size (resized_to length_asked ok ∷ earlier) = NoneByChance sum size earlier
NoneByChance sum size (synced bytes ok ∷ earlier) = NoneByChance sum size earlier
