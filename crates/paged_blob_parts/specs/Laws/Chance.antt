-- The test decides whether an opening is by chance.
use Rattle.std.proofs.Common.{◌≡◌, ℕ, zero, suc, ◌/◌, ◌<◌, true, false, List, [], ◌∷◌, length, take}
use Rattle.std.proofs.Common.{Decides, inl, inr, ⊎_elim, subst, refl, arith}
use Rattle.std.proofs.lemmas.Bool.{cases_lt, cases_Bool, or_cases, or_left, or_right}
use Rattle.std.proofs.lemmas.Bool.{and_parts, and_from, both_ways, not-true, not_from_false, false_from_ne_true}
use Rattle.std.proofs.lemmas.Slice.Eq.{bytes_eq-Decides}
use Rattle.paged_format.specs.declared.footer.Slot.{Slot}
use Rattle.paged_format.specs.declared.footer.Slot.TheVariants.{First, Second}
use Rattle.paged_format.specs.Footers.{slot_len}
use Rattle.paged_format.specs.Pages.{verifies}
use Rattle.paged_blob_parts.specs.Calls.{Change, whole, File}
use Rattle.paged_blob_parts.specs.Chance.{page_at, slot_in, has_slot, IsBeginning, was_written, is_chance_slot}
use Rattle.paged_blob_parts.specs.Chance.{has_chance_slot, is_by_chance}

-- a page has the slot of the shown one, and the bytes that it vouches for
pub record HasSlot (size : ℕ) (slot : Slot) (shown page : List ℕ) : Type 0 where
  pub slot_same : slot_in size slot page ≡ slot_in size slot shown
  pub bytes_same : take (slot_len size slot shown) page ≡ take (slot_len size slot shown) shown

-- a slot of a page verifies, and no beginning has it there
pub record IsChanceSlot
    (sum : List ℕ → ℕ) (size : ℕ) (file : File) (bytes : List ℕ) (page : ℕ) (slot : Slot) : Type 0 where
  pub verified : verifies sum size slot (page_at size page bytes) ≡ true
  pub unwritten : (beginning : List ℕ) → IsBeginning file.base file.changes beginning
      → HasSlot size slot (page_at size page bytes) (page_at size page beginning) → ⊥

-- some slot of some page is such a one
pub record IsByChance (sum : List ℕ → ℕ) (size : ℕ) (file : File) (shown : List ℕ) : Type 0 where
  pub page : ℕ
  pub there : page < length shown / size
  pub slot : Slot
  pub chance : IsChanceSlot sum size file shown page slot

pub has_slot-parts : (size : ℕ) (slot : Slot) (shown page : List ℕ) → has_slot size slot shown page ≡ true
    → HasSlot size slot shown page
unfolding has_slot
has_slot-parts size slot shown page ok =
    let p = and_parts _ _ ok in
    record { slot_same = (bytes_eq-Decides _ _).0 p.0; bytes_same = (bytes_eq-Decides _ _).0 p.1 }

pub has_slot-from : (size : ℕ) (slot : Slot) (shown page : List ℕ) → HasSlot size slot shown page
    → has_slot size slot shown page ≡ true
unfolding has_slot
has_slot-from size slot shown page h =
    and_from _ _ ((bytes_eq-Decides _ _).1 h.slot_same) ((bytes_eq-Decides _ _).1 h.bytes_same)

-- where a slot was written, some beginning has it
pub written_found : (size page : ℕ) (slot : Slot) (shown base : List ℕ) (changes : List Change)
    → was_written size page slot shown base changes ≡ true
    → (beginning : List ℕ) × IsBeginning base changes beginning × HasSlot size slot shown (page_at size page beginning)
written_found size page slot shown base [] has =
    (base, refl, has_slot-parts size slot shown (page_at size page base) has)
written_found size page slot shown base (change ∷ earlier) has =
    let now = whole base (change ∷ earlier) in
    ⊎_elim
    (λ here. (now, inl refl, has_slot-parts size slot shown (page_at size page now) here))
    (λ before. let r = written_found size page slot shown base earlier before in (r.0, inr r.1, r.2))
    (or_cases _ _ has)

pub written_there : (size page : ℕ) (slot : Slot) (shown base : List ℕ) (changes : List Change) (beginning : List ℕ)
    → IsBeginning base changes beginning
    → HasSlot size slot shown (page_at size page beginning) → was_written size page slot shown base changes ≡ true
written_there size page slot shown base [] beginning is has =
    let P : List ℕ → Type 0 = λ b. HasSlot size slot shown (page_at size page b) in
    has_slot-from size slot shown (page_at size page base) (subst P is has)
written_there size page slot shown base (change ∷ earlier) beginning (inl is) has =
    let now = whole base (change ∷ earlier) in
    let P : List ℕ → Type 0 = λ b. HasSlot size slot shown (page_at size page b) in
    or_left _ _ (has_slot-from size slot shown (page_at size page now) (subst P is has))
written_there size page slot shown base (change ∷ earlier) beginning (inr before) has =
    or_right _ _ (written_there size page slot shown base earlier beginning before has)

pub chance_slot-parts : (sum : List ℕ → ℕ) (size : ℕ) (file : File) (bytes : List ℕ) (page : ℕ) (slot : Slot)
    → is_chance_slot sum size file bytes page slot ≡ true → IsChanceSlot sum size file bytes page slot
unfolding is_chance_slot
chance_slot-parts sum size file bytes page slot ok =
    let p = and_parts _ _ ok in
    record {
      verified = p.0;
      unwritten = λ beginning begins has.
          both_ways _ (not-true _ p.1)
          (written_there size page slot (page_at size page bytes) file.base file.changes beginning begins has);
    }

pub chance_slot-from : (sum : List ℕ → ℕ) (size : ℕ) (file : File) (bytes : List ℕ) (page : ℕ) (slot : Slot)
    → IsChanceSlot sum size file bytes page slot → is_chance_slot sum size file bytes page slot ≡ true
unfolding is_chance_slot
chance_slot-from sum size file bytes page slot c =
    and_from _ _ c.verified
    (not_from_false _ (false_from_ne_true _
    (λ has. let r = written_found size page slot (page_at size page bytes) file.base file.changes has in
    c.unwritten r.0 r.1 r.2)))

-- where an opening is not by chance, a slot that verifies is that of some beginning
pub not_chance : (sum : List ℕ → ℕ) (size : ℕ) (file : File) (bytes : List ℕ) (page : ℕ) (slot : Slot)
    → is_chance_slot sum size file bytes page slot ≡ false → verifies sum size slot (page_at size page bytes) ≡ true
    → (beginning : List ℕ) × IsBeginning file.base file.changes beginning
    × HasSlot size slot (page_at size page bytes) (page_at size page beginning)
unfolding is_chance_slot
not_chance sum size file bytes page slot none ok =
    let shown = page_at size page bytes in
    ⊎_elim
    (λ has. written_found size page slot shown file.base file.changes has)
    (λ no. absurd (both_ways (is_chance_slot sum size file bytes page slot) none
    (and_from _ _ ok (not_from_false _ no))))
    (cases_Bool (was_written size page slot shown file.base file.changes))

chance_found : (sum : List ℕ → ℕ) (size : ℕ) (file : File) (bytes : List ℕ) (count : ℕ)
    → has_chance_slot sum size file bytes count ≡ true
    → (page : ℕ) × (page < count) × ((slot : Slot) × (is_chance_slot sum size file bytes page slot ≡ true))
chance_found sum size file bytes zero ok = absurd (both_ways false refl ok)
chance_found sum size file bytes (suc count) ok =
    ⊎_elim
    (λ first. (count, omega arith, (First, first)))
    (λ other. ⊎_elim
    (λ second. (count, omega arith, (Second, second)))
    (λ before. let r = chance_found sum size file bytes count before in (r.0, omega (arith, r.1), r.2))
    (or_cases _ _ other))
    (or_cases _ _ ok)

at_last : (sum : List ℕ → ℕ) (size : ℕ) (file : File) (bytes : List ℕ) (count : ℕ) (slot : Slot)
    → is_chance_slot sum size file bytes count slot ≡ true
    → has_chance_slot sum size file bytes (suc count) ≡ true
at_last sum size file bytes count First ok = or_left _ _ ok
at_last sum size file bytes count Second ok =
    or_right (is_chance_slot sum size file bytes count First) _ (or_left _ _ ok)

chance_there : (sum : List ℕ → ℕ) (size : ℕ) (file : File) (bytes : List ℕ) (count page : ℕ) (slot : Slot)
    → page < count
    → is_chance_slot sum size file bytes page slot ≡ true → has_chance_slot sum size file bytes count ≡ true
chance_there sum size file bytes zero page slot below ok = absurd (omega (arith, below))
chance_there sum size file bytes (suc count) page slot below ok =
    ⊎_elim
    (λ before. or_right (is_chance_slot sum size file bytes count First) _
    (or_right (is_chance_slot sum size file bytes count Second) _
    (chance_there sum size file bytes count page slot before ok)))
    (λ from.
    let is : page ≡ count = omega (arith, below, from) in
    let P : ℕ → Type 0 = λ n. is_chance_slot sum size file bytes n slot ≡ true in
    at_last sum size file bytes count slot (subst P is ok))
    (cases_lt page count)

-- the test answers exactly whether an opening is by chance
pub by_chance_decided : (sum : List ℕ → ℕ) (size : ℕ) (file : File) (shown : List ℕ)
    → Decides (is_by_chance sum size file shown) (IsByChance sum size file shown)
by_chance_decided sum size file shown = (
  λ ok.
      let r = chance_found sum size file shown (length shown / size) ok in
      record { page = r.0; there = r.1; slot = r.2.0; chance = chance_slot-parts sum size file shown r.0 r.2.0 r.2.1 },
  λ c. chance_there sum size file shown (length shown / size) c.page c.slot c.there
      (chance_slot-from sum size file shown c.page c.slot c.chance),
)
