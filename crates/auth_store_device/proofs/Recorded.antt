-- What is true of a record stays true as it gets more room, and as calls are noted.
use Rattle.std.proofs.Common.{◌≡◌, ◌⊎◌, ℕ, ◌+◌, ◌-◌, ◌^◌, ◌<◌, ◌≤◌, min, inl}
use Rattle.std.proofs.Common.{inr, ⊎_elim, Bool, false, List, [], ◌∷◌, ◌++◌, length, take, get_or, reverse}
use Rattle.std.proofs.Common.{sym, ◌∙◌, ap, refl, subst, arith, length-append}
use Rattle.std.specs.declared.alloc.Global.{Global}
use Rattle.std.specs.declared.vec.Vec.{Vec}
use Rattle.std.proofs.lemmas.List.{append-nil, take_more}
use Rattle.paged_blob_parts.specs.Calls.{Call, File, opened, wrote, resized_to, content, file_of}
use Rattle.auth_store_device.specs.Touches.{IsOutside}
use Rattle.auth_store_device.specs.declared.base.Base.{Base}
use Rattle.auth_store_device.specs.declared.kept.Kept.{Kept}
use Rattle.auth_store_device.specs.declared.kept.Kept.TheVariants.{SyncedWhole}
use Rattle.auth_store_device.specs.declared.touched.Touched.{Touched}
use Rattle.auth_store_device.specs.Devices.{shown_file}
use Rattle.auth_store_device.specs.OpeningsCode.{is_base, file_after}
use Rattle.auth_store_device.specs.BlocksCode.{Held, Gains}
use Rattle.auth_store_device.specs.RecordsCode.{call_in, calls_in, HasItsBytes, KnowsBase, AreWithin, IsBase}
use Rattle.auth_store_device.proofs.Bases.{MayTouch, base-anew, base-changed, base-gains, base-put, base-whole}
use Rattle.auth_store_device.proofs.Replays.{calls-push}
use Rattle.auth_store_device.proofs.Helds.{gains-none, image-there}
use Rattle.auth_store_device.proofs.KeptCalls.{call-at, calls-stay, length-in, noted}

-- all that is true of it
abbrev pub IsWell : Held → List Kept → Base → ℕ → Type 0
IsWell held calls base ready = AreWithin held [] calls × IsBase held (calls_in held [] calls) base × (ready < length held.images)

-- bytes are gained, and the base may be known better
pub well-gains : (held later : Held) (calls now : List Kept) (base : Base) (ready : ℕ) → Gains held later → now ≡ calls
    → IsWell held calls base ready → (calls_in later [] now ≡ calls_in held [] calls) × IsWell later now base ready
well-gains held later calls now base ready gaining is well =
    let stay = calls-stay held later [] calls gaining well.0 in
    subst (λ k. (calls_in later [] k ≡ calls_in held [] calls) × IsWell later k base ready) (sym is) (
      stay.0,
      (
        stay.1,
        subst (λ l. IsBase later l base) (sym stay.0) (base-gains held later (calls_in held [] calls) base gaining well.1),
        (image-there held later ready gaining well.2).1,
      ),
    )

-- another image is made ready
pub well-ready : (held : Held) (calls : List Kept) (base : Base) (ready next : ℕ) → next < length held.images → IsWell held calls base ready
    → IsWell held calls base next
well-ready held calls base ready next below well = (well.0, well.1, below)

-- an image is made of the base
pub well-put : (held : Held) (calls : List Kept) (base : Base) (ready image : ℕ) → base.file_at ≡ base.base_at → image < length held.images
    → get_or held.images image [] ≡ base.file.items → IsWell held calls base ready
    → IsWell held calls (record base { image = image; image_at = base.base_at }) ready
well-put held calls base ready image brought below these well =
    (well.0, base-put held held (calls_in held [] calls) base image well.1 brought below these, well.2)

-- a call is noted
module _ (held later : Held) (calls now : List Kept) (kept : Kept) (base : Base) (ready : ℕ) (gaining : Gains held later)
    (is : now ≡ calls ++ kept ∷ []) (well : IsWell held calls base ready)
  where
    abbrev pub all-of : List Call
    all-of = calls_in held [] calls

    abbrev pub call-of : Call
    call-of = call_in later (reverse all-of) kept

    -- as the calls of the record say it, the newest first
    abbrev pub Noted : Base → Type 0
    Noted next = (reverse (calls_in later [] now) ≡ call-of ∷ reverse all-of) × IsWell later now next ready

    noted-with : (next : Base) → HasItsBytes later kept → KnowsBase later (reverse all-of) kept
        → IsBase later (all-of ++ call-of ∷ []) next → Noted next
    noted-with next has knows b =
        let done = noted held later calls now kept gaining is well.0 has knows in (
          ap reverse done.0 ∙ calls-push all-of call-of,
          (done.1, subst (λ l. IsBase later l next) (sym done.0) b, (image-there held later ready gaining well.2).1),
        )

    -- with which the file does not begin anew
    pub change-noted : (failed : Bool) (touched : Touched) → HasItsBytes later kept → KnowsBase later (reverse all-of) kept → is_base call-of ≡ false
        → failed ≡ (file_after call-of (file_of (reverse all-of))).failed → MayTouch call-of (file_of (reverse all-of)) base.touched touched
        → Noted (record base { has_failed = failed; touched = touched })
    change-noted failed touched has knows none said may =
        noted-with (record base { has_failed = failed; touched = touched }) has knows
        (base-changed held later all-of call-of base failed touched gaining well.1 none said may)

    -- how many there are then
    counted : length now ≡ length (all-of ++ call-of ∷ [])
    counted =
        let many : length all-of ≡ length calls = length-in held [] calls in
        omega (arith, ap length is, length-append calls (kept ∷ []), length-append all-of (call-of ∷ []), many)

    -- with which it begins with an image
    pub begin-noted : (count image : ℕ) (bytes : List ℕ) (touched : Touched) → HasItsBytes later kept
        → KnowsBase later (reverse all-of) kept → count ≡ length now
        → file_of (call-of ∷ reverse all-of) ≡ shown_file bytes → image < length later.images → get_or later.images image [] ≡ bytes
        → Noted (record base { image = image; image_at = count; base_at = count; has_failed = false; touched = touched })
    begin-noted count image bytes touched has knows many anew within these =
        noted-with (record base { image = image; image_at = count; base_at = count; has_failed = false; touched = touched }) has knows
        (base-anew all-of call-of bytes count (many ∙ counted) anew held later base image touched well.1 within these)

-- a write leaves alone what it does not reach, and a resize what is before its end
pub write-may : (offset end : ℕ) (bytes laid : List ℕ) (is_sync ok : Bool) (file : File) (touched now : Touched) → laid ≡ bytes
    → end ≡ min (offset + length bytes) (2 ^ 64 - 1)
    → ((i : ℕ) → IsOutside now i → IsOutside touched i × ((i < offset) ⊎ ((end ≤ i) × (end < 2 ^ 64 - 1))))
    → MayTouch (wrote offset laid is_sync ok) file touched now
write-may offset end bytes laid is_sync ok file touched now same is widened = λ i out.
    let both = widened i out in (
      both.0,
      λ left. (⊎_elim (λ before. inl before) (λ behind. inr (omega (arith, behind.0, behind.1, is, ap length same))) both.1, left),
    )

pub resize-may : (size : ℕ) (ok : Bool) (file : File) (touched now : Touched)
    → ((i : ℕ) → IsOutside now i → IsOutside touched i × ((i < size) ⊎ ((2 ^ 64 - 1 ≤ i) × (2 ^ 64 - 1 < 2 ^ 64 - 1))))
    → MayTouch (resized_to size ok) file touched now
resize-may size ok file touched now widened = λ i out.
    let both = widened i out in
    (both.0, λ left. (⊎_elim (λ before. before) (λ behind. absurd (omega (arith, behind.1))) both.1, left))

-- a sync is noted that makes durable what the calls make of the file
pub whole-noted : (held : Held) (calls now : List Kept) (base : Base) (ready count : ℕ) (is : now ≡ calls ++ SyncedWhole ∷ [])
    (well : IsWell held calls base ready) → count ≡ length now → base.has_failed ≡ false
    → Noted held held calls now SyncedWhole base ready (gains-none held) is well (record base { base_at = count })
whole-noted held calls now base ready count is well many none =
    let all = calls_in held [] calls in
    let call = call_in held (reverse all) SyncedWhole in
    noted-with held held calls now SyncedWhole base ready (gains-none held) is well (record base { base_at = count }) tt tt
    (base-whole all call (content (reverse all)) count (many ∙ counted held held calls now SyncedWhole base ready (gains-none held) is well) refl held
    base well.1 none refl)

-- the file is a copy of the image
pub file-copied : (held : Held) (calls : List Call) (base : Base) (file : Vec ℕ Global) → file.items ≡ get_or held.images base.image []
    → IsBase held calls base → IsBase held calls (record base { file = file; file_at = base.image_at })
file-copied held calls base file is b = record {
  within = b.within;
  image_there = b.image_there;
  file_there = b.image_there;
  base_there = b.base_there;
  image_is = b.image_is;
  file_is = is ∙ b.image_is;
  begun = b.begun;
  base_is = b.base_is;
  failed = b.failed;
  touched = b.touched;
}

-- the file is that of one call more
pub file-below : (held : Held) (calls : List Kept) (base : Base) → IsBase held (calls_in held [] calls) base
    → base.file_at < base.base_at → base.file_at < length calls
file-below held calls base b below =
    let many : length (calls_in held [] calls) ≡ length calls = length-in held [] calls in
    omega (arith, below, b.base_there, many)

pub file-brought : (held : Held) (calls : List Kept) (base : Base) (k : Kept) (file : Vec ℕ Global)
    → IsBase held (calls_in held [] calls) base → base.file_at < base.base_at
    → ((past : List Call) → base.file.items ≡ content past → file.items ≡ content (call_in held past (get_or calls base.file_at k) ∷ past))
    → IsBase held (calls_in held [] calls) (record base { file = file; file_at = base.file_at + 1 })
file-brought held calls base k file b below made =
    let all = calls_in held [] calls in
    let d = opened [] in
    let past = reverse (take base.file_at all) in
    let there : base.file_at < length calls = file-below held calls base b below in
    let many : length all ≡ length calls = length-in held [] calls in
    let next : get_or all base.file_at d ≡ call_in held past (get_or calls base.file_at k) =
    call-at held [] calls base.file_at k d there ∙ ap (λ p. call_in held p (get_or calls base.file_at k)) (append-nil past) in
    record {
      within = b.within;
      image_there = b.image_there;
      file_there = omega (arith, below);
      base_there = b.base_there;
      image_is = b.image_is;
      file_is = made past b.file_is ∙ ap (λ c. content (c ∷ past)) (sym next)
          ∙ ap content (sym (calls-push (take base.file_at all) (get_or all base.file_at d)))
          ∙ ap (λ l. content (reverse l)) (sym (take_more all base.file_at d (omega (arith, there, many))));
      begun = b.begun;
      base_is = b.base_is;
      failed = b.failed;
      touched = b.touched;
    }
