-- What is known of the base of calls stays true as calls are noted.
use Rattle.std.proofs.Common.{◌≡◌, ℕ, ◌<◌, ◌≤◌, Bool, false, List, [], ◌∷◌, ◌++◌, length, get_or, reverse}
use Rattle.std.proofs.Common.{sym, ◌∙◌, ap, arith, subst, length-append}
use Rattle.std.proofs.lemmas.List.{take-append-le, take_all}
use Rattle.paged_blob_parts.specs.Calls.{Call, File, whole, content, file_of}
use Rattle.auth_store_device.specs.declared.base.Base.{Base}
use Rattle.auth_store_device.specs.Devices.{shown_file}
use Rattle.auth_store_device.specs.OpeningsCode.{is_base, file_after}
use Rattle.auth_store_device.specs.BlocksCode.{Held, Gains}
use Rattle.auth_store_device.specs.RecordsCode.{content_after, IsBase}
use Rattle.auth_store_device.specs.declared.touched.Touched.{Touched}
use Rattle.auth_store_device.specs.Touches.{IsOutside, AllLeave}
use Rattle.auth_store_device.proofs.Helds.{image-there}
use Rattle.auth_store_device.proofs.Replays.{base-after, calls-push, file-push}
use Rattle.auth_store_device.proofs.Untouched.{untouched-whole}

-- bytes are gained
pub base-gains : (held later : Held) (calls : List Call) (base : Base) → Gains held later → IsBase held calls base
    → IsBase later calls base
base-gains held later calls base gaining b =
    let stays = image-there held later base.image gaining b.within in
    record {
      within = stays.1;
      image_there = b.image_there;
      file_there = b.file_there;
      base_there = b.base_there;
      image_is = stays.0 ∙ b.image_is;
      file_is = b.file_is;
      begun = b.begun;
      base_is = b.base_is;
      failed = b.failed;
      touched = λ i out. let t = b.touched i out in (t.0, t.1 ∙ ap (λ l. get_or l i 0) (sym stays.0));
    }

-- the first calls stay
first-stay : (count : ℕ) (calls : List Call) (call : Call) → count ≤ length calls
    → content_after count (calls ++ call ∷ []) ≡ content_after count calls
first-stay count calls call there = ap (λ l. content (reverse l)) (take-append-le count calls (call ∷ []) there)

-- a call leaves alone what is outside then
abbrev pub MayTouch : Call → File → Touched → Touched → Type 0
MayTouch call file touched now =
    (i : ℕ) → IsOutside now i → IsOutside touched i × (AllLeave i file.changes → AllLeave i (file_after call file).changes)

-- a call is noted with which the file does not begin anew
pub base-changed : (held later : Held) (calls : List Call) (call : Call) (base : Base) (failed : Bool) (touched : Touched) → Gains held later
    → IsBase held calls base → is_base call ≡ false → failed ≡ (file_after call (file_of (reverse calls))).failed
    → MayTouch call (file_of (reverse calls)) base.touched touched
    → IsBase later (calls ++ call ∷ []) (record base { has_failed = failed; touched = touched })
base-changed held later calls call base failed touched gaining b none is may =
    let stays = image-there held later base.image gaining b.within in
    record {
      within = stays.1;
      image_there = b.image_there;
      file_there = b.file_there;
      base_there = omega (arith, b.base_there, length-append calls (call ∷ []));
      image_is = stays.0 ∙ b.image_is ∙ sym (first-stay base.image_at calls call (omega (arith, b.image_there, b.base_there)));
      file_is = b.file_is ∙ sym (first-stay base.file_at calls call (omega (arith, b.file_there, b.base_there)));
      begun = ap (λ l. (file_of (reverse l)).changes) (take-append-le base.base_at calls (call ∷ []) b.base_there) ∙ b.begun;
      base_is = first-stay base.base_at calls call b.base_there ∙ b.base_is ∙ sym (base-after call (file_of (reverse calls)) none)
          ∙ ap (λ (f : File). f.base) (sym (file-push calls call));
      failed = is ∙ ap (λ (f : File). f.failed) (sym (file-push calls call));
      touched = λ i out.
          let before = may i out in
          let t = b.touched i before.0 in (
            subst (λ (f : File). AllLeave i f.changes) (sym (file-push calls call)) (before.1 t.0),
            ap (λ (f : File). get_or f.base i 0) (file-push calls call) ∙ ap (λ l. get_or l i 0) (base-after call (file_of (reverse calls)) none)
                ∙ t.1 ∙ ap (λ l. get_or l i 0) (sym stays.0),
          );
    }

-- with a call the file begins with these bytes
module _ (calls : List Call) (call : Call) (bytes : List ℕ) (count : ℕ) (all : count ≡ length (calls ++ call ∷ []))
    (anew : file_of (call ∷ reverse calls) ≡ shown_file bytes)
  where
    after-all : content_after count (calls ++ call ∷ []) ≡ bytes
    after-all =
        ap (λ l. content (reverse l)) (take_all count (calls ++ call ∷ []) (omega (arith, all))) ∙ ap content (calls-push calls call)
        ∙ ap (λ (f : File). whole f.base f.changes) anew

    file-all : file_of (reverse (calls ++ call ∷ [])) ≡ shown_file bytes
    file-all = ap file_of (calls-push calls call) ∙ anew

    -- which are an image
    pub base-anew : (held later : Held) (base : Base) (image : ℕ) (touched : Touched) → IsBase held calls base → image < length later.images
        → get_or later.images image [] ≡ bytes
        → IsBase later (calls ++ call ∷ []) (record base { image = image; image_at = count; base_at = count; has_failed = false; touched = touched })
    base-anew held later base image touched b within these = record {
      within = within;
      image_there = omega arith;
      file_there = omega (arith, b.file_there, b.base_there, all, length-append calls (call ∷ []));
      base_there = omega (arith, all);
      image_is = these ∙ sym after-all;
      file_is = b.file_is ∙ sym (first-stay base.file_at calls call (omega (arith, b.file_there, b.base_there)));
      begun = ap (λ l. (file_of (reverse l)).changes) (take_all count (calls ++ call ∷ []) (omega (arith, all)))
          ∙ ap (λ (f : File). f.changes) file-all;
      base_is = after-all ∙ ap (λ (f : File). f.base) (sym file-all);
      failed = ap (λ (f : File). f.failed) (sym file-all);
      touched = λ i out. (
        subst (λ (f : File). AllLeave i f.changes) (sym file-all) tt,
        ap (λ (f : File). get_or f.base i 0) file-all ∙ ap (λ l. get_or l i 0) (sym these),
      );
    }

    -- which are kept nowhere else
    pub base-whole : (held : Held) (base : Base) → IsBase held calls base → base.has_failed ≡ false → bytes ≡ content (reverse calls)
        → IsBase held (calls ++ call ∷ []) (record base { base_at = count })
    base-whole held base b none whole = record {
      within = b.within;
      image_there = omega (arith, b.image_there, b.base_there, all, length-append calls (call ∷ []));
      file_there = omega (arith, b.file_there, b.base_there, all, length-append calls (call ∷ []));
      base_there = omega (arith, all);
      image_is = b.image_is ∙ sym (first-stay base.image_at calls call (omega (arith, b.image_there, b.base_there)));
      file_is = b.file_is ∙ sym (first-stay base.file_at calls call (omega (arith, b.file_there, b.base_there)));
      begun = ap (λ l. (file_of (reverse l)).changes) (take_all count (calls ++ call ∷ []) (omega (arith, all)))
          ∙ ap (λ (f : File). f.changes) file-all;
      base_is = after-all ∙ ap (λ (f : File). f.base) (sym file-all);
      failed = none ∙ ap (λ (f : File). f.failed) (sym file-all);
      touched = λ i out.
          let t = b.touched i out in (
            subst (λ (f : File). AllLeave i f.changes) (sym file-all) tt,
            ap (λ (f : File). get_or f.base i 0) file-all ∙ ap (λ l. get_or l i 0) whole ∙ untouched-whole (file_of (reverse calls)) i t.0 ∙ t.1,
          );
    }

-- an image is made of the base
pub base-put : (held later : Held) (calls : List Call) (base : Base) (image : ℕ) → IsBase held calls base
    → base.file_at ≡ base.base_at → image < length later.images → get_or later.images image [] ≡ base.file.items
    → IsBase later calls (record base { image = image; image_at = base.base_at })
base-put held later calls base image b brought within these = record {
  within = within;
  image_there = omega arith;
  file_there = b.file_there;
  base_there = b.base_there;
  image_is = these ∙ b.file_is ∙ ap (λ n. content_after n calls) brought;
  file_is = b.file_is;
  begun = b.begun;
  base_is = b.base_is;
  failed = b.failed;
  touched = λ i out. (
    (b.touched i out).0,
    ap (λ l. get_or l i 0) (sym b.base_is ∙ ap (λ n. content_after n calls) (sym brought) ∙ sym b.file_is ∙ sym these),
  );
}

-- the image has the base, where it is that of all calls
pub base-in-image : (held : Held) (calls : List Call) (base : Base) → IsBase held calls base → base.image_at ≡ base.base_at
    → get_or held.images base.image [] ≡ (file_of (reverse calls)).base
base-in-image held calls base b same = b.image_is ∙ ap (λ n. content_after n calls) same ∙ b.base_is

-- nothing has changed, where the file began with the last call
pub nothing-since : (held : Held) (calls : List Call) (base : Base) → IsBase held calls base → base.base_at ≡ length calls
    → (file_of (reverse calls)).changes ≡ []
nothing-since held calls base b all =
    ap (λ l. (file_of (reverse l)).changes) (sym (take_all base.base_at calls (omega (arith, all)))) ∙ b.begun
