-- Blocks that only gain bytes, and images that stay as they are.
use Rattle.std.proofs.Common.{◌≡◌, ℕ, zero, suc, ◌+◌, ◌*◌, ◌<◌, ◌≤◌, List, [], ◌∷◌, ◌++◌, length, take, drop, get_or, map}
use Rattle.std.proofs.Common.{sym, ◌∙◌, ap, refl, subst, arith, append_assoc, length-append, length-drop}
use Rattle.std.specs.List.{All}
use Rattle.std.proofs.lemmas.List.{append-nil, drop-append-le, ext_get_or, get_or_append_left, get_or-append_right}
use Rattle.std.proofs.lemmas.List.{length-take-le, map-append, map_push, take-append-le}
use Rattle.std.proofs.lemmas.List.Elements.{All-head, All-tail, All-cons, All-nil}
use Rattle.std.specs.declared.alloc.Global.{Global}
use Rattle.std.specs.declared.vec.Vec.{Vec}
use Rattle.auth_store_device.specs.declared.blocks.Part.{Part}
use Rattle.auth_store_device.specs.BlocksCode.{blocks_with, blocks_of, bytes_in, image_in, piece_bytes, AreCut, IsPartWithin, Held, Gains}

-- each block is there later, with bytes behind it or none
pub record GainsBytes (blocks later : List (List ℕ)) : Type 0 where
  pub longer : length blocks ≤ length later
  pub gains : (k : ℕ) → k < length blocks → (more : List ℕ) × (get_or later k [] ≡ get_or blocks k [] ++ more)

-- the bytes of a part stay
pub part-stays : (blocks later : List (List ℕ)) (part : Part) → GainsBytes blocks later → IsPartWithin blocks part
    → (bytes_in later part ≡ bytes_in blocks part) × IsPartWithin later part
part-stays blocks later part gaining within =
    let block = get_or blocks part.block [] in
    let gained = gaining.gains part.block within.0 in
    let start : part.start ≤ length block = omega (arith, within.1) in
    let count : part.count ≤ length (drop part.start block) = omega (arith, within.1, length-drop part.start block) in (
      ap (λ bytes. take part.count (drop part.start bytes)) gained.1 ∙ ap (take part.count) (drop-append-le part.start block gained.0 start)
          ∙ take-append-le part.count (drop part.start block) gained.0 count,
      (omega (arith, within.0, gaining.longer), omega (arith, within.1, ap length gained.1, length-append block gained.0)),
    )

-- and so do those of an image
abbrev pub AreWithin : List (List ℕ) → List Part → Type 0
AreWithin blocks parts = All (IsPartWithin blocks) parts

pub image-stays : (blocks later : List (List ℕ)) (parts : List Part) → GainsBytes blocks later → AreWithin blocks parts
    → (image_in later parts ≡ image_in blocks parts) × AreWithin later parts
image-stays blocks later [] gaining within = (refl, All-nil (IsPartWithin later))
image-stays blocks later (part ∷ others) gaining within =
    let first = part-stays blocks later part gaining (All-head (IsPartWithin blocks) part others within) in
    let rest = image-stays blocks later others gaining (All-tail (IsPartWithin blocks) part others within) in (
      ap (λ b. b ++ image_in later others) first.0 ∙ ap (λ l. bytes_in blocks part ++ l) rest.0,
      All-cons (IsPartWithin later) part others first.1 rest.1,
    )

-- the bytes of images
abbrev pub images_in : List (List ℕ) → List (Vec Part Global) → List (List ℕ)
images_in blocks images = map (λ image. image_in blocks image.items) images

abbrev pub AreImagesWithin : List (List ℕ) → List (Vec Part Global) → Type 0
AreImagesWithin blocks images = All (λ image. AreWithin blocks image.items) images

pub images-stay : (blocks later : List (List ℕ)) (images : List (Vec Part Global)) → GainsBytes blocks later → AreImagesWithin blocks images
    → images_in later images ≡ images_in blocks images
images-stay blocks later [] gaining within = refl
images-stay blocks later (image ∷ others) gaining within =
    let P : Vec Part Global → Type 0 = λ i. AreWithin blocks i.items in
    ap (λ b. b ∷ images_in later others) (image-stays blocks later image.items gaining (All-head P image others within)).0
    ∙ ap (λ l. image_in blocks image.items ∷ l) (images-stay blocks later others gaining (All-tail P image others within))

-- an image more of one part
pub image-push : (blocks : List (List ℕ)) (parts : List Part) (part : Part) → image_in blocks (parts ++ part ∷ [])
    ≡ image_in blocks parts ++ bytes_in blocks part
image-push blocks [] part = append-nil (bytes_in blocks part)
image-push blocks (first ∷ others) part =
    ap (λ l. bytes_in blocks first ++ l) (image-push blocks others part)
    ∙ sym (append_assoc (bytes_in blocks first) (image_in blocks others) (bytes_in blocks part))

-- the last block gains bytes
grown-at : (front : List (List ℕ)) (last more : List ℕ) (k : ℕ) → k < length (front ++ last ∷ [])
    → (added : List ℕ) × (get_or (front ++ (last ++ more) ∷ []) k [] ≡ get_or (front ++ last ∷ []) k [] ++ added)
grown-at [] last more zero below = (more, refl)
grown-at [] last more (suc k) below = absurd (omega (arith, below))
grown-at (block ∷ front) last more zero below = ([], sym (append-nil block))
grown-at (block ∷ front) last more (suc k) below = grown-at front last more k (omega (arith, below))

grown : (front : List (List ℕ)) (last more : List ℕ) → GainsBytes (front ++ last ∷ []) (front ++ (last ++ more) ∷ [])
grown front last more = record {
  longer = omega (arith, length-append front (last ∷ []), length-append front ((last ++ more) ∷ []));
  gains = grown-at front last more;
}

-- there is one more block
one_more : (blocks : List (List ℕ)) (next : List ℕ) → GainsBytes blocks (blocks ++ next ∷ [])
one_more blocks next = record {
  longer = omega (arith, length-append blocks (next ∷ []));
  gains = λ k below. ([], get_or_append_left blocks (next ∷ []) [] k below ∙ sym (append-nil (get_or blocks k [])));
}

-- nothing is gained
bytes-none : (blocks : List (List ℕ)) → GainsBytes blocks blocks
bytes-none blocks = record { longer = omega arith; gains = λ k below. ([], sym (append-nil (get_or blocks k []))) }

-- one more block is begun
bytes-begun : (full : List (Vec ℕ Global)) (last next : Vec ℕ Global) → next.items ≡ []
    → GainsBytes (blocks_of full last) (blocks_of (full ++ last ∷ []) next)
bytes-begun full last next begun =
    subst (GainsBytes (blocks_of full last)) (ap (λ l. l ++ next.items ∷ []) (sym (map_push (λ (block : Vec ℕ Global). block.items) full last)))
    (one_more (blocks_of full last) next.items)

-- bytes are put behind those of the last block
bytes-put : (full : List (Vec ℕ Global)) (last next bytes : List ℕ) → next ≡ last ++ bytes
    → GainsBytes (blocks_with full last) (blocks_with full next)
bytes-put full last next bytes is =
    subst (λ l. GainsBytes (blocks_with full last) (blocks_with full l)) (sym is) (grown (map (λ (b : Vec ℕ Global). b.items) full) last bytes)

-- what is held, of these blocks and images
abbrev pub held-of : List (Vec ℕ Global) → Vec ℕ Global → List (Vec Part Global) → ℕ → Held
held-of full last images room = record { blocks = blocks_of full last; images = images_in (blocks_of full last) images; room = room }

held-gains : (full now : List (Vec ℕ Global)) (last next : Vec ℕ Global) (images later more : List (Vec Part Global)) (room left : ℕ)
    → GainsBytes (blocks_of full last) (blocks_of now next) → later ≡ images ++ more → AreImagesWithin (blocks_of full last) images
    → Gains (held-of full last images room) (held-of now next later left)
held-gains full now last next images later more room left gaining is within =
    let blocks = blocks_of full last in
    let others = blocks_of now next in
    record {
      longer = gaining.longer;
      blocks = gaining.gains;
      images = (
        images_in others more,
        ap (images_in others) is ∙ map-append (λ (image : Vec Part Global). image_in others image.items) images more
            ∙ ap (λ l. l ++ images_in others more) (images-stay blocks others images gaining within),
      );
    }

-- a block is begun, bytes are put, or an image
module _ (full : List (Vec ℕ Global)) (last next : Vec ℕ Global) (images : List (Vec Part Global)) (room left : ℕ)
    (within : AreImagesWithin (blocks_of full last) images)
  where
    pub gains-begun : (now : List (Vec ℕ Global)) → now ≡ full ++ last ∷ [] → next.items ≡ []
        → Gains (held-of full last images room) (held-of now next images left)
    gains-begun now is begun =
        subst (λ l. Gains (held-of full last images room) (held-of l next images left)) (sym is)
        (held-gains full (full ++ last ∷ []) last next images images [] room left (bytes-begun full last next begun) (sym (append-nil images)) within)

    pub gains-put : (bytes : List ℕ) → next.items ≡ last.items ++ bytes → Gains (held-of full last images room) (held-of full next images left)
    gains-put bytes is =
        held-gains full full last next images images [] room left (bytes-put full last.items next.items bytes is) (sym (append-nil images)) within

    pub gains-image : (later : List (Vec Part Global)) (image : Vec Part Global) → later ≡ images ++ image ∷ []
        → Gains (held-of full last images room) (held-of full last later left)
    gains-image later image is = held-gains full full last last images later (image ∷ []) room left (bytes-none (blocks_of full last)) is within

-- nothing is gained, or one time after the other
pub gains-none : (held : Held) → Gains held held
gains-none held = record {
  longer = omega arith;
  blocks = λ k below. ([], sym (append-nil (get_or held.blocks k [])));
  images = ([], sym (append-nil held.images));
}

pub gains-both : (held next later : Held) → Gains held next → Gains next later → Gains held later
gains-both held next later first second = record {
  longer = omega (arith, first.longer, second.longer);
  blocks = λ k below.
      let one = first.blocks k below in
      let other = second.blocks k (omega (arith, below, first.longer)) in
      (one.0 ++ other.0, other.1 ∙ ap (λ b. b ++ other.0) one.1 ∙ append_assoc (get_or held.blocks k []) one.0 other.0);
  images = (
    first.images.0 ++ second.images.0,
    second.images.1 ∙ ap (λ l. l ++ second.images.0) first.images.1 ∙ append_assoc held.images first.images.0 second.images.0,
  );
}

pub bytes-of : (held later : Held) → Gains held later → GainsBytes held.blocks later.blocks
bytes-of held later gaining = record { longer = gaining.longer; gains = gaining.blocks }

-- an image stays
pub image-there : (held later : Held) (image : ℕ) → Gains held later → image < length held.images
    → (get_or later.images image [] ≡ get_or held.images image []) × (image < length later.images)
image-there held later image gaining below = (
  ap (λ l. get_or l image []) gaining.images.1 ∙ get_or_append_left held.images gaining.images.0 [] image below,
  omega (arith, below, ap length gaining.images.1, length-append held.images gaining.images.0),
)

-- the bytes of a part are as many as it says
pub length-part : (blocks : List (List ℕ)) (part : Part) → IsPartWithin blocks part → length (bytes_in blocks part) ≡ part.count
length-part blocks part within =
    let block = get_or blocks part.block [] in
    length-take-le part.count (drop part.start block) (omega (arith, within.1, length-drop part.start block))

-- a byte of a part of an image that is cut
pub piece-at : (blocks : List (List ℕ)) (parts : List Part) (k i : ℕ) (d : Part) → AreWithin blocks parts → AreCut parts → k < length parts
    → i < (get_or parts k d).count → get_or (bytes_in blocks (get_or parts k d)) i 0 ≡ get_or (image_in blocks parts) (k * piece_bytes + i) 0
piece-at blocks [] k i d within cut there below = absurd (omega (arith, there))
piece-at blocks (part ∷ others) zero i d within cut there below =
    let long = length-part blocks part (All-head (IsPartWithin blocks) part others within) in
    sym (get_or_append_left (bytes_in blocks part) (image_in blocks others) 0 i (omega (arith, below, long)))
    ∙ ap (λ n. get_or (image_in blocks (part ∷ others)) n 0) (omega arith)
piece-at blocks (part ∷ others) (suc k) i d within cut there below =
    let long = length-part blocks part (All-head (IsPartWithin blocks) part others within) in
    let full : part.count ≡ piece_bytes = cut 0 d (omega (arith, there)) in
    let place = suc k * piece_bytes + i in
    piece-at blocks others k i d (All-tail (IsPartWithin blocks) part others within) (λ j e more. cut (suc j) e (omega (arith, more)))
    (omega (arith, there)) below
    ∙ ap (λ n. get_or (image_in blocks others) n 0) (omega arith)
    ∙ sym (get_or-append_right (bytes_in blocks part) (image_in blocks others) piece_bytes place 0 (long ∙ full) (omega arith))

-- so the part has bytes that the image has there
pub piece-is : (blocks : List (List ℕ)) (parts : List Part) (bytes : List ℕ) (k : ℕ) (d : Part) → AreWithin blocks parts → AreCut parts
    → k < length parts → (get_or parts k d).count ≡ length bytes
    → ((i : ℕ) → i < length bytes → get_or bytes i 0 ≡ get_or (image_in blocks parts) (k * piece_bytes + i) 0)
    → bytes_in blocks (get_or parts k d) ≡ bytes
piece-is blocks parts bytes k d within cut there many same =
    let part = get_or parts k d in
    let long = length-part blocks part (within k d there) in
    ext_get_or 0 (bytes_in blocks part) bytes (long ∙ many)
    (λ i below. piece-at blocks parts k i d within cut there (omega (arith, below, long)) ∙ sym (same i (omega (arith, below, long, many))))

-- a part more leaves the parts cut, where each before it has all bytes of a piece
abbrev pub AreWhole : List Part → Type 0
AreWhole parts = All (λ part. part.count ≡ piece_bytes) parts

pub cut-push : (parts : List Part) (part : Part) → AreWhole parts → AreCut (parts ++ part ∷ [])
cut-push parts part whole = λ k d more.
    let below : k < length parts = omega (arith, more, length-append parts (part ∷ [])) in
    ap (λ (p : Part). p.count) (get_or_append_left parts (part ∷ []) d k below) ∙ whole k d below
