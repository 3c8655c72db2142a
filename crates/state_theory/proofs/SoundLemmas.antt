-- Where a proof of a bit leads to the root of a list of bits its claim is true of the list, or strings collide.
use Rattle.std.proofs.Common.{◌≡◌, ◌⊎◌, inl, inr, ⊎_elim, ℕ, zero, suc, ◌+◌}
use Rattle.std.proofs.Common.{◌-◌, ◌*◌, ◌/◌, ◌%◌, ◌<◌, ◌≤◌, ◌^◌, eqb}
use Rattle.std.proofs.Common.{leb, ltb, Bool, true, false, List, [], ◌∷◌, ◌++◌, length, take, drop, get_or}
use Rattle.std.proofs.Common.{Option, None, Some, option_map, option_and_then, IfSome, Contains, refl, sym, ◌∙◌, ap, subst, arith, length-append}
use Rattle.std.specs.Prelude.{◌||◌}
use Rattle.std.proofs.lemmas.Bool.{cases_eq, eqb-true, eqb-false, leb-false}
use Rattle.std.proofs.lemmas.List.Elements.{Contains-append_left, Contains-append_right}
use Rattle.std.proofs.lemmas.Nat.{mul-le}
use Rattle.merkle_forest.specs.declared.bagging.Bagging.{Bagging}
use Rattle.merkle_forest.specs.Forest.{mmr_rule}
use Rattle.merkle_forest.specs.Hashing.{Hash, number, domain_of}
use Rattle.merkle_forest.specs.Laws.Matching.{equal_or_not, append_parts, In}
use Rattle.merkle_forest.specs.Laws.Rules.{mmr_merges_equals}
use Rattle.merkle_forest.specs.Made.{Site, at_tree_root, at_bitmap_root, at_last_chunk, Made, bytes, both, hashed, value, Strings, strings, Collision}
use Rattle.merkle_forest.specs.Trees.{Located}
use Rattle.merkle_theory.specs.Laws.MadeBags.{bag_good, bag_sized, map_good}
use Rattle.merkle_theory.specs.Laws.MadeRoots.{number_same}
use Rattle.merkle_theory.specs.Laws.MadeTrees.{AllSized, choose, plain_fits}
use Rattle.merkle_theory.specs.Laws.Sound.{plain_sound, all_take, all_drop}
use Rattle.merkle_theory.specs.MadeRoots.{from_left, made_bag, peaks_of, root_made, Streams, used, read_bag, read_root}
use Rattle.merkle_theory.specs.MadeTrees.{from, whole, plain_over}
use Rattle.merkle_theory.specs.RangeCounts.{range_outer}
use Rattle.merkle_theory.specs.Reads.{claim_of}
use Rattle.merkle_theory.specs.Soundness.{plain_names, list_root, RangeClaim, IsTrueOf as IsTrueOfList, IsSound as IsSoundRange}
use Rattle.state_theory.specs.Bits.{IsChunkWidth, chunk_at, full_chunks}
use Rattle.state_theory.specs.Inclusion.{also, partial_made, last_made, BitClaim, tree_read, last_of, front_of, bit_root, IsTrueOf}
use Rattle.state_theory.specs.Inclusion.{IsSound}
use Rattle.state_theory.proofs.ChunkLemmas.{length-chunks_of, at-chunks_of, chunks_of_bits}
use Rattle.state_theory.proofs.HonestLemmas.{value-also}
use Rattle.state_theory.proofs.MadeLemmas.{partial_long, made-aligned, made-partial, root-aligned, root-partial}
use Rattle.state_theory.proofs.WidthLemmas.{wide-some}

-- strings at one site with one digest are one, or collide
meet : (hash : Hash) (site : Site) (one other : List ℕ) (given shown : Strings) → Contains given (site, one) → Contains shown (site, other)
    → hash other ≡ hash one → (other ≡ one) ⊎ Collision hash given shown
meet hash site one other given shown in_given in_shown same =
    elim (equal_or_not other one) [
      | inl equal ↦ inl equal
      | inr differ ↦ inr (record {
        site = site;
        one = one;
        other = other;
        in_hashed = in_given;
        in_rebuilt = in_shown;
        differ = λ e. differ (sym e);
        same = sym same;
      })
    ]

-- a collision of parts is one of the whole
lift : (hash : Hash) (few many some more : Strings) → In few many → In some more → Collision hash few some → Collision hash many more
lift hash few many some more one two c = record {
  site = c.site;
  one = c.one;
  other = c.other;
  in_hashed = one (c.site, c.one) c.in_hashed;
  in_rebuilt = two (c.site, c.other) c.in_rebuilt;
  differ = c.differ;
  same = c.same;
}

in_tail : (s : Site × List ℕ) (xs : Strings) → In xs (s ∷ xs)
in_tail s xs x here = Contains-append_right (s ∷ []) xs x here

in_front : (xs ys : Strings) → In xs (xs ++ ys)
in_front xs ys x here = Contains-append_left xs ys x here

or_parts : (x y : Bool) → (x || y) ≡ false → (x ≡ false) × (y ≡ false)
or_parts true y none = absurd cc
or_parts false y none = (refl, none)

module _ (hash : Hash) (hash_sized : (xs : List ℕ) → length (hash xs) ≡ 32) (bagging : Bagging) where
  -- the root of a tree, whose string is not as long as that of a root over a partial chunk
  record IsTreeRoot (made : Made) : Type 0 where
    pub string : Made
    pub is : made ≡ hashed at_tree_root [] string
    pub short : length (value hash string) ≡ 72 → ⊥

  tree_root : (leaves : ℕ) (bag : Made) → (length (value hash bag) ≡ 63 → ⊥) → IsTreeRoot (root_made plain_names bagging leaves 0 bag)
  tree_root leaves bag other =
      let front = domain_of bagging ∷ [] in
      record {
        string = both (bytes (number leaves)) (both (bytes front) bag);
        is = refl;
        short = λ long. other (omega (
          arith,
          long,
          length-append (number leaves) (front ++ value hash bag),
          length-append front (value hash bag),
          eight leaves,
        ));
      }
    where
      eight : (n : ℕ) → length (number n) ≡ 8
      eight n = refl

  used_good : (P : Made × Streams → Type 0) (Q : Made → Type 0) (got : Option (Made × Streams)) → IfSome got P
      → ((x : Made × Streams) → P x → Q x.0) → IfSome (option_and_then used got) Q
  used_good P Q None p each = tt
  used_good P Q (Some (made, ([], []))) p each = each (made, ([], [])) p
  used_good P Q (Some (made, ((d ∷ outer), inner))) p each = tt
  used_good P Q (Some (made, ([], (d ∷ inner)))) p each = tt

  -- what a proof in the tree leads to is such a root
  read_is_root : (leaves start stop outer : ℕ) (elements : List (List ℕ)) (digests : List (List ℕ)) → AllSized 32 digests
      → IfSome (read_root plain_names plain_over bagging mmr_rule leaves 0 start stop (from start elements) outer digests) IsTreeRoot
  read_is_root leaves start stop outer elements digests sized =
      let peaks = peaks_of mmr_rule leaves in
      let last = length peaks in
      let left = from_left bagging 0 last in
      let streams : Streams = (take outer digests, drop outer digests) in
      let got = read_bag plain_names plain_over (from start elements) start stop last left peaks streams in
      let fits = plain_fits hash 32 hash_sized in
      choose (λ r. IfSome r IsTreeRoot) (ltb (2 ^ 62) leaves || (ltb last 0 || ltb leaves stop)) None
      (option_map (root_made plain_names bagging leaves 0) (option_and_then used got)) (λ is. tt)
      (λ is. map_good (λ made. length (value hash made) ≡ 32) IsTreeRoot (root_made plain_names bagging leaves 0) (option_and_then used got)
      (used_good _ (λ made. length (value hash made) ≡ 32) got
      (bag_good hash 32 hash_sized (λ at high. Unit {0}) plain_over plain_over fits (from start elements) (from start elements) start stop
      plain_names last left peaks streams (all_take 32 outer digests sized, all_drop 32 outer digests sized))
      (λ x good. good.0.sized))
      (λ made long. tree_root leaves made (λ clash. omega (arith, long, clash))))

  -- and so is the root of a list
  there_is_root : (elements : List (List ℕ)) → IsTreeRoot (list_root bagging mmr_rule elements 0)
  there_is_root elements = by (peaks_of mmr_rule (length elements))
    where
      by : (peaks : List Located)
          → IsTreeRoot (root_made plain_names bagging (length elements) 0
          (made_bag plain_names plain_over (whole elements) (length peaks) (from_left bagging 0 (length peaks))
          peaks))
      by [] = tree_root (length elements) (bytes []) (λ clash. omega (arith, clash))
      by (peak ∷ peaks) =
          let long = bag_sized hash 32 hash_sized (λ at high. Unit {0}) plain_over plain_over (plain_fits hash 32 hash_sized) (whole elements) (whole elements)
          0 0 plain_names (length (peak ∷ peaks)) (from_left bagging 0 (length (peak ∷ peaks))) peak peaks in
          tree_root (length elements) (made_bag plain_names plain_over (whole elements) (length (peak ∷ peaks))
          (from_left bagging 0 (length (peak ∷ peaks))) (peak ∷ peaks))
          (λ clash. omega (arith, long, clash))

  root_long : (made : Made) → IsTreeRoot made → length (value hash made) ≡ 32
  root_long made root = ap (λ m. length (value hash m)) root.is ∙ hash_sized (value hash root.string)

  module _ (width : ℕ) (wide : IsChunkWidth width) (all : List Bool) (few : length all < 2 ^ 64) (claim : BitClaim)
      (few_claim : claim.bits < 2 ^ 64) where
    abbrev size : ℕ
    size = 8 * width

    abbrev chunks : List (List ℕ)
    chunks = full_chunks width all

    abbrev there : Made
    there = list_root bagging mmr_rule chunks 0

    abbrev end : List ℕ
    end = chunk_at width all (length all / size)

    few_chunks : length chunks ≤ 2 ^ 62
    few_chunks =
        let many = length-chunks_of width (length all / size) all in
        let least = mul-le 8 (length all / size) size (length all / size) (omega (arith, wide-some width wide)) (omega arith) in
        omega (arith, many, least, chunks_of_bits width (length all), few)

    -- what is said of a range of one chunk
    abbrev range : List (List ℕ) → RangeClaim
    range digests = claim_of bagging mmr_rule (claim.bits / size) 0 (claim.bit / size) (claim.chunk ∷ []) digests

    both_some : {A : Type 0} (P Q : A → Type 0) (got : Option A) → IfSome got P → IfSome got Q → IfSome got (λ x. P x × Q x)
    both_some P Q None p q = tt
    both_some P Q (Some x) p q = (p, q)

    abbrev Both : List (List ℕ) → Made → Type 0
    Both digests made = IsTreeRoot made × IsSoundRange hash bagging mmr_rule chunks 0 (range digests) made

    read_sound : (digests : List (List ℕ)) → AllSized 32 digests → IfSome (tree_read plain_over bagging width claim digests) (Both digests)
    read_sound digests sized =
        both_some IsTreeRoot (IsSoundRange hash bagging mmr_rule chunks 0 (range digests)) (tree_read plain_over bagging width claim digests)
        (read_is_root (claim.bits / size) (claim.bit / size) (claim.bit / size + 1)
        (range_outer bagging (claim.bit / size) (claim.bit / size + 1) 0 (peaks_of mmr_rule (claim.bits / size))) (claim.chunk ∷ []) digests sized)
        (plain_sound hash 32 hash_sized bagging mmr_rule mmr_merges_equals chunks 0 few_chunks (omega arith) (range digests) sized)

    -- a claim of a chunk that is true of the chunks is true of the bits
    chunk_true : (digests : List (List ℕ)) → claim.bits ≡ length all → claim.bit < claim.bits → IsTrueOfList chunks 0 (range digests)
        → IsTrueOf width all claim
    chunk_true digests same lt is =
        let inside : claim.bit / size < length all / size = omega (arith, is.within, length-chunks_of width (length all / size) all) in
        record {
          counted = same;
          there = omega (arith, same, lt);
          chunk = is.stands 0 (omega arith) ∙ ap (λ n. get_or chunks n []) (omega arith)
              ∙ at-chunks_of width (length all / size) all (claim.bit / size) inside;
        }

    abbrev Goal : Strings → List ℕ → Made → Type 0
    Goal given root made = value hash made ≡ root → IsTrueOf width all claim ⊎ Collision hash given (strings hash made)

    -- the strings of a tree's root are hashed too where it is a bitmap's
    also_in : (made : Made) → IsTreeRoot made → In (strings hash made) (strings hash (also at_bitmap_root made))
    also_in made root = subst (λ m. In (strings hash m) (strings hash (also at_bitmap_root m))) (sym root.is) inside
      where
        v : List ℕ
        v = value hash root.string

        inside : In ((at_tree_root, v) ∷ strings hash root.string) ((at_tree_root, v) ∷ ((at_bitmap_root, v) ∷ strings hash root.string))
        inside x (zero, lt, is) = (0, omega arith, is)
        inside x (suc k, lt, is) = (suc (suc k), omega (arith, lt), is)

    also_there : (made : Made) → (root : IsTreeRoot made) → Contains (strings hash (also at_bitmap_root made)) (at_bitmap_root, value hash root.string)
    also_there made root =
        subst (λ m. Contains (strings hash (also at_bitmap_root m)) (at_bitmap_root, value hash root.string)) (sym root.is) (1, omega arith, refl)

    abbrev Claim : Type 0
    Claim = IsTrueOf width all claim

    abbrev partial_there : Made
    partial_there = partial_made there (length all) (last_made end)

    -- ---- both fill their chunks
    both_aligned : (made : Made) → Both claim.digests made → claim.bit < claim.bits → claim.bits % size ≡ 0 → length all % size ≡ 0
        → value hash (also at_bitmap_root made) ≡ value hash (also at_bitmap_root there)
        → Claim ⊎ Collision hash (strings hash (also at_bitmap_root there)) (strings hash (also at_bitmap_root made))
    both_aligned made it lt aligned full same =
        let root = there_is_root chunks in
        elim (it.1 (sym (value-also hash at_bitmap_root made) ∙ same ∙ value-also hash at_bitmap_root there)) [
          | inl is ↦
              (let count : claim.bits / size ≡ length all / size = is.leaf_count ∙ length-chunks_of width (length all / size) all in
              let equal : claim.bits ≡ length all = omega (
                arith,
                chunks_of_bits width claim.bits,
                chunks_of_bits width (length all),
                aligned,
                full,
                ap (λ n. size * n) count,
              ) in
              inl (chunk_true claim.digests equal lt is))
          | inr c ↦ inr (lift hash (strings hash there) (strings hash (also at_bitmap_root there)) (strings hash made)
              (strings hash (also at_bitmap_root made)) (also_in there root) (also_in made it.0) c)
        ]

    -- ---- only one of them does: the strings of the roots have two lengths
    claim_aligned : (made : Made) → IsTreeRoot made → value hash (also at_bitmap_root made) ≡ value hash partial_there
        → Claim ⊎ Collision hash (strings hash partial_there) (strings hash (also at_bitmap_root made))
    claim_aligned made root same =
        let string = value hash there ++ (number (length all) ++ hash end) in
        elim (meet hash at_bitmap_root string (value hash root.string) (strings hash partial_there)
        (strings hash (also at_bitmap_root made)) (0, omega arith, refl) (also_there made root)
        (sym (ap (value hash) root.is) ∙ sym (value-also hash at_bitmap_root made) ∙ same)) [
          | inl equal ↦ absurd (root.short (ap length equal
              ∙ partial_long (value hash there) (hash end) (length all) (root_long there (there_is_root chunks)) (hash_sized end)))
          | inr c ↦ inr c
        ]

    list_aligned : (tree last : Made) → length (value hash tree) ≡ 32 → length (value hash last) ≡ 32
        → value hash (partial_made tree claim.bits last) ≡ value hash (also at_bitmap_root there)
        → Claim ⊎ Collision hash (strings hash (also at_bitmap_root there)) (strings hash (partial_made tree claim.bits last))
    list_aligned tree last tree_long last_long same =
        let root = there_is_root chunks in
        let string = value hash tree ++ (number claim.bits ++ value hash last) in
        elim (meet hash at_bitmap_root (value hash root.string) string (strings hash (also at_bitmap_root there))
        (strings hash (partial_made tree claim.bits last)) (also_there there root) (0, omega arith, refl)
        (same ∙ value-also hash at_bitmap_root there ∙ ap (value hash) root.is)) [
          | inl equal ↦ absurd (root.short (ap length (sym equal)
              ∙ partial_long (value hash tree) (value hash last) claim.bits tree_long last_long))
          | inr c ↦ inr c
        ]

    -- ---- neither does: the parts of the strings are equal
    pub record Equal (tree last : Made) : Type 0 where
      pub trees : value hash tree ≡ value hash there
      pub bits : claim.bits ≡ length all
      pub lasts : value hash last ≡ hash end

    neither_aligned : (tree last : Made) → length (value hash tree) ≡ 32
        → value hash (partial_made tree claim.bits last) ≡ value hash partial_there
        → Equal tree last ⊎ Collision hash (strings hash partial_there) (strings hash (partial_made tree claim.bits last))
    neither_aligned tree last tree_long same =
        let one = value hash there ++ (number (length all) ++ hash end) in
        let other = value hash tree ++ (number claim.bits ++ value hash last) in
        elim (meet hash at_bitmap_root one other (strings hash partial_there) (strings hash (partial_made tree claim.bits last))
        (0, omega arith, refl) (0, omega arith, refl) same) [
          | inl equal ↦
              (let first = append_parts (value hash tree) (number claim.bits ++ value hash last) (value hash there)
              (number (length all) ++ hash end) (tree_long ∙ sym (root_long there (there_is_root chunks))) equal in
              let second = append_parts (number claim.bits) (value hash last) (number (length all)) (hash end) refl first.1 in
              inl (record { trees = first.0; bits = number_same claim.bits (length all) few_claim few second.0; lasts = second.1 }))
          | inr c ↦ inr c
        ]

    -- strings of the parts of a root over a partial chunk
    tree_in : (tree last : Made) (bits : ℕ) → In (strings hash tree) (strings hash (partial_made tree bits last))
    tree_in tree last bits x here =
        in_tail (at_bitmap_root, value hash tree ++ (number bits ++ value hash last)) (strings hash tree ++ ([] ++ strings hash last)) x
        (in_front (strings hash tree) ([] ++ strings hash last) x here)

    last_in : (tree : Made) (bits : ℕ) (chunk : List ℕ)
        → Contains (strings hash (partial_made tree bits (last_made chunk))) (at_last_chunk, chunk)
    last_in tree bits chunk =
        in_tail (at_bitmap_root, value hash tree ++ (number bits ++ hash chunk)) (strings hash tree ++ ((at_last_chunk, chunk) ∷ []))
        (at_last_chunk, chunk)
        (Contains-append_right (strings hash tree) ((at_last_chunk, chunk) ∷ []) (at_last_chunk, chunk) (0, omega arith, refl))

    -- the bit stands in the last chunk
    in_last : (digest : List ℕ) → length digest ≡ 32 → claim.bit < claim.bits → claim.bits / size ≡ claim.bit / size
        → value hash (partial_made (bytes digest) claim.bits (last_made claim.chunk)) ≡ value hash partial_there
        → Claim ⊎ Collision hash (strings hash partial_there) (strings hash (partial_made (bytes digest) claim.bits (last_made claim.chunk)))
    in_last digest long lt at same =
        ⊎_elim (λ (equal : Equal (bytes digest) (last_made claim.chunk)).
        ⊎_elim (λ chunk. inl (record {
          counted = equal.bits;
          there = omega (arith, equal.bits, lt);
          chunk = chunk ∙ ap (chunk_at width all) (ap (λ n. n / size) (sym equal.bits) ∙ at);
        })) inr
        (meet hash at_last_chunk end claim.chunk (strings hash partial_there)
        (strings hash (partial_made (bytes digest) claim.bits (last_made claim.chunk))) (last_in there (length all) end)
        (last_in (bytes digest) claim.bits claim.chunk) equal.lasts))
        inr (neither_aligned (bytes digest) (last_made claim.chunk) long same)

    -- it stands in a full one
    in_full : (tree : Made) (digests : List (List ℕ)) (digest : List ℕ) → Both digests tree → claim.bit < claim.bits
        → value hash (partial_made tree claim.bits (bytes digest)) ≡ value hash partial_there
        → Claim ⊎ Collision hash (strings hash partial_there) (strings hash (partial_made tree claim.bits (bytes digest)))
    in_full tree digests digest it lt same =
        ⊎_elim (λ (equal : Equal tree (bytes digest)).
        ⊎_elim (λ is. inl (chunk_true digests equal.bits lt is))
        (λ c. inr (lift hash (strings hash there) (strings hash partial_there) (strings hash tree)
        (strings hash (partial_made tree claim.bits (bytes digest))) (tree_in there (last_made end) (length all))
        (tree_in tree (bytes digest) claim.bits) c))
        (it.1 equal.trees))
        inr (neither_aligned tree (bytes digest) (root_long tree it.0) same)

    -- ---- all cases
    by_list : (made : Made) → (length all % size ≡ 0 → value hash made ≡ value hash (also at_bitmap_root there)
        → Claim ⊎ Collision hash (strings hash (also at_bitmap_root there)) (strings hash made))
        → ((length all % size ≡ 0 → ⊥) → value hash made ≡ value hash partial_there
        → Claim ⊎ Collision hash (strings hash partial_there) (strings hash made))
        → IsSound hash bagging width all claim made
    by_list made aligned partial same =
        elim (cases_eq (length all % size) 0) [
          | inl full ↦
              subst (λ m. Claim ⊎ Collision hash (strings hash m) (strings hash made)) (sym (made-aligned hash bagging width all full))
              (aligned full (same ∙ sym (root-aligned hash bagging width all full)))
          | inr rest ↦
              subst (λ m. Claim ⊎ Collision hash (strings hash m) (strings hash made)) (sym (made-partial hash bagging width all rest))
              (partial rest (same ∙ sym (root-partial hash bagging width all rest)))
        ]

    last_sized : (digests : List (List ℕ)) → 0 < length digests → AllSized 32 digests → length (last_of digests) ≡ 32
    last_sized [] some sized = absurd (omega (arith, some))
    last_sized (d ∷ []) some sized = sized.0
    last_sized (d ∷ e ∷ digests) some sized =
        let at : suc (suc (length digests)) - 1 ≡ suc (suc (length digests) - 1) = omega arith in
        ap (λ n. length (get_or (d ∷ e ∷ digests) n [])) at ∙ last_sized (e ∷ digests) (omega arith) sized.1

    pub bit_sound : AllSized 32 claim.digests → IfSome (bit_root plain_over bagging width claim) (IsSound hash bagging width all claim)
    unfolding bit_root
    bit_sound sized =
        let Sound : Made → Type 0 = IsSound hash bagging width all claim in
        let last = last_of claim.digests in
        let front = front_of claim.digests in
        choose (λ r. IfSome r Sound) (leb claim.bits claim.bit || ltb 0 claim.inactive) None _ (λ is. tt)
        (λ is.
        let lt : claim.bit < claim.bits = leb-false claim.bits claim.bit (or_parts (leb claim.bits claim.bit) (ltb 0 claim.inactive) is).0 in
        choose (λ r. IfSome r Sound) (eqb (claim.bits % size) 0) _ _
        (λ test. map_good (Both claim.digests) Sound (also at_bitmap_root) (tree_read plain_over bagging width claim claim.digests)
        (read_sound claim.digests sized)
        (λ made it. by_list (also at_bitmap_root made)
        (λ full same. both_aligned made it lt (eqb-true (claim.bits % size) 0 test) full same)
        (λ rest same. claim_aligned made it.0 same)))
        (λ test. choose (λ r. IfSome r Sound) (eqb (claim.bits / size) (claim.bit / size)) _ _
        (λ at. choose (λ r. IfSome r Sound) (eqb (length claim.digests) 1) _ None
        (λ one. let count = eqb-true (length claim.digests) 1 one in
        let long = last_sized claim.digests (omega (arith, count)) sized in
        by_list (partial_made (bytes last) claim.bits (last_made claim.chunk))
        (λ full same. list_aligned (bytes last) (last_made claim.chunk) long (hash_sized claim.chunk) same)
        (λ rest same. in_last last long lt (eqb-true (claim.bits / size) (claim.bit / size) at) same))
        (λ other. tt))
        (λ apart. choose (λ r. IfSome r Sound) (eqb (length claim.digests) 0) None _ (λ none. tt)
        (λ some. let long = last_sized claim.digests (omega (arith, eqb-false (length claim.digests) 0 some)) sized in
        map_good (Both front) Sound (λ tree. partial_made tree claim.bits (bytes last)) (tree_read plain_over bagging width claim front)
        (read_sound front (all_take 32 (length claim.digests - 1) claim.digests sized))
        (λ made it. by_list (partial_made made claim.bits (bytes last))
        (λ full same. list_aligned made (bytes last) (root_long made it.0) long same)
        (λ rest same. in_full made front last it lt same))))))
