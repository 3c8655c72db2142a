use Rattle.std.proofs.Common.{◌≡◌, ℕ, ◌+◌, ◌<◌, ◌≤◌, ◌^◌, List, [], length, map, take, drop, Option, None, Some}
use Rattle.std.proofs.Common.{option_map, sym, ◌∙◌, ap, arith}
use Rattle.std.proofs.lemmas.Bool.{both_ways}
use Rattle.std.proofs.lemmas.List.{take-map, length-map}
use Rattle.merkle_forest.specs.declared.bagging.Bagging.{Bagging}
use Rattle.merkle_forest.specs.Forest.{Rule, forest_of}
use Rattle.merkle_forest.specs.Hashing.{Hash, root_string}
use Rattle.merkle_forest.specs.Laws.ForestGrowth.{leaves-forest_of}
use Rattle.merkle_forest.specs.Laws.Peaks.{located_from-zero}
use Rattle.merkle_forest.specs.Laws.Trees.{length-located}
use Rattle.merkle_forest.specs.Made.{Made, value}
use Rattle.merkle_forest.specs.Trees.{Located}
use Rattle.merkle_proofs.specs.declared.verifying.error.ReconstructionError.TheVariants.{MissingDigests, ExtraDigests}
use Rattle.merkle_theory.specs.MadeTrees.{Over, Elements, from}
use Rattle.merkle_theory.specs.MadeRoots.{Naming, Streams, Bagged, from_left, peaks_of, read_bag, read_root}
use Rattle.merkle_theory.specs.RangeCounts.{range_outer}
use Rattle.merkle_theory.specs.Reads.{valued}
use Rattle.merkle_proofs.specs.Reconstruction.{RangeProofOf, HasRange, IsRefusalToReconstruct}
use Rattle.merkle_theory.specs.Soundness.{plain_names}
use Rattle.merkle_theory.proofs.DigestCounts.{missing_few, left_many}
use Rattle.merkle_theory.proofs.HonestRoots.{ascend_located, peak_there}
use Rattle.merkle_theory.proofs.RangeTrees.{read_none, read_some}
use Rattle.merkle_theory.proofs.RangeRoots.{few_peaks, bag_missing, digests_left, root_there, drop-map, no_encoding}
use Rattle.merkle_theory.proofs.Places.{first_of}
use Rattle.merkle_proofs.proofs.verifying.root_over.Goals.{After-folded_singly-singly, Then-not-is_used_up}
use Rattle.merkle_proofs.proofs.verifying.root_over.Goals as goal

-- what is read of the digests as they are split, and what follows from it
module _ (g : _) (c : After-folded_singly-singly g) (names : Naming) (over : Over) where
  abbrev rule : Rule
  rule = g.F.Family.merge_rule

  abbrev hash : Hash
  hash = g.H.Hasher.hash_of

  abbrev bagging : Bagging
  bagging = g.H.Hasher.bagging_of c.args.reader.now.hasher.now

  abbrev it : RangeProofOf
  it = record {
    leaves = c.args.reader.now.leaves;
    inactive = c.args.inactive;
    start = c.args.reader.now.start;
    count = length c.args.reader.now.elements.now;
    digests = length c.args.digests.now;
  }

  abbrev stop : ℕ
  stop = it.start + it.count

  abbrev elements : Elements
  elements = from it.start (map (λ e. e.now) c.args.reader.now.elements.now)

  abbrev peaks : List Located
  peaks = peaks_of rule it.leaves

  abbrev outer : ℕ
  outer = range_outer bagging it.start stop it.inactive peaks

  abbrev digests : List (List ℕ)
  digests = map g.H.Digest.Write.encoding c.args.digests.now

  abbrev root : Option Made
  root = read_root names over bagging rule it.leaves it.inactive it.start stop elements outer digests

  abbrev read : ℕ → Streams → Bagged
  read singly streams = read_bag names over elements it.start stop (length peaks) singly peaks streams

  abbrev given : Streams
  given = (map g.H.Digest.Write.encoding c.split_digests.result.0.now, map g.H.Digest.Write.encoding c.split_digests.result.1.now)

  abbrev reading : Option (List ℕ × Streams)
  reading = valued hash (read c.folded_singly-singly.result given)

  total : c.peaks_from-peaks.result ≡ length peaks
  total = c.peaks_from-peaks.ensures.count ∙ ap length (located_from-zero (forest_of rule it.leaves))

  -- the reading of all digests is the one of the parts that they are split into
  whole : valued hash (read (from_left bagging it.inactive (length peaks)) (take outer digests, drop outer digests)) ≡ reading
  whole =
      let enc = g.H.Digest.Write.encoding in
      let count : c.count_outer-outer_count.result ≡ outer =
      c.count_outer-outer_count.ensures ∙ ap (λ b. range_outer b it.start stop it.inactive peaks) c.root_bagging-bagging.ensures in
      let singly : c.folded_singly-singly.result ≡ from_left bagging it.inactive (length peaks) =
      c.folded_singly-singly.ensures ∙ ap (λ b. from_left b it.inactive c.peaks_from-peaks.result) c.root_bagging-bagging.ensures
      ∙ ap (from_left bagging it.inactive) total in
      let front : given.0 ≡ take outer digests =
      ap (map enc) c.split_digests.ensures.0 ∙ sym (take-map enc _ c.args.digests.now) ∙ ap (λ n. take n digests) count in
      let rest : given.1 ≡ drop outer digests =
      ap (map enc) c.split_digests.ensures.1 ∙ drop-map enc _ c.args.digests.now ∙ ap (λ n. drop n digests) count in
      sym (ap (valued hash) (ap (λ s. read s given) singly
      ∙ ap (λ x. read (from_left bagging it.inactive (length peaks)) (x, given.1)) front
      ∙ ap (λ x. read (from_left bagging it.inactive (length peaks)) (take outer digests, x)) rest))

  few : it.leaves ≤ 2 ^ 62
  few = omega (arith, c.requires.few)

  within : HasRange it
  within = record { few = few; some = omega (arith, c.requires.some); within = omega (arith, c.requires.within) }

  enough : it.inactive ≤ length peaks
  enough = omega (arith, total, c.if-inactive-peaks.false)

  there : 0 < length peaks
  there = omega (
    arith,
    length-located (forest_of rule it.leaves),
    peak_there (forest_of rule it.leaves) (omega
        (arith, leaves-forest_of rule g.met.F.Family.merges_equals it.leaves, c.requires.some, c.requires.within)),
  )

  no_bag : reading ≡ None → root ≡ None
  no_bag none =
      bag_missing hash names over bagging rule it.leaves it.inactive it.start stop elements outer digests few enough within.within (whole ∙ none)

  too_few : reading ≡ None → IsRefusalToReconstruct bagging rule it MissingDigests
  too_few none =
      let short = missing_few names over elements bagging it.start stop it.inactive peaks within.some there (ascend_located (forest_of rule it.leaves)) digests
      (read_none hash _ (whole ∙ none)) in
      (within, enough, omega (arith, short, length-map c.args.digests.now g.H.Digest.Write.encoding))

  module _ (bag : List ℕ) (left : Streams) (is : reading ≡ Some (bag, left)) where
    some_left : ((left.0 ≡ []) × (left.1 ≡ []) → ⊥) → root ≡ None
    some_left =
        digests_left hash names over bagging rule it.leaves it.inactive it.start stop elements outer digests few enough within.within bag left (whole ∙ is)

    too_many : ((left.0 ≡ []) × (left.1 ≡ []) → ⊥) → IsRefusalToReconstruct bagging rule it ExtraDigests
    too_many more =
        let there_is = read_some hash _ bag left (whole ∙ is) in
        let long = left_many names over elements bagging it.start stop it.inactive peaks within.some there (ascend_located (forest_of rule it.leaves)) digests
        (there_is.made, left) there_is.is more in
        (within, enough, omega (arith, long, length-map c.args.digests.now g.H.Digest.Write.encoding))

    the_root : left.0 ≡ [] → left.1 ≡ [] → option_map (value hash) root ≡ Some (hash (root_string bagging it.leaves it.inactive bag))
    the_root =
        root_there hash names over bagging rule it.leaves it.inactive it.start stop elements outer digests few enough within.within bag left (whole ∙ is)

more_left : (g : _) (c : Then-not-is_used_up g)
    → (map g.H.Digest.Write.encoding c.in-Some.bag.1.now ≡ []) × (map g.H.Digest.Write.encoding c.in-Some.bag.2.now ≡ []) → ⊥
more_left g c none = both_ways c.is_used_up.result c.if-not-is_used_up.true
    (c.is_used_up.ensures.1 (
      no_encoding g.H.Digest.Write.encoding c.in-Some.bag.1.now none.0,
      no_encoding g.H.Digest.Write.encoding c.in-Some.bag.2.now none.1,
    ))

pub peaks_from-peaks-requires-clause-begins : goal.peaks_from-peaks-requires-clause-begins
peaks_from-peaks-requires-clause-begins g c some = first_of g.F.Family.merge_rule g.met.F.Family.merges_equals c.args.reader.now.leaves some

pub count_outer-outer_count-requires-clause-peaks : goal.count_outer-outer_count-requires-clause-peaks
count_outer-outer_count-requires-clause-peaks g c =
    c.peaks_from-peaks.ensures.count ∙ ap length (located_from-zero (forest_of g.F.Family.merge_rule c.args.reader.now.leaves))

pub returns-then-inactive-peaks-clause-root : goal.returns-then-inactive-peaks-clause-root
returns-then-inactive-peaks-clause-root g c names over by =
    let rule = g.F.Family.merge_rule in
    let reader = c.args.reader.now in
    let total = c.peaks_from-peaks.ensures.count ∙ ap length (located_from-zero (forest_of rule reader.leaves)) in
    sym (ap (option_map (value g.H.Hasher.hash_of)) (few_peaks g.H.Hasher.hash_of names over (g.H.Hasher.bagging_of reader.hasher.now) rule
    reader.leaves c.args.inactive reader.start (reader.start + length reader.elements.now) _ _ _ (omega (arith, total, c.if-inactive-peaks.true))))

pub returns-then-inactive-peaks-clause-refused : goal.returns-then-inactive-peaks-clause-refused
returns-then-inactive-peaks-clause-refused g c over by =
    let total = c.peaks_from-peaks.ensures.count ∙ ap length (located_from-zero (forest_of g.F.Family.merge_rule c.args.reader.now.leaves)) in (
      record {
        few = omega (arith, c.requires.few);
        some = omega (arith, c.requires.some);
        within = omega (arith, c.requires.within);
      },
      omega (arith, total, c.if-inactive-peaks.true),
    )

pub returns-in_default-clause-root : goal.returns-in_default-clause-root
returns-in_default-clause-root g c names over by =
    let at = (goal.at.returns-in_default-clause-root g c).After-folded_singly-singly in
    sym (ap (option_map (value g.H.Hasher.hash_of)) (no_bag g at names over (sym (c.in_default.ensures names _ over by))))

pub returns-in_default-clause-refused : goal.returns-in_default-clause-refused
returns-in_default-clause-refused g c over by =
    let at = (goal.at.returns-in_default-clause-refused g c).After-folded_singly-singly in
    too_few g at plain_names over (sym (c.in_default.ensures plain_names _ over by))

pub returns-then-not-is_used_up-clause-root : goal.returns-then-not-is_used_up-clause-root
returns-then-not-is_used_up-clause-root g c names over by =
    let at = (goal.at.returns-then-not-is_used_up-clause-root g c).After-folded_singly-singly in
    sym (ap (option_map (value g.H.Hasher.hash_of))
    (some_left g at names over _ _ (sym (c.in-Some.ensures names _ over by)) (more_left g c)))

pub returns-then-not-is_used_up-clause-refused : goal.returns-then-not-is_used_up-clause-refused
returns-then-not-is_used_up-clause-refused g c over by =
    let at = (goal.at.returns-then-not-is_used_up-clause-refused g c).After-folded_singly-singly in
    too_many g at plain_names over _ _ (sym (c.in-Some.ensures plain_names _ over by)) (more_left g c)

pub returns-clause-root : goal.returns-clause-root
returns-clause-root g c names over by =
    let at = (goal.at.returns-clause-root g c).After-folded_singly-singly in
    let none = c.is_used_up.ensures.0 c.if-not-is_used_up.false in
    ap (λ d. Some d) c.root_over_item.ensures
    ∙ sym (the_root g at names over _ _ (sym (c.in-Some.ensures names _ over by))
    (ap (map g.H.Digest.Write.encoding) none.0) (ap (map g.H.Digest.Write.encoding) none.1))
