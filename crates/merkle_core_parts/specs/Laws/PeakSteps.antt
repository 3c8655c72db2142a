-- From one peak to the next.
use Rattle.std.proofs.Common.{◌≡◌, ℕ, ◌+◌, ◌^◌, ◌<◌, ◌≤◌, inl, inr, true, List, [], ◌∷◌, ◌++◌, sym, ◌∙◌, ap, arith}
use Rattle.std.proofs.lemmas.Bool.{cases_lt}
use Rattle.std.specs.Prelude.{IsSome}
use Rattle.merkle_forest.specs.Forest.{Tree, position, leaf_count, Rule, forest_of}
use Rattle.merkle_forest.specs.Nodes.{IsPeakAt, IsPositionOfPeak}
use Rattle.merkle_forest.specs.Peaks.{is_cut}
use Rattle.merkle_forest.specs.Perfect.{IsPairing}
use Rattle.merkle_forest.specs.Laws.ForestGrowth.{leaves-forest_of}
use Rattle.merkle_forest.specs.Laws.Nodes.{peak-node, node-fits}
use Rattle.merkle_forest.specs.Laws.Peaks.{leaf_count-pos, cut-peak}
use Rattle.merkle_core_parts.specs.Mem.{Replacement, digest_at}
use Rattle.merkle_core_parts.specs.Laws.Peaks.{begins}
use Rattle.merkle_core_parts.specs.Laws.Rebuilt.{IsPlace}
use Rattle.merkle_core_parts.specs.Laws.PlaceCases.{place-fits, place-tree}
use Rattle.merkle_core_parts.specs.Laws.Updated.{peak-same, found-still, found-new}

-- the peak that begins at a location before the last leaf, and the location of the next one
pub record IsPeakStep (rule : Rule) (n first p h : ℕ) : Type 0 where
  pub tree : Tree
  pub stands : IsPeakAt first tree (forest_of rule n)
  pub at : p ≡ position tree
  pub place : IsPlace rule n first p h
  pub only : (v : Tree) → IsPeakAt first v (forest_of rule n) → position v ≡ position tree
  pub low : h ≤ 62
  pub span : leaf_count tree ≡ 2 ^ h
  pub cut : is_cut (first + 2 ^ h) (forest_of rule n) ≡ true
  pub fits : first + 2 ^ h ≤ n
  pub further : first < first + 2 ^ h

pub peak-step : (rule : Rule) → IsPairing rule → (n first p h : ℕ) → n ≤ 2 ^ 62 → is_cut first (forest_of rule n) ≡ true
    → first < n → IsPositionOfPeak (forest_of rule n) first p h → IsPeakStep rule n first p h
peak-step rule pairs n first p h few cut before answer =
    let peak = begins rule pairs n first cut before in
    let is = answer peak.0 peak.1 in
    let here : IsPlace rule n first p h =
    record { tree = peak.0; stands = peak-node first peak.0 (forest_of rule n) peak.1; at = is.0; high = is.1 } in
    let whole = place-tree rule pairs n first p h peak.0 here (peak-node first peak.0 (forest_of rule n) peak.1) is.0 in
    record {
      tree = peak.0;
      stands = peak.1;
      at = is.0;
      place = here;
      only = λ v stands. sym (answer v stands).0 ∙ is.0;
      low = (place-fits rule pairs n first p h few here).0;
      span = whole.1;
      cut = ap (λ k. is_cut (first + k) (forest_of rule n)) (sym whole.1)
          ∙ cut-peak first peak.0 (forest_of rule n) peak.1;
      fits = (place-fits rule pairs n first p h few here).1;
      further = omega (arith, whole.1, leaf_count-pos peak.0);
    }

-- every peak so far is found
pub found-step : (rule : Rule) → IsPairing rule → (n first p h : ℕ) → (it : IsPeakStep rule n first p h)
    → (found : List Replacement) (digest : List ℕ)
    → ((f : ℕ) (t : Tree) → IsPeakAt f t (forest_of rule n) → f < first → IsSome (digest_at found (position t)))
    → (f : ℕ) (t : Tree) → IsPeakAt f t (forest_of rule n) → f < first + 2 ^ h
    → IsSome (digest_at (found ++ (p, digest) ∷ []) (position t))
found-step rule pairs n first p h it found digest before f t stands lt =
    elim (cases_lt f first) [
      | inl old ↦ found-still found (p, digest) (position t) (before f t stands old)
      | inr new ↦
          (let same = peak-same rule pairs n f first (first + 2 ^ h) p t it.tree it.stands
          (ap (λ k. first + k) (sym it.span)) stands new lt it.only in
          found-new found (p, digest) (position t) (it.at ∙ sym (ap position same.1)))
    ]

-- a peak begins before the last leaf
pub peak-before : (rule : Rule) → IsPairing rule → (n f : ℕ) (t : Tree) → IsPeakAt f t (forest_of rule n) → f < n
peak-before rule pairs n f t stands =
    omega (
      arith,
      leaf_count-pos t,
      leaves-forest_of rule pairs n,
      node-fits f t (forest_of rule n) (peak-node f t (forest_of rule n) stands),
    )
