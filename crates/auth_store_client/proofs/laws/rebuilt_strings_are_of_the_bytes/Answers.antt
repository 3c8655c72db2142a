use Rattle.std.proofs.Common.{◌≡◌, ℕ, List, [], ◌++◌, map, sym, ◌∙◌, ap, arith}
use Rattle.merkle_forest.specs.Codec.{Outcome}
use Rattle.state_ops.specs.Operation.{fixed_encoding, update, ordered}
use Rattle.state_theory.specs.Canonical.{Setting}
use Rattle.state_proofs.specs.Exclusion.{ExclusionParts, proof_of, operation_of}
use Rattle.state_theory.specs.Laws.Encoded.{Grammar, grammar_of}
use Rattle.state_theory.specs.Laws.Once.{key_value_once}
use Rattle.state_theory.specs.MadeRanges as ranges
use Rattle.state_theory.specs.Verified.{Parts, RangeParts}
use Rattle.auth_store_client.specs.Claims.{Claim, has_value, is_absent, is_active, has_range, has_slice, Terms, terms, encoded, shown_of, Shows}
use Rattle.auth_store_client.specs.MadeSlices.{slice_strings}
use Rattle.auth_store_client.specs.Slices.{SliceParts}
use Rattle.auth_store_client.specs.Soundness.{rebuilt_strings}
use Rattle.auth_store_client.specs.States.{setting_of_width}
use Rattle.auth_store_client.proofs.Decoding.{Fields, operation_once, exclusion_once}
use Rattle.auth_store_client.proofs.ShownRanges.{range_encoding_once}
use Rattle.auth_store_client.proofs.Slices.{slice_once}
use Rattle.auth_store_client.proofs.laws.rebuilt_strings_are_of_the_bytes.Goals as goal

pub returns-clause-values : goal.returns-clause-values
returns-clause-values g c key value root other bytes shown again =
    let setting : Setting = setting_of_width g.F.Family.merge_rule g.H.HashFunction.hash_of g.row.N in
    let same = key_value_once g.F.PendingOf.is_pending g.F.PendingOf.pending_encoding g.row.N g.H.Digest.FixedSize.SIZE
    122 (omega arith) g.met.F.PendingOf.pending_once shown.proof again.proof shown.next_key again.next_key shown.fits again.fits
    (sym shown.is ∙ again.is) in
    let operation : List ℕ → List ℕ = λ next_key.
    fixed_encoding g.K.FixedSize.SIZE g.V.FixedSize.SIZE (update (ordered key value next_key)) in
    ap (λ (p : Parts). ranges.rebuilt_strings setting p (operation shown.next_key)) same.0
    ∙ ap (λ (k : List ℕ). ranges.rebuilt_strings setting again.proof (operation k)) same.1

pub returns-clause-claims : goal.returns-clause-claims
returns-clause-claims g c claim root other bytes some shown again = by claim shown again
  where
    setting : Setting
    setting = setting_of_width g.F.Family.merge_rule g.H.HashFunction.hash_of g.row.N

    key : List ℕ → Outcome
    key = g.K.Read.after tt

    value : List ℕ → Outcome
    value = g.V.Read.after tt

    those : Terms
    those = terms g.F.Family.merge_rule g.H.HashFunction.hash_of g.row.N g.H.Digest.FixedSize.SIZE g.F.PendingOf.is_pending
        g.F.PendingOf.pending_encoding key value g.K.FixedSize.SIZE g.V.FixedSize.SIZE

    digest : List ℕ → Outcome
    digest = g.H.Digest.Read.after tt

    held : List ℕ → Outcome
    held = g.F.PendingOf.pending_after

    grammar : Grammar digest held g.F.PendingOf.is_pending g.F.PendingOf.pending_encoding g.H.Digest.FixedSize.SIZE
    grammar = grammar_of g.met.H.Digest.Digest.any_bytes g.met.F.PendingOf.pending_again g.met.F.PendingOf.pending_once

    fields : Fields those key value
    fields = record {
      key_again = λ k rest is. is.1 rest;
      value_again = λ v rest is. is.1 rest;
      key_sized = λ k is. is.0;
      value_sized = λ v is. is.0;
    }

    by : (claim : Claim) (s : Shows those claim root bytes) (t : Shows those claim other bytes)
        → rebuilt_strings setting those claim root bytes s ≡ rebuilt_strings setting those claim other bytes t
    by (has_value k v) s t = returns-clause-values g c k v root other bytes s t
    by (is_absent k) s t =
        let same = exclusion_once those digest held key value (omega arith) grammar fields s.proof t.proof s.fits t.fits (sym s.is ∙ t.is) in
        ap (λ (p : ExclusionParts). ranges.rebuilt_strings setting (proof_of p) (operation_of those.key_size those.value_size p)) same
    by (is_active location operation) s t =
        let same = operation_once digest held g.F.PendingOf.is_pending g.F.PendingOf.pending_encoding g.row.N g.H.Digest.FixedSize.SIZE
        122 (omega arith) grammar s.shown.proof t.shown.proof [] [] s.shown.fits t.shown.fits
        (ap (λ b. b ++ []) (sym s.shown.is ∙ t.shown.is)) in
        ap (λ (p : Parts). ranges.rebuilt_strings setting p (encoded those operation)) same.0
    by (has_range start operations active) s t =
        let same = range_encoding_once g.F.PendingOf.is_pending g.F.PendingOf.pending_encoding g.row.N g.H.Digest.FixedSize.SIZE
        244 (omega arith) some g.met.F.PendingOf.pending_once s.proof t.proof s.chunks t.chunks s.fits t.fits s.verifies.shaped.wide
        t.verifies.shaped.wide (sym s.is ∙ t.is) in
        ap (λ (p : RangeParts). ranges.range_strings setting p (shown_of those start operations s.chunks)) same.0
        ∙ ap (λ (cs : List (List ℕ)). ranges.range_strings setting t.proof (shown_of those start operations cs)) same.1
    by (has_slice start operations) s t =
        let same = slice_once digest held g.F.PendingOf.is_pending g.F.PendingOf.pending_encoding g.H.Digest.FixedSize.SIZE
        244 (omega arith) grammar s.slice t.slice s.fits t.fits (sym s.is ∙ t.is) in
        ap (λ (p : SliceParts). slice_strings setting p start (map (encoded those) operations)) same
