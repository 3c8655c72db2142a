use Rattle.std.proofs.Common.{◌≡◌, ℕ, Bool, true, false, List, Option, None, Some, option_map, refl, sym, ◌∙◌, ap, subst}
use Rattle.merkle_forest.specs.Hashing.{Hash}
use Rattle.merkle_forest.specs.Made.{Made, value}
use Rattle.merkle_forest.specs.Forest.{forest_of}
use Rattle.merkle_forest.specs.Nodes.{nodes_of_height}
use Rattle.state_proofs.specs.ProofsCode.{range_parts_of}
use Rattle.state_proofs.specs.RangeExtracted.{by_chunks, by_digests}
use Rattle.state_theory.specs.Verified.{FitsShown, graftable_shown, RangeParts}
use Rattle.state_proofs.specs.ShownCode.{form_shown_of}
use Rattle.state_proofs.proofs.proof.verifying.led_root.Goals as goal

pub returns-then-not-fits_shown : goal.returns-then-not-fits_shown
returns-then-not-fits_shown g c =
    let proof : RangeParts = range_parts_of g.H.Digest.Write.encoding g.F.PendingOf.held c.args.proof.now in
    let level : ℕ = c.args.shown.now.chunk_size.grafting_height in
    let same : c.graftable_chunks_of-graftable.result ≡ graftable_shown g.F.Family.merge_rule level proof =
    c.graftable_chunks_of-graftable.ensures ∙ ap (λ n. nodes_of_height level (forest_of g.F.Family.merge_rule n)) c.as_u64-leaves.ensures in
    by_chunks level c.args.shown.now.chunk_size.whole
    (λ fits. let clash : ◌≡◌ {A = Bool} false true = c.if-not-fits_shown.ensures.1
    (subst (λ (n : ℕ). FitsShown g.H.HashFunction.hash_of n proof (form_shown_of g.C.AsSlice.items c.args.shown.now)) (sym same) fits) in cc)

none_there : (hash : Hash) (got : Option Made) → option_map (value hash) got ≡ None → got ≡ None
none_there hash None is = refl
none_there hash (Some made) is = let e : ◌≡◌ {A = Option (List ℕ)} (Some (value hash made)) None = is in absurd cc

pub returns-in_default : goal.returns-in_default
returns-in_default g c =
    by_digests c.args.shown.now.chunk_size.grafting_height c.args.shown.now.chunk_size.whole
    (none_there g.H.HashFunction.hash_of _ (sym c.in_default.ensures))
