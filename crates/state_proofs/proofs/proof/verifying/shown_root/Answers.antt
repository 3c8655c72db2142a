use Rattle.std.proofs.Common.{◌≡◌, ℕ, sym, ◌∙◌, ap, subst}
use Rattle.std.specs.Prelude.{option_map}
use Rattle.merkle_forest.specs.declared.bagging.Bagging.TheVariants.{BackwardFold}
use Rattle.merkle_forest.specs.Hashing.{Hash, leaf_string}
use Rattle.merkle_forest.specs.Made.{value}
use Rattle.merkle_theory.specs.MadeTrees.{Over}
use Rattle.merkle_theory.specs.Reads.{HashesAs, range_root}
use Rattle.state_theory.specs.MadeGrafted.{grafted_names}
use Rattle.state_proofs.specs.ProofsCode.{range_parts_of}
use Rattle.state_theory.specs.Verified.{Shown, given_by, shown_over, graftable_shown, RangeParts}
use Rattle.state_proofs.specs.ShownCode.{form_shown_of}
use Rattle.state_theory.specs.Verifier.{Given, grafted_node}
use Rattle.state_proofs_parts.specs.VerifierCode.{form_given_of}
use Rattle.state_theory.specs.Laws.Verifier.{hashes_grafted}
use Rattle.state_proofs.proofs.proof.verifying.shown_root.Goals as goal

pub returns : goal.returns
returns g c =
    let hash : Hash = g.H.HashFunction.hash_of in
    let level : ℕ = c.args.shown.now.chunk_size.grafting_height in
    let proof : RangeParts = range_parts_of g.H.Digest.Write.encoding g.F.PendingOf.held c.args.proof.now in
    let shown : Shown = form_shown_of g.C.AsSlice.items c.args.shown.now in
    let over : Over = shown_over g.F.Family.merge_rule level proof shown in
    let given : Given = given_by level (graftable_shown g.F.Family.merge_rule level proof) shown in
    let same : form_given_of g.C.AsSlice.items c.shown_hasher-verifier.result ≡ given = c.shown_hasher-verifier.ensures
    ∙ ap (λ n. given_by level n shown) c.requires in
    let Hashes : Given → Type 0 = λ x. HashesAs g.F.Family.merge_rule hash (λ p element. hash (leaf_string p element))
    (grafted_node g.F.Family.merge_rule hash x) over in
    let hashes : Hashes (form_given_of g.C.AsSlice.items c.shown_hasher-verifier.result) =
    subst Hashes (sym same) (hashes_grafted g.F.Family.merge_rule g.met.F.Family.merges_equals hash given shown.width) in
    ap (option_map g.H.Digest.Write.encoding) c.ok.ensures.value
    ∙ c.reconstruct_range.ensures.root grafted_names over hashes
    ∙ ap (λ start. option_map (value hash) (range_root grafted_names over BackwardFold g.F.Family.merge_rule proof.leaves proof.inactive start
    shown.operations proof.digests)) c.new.ensures
