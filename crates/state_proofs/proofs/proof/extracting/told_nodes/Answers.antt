use Rattle.std.proofs.Common.{◌≡◌, ℕ, ◌+◌, List, length, map, Result, Ok, Err, sym, ◌∙◌, ap, subst}
use Rattle.std.specs.Prelude.{IfOk}
use Rattle.std.proofs.lemmas.List.{length-map}
use Rattle.merkle_forest.specs.Forest.{Rule, forest_of}
use Rattle.merkle_forest.specs.Hashing.{Hash, leaf_string}
use Rattle.merkle_forest.specs.Nodes.{nodes_of_height}
use Rattle.merkle_proofs.specs.Extracted.{AreMadeOf, AreGiven, AreExtracted, extracted_nodes}
use Rattle.merkle_theory.specs.MadeRoots.{peaks_of}
use Rattle.merkle_theory.specs.MadeTrees.{from}
use Rattle.merkle_theory.specs.Ranges.{Digests}
use Rattle.state_proofs.specs.ProofsCode.{range_parts_of}
use Rattle.state_proofs.specs.RangeExtracted.{told_by}
use Rattle.state_theory.specs.Verified.{Shown, given_by, graftable_shown, RangeParts}
use Rattle.state_proofs.specs.ShownCode.{shown_of}
use Rattle.state_theory.specs.Verifier.{Given, grafted_node}
use Rattle.state_proofs_parts.specs.VerifierCode.{given_of}
use Rattle.state_proofs.proofs.RangeTold.{remade, remade_made, remade_given, told_as_shown}
use Rattle.state_proofs.proofs.proof.extracting.told_nodes.Goals as goal

if_ok : {A E : Type 0} (outcome : Result A E) (P Q : A → Type 0) → ((x : A) → P x → Q x) → IfOk outcome P → IfOk outcome Q
if_ok (Ok x) P Q then holds = then x holds
if_ok (Err e) P Q then holds = tt

pub returns : goal.returns
returns g c digest shows =
    let rule : Rule = g.F.Family.merge_rule in
    let pairs = g.met.F.Family.merges_equals in
    let hash : Hash = g.H.HashFunction.hash_of in
    let encoding = g.H.Digest.Write.encoding in
    let level : ℕ = c.args.shown.now.chunk_size.grafting_height in
    let proof : RangeParts = range_parts_of encoding g.F.PendingOf.held c.args.proof.now in
    let shown : Shown = shown_of c.args.shown.now in
    let given : Given = given_by level (graftable_shown rule level proof) shown in
    let start : ℕ = shown.start in
    let graftable : c.graftable_chunks_of-graftable.result ≡ graftable_shown rule level proof =
    c.graftable_chunks_of-graftable.ensures ∙ ap (λ n. nodes_of_height level (forest_of rule n)) c.as_u64-leaves.ensures in
    let same : given_of c.shown_hasher-verifier.result ≡ given = c.shown_hasher-verifier.ensures ∙ ap (λ n. given_by level n shown) graftable in
    let count : length c.args.shown.now.operations.now ≡ length shown.operations = sym
    (length-map c.args.shown.now.operations.now (λ operation. operation.now)) in
    let digests : map encoding c.deref.result.now ≡ proof.digests = ap (map encoding) c.deref.ensures.value in
    let again : Digests = remade rule pairs hash level proof shown c.requires.few digest in
    let Tells : Given → ℕ → ℕ → List (List ℕ) → Type 0 = λ x n leaves ds.
    AreMadeOf (λ p element. hash (leaf_string p element)) (grafted_node rule hash x) (from start shown.operations) start (start + n) again
    → AreGiven proof.inactive start (start + n) (peaks_of rule leaves) again ds
    → IfOk c.extract.result (λ found. AreExtracted encoding again (extracted_nodes proof.inactive start (start + n) (peaks_of rule leaves)) found.items) in
    let tells : Tells given (length shown.operations) proof.leaves proof.digests =
    subst (λ (ds : List (List ℕ)). Tells given (length shown.operations) proof.leaves ds) digests
    (subst (λ (leaves : ℕ). Tells given (length shown.operations) leaves (map encoding c.deref.result.now)) c.as_u64-leaves.ensures
    (subst (λ (n : ℕ). Tells given n c.as_u64-leaves.result (map encoding c.deref.result.now)) count
    (subst (λ (x : Given). Tells x (length c.args.shown.now.operations.now) c.as_u64-leaves.result (map encoding c.deref.result.now)) same
    (c.extract.ensures again)))) in
    if_ok c.extract.result (λ found. AreExtracted encoding again (told_by rule proof shown) found.items)
    (λ found. AreExtracted encoding digest (told_by rule proof shown) found.items)
    (λ found it. record {
      told = it.told;
      is = it.is ∙ told_as_shown rule pairs hash level proof shown c.requires.few digest shows.made;
      all = it.all;
      ascending = it.ascending;
    })
    (tells (remade_made rule pairs hash level proof shown c.requires.few digest)
    (remade_given rule pairs hash level proof shown c.requires.few digest shows.given))
