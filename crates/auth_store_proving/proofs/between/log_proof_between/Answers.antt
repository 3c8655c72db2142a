use Rattle.std.proofs.Common.{◌≡◌, ℕ, ◌∙◌, ◌*◌, List, length, sym, ap, ap₂, arith}
use Rattle.std.proofs.lemmas.List.{length-map}
use Rattle.merkle_theory.specs.MadeRoots.{peaks_of}
use Rattle.merkle_forest.specs.Trees.{inactive_peaks}
use Rattle.state_ops.specs.Operation.{Operation, fixed_encoding}
use Rattle.state_theory.specs.Canonical.{Setting}
use Rattle.auth_store_client.specs.Proving.{log_digests, log_inactive}
use Rattle.state_current.specs.Kept.{Kept}
use Rattle.auth_store_ledger.specs.Store.{encodings, grafting_height, setting_of_width, state_of_log}
use Rattle.auth_store_proving.proofs.between.log_proof_between.Goals as goal

pub out_of_memory-requires : goal.out_of_memory-requires
out_of_memory-requires g c =
    let pruned = ap (λ (k : Kept). 8 * g.row.N * k.bits.pruned) c.parts.ensures.kept in
    let leaves = ap (λ (k : Kept). k.operations.leaves) c.parts.ensures.kept in
    c.in-Err.ensures.there (omega (arith, pruned, c.requires.kept, c.new.ensures))
    (omega (arith, c.requires.some, c.new.ensures, c.new-2.ensures))
    (omega (arith, leaves, c.requires.within, c.new-2.ensures))

pub returns-in-Ok : goal.returns-in-Ok
returns-in-Ok g c log of =
    let key : ℕ = g.K.FixedSize.SIZE in
    let value : ℕ = g.V.FixedSize.SIZE in
    let rule = g.F.Family.merge_rule in
    let setting : Setting = setting_of_width rule g.H.HashFunction.hash_of g.row.N in
    let keeps = c.parts.ensures.placed log of in
    let count : c.parts.result.1.now.operations.leaves ≡ length (encodings key value log) =
    keeps.current.leaves ∙ sym (length-map log (fixed_encoding key value)) in (
      c.in-Ok.ensures.leaves ∙ (count ∙ ap (λ (l : List Operation). length (encodings key value l)) keeps.whole),
      c.in-Ok.ensures.inactive ∙ (ap₂ (λ (f n : ℕ). inactive_peaks f (peaks_of rule n)) keeps.current.stands.floor count
          ∙ ap (λ (l : List Operation). log_inactive setting (state_of_log key value l)) keeps.whole),
      c.in-Ok.ensures.honest (grafting_height g.row.N) (state_of_log key value log) keeps.current.stands
          ∙ (ap₂ (λ (a b : ℕ). log_digests setting (state_of_log key value log) a b) c.new.ensures c.new-2.ensures
          ∙ ap (λ (l : List Operation). log_digests setting (state_of_log key value l) c.args.start c.args.stop) keeps.whole),
    )
