use Rattle.std.proofs.Common.{map, take, sym, ◌∙◌, ap}
use Rattle.std.proofs.lemmas.List.{take-map}
use Rattle.merkle_core_parts.specs.Mem.{Layer, Growth}
use Rattle.merkle_memory.proofs.batch.MerkleizedBatch.following.Goals as goal

pub returns : goal.returns
returns g c =
    sym (take-map (λ layer. layer.value) c.args.count c.deref.result.now)
    ∙ ap (λ xs. take c.args.count (map {B = Layer} (λ layer. layer.value) xs)) c.deref.ensures.value
    ∙ ap (λ (b : Growth). take c.args.count b.below) c.self.view_is
