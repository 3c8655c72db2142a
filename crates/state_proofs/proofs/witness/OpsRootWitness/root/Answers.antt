use Rattle.std.proofs.Common.{ℕ, List, ◌∙◌, ap}
use Rattle.std.specs.Prelude.{option_map}
use Rattle.state_theory.specs.Canonical.{canonical_string}
use Rattle.state_proofs.proofs.WitnessLemmas.{next_same}
use Rattle.state_proofs.proofs.witness.OpsRootWitness.root.Goals as goal

pub returns : goal.returns
returns g c =
    let encoding = g.D.Write.encoding in
    let hash = g.H.HashFunction.hash_of in
    let operations : List ℕ = encoding c.args.ops_root.now in
    let grafted : List ℕ = encoding c.args.self.now.grafted_root in
    c.seal.ensures
    ∙ ap (λ pending. hash (canonical_string operations grafted pending c.split_partial-next.result.0
    (option_map encoding c.split_partial-next.result.1))) c.digest_of-pending.ensures
    ∙ ap (λ partial. hash (canonical_string operations grafted (g.F.PendingOf.held c.args.self.now.pending_chunk_digest)
    c.split_partial-next.result.0 partial)) c.split_partial-next.ensures.digest
    ∙ ap hash (next_same encoding operations grafted (g.F.PendingOf.held c.args.self.now.pending_chunk_digest) c.split_partial-next.result.0
    c.args.self.now.partial_chunk c.split_partial-next.ensures.next)
