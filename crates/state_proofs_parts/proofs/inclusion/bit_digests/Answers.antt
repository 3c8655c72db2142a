use Rattle.std.proofs.Common.{◌++◌, ◌∷◌, [], List, ℕ, map, sym, ◌∙◌, ap, ap₂}
use Rattle.std.proofs.lemmas.List.{map-append}
use Rattle.state_theory.proofs.ReadLemmas.{put_last, put_full, put_partial}
use Rattle.state_proofs_parts.proofs.inclusion.bit_digests.Goals as goal

pub returns-then-chunk-as_u64-clause-of_list : goal.returns-then-chunk-as_u64-clause-of_list
returns-then-chunk-as_u64-clause-of_list g c node_of list are =
    let hash = g.H.Hasher.hash_of in
    let bagging = g.H.Hasher.bagging_of c.args.hasher.now in
    ap (map g.D.Write.encoding) (c.in_ok-push.ensures.items ∙ ap (λ ds. ds ++ c.tree_root.result ∷ []) c.new-digests.ensures.items)
    ∙ ap (λ (d : List ℕ). d ∷ []) (c.tree_root.ensures.of_list node_of list are)
    ∙ put_last hash node_of bagging g.row.N list c.args.bits.now c.args.chunk
    (c.if-chunk-as_u64.true ∙ c.as_u64.ensures ∙ c.leaves.ensures.leaves ∙ are.counted)

pub returns-then-is_chunk_aligned-clause-of_list : goal.returns-then-is_chunk_aligned-clause-of_list
returns-then-is_chunk_aligned-clause-of_list g c node_of list are =
    c.in_ok-digests.ensures.of_list node_of list are
    ∙ put_full g.H.Hasher.hash_of node_of (g.H.Hasher.bagging_of c.args.hasher.now) g.row.N list c.args.bits.now
    c.args.chunk (λ same. c.if-chunk-as_u64.false (same ∙ sym are.counted ∙ sym c.leaves.ensures.leaves ∙ sym c.as_u64.ensures))
    (c.is_chunk_aligned.ensures.0 c.if-is_chunk_aligned.true)

pub returns-clause-of_list : goal.returns-clause-of_list
returns-clause-of_list g c node_of list are =
    let hash = g.H.Hasher.hash_of in
    let encoding = g.D.Write.encoding in
    ap (map encoding) c.in_ok-push-2.ensures.items
    ∙ map-append encoding c.in_ok-digests.digests.items (c.digest.result ∷ [])
    ∙ ap₂ (λ (ds : List (List ℕ)) (d : List ℕ). ds ++ d ∷ []) (c.in_ok-digests.ensures.of_list node_of list are)
    (c.digest.ensures ∙ ap (λ (last : List ℕ × ℕ). hash last.0) c.last_chunk-last.ensures)
    ∙ put_partial hash node_of (g.H.Hasher.bagging_of c.args.hasher.now) g.row.N list c.args.bits.now c.args.chunk
    (λ same. c.if-chunk-as_u64.false (same ∙ sym are.counted ∙ sym c.leaves.ensures.leaves ∙ sym c.as_u64.ensures))
    (λ full. let clash = sym (c.is_chunk_aligned.ensures.1 full) ∙ c.if-is_chunk_aligned.false in absurd cc)
