use Rattle.std.proofs.Common.{ℕ, subst}
use Rattle.std.specs.Prelude.{◌↔◌, Contains, IfOk, IfErr, OnOk}
use Rattle.state_proofs.specs.Required.{IsGranted, IsNeeded, IsRefusal, Asked, Measures}
use Rattle.state_proofs.specs.RequiredCode.{asked_of}
use Rattle.state_proofs.proofs.BuiltLemmas.{one_height, same_measures}
use Rattle.state_proofs.proofs.required.required_chunks.Goals as goal

pub returns-clause-needed : goal.returns-clause-needed
returns-clause-needed g c = λ height whole.
    let size = c.of_bytes-chunk_size.result in
    let asked : Asked = asked_of c.args.ops_leaves c.args.bitmap_len c.args.pruned_chunks c.args.location in
    let level = one_height g.row.N size.width size.grafting_height height c.of_bytes-chunk_size.ensures size.whole whole in
    let measures = same_measures g.F.Family.merge_rule size.width g.row.N size.grafting_height height c.of_bytes-chunk_size.ensures level in
    subst (λ (m : Measures). IfOk c.required_chunks_of.result (λ chunks. (index : ℕ) → Contains chunks index ↔ IsNeeded m asked index)) measures
    c.required_chunks_of.ensures.needed

pub returns-clause-granted : goal.returns-clause-granted
returns-clause-granted g c = λ height whole.
    let size = c.of_bytes-chunk_size.result in
    let asked : Asked = asked_of c.args.ops_leaves c.args.bitmap_len c.args.pruned_chunks c.args.location in
    let level = one_height g.row.N size.width size.grafting_height height c.of_bytes-chunk_size.ensures size.whole whole in
    let measures = same_measures g.F.Family.merge_rule size.width g.row.N size.grafting_height height c.of_bytes-chunk_size.ensures level in
    subst (λ (m : Measures). OnOk c.required_chunks_of.result (IsGranted m asked)) measures c.required_chunks_of.ensures.granted

pub returns-clause-refused : goal.returns-clause-refused
returns-clause-refused g c = λ height whole.
    let size = c.of_bytes-chunk_size.result in
    let asked : Asked = asked_of c.args.ops_leaves c.args.bitmap_len c.args.pruned_chunks c.args.location in
    let level = one_height g.row.N size.width size.grafting_height height c.of_bytes-chunk_size.ensures size.whole whole in
    let measures = same_measures g.F.Family.merge_rule size.width g.row.N size.grafting_height height c.of_bytes-chunk_size.ensures level in
    subst (λ (m : Measures). IfErr c.required_chunks_of.result (IsRefusal m asked)) measures c.required_chunks_of.ensures.refused
