use Rattle.std.proofs.Common.{rules, ◌≡◌, ℕ, List, Bool, sym, ◌∙◌, ap, subst}
use Rattle.std.specs.Prelude.{IfOk, IfErr}
use Rattle.merkle_theory.specs.Plans.{Asked, IsWithinTree, Lookup}
use Rattle.state_proofs.specs.Built.{IsRefusalOfPlanned, IsRefusalOfSource}
use Rattle.state_theory.specs.Sources.{IsSourceOf}
use Rattle.state_proofs.specs.BuiltCode.{measures_with, source_of, span_of}
use Rattle.state_theory.specs.Canonical.{Setting, setting_with}
use Rattle.state_theory.specs.Honest.{honest_range}
use Rattle.state_proofs.specs.ProofsCode.{range_parts_of}
use Rattle.state_proofs.specs.Required.{Measures}
use Rattle.state_proofs.proofs.BuiltLemmas.{planned, err_as}
use Rattle.state_proofs.proofs.proof.RangeProof.new.Goals as goal

pub returns-clause-honest : goal.returns-clause-honest
returns-clause-honest g c = λ height state whole is floor root.
    let setting : Setting = setting_with g.F.Family.merge_rule g.H.HashFunction.hash_of g.row.N height in
    let bits : List Bool = g.B.BitmapReadable.bits c.args.status.now in
    let pruned : ℕ = g.B.BitmapReadable.pruned c.args.status.now in
    let known : Lookup = g.S.Readable.digest_at c.args.storage.now in
    let span : Asked = span_of (g.S.Readable.leaf_total c.args.storage.now) c.args.range.start c.args.range.end in
    let plan_is : c.in-Ok.plan ≡ span =
    c.in-Ok.ensures.plan ∙ ap (λ n. span_of n c.args.range.start c.args.range.end) (c.new-leaves.ensures ∙ c.leaf_count.ensures.count) in
    subst (λ (s : Asked). IsSourceOf setting state (source_of s bits pruned known)
    → IfOk c.build.result (λ proof. range_parts_of g.D.Write.encoding g.F.PendingOf.held proof ≡ honest_range setting state s.start s.stop)) plan_is
    (λ it. c.build.ensures.honest height known state whole (search rules) it floor root) is

pub returns-clause-refused : goal.returns-clause-refused
returns-clause-refused g c = λ height whole.
    let measures : Measures = measures_with g.F.Family.merge_rule g.row.N height in
    let bits : List Bool = g.B.BitmapReadable.bits c.args.status.now in
    let pruned : ℕ = g.B.BitmapReadable.pruned c.args.status.now in
    let known : Lookup = g.S.Readable.digest_at c.args.storage.now in
    let span : Asked = span_of (g.S.Readable.leaf_total c.args.storage.now) c.args.range.start c.args.range.end in
    let plan_is : c.in-Ok.plan ≡ span =
    c.in-Ok.ensures.plan ∙ ap (λ n. span_of n c.args.range.start c.args.range.end) (c.new-leaves.ensures ∙ c.leaf_count.ensures.count) in
    subst (λ (s : Asked). IfErr c.build.result (IsRefusalOfPlanned measures (source_of s bits pruned known))) plan_is
    (err_as c.build.result (IsRefusalOfSource measures (source_of c.in-Ok.plan bits pruned known))
    (IsRefusalOfPlanned measures (source_of c.in-Ok.plan bits pruned known)) (c.build.ensures.refused height known whole (search rules))
    (λ e is. planned measures (source_of c.in-Ok.plan bits pruned known) e (subst IsWithinTree (sym c.in-Ok.ensures.plan) c.in-Ok.ensures.within) is))
