use Rattle.std.proofs.Common.{◌≡◌, ◌*◌, ◌^◌, ◌∙◌, sym, ap, arith, subst}
use Rattle.merkle_forest.specs.Nodes.{IsBirth, IsFirstLeaf}
use Rattle.merkle_forest.specs.Laws.Nodes.{node-low, birth-at}
use Rattle.merkle_forest.proofs.graftable.Graftable.peak_birth_size.Goals as goal

pub birth-requires-clause-start : goal.birth-requires-clause-start
birth-requires-clause-start g c =
    let stands = c.requires in
    let low = node-low g.Self.Family.merge_rule g.met.Self.Family.merges_equals stands.0 stands.2.0 c.args.height
    stands.2.1 stands.1 stands.2.2 stands.2.4 in
    let at : c.first_leaf.result ≡ stands.2.0 =
    c.first_leaf.ensures stands.0 stands.2.0 stands.2.1 stands.1 stands.2.2 (c.as_u64.ensures
    ∙ stands.2.3) stands.2.4 in
    omega (arith, low.0, at)

pub birth-requires-clause-low : goal.birth-requires-clause-low
birth-requires-clause-low g c =
    let stands = c.requires in
    (node-low g.Self.Family.merge_rule g.met.Self.Family.merges_equals stands.0 stands.2.0 c.args.height stands.2.1
    stands.1 stands.2.2 stands.2.4).1

pub returns : goal.returns
returns g c =
    let rule = g.Self.Family.merge_rule in
    let height = c.args.height in
    let first = c.first_leaf.result in
    let is_first : IsFirstLeaf rule c.args.position height first =
    λ n start node few stands at_position high. c.first_leaf.ensures n start node few stands (c.as_u64.ensures
    ∙ at_position) high in
    birth-at rule g.Self.Graftable.root_of c.args.position height first c.birth.result g.met.Self.Graftable.aligned
    g.met.Self.Graftable.roots
    (λ chunk at. let same : g.Self.Graftable.birth_of (chunk * 2 ^ height) height ≡ c.birth.result =
    ap (λ k. g.Self.Graftable.birth_of k height) (sym at) ∙ sym c.birth.ensures in
    subst (λ k. IsBirth rule k height c.birth.result) (sym at)
    (subst (IsBirth rule (chunk * 2 ^ height) height) same (g.met.Self.Graftable.births chunk height)))
    c.requires is_first
