use Rattle.std.proofs.Common.{◌≡◌, ◌∙◌, ◌+◌, ◌∷◌, [], Some, length, map, option_map, slice_get, ap, sym, refl, subst}
use Rattle.std.proofs.lemmas.Option.{slice_get_read, slice_get-map}
use Rattle.state_ops.specs.Operation.{meaning_of}
use Rattle.auth_store_parts.specs.Ranked.{AreNamed}
use Rattle.auth_store_parts.proofs.Named.{named_one}
use Rattle.auth_store_parts.proofs.history.ranked.RankedPlaces.follow_all.Goals as goal

pub follow-requires : goal.follow-requires
follow-requires g c =
    let meaning = meaning_of g.K.Write.encoding g.V.Write.encoding in
    let operations = c.args.operations.now in
    let index = c.loop-index.index in
    let operation = c.index-operations-index.result in
    let at : slice_get (map meaning operations) index ≡ Some (meaning operation) =
    slice_get-map meaning operations index
    ∙ ap (option_map meaning) (slice_get_read operations (length operations) index operation refl
    c.loop-index-test.true c.index-operations-index.is) in
    subst (λ names. AreNamed names (c.args.start + index) (meaning operation ∷ [])) (sym c.loop-index.invariant.names)
    (named_one c.args.self.now.names c.args.start index (map meaning operations) (meaning operation) c.requires.named at)
