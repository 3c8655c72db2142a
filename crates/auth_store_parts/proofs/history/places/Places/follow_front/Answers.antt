use Rattle.std.proofs.Common.{◌≡◌, ◌≤◌, ◌∙◌, ◌∷◌, [], ap, sym, length, map, take, List, ℕ, arith}
use Rattle.std.proofs.lemmas.List.{length-map, length-take, take-map}
use Rattle.state_ops.specs.Operation.{Operation, meaning_of}
use Rattle.auth_store_parts.specs.Map.{Map, state_of}
use Rattle.auth_store_parts.specs.Places.{placed, located_keys, updates_in_front}
use Rattle.auth_store_parts.specs.Laws.Many.{with_all, state_of-appended}
use Rattle.auth_store_parts.proofs.Runs.{run-within, placed-run}
use Rattle.auth_store_parts.proofs.history.places.Places.follow_front.Goals as goal

-- the run is within the operations
within : {A : Type 0} (meaning : A → Operation) (xs : List A) (run : ℕ) → run ≡ updates_in_front (map meaning xs)
    → run ≤ length xs
within meaning xs run is = omega (arith, is, run-within (map meaning xs), length-map xs meaning)

taken_whole : {A : Type 0} (n : ℕ) (xs : List A) → n ≤ length xs → n ≡ length (take n xs)
taken_whole n xs le = omega (arith, length-take n xs)

run_taken : {A : Type 0} (meaning : A → Operation) (start : ℕ) (places : Map) (xs : List A) (run : ℕ)
    → run ≡ updates_in_front (map meaning xs)
    → with_all places (located_keys start (map meaning (take run xs))) ≡ placed start places (map meaning (take run xs))
run_taken meaning start places xs run is =
    let front : map meaning (take run xs) ≡ take (updates_in_front (map meaning xs)) (map meaning xs) =
    sym (take-map meaning run xs) ∙ ap (λ n. take n (map meaning xs)) is in
    ap (λ l. with_all places (located_keys start l)) front
    ∙ (sym (placed-run start places (map meaning xs)) ∙ ap (placed start places) (sym front))

pub slice_bounds-follow_each-end : goal.slice_bounds-follow_each-end
slice_bounds-follow_each-end g c =
    let fits = within (meaning_of g.K.Write.encoding g.V.Write.encoding) c.args.operations.now
    c.updates_in_front-run.result c.updates_in_front-run.ensures in
    taken_whole c.max-taken.result c.args.operations.now (omega (arith, fits))

pub returns-then-run-max-clause-taken : goal.returns-then-run-max-clause-taken
returns-then-run-max-clause-taken g c =
    let fits = within (meaning_of g.K.Write.encoding g.V.Write.encoding) c.args.operations.now
    c.updates_in_front-run.result c.updates_in_front-run.ensures in
    (omega arith, omega (arith, fits))

pub slice_bounds-located_keys-end : goal.slice_bounds-located_keys-end
slice_bounds-located_keys-end g c =
    let fits = within (meaning_of g.K.Write.encoding g.V.Write.encoding) c.args.operations.now
    c.updates_in_front-run.result c.updates_in_front-run.ensures in
    taken_whole c.updates_in_front-run.result c.args.operations.now fits

pub returns-clause-taken : goal.returns-clause-taken
returns-clause-taken g c =
    let fits = within (meaning_of g.K.Write.encoding g.V.Write.encoding) c.args.operations.now
    c.updates_in_front-run.result c.updates_in_front-run.ensures in
    (omega arith, fits)

pub returns-clause-placed : goal.returns-clause-placed
returns-clause-placed g c =
    let key = g.K.Write.encoding in
    let meaning = meaning_of key g.V.Write.encoding in
    let start = c.args.start in
    let xs = c.args.operations.now in
    let run = c.updates_in_front-run.result in
    let pairs = c.in_ok-keys.keys.items in
    state_of-appended key (λ n. n ∷ []) g.K.Ord.cmp g.met.K.FixedKey.in_order g.met.K.Ord.total pairs
    c.self.inside.locations c.in_ok-latest.latest c.append.new.self c.len.ensures.ordered c.in_ok-latest.ensures
    c.in_ok-append.ensures.inserts_all
    ∙ (ap (λ places. with_all places (state_of key (λ n. n ∷ []) pairs)) c.self.view_is
    ∙ (ap (with_all c.args.self.now) c.in_ok-keys.ensures
    ∙ run_taken meaning start c.args.self.now xs run c.updates_in_front-run.ensures))
