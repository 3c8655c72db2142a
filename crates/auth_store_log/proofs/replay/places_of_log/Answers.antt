use Rattle.std.proofs.Common.{rules, ◌≡◌, ◌∙◌, ◌++◌, ◌+◌, ◌-◌, ◌≤◌, ◌∷◌, [], ap, sym, subst, refl, arith, true, false}
use Rattle.std.proofs.Common.{take, drop, length, length-take, length-append, map, get_or, Bool, BTreeMap}
use Rattle.std.proofs.Common.{append_assoc, eq-eqb, List, ℕ}
use Rattle.std.specs.Bool.{◌==◌}
use Rattle.std.proofs.lemmas.Bool.{eqb-true}
use Rattle.std.proofs.lemmas.List.{take_rest, length-map}
use Rattle.state_ops.specs.Operation.{Operation, meaning_of, commit_floor}
use Rattle.auth_store_parts.specs.Map.{Map}
use Rattle.auth_store_parts.specs.History as spec
use Rattle.auth_store_parts.specs.Places.{placed, places_of}
use Rattle.auth_store_parts.specs.Chains.{first_of, first_after}
use Rattle.auth_store_parts.specs.Ranked.{AreNamed}
use Rattle.auth_store_parts.specs.Laws.Floors.{floor_rises}
use Rattle.auth_store_parts.specs.Laws.Logs.{history_of-log_of, IsState-latest_map, IsState-replayed}
use Rattle.auth_store_parts.specs.Laws.Places.{places_of-append}
use Rattle.auth_store_log.specs.Batches.{IsNextBatch}
use Rattle.auth_store_log.proofs.Batches.{IsReached, FollowsRule, cut_at, reached_first, reached_next, reached_end}
use Rattle.auth_store_log.proofs.Batches.{first_of_log, goes_on_from, so_far, rule_followed, rule_goes_on}
use Rattle.auth_store_log.proofs.Batches.{nothing_left, lengths, up_to, shorter, with_batch}
use Rattle.auth_store_log.proofs.NamedBatches.{named_front, named_batch}
use Rattle.auth_store_log.proofs.replay.places_of_log.Goals as goal

module _ {A : Type 0} (meaning : A → Operation) (all rest batch : List A) (floor : ℕ) (later : List Operation)
    (history : spec.History) (reached : IsReached history (map meaning all) (map meaning rest))
    (next : IsNextBatch (map meaning batch) floor later (map meaning rest)) where
  long : (length all ≡ length (spec.log_of history) + length rest) × (length batch ≤ length rest)
  long = lengths meaning all rest batch (spec.log_of history) (commit_floor next.metadata floor ∷ later) reached.whole next.whole

  passed : map meaning (take (length all - length rest + length batch) all) ≡ spec.log_of history ++ map meaning batch
  passed = up_to meaning all rest batch (spec.log_of history) (commit_floor next.metadata floor ∷ later) reached.whole next.whole

  -- the places of the log with the batch
  followed : (start : ℕ) (places after : Map) → start ≡ length all - length rest
      → places ≡ places_of (spec.log_of history) → after ≡ placed start places (map meaning batch)
      → after ≡ places_of (spec.log_of history ++ map meaning batch)
  followed start places after at are does =
      let log : List Operation = spec.log_of history in
      let start_is : start ≡ length log = omega (arith, at, long.0) in
      does ∙ ap (λ n. placed n places (map meaning batch)) start_is
      ∙ ap (λ p. placed (length log) p (map meaning batch)) are ∙ sym (places_of-append log (map meaning batch))

none_left : {A : Type 0} (xs : List A) → true ≡ (length xs == 0) → xs ≡ []
none_left [] e = refl
none_left (x ∷ xs) e = absurd (omega (arith, eqb-true (length (x ∷ xs)) 0 (sym e)))

-- the first operation and those behind it
front : {A : Type 0} (meaning : A → Operation) (all : List A) (first : A) → 1 ≤ length all → first ≡ get_or all 0 first
    → map meaning all ≡ meaning first ∷ map meaning (take (length all - 1) (drop 1 all))
front meaning all first some is =
    cut_at meaning all 0 first (omega (arith, some)) is ∙ ap (λ l. meaning first ∷ map meaning l) (sym (take_rest all 1))

pub returns-then-not-is_beginning : goal.returns-then-not-is_beginning
returns-then-not-is_beginning g c = λ is.
    let meaning = meaning_of g.K.Write.encoding g.V.Write.encoding in
    let all = c.args.operations.now in
    let split = front meaning all c.beginning-item.result c.in-len1-up.len_at_least c.beginning-item.is in
    let begun = first_of_log (meaning c.beginning-item.result) (map meaning (take (length all - 1) (drop 1 all)))
    (sym split ∙ is ∙ ap (λ s. spec.log_of (spec.history_of s)) split) in
    let yes : true ≡ false = sym (c.is_beginning.ensures.1 begun) ∙ c.if-not-is_beginning.true in
    absurd (cc)

pub loop-batch-init : goal.loop-batch-init
loop-batch-init g c =
    let meaning = meaning_of g.K.Write.encoding g.V.Write.encoding in
    let all = c.args.operations.now in
    let left : List Operation = map meaning (take (length all - 1) (drop 1 all)) in
    let split = front meaning all c.beginning-item.result c.in-len1-up.len_at_least c.beginning-item.is in (
      [],
      reached_first (map meaning all) left
          (split ∙ ap (λ o. o ∷ left) (c.is_beginning.ensures.0 c.if-not-is_beginning.false)),
      c.in_ok-ranked.ensures.none,
      omega arith,
      tt,
      c.in_ok-ranked.ensures.named,
      refl,
    )

pub overflow_sub-start : goal.overflow_sub-start
overflow_sub-start g c =
    let here = c.loop-batch.invariant in
    let both = long (meaning_of g.K.Write.encoding g.V.Write.encoding) c.args.operations.now c.loop-batch.rest.now
    c.in-Some.batch.now c.in-Some.recorded (spec.meanings g.K.Write.encoding g.V.Write.encoding c.in-Some.later.now) here.0
    here.1 c.in-Some.ensures in
    omega (arith, both)

pub follow_all-requires-clause-room : goal.follow_all-requires-clause-room
follow_all-requires-clause-room g c =
    let here = c.loop-batch.invariant in
    let both = long (meaning_of g.K.Write.encoding g.V.Write.encoding) c.args.operations.now c.loop-batch.rest.now
    c.in-Some.batch.now c.in-Some.recorded (spec.meanings g.K.Write.encoding g.V.Write.encoding c.in-Some.later.now) here.0
    here.1 c.in-Some.ensures in
    omega (arith, both)

pub overflow_add-start : goal.overflow_add-start
overflow_add-start g c =
    let here = c.loop-batch.invariant in
    let both = long (meaning_of g.K.Write.encoding g.V.Write.encoding) c.args.operations.now c.loop-batch.rest.now
    c.in-Some.batch.now c.in-Some.recorded (spec.meanings g.K.Write.encoding g.V.Write.encoding c.in-Some.later.now) here.0
    here.1 c.in-Some.ensures in
    omega (arith, both)

pub slice_bounds-inactivity_floor_by-end : goal.slice_bounds-inactivity_floor_by-end
slice_bounds-inactivity_floor_by-end g c =
    let here = c.loop-batch.invariant in
    let both = long (meaning_of g.K.Write.encoding g.V.Write.encoding) c.args.operations.now c.loop-batch.rest.now
    c.in-Some.batch.now c.in-Some.recorded (spec.meanings g.K.Write.encoding g.V.Write.encoding c.in-Some.later.now) here.0
    here.1 c.in-Some.ensures in
    omega (arith, both, length-take (length c.args.operations.now - length c.loop-batch.rest.now + length c.in-Some.batch.now) c.args.operations.now)

pub inactivity_floor_by-floor-requires-clause-start : goal.inactivity_floor_by-floor-requires-clause-start
inactivity_floor_by-floor-requires-clause-start g c =
    let key = g.K.Write.encoding in
    let value = g.V.Write.encoding in
    let here = c.loop-batch.invariant in
    let all = passed (meaning_of key value) c.args.operations.now c.loop-batch.rest.now c.in-Some.batch.now
    c.in-Some.recorded (spec.meanings key value c.in-Some.later.now) here.0 here.1 c.in-Some.ensures in
    omega (arith, here.3, floor_rises (spec.log_of here.0) (spec.meanings key value c.in-Some.batch.now), ap spec.inactivity_floor all)

pub inactivity_floor_by-floor-requires-clause-places : goal.inactivity_floor_by-floor-requires-clause-places
inactivity_floor_by-floor-requires-clause-places g c =
    let key = g.K.Write.encoding in
    let value = g.V.Write.encoding in
    let here = c.loop-batch.invariant in
    let all = passed (meaning_of key value) c.args.operations.now c.loop-batch.rest.now c.in-Some.batch.now
    c.in-Some.recorded (spec.meanings key value c.in-Some.later.now) here.0 here.1 c.in-Some.ensures in
    followed (meaning_of key value) c.args.operations.now c.loop-batch.rest.now c.in-Some.batch.now
    c.in-Some.recorded (spec.meanings key value c.in-Some.later.now) here.0 here.1 c.in-Some.ensures
    (length c.args.operations.now - length c.loop-batch.rest.now) c.loop-batch.ranked.places c.follow_all.new.self.places refl
    here.2 (ap (λ r. r.places) c.follow_all.ensures)
    ∙ ap places_of (sym all)

pub returns-then-floor-recorded : goal.returns-then-floor-recorded
returns-then-floor-recorded g c = λ is.
    let key = g.K.Write.encoding in
    let value = g.V.Write.encoding in
    let here = c.loop-batch.invariant in
    let batch : List Operation = spec.meanings key value c.in-Some.batch.now in
    let later : List Operation = spec.meanings key value c.in-Some.later.now in
    let left : List Operation = spec.meanings key value c.loop-batch.rest.now in
    let all = passed (meaning_of key value) c.args.operations.now c.loop-batch.rest.now c.in-Some.batch.now
    c.in-Some.recorded later here.0 here.1 c.in-Some.ensures in
    let follows = rule_followed c.one_commit_a_batch.ensures.operations here.0 batch c.in-Some.recorded later left c.in-Some.ensures
    (goes_on_from here.0 (spec.meanings key value c.args.operations.now) left here.1 is) in
    absurd (c.if-floor-recorded.true (c.inactivity_floor_by-floor.ensures ∙ ap spec.inactivity_floor all ∙ sym follows.recorded))

-- what was passed so far is the log of the history that is reached
module _ {A : Type 0} (meaning : A → Operation) (all rest : List A) (history : spec.History)
    (reached : IsReached history (map meaning all) (map meaning rest)) (states : spec.AreStates history) where
  front_is : map meaning (take (length all - length rest) all) ≡ spec.log_of history
  front_is = so_far meaning all rest (spec.log_of history) reached.whole

  history_is : spec.history_of (map meaning (take (length all - length rest) all)) ≡ history
  history_is = ap spec.history_of front_is ∙ history_of-log_of history states

pub slice_bounds-is_batch_behind-end : goal.slice_bounds-is_batch_behind-end
slice_bounds-is_batch_behind-end g c =
    omega (arith, length-take (length c.args.operations.now - length c.loop-batch.rest.now) c.args.operations.now)

pub is_batch_behind-requires-clause-first : goal.is_batch_behind-requires-clause-first
is_batch_behind-requires-clause-first g c =
    let meaning = meaning_of g.K.Write.encoding g.V.Write.encoding in
    let here = c.loop-batch.invariant in
    here.6 ∙ ap (λ log. first_of (places_of log))
    (sym (front_is meaning c.args.operations.now c.loop-batch.rest.now here.0 here.1 here.4))

pub is_batch_behind-requires-clause-room : goal.is_batch_behind-requires-clause-room
is_batch_behind-requires-clause-room g c =
    let here = c.loop-batch.invariant in
    let both = long (meaning_of g.K.Write.encoding g.V.Write.encoding) c.args.operations.now c.loop-batch.rest.now
    c.in-Some.batch.now c.in-Some.recorded (spec.meanings g.K.Write.encoding g.V.Write.encoding c.in-Some.later.now) here.0
    here.1 c.in-Some.ensures in
    omega (arith, both, length-take (length c.args.operations.now - length c.loop-batch.rest.now) c.args.operations.now)

pub is_batch_behind-requires-clause-named : goal.is_batch_behind-requires-clause-named
is_batch_behind-requires-clause-named g c =
    let key = g.K.Write.encoding in
    let value = g.V.Write.encoding in
    let here = c.loop-batch.invariant in
    let both = long (meaning_of key value) c.args.operations.now c.loop-batch.rest.now c.in-Some.batch.now c.in-Some.recorded
    (spec.meanings key value c.in-Some.later.now) here.0 here.1 c.in-Some.ensures in
    named_batch c.loop-batch.ranked.names (spec.meanings key value c.args.operations.now) (spec.log_of here.0)
    (spec.meanings key value c.in-Some.batch.now)
    (commit_floor c.in-Some.ensures.metadata c.in-Some.recorded ∷ spec.meanings key value c.in-Some.later.now) _ here.5
    (here.1.whole ∙ ap (λ l. spec.log_of here.0 ++ l) c.in-Some.ensures.whole)
    (omega (arith, both, length-take (length c.args.operations.now - length c.loop-batch.rest.now) c.args.operations.now))

pub follow_all-requires-clause-named : goal.follow_all-requires-clause-named
follow_all-requires-clause-named g c =
    let key = g.K.Write.encoding in
    let value = g.V.Write.encoding in
    let here = c.loop-batch.invariant in
    let both = long (meaning_of key value) c.args.operations.now c.loop-batch.rest.now c.in-Some.batch.now c.in-Some.recorded
    (spec.meanings key value c.in-Some.later.now) here.0 here.1 c.in-Some.ensures in
    named_batch c.loop-batch.ranked.names (spec.meanings key value c.args.operations.now) (spec.log_of here.0)
    (spec.meanings key value c.in-Some.batch.now)
    (commit_floor c.in-Some.ensures.metadata c.in-Some.recorded ∷ spec.meanings key value c.in-Some.later.now) _ here.5
    (here.1.whole ∙ ap (λ l. spec.log_of here.0 ++ l) c.in-Some.ensures.whole)
    (omega (arith, both))

pub inactivity_floor_by-floor-requires-clause-named : goal.inactivity_floor_by-floor-requires-clause-named
inactivity_floor_by-floor-requires-clause-named g c =
    let meaning = meaning_of g.K.Write.encoding g.V.Write.encoding in
    let here = c.loop-batch.invariant in
    named_front meaning c.follow_all.new.self.names
    (length c.args.operations.now - length c.loop-batch.rest.now + length c.in-Some.batch.now) c.args.operations.now
    (subst (λ n. AreNamed n 0 (map meaning c.args.operations.now)) (sym (ap (λ r. r.names) c.follow_all.ensures)) here.5)

pub is_batch_behind-requires-clause-whole : goal.is_batch_behind-requires-clause-whole
is_batch_behind-requires-clause-whole g c =
    let meaning = meaning_of g.K.Write.encoding g.V.Write.encoding in
    let here = c.loop-batch.invariant in
    front_is meaning c.args.operations.now c.loop-batch.rest.now here.0 here.1 here.4
    ∙ ap spec.log_of (sym (history_is meaning c.args.operations.now c.loop-batch.rest.now here.0 here.1 here.4))

pub is_batch_behind-requires-clause-places : goal.is_batch_behind-requires-clause-places
is_batch_behind-requires-clause-places g c =
    let meaning = meaning_of g.K.Write.encoding g.V.Write.encoding in
    let here = c.loop-batch.invariant in
    here.2 ∙ ap places_of (sym (front_is meaning c.args.operations.now c.loop-batch.rest.now here.0 here.1 here.4))

pub returns-then-not-branch : goal.returns-then-not-branch
returns-then-not-branch g c = λ is.
    let meaning = meaning_of g.K.Write.encoding g.V.Write.encoding in
    let here = c.loop-batch.invariant in
    let batch : List Operation = map meaning c.in-Some.batch.now in
    let later : List Operation = map meaning c.in-Some.later.now in
    let left : List Operation = map meaning c.loop-batch.rest.now in
    let follows = rule_followed c.one_commit_a_batch.ensures.operations here.0 batch c.in-Some.recorded later left c.in-Some.ensures
    (goes_on_from here.0 (map meaning c.args.operations.now) left here.1 is) in
    let leads = subst (λ h. batch ≡ spec.batch_operations (spec.latest_map h) (spec.replayed (spec.latest_map h) batch))
    (sym (history_is meaning c.args.operations.now c.loop-batch.rest.now here.0 here.1 here.4)) follows.changes in
    let yes : true ≡ false = sym (c.in_ok-is_batch_behind.ensures.1 leads) ∙ c.if-not-branch.true in
    absurd (cc)

pub loop-batch-smaller : goal.loop-batch-smaller
loop-batch-smaller g c =
    shorter (meaning_of g.K.Write.encoding g.V.Write.encoding) c.loop-batch.rest.now c.in-Some.later.now
    (spec.meanings g.K.Write.encoding g.V.Write.encoding c.in-Some.batch.now) c.in-Some.recorded c.in-Some.ensures

pub loop-batch-preserved : goal.loop-batch-preserved
loop-batch-preserved g c =
    let key = g.K.Write.encoding in
    let value = g.V.Write.encoding in
    let here = c.loop-batch.invariant in
    let batch : List Operation = spec.meanings key value c.in-Some.batch.now in
    let later : List Operation = spec.meanings key value c.in-Some.later.now in
    let left : List Operation = spec.meanings key value c.loop-batch.rest.now in
    let log : List Operation = spec.log_of here.0 in
    let said : List Operation = spec.meanings key value c.args.operations.now in
    let metadata = c.in-Some.ensures.metadata in
    let commit : Operation = commit_floor metadata c.in-Some.recorded in
    let next : spec.History = with_batch here.0 batch metadata in
    let all = passed (meaning_of key value) c.args.operations.now c.loop-batch.rest.now c.in-Some.batch.now
    c.in-Some.recorded later here.0 here.1 c.in-Some.ensures in
    let floor : c.inactivity_floor_by-floor.result ≡ spec.inactivity_floor (log ++ batch) =
    c.inactivity_floor_by-floor.ensures ∙ ap spec.inactivity_floor all in
    let same : c.inactivity_floor_by-floor.result ≡ c.in-Some.recorded = c.if-floor-recorded.false in
    let follows : FollowsRule log (spec.latest_map here.0) batch c.in-Some.recorded = record {
      changes = subst (λ h. batch ≡ spec.batch_operations (spec.latest_map h) (spec.replayed (spec.latest_map h) batch))
          (history_is (meaning_of key value) c.args.operations.now c.loop-batch.rest.now here.0 here.1 here.4)
          (c.in_ok-is_batch_behind.ensures.0 c.if-not-branch.false);
      recorded = sym same ∙ floor;
    } in
    let grown = rule_goes_on here.0 batch metadata c.in-Some.recorded follows in
    let longer : (log ++ batch) ++ commit ∷ [] ≡ spec.log_of next = append_assoc log batch (commit ∷ []) ∙ grown in (
      next,
      reached_next here.0 said left batch c.in-Some.recorded later here.1 c.in-Some.ensures follows,
      followed (meaning_of key value) c.args.operations.now c.loop-batch.rest.now c.in-Some.batch.now
          c.in-Some.recorded later here.0 here.1 c.in-Some.ensures
          (length c.args.operations.now - length c.loop-batch.rest.now) c.loop-batch.ranked.places
          c.follow_all.new.self.places refl here.2 (ap (λ r. r.places) c.follow_all.ensures)
          ∙ sym (places_of-append (log ++ batch) (commit ∷ [])) ∙ ap places_of longer,
      omega (arith, floor, floor_rises (log ++ batch) (commit ∷ []), ap spec.inactivity_floor longer),
      (IsState-replayed (spec.latest_map here.0) batch (IsState-latest_map here.0 here.4), here.4),
      subst (λ n. AreNamed n 0 said) (sym (ap (λ r. r.names) c.follow_all.ensures)) here.5,
      c.first_after-first.ensures ∙ ap (λ f. first_after f batch) here.6
          ∙ sym (c.first_after_a_batch.ensures log batch
          (ap spec.log_of (sym (history_of-log_of here.0 here.4)))
          (subst (λ h. batch ≡ spec.batch_operations (spec.latest_map h) (spec.replayed (spec.latest_map h) batch))
          (sym (history_of-log_of here.0 here.4)) follows.changes))
          ∙ ap first_of (sym (places_of-append (log ++ batch) (commit ∷ [])) ∙ ap places_of longer),
    )

pub returns-then-is_empty : goal.returns-then-is_empty
returns-then-is_empty g c =
    let key = g.K.Write.encoding in
    let value = g.V.Write.encoding in
    let here = c.loop-batch.invariant in
    let none : spec.meanings key value c.loop-batch.rest.now ≡ [] =
    ap (spec.meanings key value) (none_left c.loop-batch.rest.now (sym c.if-is_empty.true ∙ c.is_empty.ensures)) in
    let end = reached_end here.0 (spec.meanings key value c.args.operations.now) (spec.meanings key value c.loop-batch.rest.now)
    here.1 none in
    (end.1, c.in_ok-into_places.ensures ∙ here.2 ∙ ap places_of (sym end.0))

pub returns : goal.returns
returns g c = λ is.
    let meaning = meaning_of g.K.Write.encoding g.V.Write.encoding in
    let here = c.loop-batch.invariant in
    let rest = c.loop-batch.rest.now in
    let none = nothing_left here.0 (map meaning rest) c.in_default-next_batch.ensures
    (goes_on_from here.0 (map meaning c.args.operations.now) (map meaning rest) here.1 is) in
    let short : length rest ≡ 0 = omega (arith, ap length none, length-map rest meaning) in
    let yes : true ≡ false = sym (eq-eqb (length rest) 0 short) ∙ sym c.is_empty.ensures ∙ c.if-is_empty.false in
    absurd (cc)
