use Rattle.std.proofs.Common.{◌≡◌, ◌∙◌, ◌∷◌, ◌+◌, ◌-◌, ◌≤◌, Bool, false}
use Rattle.std.proofs.Common.{ap, sym, subst, take, drop, map, length, option_map, arith, List, ℕ}
use Rattle.std.specs.Bool.{Decides}
use Rattle.std.proofs.lemmas.List.{drop_all, length-map, drop-map, take-map}
use Rattle.state_ops.specs.Operation.{Operation, meaning_of}
use Rattle.auth_store_parts.specs.Map.{Map}
use Rattle.auth_store_parts.specs.Chains as chains
use Rattle.auth_store_parts.specs.Chains.{Pointer}
use Rattle.auth_store_parts.specs.History as spec
use Rattle.auth_store_parts.proofs.ChainCode.{left_at, walk_no_update, deletes-within, none_case, some_case}
use Rattle.auth_store_parts.proofs.Chained.{decides_behind}
use Rattle.auth_store_parts.proofs.Firsts.{entry_counts}
use Rattle.auth_store_parts.specs.Ranked.{named, AreNamed}
use Rattle.auth_store_parts.proofs.NamedParts.{named_here, named_behind, named_front}
use Rattle.auth_store_parts.proofs.history.chain.is_behind.Goals.{At-loop-at, In-Update, After-update_of-before}
use Rattle.auth_store_parts.proofs.history.chain.is_behind.Goals as goal

-- where the loop stands
module _ (g : _) (c : At-loop-at g) where
  abbrev log : List Operation
  log = spec.meanings g.K.Write.encoding g.V.Write.encoding c.args.log.now

  abbrev said : List Operation
  said = spec.meanings g.K.Write.encoding g.V.Write.encoding c.args.batch.now

  abbrev old : Map
  old = spec.latest_map (spec.history_of log)

  abbrev first_old : Pointer
  first_old = chains.pointer g.K.Write.encoding c.args.first

  abbrev first_new : Pointer
  first_new = chains.pointer g.K.Write.encoding c.first_after-first_new.result

  abbrev p : Pointer
  p = chains.pointer g.K.Write.encoding c.loop-at.pointers.0

  abbrev q : Pointer
  q = chains.pointer g.K.Write.encoding c.loop-at.pointers.1

  abbrev deletes : List Operation
  deletes = spec.meanings g.K.Write.encoding g.V.Write.encoding c.loop-at.deletes.now

  abbrev updates : ℕ → List Operation
  updates at = spec.meanings g.K.Write.encoding g.V.Write.encoding (drop at c.split_at.result.1.now)

  -- the walk over these updates, from there on
  abbrev walk : List Operation → Bool
  walk updates = chains.walk old first_old first_new updates deletes p q

  decided : (passes : Bool) → passes ≡ walk (updates c.loop-at.at) → Decides passes (said ≡ spec.batch_operations old (spec.replayed old said))
  decided passes is =
      decides_behind log said c.requires.whole c.args.ranked.now.places c.requires.places first_old first_new
      (c.requires.first ∙ ap chains.first_of (sym c.requires.places)) c.first_after-first_new.ensures passes (is ∙ c.loop-at.invariant.goes)

-- at an update
module _ (g : _) (c : In-Update g) where
  abbrev at : At-loop-at g
  at = c.before.before.before

  abbrev k : List ℕ
  k = g.K.Write.encoding c.in-Update.update.key

  abbrev v : List ℕ
  v = g.V.Write.encoding c.in-Update.update.value

  abbrev n : List ℕ
  n = g.K.Write.encoding c.in-Update.update.next_key

  abbrev go : List Operation → Pointer → Pointer → Bool
  go = chains.walk (old g at) (first_old g at) (first_new g at) (updates g at (c.loop-at.at + 1))

  starts : walk g at (updates g at c.loop-at.at) ≡ chains.up_to_update (old g at) (first_new g at) k v n go (deletes g at) (p g at) (q g at)
  starts =
      let meaning = meaning_of g.K.Write.encoding g.V.Write.encoding in
      ap (walk g at) (left_at meaning c.split_at.result.1.now c.loop-at.at c.index-updates-at.result c.loop-at-test.true c.index-updates-at.is
      ∙ ap (λ o. meaning o ∷ updates g at (c.loop-at.at + 1)) c.in-Update.is)

-- behind the deletes below it
module _ (g : _) (c : After-update_of-before g) where
  abbrev up : In-Update g
  up = c.before.before.before

  abbrev further : Pointer → Pointer → Bool
  further = go g up (spec.meanings g.K.Write.encoding g.V.Write.encoding c.in-Some.left.now)

  abbrev passes : Bool
  passes = chains.over_update (first_new g (at g up))
      (option_map (λ u. (g.V.Write.encoding u.now.value, g.K.Write.encoding u.now.next_key)) c.update_of-before.result)
      (k g up) (v g up) (n g up) further (chains.pointer g.K.Write.encoding c.in-Some.below.0) (chains.pointer g.K.Write.encoding c.in-Some.below.1)

  reached : walk g (at g up) (updates g (at g up) c.loop-at.at) ≡ passes
  reached =
      let meaning = meaning_of g.K.Write.encoding g.V.Write.encoding in
      let start = length c.args.log.now in
      let named_updates = named_behind meaning c.args.ranked.now.names start c.deletes_in_front.result
      (start + length c.split_at.result.0.now) c.args.batch.now c.split_at.result.1.now c.requires.named
      c.split_at.ensures.back (ap (λ m. start + m) c.split_at.ensures.front_len) in
      let here = named_here meaning c.args.ranked.now.names (start + length c.split_at.result.0.now) c.loop-at.at
      c.split_at.result.1.now c.index-updates-at.result (k g up) named_updates c.loop-at-test.true c.index-updates-at.is
      (ap (λ o. named (meaning o)) c.in-Update.is) in
      starts g up ∙ c.in-Some.ensures.up (first_new g (at g up)) (v g up) (n g up) (go g up)
      ∙ ap (λ e. chains.over_update (first_new g (at g up)) e (k g up) (v g up) (n g up) further
      (chains.pointer g.K.Write.encoding c.in-Some.below.0) (chains.pointer g.K.Write.encoding c.in-Some.below.1))
      (sym (c.update_of-before.ensures (k g up) here ∙ entry_counts (log g (at g up)) c.requires.whole (k g up)))

pub split_at-requires : goal.split_at-requires
split_at-requires g c =
    let meaning = meaning_of g.K.Write.encoding g.V.Write.encoding in
    omega (arith, c.deletes_in_front.ensures, deletes-within (map meaning c.args.batch.now), length-map c.args.batch.now meaning)

pub loop-at-init : goal.loop-at-init
loop-at-init g c =
    let key = g.K.Write.encoding in
    let meaning = meaning_of key g.V.Write.encoding in
    let batch = c.args.batch.now in
    let n = c.deletes_in_front.result in
    let said : List Operation = map meaning batch in
    let old : Map = spec.latest_map (spec.history_of (map meaning c.args.log.now)) in
    let first_old : Pointer = option_map (λ k. key k.now) c.args.first in
    let first_new : Pointer = option_map (λ k. key k.now) c.first_after-first_new.result in
    let gone = map meaning c.split_at.result.0.now in
    let came = ap (map meaning) c.split_at.ensures.back ∙ sym (drop-map meaning n batch)
    ∙ ap (λ m. drop m said) c.deletes_in_front.ensures in
    let went = ap (map meaning) c.split_at.ensures.front ∙ sym (take-map meaning n batch)
    ∙ ap (λ m. take m said) c.deletes_in_front.ensures in
    record {
      goes = ap (λ l. chains.walk old first_old first_new l gone first_old first_new) came
          ∙ ap (λ l. chains.walk old first_old first_new (drop (chains.deletes_in_front said) said) l first_old first_new) went;
      fits = omega arith;
      named = named_front meaning c.args.ranked.now.names (length c.args.log.now) n
          (length c.args.log.now + length c.split_at.result.0.now - length c.split_at.result.0.now) batch
          c.split_at.result.0.now c.requires.named c.split_at.ensures.front (omega arith);
    }

pub returns-in_default : goal.returns-in_default
returns-in_default g c =
    let at = (goal.at.returns-in_default g c).At-loop-at in
    let split = left_at (meaning_of g.K.Write.encoding g.V.Write.encoding) c.split_at.result.1.now c.loop-at.at c.index-updates-at.result
    c.loop-at-test.true c.index-updates-at.is in
    decided g at false (sym (ap (walk g at) split
    ∙ walk_no_update g.K.Write.encoding g.V.Write.encoding (old g at) (first_old g at) (first_new g at) (p g at) (q g at)
    (updates g at (c.loop-at.at + 1)) (deletes g at) c.index-updates-at.result c.in_default.not-Update))

pub returns-in_default-over_deletes_below : goal.returns-in_default-over_deletes_below
returns-in_default-over_deletes_below g c =
    let at = (goal.at.returns-in_default-over_deletes_below g c).At-loop-at in
    let up = (goal.at.returns-in_default-over_deletes_below g c).In-Update in
    decided g at false (sym (starts g up ∙ c.in_default-over_deletes_below.ensures.up (first_new g at) (v g up) (n g up) (go g up)))

pub returns-in_default-2 : goal.returns-in_default-2
returns-in_default-2 g c =
    let here = (goal.at.returns-in_default-2 g c).After-update_of-before in
    decided g (goal.at.returns-in_default-2 g c).At-loop-at false (sym (reached g here
    ∙ none_case _ _ c.in_ok-passed.field-0 c.in_ok-passed.ensures c.in_default-2.is (further g here)))

pub loop-at-preserved : goal.loop-at-preserved
loop-at-preserved g c =
    let here = (goal.at.loop-at-preserved g c).After-update_of-before in
    let next : (n d l : ℕ) → d ≤ n → n - d + d - l ≡ n - l = λ n d l fits. omega (arith, fits) in
    record {
      goes = sym (reached g here
          ∙ some_case _ _ c.in_ok-passed.field-0 c.in-Some-2.passed c.in_ok-passed.ensures c.in-Some-2.is (further g here))
          ∙ c.loop-at.invariant.goes;
      fits = omega (arith, c.in-Some.ensures.left.0, c.loop-at.invariant.fits);
      named = subst (λ n. AreNamed c.args.ranked.now.names n (map (meaning_of g.K.Write.encoding g.V.Write.encoding) c.in-Some.left.now))
          (next (length c.args.log.now + length c.split_at.result.0.now) (length c.loop-at.deletes.now)
          (length c.in-Some.left.now) c.loop-at.invariant.fits)
          c.in-Some.ensures.left.1;
    }

pub returns-in-None : goal.returns-in-None
returns-in-None g c =
    let at = (goal.at.returns-in-None g c).At-loop-at in
    decided g at false (sym (ap (λ l. walk g at (spec.meanings g.K.Write.encoding g.V.Write.encoding l))
    (drop_all c.loop-at.at c.split_at.result.1.now c.loop-at-test.false)
    ∙ c.in-None.ensures (first_old g at) (first_new g at)))

pub returns-in-Some-over_deletes : goal.returns-in-Some-over_deletes
returns-in-Some-over_deletes g c =
    let at = (goal.at.returns-in-Some-over_deletes g c).At-loop-at in
    decided g at c.is_end.result (c.is_end.ensures
    ∙ sym (ap (λ l. walk g at (spec.meanings g.K.Write.encoding g.V.Write.encoding l))
    (drop_all c.loop-at.at c.split_at.result.1.now c.loop-at-test.false)
    ∙ c.in-Some-over_deletes.ensures (first_old g at) (first_new g at)))
