use Rattle.std.proofs.Common.{◌≡◌, ◌<◌, ◌+◌, ◌*◌, refl, arith}
use Rattle.std.proofs.lemmas.Result.{err_from_is_err_and}
use Rattle.merkle_forest_parts.specs.Varint.{varint_at}
use Rattle.merkle_forest_parts.proofs.Varints.{at_first, group_fits, product_fits, sum_fits, weight_fits, next_power}
use Rattle.merkle_forest_parts.proofs.Varints.{encodes_on, encodes_last, encodes_tenth, at_end, is_long, is_last}
use Rattle.merkle_forest_parts.proofs.Varints.{goes_on, is_tenth, past_64_bits}
use Rattle.merkle_forest_parts.proofs.codec.varint.read_number.Goals as goal
use Rattle.merkle_forest_parts.proofs.codec.varint.read_number.Goals.{else-byte-eq0-via-then-byte-eq0+else-group-gt0, else-byte-eq0-via-else-byte-eq0}

pub loop-group-init : goal.loop-group-init
unfolding varint_at
loop-group-init c = record {
  weight = refl;
  small = omega arith;
  exact = refl;
  encoded = λ high tail h front. let value : 0 + 1 * high ≡ high = omega arith in rw value front;
}

pub returns-in_err-byte-clause-exact : goal.returns-in_err-byte-clause-exact
returns-in_err-byte-clause-exact c =
    let p = err_from_is_err_and c.from_residual.result c.from_residual.ensures.1 in
    rw (p.1, p.2, c.in_err-byte.ensures.err.0)
    (at_end c.loop-group.group _ _ _ _ _ c.in_err-byte.ensures.err.1 c.loop-group.invariant.exact)

pub returns-then-group-gt0-clause-exact : goal.returns-then-group-gt0-clause-exact
returns-then-group-gt0-clause-exact c =
    is_long c.loop-group.group _ _ _ _ _ _ _ c.if-group-gt0.true
    (omega arith) c.if-byte-eq0.true c.in_ok-byte.ensures.ok c.loop-group.invariant.exact

pub overflow_mul-number : goal.overflow_mul-number
overflow_mul-number c =
    let low : c.from.result < 128 = omega (arith, c.from.ensures) in
    product_fits c.loop-group.group c.loop-group.number _ _ c.loop-group.invariant.weight c.loop-group-test.true low
    c.loop-group.invariant.small

pub overflow_add-number : goal.overflow_add-number
overflow_add-number c =
    let low : c.from.result < 128 = omega (arith, c.from.ensures) in
    sum_fits c.loop-group.group _ _ _ c.loop-group.invariant.weight c.loop-group-test.true low
    c.loop-group.invariant.small

pub overflow_mul-weight : goal.overflow_mul-weight
overflow_mul-weight c = weight_fits _ _ c.loop-group.invariant.weight c.loop-group-test.true

pub returns-then-byte-lt128-clause-exact : goal.returns-then-byte-lt128-clause-exact
returns-then-byte-lt128-clause-exact c =
    let shortest : 0 < c.loop-group.group → 0 < c.in_ok-byte.byte = λ later. elim c.else-byte-eq0.branch [
      | else-byte-eq0-via-then-byte-eq0+else-group-gt0 w ↦ omega (arith, w.if-group-gt0.false)
      | else-byte-eq0-via-else-byte-eq0 w ↦ omega (arith, w.if-byte-eq0.false)
    ] in
    rw c.from.ensures (is_last c.loop-group.group _ _ _ _ _ c.in_ok-byte.byte _
    (at_first _ _ _ c.loop-group.invariant.weight c.loop-group.invariant.small) shortest
    (omega arith) c.if-byte-lt128.true c.in_ok-byte.ensures.ok c.loop-group.invariant.exact)

pub returns-then-byte-lt128-clause-encoded : goal.returns-then-byte-lt128-clause-encoded
returns-then-byte-lt128-clause-encoded c =
    let shortest : 0 < c.loop-group.group → 0 < c.in_ok-byte.byte = λ later. elim c.else-byte-eq0.branch [
      | else-byte-eq0-via-then-byte-eq0+else-group-gt0 w ↦ omega (arith, w.if-group-gt0.false)
      | else-byte-eq0-via-else-byte-eq0 w ↦ omega (arith, w.if-byte-eq0.false)
    ] in
    rw c.from.ensures (encodes_last c.loop-group.group _ _ c.in_ok-byte.byte _ _ _ c.if-byte-lt128.true shortest
    c.in_ok-byte.ensures.ok c.loop-group.invariant.encoded)

pub loop-group-preserved : goal.loop-group-preserved
loop-group-preserved c =
    let low : c.from.result < 128 = omega (arith, c.from.ensures) in
    let fits = group_fits c.loop-group.group c.loop-group.number c.loop-group.weight c.from.result
    c.loop-group.invariant.weight c.loop-group-test.true low c.loop-group.invariant.small in
    record {
      weight = next_power c.loop-group.group c.loop-group.weight c.loop-group.invariant.weight;
      small = fits.0;
      exact = rw c.from.ensures (goes_on c.loop-group.group _ _ 9 _ _ c.in_ok-byte.byte _
          (at_first _ _ _ c.loop-group.invariant.weight c.loop-group.invariant.small) c.loop-group-test.true
          c.if-byte-lt128.false (omega arith) c.in_ok-byte.ensures.ok c.loop-group.invariant.exact);
      encoded = rw c.from.ensures (encodes_on c.loop-group.group _ _ c.in_ok-byte.byte _ _ _ c.if-byte-lt128.false
          (omega arith) c.in_ok-byte.ensures.ok c.loop-group.invariant.encoded);
    }

pub returns-in_err-next_byte-clause-exact : goal.returns-in_err-next_byte-clause-exact
returns-in_err-next_byte-clause-exact c =
    let p = err_from_is_err_and c.from_residual-in_err-next_byte.result c.from_residual-in_err-next_byte.ensures.1 in
    rw (p.1, p.2, c.in_err-next_byte.ensures.err.0)
    (at_end c.loop-group.group _ _ _ _ _ c.in_err-next_byte.ensures.err.1 c.loop-group.invariant.exact)

pub returns-then-branch-ne1-clause-exact : goal.returns-then-branch-ne1-clause-exact
returns-then-branch-ne1-clause-exact c =
    past_64_bits c.loop-group.group _ _ _ _ _ _ c.loop-group-test.false c.loop-group.auto.group-end
    c.if-branch-ne1.true c.in_ok-next_byte.ensures.ok c.loop-group.invariant.exact

pub returns-clause-exact : goal.returns-clause-exact
returns-clause-exact c =
    is_tenth c.loop-group.group _ _ _ _ _ _ c.loop-group-test.false c.loop-group.auto.group-end c.if-branch-ne1.false
    c.in_ok-next_byte.ensures.ok c.loop-group.invariant.exact

pub returns-clause-encoded : goal.returns-clause-encoded
returns-clause-encoded c =
    encodes_tenth c.loop-group.group _ _ _ _ _ _ c.if-branch-ne1.false c.in_ok-next_byte.ensures.ok
    c.loop-group.invariant.encoded
