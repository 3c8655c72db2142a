use Rattle.std.proofs.Common.{◌≡◌, ◌+◌, ◌*◌, ◌^◌, ◌<◌, SomeIff, sym, ◌∙◌, ap, subst, arith}
use Rattle.std.proofs.lemmas.Option.{IfSome_then}
use Rattle.merkle_forest.specs.Laws.Varint.{varint_at_most}
use Rattle.merkle_theory.specs.Proofs.{greatest_length}
use Rattle.merkle_theory.proofs.Lengths.{at_most, greatest_leaves, greatest_peaks, reached, told_fits, told_value}
use Rattle.merkle_proofs.proofs.proof.Proof.max_encode_size.Given.{Over}
use Rattle.merkle_proofs.proofs.proof.Proof.max_encode_size.Goals as goal
use Rattle.merkle_proofs.proofs.proof.Proof.max_encode_size.Goals.{After-checked_add}

pub overflow_add-numbers : goal.overflow_add-numbers
overflow_add-numbers g c =
    omega (arith, c.number_size.ensures, c.number_size-2.ensures, greatest_leaves, greatest_peaks)

pub overflow_add-numbers-2 : goal.overflow_add-numbers-2
overflow_add-numbers-2 g c =
    omega (
      arith,
      c.number_size.ensures,
      c.number_size-2.ensures,
      c.number_size-3.ensures,
      greatest_leaves,
      greatest_peaks,
      varint_at_most c.args.max_digests c.ranges.max_digests.fits,
    )

-- the sum is the greatest length
whole : (g : Over) (c : After-checked_add g)
    → c.in_ok-checked_mul.field-0 + (c.number_size.result + c.number_size-2.result + c.number_size-3.result)
    ≡ greatest_length g.D.FixedSize.SIZE c.args.max_digests
whole g c =
    omega (
      arith,
      c.in_ok-checked_mul.ensures.1,
      ap (λ n. c.args.max_digests * n) c.SIZE.ensures,
      c.number_size.ensures,
      c.number_size-2.ensures,
      c.number_size-3.ensures,
      greatest_leaves,
      greatest_peaks,
    )

told : (g : Over) (c : After-checked_add g)
    → SomeIff c.checked_add.result (greatest_length g.D.FixedSize.SIZE c.args.max_digests < 2 ^ 64)
    (greatest_length g.D.FixedSize.SIZE c.args.max_digests)
told g c = subst (λ n. SomeIff c.checked_add.result (n < 2 ^ 64) n) (whole g c) c.checked_add.ensures

pub returns-clause-fits : goal.returns-clause-fits
returns-clause-fits g c =
    told_fits c.checked_add.result (greatest_length g.D.FixedSize.SIZE c.args.max_digests) (told g c)

pub returns-clause-value : goal.returns-clause-value
returns-clause-value g c =
    told_value c.checked_add.result (greatest_length g.D.FixedSize.SIZE c.args.max_digests) (told g c)

pub returns-clause-enough : goal.returns-clause-enough
returns-clause-enough g c leaves inactive digests few small least values =
    IfSome_then c.checked_add.result (returns-clause-value g c) (λ most is. omega (
      arith,
      is,
      at_most g.D.Write.encoding g.D.Write.is_value g.D.FixedSize.SIZE c.args.max_digests leaves inactive digests
          g.met.D.FixedSize.sized few small least values,
    ))

pub returns-clause-reached : goal.returns-clause-reached
returns-clause-reached g c =
    IfSome_then c.checked_add.result (returns-clause-value g c)
    (λ most is. reached g.D.FixedSize.SIZE c.args.max_digests ∙ sym is)
