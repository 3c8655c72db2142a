use Rattle.std.proofs.Common.{◌≡◌, ◌∙◌, ◌+◌, ◌-◌, ◌++◌, ℕ, List, [], Bool, ap, sym, append-nil, arith}
use Rattle.rand_core.specs.Stream.{Stream}
use Rattle.fault_storage_parts.specs.Draws.{Rate, samples}
use Rattle.fault_storage_parts.specs.DrawsCode.{rate_of}
use Rattle.fault_storage_parts.proofs.DrawLemmas.{samples-noted, samples-zero}
use Rattle.fault_storage_parts.proofs.draws.note_samples.Goals as goal

pub loop-noted-preserved : goal.loop-noted-preserved
loop-noted-preserved g c = record {
  drawn = samples-noted (rate_of c.args.retention) (c.args.count - (c.loop-noted.noted + 1)) (c.args.count - c.loop-noted.noted)
      (g.R.Rng.stream c.loop-noted.rng) (g.R.Rng.stream c.sample-kept.new.rng) c.loop-noted.choice.items c.note.new.choice.items c.sample-kept.result
      (samples (rate_of c.args.retention) c.args.count (g.R.Rng.stream c.args.rng.now))
      (omega arith) c.sample-kept.ensures c.note.ensures.items c.loop-noted.invariant.drawn;
  len = omega arith;
  capacity = omega arith;
}

-- no sample is left to be taken
all_noted : (rate : Rate) (left : ℕ) (words : Stream) (noted : List Bool) (all : List Bool × Stream) → left ≡ 0
    → (noted ++ (samples rate left words).0 ≡ all.0) × ((samples rate left words).1 ≡ all.1) → ◌≡◌ {A = List Bool × Stream} (noted, words) all
all_noted rate left words noted all none so_far =
    let ends : samples rate left words ≡ ([], words) = ap (λ n. samples rate n words) none ∙ samples-zero rate words in
    let items : noted ≡ all.0 = sym (append-nil noted) ∙ sym (ap (λ s. noted ++ s.0) ends) ∙ so_far.0 in
    let words_left : words ≡ all.1 = sym (ap (λ s. s.1) ends) ∙ so_far.1 in
    ap (λ l. (l, words)) items ∙ ap (λ w. (all.0, w)) words_left

pub returns-clause-drawn : goal.returns-clause-drawn
returns-clause-drawn g c =
    all_noted (rate_of c.args.retention) (c.args.count - c.loop-noted.noted) (g.R.Rng.stream c.loop-noted.rng) c.loop-noted.choice.items
    (samples (rate_of c.args.retention) c.args.count (g.R.Rng.stream c.args.rng.now)) (omega arith) c.loop-noted.invariant.drawn
